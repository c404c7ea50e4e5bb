use Rattle.manuscript_cli.proofs.DraftSizeLemmas.{is_over, is_within}
use Rattle.manuscript_cli.proofs.draft_size.is_too_large.Goals as goal

pub returns-then-letters-room : goal.returns-then-letters-room
returns-then-letters-room c =
    is_over c.args.parts.now c.parts.part-index _ c.parts.room c.letter_count-letters.result c.parts-test.true c.parts.invariant c.letter_count-letters.ensures
    c.if-letters-room.true

pub returns : goal.returns
returns c = is_within c.args.parts.now c.parts.part-index c.parts.room c.parts-test.false c.parts.invariant
