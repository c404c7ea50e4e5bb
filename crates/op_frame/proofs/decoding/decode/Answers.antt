use Rattle.origin_model.specs.declared.grammar.Grammar.TheVariants.{Version2}
use Rattle.op_frame.proofs.DecodingLemmas.{own_fields}
use Rattle.op_frame.proofs.DueLemmas.{note_due, section_due}
use Rattle.op_frame.proofs.LetterLemmas.{letter_there}
use Rattle.op_frame.proofs.decoding.decode.Goals as goal

pub section-requires : goal.section-requires
section-requires c = own_fields 1 _ c.args.frame.now (section_due Version2) c.requires c.if-kind-eq-SECTION.true

pub note-requires : goal.note-requires
note-requires c = own_fields 5 _ c.args.frame.now note_due c.requires c.if-kind-eq-NOTE.true

pub unreachable-requires : goal.unreachable-requires
unreachable-requires c = c.in_default.ensures.none (letter_there c.args.frame.now c.requires c.if-kind-eq-SECTION.false c.if-kind-eq-NOTE.false)
