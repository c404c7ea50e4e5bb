use Rattle.std.proofs.Common.{ap, reverse, ◌∙◌}
use Rattle.std.specs.Prelude.{option_and_then}
use Rattle.replica_core.proofs.WalkLemmas.{found_there, read_at}
use Rattle.margin_notes.specs.Placing.{placed_in}
use Rattle.margin_notes.proofs.EntryLemmas.{no_place}
use Rattle.margin_notes.proofs.placing.place_at.Goals as goal

pub place_of-requires : goal.place_of-requires
place_of-requires c = found_there (reverse c.args.replica.now.held.history) c.args.at c.in-Some.op.now c.in-Some.ensures.found

pub returns-in-Some : goal.returns-in-Some
returns-in-Some c =
    let h = c.args.replica.now.held.history in
    c.place_of.ensures ∙ ap (option_and_then (placed_in h)) c.in-Some.ensures.found ∙ read_at (placed_in h) (no_place h) (reverse h) c.args.at

pub returns-in-None : goal.returns-in-None
returns-in-None c =
    let h = c.args.replica.now.held.history in
    ap (option_and_then (placed_in h)) c.in-None.ensures.found ∙ read_at (placed_in h) (no_place h) (reverse h) c.args.at
