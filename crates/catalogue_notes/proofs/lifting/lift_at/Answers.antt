use Rattle.std.proofs.Common.{ap, reverse, ◌∙◌}
use Rattle.std.specs.Prelude.{option_and_then}
use Rattle.replica_core.proofs.WalkLemmas.{read_at}
use Rattle.catalogue_notes.specs.Lift.{is_section}
use Rattle.catalogue_notes.specs.Lifting.{lift_by}
use Rattle.catalogue_notes.proofs.LiftingLemmas.{nothing_lifted}
use Rattle.catalogue_notes.proofs.lifting.lift_at.Goals as goal

pub returns-in-Some : goal.returns-in-Some
returns-in-Some c =
    let h = c.args.replica.now.held.history in
    let ns = c.args.list.now.nodes in
    c.lift_of.ensures ∙ ap (option_and_then (lift_by (is_section h) ns)) c.in-Some.ensures.found
    ∙ read_at (lift_by (is_section h) ns) (nothing_lifted (is_section h) ns) (reverse h) c.args.at

pub returns-in-None : goal.returns-in-None
returns-in-None c =
    let h = c.args.replica.now.held.history in
    let ns = c.args.list.now.nodes in
    ap (option_and_then (lift_by (is_section h) ns)) c.in-None.ensures.found ∙ read_at (lift_by (is_section h) ns) (nothing_lifted (is_section h) ns) (reverse h) c.args.at
