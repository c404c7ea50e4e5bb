use Rattle.std.proofs.Common.{ap, ◌-◌}
use Rattle.fugue_ids.specs.Identifiers.{Identifier}
use Rattle.fugue_ids.specs.Runs.{id_after}
use Rattle.stretch_map.proofs.ResultLemmas.{ok_gives}
use Rattle.section_catalogue.proofs.HomeLemmas.{can_forget, forgot}
use Rattle.section_catalogue.proofs.homes.forget_homes.Goals as goal

pub forgotten-preserved : goal.forgotten-preserved
forgotten-preserved c =
    let now = c.forgotten.homes in
    let at = ap (λ (x : Identifier). id_after x (c.forgotten.left - 1)) c.first.view_is in
    let sure = can_forget c.args.homes.now now c.args.first c.args.count c.forgotten.left c.forgotten-test.true c.forgotten.invariant _ at in
    let gone = ok_gives _ c.remove-gone.result (c.remove-gone.ensures.sure sure) c.remove-gone.ensures.ok in
    forgot c.args.homes.now now c.remove-gone.new.self c.args.first c.args.count c.forgotten.left c.forgotten-test.true c.forgotten.invariant _ at (ap (λ m. m.values) gone)
