use Rattle.std.proofs.Common.{Some, subst, sym}
use Rattle.fugue_ids.specs.Keys.{ids}
use Rattle.fugue_ids.specs.Listed.{HoldsOrigin}
use Rattle.fugue_ids.proofs.LowLemmas.{first_low_held}
use Rattle.sided_tree.proofs.gaps.block_end.Goals as goal

pub before-requires : goal.before-requires
before-requires g c =
    let es = g.F.OrderOf.listed c.args.order.now in
    record { held = subst (HoldsOrigin (ids es)) (sym c.first_low-behind.ensures) (first_low_held c.widest.result es (Some c.args.id)) }
