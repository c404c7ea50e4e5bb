use Rattle.std.proofs.Common.{Some, subst, sym}
use Rattle.fugue_ids.specs.Keys.{ids}
use Rattle.fugue_ids.specs.Listed.{HoldsOrigin}
use Rattle.fugue_ids.proofs.LowLemmas.{last_low_held}
use Rattle.sided_tree.proofs.gaps.block_start.Goals as goal

pub first_low-requires : goal.first_low-requires
first_low-requires g c =
    let es = g.F.OrderOf.listed c.args.order.now in
    record { held = subst (HoldsOrigin (ids es)) (sym c.last_low-before.ensures) (last_low_held c.args.key es (Some c.args.id)) }
