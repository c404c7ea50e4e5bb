use Rattle.std.proofs.Common.{arith}
use Rattle.std.proofs.lemmas.Result.{err_from_is_err_and}
use Rattle.fugue_ids.proofs.GatherLemmas.{gathers_filled, gathers_full, gathers_none}
use Rattle.fugue_ids.proofs.gather.Gather.put.Goals as goal

pub loop-at-init : goal.loop-at-init
loop-at-init g c = record { inside = omega arith; gathered = gathers_none tt _ _ }

pub loop-at-preserved : goal.loop-at-preserved
loop-at-preserved g c = record {
  inside = omega (arith, c.fill-at.ensures.bound);
  gathered = rw c.fill-at.ensures.waits (gathers_filled _ _ _ _ _ _ _ _ _ c.loop-at.invariant.gathered c.in_ok-make_room.ensures.gathers);
}

pub returns-in_err-make_room : goal.returns-in_err-make_room
returns-in_err-make_room g c =
    let p = err_from_is_err_and c.from_residual.result c.from_residual.ensures.1 in
    rw p.1 (gathers_full _ _ _ _ _ _ _ _ c.loop-at.invariant.gathered c.in_err-make_room.ensures.gathers)
