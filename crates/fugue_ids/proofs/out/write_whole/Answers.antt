use Rattle.std.proofs.Common.{arith}
use Rattle.std.proofs.lemmas.Result.{err_from_is_err_and}
use Rattle.fugue_ids.proofs.JoinLemmas.{call_grows, call_stops}
use Rattle.fugue_ids.proofs.out.write_whole.Goals as goal

pub loop-at-preserved : goal.loop-at-preserved
loop-at-preserved g c = record {
  inside = omega (arith, c.in_ok-at.ensures.bound);
  wrote = call_grows tt _ _ _ _ _ _ c.loop-at.invariant.wrote c.in_ok-at.ensures;
}

pub returns-in_err-at : goal.returns-in_err-at
returns-in_err-at g c =
    let p = err_from_is_err_and c.from_residual.result c.from_residual.ensures.1 in
    rw p.1 (call_stops tt _ _ _ _ _ _ c.loop-at-test.true c.loop-at.invariant.wrote c.in_err-at.ensures)
