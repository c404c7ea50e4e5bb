use Rattle.std.proofs.lemmas.Result.{err_from_is_err_and}
use Rattle.fugue_ids.proofs.GatherLemmas.{gathers_none, gathers_parts_grow, gathers_parts_stop}
use Rattle.fugue_ids.proofs.gather.Gather.put_pieces.Goals as goal

pub loop-piece-init : goal.loop-piece-init
loop-piece-init g c = gathers_none tt _ _

pub loop-piece-preserved : goal.loop-piece-preserved
loop-piece-preserved g c = gathers_parts_grow _ _ _ _ tt tt _ _ _ _ _ _ c.loop-piece-test.true c.loop-piece.invariant c.in_ok-put.ensures

pub returns-in_err-put : goal.returns-in_err-put
returns-in_err-put g c =
    let p = err_from_is_err_and c.from_residual.result c.from_residual.ensures.1 in
    rw p.1 (gathers_parts_stop _ _ _ _ tt _ _ _ _ _ _ c.loop-piece-test.true c.loop-piece.invariant c.in_err-put.ensures)
