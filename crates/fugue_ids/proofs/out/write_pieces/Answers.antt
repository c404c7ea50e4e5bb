use Rattle.std.proofs.Common.{subst}
use Rattle.std.specs.Prelude.{Err, Ok, flat_map}
use Rattle.std.proofs.lemmas.Result.{err_from_is_err_and}
use Rattle.fugue_ids.specs.Gathers.{GathersText}
use Rattle.fugue_ids.proofs.GatherLemmas.{flush_writes, stop_writes}
use Rattle.fugue_ids.proofs.out.write_pieces.Goals as goal

pub returns-in_err-put_pieces : goal.returns-in_err-put_pieces
returns-in_err-put_pieces g c =
    let p = err_from_is_err_and c.from_residual.result c.from_residual.ensures.1 in
    rw p.1 (stop_writes {T = Unit {0}} {S = Unit {0}} _ _ _ _
    (subst (λ w. GathersText {T = Unit {0}} (g.O.Out.seen c.args.out.now) (g.O.Out.seen c.put_pieces.new.out) w c.put_pieces.new.self (Err (record {}))
    (flat_map (λ piece. piece.now) c.args.pieces.now)) c.new-gather.ensures c.in_err-put_pieces.ensures))

pub returns : goal.returns
returns g c = flush_writes {T = Unit {0}} {S = Unit {0}} tt c.flush.result _ _ _ _ _
    (subst (λ w. GathersText {T = Unit {0}} (g.O.Out.seen c.args.out.now) (g.O.Out.seen c.put_pieces.new.out) w c.put_pieces.new.self (Ok tt)
    (flat_map (λ piece. piece.now) c.args.pieces.now)) c.new-gather.ensures c.in_ok-put_pieces.ensures)
    c.flush.ensures.text
