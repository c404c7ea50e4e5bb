use Rattle.std.proofs.Common.{subst}
use Rattle.std.specs.Prelude.{Err, Ok}
use Rattle.std.proofs.lemmas.Result.{err_from_is_err_and}
use Rattle.fugue_ids.specs.Gathers.{GathersText}
use Rattle.std.specs.Str.{encode_utf8_all}
use Rattle.run_store.specs.Cells.{cell_text}
use Rattle.fugue_ids.proofs.GatherLemmas.{flush_writes, stop_writes}
use Rattle.run_store.proofs.store.RunStore.write_text.Goals as goal

pub returns-in_err-put_text : goal.returns-in_err-put_text
returns-in_err-put_text g c =
    let p = err_from_is_err_and c.from_residual.result c.from_residual.ensures.1 in
    rw p.1 (stop_writes {T = Unit {0}} {S = Unit {0}} _ _ _ _
    (subst (λ w. GathersText {T = Unit {0}} (g.O.Out.seen c.args.output.now) (g.O.Out.seen c.put_text.new.output) w c.put_text.new.gather (Err (record {}))
    (encode_utf8_all (cell_text c.args.self.now.cells))) c.new-gather.ensures c.in_err-put_text.ensures))

pub returns : goal.returns
returns g c =
    flush_writes {T = Unit {0}} {S = Unit {0}} tt c.flush.result _ _ _ _ _
    (subst (λ w. GathersText {T = Unit {0}} (g.O.Out.seen c.args.output.now) (g.O.Out.seen c.put_text.new.output) w c.put_text.new.gather (Ok tt)
    (encode_utf8_all (cell_text c.args.self.now.cells))) c.new-gather.ensures c.in_ok-put_text.ensures)
    c.flush.ensures.text
