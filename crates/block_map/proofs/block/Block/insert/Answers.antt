use Rattle.std.proofs.Common.{Some, ◌∙◌}
use Rattle.std.proofs.lemmas.Result.{on_err_weaker}
use Rattle.block_map.specs.Blocks.{value_at}
use Rattle.block_map.specs.Columns.{value_beside}
use Rattle.block_map.proofs.ChangeLemmas.{on_ok_both}
use Rattle.block_map.proofs.ColumnLemmas.{none_in_gap, replaced_by, value_insert, value_set}
use Rattle.block_map.proofs.block.Block.insert.Goals as goal

pub returns-in-Ok-clause-ok : goal.returns-in-Ok-clause-ok
returns-in-Ok-clause-ok g c =
    let b = c.args.self.now in
    replaced_by (value_at b) _ c.args.counter (Some c.args.value)
    (value_set b.counters.items b.values.items b.ascending b.beside c.args.counter c.in-Ok.at c.in-Ok.ensures.found c.args.value)

pub returns-in-Err-clause-ok : goal.returns-in-Err-clause-ok
returns-in-Err-clause-ok g c =
    let b = c.args.self.now in
    let gap = c.in-Err.ensures.absent in
    on_ok_both c.insert_beside.result c.insert_beside.ensures.counters c.insert_beside.ensures.values
    (λ p r.
    replaced_by (value_at b) _ c.args.counter (Some c.args.value)
    (λ q. (λ i. value_beside (p i) (r i) q) ∙ value_insert b.counters.items b.values.items b.beside c.args.counter c.in-Err.at gap.inside gap.before c.args.value q))

pub returns-in-Err-clause-absent : goal.returns-in-Err-clause-absent
returns-in-Err-clause-absent g c =
    let b = c.args.self.now in
    on_err_weaker c.insert_beside.result (λ _. none_in_gap b.counters.items b.values.items c.args.counter c.in-Err.at c.in-Err.ensures.absent) c.insert_beside.ensures.err
