-- Cells that are not hidden.
use Rattle.std.proofs.Common.{List, not, subst}
use Rattle.std.specs.List.{Contains}
use Rattle.fugue_ids.specs.Identifiers.{Identifier}
use Rattle.fugue_ids.proofs.ListLemmas.{contains_filter_from, contains_map, contains_map_from}
use Rattle.run_store.specs.Cells.{cell_ids, cells_shown}
use Rattle.run_store.specs.declared.cell.Cell.{Cell}

-- what is visible is listed
pub visible_listed : (cells : List Cell) (x : Identifier) → Contains (cell_ids (cells_shown cells)) x → Contains (cell_ids cells) x
visible_listed cells x m =
    let id : Cell → Identifier = λ c. c.id in
    let c = contains_map_from id (cells_shown cells) x m in
    subst (Contains (cell_ids cells)) c.2 (contains_map id cells c.0 (contains_filter_from (λ c. not c.hidden) cells c.0 c.1).0)
