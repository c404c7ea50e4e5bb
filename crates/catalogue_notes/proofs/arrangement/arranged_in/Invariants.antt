use Rattle.std.proofs.Common.{length, ◌++◌, ◌≡◌}
use Rattle.std.specs.Prelude.{flat_map, option_to_list}
use Rattle.std.specs.BTreeMap.{get}
use Rattle.fugue_ids.specs.Identifiers.{id_cmp}
use Rattle.run_store.specs.Cells.{cell_ids, cells_shown}
use Rattle.catalogue_notes.proofs.arrangement.arranged_in.Given as goal

abbrev pub invariant-walk : goal.invariant-walk
invariant-walk l =
    l.found.items ++ flat_map (λ x. option_to_list (get id_cmp l.placing x)) l.shown
    ≡ flat_map (λ x. option_to_list (get id_cmp l.placing x)) (cell_ids (cells_shown l.list.cells))

abbrev pub decreases-walk : goal.decreases-walk
decreases-walk l = length l.shown
