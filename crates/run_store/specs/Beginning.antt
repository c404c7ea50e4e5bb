-- A run that begins.
use Rattle.std.specs.Prelude.{◌≡◌, List, [], ◌∷◌, Some, IsSome}
use Rattle.fugue_ids.specs.Identifiers.{Identifier}
use Rattle.node_rope.specs.Beside.{placed_after, placed_before}
use Rattle.node_rope.specs.Items.{value_under}
use Rattle.run_store.specs.Growth.{cells_inserted_before, cells_inserted_after, last_id_of_run}
use Rattle.run_store.specs.declared.insert.Beginning.{Beginning}
use Rattle.run_store.specs.declared.insert.Beginning.TheVariants.{Before, Behind, First}
use Rattle.run_store.specs.declared.cell.Cell.{Cell}
use Rattle.run_store.specs.declared.run.Run.{Run}

-- the run that it begins beside is in the rope; the first one begins in an empty rope
abbrev pub CanBegin : Beginning → List (Identifier × Run) → Type 0
CanBegin First rope = rope ≡ []
CanBegin (Before key) rope = IsSome (value_under key rope)
CanBegin (Behind run) rope = value_under run.id rope ≡ Some run

-- the rope with a run that begins there, under its key
abbrev pub placed_at : Beginning → Identifier × Run → List (Identifier × Run) → List (Identifier × Run)
placed_at First new rope = new ∷ []
placed_at (Before key) new rope = placed_before key new rope
placed_at (Behind run) new rope = placed_after run.id new rope

-- the cells with those of a run that begins there
abbrev pub begun_run : Beginning → List Cell → List Cell → List Cell
begun_run First new cells = new
begun_run (Before key) new cells = cells_inserted_before key new cells
begun_run (Behind run) new cells = cells_inserted_after (last_id_of_run run) new cells
