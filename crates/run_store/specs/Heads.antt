-- The cells of a run, one after the other.
use Rattle.std.specs.Prelude.{ℕ, zero, suc, ◌+◌, ◌*◌, List, [], ◌∷◌, Some}
use Rattle.fugue_ids.specs.declared.key.Key.{Key}
use Rattle.fugue_ids.specs.Runs.{id_after}
use Rattle.run_store.specs.declared.cell.Cell.{Cell}
use Rattle.run_store.specs.declared.cell.Head.{Head}

-- the cell directly after this one in its run
abbrev pub next_head : Head → Head
next_head h = record {
  id = id_after h.id 1;
  left = Some h.id;
  right = h.right;
  hidden = h.hidden;
  key = record { depth = suc h.key.depth; forest = 0 };
}

-- the cell n after this one in its run
abbrev pub head_after : ℕ → Head → Head
head_after zero h = h
head_after (suc n) h =
    record {
      id = id_after h.id (suc n);
      left = Some (id_after h.id n);
      right = h.right;
      hidden = h.hidden;
      key = record { depth = h.key.depth + suc n; forest = 0 };
    }

-- the cell of a head, with its letter
abbrev pub cell_with_letter : Head → ℕ → Cell
cell_with_letter h ch = record { id = h.id; left = h.left; right = h.right; ch = ch; hidden = h.hidden; key = h.key }

-- the head that begins a run with this cell
abbrev pub run_head_of : Cell → Head
run_head_of c = record { id = c.id; left = c.left; right = c.right; hidden = c.hidden; key = c.key }

-- the cells of letters of which each stands after the one before it
abbrev pub typed_cells : Head → List ℕ → List Cell
typed_cells h [] = []
typed_cells h (ch ∷ chs) = cell_with_letter h ch ∷ typed_cells (next_head h) chs

-- a key as one number: comparing the numbers is comparing the keys
abbrev pub rank_of : Key → ℕ
rank_of k = k.depth * 4294967296 + k.forest
