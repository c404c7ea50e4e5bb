-- Two runs that stand next to each other and are one passage, but for their marks.
use Rattle.std.specs.Prelude.{◌≡◌, ◌≢◌, ◌⊎◌, ◌<◌, Bool, true, false, ◌&&◌, nat_eq, ℕ, ◌+◌, ◌-◌, List, ◌∷◌, ◌++◌, Some}
use Rattle.fugue_ids.specs.Identifiers.{Identifier}
use Rattle.node_rope.specs.Beside.{put_under, items_rekeyed}
use Rattle.run_store.specs.Heads.{head_after, cell_with_letter}
use Rattle.run_store.specs.NewCells.{is_continued}
use Rattle.run_store.specs.Runs.{first_of, run_after, run_to}
use Rattle.run_store.specs.declared.cell.Head.{Head}
use Rattle.run_store.specs.declared.run.Run.{Run}

-- the cells of both as one run, with the mark of the second
abbrev pub together : Run → Run → Run
together a b = record a { hidden = b.hidden; len = a.len + b.len }

-- the last cell of a run, as if it were not hidden
abbrev pub last_shown : Run → Head
last_shown a = record (head_after (a.len - 1) (first_of a)) { hidden = false }

-- the first cell of b continues a, whatever the marks, and so do the letters
abbrev pub run_continues : Run → Run → Bool
run_continues a b =
    is_continued (Some (cell_with_letter (last_shown a) 0)) b.id b.left b.right
    && (nat_eq b.key.depth ((last_shown a).key.depth + 1)
    && (nat_eq b.key.forest 0 && (nat_eq b.stretch a.stretch && nat_eq b.start (a.start + a.len))))

-- b stands directly after a, and goes on from it
pub record IsBoundary (rope : List (Identifier × Run)) (a b : Run) : Type 0 where
  pub before : List (Identifier × Run)
  pub behind : List (Identifier × Run)
  pub is : rope ≡ before ++ (a.id, a) ∷ (b.id, b) ∷ behind
  pub passage : b ≡ run_after a.len (together a b)

-- another place where the passage can be parted
pub record IsMove (a b : Run) (n : ℕ) : Type 0 where
  pub some : 0 < n
  pub rest : n < a.len + b.len
  pub other : n ≢ a.len

-- the rope with the boundary at the place n of the passage
abbrev pub boundary_shifted : ℕ → Run → Run → List (Identifier × Run) → List (Identifier × Run)
boundary_shifted n a b rope = let new = run_after n (together a b) in put_under a.id (run_to n a) (items_rekeyed b.id (new.id, new) rope)

-- the first k cells of b, from that of x on, come to the hidden run before it
pub record IsTakenFirst (x : Identifier) (k : ℕ) (a b : Run) (n : ℕ) : Type 0 where
  pub hidden : a.hidden ≡ true
  pub at : n ≡ a.len + k
  pub is : x ≡ b.id

-- the last k cells of a, from that of x on, come to the hidden run after it
pub record IsTakenLast (x : Identifier) (k : ℕ) (a b : Run) (n : ℕ) : Type 0 where
  pub hidden : b.hidden ≡ true
  pub at : n + k ≡ a.len
  pub is : x ≡ (head_after n (first_of a)).id

-- a boundary that hides k cells from that of x on as it comes to the place n
pub record IsHiding (rope : List (Identifier × Run)) (x : Identifier) (k : ℕ) (a b : Run) (n : ℕ) : Type 0 where
  pub boundary : IsBoundary rope a b
  pub move : IsMove a b n
  pub taken : IsTakenFirst x k a b n ⊎ IsTakenLast x k a b n
