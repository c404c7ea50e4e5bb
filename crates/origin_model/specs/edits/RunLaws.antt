-- Runs: where they land, and when one goes in whole.
use Rattle.std.specs.Prelude.{◌≡◌, ◌≢◌, ℕ, Option, suc, ◌+◌, ◌<◌, ◌≤◌, false, List, ◌∷◌, ◌++◌, length, flat_map}
use Rattle.std.specs.List.{All, Contains}
use Rattle.fugue_ids.specs.Identifiers.{Identifier}
use Rattle.fugue_ids.specs.Runs.{id_after, ids_in_a_row, in_a_row, run_from, text_by}
use Rattle.fugue_ids.specs.declared.op.Op.{Op}
use Rattle.fugue_ids.specs.declared.run.RunStart.{RunStart}
use Rattle.origin_model.specs.declared.operations.Place.{Place}
use Rattle.origin_model.specs.declared.operations.Place.TheVariants.{Section as within}
use Rattle.origin_model.specs.declared.operations.Verdict.TheVariants.{Ready}
use Rattle.origin_model.specs.declared.taking.Tally.{Tally}
use Rattle.origin_model.specs.edits.Edits.{ReadyInTurn, history_with, id_at, typed_texts}
use Rattle.origin_model.specs.operations.Counters.{mentioned_ids}
use Rattle.origin_model.specs.operations.History.{holds}
use Rattle.origin_model.specs.operations.Verdict.{Lawful, verdict}
use Rattle.origin_model.specs.order.Order.{order}
use Rattle.origin_model.specs.sides.Keys.{depth_above, new_key, search_key_of}
use Rattle.origin_model.specs.taking.Taking.{Held, IsSettled, held_from, kept_from, tally_from}

-- a run that was accepted in a row stands as one piece, where its first element stood when it came
abbrev pub RunLands : Type 0
RunLands =
    (start : RunStart) (ch : ℕ) (text : List ℕ) (h : List Op) (front back : List Identifier)
    → Lawful (history_with h (run_from start (ch ∷ text)))
    → order (within start.section) (text_by start ch ∷ h) ≡ front ++ start.id ∷ back
    → order (within start.section) (history_with h (run_from start (ch ∷ text))) ≡ front ++ ids_in_a_row start.id (ch ∷ text) ++ back

-- A run can go in whole: none of its identifiers is held, its first Text is Ready, nothing that waits has or names one of
-- them, and there is room.
pub record CanGoIn (most : ℕ) (s : Held) (start : RunStart) (ch : ℕ) (text : List ℕ) : Type 0 where
  pub lawful : Lawful s.history
  pub settled : IsSettled s
  pub free : All (λ x. holds s.history x ≡ false) (ids_in_a_row start.id (ch ∷ text))
  pub ready : verdict s.history (text_by start ch) ≡ Ready
  pub unnamed : All (λ x. Contains (flat_map mentioned_ids s.waiting) x → ⊥) (ids_in_a_row start.id (ch ∷ text))
  pub room : length s.history + length s.waiting + length (ch ∷ text) ≤ most

-- It goes in whole: each Text is accepted in its turn and nothing that waits is decided, so the state and the counts are
-- known, and its elements stand as one piece with keys that are known.
pub record GoesIn (hold most : ℕ) (s : Held) (start : RunStart) (ch : ℕ) (text : List ℕ) : Type 0 where
  pub ready : ReadyInTurn s.history (run_from start (ch ∷ text))
  pub held : held_from hold most s (run_from start (ch ∷ text))
      ≡ record { history = history_with s.history (run_from start (ch ∷ text)); waiting = s.waiting }
  pub settled : IsSettled (held_from hold most s (run_from start (ch ∷ text)))
  pub kept : kept_from hold most s (run_from start (ch ∷ text)) ≡ run_from start (ch ∷ text)
  pub counted : (t : Tally) → tally_from hold most s
      (run_from start (ch ∷ text)) t ≡ record t { accepted = t.accepted + length (ch ∷ text) }
  -- the elements stand where the first one stands when it comes
  pub lands : (front back : List Identifier) → order (within start.section) (text_by start ch ∷ s.history) ≡ front ++ start.id ∷ back
      → order (within start.section) (history_with s.history (run_from start (ch ∷ text))) ≡ front ++ ids_in_a_row start.id (ch ∷ text)
      ++ back
  pub elsewhere : (p : Place) → p ≢ within start.section → order p (history_with s.history (run_from start (ch ∷ text))) ≡ order p s.history
  -- the first has the key of its origins; each other one is deeper by one than the one before it, and its forest is 0
  pub first_key : search_key_of (history_with s.history (run_from start (ch ∷ text))) start.id ≡ new_key s.history start.left start.right
  pub later_keys : (k : ℕ) → k < length text
      → search_key_of (history_with s.history (run_from start (ch ∷ text))) (id_after start.id (suc k))
      ≡ record { depth = suc (depth_above s.history start.left) + suc k; forest = 0 }

-- where it can, it does
abbrev pub RunsGoInWhole : Type 0
RunsGoInWhole = (hold most : ℕ) (s : Held) (start : RunStart) (ch : ℕ) (text : List ℕ) → CanGoIn most s start ch text
    → GoesIn hold most s start ch text

-- what an edit types is a run
abbrev pub TypedIsRun : Type 0
TypedIsRun =
    (replica counter : ℕ) (section : Identifier) (left right : Option Identifier) (text : List ℕ)
    → typed_texts replica counter section left right text ≡ in_a_row (id_at replica counter) section left right text
