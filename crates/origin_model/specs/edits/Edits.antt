-- The edits of a replica. A history is newest first; what waits stands in order of arrival; the operations of an edit
-- stand in the order in which they are made.
use Rattle.std.specs.Prelude.{◌≡◌, ◌≢◌, ℕ, zero, suc, ◌+◌, max, Option, Some, None, List, [], ◌∷◌, ◌++◌, map, take, drop, slice_get}
use Rattle.fugue_ids.specs.Identifiers.{Identifier}
use Rattle.fugue_ids.specs.declared.op.Op.{Op}
use Rattle.fugue_ids.specs.declared.op.Op.TheVariants.{Section, Text, Delete, Note}
use Rattle.origin_model.specs.operations.Counters.{counters}
use Rattle.origin_model.specs.order.Order.{order}
use Rattle.origin_model.specs.order.Printed.{shown}
use Rattle.origin_model.specs.operations.Verdict.{verdict, Lawful}
use Rattle.origin_model.specs.declared.operations.Place.{Place}
use Rattle.origin_model.specs.declared.operations.Place.TheVariants.{Catalogue as catalogue, Section as within}
use Rattle.origin_model.specs.declared.operations.Verdict.TheVariants.{Ready}
use Rattle.origin_model.specs.edits.Landing.{following}

-- the first `at` members, then the new ones, then the members from at + n on
abbrev pub splice : {X : Type 0} → List X → ℕ → ℕ → List X → List X
splice list at n new = take at list ++ new ++ drop (at + n) list

-- the member in front of the position `at`: the start, where `at` is 0
abbrev pub in_front : List Identifier → ℕ → Option Identifier
in_front list zero = None
in_front list (suc at) = slice_get list at

-- one more than the greatest number, or 0 where there is none
abbrev pub above_all : List ℕ → ℕ
above_all [] = 0
above_all (n ∷ ns) = max (suc n) (above_all ns)

-- one more than the greatest counter that the replica has among the identifiers that accepted or waiting operations
-- have or name; 0 where it has none
abbrev pub next_counter : ℕ → (history waiting : List Op) → ℕ
next_counter replica history waiting = above_all (counters replica (history ++ waiting))

-- the same by the greatest counter
abbrev pub next_above : Option ℕ → ℕ
next_above None = 0
next_above (Some n) = suc n

-- an identifier by its two parts
abbrev pub id_at : ℕ → ℕ → Identifier
id_at replica counter = record { replica = replica; counter = counter }

-- texts with counters from c on, each with the one before as left origin, and all with one right origin
abbrev pub typed_texts : (replica c : ℕ) → (section : Identifier) → (left right : Option Identifier) → List ℕ → List Op
typed_texts replica c section left right [] = []
typed_texts replica c section left right (ch ∷ chs) =
    Text (id_at replica c) section left right ch ∷ typed_texts replica (suc c) section (Some (id_at replica c)) right chs

-- their identifiers
abbrev pub typed_ids : (replica c : ℕ) → List ℕ → List Identifier
typed_ids replica c [] = []
typed_ids replica c (ch ∷ chs) = id_at replica c ∷ typed_ids replica (suc c) chs

-- the left origin of an element that goes to the position `at` of what is shown: the shown element in front of it
abbrev pub left_for : Place → List Op → ℕ → Option Identifier
left_for p history at = in_front (shown p history) at

-- its right origin: the element that follows the left origin among all, the hidden ones counted
abbrev pub right_for : Place → List Op → ℕ → Option Identifier
right_for p history at = following (order p history) (left_for p history at)

-- the Deletes of elements
abbrev pub deletes_of : List Identifier → List Op
deletes_of xs = map (λ x. Delete x) xs

-- an edit, by positions in what is shown: sections and elements count from 0
pub data Command : Type 0 where
  Put : (section at : ℕ) → List ℕ → Command
  Cut : (section at count : ℕ) → Command
  Add : (at : ℕ) → List ℕ → Command
  DropSection : (section : ℕ) → Command

-- the operations of a put in a section
abbrev pub put_in : (replica : ℕ) → (history waiting : List Op) → Identifier → ℕ → List ℕ → List Op
put_in replica history waiting s at new =
    typed_texts replica (next_counter replica history waiting) s (left_for (within s) history at) (right_for (within s) history at) new

-- the operations of a cut in a section
abbrev pub cut_in : List Op → Identifier → (at n : ℕ) → List Op
cut_in history s at n = deletes_of (take n (drop at (shown (within s) history)))

-- the operation of an add
abbrev pub op_of_add : (replica : ℕ) → (history waiting : List Op) → (at : ℕ) → List ℕ → Op
op_of_add replica history waiting at title =
    Section (id_at replica (next_counter replica history waiting)) (left_for catalogue history at) (right_for catalogue history at) title

-- the operations of an edit, in the order in which they are made; none where there is no such section
abbrev pub made : (replica : ℕ) → (history waiting : List Op) → Command → List Op
made replica history waiting (Put k at new) =
    elim (slice_get (shown catalogue history) k) [ None ↦ [] | Some s ↦ put_in replica history waiting s at new ]
made replica history waiting (Cut k at n) =
    elim (slice_get (shown catalogue history) k) [ None ↦ [] | Some s ↦ cut_in history s at n ]
made replica history waiting (Add at title) = op_of_add replica history waiting at title ∷ []
made replica history waiting (DropSection k) =
    elim (slice_get (shown catalogue history) k) [ None ↦ [] | Some s ↦ Delete s ∷ [] ]

-- the note that the replica makes
abbrev pub noted : (history waiting : List Op) → (replica : ℕ) → (named : List Identifier) → (code : ℕ) → (body : List ℕ) → Op
noted history waiting replica named code body = Note (id_at replica (next_counter replica history waiting)) named code body

-- the history after operations joined it, one after another
abbrev pub history_with : List Op → List Op → List Op
history_with history [] = history
history_with history (op ∷ ops) = history_with (op ∷ history) ops

-- each operation is Ready when its turn comes
abbrev pub ReadyInTurn : List Op → List Op → Type 0
ReadyInTurn history [] = Unit {0}
ReadyInTurn history (op ∷ ops) = (verdict history op ≡ Ready) × ReadyInTurn (op ∷ history) ops

-- an edit of the place p: it replaces n members of what is shown from `at` on, and leaves what is shown elsewhere
pub record IsEdit (p : Place) (history ops : List Op) (at n : ℕ) (new : List Identifier) : Type 0 where
  pub ready : ReadyInTurn history ops
  pub lawful : Lawful (history_with history ops)
  pub here : shown p (history_with history ops) ≡ splice (shown p history) at n new
  pub elsewhere : (q : Place) → q ≢ p → shown q (history_with history ops) ≡ shown q history
