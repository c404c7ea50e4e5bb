-- Identifiers, as contracts see them, and their order.
use Rattle.std.specs.Prelude.{ℕ, ◌≡◌, ◌<◌, ◌≤◌, ◌⊎◌, Bool, ◌&&◌, ◌||◌, nat_eq, nat_lt, Option, Some, None, true, false}
use Rattle.std.specs.Ordering.{nat_cmp, ordering_then}
use Rattle.std.specs.declared.cmp.Ordering.{Ordering}
use Rattle.std.specs.Cmp.{IsEquivalence}
use Rattle.std.proofs.lemmas.Cmp.{and_equiv, lists_equiv, nat_eq_equiv, on_equiv}
use lib.Pointwise.{pointwise}

-- an identifier of an element or a note: a replica's number, and a counter of that replica
pub record Identifier : Type 0 where
  pub replica : ℕ
  pub counter : ℕ

-- the same identifier
abbrev pub id_eq : Identifier → Identifier → Bool
id_eq a b = nat_eq a.replica b.replica && nat_eq a.counter b.counter

-- the order of identifiers: by replica, and then by counter
abbrev pub id_lt : Identifier → Identifier → Bool
id_lt a b = nat_lt a.replica b.replica || (nat_eq a.replica b.replica && nat_lt a.counter b.counter)

-- the same order, as a comparison
abbrev pub id_cmp : Identifier → Identifier → Ordering
id_cmp a b = ordering_then (nat_cmp a.replica b.replica) (nat_cmp a.counter b.counter)

-- a does not stand after b
abbrev pub IsAtMost : Identifier → Identifier → Type 0
IsAtMost a b = (a.replica < b.replica) ⊎ ((a.replica ≡ b.replica) × (a.counter ≤ b.counter))

-- the same origin
abbrev pub origin_eq : Option Identifier → Option Identifier → Bool
origin_eq None None = true
origin_eq None (Some b) = false
origin_eq (Some a) None = false
origin_eq (Some a) (Some b) = id_eq a b

-- lists of the same identifiers: an equivalence
pub same_names : IsEquivalence (pointwise id_eq)
same_names = lists_equiv (and_equiv (on_equiv (λ i. i.replica) nat_eq_equiv) (on_equiv (λ i. i.counter) nat_eq_equiv))
