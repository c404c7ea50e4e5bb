-- A walk along a list that has each element once, by what follows an element.
use Rattle.std.proofs.Common.{Bool, List, [], ap, arith, false, inl, inr, length, refl, subst, suc, sym, true, ◌<◌, ◌∙◌, ◌∷◌, ◌≡◌}
use Rattle.std.specs.Prelude.{IfSome, None, Option, Some, if◌then◌else◌, ◌≢◌, ◌⊎◌}
use Rattle.std.specs.List.{All, AllPairs, Contains}
use Rattle.std.proofs.lemmas.Bool.{cases_Bool, true≢false}
use Rattle.std.proofs.lemmas.List.Elements.{All-contains}
use Rattle.fugue_ids.specs.Identifiers.{Identifier, id_eq}
use Rattle.fugue_ids.proofs.IdentifierLemmas.{id_eq-refl, id_eq-true, ne-id_eq}
use Rattle.fugue_ids.proofs.ListLemmas.{all_pairs_head, all_pairs_tail, contains_cases, contains_here, contains_none, contains_there}
use Rattle.origin_model.specs.edits.Landing.{first_after, following}

-- the elements from this one on: those that are still to come
abbrev pub from_next : List Identifier → Option Identifier → List Identifier
from_next es None = []
from_next [] (Some x) = []
from_next (e ∷ es) (Some x) = if id_eq e x then e ∷ es else from_next es (Some x)

-- all are to come at first
pub from_first : (es : List Identifier) → from_next es (first_after es) ≡ es
from_first [] = refl
from_first (e ∷ es) = ap (λ b. if b then e ∷ es else from_next es (Some e)) (id_eq-refl e)

-- what follows an element is one of the list
pub follows_in : (es : List Identifier) (o : Option Identifier) → IfSome (following es o) (Contains es)
follows_in [] None = tt
follows_in (e ∷ es) None = contains_here e es
follows_in [] (Some x) = tt
follows_in (e ∷ es) (Some x) =
    elim (id_eq e x) as (λ (b : Bool). IfSome (if b then first_after es else following es (Some x)) (Contains (e ∷ es))) [
      | true ↦ first_in es
      | false ↦ later (following es (Some x)) (follows_in es (Some x))
    ]
  where
    first_in : (ys : List Identifier) → IfSome (first_after ys) (Contains (e ∷ ys))
    first_in [] = tt
    first_in (y ∷ ys) = contains_there e (y ∷ ys) y (contains_here y ys)

    later : (o : Option Identifier) → IfSome o (Contains es) → IfSome o (Contains (e ∷ es))
    later None c = tt
    later (Some y) c = contains_there e es y c

-- an element that stands no more is passed over
passed : (e : Identifier) (es : List Identifier) (o : Option Identifier) → All (λ y. e ≢ y) es → IfSome o (Contains es) → from_next (e ∷ es) o ≡ from_next es o
passed e es None apart c = refl
passed e es (Some y) apart c = ap (λ b. if b then e ∷ es else from_next es (Some y)) (ne-id_eq e y (All-contains (λ z. e ≢ z) es y apart c))

-- the first of those to come is this one, and the others are those from the next one on
pub from_following : (es : List Identifier) (x : Identifier) → AllPairs (λ a b. a ≢ b) es → Contains es x → from_next es (Some x) ≡ x ∷ from_next es (following es (Some x))
from_following [] x once c = absurd (contains_none x c)
from_following (e ∷ es) x once c =
    let apart : All (λ y. e ≢ y) es = all_pairs_head (λ a b. a ≢ b) e es once in
    let next : Bool → Option Identifier = λ b. if b then first_after es else following es (Some x) in
    let rest : Bool → List Identifier = λ b. if b then e ∷ es else from_next es (Some x) in
    elim (cases_Bool (id_eq e x)) [
      | inl k ↦
          ap rest k ∙ ap (λ (z : Identifier). z ∷ es) (id_eq-true e x k)
          ∙ ap (λ (l : List Identifier). x ∷ l) (sym (ap (from_next (e ∷ es)) (ap next k) ∙ passed e es (first_after es) apart (follows_in es None) ∙ from_first es))
      | inr k ↦
          ap rest k ∙ from_following es x (all_pairs_tail (λ a b. a ≢ b) e es once) (behind k (contains_cases e es x c))
          ∙ ap (λ (l : List Identifier). x ∷ l) (sym (ap (from_next (e ∷ es)) (ap next k) ∙ passed e es (following es (Some x)) apart (follows_in es (Some x))))
    ]
  where
    behind : id_eq e x ≡ false → (e ≡ x) ⊎ Contains es x → Contains es x
    behind k (inl same) = absurd (true≢false (sym (id_eq-refl e) ∙ ap (id_eq e) same ∙ k))
    behind k (inr c) = c

module _ (es : List Identifier) (o : Option Identifier) (x : Identifier) (once : AllPairs (λ a b. a ≢ b) es) (c : IfSome o (Contains es)) (e : o ≡ Some x) where
  -- this one is among the elements
  next_in : Contains es x
  next_in = subst (λ (z : Option Identifier). IfSome z (Contains es)) e c

  -- it is the first of those to come
  pub turn : from_next es o ≡ x ∷ from_next es (following es (Some x))
  turn = ap (from_next es) e ∙ from_following es x once next_in

  -- one less is to come then
  pub one_less : length (from_next es (following es (Some x))) < length (from_next es o)
  one_less = let s : length (from_next es o) ≡ suc (length (from_next es (following es (Some x)))) = ap length turn in omega (arith, s)
