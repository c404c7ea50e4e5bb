-- Indexes of origins in a list: as the list gains a member they keep their order, and in an ordered list they say which
-- origin stands first.
use Rattle.origin_model.proofs.Words.{Bool, Contains, Identifier, IsOrderedBy, List, None, Option, Some, [], ap, arith, cases_Bool, cases_id, cond, eq-eqb, eq-id_eq, false}
use Rattle.origin_model.proofs.Words.{false_from_ne_true, index_of_origin, inl, inr, insert, length, nat_eq, ne-id_eq, ne_eqb, origin_eq, refl, suc, sym, true, true≢false, zero, ℕ}
use Rattle.origin_model.proofs.Words.{◌<◌, ◌∙◌, ◌∷◌, ◌≡◌, ◌≤◌}
use Rattle.std.proofs.Common.{nat_lt}
use Rattle.std.proofs.lemmas.Bool.{le-ltb, lt-ltb, ltb-true}
use Rattle.std.proofs.lemmas.Bool.Decides.{nat_tests}
use Rattle.fugue_ids.specs.Listed.{index_of}
use Rattle.fugue_ids.proofs.IdentifierLemmas.{at-index_of, contains-below, same-index_of}

-- an index in a list that gains a member at n
abbrev pub shifted : ℕ → ℕ → ℕ
shifted n k = cond (nat_lt k n) k (suc k)

-- one index further, in a list that is one longer
shifted-suc : (n k : ℕ) → suc (shifted n k) ≡ shifted (suc n) (suc k)
shifted-suc n k = grind (arith, nat_tests)

-- indexes keep their order
pub shifted-lt : (n j k : ℕ) → nat_lt (shifted n j) (shifted n k) ≡ nat_lt j k
shifted-lt n j k = grind (arith, nat_tests)

-- indexes stay equal
pub shifted-eq : (n j k : ℕ) → nat_eq (shifted n j) (shifted n k) ≡ nat_eq j k
shifted-eq n j k = grind (arith, nat_tests)

-- a member that goes in first moves all
shifted-zero : (k : ℕ) → suc k ≡ shifted 0 k
shifted-zero k = grind (arith, nat_tests)

-- the first member stays first
shifted_none : (n : ℕ) → 0 ≡ shifted (suc n) 0
shifted_none n = grind (arith, nat_tests)

-- the first member has index 0
index-own : (e : Identifier) (es : List Identifier) (r : Option Identifier) → origin_eq r (Some e) ≡ true → index_of_origin (e ∷ es) r ≡ 0
index-own e es r h = rw h refl

-- any other origin is one index further than in the rest
index-other : (e : Identifier) (es : List Identifier) (r : Option Identifier) → origin_eq r (Some e) ≡ false → index_of_origin (e ∷ es) r ≡ suc (index_of_origin es r)
index-other e es r h = rw h (omega arith)

-- the indexes of the other origins, as a member goes in at n
pub index-insert : (o : List Identifier) (n : ℕ) (x : Identifier) (r : Option Identifier) → n ≤ length o → origin_eq r (Some x) ≡ false
    → index_of_origin (insert o n x) r ≡ shifted n (index_of_origin o r)
index-insert o zero x r l h = index-other x o r h ∙ shifted-zero (index_of_origin o r)
index-insert [] (suc n) x r l h = absurd (omega arith)
index-insert (e ∷ es) (suc n) x r l h =
    elim (cases_Bool (origin_eq r (Some e))) [
      | inl k ↦ index-own e (insert es n x) r k ∙ shifted_none n ∙ ap (shifted (suc n)) (sym (index-own e es r k))
      | inr k ↦ index-other e (insert es n x) r k ∙ ap suc (index-insert es n x r (omega arith) h) ∙ shifted-suc n (index_of_origin es r)
          ∙ ap (shifted (suc n)) (sym (index-other e es r k))
    ]

-- which of two origins stands first, where elements stand by R and the end stands last
abbrev pub origin_before : (Identifier → Identifier → Bool) → Option Identifier → Option Identifier → Bool
origin_before R None b = false
origin_before R (Some a) None = true
origin_before R (Some a) (Some b) = R a b

-- an origin is the end, or an element of the list
abbrev pub Stands : Option Identifier → List Identifier → Type 0
Stands None o = Unit {0}
Stands (Some x) o = Contains o x

-- the end has the index after all members
pub index_end : (o : List Identifier) → index_of_origin o None ≡ length o
index_end [] = refl
index_end (e ∷ es) = omega (arith, index_end es)

-- what a test of two numbers tells
later : (a b : ℕ) → nat_lt a b ≡ false → (a ≡ b → ⊥) → b < a
later a b h n = grind (arith, nat_tests)

-- in a strict order
module _ (R : Identifier → Identifier → Bool) (irrefl : (a : Identifier) → R a a ≡ false) (trans : (a b c : Identifier) → R a b ≡ true → R b c ≡ true → R a c ≡ true) where
  -- a member at a lower index stands before one at a higher
  in_order : (o : List Identifier) (s r : Identifier) → IsOrderedBy R o → Contains o s → Contains o r → index_of o s < index_of o r → R s r ≡ true
  in_order o s r w p q l = (λ i. R (sym (at-index_of o s s p) i) (sym (at-index_of o r s q) i)) ∙ w (index_of o s) (index_of o r) s l (contains-below o r q)

  -- the indexes of two members are in the order of the members
  pub member_lt : (o : List Identifier) (s r : Identifier) → IsOrderedBy R o → Contains o s → Contains o r → nat_lt (index_of o s) (index_of o r) ≡ R s r
  member_lt o s r w p q =
      elim (cases_Bool (nat_lt (index_of o s) (index_of o r))) [
        | inl l ↦ l ∙ sym (in_order o s r w p q (ltb-true _ _ l))
        | inr n ↦ n ∙ sym (false_from_ne_true (R s r) (λ k. elim (cases_id s r) [
          | inl e ↦ true≢false (sym k ∙ ap (R s) (sym e) ∙ irrefl s)
          | inr d ↦ true≢false (sym (trans s r s k (in_order o r s w q p (later _ _ n (λ j. d (same-index_of o s r p j))))) ∙ irrefl s)
        ]))
      ]

  -- the indexes of two origins are in the order of the origins
  pub origin_lt : (o : List Identifier) (a b : Option Identifier) → IsOrderedBy R o → Stands a o → Stands b o
      → nat_lt (index_of_origin o a) (index_of_origin o b) ≡ origin_before R a b
  origin_lt o None None w p q = grind (arith, nat_tests)
  origin_lt o None (Some r) w p q = le-ltb (index_of_origin o None) (index_of o r) (omega (arith, index_end o, contains-below o r q))
  origin_lt o (Some s) None w p q = lt-ltb (index_of o s) (index_of_origin o None) (omega (arith, index_end o, contains-below o s p))
  origin_lt o (Some s) (Some r) w p q = member_lt o s r w p q

-- two origins have one index only where they are equal
pub origin_same : (o : List Identifier) (a b : Option Identifier) → Stands a o → Stands b o → nat_eq (index_of_origin o a) (index_of_origin o b) ≡ origin_eq a b
origin_same o None None p q = eq-eqb (index_of_origin o None) (index_of_origin o None) refl
origin_same o None (Some r) p q = ne_eqb (index_of_origin o None) (index_of o r) (λ e. omega (arith, index_end o, contains-below o r q))
origin_same o (Some s) None p q = ne_eqb (index_of o s) (index_of_origin o None) (λ e. omega (arith, index_end o, contains-below o s p))
origin_same o (Some s) (Some r) p q =
    elim (cases_id s r) [
      | inl d ↦ eq-eqb (index_of o s) (index_of o r) (ap (index_of o) d) ∙ sym (eq-id_eq s r d)
      | inr n ↦ ne_eqb (index_of o s) (index_of o r) (λ k. n (same-index_of o s r p k)) ∙ sym (ne-id_eq s r n)
    ]
