-- The order of identifiers is total, and what the answers of its comparison mean.
use Rattle.std.proofs.Common.{arith, false, inl, inr, sym, true, ◌<◌, ◌∙◌, ◌≡◌, ◌⊎◌}
use Rattle.std.specs.BTreeMap.Range.{IsLeBy, IsLtBy}
use Rattle.std.specs.Cmp.{IsTotalOrder, ranks, strict}
use Rattle.std.specs.FinMap.{IsAntisymmetric}
use Rattle.std.specs.Ordering.{is_lt, nat_cmp, ordering_then, MatchOrdering}
use Rattle.std.specs.declared.cmp.Ordering.{Ordering}
use Rattle.std.specs.declared.cmp.Ordering.TheVariants.{Equal, Greater, Less}
use Rattle.std.proofs.lemmas.Bool.{cases_lt}
use Rattle.std.proofs.lemmas.Bool.Decides.{nat_tests}
use Rattle.fugue_ids.specs.Identifiers.{id_cmp, id_lt, Identifier, IsAtMost}

-- a stands before b
abbrev pub IsBefore : Identifier → Identifier → Type 0
IsBefore a b = (a.replica < b.replica) ⊎ ((a.replica ≡ b.replica) × (a.counter < b.counter))

-- what a comparison of two identifiers tells
abbrev Tells : Identifier → Identifier → Ordering → Type 0
Tells a b o = MatchOrdering o (IsBefore a b) (a ≡ b) (IsBefore b a)

-- the second of two comparisons decides where the first tells nothing apart
then_tells : (a b : Identifier) (o p : Ordering) → MatchOrdering o (a.replica < b.replica) (a.replica ≡ b.replica) (b.replica < a.replica)
    → MatchOrdering p (a.counter < b.counter) (a.counter ≡ b.counter) (b.counter < a.counter) → Tells a b (ordering_then o p)
then_tells a b Less p h k = inl h
then_tells a b Greater p h k = inl h
then_tells a b Equal Less h k = inr (h, k)
then_tells a b Equal Equal h k = λ i. record { replica = h i; counter = k i }
then_tells a b Equal Greater h k = inr (sym h, k)

pub id_ranks : (a b : Identifier) → Tells a b (id_cmp a b)
id_ranks a b = then_tells a b (nat_cmp a.replica b.replica) (nat_cmp a.counter b.counter) (ranks a.replica b.replica) (ranks a.counter b.counter)

never_itself : (a : Identifier) → IsBefore a a → ⊥
never_itself a (inl h) = omega arith
never_itself a (inr h) = omega arith

passes_on : (a b c : Identifier) → IsBefore a b → IsBefore b c → IsBefore a c
passes_on a b c (inl h) (inl k) = inl (omega arith)
passes_on a b c (inl h) (inr k) = inl (omega arith)
passes_on a b c (inr h) (inl k) = inl (omega arith)
passes_on a b c (inr h) (inr k) = inr (h.0 ∙ k.0, omega arith)

pub id_cmp_total : IsTotalOrder id_cmp
id_cmp_total = strict IsBefore never_itself passes_on id_cmp id_ranks

equal_by : (a b : Identifier) (o : Ordering) → Tells a b o → o ≡ Equal → a ≡ b
equal_by a b Less h e = absurd (cc e)
equal_by a b Equal h e = h
equal_by a b Greater h e = absurd (cc e)

pub id_cmp-IsAntisymmetric : IsAntisymmetric id_cmp
id_cmp-IsAntisymmetric a b e = equal_by a b (id_cmp a b) (id_ranks a b) e

-- what does not stand after another stands before it, or is the same
pub at_most_cases : (a b : Identifier) → IsAtMost a b → IsBefore a b ⊎ (a ≡ b)
at_most_cases a b (inl h) = inl (inl h)
at_most_cases a b (inr h) = elim (cases_lt a.counter b.counter) as (λ _. IsBefore a b ⊎ (a ≡ b)) [
  | inl k ↦ inl (inr (h.0, k))
  | inr k ↦ let c : a.counter ≡ b.counter = omega (arith, h.1, k) in inr (λ i. record { replica = h.0 i; counter = c i })
]

-- the answers of the comparison, as facts, and the facts as answers
pub before_from_lt : (a b : Identifier) → IsLtBy id_cmp a b → IsBefore a b
before_from_lt a b h = grind (arith, nat_tests, h)

pub lt_from_before : (a b : Identifier) → IsBefore a b → IsLtBy id_cmp a b
lt_from_before a b h = grind (arith, nat_tests, h)

pub at_most_from_le : (a b : Identifier) → IsLeBy id_cmp a b → IsAtMost a b
at_most_from_le a b h = grind (arith, nat_tests, h)

pub le_from_at_most : (a b : Identifier) → IsAtMost a b → IsLeBy id_cmp a b
le_from_at_most a b h = grind (arith, nat_tests, h)

pub at_most_from_not_lt : (a b : Identifier) → is_lt (id_cmp a b) ≡ false → IsAtMost b a
at_most_from_not_lt a b h = grind (arith, nat_tests, h)

pub not_lt_from_at_most : (a b : Identifier) → IsAtMost b a → is_lt (id_cmp a b) ≡ false
not_lt_from_at_most a b h = grind (arith, nat_tests, h)

-- a strict order of identifiers
pub id_irrefl : (a : Identifier) → id_lt a a ≡ false
id_irrefl a = grind (arith, nat_tests)

pub id_trans : (a b c : Identifier) → id_lt a b ≡ true → id_lt b c ≡ true → id_lt a c ≡ true
id_trans a b c h k = grind (arith, nat_tests)
