-- Two authors put a letter each after the one letter of a section: the premises of `drafts_merge` hold, and both letters are shown.
use Rattle.std.proofs.Common.{List, [], ap, arith, false, get_or, inl, inr, nat_eq, refl, subst, sym, true, ℕ, ◌++◌, ◌∙◌, ◌∷◌, ◌≡◌, ◌⊎◌}
use Rattle.std.specs.Prelude.{None, Some, codes, if◌then◌else◌, is_some}
use Rattle.std.proofs.lemmas.Bool.{cases_Bool, cases_order, false≢true, ne_eqb, or_cases, or_left, or_right}
use Rattle.std.proofs.lemmas.List.Elements.{All-cons, All-nil}
use Rattle.fugue_ids.specs.Identifiers.{Identifier}
use Rattle.fugue_ids.specs.Ops.{op_eq}
use Rattle.fugue_ids.specs.declared.op.Op.{Op}
use Rattle.fugue_ids.specs.declared.op.Op.TheVariants.{Section, Text}
use Rattle.fugue_ids.proofs.IdentifierLemmas.{id_eq-true}
use Rattle.origin_model.specs.declared.operations.Place.TheVariants.{Section as within}
use Rattle.origin_model.specs.edits.Edits.{id_at, left_for}
use Rattle.origin_model.specs.operations.History.{has_op, holder, holds, is_own}
unfoldable use Rattle.origin_model.specs.operations.Verdict.{verdict}
unfoldable use Rattle.origin_model.specs.order.Order.{before, chain, order}
use Rattle.origin_model.specs.order.Printed.{text}
use Rattle.text_diff.specs.Hunks.{Transforms}
use Rattle.text_diff.specs.declared.hunk.Hunk.{Hunk}
use Rattle.merged_words.specs.Drafts.{ComeTogether, IsAuthoredDraft, IsPutInOneGo}

abbrev section : Identifier
section = id_at 9 0

abbrev x : Identifier
x = id_at 9 1

abbrev a : Identifier
a = id_at 1 0

abbrev b : Identifier
b = id_at 2 0

abbrev base : List Op
base = Text x section None None 120 ∷ Section section None None (codes "T") ∷ []

abbrev letter_a : Op
letter_a = Text a section (Some x) None 97

abbrev letter_b : Op
letter_b = Text b section (Some x) None 98

abbrev whole : List Op
whole = letter_b ∷ letter_a ∷ base

-- a letter comes after the one that is there
abbrev hunks : List Hunk
hunks = record { old_at = 1; old_len = 0; new_at = 1; new_len = 1 } ∷ []

-- the texts have their first letter in common
transforms : (ch : ℕ) → Transforms nat_eq (120 ∷ []) (120 ∷ ch ∷ []) hunks
transforms ch = (
  omega arith,
  record {
    order = omega arith;
    as_many = omega arith;
    old_within = omega arith;
    new_within = omega arith;
    equal = λ i j d from to e. first i j d (omega (arith, to)) (omega (arith, e, to));
  },
  omega arith,
  record {
    order = omega arith;
    as_many = omega arith;
    old_within = omega arith;
    new_within = omega arith;
    equal = λ i j d from to e. absurd (omega (arith, from, to));
  },
)
  where
    first : (i j d : ℕ) → i ≡ 0 → j ≡ 0 → nat_eq (get_or (120 ∷ []) i d) (get_or (120 ∷ ch ∷ []) j d) ≡ true
    first i j d e k = (λ t. nat_eq (get_or (120 ∷ []) (e t) d) (get_or (120 ∷ ch ∷ []) (k t) d)) ∙ refl

-- a position is 1, or not
cases_at : (i : ℕ) → (1 ≡ i) ⊎ (1 ≡ i → ⊥)
cases_at i = elim (cases_order 1 i) [
  | inl e ↦ inl e
  | inr o ↦ inr (λ e. elim o [ inl l ↦ omega (arith, e, l) | inr l ↦ omega (arith, e, l) ])
]

-- what comes at a position that is not 1
elsewhere : (y : Identifier) (i : ℕ) → (1 ≡ i → ⊥) → (if nat_eq 1 i then y ∷ [] else []) ++ [] ≡ []
elsewhere y i n = ap (λ t. (if t then y ∷ [] else []) ++ []) (ne_eqb 1 i n)

draft_a : IsAuthoredDraft section base (letter_a ∷ base)
unfolding before chain order verdict
draft_a = record {
  lawful = (refl, (refl, (refl, tt)));
  part = λ op k. or_right (op_eq letter_a op) (has_op base op) k;
  hunks = hunks;
  transforms = transforms 97;
  stays = (a ∷ [], [], refl, All-cons (λ y. holds base y ≡ false) a [] refl (All-nil (λ y. holds base y ≡ false)), refl, refl);
  put = λ i. elim (cases_at i) [
    | inl e ↦ subst (λ n. IsPutInOneGo (within section) (letter_a ∷ base) (left_for (within section) base n) ((if nat_eq 1 n then a ∷ [] else []) ++ [])) e
        ((x ∷ [], [], refl, refl), tt)
    | inr n ↦ subst (IsPutInOneGo (within section) (letter_a ∷ base) (left_for (within section) base i)) (sym (elsewhere a i n)) tt
  ];
}

draft_b : IsAuthoredDraft section base (letter_b ∷ base)
unfolding before chain order verdict
draft_b = record {
  lawful = (refl, (refl, (refl, tt)));
  part = λ op k. or_right (op_eq letter_b op) (has_op base op) k;
  hunks = hunks;
  transforms = transforms 98;
  stays = (b ∷ [], [], refl, All-cons (λ y. holds base y ≡ false) b [] refl (All-nil (λ y. holds base y ≡ false)), refl, refl);
  put = λ i. elim (cases_at i) [
    | inl e ↦ subst (λ n. IsPutInOneGo (within section) (letter_b ∷ base) (left_for (within section) base n) ((if nat_eq 1 n then b ∷ [] else []) ++ [])) e
        ((x ∷ [], [], refl, refl), tt)
    | inr n ↦ subst (IsPutInOneGo (within section) (letter_b ∷ base) (left_for (within section) base i)) (sym (elsewhere b i n)) tt
  ];
}

-- both letters come together
together : ComeTogether base (letter_a ∷ base) (letter_b ∷ base) whole
unfolding before chain order verdict
together = record {
  lawful = (refl, (refl, (refl, (refl, tt))));
  first = λ op k. or_right (op_eq letter_b op) (has_op (letter_a ∷ base) op) k;
  second = λ op k. elim (or_cases (op_eq letter_b op) (has_op base op) k) [
    | inl e ↦ or_left (op_eq letter_b op) (has_op (letter_a ∷ base) op) e
    | inr e ↦ or_right (op_eq letter_b op) (has_op (letter_a ∷ base) op) (or_right (op_eq letter_a op) (has_op base op) e)
  ];
  no_more = λ op k. elim (or_cases (op_eq letter_b op) (has_op (letter_a ∷ base) op) k) [
    | inl e ↦ inr (or_left (op_eq letter_b op) (has_op base op) e)
    | inr e ↦ inl e
  ];
  apart = λ y k j. elim (cases_Bool (is_own y letter_a)) [
    | inl e ↦ absurd (false≢true (subst (λ z. holds (letter_b ∷ base) z ≡ true) (sym (id_eq-true a y e)) j))
    | inr e ↦ ap (λ t. is_some (if t then Some letter_a else holder base y)) (sym e) ∙ k
  ];
}

-- and the section reads both after the old one
reads : text whole section ≡ codes "xab"
unfolding before chain order verdict
reads = refl
