-- What is passed on the way up from two elements is what their chains of left origins do not have in common.
use Rattle.std.proofs.Common.{◌≡◌, ◌≢◌, inl, inr, ℕ, suc, ◌≤◌, List, [], ◌∷◌, ◌++◌, length, drop, reverse, refl, ap, sym, subst, ◌∙◌, arith, append_assoc, true, false}
use Rattle.std.specs.Prelude.{All, None, Option, Some, if◌then◌else◌}
use Rattle.std.specs.List.{Contains}
use Rattle.std.proofs.lemmas.Bool.{cases_Bool, false_from_ne_true, false≢true, true≢false}
use Rattle.std.proofs.lemmas.List.{append-nil, drop_at, reverse-append}
use Rattle.std.proofs.lemmas.List.Elements.{All-contains, All-head, All-nil, Contains-append_right}
use Rattle.std.proofs.lemmas.Option.{same_Some}
use Rattle.fugue_ids.proofs.IdentifierLemmas.{id_eq-refl, ne-id_eq}
use Rattle.fugue_ids.proofs.ListLemmas.{all_from_contains}
use Rattle.fugue_ids.specs.Identifiers.{Identifier, id_eq}
use Rattle.fugue_ids.specs.declared.op.Op.{Op}
use Rattle.origin_model.specs.operations.History.{holds, is_own, left_of}
use Rattle.origin_model.specs.operations.Verdict.{Lawful}
use Rattle.origin_model.specs.order.Order.{lefts, next_left}
use Rattle.origin_model.proofs.SharedLemmas.{IsHeld, chain-held, chain-other, chain-own, chain_above, own_id}
unfoldable use Rattle.origin_model.specs.order.Order.{chain}
use Rattle.order_proof.specs.Positions.{as_of}
use Rattle.order_proof.proofs.PositionLemmas.{as_of-other, as_of-own, new_id}
use Rattle.order_proof.specs.Certificates.{Chain}
use Rattle.order_proof.specs.Making.{common_count}
use Rattle.order_proof.specs.Parting.{PassedChains, age, makes, nothing_passed, with_one, with_other}
use Rattle.order_proof.proofs.WalkLemmas.{reverse-cons}
unfoldable use Rattle.order_proof.specs.Parting.{passed_up}

-- the turns of the way up
module _ (op : Op) (older : List Op) (one other : Option Identifier) where
  passed-one : makes one op ≡ true → makes other op ≡ false → passed_up (op ∷ older) one other ≡ with_one one (passed_up older (left_of op) other)
  unfolding passed_up
  passed-one e f = rw (e, f) refl

  passed-other : makes one op ≡ false → makes other op ≡ true → passed_up (op ∷ older) one other ≡ with_other other (passed_up older one (left_of op))
  unfolding passed_up
  passed-other e f = rw (e, f) refl

  passed-both : makes one op ≡ true → makes other op ≡ true → passed_up (op ∷ older) one other ≡ nothing_passed
  unfolding passed_up
  passed-both e f = rw (e, f) refl

  passed-neither : makes one op ≡ false → makes other op ≡ false → passed_up (op ∷ older) one other ≡ passed_up older one other
  unfolding passed_up
  passed-neither e f = rw (e, f) refl

-- two chains that begin with the same part the same at other members
common-behind : (front xs ys : Chain) → common_count xs ys ≡ 0 → common_count (front ++ xs) (front ++ ys) ≡ length front
common-behind [] xs ys e = e
common-behind (z ∷ front) xs ys e = rw (id_eq-refl z) (ap suc (common-behind front xs ys e))

other_first : (a b : Identifier) (n : ℕ) → (if id_eq a b then suc n else 0) ≡ 0 → id_eq a b ≡ false
other_first a b n e = elim (cases_Bool (id_eq a b)) [
  | inl t ↦ let f : suc n ≡ 0 = sym (ap (λ k. if k then suc n else 0) t) ∙ e in absurd (omega (arith, f))
  | inr f ↦ f
]

-- and one more member, that is not in the other one, changes nothing
pushed-one : (xs ys : Chain) (x : Identifier) → common_count xs ys ≡ 0 → All (λ m. m ≢ x) ys → common_count (xs ++ x ∷ []) ys ≡ 0
pushed-one [] [] x e fresh = refl
pushed-one [] (y ∷ ys) x e fresh = rw (ne-id_eq x y (λ same. All-head (λ m. m ≢ x) y ys fresh (sym same))) refl
pushed-one (a ∷ xs) [] x e fresh = refl
pushed-one (a ∷ xs) (y ∷ ys) x e fresh = rw (other_first a y (common_count xs ys) e) refl

pushed-other : (xs ys : Chain) (y : Identifier) → common_count xs ys ≡ 0 → All (λ m. m ≢ y) xs → common_count xs (ys ++ y ∷ []) ≡ 0
pushed-other [] ys y e fresh = refl
pushed-other (a ∷ xs) [] y e fresh = rw (ne-id_eq a y (All-head (λ m. m ≢ y) a xs fresh)) refl
pushed-other (a ∷ xs) (b ∷ ys) y e fresh = rw (other_first a b (common_count xs ys) e) refl

-- the chain from a member up
abbrev above : List Op → Option Identifier → Chain
above h o = chain_above next_left h o

above-none : (o : Option Identifier) → above [] o ≡ []
unfolding chain
above-none None = refl
above-none (Some x) = refl

above-other : (op : Op) (older : List Op) (o : Option Identifier) → makes o op ≡ false → above (op ∷ older) o ≡ above older o
above-other op older None e = refl
above-other op older (Some x) e = chain-other next_left op older x e

above-held : (h : List Op) (o : Option Identifier) → All (IsHeld h) (above h o)
above-held h None = All-nil (IsHeld h)
above-held h (Some x) = chain-held next_left h x

-- how two chains are split into what they have in common and what is passed
record IsSplit (h : List Op) (one other : Option Identifier) (passed : PassedChains) : Type 0 where
  front : Chain
  one_is : above h one ≡ front ++ reverse passed.one
  other_is : above h other ≡ front ++ reverse passed.other
  apart : common_count (reverse passed.one) (reverse passed.other) ≡ 0

module _ (op : Op) (older : List Op) (w : Lawful (op ∷ older)) (x : Identifier) (own : is_own x op ≡ true) where
  -- what is made now is in no older chain
  fresh_in : (o : Option Identifier) (front back : Chain) → above older o ≡ front ++ back → All (λ m. m ≢ x) back
  fresh_in o front back is = all_from_contains (λ m. m ≢ x) back (λ m member same.
      let held : IsHeld older m =
      All-contains (IsHeld older) (above older o) m (above-held older o) (subst (λ l. Contains l m) (sym is) (Contains-append_right front back m member)) in
      true≢false (sym held ∙ ap (λ z. holds older z) same ∙ new_id older op x w own))

  grown : (front rest : Chain) → above older (left_of op) ≡ front ++ reverse rest → above (op ∷ older) (Some x) ≡ front ++ reverse (x ∷ rest)
  grown front rest is =
      chain-own next_left op older x own ∙ ap (λ l. l ++ x ∷ []) is ∙ append_assoc front (reverse rest) (x ∷ []) ∙ ap (λ l. front ++ l) (sym (reverse-cons x rest))

  split_one : (other : Option Identifier) (passed : PassedChains) → makes other op ≡ false → IsSplit older (left_of op) other passed
      → IsSplit (op ∷ older) (Some x) other (with_one (Some x) passed)
  split_one other passed f s = record {
    front = s.front;
    one_is = grown s.front passed.one s.one_is;
    other_is = above-other op older other f ∙ s.other_is;
    apart = ap (λ l. common_count l (reverse passed.other)) (reverse-cons x passed.one)
        ∙ pushed-one (reverse passed.one) (reverse passed.other) x s.apart (fresh_in other s.front (reverse passed.other) s.other_is);
  }

  split_other : (one : Option Identifier) (passed : PassedChains) → makes one op ≡ false → IsSplit older one (left_of op) passed
      → IsSplit (op ∷ older) one (Some x) (with_other (Some x) passed)
  split_other one passed f s = record {
    front = s.front;
    one_is = above-other op older one f ∙ s.one_is;
    other_is = grown s.front passed.other s.other_is;
    apart = ap (common_count (reverse passed.one)) (reverse-cons x passed.other)
        ∙ pushed-other (reverse passed.one) (reverse passed.other) x s.apart (fresh_in one s.front (reverse passed.one) s.one_is);
  }

own_some : (o : Option Identifier) (op : Op) → makes o op ≡ true → (x : Identifier) × (o ≡ Some x) × (is_own x op ≡ true)
own_some None op e = absurd (false≢true e)
own_some (Some x) op e = (x, refl, e)

same_own : (x y : Identifier) (op : Op) → is_own x op ≡ true → is_own y op ≡ true → x ≡ y
same_own x y op e f = same_Some x y (sym (own_id op x e) ∙ own_id op y f)

pub passed-nothing : (one other : Option Identifier) → passed_up [] one other ≡ nothing_passed
unfolding passed_up
passed-nothing one other = refl

split : (h : List Op) → Lawful h → (one other : Option Identifier) → IsSplit h one other (passed_up h one other)
split [] w one other =
    subst (IsSplit [] one other) (sym (passed-nothing one other)) (record { front = []; one_is = above-none one; other_is = above-none other; apart = refl })
split (op ∷ older) w one other =
    elim (cases_Bool (makes one op)) [
      | inl e ↦
          let x = own_some one op e in
          elim (cases_Bool (makes other op)) [
            | inl f ↦
                let y = own_some other op f in
                let same : other ≡ one = y.1 ∙ ap Some (same_own y.0 x.0 op y.2 x.2) ∙ sym x.1 in
                subst (IsSplit (op ∷ older) one other) (sym (passed-both op older one other e f))
                (record {
                  front = above (op ∷ older) one;
                  one_is = sym (append-nil (above (op ∷ older) one));
                  other_is = ap (above (op ∷ older)) same ∙ sym (append-nil (above (op ∷ older) one));
                  apart = refl;
                })
            | inr f ↦
                subst (IsSplit (op ∷ older) one other) (sym (passed-one op older one other e f))
                (subst (λ o. IsSplit (op ∷ older) o other (with_one o (passed_up older (left_of op) other))) (sym x.1)
                (split_one op older w x.0 x.2 other (passed_up older (left_of op) other) f (split older w.1 (left_of op) other)))
          ]
      | inr e ↦
          elim (cases_Bool (makes other op)) [
            | inl f ↦
                let y = own_some other op f in
                subst (IsSplit (op ∷ older) one other) (sym (passed-other op older one other e f))
                (subst (λ o. IsSplit (op ∷ older) one o (with_other o (passed_up older one (left_of op)))) (sym y.1)
                (split_other op older w y.0 y.2 one (passed_up older one (left_of op)) e (split older w.1 one (left_of op))))
            | inr f ↦
                let s = split older w.1 one other in
                subst (IsSplit (op ∷ older) one other) (sym (passed-neither op older one other e f))
                (record { front = s.front; one_is = above-other op older one e ∙ s.one_is; other_is = above-other op older other f ∙ s.other_is; apart = s.apart })
          ]
    ]

-- so what is passed is what two chains have after their common front
module _ (h : List Op) (w : Lawful h) (x y : Identifier) where
  parts : IsSplit h (Some x) (Some y) (passed_up h (Some x) (Some y))
  parts = split h w (Some x) (Some y)

  count_is : common_count (lefts h x) (lefts h y) ≡ length parts.front
  count_is = (λ i. common_count (parts.one_is i) (parts.other_is i)) ∙ common-behind parts.front _ _ parts.apart

  pub passed_is_down : reverse (passed_up h (Some x) (Some y)).one ≡ drop (common_count (lefts h x) (lefts h y)) (lefts h x)
  passed_is_down = sym ((λ i. drop (count_is i) (parts.one_is i)) ∙ drop_at parts.front _ (length parts.front) refl)

  pub passed_is_other_down : reverse (passed_up h (Some x) (Some y)).other ≡ drop (common_count (lefts h x) (lefts h y)) (lefts h y)
  passed_is_other_down = sym ((λ i. drop (count_is i) (parts.other_is i)) ∙ drop_at parts.front _ (length parts.front) refl)

-- the history up to an operation is a part of the whole
pub as_of-short : (h : List Op) (x : Identifier) → length (as_of h x) ≤ length h
as_of-short [] x = omega arith
as_of-short (op ∷ older) x = elim (cases_Bool (is_own x op)) [
  | inl k ↦ omega (arith, ap length (as_of-own op older x k))
  | inr k ↦ omega (arith, ap length (as_of-other op older x k), as_of-short older x)
]

-- what is no newer than the history up to an older operation is not made by the newest one
age-older : (op : Op) (older : List Op) (o : Option Identifier) → age (op ∷ older) o ≤ length older → (makes o op ≡ false) × (age (op ∷ older) o ≡ age older o)
age-older op older None few = (refl, refl)
age-older op older (Some x) few = elim (cases_Bool (is_own x op)) [
  | inl k ↦ absurd (omega (arith, few, ap length (as_of-own op older x k)))
  | inr k ↦ (k, ap length (as_of-other op older x k))
]

-- the newer member is passed, and operations that are newer than both are passed over
pub passed_turn-one : (h : List Op) (x : Identifier) (other : Option Identifier) (op : Op) (later : List Op) → as_of h x ≡ op ∷ later → is_own x op ≡ true → Some x ≢ other
    → age h other ≤ suc (length later)
    → passed_up h (Some x) other ≡ with_one (Some x) (passed_up later (left_of op) other)
passed_turn-one [] x other op later is own apart few = cc is
passed_turn-one (e ∷ h) x other op later is own apart few =
    elim (cases_Bool (is_own x e)) [
      | inl k ↦
          let same : e ∷ h ≡ op ∷ later = sym (as_of-own e h x k) ∙ is in
          ap (λ l. passed_up l (Some x) other) same ∙ passed-one op later (Some x) other own (not_made other op own apart)
      | inr k ↦
          let older : as_of h x ≡ op ∷ later = sym (as_of-other e h x k) ∙ is in
          let r = age-older e h other (omega (arith, few, ap length older, as_of-short h x)) in
          passed-neither e h (Some x) other k r.0 ∙ passed_turn-one h x other op later older own apart (omega (arith, few, r.1))
    ]
  where
    not_made : (o : Option Identifier) (op : Op) → is_own x op ≡ true → Some x ≢ o → makes o op ≡ false
    not_made None op own apart = refl
    not_made (Some y) op own apart = false_from_ne_true (is_own y op) (λ k. apart (ap Some (same_own x y op own k)))

pub passed_turn-other : (h : List Op) (y : Identifier) (one : Option Identifier) (op : Op) (later : List Op) → as_of h y ≡ op ∷ later → is_own y op ≡ true → Some y ≢ one
    → age h one ≤ suc (length later)
    → passed_up h one (Some y) ≡ with_other (Some y) (passed_up later one (left_of op))
passed_turn-other [] y one op later is own apart few = cc is
passed_turn-other (e ∷ h) y one op later is own apart few =
    elim (cases_Bool (is_own y e)) [
      | inl k ↦
          let same : e ∷ h ≡ op ∷ later = sym (as_of-own e h y k) ∙ is in
          ap (λ l. passed_up l one (Some y)) same ∙ passed-other op later one (Some y) (not_made one op own apart) own
      | inr k ↦
          let older : as_of h y ≡ op ∷ later = sym (as_of-other e h y k) ∙ is in
          let r = age-older e h one (omega (arith, few, ap length older, as_of-short h y)) in
          passed-neither e h one (Some y) r.0 k ∙ passed_turn-other h y one op later older own apart (omega (arith, few, r.1))
    ]
  where
    not_made : (o : Option Identifier) (op : Op) → is_own y op ≡ true → Some y ≢ o → makes o op ≡ false
    not_made None op own apart = refl
    not_made (Some x) op own apart = false_from_ne_true (is_own x op) (λ k. apart (ap Some (same_own y x op own k)))

-- nothing is passed of members that are not there
pub passed-missing : (h : List Op) (one other : Option Identifier) → age h one ≡ 0 → age h other ≡ 0 → passed_up h one other ≡ nothing_passed
unfolding passed_up
passed-missing [] one other e f = refl
passed-missing (op ∷ h) one other e f =
    let r = age-older op h one (omega (arith, e)) in
    let s = age-older op h other (omega (arith, f)) in
    passed-neither op h one other r.0 s.0 ∙ passed-missing h one other (sym r.1 ∙ e) (sym s.1 ∙ f)

-- or where the next member is one of both
pub passed-same : (h : List Op) (o : Option Identifier) → passed_up h o o ≡ nothing_passed
unfolding passed_up
passed-same [] o = refl
passed-same (op ∷ h) o = elim (cases_Bool (makes o op)) [
  | inl e ↦ passed-both op h o o e e
  | inr e ↦ passed-neither op h o o e e ∙ passed-same h o
]
