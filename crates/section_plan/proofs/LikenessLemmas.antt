-- How far two lists are the same.
use Rattle.std.proofs.Common.{Bool, ◌&&◌, ◌||◌, List, [], ap, arith, drop, get_or, length, nat_eq, refl, true, false, ℕ, ◌+◌, ◌-◌, ◌<◌, ◌≤◌, ◌∙◌, ◌∷◌, ◌≡◌, cond, reverse, suc}
use Rattle.std.specs.List.{common_prefix_len, list_any}
use Rattle.std.specs.Char.Unicode.Alphabetic.{is_alphabetic}
use Rattle.section_plan.specs.Likeness.{alike, longer_text, shares_third}
use Rattle.std.proofs.Common.{eq-eqb, inl, inr}
use Rattle.std.proofs.lemmas.Bool.{cases_lt, lt-leb, ne_eqb}
use Rattle.std.proofs.lemmas.List.{drop_all, drop_more, get_or-reverse, length-reverse}

heads : (x y : ℕ) (xs ys : List ℕ) → nat_eq x y ≡ true → common_prefix_len nat_eq (x ∷ xs) (y ∷ ys) ≡ 1 + common_prefix_len nat_eq xs ys
heads x y xs ys e = ap (λ b. cond b (1 + common_prefix_len nat_eq xs ys) 0) e

differ : (x y : ℕ) (xs ys : List ℕ) → nat_eq x y ≡ false → common_prefix_len nat_eq (x ∷ xs) (y ∷ ys) ≡ 0
differ x y xs ys e = ap (λ b. cond b (1 + common_prefix_len nat_eq xs ys) 0) e

-- one more member is the same
pub common_more : (a b : List ℕ) (k : ℕ) → k < length a → k < length b → nat_eq (get_or a k 0) (get_or b k 0) ≡ true
    → common_prefix_len nat_eq a b ≡ k + common_prefix_len nat_eq (drop k a) (drop k b)
    → common_prefix_len nat_eq a b ≡ (k + 1) + common_prefix_len nat_eq (drop (k + 1) a) (drop (k + 1) b)
common_more a b k l m e was =
    let x = drop_more a k 0 l in
    let y = drop_more b k 0 m in
    let step : common_prefix_len nat_eq (drop k a) (drop k b) ≡ 1 + common_prefix_len nat_eq (drop (k + 1) a) (drop (k + 1) b) =
    rw (x, y) (heads (get_or a k 0) (get_or b k 0) (drop (k + 1) a) (drop (k + 1) b) e) in
    omega (arith, was, step)

-- or it is another
pub common_until : (a b : List ℕ) (k : ℕ) → k < length a → k < length b → nat_eq (get_or a k 0) (get_or b k 0) ≡ false
    → common_prefix_len nat_eq a b ≡ k + common_prefix_len nat_eq (drop k a) (drop k b)
    → k ≡ common_prefix_len nat_eq a b
common_until a b k l m e was =
    let x = drop_more a k 0 l in
    let y = drop_more b k 0 m in
    let step : common_prefix_len nat_eq (drop k a) (drop k b) ≡ 0 = rw (x, y) (differ (get_or a k 0) (get_or b k 0) (drop (k + 1) a) (drop (k + 1) b) e) in
    omega (arith, was, step)

none_left : (b : List ℕ) → common_prefix_len nat_eq [] b ≡ 0
none_left b = refl

none_right : (a : List ℕ) → common_prefix_len nat_eq a [] ≡ 0
none_right [] = refl
none_right (x ∷ a) = refl

-- or one of them ends
pub common_all : (a b : List ℕ) (k : ℕ) → k ≤ length a → k ≤ length b → (k < length a → k < length b → ⊥)
    → common_prefix_len nat_eq a b ≡ k + common_prefix_len nat_eq (drop k a) (drop k b) → k ≡ common_prefix_len nat_eq a b
common_all a b k l m end was = elim (cases_lt k (length a)) [
  | inl x ↦ elim (cases_lt k (length b)) [
    | inl y ↦ absurd (end x y)
    | inr y ↦ let e = ap (common_prefix_len nat_eq (drop k a)) (drop_all k b y) ∙ none_right (drop k a) in omega (arith, was, e)
  ]
  | inr x ↦ let e = ap (λ d. common_prefix_len nat_eq d (drop k b)) (drop_all k a x) in omega (arith, was, e)
]

-- the same from the end on
pub end_more : (a b : List ℕ) (k : ℕ) → k < length a → k < length b → get_or a (length a - 1 - k) 0 ≡ get_or b (length b - 1 - k) 0
    → common_prefix_len nat_eq (reverse a) (reverse b) ≡ k + common_prefix_len nat_eq (drop k (reverse a)) (drop k (reverse b))
    → common_prefix_len nat_eq (reverse a) (reverse b) ≡ (k + 1) + common_prefix_len nat_eq (drop (k + 1) (reverse a)) (drop (k + 1) (reverse b))
end_more a b k l m e was =
    common_more (reverse a) (reverse b) k (omega (arith, length-reverse a)) (omega (arith, length-reverse b))
    (rw (get_or-reverse a k 0 l, get_or-reverse b k 0 m) (eq-eqb (get_or a (length a - 1 - k) 0) (get_or b (length b - 1 - k) 0) e)) was

pub end_until : (a b : List ℕ) (k : ℕ) → k < length a → k < length b → (get_or a (length a - 1 - k) 0 ≡ get_or b (length b - 1 - k) 0 → ⊥)
    → common_prefix_len nat_eq (reverse a) (reverse b) ≡ k + common_prefix_len nat_eq (drop k (reverse a)) (drop k (reverse b))
    → k ≡ common_prefix_len nat_eq (reverse a) (reverse b)
end_until a b k l m e was =
    common_until (reverse a) (reverse b) k (omega (arith, length-reverse a)) (omega (arith, length-reverse b))
    (rw (get_or-reverse a k 0 l, get_or-reverse b k 0 m) (ne_eqb (get_or a (length a - 1 - k) 0) (get_or b (length b - 1 - k) 0) e)) was

pub end_all : (a b : List ℕ) (k : ℕ) → k ≤ length a → k ≤ length b → (k < length a → k < length b → ⊥)
    → common_prefix_len nat_eq (reverse a) (reverse b) ≡ k + common_prefix_len nat_eq (drop k (reverse a)) (drop k (reverse b))
    → k ≡ common_prefix_len nat_eq (reverse a) (reverse b)
end_all a b k l m end was =
    common_all (reverse a) (reverse b) k (omega (arith, length-reverse a)) (omega (arith, length-reverse b))
    (λ x y. end (omega (arith, length-reverse a)) (omega (arith, length-reverse b))) was

and_false : (b : Bool) → b && false ≡ false
and_false true = refl
and_false false = refl

no_third : (n : ℕ) → shares_third 0 (suc n) ≡ false
no_third n = lt-leb (suc n) 0 (omega arith)

none_shared : (long : List ℕ) → list_any is_alphabetic long && (shares_third 0 (length long) || shares_third 0 (length long)) ≡ false
none_shared [] = refl
none_shared (x ∷ long) = ap (λ b. list_any is_alphabetic (x ∷ long) && (b || b)) (no_third (length long)) ∙ and_false (list_any is_alphabetic (x ∷ long))

-- an empty text is alike with none
pub empty_old : (b : List ℕ) → alike [] b ≡ false
empty_old b = none_shared (longer_text [] b)

pub empty_new : (a : List ℕ) → alike a [] ≡ false
empty_new a =
    (λ i. list_any is_alphabetic (longer_text a [])
    && (shares_third (none_right a i) (length (longer_text a [])) || shares_third (none_right (reverse a) i) (length (longer_text a []))))
    ∙ none_shared (longer_text a [])
