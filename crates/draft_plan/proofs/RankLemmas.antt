-- Members of lists that are chosen: how many, and in which order.
use Rattle.std.proofs.Common.{Bool, List, [], ap, arith, cond, false, inl, inr, length, map, refl, suc, sym, true, zero, ℕ, ◌+◌, ◌<◌, ◌≤◌, ◌∙◌, ◌∷◌, ◌≡◌}
use Rattle.std.specs.Prelude.{Some, filter, slice_get}
use Rattle.std.proofs.lemmas.Bool.{cases_Bool, cases_lt, true≢false}
use Rattle.std.proofs.lemmas.List.Kept.{AllPairs-filter}
use Rattle.std.proofs.lemmas.List.Sums.{length-filter}
use Rattle.fugue_ids.specs.Identifiers.{Identifier}
use Rattle.catalogue_notes.proofs.PartLemmas.{Distinct, filter_no, filter_yes}
use Rattle.section_plan.specs.Rises.{IsChosen, chosen_count}
use Rattle.draft_plan.proofs.RevisionLemmas.{one_place}

-- how many of the first members are chosen
abbrev rank : (Identifier → Bool) → List Identifier → ℕ → ℕ
rank q [] n = 0
rank q (x ∷ xs) zero = 0
rank q (x ∷ xs) (suc n) = cond (q x) (suc (rank q xs n)) (rank q xs n)

rank_yes : (q : Identifier → Bool) (x : Identifier) (xs : List Identifier) (n : ℕ) → q x ≡ true → rank q (x ∷ xs) (suc n) ≡ suc (rank q xs n)
rank_yes q x xs n e = ap (λ b. cond b (suc (rank q xs n)) (rank q xs n)) e

rank_no : (q : Identifier → Bool) (x : Identifier) (xs : List Identifier) (n : ℕ) → q x ≡ false → rank q (x ∷ xs) (suc n) ≡ rank q xs n
rank_no q x xs n e = ap (λ b. cond b (suc (rank q xs n)) (rank q xs n)) e

-- a member that is chosen stands among those that are, after as many as are chosen in front of it
rank_at : (q : Identifier → Bool) (xs : List Identifier) (n : ℕ) (s : Identifier) → slice_get xs n ≡ Some s → q s ≡ true → slice_get (filter q xs) (rank q xs n) ≡ Some s
rank_at q [] n s e t = cc
rank_at q (x ∷ xs) zero s e t = let same : x ≡ s = cc in ap (λ l. slice_get l 0) (filter_yes q x xs (ap q same ∙ t)) ∙ ap Some same
rank_at q (x ∷ xs) (suc n) s e t = elim (cases_Bool (q x)) [
  | inl y ↦ ap (λ l. slice_get l (rank q (x ∷ xs) (suc n))) (filter_yes q x xs y) ∙ (ap (slice_get (x ∷ filter q xs)) (rank_yes q x xs n y) ∙ rank_at q xs n s e t)
  | inr y ↦ ap (λ l. slice_get l (rank q (x ∷ xs) (suc n))) (filter_no q x xs y) ∙ (ap (slice_get (filter q xs)) (rank_no q x xs n y) ∙ rank_at q xs n s e t)
]

rank_le : (q : Identifier → Bool) (xs : List Identifier) (m n : ℕ) → m ≤ n → rank q xs m ≤ rank q xs n
rank_le q [] m n l = omega arith
rank_le q (x ∷ xs) zero n l = omega arith
rank_le q (x ∷ xs) (suc m) zero l = absurd (omega (arith, l))
rank_le q (x ∷ xs) (suc m) (suc n) l =
    let less = rank_le q xs m n (omega (arith, l)) in
    elim (cases_Bool (q x)) [ inl y ↦ omega (arith, less, rank_yes q x xs m y, rank_yes q x xs n y) | inr y ↦ omega (arith, less, rank_no q x xs m y, rank_no q x xs n y) ]

rank_less : (q : Identifier → Bool) (xs : List Identifier) (m n : ℕ) (s : Identifier) → m < n → slice_get xs m ≡ Some s → q s ≡ true → rank q xs m < rank q xs n
rank_less q [] m n s l e t = cc
rank_less q (x ∷ xs) zero zero s l e t = absurd (omega (arith, l))
rank_less q (x ∷ xs) zero (suc n) s l e t = let same : x ≡ s = cc in omega (arith, rank_yes q x xs n (ap q same ∙ t))
rank_less q (x ∷ xs) (suc m) zero s l e t = absurd (omega (arith, l))
rank_less q (x ∷ xs) (suc m) (suc n) s l e t =
    let less = rank_less q xs m n s (omega (arith, l)) e t in
    elim (cases_Bool (q x)) [ inl y ↦ omega (arith, less, rank_yes q x xs m y, rank_yes q x xs n y) | inr y ↦ omega (arith, less, rank_no q x xs m y, rank_no q x xs n y) ]

-- where those that are chosen stand in one order in two lists, two of them do
pub one_order : (q : Identifier → Bool) (xs ys : List Identifier) (a b x y : ℕ) (s t : Identifier) → Distinct ys → filter q xs ≡ filter q ys → q s ≡ true → q t ≡ true
    → slice_get xs a ≡ Some s → slice_get xs b ≡ Some t
    → slice_get ys x ≡ Some s → slice_get ys y ≡ Some t → a < b → x < y
one_order q xs ys a b x y s t apart same p r at_a at_b at_x at_y l =
    let zs : List Identifier = filter q ys in
    let once : Distinct zs = AllPairs-filter (λ u v. u ≡ v → ⊥) q ys apart in
    let first : rank q xs a ≡ rank q ys x =
    one_place zs (rank q xs a) (rank q ys x) s once (ap (λ l. slice_get l (rank q xs a)) (sym same) ∙ rank_at q xs a s at_a p) (rank_at q ys x s at_x p) in
    let next : rank q xs b ≡ rank q ys y =
    one_place zs (rank q xs b) (rank q ys y) t once (ap (λ l. slice_get l (rank q xs b)) (sym same) ∙ rank_at q xs b t at_b r) (rank_at q ys y t at_y r) in
    let less = rank_less q xs a b s l at_a p in
    elim (cases_lt x y) [ inl in_front ↦ in_front | inr no_less ↦ let more = rank_le q ys y x no_less in absurd (omega (arith, first, next, less, more)) ]

-- a flag for each member, where it is chosen
pub flag_at : (q : Identifier → Bool) (xs : List Identifier) (n : ℕ) → IsChosen (map q xs) n → (s : Identifier) × (slice_get xs n ≡ Some s) × (q s ≡ true)
flag_at q [] n e = absurd (true≢false (sym e))
flag_at q (x ∷ xs) zero e = (x, refl, e)
flag_at q (x ∷ xs) (suc n) e = flag_at q xs n e

one_more : (b : Bool) (bs : List Bool) → chosen_count (b ∷ bs) ≡ cond b 1 0 + chosen_count bs
one_more true bs = omega (arith, sym (length-filter (λ (c : Bool). c) (true ∷ bs)), length-filter (λ (c : Bool). c) bs)
one_more false bs = omega (arith, sym (length-filter (λ (c : Bool). c) (false ∷ bs)), length-filter (λ (c : Bool). c) bs)

-- there are as many flags as members that are chosen
pub flag_count : (q : Identifier → Bool) (xs : List Identifier) → chosen_count (map q xs) ≡ length (filter q xs)
flag_count q [] = refl
flag_count q (x ∷ xs) =
    let rest = flag_count q xs in
    elim (cases_Bool (q x)) [
      | inl y ↦
          let e : chosen_count (q x ∷ map q xs) ≡ 1 + chosen_count (map q xs) = one_more (q x) (map q xs) ∙ ap (λ b. cond b 1 0 + chosen_count (map q xs)) y in
          omega (arith, e, rest, ap length (filter_yes q x xs y))
      | inr y ↦
          let e : chosen_count (q x ∷ map q xs) ≡ 0 + chosen_count (map q xs) = one_more (q x) (map q xs) ∙ ap (λ b. cond b 1 0 + chosen_count (map q xs)) y in
          omega (arith, e, rest, ap length (filter_no q x xs y))
    ]

-- and no more flags than members, where each flag is of one that is chosen
pub flags_most : (q : Identifier → Bool) (flags : List Bool) (xs : List Identifier) → length flags ≡ length xs
    → ((n : ℕ) (s : Identifier) → IsChosen flags n → slice_get xs n ≡ Some s → q s ≡ true)
    → chosen_count flags ≤ length (filter q xs)
flags_most q [] xs long each = omega arith
flags_most q (b ∷ bs) [] long each = absurd (omega (arith, long))
flags_most q (b ∷ bs) (x ∷ xs) long each =
    let rest = flags_most q bs xs (omega (arith, long)) (λ n s c e. each (suc n) s c e) in
    by b (one_more b bs) (each 0 x) rest
  where
    by : (c : Bool) → chosen_count (b ∷ bs) ≡ cond c 1 0 + chosen_count bs → (c ≡ true → slice_get (x ∷ xs) 0 ≡ Some x → q x ≡ true) → chosen_count bs ≤ length (filter q xs)
        → chosen_count (b ∷ bs) ≤ length (filter q (x ∷ xs))
    by true e here rest = let long = ap length (filter_yes q x xs (here refl refl)) in omega (arith, e, rest, long)
    by false e here rest = elim (cases_Bool (q x))
        [ inl y ↦ let long = ap length (filter_yes q x xs y) in omega (arith, e, rest, long) | inr y ↦ let long = ap length (filter_no q x xs y) in omega (arith, e, rest, long) ]
