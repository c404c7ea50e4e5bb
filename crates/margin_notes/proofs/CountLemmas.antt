-- Lists of identifiers in order: how many members stand before one, and which number it has.
use Rattle.margin_notes.proofs.Words.{All, All-cons, All-contains, All-weaker, AllPairs, Bool, Contains, Identifier, List, None, Some, [], all_from_contains, all_pairs_head}
use Rattle.margin_notes.proofs.Words.{all_pairs_tail, ap, arith, cases_Bool, cond, count_by, false, id_eq, if◌then◌else◌, inl, inr, length, not, or_right, refl, slice_get, subst}
use Rattle.margin_notes.proofs.Words.{suc, sym, take, true, true≢false, zero, ℕ, ◌+◌, ◌<◌, ◌||◌, ◌∙◌, ◌∷◌, ◌≡◌}
use Rattle.std.specs.Prelude.{nat_lt}
use Rattle.std.proofs.lemmas.Bool.{false_from_ne_true}
use Rattle.std.proofs.lemmas.Bool.Decides.{nat_tests}
use Rattle.fugue_ids.specs.Listed.{index_of}
use Rattle.fugue_ids.proofs.IdentifierLemmas.{cases_id, eq-id_eq, index_of-here, index_of-there, ne-id_eq}
use Rattle.fugue_ids.proofs.ListLemmas.{contains_cases, contains_here, contains_none, contains_there}
use Rattle.run_store.specs.Cells.{cell_ids, cells_shown, shown_before}
use Rattle.run_store.specs.declared.cell.Cell.{Cell}
use Rattle.margin_notes.specs.Listing.{number_from}
use Rattle.origin_model.proofs.edits.SplitLemmas.{get_in}
use Rattle.section_list.proofs.ShownLemmas.{visible_listed}
use Rattle.origin_model.proofs.SharedLemmas.{count-no, count-yes, none_pass}

lt_suc : (i j : ℕ) → nat_lt (suc i) (suc j) ≡ nat_lt i j
lt_suc i j = grind (arith, nat_tests)

lt_first : (i : ℕ) → nat_lt 0 (suc i) ≡ true
lt_first i = grind (arith, nat_tests)

lt_none : (i : ℕ) → nat_lt (suc i) 0 ≡ false
lt_none i = grind (arith, nat_tests)

-- one that is not the first is in the rest
in_back : (e : Identifier) (es : List Identifier) (x : Identifier) → (x ≡ e → ⊥) → Contains (e ∷ es) x → Contains es x
in_back e es x n m = elim (contains_cases e es x m) [ inl d ↦ absurd (n (sym d)) | inr k ↦ k ]

-- of two members the one in front is in the relation to the other
pub ordered_at : (R : Identifier → Identifier → Bool) (xs : List Identifier) (i j : ℕ) (x y : Identifier) → AllPairs (λ a b. R a b ≡ true) xs
    → slice_get xs i ≡ Some x → slice_get xs j ≡ Some y → i < j → R x y ≡ true
ordered_at R [] i j x y o a b l = cc
ordered_at R (z ∷ xs) i zero x y o a b l = absurd (omega (arith, l))
ordered_at R (z ∷ xs) zero (suc j) x y o a b l =
    let d : z ≡ x = cc in
    subst (λ w. R w y ≡ true) d (All-contains (λ w. R z w ≡ true) xs y (all_pairs_head (λ a b. R a b ≡ true) z xs o) (get_in xs j y b))
ordered_at R (z ∷ xs) (suc i) (suc j) x y o a b l = ordered_at R xs i j x y (all_pairs_tail (λ a b. R a b ≡ true) z xs o) a b (omega (arith, l))

-- no number is that of what is not there
pub no_number : (k : ℕ) (xs : List Identifier) (s : Identifier) → (Contains xs s → ⊥) → number_from k xs s ≡ None
no_number k [] s n = refl
no_number k (x ∷ xs) s n =
    ap (λ b. if b then Some k else number_from (suc k) xs s) (ne-id_eq x s (λ e. n (subst (Contains (x ∷ xs)) e (contains_here x xs))))
    ∙ no_number (suc k) xs s (λ c. n (contains_there x xs s c))

-- what has a number is there
pub number_in : (k : ℕ) (xs : List Identifier) (s : Identifier) (n : ℕ) → number_from k xs s ≡ Some n → Contains xs s
number_in k [] s n e = cc
number_in k (x ∷ xs) s n e =
    elim (cases_id x s) [
      | inl d ↦ subst (Contains (x ∷ xs)) d (contains_here x xs)
      | inr d ↦ contains_there x xs s (number_in (suc k) xs s n (sym (ap (λ b. if b then Some k else number_from (suc k) xs s) (ne-id_eq x s d)) ∙ e))
    ]

-- a count with one more, which is not b
step : (R : Identifier → Bool) (b x : Identifier) (xs : List Identifier) → id_eq x b ≡ false
    → count_by (λ y. id_eq y b || R y) xs ≡ count_by R xs → count_by (λ y. id_eq y b || R y) (x ∷ xs) ≡ count_by R (x ∷ xs)
step R b x xs d e =
    elim (cases_Bool (R x)) [
      | inl k ↦ count-yes (λ y. id_eq y b || R y) x xs (or_right (id_eq x b) (R x) k) ∙ ap suc e ∙ sym (count-yes R x xs k)
      | inr k ↦ count-no (λ y. id_eq y b || R y) x xs ((λ i. d i || k i)) ∙ e ∙ sym (count-no R x xs k)
    ]

-- where b is not there, it is not counted
pub not_up_to : (R : Identifier → Bool) (b : Identifier) (xs : List Identifier) → (Contains xs b → ⊥) → count_by (λ y. id_eq y b || R y) xs ≡ count_by R xs
not_up_to R b [] n = refl
not_up_to R b (x ∷ xs) n =
    step R b x xs (ne-id_eq x b (λ e. n (subst (Contains (x ∷ xs)) e (contains_here x xs)))) (not_up_to R b xs (λ c. n (contains_there x xs b c)))

module _ (R : Identifier → Identifier → Bool) (irrefl : (a : Identifier) → R a a ≡ false) (trans : (a b c : Identifier) → R a b ≡ true → R b c ≡ true → R a c ≡ true) where
  abbrev T : Identifier → Identifier → Type 0
  T a b = R a b ≡ true

  not_back : (x y : Identifier) → R x y ≡ true → R y x ≡ false
  not_back x y e = false_from_ne_true (R y x) (λ k. true≢false (sym (trans x y x e k) ∙ irrefl x))

  none_first : (x : Identifier) (xs : List Identifier) → AllPairs T (x ∷ xs) → All (λ y. R y x ≡ false) (x ∷ xs)
  none_first x xs o = All-cons (λ y. R y x ≡ false) x xs (irrefl x) (All-weaker (T x) (λ y. R y x ≡ false) (not_back x) xs (all_pairs_head T x xs o))

  -- what stands after the first is another
  after_other : (e : Identifier) (es : List Identifier) (x : Identifier) → AllPairs T (e ∷ es) → Contains es x → x ≡ e → ⊥
  after_other e es x o c d = true≢false (sym (All-contains (T e) es x (all_pairs_head T e es o) c) ∙ ap (R e) d ∙ irrefl e)

  -- as many members stand before one as there are in front of it
  pub count_at : (xs : List Identifier) (i : ℕ) (x : Identifier) → AllPairs T xs → slice_get xs i ≡ Some x → count_by (λ y. R y x) xs ≡ i
  count_at [] i x o e = cc
  count_at (y ∷ xs) zero x o e =
      let d : y ≡ x = cc in
      subst (λ z. count_by (λ w. R w z) (y ∷ xs) ≡ 0) d (none_pass (λ w. R w y) (y ∷ xs) (none_first y xs o))
  count_at (y ∷ xs) (suc i) x o e =
      count-yes (λ z. R z x) y xs (All-contains (T y) xs x (all_pairs_head T y xs o) (get_in xs i x e)) ∙ ap suc (count_at xs i x (all_pairs_tail T y xs o) e)

  -- of two members the one with the lower index is the one before
  pub earlier : (xs : List Identifier) (a b : Identifier) → AllPairs T xs → Contains xs a → Contains xs b → nat_lt (index_of xs a) (index_of xs b) ≡ R a b
  earlier [] a b o c d = absurd (contains_none a c)
  earlier (e ∷ es) a b o c d =
      elim (cases_id a e) [
        | inl x ↦ elim (cases_id b e) [
          | inl y ↦ (λ i. nat_lt (index_of-here e es a x i) (index_of-here e es b y i)) ∙ sym (ap (λ z. R z b) (x ∙ sym y) ∙ irrefl b)
          | inr y ↦ (λ i. nat_lt (index_of-here e es a x i) (index_of-there e es b y i)) ∙ lt_first (index_of es b)
              ∙ sym (ap (λ z. R z b) x ∙ All-contains (T e) es b (all_pairs_head T e es o) (in_back e es b y d))
        ]
        | inr x ↦ elim (cases_id b e) [
          | inl y ↦ (λ i. nat_lt (index_of-there e es a x i) (index_of-here e es b y i)) ∙ lt_none (index_of es a)
              ∙ sym (ap (R a) y ∙ not_back e a (All-contains (T e) es a (all_pairs_head T e es o) (in_back e es a x c)))
          | inr y ↦ (λ i. nat_lt (index_of-there e es a x i) (index_of-there e es b y i)) ∙ lt_suc (index_of es a) (index_of es b)
              ∙ earlier es a b (all_pairs_tail T e es o) (in_back e es a x c) (in_back e es b y d)
        ]
      ]

  -- so many visible cells stand before the cell of x
  pub counted_before : (cells : List Cell) (x : Identifier) → AllPairs T (cell_ids cells) → Contains (cell_ids cells) x
      → shown_before cells x ≡ count_by (λ y. R y x) (cell_ids (cells_shown cells))
  counted_before [] x o c = absurd (contains_none x c)
  counted_before (e ∷ es) x o c =
      let q : Identifier → Bool = λ y. R y x in
      let ids : List Identifier = cell_ids es in
      elim (cases_id x e.id) [
        | inl d ↦
            let none : All (λ y. q y ≡ false) (e.id ∷ ids) = subst (λ z. All (λ y. R y z ≡ false) (e.id ∷ ids)) (sym d) (none_first e.id ids o) in
            ap (λ n. length (cells_shown (take n (e ∷ es)))) (index_of-here e.id ids x d)
            ∙ sym (none_pass q (cell_ids (cells_shown (e ∷ es)))
            (all_from_contains (λ y. q y ≡ false) (cell_ids (cells_shown (e ∷ es))) (λ y k. All-contains (λ z. q z ≡ false) (e.id ∷ ids) y none (visible_listed (e ∷ es) y k))))
        | inr d ↦
            let k : Contains ids x = in_back e.id ids x d c in
            let first : q e.id ≡ true = All-contains (T e.id) ids x (all_pairs_head T e.id ids o) k in
            let front : List Cell = cells_shown (take (index_of ids x) es) in
            let rest : List Cell = cells_shown es in
            let same : length front ≡ count_by q (cell_ids rest) = counted_before es x (all_pairs_tail T e.id ids o) k in
            ap (λ n. length (cells_shown (take n (e ∷ es)))) (index_of-there e.id ids x d)
            ∙ elim e.hidden as (λ (b : Bool). length (cond (not b) (e ∷ front) front) ≡ count_by q (cell_ids (cond (not b) (e ∷ rest) rest))) [
              | true ↦ same
              | false ↦ ap suc same ∙ sym (count-yes q e.id (cell_ids rest) first)
            ]
      ]

  -- the number of a member
  pub number : (k : ℕ) (xs : List Identifier) (s : Identifier) → AllPairs T xs → Contains xs s → number_from k xs s ≡ Some (count_by (λ y. R y s) xs + k)
  number k [] s o c = absurd (contains_none s c)
  number k (x ∷ xs) s o c =
      elim (cases_id x s) [
        | inl d ↦
            let n : count_by (λ y. R y s) (x ∷ xs) ≡ 0 = subst (λ z. count_by (λ y. R y z) (x ∷ xs) ≡ 0) d (none_pass (λ y. R y x) (x ∷ xs) (none_first x xs o)) in
            let e : k ≡ count_by (λ y. R y s) (x ∷ xs) + k = omega (arith, n) in
            ap (λ b. if b then Some k else number_from (suc k) xs s) (eq-id_eq x s d) ∙ ap Some e
        | inr d ↦
            let m : Contains xs s = in_back x xs s (λ e. d (sym e)) c in
            let n : count_by (λ y. R y s) (x ∷ xs) ≡ suc (count_by (λ y. R y s) xs) = count-yes (λ y. R y s) x xs (All-contains (T x) xs s (all_pairs_head T x xs o) m) in
            let e : count_by (λ y. R y s) xs + suc k ≡ count_by (λ y. R y s) (x ∷ xs) + k = omega (arith, n) in
            ap (λ b. if b then Some k else number_from (suc k) xs s) (ne-id_eq x s d) ∙ number (suc k) xs s (all_pairs_tail T x xs o) m ∙ ap Some e
      ]

  -- where b is there, it is counted besides those before it
  pub up_to : (b : Identifier) (xs : List Identifier) → AllPairs T xs → Contains xs b → count_by (λ y. id_eq y b || R y b) xs ≡ suc (count_by (λ y. R y b) xs)
  up_to b [] o c = absurd (contains_none b c)
  up_to b (x ∷ xs) o c =
      elim (cases_id x b) [
        | inl d ↦
            count-yes (λ y. id_eq y b || R y b) x xs (ap (λ t. t || R x b) (eq-id_eq x b d))
            ∙ ap suc (not_up_to (λ y. R y b) b xs (λ k. after_other x xs b o k (sym d))
            ∙ sym (count-no (λ y. R y b) x xs (ap (λ z. R z b) d ∙ irrefl b)))
        | inr d ↦
            let m : Contains xs b = in_back x xs b (λ e. d (sym e)) c in
            let first : R x b ≡ true = All-contains (T x) xs b (all_pairs_head T x xs o) m in
            count-yes (λ y. id_eq y b || R y b) x xs (or_right (id_eq x b) (R x b) first)
            ∙ ap suc (up_to b xs (all_pairs_tail T x xs o) m ∙ sym (count-yes (λ y. R y b) x xs first))
      ]
