-- The lines of letters, counted one by one, are those of the runs that one replica made.
use Rattle.std.proofs.Common.{List, [], ap, arith, drop-cons, false, get_or, inl, inr, length, refl, suc, sym, true, ℕ, ◌+◌, ◌++◌, ◌<◌, ◌≤◌, ◌∙◌, ◌∷◌, ◌≡◌}
use Rattle.std.specs.Prelude.{Bool, None, Option, Some, flat_map, if◌then◌else◌, nat_eq, slice_get, sum_by, drop}
use Rattle.std.proofs.lemmas.Bool.{cases_Bool, eqb-true}
use Rattle.std.proofs.lemmas.List.{append-nil, drop_all}
use Rattle.fugue_ids.specs.declared.op.Op.{Op}
use Rattle.std.proofs.lemmas.List.Sums.{sum_by-cons}
use Rattle.fugue_ids.specs.Identifiers.{Identifier}
use Rattle.change_marks.specs.Authors.{authors_from, author_line, passage_line, section_authors}
use Rattle.change_marks.specs.Steps.{letters_before, count_in, line_before, passage_lines, passage_after}
use Rattle.change_marks.specs.Stretches.{Stretch, by_replica, joined_stretch}
use Rattle.change_marks.specs.declared.passages.Passage.{Passage}

-- the lines after letters of an open passage, where these stretches are to come
abbrev lines_after : ℕ → ℕ → List (Stretch ℕ) → List ℕ
lines_after r n [] = passage_line r n
lines_after r n (s ∷ ss) = if nat_eq r s.key then passage_line r (n + length s.elements) ++ flat_map author_line ss else passage_line r n ++ flat_map author_line (s ∷ ss)

-- a letter in front of stretches, by the first one that comes of it
abbrev first_of_joined : ℕ → Identifier → List (Stretch ℕ) → Type 0
first_of_joined n x ss =
    (s : Stretch ℕ) × (rest : List (Stretch ℕ)) × (joined_stretch nat_eq x.replica x ss ≡ s ∷ rest) × (s.key ≡ x.replica)
    × (lines_after x.replica (n + 1) ss ≡ passage_line x.replica (n + length s.elements) ++ flat_map author_line rest)

alone : Identifier → Stretch ℕ
alone x = record { key = x.replica; elements = x ∷ [] }

joins_first : (n : ℕ) (x : Identifier) (ss : List (Stretch ℕ)) → first_of_joined n x ss
unfolding alone
joins_first n x [] = (alone x, [], refl, refl, sym (append-nil (passage_line x.replica (n + 1))))
joins_first n x (s ∷ ss) =
    let after : Bool → List (Stretch ℕ) = λ b. if b then record { key = x.replica; elements = x ∷ s.elements } ∷ ss else record { key = x.replica; elements = x ∷ [] } ∷ s ∷ ss in
    let lines : Bool → List ℕ =
    λ b. if b then passage_line x.replica (n + 1 + length s.elements) ++ flat_map author_line ss else passage_line x.replica (n + 1) ++ flat_map author_line (s ∷ ss) in
    let count : n + 1 + length s.elements ≡ n + suc (length s.elements) = omega arith in
    elim (cases_Bool (nat_eq x.replica s.key)) [
      | inl e ↦ (
        record { key = x.replica; elements = x ∷ s.elements },
        ss,
        ap after e,
        refl,
        ap lines e ∙ ap (λ k. passage_line x.replica k ++ flat_map author_line ss) count,
      )
      | inr e ↦ (alone x, s ∷ ss, ap after e, refl, ap lines e)
    ]

-- the line that a letter ends, and what comes after the letter
turned : (p : Passage) (x : Identifier) (ss : List (Stretch ℕ))
    → line_before (Some p) x ++ lines_after x.replica (letters_before (Some p) x + 1) ss ≡ lines_after p.replica p.count (joined_stretch nat_eq x.replica x ss)
turned p x ss =
    let before : Bool → List ℕ = λ b. (if b then [] else passage_line p.replica p.count) ++ lines_after x.replica ((if b then p.count else 0) + 1) ss in
    elim (cases_Bool (nat_eq p.replica x.replica)) [
      | inl e ↦
          let f = joins_first p.count x ss in
          let same : p.replica ≡ x.replica = eqb-true p.replica x.replica e in
          let own : List ℕ = passage_line p.replica (p.count + length f.0.elements) ++ flat_map author_line f.1 in
          let other : List ℕ = passage_line p.replica p.count ++ flat_map author_line (f.0 ∷ f.1) in
          ap before e ∙ f.4 ∙ ap (λ r. passage_line r (p.count + length f.0.elements) ++ flat_map author_line f.1) (sym same)
          ∙ sym (ap (lines_after p.replica p.count) f.2 ∙ ap (λ k. if nat_eq p.replica k then own else other) f.3 ∙ ap (λ b. if b then own else other) e)
      | inr e ↦
          let f = joins_first 0 x ss in
          let count : 0 + length f.0.elements ≡ length f.0.elements = omega arith in
          let own : List ℕ = passage_line p.replica (p.count + length f.0.elements) ++ flat_map author_line f.1 in
          let other : List ℕ = passage_line p.replica p.count ++ flat_map author_line (f.0 ∷ f.1) in
          ap before e
          ∙ ap (λ l. passage_line p.replica p.count ++ l) (f.4 ∙ (λ i. passage_line (sym f.3 i) (count i) ++ flat_map author_line f.1))
          ∙ sym (ap (lines_after p.replica p.count) f.2 ∙ ap (λ k. if nat_eq p.replica k then own else other) f.3 ∙ ap (λ b. if b then own else other) e)
    ]

lines_of_open : (p : Passage) (xs : List Identifier) → passage_lines (Some p) xs ≡ lines_after p.replica p.count (by_replica xs)
lines_of_open p [] = refl
lines_of_open p (x ∷ xs) = ap (λ l. line_before (Some p) x ++ l) (lines_of_open (passage_after (Some p) x) xs) ∙ turned p x (by_replica xs)

-- all lines are those of the runs
pub lines_of_passages : (xs : List Identifier) → passage_lines None xs ≡ flat_map author_line (by_replica xs)
lines_of_passages [] = refl
lines_of_passages (x ∷ xs) =
    let f = joins_first 0 x (by_replica xs) in
    let count : 0 + length f.0.elements ≡ length f.0.elements = omega arith in
    lines_of_open (passage_after None x) xs ∙ f.4 ∙ (λ i. passage_line (sym f.3 i) (count i) ++ flat_map author_line f.1) ∙ sym (ap (flat_map author_line) f.2)

-- the letters that are to come begin with the one that was looked up
pub first_is : (xs : List Identifier) (x : Identifier) → Some x ≡ slice_get xs 0 → xs ≡ x ∷ drop 1 xs
first_is [] x e = cc
first_is (y ∷ xs) x e = let d : y ≡ x = cc in ap (λ z. z ∷ xs) d

-- none is to come
pub none_first : (xs : List Identifier) → None ≡ slice_get xs 0 → xs ≡ []
none_first [] e = refl
none_first (y ∷ xs) e = cc

abbrev size : Stretch ℕ → ℕ
size p = length p.elements

-- the runs have all letters
joined_size : (k : ℕ) (x : Identifier) (ss : List (Stretch ℕ)) → sum_by size (joined_stretch nat_eq k x ss) ≡ suc (sum_by size ss)
joined_size k x [] = refl
joined_size k x (s ∷ ss) =
    let after : Bool → List (Stretch ℕ) = λ b. if b then record { key = k; elements = x ∷ s.elements } ∷ ss else record { key = k; elements = x ∷ [] } ∷ s ∷ ss in
    elim (cases_Bool (nat_eq k s.key)) [
      | inl e ↦ ap (λ b. sum_by size (after b)) e ∙ omega (arith, sum_by-cons size (record { key = k; elements = x ∷ s.elements }) ss, sum_by-cons size s ss)
      | inr e ↦ ap (λ b. sum_by size (after b)) e ∙ omega (arith, sum_by-cons size (record { key = k; elements = x ∷ [] }) (s ∷ ss))
    ]

pub all_letters : (xs : List Identifier) → sum_by size (by_replica xs) ≡ length xs
all_letters [] = refl
all_letters (x ∷ xs) = joined_size x.replica x (by_replica xs) ∙ ap suc (all_letters xs)

-- a passage has at most one letter more after a letter
pub counts_on : (begun : Option Passage) (x : Identifier) → count_in (Some (passage_after begun x)) ≤ count_in begun + 1
counts_on None x = omega arith
counts_on (Some p) x = elim (nat_eq p.replica x.replica) as (λ (b : Bool). (if b then p.count else 0) + 1 ≤ p.count + 1) [ true ↦ omega arith | false ↦ omega arith ]

drop_here : (xs : List Identifier) (i : ℕ) (s : Identifier) → i < length xs → s ≡ get_or xs i s → drop i xs ≡ s ∷ drop (i + 1) xs
drop_here xs i s below is =
    let place : suc i ≡ i + 1 = omega arith in
    drop-cons xs i s below ∙ (λ j. sym is j ∷ drop (place j) xs)

-- what is reported of sections from one on is what is reported of it, and of those after it
pub authors_next : (h : List Op) (xs : List Identifier) (i : ℕ) (s : Identifier) → i < length xs → s ≡ get_or xs i s
    → authors_from h (suc i) (drop i xs) ≡ section_authors h (i + 1) s ++ authors_from h (suc (i + 1)) (drop (i + 1) xs)
authors_next h xs i s below is =
    let place : suc i ≡ i + 1 = omega arith in
    ap (authors_from h (suc i)) (drop_here xs i s below is) ∙ ap (λ k. section_authors h k s ++ authors_from h (suc k) (drop (i + 1) xs)) place

-- and nothing is after the last one
pub authors_none : (h : List Op) (xs : List Identifier) (i : ℕ) → length xs ≤ i → authors_from h (suc i) (drop i xs) ≡ []
authors_none h xs i past = ap (authors_from h (suc i)) (drop_all i xs past)
