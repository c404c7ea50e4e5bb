-- Places of sections in a list.
use Rattle.std.proofs.Common.{List, [], ap, arith, get_or, take, ◌<◌, inl, inr, length, refl, subst, suc, sym, ◌+◌, ◌++◌, ◌-◌, ◌≢◌, ◌∙◌, ◌∷◌, ◌≡◌, ◌≤◌, ℕ}
use Rattle.std.specs.Prelude.{None, Some, if◌then◌else◌, slice_get}
use Rattle.std.specs.List.{AllPairs, Contains}
use Rattle.std.proofs.lemmas.List.{get_or-append_right, get_or-take, length-take-le, map-append, take-map, take_more}
use Rattle.fugue_ids.specs.Identifiers.{Identifier, id_eq}
use Rattle.fugue_ids.proofs.IdentifierLemmas.{cases_id, eq-id_eq, ne-id_eq}
use Rattle.fugue_ids.proofs.ListLemmas.{contains_here, contains_there}
use Rattle.catalogue_notes.specs.Outlining.{entry_sections}
use Rattle.catalogue_notes.specs.declared.entry.Entry.{Entry}
use Rattle.margin_notes.specs.Listing.{number_from}

-- a section after others has the place after theirs
pub number_here : (k : ℕ) (xs : List Identifier) (x : Identifier) → (Contains xs x → ⊥) → number_from k (xs ++ x ∷ []) x ≡ Some (length xs + k)
number_here k [] x n = let e : k ≡ 0 + k = omega arith in ap (λ b. if b then Some k else None) (eq-id_eq x x refl) ∙ ap Some e
number_here k (y ∷ xs) x n =
    let e : length xs + suc k ≡ suc (length xs) + k = omega arith in
    let apart : y ≢ x = λ d. n (subst (Contains (y ∷ xs)) d (contains_here y xs)) in
    ap (λ b. if b then Some k else number_from (suc k) (xs ++ x ∷ []) x) (ne-id_eq y x apart)
    ∙ number_here (suc k) xs x (λ m. n (contains_there y xs x m))
    ∙ ap Some e

-- and the others have theirs
pub number_other : (k : ℕ) (xs : List Identifier) (x s : Identifier) → (s ≢ x) → number_from k (xs ++ x ∷ []) s ≡ number_from k xs s
number_other k [] x s n = ap (λ b. if b then Some k else None) (ne-id_eq x s (λ e. n (sym e)))
number_other k (y ∷ xs) x s n = ap (λ o. if id_eq y s then Some k else o) (number_other (suc k) xs x s n)

-- the section with a place stands there
pub number_place : (k : ℕ) (xs : List Identifier) (s : Identifier) (n : ℕ) → number_from k xs s ≡ Some n → (k ≤ n) × (slice_get xs (n - k) ≡ Some s)
number_place k [] s n e = cc
number_place k (x ∷ xs) s n e =
    elim (cases_id x s) [
      | inl d ↦
          let same : Some k ≡ Some n = sym (ap (λ b. if b then Some k else number_from (suc k) xs s) (eq-id_eq x s d)) ∙ e in
          let is : k ≡ n = cc in
          let none : n - k ≡ 0 = omega (arith, is) in (
            omega (arith, is),
            ap (slice_get (x ∷ xs)) none ∙ ap Some d,
          )
      | inr d ↦
          let r = number_place (suc k) xs s n (sym (ap (λ b. if b then Some k else number_from (suc k) xs s) (ne-id_eq x s d)) ∙ e) in
          let more : n - k ≡ suc (n - suc k) = omega (arith, r.0) in (
            omega (arith, r.0),
            ap (slice_get (x ∷ xs)) more ∙ r.1,
          )
    ]

-- the sections of entries, with one more
pub section_more : (all : List Entry) (i : ℕ) (e : Entry) → i < length all → e ≡ get_or all i e → take (i + 1) (entry_sections all) ≡ take i (entry_sections all) ++ e.section ∷ []
section_more all i e below is =
    take-map (λ (z : Entry). z.section) (i + 1) all
    ∙ ap entry_sections (take_more all i e below ∙ ap (λ z. take i all ++ z ∷ []) (sym is))
    ∙ map-append (λ (z : Entry). z.section) (take i all) (e ∷ [])
    ∙ ap (λ l. l ++ e.section ∷ []) (sym (take-map (λ (z : Entry). z.section) i all))

-- of sections that are apart none stands among those before it
pub section_new : (xs : List Identifier) (i : ℕ) (x : Identifier) → AllPairs (λ a b. a ≢ b) xs → take (i + 1) xs ≡ take i xs ++ x ∷ [] → i < length xs → Contains (take i xs) x → ⊥
section_new xs i x apart more below m =
    let long : length (take i xs) ≡ i = length-take-le i xs (omega (arith, below)) in
    let k : ℕ = m.0 in
    let l : k < i = omega (arith, m.1, long) in
    let one : i + 1 ≡ suc i = omega arith in
    let last : get_or xs i x ≡ x = sym (get_or-take (i + 1) xs i x (omega arith)) ∙ ap (λ z. get_or z i x) more ∙ get_or_append_at (take i xs) x i long in
    apart k i x l below (sym (get_or-take i xs k x l) ∙ m.2 ∙ sym last)
  where
    none : (n : ℕ) → n - n ≡ 0
    none n = omega arith

    get_or_append_at : (ys : List Identifier) (z : Identifier) (n : ℕ) → length ys ≡ n → get_or (ys ++ z ∷ []) n z ≡ z
    get_or_append_at ys z n e =
        ap (λ k. get_or (ys ++ z ∷ []) k z) (sym e) ∙ get_or-append_right ys (z ∷ []) (length ys) (length ys) z refl (omega arith)
        ∙ ap (λ k. get_or (z ∷ []) k z) (none (length ys))
