-- What stands between two cells.
use Rattle.std.proofs.Common.{◌≡◌, ◌≢◌, ℕ, zero, suc, ◌+◌, ◌<◌, ◌≤◌, List, [], ◌∷◌, ap, arith, inl, inr, length, length-drop, refl, subst, sym, take, drop, ◌∙◌}
use Rattle.std.specs.Prelude.{Option, None, Some, IfNone, IfSome, IsNone, if◌then◌else◌}
use Rattle.std.specs.List.{AllPairs, Contains}
use Rattle.std.proofs.lemmas.List.{take_all}
use Rattle.std.proofs.lemmas.List.Elements.{All-contains}
use Rattle.fugue_ids.specs.Identifiers.{Identifier}
use Rattle.fugue_ids.specs.Keys.{Keyed, between, front_of, ids as ids_of, rest_of}
use Rattle.fugue_ids.specs.Listed.{HoldsOrigin, index_of}
use Rattle.fugue_ids.proofs.IdentifierLemmas.{cases_id, contains-below, eq-id_eq, index_of-here, index_of-there, ne-id_eq}
use Rattle.fugue_ids.proofs.LowLemmas.{low_held}
use Rattle.fugue_ids.proofs.PartedLemmas.{Apart}
use Rattle.fugue_ids.proofs.ListLemmas.{all_pairs_head, all_pairs_tail, contains_cases, contains_here, contains_none, contains_there}
use Rattle.run_store.specs.Cells.{cell_ids, keyed_cells}
use Rattle.run_store.specs.Standings.{IsStandingPart, IsMemberWithin, begin_index, end_index}
use Rattle.run_store.specs.Runs.{AreRuns, RunsView, cells_in}
use Rattle.run_store.specs.declared.standing.Found.{Found}
use Rattle.run_store.specs.declared.standing.Part.{Part}
use Rattle.run_store.proofs.KeyLemmas.{keyed-ids}

-- what stands after an origin, and before one, by their indexes
rest-drop : (es : List Keyed) (from : Option Identifier) → ids_of (rest_of from es) ≡ drop (begin_index (ids_of es) from) (ids_of es)
rest-drop es None = refl
rest-drop [] (Some x) = refl
rest-drop (e ∷ es) (Some x) = elim (cases_id x e.id) [
  | inl s ↦
      ap (λ b. ids_of (if b then es else rest_of (Some x) es)) (eq-id_eq e.id x (sym s))
      ∙ ap (λ n. drop n (ids_of es)) (sym (index_of-here e.id (ids_of es) x s))
  | inr n ↦
      ap (λ b. ids_of (if b then es else rest_of (Some x) es)) (ne-id_eq e.id x (λ s. n (sym s))) ∙ rest-drop es (Some x)
      ∙ ap (λ k. drop k (ids_of es)) (sym (index_of-there e.id (ids_of es) x n))
]

front-take : (es : List Keyed) (to : Option Identifier) → ids_of (front_of to es) ≡ take (end_index (ids_of es) to) (ids_of es)
front-take es None = sym (take_all (length (ids_of es)) (ids_of es) (omega arith))
front-take [] (Some y) = refl
front-take (e ∷ es) (Some y) = elim (cases_id y e.id) [
  | inl s ↦
      ap (λ b. ids_of (if b then [] else e ∷ front_of (Some y) es)) (eq-id_eq e.id y (sym s))
      ∙ ap (λ n. take n (e.id ∷ ids_of es)) (sym (index_of-here e.id (ids_of es) y s))
  | inr n ↦
      ap (λ b. ids_of (if b then [] else e ∷ front_of (Some y) es)) (ne-id_eq e.id y (λ s. n (sym s)))
      ∙ ap (λ is. e.id ∷ is) (front-take es (Some y))
      ∙ ap (λ k. take k (e.id ∷ ids_of es)) (sym (index_of-there e.id (ids_of es) y n))
]

contains-drop : (n : ℕ) (xs : List Identifier) (y : Identifier) → Contains (drop n xs) y → Contains xs y
contains-drop zero xs y c = c
contains-drop (suc n) [] y c = c
contains-drop (suc n) (x ∷ xs) y c = contains_there x xs y (contains-drop n xs y c)

-- an index among the members after a place
end-behind : (xs : List Identifier) → AllPairs (λ x y. x ≢ y) xs → (n : ℕ) → n ≤ length xs → (to : Option Identifier) → HoldsOrigin (drop n xs) to
    → end_index xs to ≡ n + end_index (drop n xs) to
end-behind xs d n l None h = omega (arith, l, length-drop n xs)
end-behind xs d zero l (Some y) h = omega arith
end-behind [] d (suc n) l (Some y) h = absurd (contains_none y h)
end-behind (x ∷ xs) d (suc n) l (Some y) h =
    let other : y ≢ x = λ e. All-contains (λ z. x ≢ z) xs y (all_pairs_head (λ x y. x ≢ y) x xs d) (contains-drop n xs y h) (sym e) in
    omega (arith, index_of-there x xs y other, end-behind xs (all_pairs_tail (λ x y. x ≢ y) x xs d) n (omega (arith, l)) (Some y) h)

-- a member by its index
within-part : (xs : List Identifier) (n w : ℕ) (m : Identifier) → Contains xs m → n ≤ index_of xs m → index_of xs m < n + w → Contains (take w (drop n xs)) m
within-part [] n w m c l h = absurd (contains_none m c)
within-part (x ∷ xs) zero zero m c l h = absurd (omega (arith, h))
within-part (x ∷ xs) zero (suc w) m c l h = elim (cases_id m x) [
  | inl e ↦ subst (Contains (x ∷ take w xs)) (sym e) (contains_here x (take w xs))
  | inr o ↦ contains_there x (take w xs) m (within-part xs zero w m (others x xs m c o) (omega arith) (omega (arith, h, index_of-there x xs m o)))
]
  where
    others : (x : Identifier) (xs : List Identifier) (m : Identifier) → Contains (x ∷ xs) m → m ≢ x → Contains xs m
    others x xs m c o = elim (contains_cases x xs m c) [ inl e ↦ absurd (o (sym e)) | inr i ↦ i ]
within-part (x ∷ xs) (suc n) w m c l h = elim (cases_id m x) [
  | inl e ↦ absurd (omega (arith, l, index_of-here x xs m e))
  | inr o ↦ elim (contains_cases x xs m c) [
    | inl e ↦ absurd (o (sym e))
    | inr i ↦ let k = index_of-there x xs m o in within-part xs n w m i (omega (arith, l, k)) (omega (arith, h, k))
  ]
]

no-ids : (es : List Keyed) → ids_of es ≡ [] → es ≡ []
no-ids [] e = refl
no-ids (x ∷ es) e = cc

module _ (r : RunsView) (s : AreRuns r) (from to : Option Identifier) (held : HoldsOrigin (cell_ids (cells_in r)) from)
    (behind : HoldsOrigin (ids_of (rest_of from (keyed_cells (cells_in r)))) to) where
  abbrev xs : List Identifier
  xs = cell_ids (cells_in r)

  abbrev n : ℕ
  n = begin_index xs from

  abbrev w : ℕ
  w = end_index (drop n xs) to

  abbrev es : List Keyed
  es = keyed_cells (cells_in r)

  rest : ids_of (rest_of from es) ≡ drop n xs
  rest = rest-drop es from ∙ ap (λ is. drop (begin_index is from) is) (keyed-ids (cells_in r))

  part : ids_of (between from to es) ≡ take w (drop n xs)
  part = front-take (rest_of from es) to ∙ ap (λ is. take (end_index is to) is) rest

  inside : HoldsOrigin (drop n xs) to
  inside = subst (λ is. HoldsOrigin is to) rest behind

  small : n ≤ length xs
  small = by_origin from held
    where
      by_origin : (o : Option Identifier) → HoldsOrigin xs o → begin_index xs o ≤ length xs
      by_origin None h = omega arith
      by_origin (Some x) h = omega (arith, contains-below xs x h)

  apart : end_index xs to ≡ n + w
  apart = end-behind xs s.distinct n small to inside

  -- the end is no less than the beginning
  pub in-order : n ≤ end_index xs to
  in-order = omega (arith, apart)

  none-between : end_index xs to ≤ n → between from to es ≡ []
  none-between l = let z : w ≡ 0 = omega (arith, apart, l) in no-ids (between from to es) (part ∙ ap (λ k. take k (drop n xs)) z)

  one-between : (m : Identifier) → IsMemberWithin xs n (end_index xs to) m → Contains (ids_of (between from to es)) m
  one-between m i = subst (λ is. Contains is m) (sym part) (within-part xs n w m i.held i.from (omega (arith, i.to, apart)))

  some-between : (m : Identifier) → Contains (ids_of (between from to es)) m → between from to es ≡ [] → ⊥
  some-between m c e = contains_none m (subst (λ t. Contains (ids_of t) m) e c)

  -- a cell whose index is between theirs stands between them, and where there is no such index none does
  module _ (low high : ℕ) (begins : low ≡ n) (ends : high ≡ end_index xs to) where
    as_within : (m : Identifier) → IsMemberWithin xs low high m → IsMemberWithin xs n (end_index xs to) m
    as_within m i = record { held = i.held; from = omega (arith, i.from, begins); to = omega (arith, i.to, ends) }

    pub none-answers : (o : Option Found) → IfSome o (λ m. IsMemberWithin xs low high m.id) → IfNone o (high ≤ low)
        → (IsNone o → between from to es ≡ []) × (between from to es ≡ [] → IsNone o)
    none-answers None some none = ((λ z. none-between (omega (arith, none, begins, ends))), (λ z. refl))
    none-answers (Some m) some none = ((λ z. absurd (cc z)), (λ z. absurd (some-between m.id (one-between m.id (as_within m.id some)) z)))

    pub some-answers : (o : Option Found) → IfSome o (λ m. IsMemberWithin xs low high m.id) → IfSome o (λ m. Contains (ids_of (between from to es)) m.id)
    some-answers None some = tt
    some-answers (Some m) some = one-between m.id (as_within m.id some)

-- no cell comes twice
pub cells-apart : (r : RunsView) → AreRuns r → Apart (keyed_cells (cells_in r))
cells-apart r s = subst (AllPairs (λ x y. x ≢ y)) (sym (keyed-ids (cells_in r))) s.distinct

-- the ends of a part are held
module _ (r : RunsView) (p : Part) (is : IsStandingPart r p) where
  pub part-from : HoldsOrigin (cell_ids (cells_in r)) p.from
  part-from = subst (λ xs. HoldsOrigin xs p.from) (keyed-ids (cells_in r)) (low_held p.most (keyed_cells (cells_in r)) p.from is.from)

  pub part-to : HoldsOrigin (ids_of (rest_of p.from (keyed_cells (cells_in r)))) p.to
  part-to = low_held p.most (rest_of p.from (keyed_cells (cells_in r))) p.to is.to
