-- Lists of elements with their keys, in parts, and what searches by keys find in them.
use Rattle.origin_model.proofs.Words.{All, All-head, All-tail, Bool, Contains, Identifier, IsOrderedBy, List, None, Op, Some, [], all_from_contains, ap, append-nil, append_assoc}
use Rattle.origin_model.proofs.Words.{arith, cases_Bool, cases_origin, contains_cases, contains_here, contains_none, false, filter, filter-append, inl, inr, refl, subst, sym, true}
use Rattle.origin_model.proofs.Words.{true≢false, ℕ, ◌++◌, ◌∙◌, ◌∷◌, ◌≡◌, ◌≢◌, ◌⊎◌}
use Rattle.std.specs.Prelude.{nat_lt}
use Rattle.std.proofs.lemmas.List.{map-append}
use Rattle.std.proofs.lemmas.List.Elements.{All-map}
use Rattle.std.proofs.lemmas.Bool.Decides.{nat_tests}
use Rattle.fugue_ids.specs.Keys.{IsFit, Keyed, first_id, first_low, front_of, ids, is_low, last_id, last_low, low_ids, rest_of}
use Rattle.fugue_ids.specs.Listed.{last_before}
use Rattle.fugue_ids.specs.declared.key.Key.{Key}
use Rattle.fugue_ids.proofs.PartedLemmas.{front_at, last_push, rest_at}
use Rattle.origin_model.specs.edits.Landing.{first_after}
use Rattle.origin_model.specs.sides.KeyedGap.{widest}
use Rattle.origin_model.specs.sides.Keys.{with_keys, keyed_as}
use Rattle.origin_model.proofs.edits.SplitLemmas.{end_none, end_push, end_split}
use Rattle.origin_model.proofs.order.{filter_no, filter_yes, front_before}

-- the element is deeper than d
abbrev pub is_deep : ℕ → Keyed → Bool
is_deep d e = nat_lt d e.key.depth

-- what is no deeper than d has a key that is at most the greatest of that depth, where keys fit
pub flat_low : (d : ℕ) (e : Keyed) → IsFit e → is_deep d e ≡ false → is_low (widest d) e ≡ true
flat_low d e f k = let b = f.1 in grind (arith, nat_tests)

-- what is deeper has not
pub deep_high : (d : ℕ) (e : Keyed) → is_deep d e ≡ true → is_low (widest d) e ≡ false
deep_high d e k = grind (arith, nat_tests)

-- a filter keeps what passes, and drops what does not
pub kept : (g : Keyed → Bool) (e : Keyed) (es : List Keyed) → g e ≡ true → filter g (e ∷ es) ≡ e ∷ filter g es
kept g e es k = rw (k, filter)

pub dropped : (g : Keyed → Bool) (e : Keyed) (es : List Keyed) → g e ≡ false → filter g (e ∷ es) ≡ filter g es
dropped g e es k = rw (k, filter)

-- a filter that none passes
pub none_kept : (g : Keyed → Bool) (es : List Keyed) → All (λ e. g e ≡ false) es → filter g es ≡ []
none_kept g [] f = refl
none_kept g (e ∷ es) f = dropped g e es (All-head (λ z. g z ≡ false) e es f) ∙ none_kept g es (All-tail (λ z. g z ≡ false) e es f)

-- the first element whose key is at most k, after some whose keys are not
pub first_found : (k : Key) (front back : List Keyed) (e : Keyed) → All (λ z. is_low k z ≡ false) front → is_low k e ≡ true → first_low k (front ++ e ∷ back) ≡ Some e.id
first_found k front back e f j =
    ap first_id (filter-append (is_low k) front (e ∷ back) ∙ ap (λ t. t ++ filter (is_low k) (e ∷ back)) (none_kept (is_low k) front f) ∙ kept (is_low k) e back j)

-- none, where all have greater keys
pub first_none : (k : Key) (es : List Keyed) → All (λ z. is_low k z ≡ false) es → first_low k es ≡ None
first_none k es f = ap first_id (none_kept (is_low k) es f)

-- the identifiers of elements with their keys
pub ids-keyed : (h : List Op) (xs : List Identifier) → ids (with_keys h xs) ≡ xs
ids-keyed h [] = refl
ids-keyed h (x ∷ xs) = ap (λ t. x ∷ t) (ids-keyed h xs)

-- those whose key is at most k
pub low_ids-keyed : (h : List Op) (k : Key) (xs : List Identifier) → low_ids k (with_keys h xs) ≡ filter (λ x. is_low k (keyed_as h x)) xs
low_ids-keyed h k [] = refl
low_ids-keyed h k (x ∷ xs) =
    elim (cases_Bool (is_low k (keyed_as h x))) [
      | inl j ↦ ap ids (kept (is_low k) (keyed_as h x) (with_keys h xs) j) ∙ ap (λ t. x ∷ t) (low_ids-keyed h k xs) ∙ sym (filter_yes (λ z. is_low k (keyed_as h z)) x xs j)
      | inr j ↦ ap ids (dropped (is_low k) (keyed_as h x) (with_keys h xs) j) ∙ low_ids-keyed h k xs ∙ sym (filter_no (λ z. is_low k (keyed_as h z)) x xs j)
    ]

-- what holds of each member with its key holds of all
pub all_keyed : (h : List Op) (P : Keyed → Type 0) (xs : List Identifier) → ((x : Identifier) → Contains xs x → P (keyed_as h x)) → All P (with_keys h xs)
all_keyed h P xs f = All-map P (keyed_as h) xs (all_from_contains (λ x. P (keyed_as h x)) xs f)

-- elements of a history with their keys
module _ (h : List Op) where
  -- the last whose key is at most k stands before those whose keys are greater
  pub last_high : (k : Key) (xs ys : List Identifier) → ((y : Identifier) → Contains ys y → is_low k (keyed_as h y) ≡ false)
      → last_low k (with_keys h (xs ++ ys)) ≡ last_low k (with_keys h xs)
  last_high k xs ys f =
      ap last_id (
      ap (filter (is_low k)) (map-append (keyed_as h) xs ys)
      ∙ filter-append (is_low k) (with_keys h xs) (with_keys h ys)
      ∙ ap (λ t. filter (is_low k) (with_keys h xs) ++ t) (none_kept (is_low k) (with_keys h ys) (all_keyed h (λ z. is_low k z ≡ false) ys f))
      ∙ append-nil (filter (is_low k) (with_keys h xs)))

  -- it is the last of them, where that one's is
  last_at : (k : Key) (xs : List Identifier) (e : Identifier) → is_low k (keyed_as h e) ≡ true → last_low k (with_keys h (xs ++ e ∷ [])) ≡ Some e
  last_at k xs e j =
      ap last_id (
      ap (filter (is_low k)) (map-append (keyed_as h) xs (e ∷ []))
      ∙ filter-append (is_low k) (with_keys h xs) (keyed_as h e ∷ [])
      ∙ ap (λ t. filter (is_low k) (with_keys h xs) ++ t) (kept (is_low k) (keyed_as h e) [] j))
      ∙ last_push (filter (is_low k) (with_keys h xs)) (keyed_as h e)

  -- a list, parted after the last whose key is at most k
  pub record PartedLow (k : Key) (xs : List Identifier) : Type 0 where
    pub front : List Identifier
    pub back : List Identifier
    pub whole : xs ≡ front ++ back
    pub high : (x : Identifier) → Contains back x → is_low k (keyed_as h x) ≡ false
    pub low : (front ≡ []) ⊎ ((before : List Identifier) × (e : Identifier) × (front ≡ before ++ e ∷ []) × (is_low k (keyed_as h e) ≡ true))

  -- each list is so parted
  pub parted_low : (k : Key) (xs : List Identifier) → PartedLow k xs
  parted_low k [] = record { front = []; back = []; whole = refl; high = λ x m. absurd (contains_none x m); low = inl refl }
  parted_low k (e ∷ es) =
      let r = parted_low k es in
      elim r.low [
        | inr n ↦ record { front = e ∷ r.front; back = r.back; whole = ap (λ t. e ∷ t) r.whole; high = r.high; low = inr (e ∷ n.0, n.1, ap (λ t. e ∷ t) n.2, n.3) }
        | inl n ↦
            let same : r.back ≡ es = ap (λ t. t ++ r.back) (sym n) ∙ sym r.whole in
            let high : (x : Identifier) → Contains es x → is_low k (keyed_as h x) ≡ false = λ x m. r.high x (subst (λ t. Contains t x) (sym same) m) in
            elim (cases_Bool (is_low k (keyed_as h e))) [
              | inl j ↦ record { front = e ∷ []; back = es; whole = refl; high = high; low = inr ([], e, refl, j) }
              | inr j ↦ record {
                front = [];
                back = e ∷ es;
                whole = refl;
                high = λ x m. elim (contains_cases e es x m) [ inl d ↦ subst (λ z. is_low k (keyed_as h z) ≡ false) d j | inr i ↦ high x i ];
                low = inl refl;
              }
            ]
      ]

  -- the last whose key is at most k is the last of the front
  pub last_parted : (k : Key) (xs : List Identifier) (r : PartedLow k xs) → last_low k (with_keys h xs) ≡ last_before r.front
  last_parted k xs r =
      ap (λ t. last_low k (with_keys h t)) r.whole ∙ last_high k r.front r.back r.high ∙ elim r.low [
        | inl n ↦ ap (λ t. last_low k (with_keys h t)) n ∙ ap last_before (sym n)
        | inr n ↦ ap (λ t. last_low k (with_keys h t)) n.2 ∙ last_at k n.0 n.1 n.3 ∙ sym (ap last_before n.2 ∙ end_push n.0 n.1)
      ]

  -- the first whose key is at most k is the first of a rest that begins with such a one
  pub first_head : (k : Key) (xs ys : List Identifier) → ((x : Identifier) → Contains xs x → is_low k (keyed_as h x) ≡ false)
      → ((c : Identifier) (cs : List Identifier) → ys ≡ c ∷ cs → is_low k (keyed_as h c) ≡ true) → first_low k (with_keys h (xs ++ ys)) ≡ first_after ys
  first_head k xs [] f g =
      ap (λ t. first_low k (with_keys h t)) (append-nil xs) ∙ first_none k (with_keys h xs) (all_keyed h (λ z. is_low k z ≡ false) xs f)
  first_head k xs (y ∷ ys) f g =
      ap (first_low k) (map-append (keyed_as h) xs (y ∷ ys))
      ∙ first_found k (with_keys h xs) (with_keys h ys) (keyed_as h y) (all_keyed h (λ z. is_low k z ≡ false) xs f) (g y ys refl)

  -- a list in a strict order, in parts
  module _ (R : Identifier → Identifier → Bool) (irrefl : (a : Identifier) → R a a ≡ false) where
    -- what stands before x is not x
    other : (xs ys : List Identifier) (x : Identifier) → IsOrderedBy R (xs ++ x ∷ ys) → All (λ z. z.id ≢ x) (with_keys h xs)
    other xs ys x o =
        all_keyed h (λ z. z.id ≢ x) xs (λ z m e. true≢false (sym (front_before R xs (x ∷ ys) z x o m (contains_here x ys)) ∙ ap (λ a. R a x) e ∙ irrefl x))

    -- what stands after x
    pub rest_ids : (xs ys : List Identifier) (x : Identifier) → IsOrderedBy R (xs ++ x ∷ ys) → rest_of (Some x) (with_keys h (xs ++ x ∷ ys)) ≡ with_keys h ys
    rest_ids xs ys x o = ap (rest_of (Some x)) (map-append (keyed_as h) xs (x ∷ ys)) ∙ rest_at (with_keys h xs) (with_keys h ys) (keyed_as h x) (other xs ys x o)

    -- what stands before x
    pub front_ids : (xs ys : List Identifier) (x : Identifier) → IsOrderedBy R (xs ++ x ∷ ys) → front_of (Some x) (with_keys h (xs ++ x ∷ ys)) ≡ with_keys h xs
    front_ids xs ys x o = ap (front_of (Some x)) (map-append (keyed_as h) xs (x ∷ ys)) ∙ front_at (with_keys h xs) (with_keys h ys) (keyed_as h x) (other xs ys x o)

    -- what stands before the first of a rest
    pub front_head : (xs ys : List Identifier) → IsOrderedBy R (xs ++ ys) → front_of (first_after ys) (with_keys h (xs ++ ys)) ≡ with_keys h xs
    front_head xs [] o = ap (with_keys h) (append-nil xs)
    front_head xs (y ∷ ys) o = front_ids xs ys y o

    -- what stands after the last of a front
    pub rest_end : (xs ys : List Identifier) → IsOrderedBy R (xs ++ ys) → rest_of (last_before xs) (with_keys h (xs ++ ys)) ≡ with_keys h ys
    rest_end xs ys o =
        elim (cases_origin (last_before xs)) [
          | inl n ↦
              let none : xs ≡ [] = end_none xs n in
              ap (λ e. rest_of e (with_keys h (xs ++ ys))) n ∙ ap (λ t. with_keys h (t ++ ys)) none
          | inr f ↦
              let r = end_split xs f.0 f.1 in
              let whole : xs ++ ys ≡ r.0 ++ f.0 ∷ ys = ap (λ t. t ++ ys) r.1 ∙ append_assoc r.0 (f.0 ∷ []) ys in
              ap (λ e. rest_of e (with_keys h (xs ++ ys))) f.1 ∙ ap (λ t. rest_of (Some f.0) (with_keys h t)) whole ∙ rest_ids r.0 ys f.0 (subst (IsOrderedBy R) whole o)
        ]
