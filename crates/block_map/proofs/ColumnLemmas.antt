-- What a search finds in the columns, and what an edit of both at one place does.
use Rattle.std.proofs.Common.{◌≡◌, ◌≢◌, ℕ, zero, suc, ◌+◌, ◌<◌, ◌≤◌, List, [], ◌∷◌, length, get_or, set, if◌then◌else◌, Option, Some, None, Result, Ok, Err, IfOk, IfErr, IsSome}
use Rattle.std.proofs.Common.{refl, inl, inr, ap, subst, arith}
use Rattle.std.specs.Prelude.{◌==◌}
use Rattle.std.specs.List.{insert, remove}
use Rattle.std.specs.List.Sorted.{IsBinarySearchResult}
use Rattle.std.specs.Ordering.{nat_cmp}
use Rattle.std.proofs.lemmas.Bool.{cases_eq, cases_lt}
use Rattle.std.proofs.lemmas.Bool.Decides.{nat_tests}
use Rattle.std.proofs.lemmas.List.Sorted.{searched}
use Rattle.std.proofs.lemmas.List.Edits.{length-remove, get_or-remove_below, get_or-remove_above}
use Rattle.fugue_ids.specs.Keyed.{IsReplaced}
use Rattle.block_map.specs.Columns.{IsAscending, IsGapFor, IsPlaceOf, value_beside}

-- the counters rise along the list
pub rises : (cs : List ℕ) → IsAscending cs → (i j : ℕ) → i ≤ j → j < length cs → get_or cs i 0 ≤ get_or cs j 0
rises cs up i j le within = grind (arith, up i j, λ (same : i ≡ j). ap (λ (k : ℕ). get_or cs k 0) same)

-- a binary search ends at the counter, or at the gap for it
pub found_place : (cs : List ℕ) → IsAscending cs → (c : ℕ) (r : Result ℕ ℕ) → IsBinarySearchResult (λ y. nat_cmp y c) cs r
    → record { found : IfOk r (IsPlaceOf cs c); absent : IfErr r (IsGapFor cs c) }
found_place cs up c (Ok i) h = let f = searched cs c (Ok i) h (rises cs up) in record { found = record { inside = f.0; here = f.1 }; absent = tt }
found_place cs up c (Err i) h = let f = searched cs c (Err i) h (rises cs up) in record { found = tt; absent = record { inside = f.0; before = f.1; behind = f.2 } }

tail_up : (d : ℕ) (ds : List ℕ) → IsAscending (d ∷ ds) → IsAscending ds
tail_up d ds up i j lt within = up (suc i) (suc j) (omega (arith, lt)) (omega (arith, within))

module _ {V : Type 0} where
  -- a counter with a value stands at a place
  pub place_of_value : (cs : List ℕ) (vs : List V) (c : ℕ) → IsSome (value_beside cs vs c) → (i : ℕ) × IsPlaceOf cs c i
  place_of_value [] vs c h = absurd (cc)
  place_of_value (d ∷ ds) [] c h = absurd (cc)
  place_of_value (d ∷ ds) (v ∷ vs) c h = elim (cases_eq d c) as (λ _. (i : ℕ) × IsPlaceOf (d ∷ ds) c i) [
    | inl e ↦ (zero, record { inside = omega arith; here = e })
    | inr n ↦ (
        let later : IsSome (value_beside ds vs c) = grind (arith, nat_tests, h, n) in
        let at = place_of_value ds vs c later in
        (suc at.0, record { inside = omega (arith, at.1.inside); here = at.1.here }))
  ]

  -- a counter that stands nowhere has no value
  pub none_beside : (cs : List ℕ) (vs : List V) (c : ℕ) → ((i : ℕ) → i < length cs → get_or cs i 0 ≢ c) → value_beside cs vs c ≡ None
  none_beside [] vs c nowhere = refl
  none_beside (d ∷ ds) [] c nowhere = refl
  none_beside (d ∷ ds) (v ∷ vs) c nowhere = grind (arith, nat_tests, nowhere 0 (omega arith), none_beside ds vs c (λ i within. nowhere (suc i) (omega (arith, within))))

  -- nor has one with a gap
  pub none_in_gap : (cs : List ℕ) (vs : List V) (c at : ℕ) → IsGapFor cs c at → value_beside cs vs c ≡ None
  none_in_gap cs vs c at gap =
      none_beside cs vs c (λ i inside e. elim (cases_lt i at) as (λ _. ⊥) [ inl h ↦ omega (arith, gap.before i h, e) | inr h ↦ omega (arith, gap.behind i h inside, e) ])

  -- the counter at a place has the value there
  pub value_there : (cs : List ℕ) (vs : List V) → IsAscending cs → length vs ≡ length cs → (c i : ℕ) → IsPlaceOf cs c i → (v : V) → v ≡ get_or vs i v
      → value_beside cs vs c ≡ Some v
  value_there [] vs up same c i at v read = absurd (omega (arith, at.inside))
  value_there (d ∷ ds) [] up same c i at v read = absurd (omega (arith, same))
  value_there (d ∷ ds) (w ∷ ws) up same c zero at v read = grind (arith, nat_tests, at.here, read)
  value_there (d ∷ ds) (w ∷ ws) up same c (suc i) at v read =
      let inside : i < length ds = omega (arith, at.inside) in
      let less : d < get_or ds i 0 = up 0 (suc i) (omega arith) at.inside in
      let rest = value_there ds ws (tail_up d ds up) (omega (arith, same)) c i (record { inside = inside; here = at.here }) v read in
      grind (arith, nat_tests, less, at.here, rest)

  -- another value at a place
  pub value_set : (cs : List ℕ) (vs : List V) → IsAscending cs → length vs ≡ length cs → (c i : ℕ) → IsPlaceOf cs c i → (v : V) (q : ℕ)
      → value_beside cs (set vs i v) q ≡ (if c == q then Some v else value_beside cs vs q)
  value_set [] vs up same c i at v q = absurd (omega (arith, at.inside))
  value_set (d ∷ ds) [] up same c i at v q = absurd (omega (arith, same))
  value_set (d ∷ ds) (w ∷ ws) up same c zero at v q = grind (arith, nat_tests, at.here)
  value_set (d ∷ ds) (w ∷ ws) up same c (suc i) at v q =
      let less : d < get_or ds i 0 = up 0 (suc i) (omega arith) at.inside in
      let rest = value_set ds ws (tail_up d ds up) (omega (arith, same)) c i (record { inside = omega (arith, at.inside); here = at.here }) v q in
      grind (arith, nat_tests, less, at.here, rest)

  -- one entry more, where none of those before has the counter
  pub value_insert : (cs : List ℕ) (vs : List V) → length vs ≡ length cs → (c i : ℕ) → i ≤ length cs → ((j : ℕ) → j < i → get_or cs j 0 < c) → (v : V) (q : ℕ)
      → value_beside (insert cs i c) (insert vs i v) q ≡ (if c == q then Some v else value_beside cs vs q)
  value_insert cs vs same c zero le before v q = refl
  value_insert [] vs same c (suc i) le before v q = absurd (omega (arith, le))
  value_insert (d ∷ ds) [] same c (suc i) le before v q = absurd (omega (arith, same))
  value_insert (d ∷ ds) (w ∷ ws) same c (suc i) le before v q =
      let rest = value_insert ds ws (omega (arith, same)) c i (omega (arith, le)) (λ j lt. before (suc j) (omega (arith, lt))) v q in
      grind (arith, nat_tests, before 0 (omega arith), rest)

  -- one entry less
  pub value_remove : (cs : List ℕ) (vs : List V) → IsAscending cs → length vs ≡ length cs → (c i : ℕ) → IsPlaceOf cs c i → (q : ℕ)
      → value_beside (remove cs i) (remove vs i) q ≡ (if c == q then None else value_beside cs vs q)
  value_remove [] vs up same c i at q = absurd (omega (arith, at.inside))
  value_remove (d ∷ ds) [] up same c i at q = absurd (omega (arith, same))
  value_remove (d ∷ ds) (w ∷ ws) up same c zero at q =
      let none : value_beside ds ws d ≡ None =
      none_beside ds ws d (λ i within e. (let less : d < get_or ds i 0 = up 0 (suc i) (omega arith) (omega (arith, within)) in omega (arith, less, e))) in
      elim (cases_eq d q) as (λ _. value_beside ds ws q ≡ (if c == q then None else value_beside (d ∷ ds) (w ∷ ws) q)) [
        | inl e ↦ (let there : value_beside ds ws q ≡ None = subst (λ (k : ℕ). value_beside ds ws k ≡ None) e none in grind (arith, nat_tests, at.here, there, e))
        | inr n ↦ grind (arith, nat_tests, at.here, n)
      ]
  value_remove (d ∷ ds) (w ∷ ws) up same c (suc i) at q =
      let less : d < get_or ds i 0 = up 0 (suc i) (omega arith) at.inside in
      let rest = value_remove ds ws (tail_up d ds up) (omega (arith, same)) c i (record { inside = omega (arith, at.inside); here = at.here }) q in
      grind (arith, nat_tests, less, at.here, rest)

  -- one equation for every counter gives the two facts
  pub replaced_by : (f g : ℕ → Option V) (c : ℕ) (w : Option V) → ((q : ℕ) → g q ≡ (if c == q then w else f q)) → IsReplaced f g c w
  replaced_by f g c w each = record { here = grind (arith, nat_tests, each c); others = λ q apart. grind (arith, nat_tests, each q, apart) }

-- an entry less keeps the order
pub ascending_remove : (cs : List ℕ) → IsAscending cs → (at : ℕ) → at < length cs → IsAscending (remove cs at)
ascending_remove cs up at inside i j lt within =
    let new = remove cs at in
    let shorter = length-remove cs at inside in
    let below : (i : ℕ) → i < at → get_or new i 0 ≡ get_or cs i 0 = λ i b. get_or-remove_below cs at 0 i b inside in
    let above : (i : ℕ) → at ≤ i → get_or new i 0 ≡ get_or cs (i + 1) 0 = λ i a. get_or-remove_above cs at 0 i a inside in
    grind (arith, below i, above i, below j, above j, up i j, up i (j + 1), up (i + 1) (j + 1))
