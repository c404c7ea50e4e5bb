-- The places of a passage, searched for one after another.
use Rattle.std.proofs.Common.{◌≡◌, inl, inr, ℕ, zero, suc, ◌+◌, ◌-◌, ◌<◌, ◌≤◌, List, [], ◌∷◌, ◌++◌, length, drop, get_or, refl, ap, sym, subst, ◌∙◌, arith, length-append}
use Rattle.std.proofs.Common.{length-drop}
use Rattle.std.specs.Prelude.{◌⊎◌, Bool, MatchOption, None, Option, Some, false, filter}
use Rattle.std.specs.List.{range_with_len}
use Rattle.std.proofs.lemmas.Bool.{cases_Bool, cases_lt}
use Rattle.std.proofs.lemmas.List.{append-nil, get_or-drop, get_or_append_left}
use Rattle.std.proofs.lemmas.List.Elements.{filter-append}
use Rattle.memchr.specs.Find.{FindsNeedle, Nowhere, OccursAt, occurs_at}
use Rattle.memchr.proofs.lemmas.MatchLemmas.{OccursAt-true, occurs_at-true}
use Rattle.passage_search.specs.declared.places.Places.{Places}
use Rattle.passage_search.specs.Places.{ArePlaces, places}

-- numbers from a on, in two parts
range_parts : (a m n b : ℕ) → a + m ≡ b → range_with_len a (m + n) ≡ range_with_len a m ++ range_with_len b n
range_parts a zero n b is = let same : a ≡ b = omega (arith, is) in let all : zero + n ≡ n = omega arith in ap (range_with_len a) all ∙ ap (λ k. range_with_len k n) same
range_parts a (suc m) n b is = let all : suc m + n ≡ suc (m + n) = omega arith in ap (range_with_len a) all ∙ ap (λ l. a ∷ l) (range_parts (a + 1) m n b (omega (arith, is)))

-- no place is one
none_of : (is : ℕ → Bool) (a n : ℕ) → ((k : ℕ) → a ≤ k → k < a + n → is k ≡ false) → filter is (range_with_len a n) ≡ []
none_of is a zero none = refl
none_of is a (suc n) none = rw (none a (omega arith) (omega arith)) (none_of is (a + 1) n (λ k low high. none k (omega (arith, low)) (omega (arith, high))))

-- what is found from a number on is the first from a lower one, where there is none between
module _ (text passage : List ℕ) (low high : ℕ) (order : low ≤ high) (none : Nowhere (OccursAt text passage) low high) where
  none_up_to : (end : ℕ) → Nowhere (OccursAt text passage) high end → Nowhere (OccursAt text passage) low end
  none_up_to end nowhere k from to there = elim (cases_lt k high) [
    | inl before ↦ none k from before there
    | inr behind ↦ nowhere k behind to there
  ]

  pub found_after : (found : Option ℕ) → FindsNeedle text passage high found → FindsNeedle text passage low found
  found_after None nowhere = none_up_to (length text + 1) nowhere
  found_after (Some k) is = (record { low = omega (arith, order, is.0.low); high = is.0.high; before = none_up_to k is.0.before }, is.1)

module _ (text passage : List ℕ) where
  pub found_here : (at : ℕ) → OccursAt text passage at → FindsNeedle text passage at (Some at)
  found_here at there = (
    record {
      low = omega arith;
      high = omega (arith, there.fits);
      before = λ k low high. absurd (omega (arith, low, high));
    },
    there,
  )

  -- a place of the rest
  occurs_after : (passed k : ℕ) → passed ≤ length text → OccursAt (drop passed text) passage k → OccursAt text passage (passed + k)
  occurs_after passed k within there = record {
    fits = omega (arith, there.fits, length-drop passed text, within);
    reads = λ j inside. (let e : passed + k + j ≡ passed + (k + j) = omega arith in ap (λ n. get_or text n 0) e) ∙ sym (get_or-drop passed text (k + j) 0) ∙ there.reads j inside;
  }

  occurs_before : (passed k : ℕ) → passed ≤ length text → OccursAt text passage (passed + k) → OccursAt (drop passed text) passage k
  occurs_before passed k within there = record {
    fits = omega (arith, there.fits, length-drop passed text, within);
    reads = λ j inside. get_or-drop passed text (k + j) 0 ∙ (let e : passed + (k + j) ≡ passed + k + j = omega arith in ap (λ n. get_or text n 0) e) ∙ there.reads j inside;
  }

  module _ (from : ℕ) (within : from ≤ length text) where
    nowhere_after : (n : ℕ) → Nowhere (OccursAt (drop from text) passage) 0 n → Nowhere (OccursAt text passage) from (from + n)
    nowhere_after n nowhere k low high there =
        let e : k ≡ from + (k - from) = omega (arith, low) in
        nowhere (k - from) (omega arith) (omega (arith, low, high)) (occurs_before from (k - from) within (subst (OccursAt text passage) e there))

    -- a search of the rest
    pub none_in_rest : FindsNeedle (drop from text) passage 0 None → FindsNeedle text passage from None
    none_in_rest nowhere k low high =
        nowhere_after (length (drop from text) + 1) nowhere k low (omega (arith, high, length-drop from text, within))

    pub one_in_rest : (at : ℕ) → FindsNeedle (drop from text) passage 0 (Some at) → FindsNeedle text passage from (Some (from + at))
    one_in_rest at is =
        let there : OccursAt text passage (from + at) = occurs_after from at within is.1 in
        (record { low = omega arith; high = omega (arith, there.fits); before = nowhere_after at is.0.before }, there)

  -- the places below a number
  abbrev below : ℕ → List ℕ
  below n = filter (occurs_at text passage) (range_with_len 0 n)

  -- the places below a number are found
  pub record IsSearched (found : Places) (passed : ℕ) : Type 0 where
    pub count_is : found.count ≡ length (below passed)
    pub first_is : 0 < found.count → found.first ≡ get_or (below passed) 0 0
    pub few : found.count ≤ passed

  -- all places are found, or those in front of one more
  abbrev pub Finds : Places → Option ℕ → Type 0
  Finds found next = MatchOption next (ArePlaces text passage found) (λ at. IsSearched found at × OccursAt text passage at)

  cases_zero : (n : ℕ) → (n ≡ 0) ⊎ (0 < n)
  cases_zero zero = inl refl
  cases_zero (suc n) = inr (omega arith)

  no_more : (low n high : ℕ) → low + n ≡ high → Nowhere (OccursAt text passage) low high → below high ≡ below low
  no_more low n high is nowhere =
      let none : (k : ℕ) → low ≤ k → k < low + n → occurs_at text passage k ≡ false = λ k from to. elim (cases_Bool (occurs_at text passage k)) [
        | inl there ↦ absurd (nowhere k from (omega (arith, to, is)) (OccursAt-true text passage k there))
        | inr not ↦ not
      ] in
      ap below (sym is) ∙ ap (filter (occurs_at text passage)) (range_parts 0 low n low (omega arith))
      ∙ filter-append (occurs_at text passage) (range_with_len 0 low) (range_with_len low n)
      ∙ ap (λ l. below low ++ l) (none_of (occurs_at text passage) low n none) ∙ append-nil (below low)

  pub search_begins : (found : Places) → found.count ≡ 0 → IsSearched found 0
  search_begins found none = record {
    count_is = none;
    first_is = λ some. absurd (omega (arith, none, some));
    few = omega (arith, none);
  }

  pub search_finds : (found : Places) (passed : ℕ) → passed ≤ length text → IsSearched found passed → (next : Option ℕ) → FindsNeedle text passage passed next → Finds found next
  search_finds found passed within searched None nowhere =
      let all : places text passage ≡ below passed =
      no_more passed (length text - passed) (length text) (omega (arith, within)) (λ k low high. nowhere k low (omega (arith, high))) in
      record { count_is = searched.count_is ∙ ap length (sym all); first_is = λ some. searched.first_is some ∙ ap (λ l. get_or l 0 0) (sym all) }
  search_finds found passed within searched (Some at) is =
      let same : below at ≡ below passed = no_more passed (at - passed) at (omega (arith, is.0.low)) is.0.before in (
        record {
          count_is = searched.count_is ∙ ap length (sym same);
          first_is = λ some. searched.first_is some ∙ ap (λ l. get_or l 0 0) (sym same);
          few = omega (arith, searched.few, is.0.low);
        },
        is.1,
      )

  module _ (found : Places) (at : ℕ) (searched : IsSearched found at) (there : OccursAt text passage at) where
    one_more : below (at + 1) ≡ below at ++ at ∷ []
    one_more = ap (filter (occurs_at text passage)) (range_parts 0 at 1 at (omega arith))
        ∙ filter-append (occurs_at text passage) (range_with_len 0 at) (range_with_len at 1)
        ∙ rw (occurs_at-true text passage at there) refl

    first_of : (l : List ℕ) (n : ℕ) → length l ≡ 0 → get_or (l ++ n ∷ []) 0 0 ≡ n
    first_of [] n none = refl
    first_of (x ∷ l) n none = absurd (omega (arith, none))

    pub search_goes_on : (next : Places) → next.count ≡ found.count + 1 → (found.count ≡ 0 → next.first ≡ at) → (0 < found.count → next.first ≡ found.first)
        → IsSearched next (at + 1)
    search_goes_on next counted fresh kept = record {
      count_is = omega (arith, counted, searched.count_is, ap length one_more, length-append (below at) (at ∷ []));
      first_is = λ any. elim (cases_zero found.count) [
        | inl none ↦ fresh none ∙ sym (first_of (below at) at (sym searched.count_is ∙ none)) ∙ sym (ap (λ l. get_or l 0 0) one_more)
        | inr more ↦ kept more ∙ searched.first_is more ∙ sym (get_or_append_left (below at) (at ∷ []) 0 0 (omega (arith, more, searched.count_is)))
            ∙ sym (ap (λ l. get_or l 0 0) one_more)
      ];
      few = omega (arith, counted, searched.few);
    }

-- how much of the text is left from the next place on
abbrev pub left : ℕ → Option ℕ → ℕ
left end None = 0
left end (Some at) = end + 1 - at
