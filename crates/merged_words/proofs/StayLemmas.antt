-- What stays and what comes where the hunks of a text are made.
use Rattle.std.proofs.Common.{Bool, List, [], ap, append_assoc, arith, drop, false, get_or, inl, inr, length, nat_eq, refl, subst, sym, take, true, ℕ, ◌+◌, ◌++◌, ◌-◌, ◌<◌, ◌≤◌}
use Rattle.std.proofs.Common.{◌∙◌, ◌∷◌, ◌≡◌, ◌⊎◌}
use Rattle.std.specs.Prelude.{if◌then◌else◌, map}
use Rattle.std.specs.List.{All, AllPairs, Contains}
use Rattle.std.proofs.lemmas.Bool.{cases_lt, eq-eqb, eqb-true}
use Rattle.std.proofs.lemmas.List.{drop-drop, drop-map, get_or-drop, get_or-take, length-drop, length-take-le, map-append, take-map}
use Rattle.std.proofs.Math.Seq.{drop-append_seam, take-append_seam}
use Rattle.std.proofs.lemmas.List.Elements.{All-contains, Contains-append_cases, Contains-append_left, Contains-append_right}
use Rattle.fugue_ids.specs.Identifiers.{Identifier}
use Rattle.fugue_ids.specs.declared.op.Op.{Op}
use Rattle.fugue_ids.proofs.ListLemmas.{all_from_contains, all_pairs_across, all_pairs_append, all_pairs_before, all_pairs_after, all_pairs_nil, contains_cases, contains_here}
use Rattle.fugue_ids.proofs.ListLemmas.{contains_none, contains_there}
use Rattle.origin_model.specs.operations.History.{holds}
use Rattle.text_diff.specs.Hunks.{Transforms, TransformsFrom, hunk_start}
use Rattle.text_diff.specs.Merges.{puts_at}
use Rattle.text_diff.specs.Seams.{put}
use Rattle.text_diff.specs.declared.hunk.Hunk.{Hunk}
use Rattle.draft_plan.specs.Texts.{StayBetween}
use Rattle.merged_words.specs.Drafts.{comes_at}

-- hunks follow one another, from a position of the old list and one of the new list on
abbrev pub Follow : (n from new_from : ℕ) → List Hunk → Type 0
Follow n from new_from [] = Unit {0}
Follow n from new_from (h ∷ hs) =
    (from ≤ h.old_at) × (h.old_at + h.old_len ≤ n) × (from + h.new_at ≡ h.old_at + new_from) × Follow n (h.old_at + h.old_len) (h.new_at + h.new_len) hs

-- hunks that transform a text begin within it (a point is written as where a hunk begins)
begins_within : (old new : List ℕ) (least : ℕ) (p : Hunk) (hs : List Hunk) (q : Hunk) → TransformsFrom nat_eq old new least (hunk_start p) hs (hunk_start q) → p.old_at ≤ length old
begins_within old new least p [] q t = omega (arith, t.order, t.old_within)
begins_within old new least p (h ∷ hs) q t = omega (arith, t.1.order, t.1.old_within)

-- and follow one another
follow_from : (old new : List ℕ) (n : ℕ) → length old ≡ n → (least : ℕ) (p : Hunk) (hs : List Hunk) (q : Hunk)
    → TransformsFrom nat_eq old new least (hunk_start p) hs (hunk_start q)
    → Follow n p.old_at p.new_at hs
follow_from old new n e least p [] q t = tt
follow_from old new n e least p (h ∷ hs) q t =
    let end : Hunk = record { old_at = h.old_at + h.old_len; old_len = 0; new_at = h.new_at + h.new_len; new_len = 0 } in
    (t.1.order, omega (arith, e, begins_within old new 1 end hs q t.3), t.1.as_many, follow_from old new n e 1 end hs q t.3)

pub transforms_follow : (old new : List ℕ) (n : ℕ) (hs : List Hunk) → length old ≡ n → Transforms nat_eq old new hs → Follow n 0 0 hs
transforms_follow old new n hs e t =
    follow_from old new n e 0 (record { old_at = 0; old_len = 0; new_at = 0; new_len = 0 }) hs (record { old_at = length old; old_len = 0; new_at = length new; new_len = 0 }) t

-- a hunk cuts what stands at a position
abbrev pub HasCut : List Hunk → ℕ → Type 0
HasCut hs j = (h : Hunk) × Contains hs h × (h.old_at ≤ j) × (j < h.old_at + h.old_len)

-- later hunks begin later
later : (n from new_from : ℕ) (hs : List Hunk) → Follow n from new_from hs → (h : Hunk) → Contains hs h → from ≤ h.old_at
later n from new_from [] f h m = absurd (contains_none h m)
later n from new_from (k ∷ hs) f h m =
    elim (contains_cases k hs h m) [
      | inl e ↦ subst (λ x. from ≤ x.old_at) e f.0
      | inr o ↦ let l : k.old_at + k.old_len ≤ h.old_at = later n (k.old_at + k.old_len) (k.new_at + k.new_len) hs f.3 h o in omega (arith, l, f.0)
    ]

-- what stands in front of all hunks is not cut
front_stays : (n from new_from : ℕ) (hs : List Hunk) → Follow n from new_from hs → (j : ℕ) → j < from → HasCut hs j → ⊥
front_stays n from new_from hs f j l c = let b : from ≤ c.0.old_at = later n from new_from hs f c.0 c.1 in omega (arith, b, l, c.2)

-- nor is what the first hunk does not cut, and no other does
not_cut : (h : Hunk) (hs : List Hunk) (j : ℕ) → (h.old_at ≤ j → j < h.old_at + h.old_len → ⊥) → (HasCut hs j → ⊥) → HasCut (h ∷ hs) j → ⊥
not_cut h hs j f g c =
    elim (contains_cases h hs c.0 c.1) [
      | inl e ↦ f (subst (λ x. x.old_at ≤ j) (sym e) c.2) (subst (λ x. j < x.old_at + x.old_len) (sym e) c.3)
      | inr m ↦ g (c.0, m, c.2, c.3)
    ]

-- a list that comes where a test holds
pub in_if : (b : Bool) (xs : List Identifier) (z : Identifier) → Contains (if b then xs else []) z → (b ≡ true) × Contains xs z
in_if true xs z m = (refl, m)
in_if false xs z m = absurd (contains_none z m)

if_in : (b : Bool) (xs : List Identifier) (z : Identifier) → b ≡ true → Contains xs z → Contains (if b then xs else []) z
if_in b xs z e m = subst (λ c. Contains (if c then xs else []) z) (sym e) m

module _ (F : List Op) (S : List Identifier) where
  -- what comes is new, and a member of the new list
  pub comes_in : (from : ℕ) (L : List Identifier) (hs : List Hunk) (st : StayBetween F from S L hs) (i : ℕ) (z : Identifier) → Contains (comes_at F from S L hs st i) z
      → Contains L z × (holds F z ≡ false)
  comes_in from L [] st i z m = absurd (contains_none z m)
  comes_in from L (h ∷ hs) st i z m =
      let front : List Identifier = take (h.old_at - from) (drop from S) in
      let is : (x : Identifier) → Contains (front ++ (st.0 ++ st.1)) x → Contains L x = λ x k. subst (λ l. Contains l x) (sym (st.4 ∙ append_assoc front st.0 st.1)) k in
      elim (Contains-append_cases (if nat_eq h.old_at i then st.0 else []) (comes_at F (h.old_at + h.old_len) S st.1 hs st.5 i) z m) [
        | inl k ↦
            let o = (in_if (nat_eq h.old_at i) st.0 z k).1 in
            (is z (Contains-append_right front (st.0 ++ st.1) z (Contains-append_left st.0 st.1 z o)), All-contains (λ x. holds F x ≡ false) st.0 z st.3 o)
        | inr k ↦
            let o = comes_in (h.old_at + h.old_len) st.1 hs st.5 i z k in
            (is z (Contains-append_right front (st.0 ++ st.1) z (Contains-append_right st.0 st.1 z o.0)), o.1)
      ]

  -- it comes at a position of the old list
  pub comes_within : (n from new_from : ℕ) (L : List Identifier) (hs : List Hunk) (st : StayBetween F from S L hs) → Follow n from new_from hs → (i : ℕ) (z : Identifier)
      → Contains (comes_at F from S L hs st i) z → i ≤ n
  comes_within n from new_from L [] st f i z m = absurd (contains_none z m)
  comes_within n from new_from L (h ∷ hs) st f i z m =
      elim (Contains-append_cases (if nat_eq h.old_at i then st.0 else []) (comes_at F (h.old_at + h.old_len) S st.1 hs st.5 i) z m) [
        | inl k ↦ let e : h.old_at ≡ i = eqb-true h.old_at i (in_if (nat_eq h.old_at i) st.0 z k).0 in let b = f.1 in omega (arith, e, b)
        | inr k ↦ comes_within n (h.old_at + h.old_len) (h.new_at + h.new_len) st.1 hs st.5 f.3 i z k
      ]

  -- a member of the old list at a position that no hunk cuts
  abbrev pub StaysAt : List Hunk → ℕ → Identifier → Type 0
  StaysAt hs from z = (j : ℕ) × (from ≤ j) × (j < length S) × (get_or S j z ≡ z) × (HasCut hs j → ⊥)

  -- what stands after a position
  after_at : (from : ℕ) (z : Identifier) (k : ℕ) → k < length (drop from S) → get_or (drop from S) k z ≡ z → (from + k < length S) × (get_or S (from + k) z ≡ z)
  after_at from z k l e = (omega (arith, l, length-drop from S), sym (get_or-drop from S k z) ∙ e)

  -- each member of the new list comes, or stays
  pub members : (from new_from : ℕ) (L : List Identifier) (hs : List Hunk) (st : StayBetween F from S L hs) → Follow (length S) from new_from hs → (z : Identifier) → Contains L z
      → ((i : ℕ) × Contains (comes_at F from S L hs st i) z) ⊎ StaysAt hs from z
  members from new_from L [] st f z m =
      let k = subst (λ l. Contains l z) st m in
      let o = after_at from z k.0 k.1 k.2 in
      inr (from + k.0, omega arith, o.0, o.1, λ c. contains_none c.0 c.1)
  members from new_from L (h ∷ hs) st f z m =
      let d : ℕ = h.old_at - from in
      let front : List Identifier = take d (drop from S) in
      let end : ℕ = h.old_at + h.old_len in
      let more : ℕ → List Identifier = comes_at F end S st.1 hs st.5 in
      let here : ℕ → List Identifier = λ i. if nat_eq h.old_at i then st.0 else [] in
      let fits : d ≤ length (drop from S) = omega (arith, length-drop from S, f.0, f.1) in
      elim (Contains-append_cases front (st.0 ++ st.1) z (subst (λ l. Contains l z) (st.4 ∙ append_assoc front st.0 st.1) m)) [
        | inl k ↦
            let short : k.0 < d = omega (arith, k.1, length-take-le d (drop from S) fits) in
            let o = after_at from z k.0 (omega (arith, short, fits)) (sym (get_or-take d (drop from S) k.0 z short) ∙ k.2) in
            inr (
              from + k.0,
              omega arith,
              o.0,
              o.1,
              not_cut h hs (from + k.0) (λ a b. omega (arith, a, short, f.0))
                  (front_stays (length S) end (h.new_at + h.new_len) hs f.3 (from + k.0) (omega (arith, short, f.0))),
            )
        | inr k ↦ elim (Contains-append_cases st.0 st.1 z k) [
          | inl o ↦ inl (h.old_at, Contains-append_left (here h.old_at) (more h.old_at) z (if_in (nat_eq h.old_at h.old_at) st.0 z (eq-eqb h.old_at h.old_at refl) o))
          | inr o ↦ elim (members end (h.new_at + h.new_len) st.1 hs st.5 f.3 z o) [
            | inl c ↦ inl (c.0, Contains-append_right (here c.0) (more c.0) z c.1)
            | inr c ↦ inr (c.0, omega (arith, c.1, f.0), c.2, c.3, not_cut h hs c.0 (λ a b. omega (arith, c.1, b)) c.4)
          ]
        ]
      ]

  -- each member of the old list is cut, or stays
  pub cut_or_stays : (from new_from : ℕ) (L : List Identifier) (hs : List Hunk) (st : StayBetween F from S L hs) → Follow (length S) from new_from hs
      → (j : ℕ) (z : Identifier) → from ≤ j → j < length S → get_or S j z ≡ z → HasCut hs j ⊎ ((HasCut hs j → ⊥) × Contains L z)
  cut_or_stays from new_from L [] st f j z a b e =
      let k : ℕ = j - from in
      let there : from + k ≡ j = omega (arith, a) in
      let m : Contains (drop from S) z = (k, omega (arith, a, b, length-drop from S), get_or-drop from S k z ∙ ap (λ i. get_or S i z) there ∙ e) in
      inr (λ c. contains_none c.0 c.1, subst (λ l. Contains l z) (sym st) m)
  cut_or_stays from new_from L (h ∷ hs) st f j z a b e =
      let d : ℕ = h.old_at - from in
      let front : List Identifier = take d (drop from S) in
      let is : L ≡ front ++ (st.0 ++ st.1) = st.4 ∙ append_assoc front st.0 st.1 in
      let end : ℕ = h.old_at + h.old_len in
      let fits : d ≤ length (drop from S) = omega (arith, length-drop from S, f.0, f.1) in
      elim (cases_lt j h.old_at) [
        | inl l ↦
            let k : ℕ = j - from in
            let short : k < d = omega (arith, a, l) in
            let there : from + k ≡ j = omega (arith, a) in
            let m : Contains front z = (
              k,
              omega (arith, short, length-take-le d (drop from S) fits),
              get_or-take d (drop from S) k z short ∙ get_or-drop from S k z ∙ ap (λ i. get_or S i z) there ∙ e,
            ) in
            inr (
              not_cut h hs j (λ x y. omega (arith, x, l)) (front_stays (length S) end (h.new_at + h.new_len) hs f.3 j (omega (arith, l))),
              subst (λ q. Contains q z) (sym is) (Contains-append_left front (st.0 ++ st.1) z m),
            )
        | inr l ↦ elim (cases_lt j end) [
          | inl r ↦ inl (h, contains_here h hs, l, r)
          | inr r ↦ elim (cut_or_stays end (h.new_at + h.new_len) st.1 hs st.5 f.3 j z r b e) [
            | inl c ↦ inl (c.0, contains_there h hs c.0 c.1, c.2, c.3)
            | inr c ↦ inr (
              not_cut h hs j (λ x y. omega (arith, r, y)) c.0,
              subst (λ q. Contains q z) (sym is) (Contains-append_right front (st.0 ++ st.1) z (Contains-append_right st.0 st.1 z c.1)),
            )
          ]
        ]
      ]

  -- what comes stands in the order of the new list
  pub comes_ordered : (T : Identifier → Identifier → Type 0) (from : ℕ) (L : List Identifier) (hs : List Hunk) (st : StayBetween F from S L hs) → AllPairs T L → (i : ℕ)
      → AllPairs T (comes_at F from S L hs st i)
  comes_ordered T from L [] st o i = all_pairs_nil T
  comes_ordered T from L (h ∷ hs) st o i =
      let front : List Identifier = take (h.old_at - from) (drop from S) in
      let behind : AllPairs T (st.0 ++ st.1) = all_pairs_after T front (st.0 ++ st.1) (subst (AllPairs T) (st.4 ∙ append_assoc front st.0 st.1) o) in
      let here : List Identifier = if nat_eq h.old_at i then st.0 else [] in
      let more : List Identifier = comes_at F (h.old_at + h.old_len) S st.1 hs st.5 i in
      all_pairs_append T here more (by_test (nat_eq h.old_at i) st.0 (all_pairs_before T st.0 st.1 behind))
      (comes_ordered T (h.old_at + h.old_len) st.1 hs st.5 (all_pairs_after T st.0 st.1 behind) i)
      (all_from_contains (λ x. All (T x) more) here (λ x m. all_from_contains (T x) more (λ z n.
      All-contains (T x) st.1 z (All-contains (λ a. All (T a) st.1) st.0 x (all_pairs_across T st.0 st.1 behind) (in_if (nat_eq h.old_at i) st.0 x m).1)
      (comes_in (h.old_at + h.old_len) st.1 hs st.5 i z n).0)))
    where
      by_test : (b : Bool) (xs : List Identifier) → AllPairs T xs → AllPairs T (if b then xs else [])
      by_test true xs q = q
      by_test false xs q = all_pairs_nil T

  -- the scalars that hunks put are those of the elements that come
  pub puts_are : (scalar : Identifier → ℕ) (whole : List Identifier) (from new_from : ℕ) (L : List Identifier) (hs : List Hunk) (st : StayBetween F from S L hs)
      → Follow (length S) from new_from hs → L ≡ drop new_from whole → (i : ℕ) → puts_at (map scalar whole) hs i ≡ map scalar (comes_at F from S L hs st i)
  puts_are scalar whole from new_from L [] st f e i = refl
  puts_are scalar whole from new_from L (h ∷ hs) st f e i =
      let d : ℕ = h.old_at - from in
      let front : List Identifier = take d (drop from S) in
      let long : length front ≡ d = length-take-le d (drop from S) (omega (arith, length-drop from S, f.0, f.1)) in
      let there : new_from + d ≡ h.new_at = omega (arith, f.0, f.2) in
      let behind : drop h.new_at whole ≡ st.0 ++ st.1 =
      ap (λ n. drop n whole) (sym there) ∙ sym (drop-drop d new_from whole) ∙ ap (drop d) (sym e ∙ st.4 ∙ append_assoc front st.0 st.1)
      ∙ ap (λ n. drop n (front ++ (st.0 ++ st.1))) (sym long)
      ∙ drop-append_seam front (st.0 ++ st.1) in
      let come : take h.new_len (drop h.new_at whole) ≡ st.0 = ap (take h.new_len) behind ∙ ap (λ n. take n (st.0 ++ st.1)) (sym st.2) ∙ take-append_seam st.0 st.1 in
      let rest : st.1 ≡ drop (h.new_at + h.new_len) whole =
      sym (drop-append_seam st.0 st.1) ∙ ap (λ n. drop n (st.0 ++ st.1)) st.2 ∙ ap (drop h.new_len) (sym behind) ∙ drop-drop h.new_len h.new_at whole in
      let is_put : put (map scalar whole) h ≡ map scalar st.0 =
      ap (take h.new_len) (drop-map scalar h.new_at whole) ∙ take-map scalar h.new_len (drop h.new_at whole) ∙ ap (map scalar) come in
      (λ k. (if nat_eq h.old_at i then is_put k else []) ++ puts_are scalar whole (h.old_at + h.old_len) (h.new_at + h.new_len) st.1 hs st.5 f.3 rest i k)
      ∙ ap (λ l. l ++ map scalar (comes_at F (h.old_at + h.old_len) S st.1 hs st.5 i)) (by_test (nat_eq h.old_at i) st.0)
      ∙ sym (map-append scalar (if nat_eq h.old_at i then st.0 else []) (comes_at F (h.old_at + h.old_len) S st.1 hs st.5 i))
    where
      by_test : (b : Bool) (xs : List Identifier) → (if b then map scalar xs else []) ≡ map scalar (if b then xs else [])
      by_test true xs = refl
      by_test false xs = refl
