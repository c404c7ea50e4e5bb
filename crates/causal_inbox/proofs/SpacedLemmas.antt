-- The items between gaps: where one stands, and what is left when it leaves.
use Rattle.std.proofs.Common.{ap, arith, inl, inr, refl, sym, subst, List, ℕ, suc, zero, [], ◌∷◌, ◌++◌, ◌+◌, ◌-◌, ◌<◌, ◌≤◌, ◌≡◌, ◌∙◌, length, drop, take, set, get_or}
use Rattle.std.proofs.Common.{length-append, length-drop, append_assoc}
use Rattle.std.specs.Prelude.{Some, slice_get}
use Rattle.std.specs.List.{insert, remove}
use Rattle.std.proofs.lemmas.Bool.{cases_lt, lt-ltb, le-ltb}
use Rattle.std.proofs.lemmas.List.{append-nil, drop-append-le, drop-drop, drop-set-add, drop-set-lt, drop_at, drop-take, get_or_at, length-take-le, set-get_or, set_at, set_split}
use Rattle.std.proofs.lemmas.List.{take-append-le, take-set-le, take_at, take_rest}
use Rattle.std.proofs.lemmas.List.Edits.{remove-append_right}
use Rattle.std.proofs.lemmas.Option.{slice_get-get_or}
use Rattle.std.proofs.Math.Seq.{drop-append-add, take-append-add}
use Rattle.causal_inbox.specs.Gap.{AreGaps, items_around_gap, between_gaps, gaps_before}

-- a place below the gap passes none
below : (gap : ℕ) (gaps : List ℕ) (q : ℕ) → q < gap → gaps_before (gap ∷ gaps) q ≡ 0
below gap gaps q l = rw (lt-ltb q gap l) refl

-- another one passes it
past : (gap : ℕ) (gaps : List ℕ) (q : ℕ) → gap ≤ q → gaps_before (gap ∷ gaps) q ≡ suc (gaps_before gaps (suc q))
past gap gaps q l = rw (le-ltb q gap l) refl

-- gaps begin before they end
pub gaps_end : (from : ℕ) (gaps : List ℕ) (end : ℕ) → AreGaps from gaps end → from ≤ end
gaps_end from [] end r = r
gaps_end from (gap ∷ gaps) end r = omega (arith, r.0, gaps_end (gap + 1) gaps end r.1)

-- a gap stands after as many places as there are gaps before it
pub gap_after : (from : ℕ) (gaps : List ℕ) (end i : ℕ) → AreGaps from gaps end → i < length gaps → from + i ≤ get_or gaps i 0
gap_after from [] end i r l = absurd (omega (arith, l))
gap_after from (gap ∷ gaps) end zero r l = omega (arith, r.0)
gap_after from (gap ∷ gaps) end (suc i) r l = omega (arith, r.0, gap_after (gap + 1) gaps end i r.1 (omega (arith, l)))

-- the gap at `i` is passed where it stands no farther than the place and the gaps before it
pub is_passed : (from : ℕ) (gaps : List ℕ) (end place i : ℕ) → AreGaps from gaps end → i < length gaps → get_or gaps i 0 ≤ place + i → i < gaps_before gaps place
is_passed from [] end place i r l m = absurd (omega (arith, l))
is_passed from (gap ∷ gaps) end place zero r l m = let e = past gap gaps place (omega (arith, m)) in omega (arith, e)
is_passed from (gap ∷ gaps) end place (suc i) r l m =
    let behind : gap + 1 + i ≤ get_or gaps i 0 = gap_after (gap + 1) gaps end i r.1 (omega (arith, l)) in
    let e = past gap gaps place (omega (arith, m, behind)) in
    omega (arith, e, is_passed (gap + 1) gaps end (suc place) i r.1 (omega (arith, l)) (omega (arith, m)))

-- another one is not
pub not_passed : (from : ℕ) (gaps : List ℕ) (end place i : ℕ) → AreGaps from gaps end → i < length gaps → place + i < get_or gaps i 0 → gaps_before gaps place ≤ i
not_passed from [] end place i r l m = absurd (omega (arith, l))
not_passed from (gap ∷ gaps) end place zero r l m = let e = below gap gaps place (omega (arith, m)) in omega (arith, e)
not_passed from (gap ∷ gaps) end place (suc i) r l m = elim (cases_lt place gap) [
  | inl b ↦ let e = below gap gaps place b in omega (arith, e)
  | inr b ↦ let e = past gap gaps place b in omega (arith, e, not_passed (gap + 1) gaps end (suc place) i r.1 (omega (arith, l)) (omega (arith, m)))
]

-- no more are passed than there are
pub passed_within : (gaps : List ℕ) (place : ℕ) → gaps_before gaps place ≤ length gaps
passed_within [] place = omega arith
passed_within (gap ∷ gaps) place = elim (cases_lt place gap) [
  | inl b ↦ let e = below gap gaps place b in omega (arith, e)
  | inr b ↦ let e = past gap gaps place b in omega (arith, e, passed_within gaps (suc place))
]

-- the items between gaps are those of the rest of the list
pub same_rest : {T : Type 0} (xs ys : List T) (from : ℕ) (gaps : List ℕ) (end : ℕ) → AreGaps from gaps end → drop from xs ≡ drop from ys
    → between_gaps xs from gaps ≡ between_gaps ys from gaps
same_rest xs ys from [] end r e = e
same_rest xs ys from (gap ∷ gaps) end r e =
    let on : from + (gap + 1 - from) ≡ gap + 1 = omega (arith, r.0) in
    let rest : drop (gap + 1) xs ≡ drop (gap + 1) ys =
    ap (λ n. drop n xs) (sym on) ∙ sym (drop-drop (gap + 1 - from) from xs) ∙ ap (drop (gap + 1 - from)) e ∙ drop-drop (gap + 1 - from) from ys ∙ ap (λ n. drop n ys) on in
    (λ i. take (gap - from) (e i) ++ same_rest xs ys (gap + 1) gaps end r.1 rest i)

-- how many items there are between gaps
pub length_between : {T : Type 0} (items : List T) (from : ℕ) (gaps : List ℕ) → AreGaps from gaps (length items)
    → from + length gaps + length (between_gaps items from gaps) ≡ length items
length_between items from [] r = omega (arith, r, length-drop from items)
length_between items from (gap ∷ gaps) r =
    let end = gaps_end (gap + 1) gaps (length items) r.1 in
    let front : length (take (gap - from) (drop from items)) ≡ gap - from = length-take-le (gap - from) (drop from items) (omega (arith, length-drop from items, r.0, end)) in
    omega (arith, r.0, end, front, length-append (take (gap - from) (drop from items)) (between_gaps items (gap + 1) gaps), length_between items (gap + 1) gaps r.1)

-- one more at the end
pub between_push : {T : Type 0} (items : List T) (x : T) (from : ℕ) (gaps : List ℕ) → AreGaps from gaps (length items)
    → between_gaps (items ++ x ∷ []) from gaps ≡ between_gaps items from gaps ++ x ∷ []
between_push items x from [] r = drop-append-le from items (x ∷ []) r
between_push items x from (gap ∷ gaps) r =
    let end = gaps_end (gap + 1) gaps (length items) r.1 in
    let front : take (gap - from) (drop from (items ++ x ∷ [])) ≡ take (gap - from) (drop from items) =
    ap (take (gap - from)) (drop-append-le from items (x ∷ []) (omega (arith, r.0, end)))
    ∙ take-append-le (gap - from) (drop from items) (x ∷ []) (omega (arith, length-drop from items, r.0, end)) in
    (λ i. front i ++ between_push items x (gap + 1) gaps r.1 i) ∙ sym (append_assoc (take (gap - from) (drop from items)) (between_gaps items (gap + 1) gaps) (x ∷ []))

-- gaps stand below a later end too
pub gaps_longer : (from : ℕ) (gaps : List ℕ) (end later : ℕ) → AreGaps from gaps end → end ≤ later → AreGaps from gaps later
gaps_longer from [] end later r l = omega (arith, r, l)
gaps_longer from (gap ∷ gaps) end later r l = (r.0, gaps_longer (gap + 1) gaps end later r.1 l)

-- the item that would stand at the place without gaps lies at `at`, between a front and a back
pub record Split {T : Type 0} (items : List T) (from : ℕ) (gaps : List ℕ) (place at : ℕ) : Type 0 where
  pub front : List T
  pub back : List T
  pub long : from + length front ≡ place
  pub within : at < length items
  -- any item that is put there
  pub held : (y : T) → between_gaps (set items at y) from gaps ≡ front ++ y ∷ back
  -- it is gone where there is a gap
  pub left : (y : T) → between_gaps (set items at y) from (insert gaps (gaps_before gaps place) at) ≡ front ++ back
  pub in_order : AreGaps from (insert gaps (gaps_before gaps place) at) (length items)

-- what stands from a place on, where another item is put after it
drop_set : {T : Type 0} (items : List T) (from q : ℕ) (y : T) → from ≤ q → q < length items
    → drop from (set items q y) ≡ take (q - from) (drop from items) ++ y ∷ drop (q + 1) items
drop_set items from q y l w =
    let on : q ≡ from + (q - from) = omega (arith, l) in
    ap (λ n. drop from (set items n y)) on ∙ drop-set-add from items (q - from) y
    ∙ set_split (drop from items) (q - from) y (omega (arith, l, w, length-drop from items))
    ∙ ap (λ r. take (q - from) (drop from items) ++ y ∷ r)
    (drop-drop (suc (q - from)) from items ∙ ap (λ n. drop n items) {x = from + suc (q - from)} {y = q + 1} (omega (arith, l)))

module _ {T : Type 0} (items : List T) where
  -- the items from one place up to another
  abbrev part : ℕ → ℕ → List T
  part from to = take (to - from) (drop from items)

  part_long : (from to : ℕ) → from ≤ to → to ≤ length items → length (part from to) ≡ to - from
  part_long from to l w = length-take-le (to - from) (drop from items) (omega (arith, l, w, length-drop from items))

  -- no gap stands after the place
  last_part : (from q : ℕ) → from ≤ q → q < length items → Split items from [] q q
  last_part from q l w = record {
    front = part from q;
    back = drop (q + 1) items;
    long = omega (arith, l, w, part_long from q l (omega (arith, w)));
    within = w;
    held = λ y. drop_set items from q y l w;
    left = λ y. (λ i. take (q - from) (drop_set items from q y l w i) ++ drop-set-lt (q + 1) items q y (omega arith) i)
        ∙ ap (λ f. f ++ drop (q + 1) items) (take_at (part from q) (y ∷ drop (q + 1) items) (q - from) (part_long from q l (omega (arith, w))));
    in_order = (l, omega (arith, w));
  }

  -- the next gap stands after the place
  this_part : (from gap : ℕ) (gaps : List ℕ) (q : ℕ) → AreGaps from (gap ∷ gaps) (length items) → from ≤ q → q < gap → Split items from (gap ∷ gaps) q q
  this_part from gap gaps q r l b =
      let end = gaps_end (gap + 1) gaps (length items) r.1 in
      let w : q < length items = omega (arith, b, end) in
      let long : length (part from q) ≡ q - from = part_long from q l (omega (arith, w)) in
      let passed = below gap gaps q b in
      let others : (y : T) → between_gaps (set items q y) (gap + 1) gaps ≡ between_gaps items (gap + 1) gaps =
      λ y. same_rest (set items q y) items (gap + 1) gaps (length items) r.1 (drop-set-lt (gap + 1) items q y (omega (arith, b))) in
      let more : gap - from ≡ length (part from q) + suc (gap - (q + 1)) = omega (arith, l, b, long) in
      record {
        front = part from q;
        back = part (q + 1) gap ++ between_gaps items (gap + 1) gaps;
        long = omega (arith, l, long);
        within = w;
        held = λ y. (λ i. take (more i) (drop_set items from q y l w i) ++ others y i)
            ∙ ap (λ f. f ++ between_gaps items (gap + 1) gaps) (take-append-add (part from q) (y ∷ drop (q + 1) items) (suc (gap - (q + 1))))
            ∙ append_assoc (part from q) (y ∷ part (q + 1) gap) (between_gaps items (gap + 1) gaps);
        left = λ y. ap (λ k. between_gaps (set items q y) from (insert (gap ∷ gaps) k q)) passed
            ∙ (λ i. take (q - from) (drop_set items from q y l w i) ++ (take (gap - (q + 1)) (drop-set-lt (q + 1) items q y (omega arith) i) ++ others y i))
            ∙ ap (λ f. f ++ (part (q + 1) gap ++ between_gaps items (gap + 1) gaps)) (take_at (part from q) (y ∷ drop (q + 1) items) (q - from) long);
        in_order = subst (λ k. AreGaps from (insert (gap ∷ gaps) k q) (length items)) (sym passed) (l, (omega (arith, b), r.1));
      }

  -- the place is passed by the next gap
  later_part : (from gap : ℕ) (gaps : List ℕ) (q at : ℕ) → AreGaps from (gap ∷ gaps) (length items) → gap ≤ q → suc q ≤ at → Split items (gap + 1) gaps (suc q) at
      → Split items from (gap ∷ gaps) q at
  later_part from gap gaps q at r b above s =
      let end = gaps_end (gap + 1) gaps (length items) r.1 in
      let long : length (part from gap) ≡ gap - from = part_long from gap r.0 (omega (arith, end)) in
      let passed = past gap gaps q b in
      let on : at ≡ from + (at - from) = omega (arith, r.0, b, above) in
      let same : (y : T) → take (gap - from) (drop from (set items at y)) ≡ part from gap =
      λ y. ap (λ n. take (gap - from) (drop from (set items n y))) on ∙ ap (take (gap - from)) (drop-set-add from items (at - from) y)
      ∙ take-set-le (gap - from) (drop from items) (at - from) y (omega (arith, b, above)) in
      record {
        front = part from gap ++ s.front;
        back = s.back;
        long = omega (arith, long, s.long, r.0, length-append (part from gap) s.front);
        within = s.within;
        held = λ y. (λ i. same y i ++ s.held y i) ∙ sym (append_assoc (part from gap) s.front (y ∷ s.back));
        left = λ y. ap (λ k. between_gaps (set items at y) from (insert (gap ∷ gaps) k at)) passed
            ∙ (λ i. same y i ++ s.left y i) ∙ sym (append_assoc (part from gap) s.front s.back);
        in_order = subst (λ k. AreGaps from (insert (gap ∷ gaps) k at) (length items)) (sym passed) (r.0, s.in_order);
      }

  -- where an item lies
  pub split : (from : ℕ) (gaps : List ℕ) (place at : ℕ) → AreGaps from gaps (length items) → from ≤ place
      → place < from + length (between_gaps items from gaps) → at ≡ place + gaps_before gaps place → Split items from gaps place at
  split from [] place at r l w is =
      let here : place ≡ at = omega (arith, is) in
      subst (Split items from [] place) here (last_part from place l (omega (arith, w, l, r, length-drop from items)))
  split from (gap ∷ gaps) place at r l w is = elim (cases_lt place gap) [
    | inl b ↦
        let here : place ≡ at = omega (arith, is, below gap gaps place b) in
        subst (Split items from (gap ∷ gaps) place) here (this_part from gap gaps place r l b)
    | inr b ↦
        let end = gaps_end (gap + 1) gaps (length items) r.1 in
        let e = past gap gaps place b in
        let long = part_long from gap r.0 (omega (arith, end)) in
        let whole = length-append (part from gap) (between_gaps items (gap + 1) gaps) in
        later_part from gap gaps place at r b (omega (arith, is, e))
        (split (gap + 1) gaps (suc place) at r.1 (omega (arith, b)) (omega (arith, w, whole, long, b, r.0)) (omega (arith, is, e)))
  ]

-- a gap of the size that moves up to the next one, and becomes longer by it
pub joined : {T : Type 0} (xs ys : List T) (gone at size gap : ℕ) (gaps : List ℕ) → gone ≤ at → AreGaps (at + size) (gap ∷ gaps) (length xs) → length ys ≡ length xs
    → items_around_gap ys (gap - size) size ≡ items_around_gap xs at size
    → drop gone (take (gap - size) ys) ++ between_gaps ys (gap + 1) gaps ≡ drop gone (take at xs) ++ between_gaps xs (at + size) (gap ∷ gaps)
joined xs ys gone at size gap gaps behind r same is =
    let end = gaps_end (gap + 1) gaps (length xs) r.1 in
    let to : ℕ = gap - size in
    let passed : List _ = take (gap - (at + size)) (drop (at + size) xs) in
    let long : length (take at xs) ≡ at = length-take-le at xs (omega (arith, r.0, end)) in
    let long_new : length (take to ys) ≡ to = length-take-le to ys (omega (arith, same, end)) in
    let more : to ≡ length (take at xs) + (gap - (at + size)) = omega (arith, long, r.0) in
    let front : take to ys ≡ take at xs ++ passed =
    sym (take_at (take to ys) (drop (to + size) ys) to long_new) ∙ ap (take to) is ∙ ap (λ n. take n (items_around_gap xs at size)) more
    ∙ take-append-add (take at xs) (drop (at + size) xs) (gap - (at + size)) in
    let rest : drop (to + size) ys ≡ drop gap xs =
    sym (drop_at (take to ys) (drop (to + size) ys) to long_new) ∙ ap (drop to) is ∙ ap (λ n. drop n (items_around_gap xs at size)) more
    ∙ drop-append-add (take at xs) (drop (at + size) xs) (gap - (at + size))
    ∙ drop-drop (gap - (at + size)) (at + size) xs ∙ ap (λ n. drop n xs) {x = at + size + (gap - (at + size))} {y = gap} (omega (arith, r.0)) in
    let after_gap : drop (gap + 1) ys ≡ drop (gap + 1) xs =
    ap (λ n. drop n ys) {x = gap + 1} {y = to + size + 1} (omega (arith, r.0)) ∙ sym (drop-drop 1 (to + size) ys) ∙ ap (drop 1) rest ∙ drop-drop 1 gap xs in
    (λ i. drop gone (front i) ++ same_rest ys xs (gap + 1) gaps (length xs) r.1 after_gap i)
    ∙ ap (λ l. l ++ between_gaps xs (gap + 1) gaps) (drop-append-le gone (take at xs) passed (omega (arith, long, behind)))
    ∙ append_assoc (drop gone (take at xs)) passed (between_gaps xs (gap + 1) gaps)

-- where the item at a position lies
pub lies_at : {T : Type 0} (items : List T) (gone : ℕ) (gaps : List ℕ) (position at : ℕ) → AreGaps gone gaps (length items) → position < length (between_gaps items gone gaps)
    → at ≡ gone + position + gaps_before gaps (gone + position) → Split items gone gaps (gone + position) at
lies_at items gone gaps position at in_order within is = split items gone gaps (gone + position) at in_order (omega arith) (omega (arith, within)) is

-- what stands at a position
pub item_there : {T : Type 0} (items : List T) (gone : ℕ) (gaps : List ℕ) (position at : ℕ) (x : T) → Split items gone gaps (gone + position) at → x ≡ get_or items at x
    → slice_get (between_gaps items gone gaps) position ≡ Some x
item_there items gone gaps position at x s is =
    let long : length s.front ≡ position = omega (arith, s.long) in
    let whole : between_gaps items gone gaps ≡ s.front ++ x ∷ s.back =
    ap (λ l. between_gaps l gone gaps) (sym (set-get_or items at x)) ∙ ap (λ y. between_gaps (set items at y) gone gaps) (sym is) ∙ s.held x in
    ap (λ l. slice_get l position) whole
    ∙ slice_get-get_or (s.front ++ x ∷ s.back) position x (omega (arith, long, length-append s.front (x ∷ s.back)))
    ∙ ap Some (get_or_at s.front x s.back x position long)

pub item_at : {T : Type 0} (items : List T) (gone : ℕ) (gaps : List ℕ) (position at : ℕ) (x : T) → AreGaps gone gaps (length items)
    → position < length (between_gaps items gone gaps)
    → at ≡ gone + position + gaps_before gaps (gone + position) → x ≡ get_or items at x → slice_get (between_gaps items gone gaps) position ≡ Some x
item_at items gone gaps position at x in_order within there is = item_there items gone gaps position at x (lies_at items gone gaps position at in_order within there) is

-- another item at a position
pub item_put : {T : Type 0} (items : List T) (gone : ℕ) (gaps : List ℕ) (position at : ℕ) (x y : T) → Split items gone gaps (gone + position) at → x ≡ get_or items at x
    → between_gaps (set items at y) gone gaps ≡ set (between_gaps items gone gaps) position y
item_put items gone gaps position at x y s is =
    let long : length s.front ≡ position = omega (arith, s.long) in
    let whole : between_gaps items gone gaps ≡ s.front ++ x ∷ s.back =
    ap (λ l. between_gaps l gone gaps) (sym (set-get_or items at x)) ∙ ap (λ y. between_gaps (set items at y) gone gaps) (sym is) ∙ s.held x in
    s.held y ∙ sym (set_at s.front x s.back y position long) ∙ ap (λ l. set l position y) (sym whole)

-- the item at a position leaves
pub item_gone : {T : Type 0} (items : List T) (gone : ℕ) (gaps : List ℕ) (position at : ℕ) (x y : T) → Split items gone gaps (gone + position) at → x ≡ get_or items at x
    → between_gaps (set items at y) gone (insert gaps (gaps_before gaps (gone + position)) at) ≡ remove (between_gaps items gone gaps) position
item_gone items gone gaps position at x y s is =
    let long : length s.front ≡ position = omega (arith, s.long) in
    let whole : between_gaps items gone gaps ≡ s.front ++ x ∷ s.back =
    ap (λ l. between_gaps l gone gaps) (sym (set-get_or items at x)) ∙ ap (λ y. between_gaps (set items at y) gone gaps) (sym is) ∙ s.held x in
    let back : position - position ≡ 0 = omega arith in
    s.left y ∙ ap (λ n. s.front ++ remove (x ∷ s.back) n) (sym back) ∙ sym (remove-append_right s.front (x ∷ s.back) position position long (omega arith))
    ∙ ap (λ l. remove l position) (sym whole)

-- what stands from a place on, up to the next gap
pub record Stretch {T : Type 0} (items : List T) (from : ℕ) (gaps : List ℕ) (place at next : ℕ) : Type 0 where
  pub rest : List T
  pub some : at < next
  pub within : next ≤ length items
  pub is : drop (place - from) (between_gaps items from gaps) ≡ take (next - at) (drop at items) ++ rest

pub stretch_there : {T : Type 0} (items : List T) (from : ℕ) (gaps : List ℕ) (place at : ℕ) → AreGaps from gaps (length items) → from ≤ place
    → place < from + length (between_gaps items from gaps) → at ≡ place + gaps_before gaps place
    → Stretch items from gaps place at (get_or gaps (gaps_before gaps place) (length items))
stretch_there items from [] place at r l w is =
    let here : place ≡ at = omega (arith, is) in
    let below : place < length items = omega (arith, w, l, r, length-drop from items) in
    subst (λ n. Stretch items from [] place n (length items)) here (record {
      rest = [];
      some = below;
      within = omega arith;
      is = drop-drop (place - from) from items ∙ ap (λ n. drop n items) {x = from + (place - from)} {y = place} (omega (arith, l))
          ∙ sym (take_rest items place) ∙ sym (append-nil (take (length items - place) (drop place items)));
    })
stretch_there items from (gap ∷ gaps) place at r l w is = elim (cases_lt place gap) [
  | inl b ↦
      let here : place ≡ at = omega (arith, is, below gap gaps place b) in
      let end = gaps_end (gap + 1) gaps (length items) r.1 in
      let more : gap - from ≡ place - from + (gap - place) = omega (arith, l, b) in
      let others : List _ = between_gaps items (gap + 1) gaps in
      let long : length (part items from gap) ≡ gap - from = part_long items from gap r.0 (omega (arith, end)) in
      let found : Stretch items from (gap ∷ gaps) place place gap = record {
        rest = others;
        some = b;
        within = omega (arith, end);
        is = drop-append-le (place - from) (part items from gap) others (omega (arith, long, b, l))
            ∙ ap (λ n. drop (place - from) (take n (drop from items)) ++ others) more
            ∙ ap (λ f. f ++ others) (drop-take (place - from) (gap - place) (drop from items)
            ∙ ap (take (gap - place)) (drop-drop (place - from) from items ∙ ap (λ n. drop n items) {x = from + (place - from)} {y = place} (omega (arith, l))));
      } in
      subst (λ k. Stretch items from (gap ∷ gaps) place at (get_or (gap ∷ gaps) k (length items))) (sym (below gap gaps place b))
      (subst (λ n. Stretch items from (gap ∷ gaps) place n gap) here found)
  | inr b ↦
      let end = gaps_end (gap + 1) gaps (length items) r.1 in
      let e = past gap gaps place b in
      let others : List _ = between_gaps items (gap + 1) gaps in
      let long : length (part items from gap) ≡ gap - from = part_long items from gap r.0 (omega (arith, end)) in
      let s = stretch_there items (gap + 1) gaps (suc place) at r.1 (omega (arith, b)) (omega (arith, w, length-append (part items from gap) others, long, b, r.0))
      (omega (arith, is, e)) in
      let on : place - from ≡ length (part items from gap) + (suc place - (gap + 1)) = omega (arith, long, r.0, b) in
      subst (λ k. Stretch items from (gap ∷ gaps) place at (get_or (gap ∷ gaps) k (length items))) (sym e) (record {
        rest = s.rest;
        some = s.some;
        within = s.within;
        is = ap (λ n. drop n (part items from gap ++ others)) on ∙ drop-append-add (part items from gap) others (suc place - (gap + 1)) ∙ s.is;
      })
]
