-- Elements of lines that stay, and passages.
use Rattle.std.proofs.Common.{List, [], ap, arith, drop, length, length-append, nat_eq, refl, subst, suc, sym, take, zero, ℕ, ◌+◌, ◌++◌, ◌-◌, ◌<◌, ◌≤◌, ◌∙◌, ◌∷◌, ◌≡◌, ◌⊎◌, inl}
use Rattle.std.proofs.Common.{inr}
use Rattle.std.specs.Prelude.{All, Some, slice_get}
use Rattle.std.proofs.Math.Seq.{drop-append_seam}
use Rattle.std.proofs.lemmas.List.{drop-drop, drop-take, length-drop, length-take-le, take-take}
use Rattle.std.proofs.lemmas.List.Elements.{All-head, All-tail, All-weaker}
use Rattle.std.proofs.lemmas.Option.{slice_get_within}
use Rattle.fugue_ids.specs.Identifiers.{Identifier}
use Rattle.fugue_ids.specs.declared.op.Op.{Op}
use Rattle.origin_model.specs.declared.operations.Place.TheVariants.{Section as within}
use Rattle.origin_model.specs.edits.State.{State}
use Rattle.origin_model.specs.operations.Verdict.{Lawful}
use Rattle.origin_model.specs.order.Printed.{shown, text}
use Rattle.origin_model.proofs.edits.EditedTextLemmas.{text_length}
use Rattle.origin_model.proofs.edits.SplitLemmas.{get_in}
use Rattle.text_diff.specs.Hunks.{IsCommon, TransformsFrom, hunk_start}
use Rattle.text_diff.specs.Kept.{AreAtSomeEnds, LineStays}
use Rattle.text_diff.specs.Widened.{whole_start}
use Rattle.text_diff.specs.declared.hunk.Hunk.{Hunk}
use Rattle.text_diff.proofs.EndsLemmas.{untouched_at_ends}
use Rattle.text_diff.proofs.HunkLemmas.{transforms_order}
use Rattle.draft_plan.specs.Passages.{AreAmong, AreShown, LieUntouched, IsShownPassage, PassageStays, PassagesStay}
use Rattle.draft_plan.specs.Revision.{KeepsSection}
use Rattle.draft_plan.specs.Texts.{StayBetween}
use Rattle.draft_plan.proofs.HunkLemmas.{AreOrdered, ordered_from}
use Rattle.draft_plan.proofs.KeptLemmas.{ordered_before, stay_from}

abbrev point : (old new : ℕ) → Hunk
point old new = record { old_at = old; old_len = 0; new_at = new; new_len = 0 }

-- what stays from a later point on (a point is written as where a hunk begins)
goes_to : (history : List Op) (old new : List ℕ) (xs : List Identifier) (same : length old ≡ length xs) (least : ℕ) (p : Hunk) (before : List Hunk) (r : Hunk) (behind : List Hunk)
    (ys : List Identifier)
    → TransformsFrom nat_eq old new least (hunk_start p) before (hunk_start r) → AreOrdered old r.old_at behind → StayBetween history p.old_at xs ys (before ++ behind)
    → StayBetween history r.old_at xs (drop (r.new_at - p.new_at) ys) behind
goes_to history old new xs same least p [] r behind ys t o s =
    let many : r.old_at - p.old_at ≡ r.new_at - p.new_at = omega (arith, t.order, t.as_many) in
    subst (λ n. StayBetween history r.old_at xs (drop n ys) behind) many (stay_from history old xs ys p.old_at r.old_at same t.order behind o s).1
goes_to history old new xs same least p (h ∷ hs) r behind ys t o s =
    let front : List Identifier = take (h.old_at - p.old_at) (drop p.old_at xs) in
    let end : Hunk = point (h.old_at + h.old_len) (h.new_at + h.new_len) in
    let rest = goes_to history old new xs same 1 end hs r behind s.1 t.3 o s.5 in
    let order = transforms_order nat_eq old new 1 (hunk_start end) hs (hunk_start r) t.3 in
    let long : length front ≡ h.old_at - p.old_at =
    length-take-le (h.old_at - p.old_at) (drop p.old_at xs) (omega (arith, length-drop p.old_at xs, same, t.1.old_within, t.1.order)) in
    let both : length (front ++ s.0) ≡ end.new_at - p.new_at = omega (arith, length-append front s.0, long, s.2, t.1.order, t.1.as_many) in
    let parts : length (front ++ s.0) + (r.new_at - end.new_at) ≡ r.new_at - p.new_at = omega (arith, both, order.new, t.1.order, t.1.as_many) in
    let is : ys ≡ (front ++ s.0) ++ s.1 = s.4 in
    let past : drop (length (front ++ s.0)) ys ≡ s.1 = ap (drop (length (front ++ s.0))) is ∙ drop-append_seam (front ++ s.0) s.1 in
    let there : drop (r.new_at - end.new_at) s.1 ≡ drop (r.new_at - p.new_at) ys =
    ap (drop (r.new_at - end.new_at)) (sym past) ∙ drop-drop (r.new_at - end.new_at) (length (front ++ s.0)) ys ∙ ap (λ n. drop n ys) parts in
    subst (λ l. StayBetween history r.old_at xs l behind) there rest

-- the elements of a line that no hunk touches stay, in their order
line_stays : (history : List Op) (old new : List ℕ) (xs ys : List Identifier) (hs : List Hunk) → length old ≡ length xs → StayBetween history 0 xs ys hs
    → (at to len : ℕ) (before behind : List Hunk) → hs ≡ before ++ behind
    → TransformsFrom nat_eq old new 0 (hunk_start (point 0 0)) before (hunk_start (point at to))
    → TransformsFrom nat_eq old new 0 (hunk_start (point (at + len) (to + len))) behind (hunk_start (point (length old) (length new)))
    → take len (drop to ys) ≡ take len (drop at xs)
line_stays history old new xs ys hs same s at to len before behind is front rest =
    let ordered = ordered_from nat_eq old new 0 (point (at + len) (to + len)) behind (point (length old) (length new)) rest in
    let here = goes_to history old new xs same 0 (point 0 0) before (point at to) behind ys front (ordered_before old at (at + len) behind (omega arith) ordered)
    (subst (StayBetween history 0 xs ys) is s) in
    let from : to - 0 ≡ to = omega arith in
    let many : at + len - at ≡ len = omega arith in
    let both = (stay_from history old xs (drop to ys) at (at + len) same (omega arith) behind ordered (subst (λ n. StayBetween history at xs (drop n ys) behind) from here)).0 in
    subst (λ n. take n (drop to ys) ≡ take n (drop at xs)) many both

-- the members of a front and of a rest
in_rest : (zs : List Identifier) (i k : ℕ) → slice_get (drop i zs) k ≡ slice_get zs (i + k)
in_rest zs zero k = ap (slice_get zs) (omega arith)
in_rest [] (suc i) k = refl
in_rest (z ∷ zs) (suc i) k = let e : suc (i + k) ≡ suc i + k = omega arith in in_rest zs i k ∙ ap (slice_get (z ∷ zs)) e

in_front_of : (zs : List Identifier) (n k : ℕ) → k < n → slice_get (take n zs) k ≡ slice_get zs k
in_front_of zs zero k l = absurd (omega (arith, l))
in_front_of [] (suc n) k l = refl
in_front_of (z ∷ zs) (suc n) zero l = refl
in_front_of (z ∷ zs) (suc n) (suc k) l = in_front_of zs n k (omega (arith, l))

in_window : (zs : List Identifier) (at len k : ℕ) → k < len → slice_get (take len (drop at zs)) k ≡ slice_get zs (at + k)
in_window zs at len k l = in_front_of (drop at zs) len k l ∙ in_rest zs at k

-- a part of a window
window_part : (zs : List Identifier) (at len j m : ℕ) → j + m ≤ len → take m (drop j (take len (drop at zs))) ≡ take m (drop (at + j) zs)
window_part zs at len j m l =
    let parts : len ≡ j + (len - j) = omega (arith, l) in
    ap (λ n. take m (drop j (take n (drop at zs)))) parts ∙ ap (take m) (drop-take j (len - j) (drop at zs))
    ∙ take-take m (len - j) (drop j (drop at zs)) (omega (arith, l)) ∙ ap (take m) (drop-drop j at zs)

-- what stands in a window that two lists have in common
module _ (xs ys : List Identifier) (at to len : ℕ) (same : take len (drop to ys) ≡ take len (drop at xs)) where
  moves_to : (place : ℕ) (x : Identifier) → at ≤ place → place < at + len → slice_get xs place ≡ Some x → slice_get ys (to + (place - at)) ≡ Some x
  moves_to place x from below e =
      let k : ℕ = place - at in
      let inside : k < len = omega (arith, from, below) in
      let back : at + k ≡ place = omega (arith, from) in
      sym (in_window ys to len k inside) ∙ ap (λ l. slice_get l k) same ∙ in_window xs at len k inside ∙ ap (slice_get xs) back ∙ e

  moves_part : (from end : ℕ) → at ≤ from → from ≤ end → end < at + len
      → take (end + 1 - from) (drop from xs) ≡ take (to + (end - at) + 1 - (to + (from - at))) (drop (to + (from - at)) ys)
  moves_part from end low order high =
      let j : ℕ = from - at in
      let m : ℕ = end + 1 - from in
      let fits : j + m ≤ len = omega (arith, low, order, high) in
      let back : at + j ≡ from = omega (arith, low) in
      let count : to + (end - at) + 1 - (to + (from - at)) ≡ m = omega (arith, low, order) in
      ap (λ n. take m (drop n xs)) (sym back) ∙ sym (window_part xs at len j m fits) ∙ ap (λ l. take m (drop j l)) (sym same) ∙ window_part ys to len j m fits
      ∙ ap (λ n. take n (drop (to + j) ys)) (sym count)

-- what a range of two texts has in common, a part of it has
common_part : (old new : List ℕ) (p q r s : Hunk) → IsCommon nat_eq old new (hunk_start p) (hunk_start q) → p.old_at ≤ r.old_at → r.old_at ≤ s.old_at → s.old_at ≤ q.old_at
    → p.old_at + r.new_at ≡ r.old_at + p.new_at → p.old_at + s.new_at ≡ s.old_at + p.new_at → IsCommon nat_eq old new (hunk_start r) (hunk_start s)
common_part old new p q r s c low order high start end = record {
  order = order;
  as_many = omega (arith, start, end);
  old_within = omega (arith, high, c.old_within);
  new_within = omega (arith, high, end, c.as_many, c.new_within);
  equal = λ i j d from to e. c.equal i j d (omega (arith, low, from)) (omega (arith, high, to)) (omega (arith, e, start));
}

-- hunks in front of a range that none of them touches, and after it
record AreParted (old new : List ℕ) (least : ℕ) (p : Hunk) (hs : List Hunk) (q : Hunk) (at len : ℕ) : Type 0 where
  before : List Hunk
  behind : List Hunk
  to : ℕ
  is : hs ≡ before ++ behind
  front : TransformsFrom nat_eq old new least (hunk_start p) before (hunk_start (point at to))
  rest : TransformsFrom nat_eq old new 0 (hunk_start (point (at + len) (to + len))) behind (hunk_start q)

part_hunks : (old new : List ℕ) (least : ℕ) (p : Hunk) (hs : List Hunk) (q : Hunk) (at len : ℕ) → TransformsFrom nat_eq old new least (hunk_start p) hs (hunk_start q)
    → p.old_at ≤ at → at + len ≤ q.old_at
    → All (λ h. (h.old_at + h.old_len ≤ at) ⊎ (at + len ≤ h.old_at)) hs → AreParted old new least p hs q at len
part_hunks old new least p [] q at len t low high apart = record {
  before = [];
  behind = [];
  to = p.new_at + (at - p.old_at);
  is = refl;
  front = common_part old new p q p (point at (p.new_at + (at - p.old_at))) t (omega arith) low (omega (arith, high)) (omega arith) (omega (arith, low));
  rest = common_part old new p q (point (at + len) (p.new_at + (at - p.old_at) + len)) q t (omega (arith, low)) high (omega arith) (omega (arith, low))
      (omega (arith, t.as_many));
}
part_hunks old new least p (h ∷ hs) q at len t low high apart =
    let Apart : Hunk → Type 0 = λ k. (k.old_at + k.old_len ≤ at) ⊎ (at + len ≤ k.old_at) in
    elim (All-head Apart h hs apart) [
      | inl ends ↦
          let further = part_hunks old new 1 (point (h.old_at + h.old_len) (h.new_at + h.new_len)) hs q at len t.3 ends high (All-tail Apart h hs apart) in
          record {
            before = h ∷ further.before;
            behind = further.behind;
            to = further.to;
            is = ap (λ (l : List Hunk). h ∷ l) further.is;
            front = (t.0, t.1, t.2, further.front);
            rest = further.rest;
          }
      | inr begins ↦ record {
        before = [];
        behind = h ∷ hs;
        to = p.new_at + (at - p.old_at);
        is = refl;
        front = common_part old new p h p (point at (p.new_at + (at - p.old_at))) t.1 (omega arith) low (omega (arith, begins)) (omega arith) (omega (arith, low));
        rest = (
          omega (arith, begins),
          common_part old new p h (point (at + len) (p.new_at + (at - p.old_at) + len)) h t.1 (omega (arith, low)) begins (omega arith)
              (omega (arith, low)) (omega (arith, t.1.as_many)),
          t.2,
          t.3,
        );
      }
    ]

module _ (old new : State) (section : Identifier) (kept : KeepsSection old new section) (w : Lawful old.held.history) where
  abbrev xs : List Identifier
  xs = shown (within section) old.held.history

  abbrev ys : List Identifier
  ys = shown (within section) new.held.history

  abbrev old_text : List ℕ
  old_text = text old.held.history section

  abbrev new_text : List ℕ
  new_text = text new.held.history section

  stays : (at to len : ℕ) (before behind : List Hunk) → kept.elements.hunks ≡ before ++ behind
      → TransformsFrom nat_eq old_text new_text 0 (hunk_start (point 0 0)) before (hunk_start (point at to))
      → TransformsFrom nat_eq old_text new_text 0 (hunk_start (point (at + len) (to + len))) behind (hunk_start (point (length old_text) (length new_text)))
      → take len (drop to ys) ≡ take len (drop at xs)
  stays at to len before behind is front rest =
      line_stays old.held.history old_text new_text xs ys kept.elements.hunks (text_length old.held.history section w) kept.elements.stays at to len before behind is front rest

  module _ (first last : Identifier) (elements : List Identifier) (was : IsShownPassage old.held.history section first last elements) where
    -- a passage in a window that stays
    in_stay : (at to len : ℕ) → take len (drop to ys) ≡ take len (drop at xs) → AreAmong at len was.from was.to → IsShownPassage new.held.history section first last elements
    in_stay at to len same a = record {
      from = to + (was.from - at);
      to = to + (was.to - at);
      order = omega (arith, was.order, a.0);
      begins = moves_to xs ys at to len same was.from first a.0 (omega (arith, was.order, a.1)) was.begins;
      ends = moves_to xs ys at to len same was.to last (omega (arith, was.order, a.0)) a.1 was.ends;
      all = was.all ∙ moves_part xs ys at to len same was.from was.to a.0 was.order a.1;
    }

    untouched : LieUntouched kept.elements.hunks was.from was.to → IsShownPassage new.held.history section first last elements
    untouched apart =
        let len : ℕ = was.to + 1 - was.from in
        let end : was.from + len ≡ was.to + 1 = omega (arith, was.order) in
        let inside : was.to < length xs = slice_get_within xs was.to last was.ends in
        let all = All-weaker (λ h. (h.old_at + h.old_len ≤ was.from) ⊎ (was.to < h.old_at)) (λ h. (h.old_at + h.old_len ≤ was.from) ⊎ (was.from + len ≤ h.old_at))
        (λ h e. elim e [ inl before ↦ inl before | inr behind ↦ inr (omega (arith, behind, end)) ]) kept.elements.hunks apart in
        let parted = part_hunks old_text new_text 0 (point 0 0) kept.elements.hunks (point (length old_text) (length new_text)) was.from len kept.elements.transforms (omega arith)
        (omega (arith, end, inside, text_length old.held.history section w)) all in
        in_stay was.from parted.to len (stays was.from parted.to len parted.before parted.behind parted.is parted.front parted.rest) (omega arith, omega (arith, end))

    at_ends : (other : old_text ≡ new_text → ⊥)
        → AreAtSomeEnds old_text new_text whole_start whole_start (kept.elements.lines other).lines kept.elements.hunks (kept.elements.lines other).gaps was.from was.to
        → IsShownPassage new.held.history section first last elements
    at_ends other at =
        untouched
        (untouched_at_ends old_text new_text whole_start whole_start (kept.elements.lines other).lines kept.elements.hunks (kept.elements.lines other).gaps was.from was.to at)

  passage_stays : (first last : Identifier) (elements : List Identifier) (was : IsShownPassage old.held.history section first last elements)
      → PassageStays old new section kept first last elements was
  passage_stays first last elements was = record {
    ends = λ other.
        let lines = kept.elements.lines other in
        let shows = AreShown new.held.history section first last in
        All-weaker (LineStays old_text new_text kept.elements.hunks)
        (λ k. All (λ l. AreAmong k.old_at k.len was.from was.from → AreAmong l.old_at l.len was.to was.to → shows) lines.lines)
        (λ k sk. All-weaker (LineStays old_text new_text kept.elements.hunks) (λ l. AreAmong k.old_at k.len was.from was.from → AreAmong l.old_at l.len was.to was.to → shows)
        (λ l sl a b. (
          get_in ys (k.new_at + (was.from - k.old_at)) first
              (moves_to xs ys k.old_at k.new_at k.len (stays k.old_at k.new_at k.len sk.before sk.behind sk.is sk.front sk.rest) was.from first a.0 a.1 was.begins),
          get_in ys (l.new_at + (was.to - l.old_at)) last
              (moves_to xs ys l.old_at l.new_at l.len (stays l.old_at l.new_at l.len sl.before sl.behind sl.is sl.front sl.rest) was.to last b.0 b.1 was.ends),
        )) lines.lines lines.stay) lines.lines lines.stay;
    line = λ other.
        let lines = kept.elements.lines other in
        All-weaker (LineStays old_text new_text kept.elements.hunks) (λ l. AreAmong l.old_at l.len was.from was.to → IsShownPassage new.held.history section first last elements)
        (λ l sl a.
        in_stay first last elements was l.old_at l.new_at l.len (stays l.old_at l.new_at l.len sl.before sl.behind sl.is sl.front sl.rest) a) lines.lines lines.stay;
    untouched = untouched first last elements was;
    at_ends = at_ends first last elements was;
    same_text = λ e.
        let same = kept.same_text e in
        record {
          from = was.from;
          to = was.to;
          order = was.order;
          begins = ap (λ l. slice_get l was.from) same ∙ was.begins;
          ends = ap (λ l. slice_get l was.to) same ∙ was.ends;
          all = was.all ∙ ap (λ l. take (was.to + 1 - was.from) (drop was.from l)) (sym same);
        };
  }

pub passages_stay : PassagesStay
passages_stay old new section first last elements kept w was = passage_stays old new section kept w first last elements was
