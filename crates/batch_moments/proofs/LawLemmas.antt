-- What the lines tell, added up.
use Rattle.std.proofs.Common.{List, [], ap, arith, drop, false, inl, inr, length, refl, suc, sym, take, true, zero, ℕ, ◌+◌, ◌-◌, ◌++◌, ◌<◌, ◌≤◌, ◌^◌, ◌∙◌, ◌∷◌, ◌≡◌, length-append}
use Rattle.std.specs.Prelude.{Bool, filter, flat_map, if◌then◌else◌, map, nat_eq, sum_by}
use Rattle.std.specs.List.{range_with_len}
use Rattle.std.proofs.lemmas.Bool.{cases_eq, eq-eqb, ne_eqb}
use Rattle.std.proofs.lemmas.List.{drop_all, take-append-drop}
use Rattle.std.proofs.lemmas.List.Elements.{filter-append}
use Rattle.std.proofs.lemmas.List.Sums.{sum_by-append, sum_by-cons}
use Rattle.std.proofs.Math.Seq.{drop-nil}
use Rattle.fugue_ids.specs.declared.op.Op.{Op}
use Rattle.batch_moments.specs.Counts.{count, is_delete, is_note, is_section_operation, is_letter_by, reported_parts, replicas, text_parts, part_of_count}
use Rattle.batch_moments.specs.Laws.{MomentsTellAll, deletes_reported, notes_reported, sections_reported, sum_reported, texts_reported}
use Rattle.batch_moments.specs.Lines.{Line, RiseTo, ops_between, lines_of_moments}
use Rattle.batch_moments.specs.declared.part.Part.{Part}
use Rattle.batch_moments.specs.declared.part.Part.TheVariants.{Texts, Deletes, Sections, Notes}
use Rattle.std.proofs.Math.Nat.{add-zero, zero-add}

-- what a part tells of so many, whatever is measured
sum_of_reported : (m : Part → ℕ) (part : ℕ → Part) (n : ℕ) → (n ≡ 0 → m (part n) ≡ 0) → sum_by m (part_of_count part n) ≡ m (part n)
sum_of_reported m part n none = elim (cases_eq n 0) [
  | inl e ↦ ap (λ (b : Bool). sum_by m (if b then [] else part n ∷ [])) (eq-eqb n 0 e) ∙ sym (none e)
  | inr apart ↦ ap (λ (b : Bool). sum_by m (if b then [] else part n ∷ [])) (ne_eqb n 0 apart) ∙ sum_by-cons m (part n) [] ∙ add-zero (m (part n))
]

module _ (m : Part → ℕ) (f : ℕ → ℕ) where
  abbrev parts_of_range : (a k : ℕ) → List Part
  parts_of_range a k = flat_map (λ r. part_of_count (Texts r) (f r)) (range_with_len a k)

  range_next : (a k : ℕ) → sum_by m (parts_of_range a (suc k)) ≡ sum_by m (part_of_count (Texts a) (f a)) + sum_by m (parts_of_range (a + 1) k)
  range_next a k = sum_by-append m (part_of_count (Texts a) (f a)) (parts_of_range (a + 1) k)

  -- a measure that counts no Text
  range_none : ((r n : ℕ) → m (Texts r n) ≡ 0) → (a k : ℕ) → sum_by m (parts_of_range a k) ≡ 0
  range_none none a zero = refl
  range_none none a (suc k) = range_next a k ∙ (λ i. (sum_of_reported m (Texts a) (f a) (λ e. none a (f a)) ∙ none a (f a)) i + range_none none (a + 1) k i)

module _ (r : ℕ) (f : ℕ → ℕ) where
  here : (a : ℕ) → sum_by (texts_reported r) (part_of_count (Texts a) (f a)) ≡ (if nat_eq a r then f a else 0)
  here a = sum_of_reported (texts_reported r) (Texts a) (f a) (λ e. elim (nat_eq a r) as (λ (b : Bool). (if b then f a else 0) ≡ 0) [ true ↦ e | false ↦ refl ])

  range_beyond : (a k : ℕ) → r < a → sum_by (texts_reported r) (parts_of_range (texts_reported r) f a k) ≡ 0
  range_beyond a zero l = refl
  range_beyond a (suc k) l =
      range_next (texts_reported r) f a k
      ∙ (λ i. (here a ∙ ap (λ (b : Bool). if b then f a else 0) (ne_eqb a r (λ e. omega (arith, l, e)))) i + range_beyond (a + 1) k (omega (arith, l)) i)

  range_within : (a k : ℕ) → a ≤ r → r < a + k → sum_by (texts_reported r) (parts_of_range (texts_reported r) f a k) ≡ f r
  range_within a zero l u = absurd (omega (arith, l, u))
  range_within a (suc k) l u = elim (cases_eq a r) [
    | inl e ↦ range_next (texts_reported r) f a k
        ∙ (λ i. (here a ∙ ap (λ (b : Bool). if b then f a else 0) (eq-eqb a r e)) i + range_beyond (a + 1) k (omega (arith, e)) i) ∙ add-zero (f a) ∙ ap f e
    | inr apart ↦ range_next (texts_reported r) f a k
        ∙ (λ i. (here a ∙ ap (λ (b : Bool). if b then f a else 0) (ne_eqb a r apart)) i + range_within (a + 1) k (omega (arith, l, apart)) (omega (arith, u)) i) ∙ zero-add (f r)
  ]

-- the parts of some operations, whatever is measured
sum_of_parts : (m : Part → ℕ) (ops : List Op) → sum_by m (reported_parts ops)
    ≡ ((sum_by m (text_parts ops) + sum_by m (part_of_count Deletes (count is_delete ops))) + sum_by m (part_of_count Sections (count is_section_operation ops))) + sum_by m
    (part_of_count Notes (count is_note ops))
sum_of_parts m ops =
    sum_by-append m ((text_parts ops ++ part_of_count Deletes (count is_delete ops)) ++ part_of_count Sections (count is_section_operation ops))
    (part_of_count Notes (count is_note ops))
    ∙ ap (λ n. n + sum_by m (part_of_count Notes (count is_note ops)))
    (sum_by-append m (text_parts ops ++ part_of_count Deletes (count is_delete ops)) (part_of_count Sections (count is_section_operation ops))
    ∙ ap (λ n. n + sum_by m (part_of_count Sections (count is_section_operation ops))) (sum_by-append m (text_parts ops) (part_of_count Deletes (count is_delete ops))))

in_text_parts : (r : ℕ) → 0 ≤ r → r < 0 + 2 ^ 32 → (ops : List Op) → sum_by (texts_reported r) (text_parts ops) ≡ count (is_letter_by r) ops
unfolding replicas
in_text_parts r l u ops = range_within r (λ q. count (is_letter_by q) ops) 0 (2 ^ 32) l u

texts_in_parts : (r : ℕ) → r < 2 ^ 32 → (ops : List Op) → sum_by (texts_reported r) (reported_parts ops) ≡ count (is_letter_by r) ops
texts_in_parts r small ops = omega (
  arith,
  sum_of_parts (texts_reported r) ops,
  in_text_parts r (omega arith) (omega (arith, small)) ops,
  sum_of_reported (texts_reported r) Deletes (count is_delete ops) (λ e. refl),
  sum_of_reported (texts_reported r) Sections (count is_section_operation ops) (λ e. refl),
  sum_of_reported (texts_reported r) Notes (count is_note ops) (λ e. refl),
)

no_texts : (m : Part → ℕ) (ops : List Op) → ((r n : ℕ) → m (Texts r n) ≡ 0) → sum_by m (text_parts ops) ≡ 0
unfolding replicas
no_texts m ops none = range_none m (λ q. count (is_letter_by q) ops) none 0 (2 ^ 32)

deletes_in_parts : (ops : List Op) → sum_by deletes_reported (reported_parts ops) ≡ count is_delete ops
deletes_in_parts ops = omega (
  arith,
  sum_of_parts deletes_reported ops,
  no_texts deletes_reported ops (λ r n. refl),
  sum_of_reported deletes_reported Deletes (count is_delete ops) (λ e. e),
  sum_of_reported deletes_reported Sections (count is_section_operation ops) (λ e. refl),
  sum_of_reported deletes_reported Notes (count is_note ops) (λ e. refl),
)

sections_in_parts : (ops : List Op) → sum_by sections_reported (reported_parts ops) ≡ count is_section_operation ops
sections_in_parts ops = omega (
  arith,
  sum_of_parts sections_reported ops,
  no_texts sections_reported ops (λ r n. refl),
  sum_of_reported sections_reported Deletes (count is_delete ops) (λ e. refl),
  sum_of_reported sections_reported Sections (count is_section_operation ops) (λ e. e),
  sum_of_reported sections_reported Notes (count is_note ops) (λ e. refl),
)

notes_in_parts : (ops : List Op) → sum_by notes_reported (reported_parts ops) ≡ count is_note ops
notes_in_parts ops = omega (
  arith,
  sum_of_parts notes_reported ops,
  no_texts notes_reported ops (λ r n. refl),
  sum_of_reported notes_reported Deletes (count is_delete ops) (λ e. refl),
  sum_of_reported notes_reported Sections (count is_section_operation ops) (λ e. refl),
  sum_of_reported notes_reported Notes (count is_note ops) (λ e. e),
)

-- operations in two parts, and the part after another one
count_parts : (is : Op → Bool) (n : ℕ) (ops : List Op) → count is ops ≡ count is (take n ops) + count is (drop n ops)
count_parts is n ops = ap (count is) (sym (take-append-drop n ops)) ∙ ap length (filter-append is (take n ops) (drop n ops))
    ∙ length-append (filter is (take n ops)) (filter is (drop n ops))

drop_both : (n m : ℕ) (ops : List Op) → drop n (drop m ops) ≡ drop (m + n) ops
drop_both n zero ops = ap (λ (k : ℕ). drop k ops) {x = n} {y = 0 + n} (omega arith)
drop_both n (suc m) [] = drop-nil n ∙ sym (drop-nil (suc m + n))
drop_both n (suc m) (op ∷ ops) = drop_both n m ops ∙ ap (λ (k : ℕ). drop k (op ∷ ops)) {x = suc (m + n)} {y = suc m + n} (omega arith)

-- where a measure tells of the operations of each line, the lines tell of all
all_reported : (m : Part → ℕ) (is : Op → Bool) → ((ops : List Op) → sum_by m (reported_parts ops) ≡ count is ops) → (from : ℕ) (moments : List ℕ) (ops : List Op)
    → RiseTo from moments (length ops)
    → sum_reported m (lines_of_moments from moments ops) ≡ count is (drop from ops)
all_reported m is each from [] ops rise = ap (count is) (sym (drop_all from ops (omega (arith, rise))))
all_reported m is each from (moment ∷ moments) ops rise =
    let come : List Op = drop from ops in
    let later : drop (moment - from) come ≡ drop moment ops =
    drop_both (moment - from) from ops ∙ ap (λ (k : ℕ). drop k ops) {x = from + (moment - from)} {y = moment} (omega (arith, rise.0)) in
    sum_by-append m (reported_parts (ops_between from moment ops)) (flat_map (λ (line : Line). line.parts) (lines_of_moments moment moments ops))
    ∙ (λ i. each (ops_between from moment ops) i + (all_reported m is each moment moments ops rise.1 ∙ ap (count is) (sym later)) i) ∙ sym (count_parts is (moment - from) come)

each_line : (from : ℕ) (moments : List ℕ) (ops : List Op) → map (λ (line : Line). line.moment) (lines_of_moments from moments ops) ≡ moments
each_line from [] ops = refl
each_line from (moment ∷ moments) ops = ap (λ (l : List ℕ). moment ∷ l) (each_line moment moments ops)

pub tell_all : MomentsTellAll
tell_all moments ops rise = record {
  each = each_line 0 moments ops;
  texts = λ r small. all_reported (texts_reported r) (is_letter_by r) (texts_in_parts r small) 0 moments ops rise;
  deletes = all_reported deletes_reported is_delete deletes_in_parts 0 moments ops rise;
  sections = all_reported sections_reported is_section_operation sections_in_parts 0 moments ops rise;
  notes = all_reported notes_reported is_note notes_in_parts 0 moments ops rise;
}
