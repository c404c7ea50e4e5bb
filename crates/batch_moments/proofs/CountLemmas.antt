-- Counts by replicas, in a map and one by one.
use Rattle.std.proofs.Common.{List, [], ap, arith, false, inl, inr, length, refl, suc, sym, true, zero, ℕ, ◌+◌, ◌++◌, ◌<◌, ◌≤◌, ◌^◌, ◌∙◌, ◌∷◌, ◌≡◌, length-append}
use Rattle.std.specs.Prelude.{Bool, None, Option, Some, cond, filter, flat_map, if◌then◌else◌, map, nat_eq, ◌≢◌}
use Rattle.std.specs.List.{AllByRecursion, range_with_len}
use Rattle.std.specs.List.Sorted.{IsStrictlySortedBy}
use Rattle.std.specs.Map.{count_at, keys_of, lookup}
use Rattle.std.specs.Ordering.{nat_cmp}
use Rattle.std.specs.declared.cmp.Ordering.TheVariants.{Less}
use Rattle.std.specs.BTreeMap.{IsOrdered, get, is_at}
use Rattle.std.specs.Option.{unwrap_or}
use Rattle.std.proofs.lemmas.Bool.{cases_eq, ne_eqb}
use Rattle.std.proofs.lemmas.List.Elements.{filter-append}
use Rattle.fugue_ids.specs.declared.op.Op.{Op}
use Rattle.fugue_ids.proofs.IdentifierLemmas.{nat_at-other, nat_at-same}
use Rattle.batch_moments.specs.Counts.{count, is_delete, is_note, is_section_operation, is_letter_by, replicas, text_parts, part_of_count}
use Rattle.batch_moments.specs.Steps.{AreOf, HaveRoom, some_of}
use Rattle.batch_moments.specs.declared.counting.Counts.{Counts}
use Rattle.batch_moments.specs.declared.part.Part.{Part}
use Rattle.batch_moments.specs.declared.part.Part.TheVariants.{Texts}

-- one operation more
pub count_more : (is : Op → Bool) (ops : List Op) (op : Op) → count is (ops ++ op ∷ []) ≡ count is ops + cond (is op) 1 0
count_more is ops op =
    ap length (filter-append is ops (op ∷ [])) ∙ length-append (filter is ops) (filter is (op ∷ []))
    ∙ ap (λ n. count is ops + n) (elim (is op) as (λ (b : Bool). length (cond b (op ∷ []) []) ≡ cond b 1 0) [ true ↦ refl | false ↦ refl ])

-- what is reported of so many, by whether a count of them is kept
reported_none : (part : ℕ → Part) (n : ℕ) → some_of n ≡ None → part_of_count part n ≡ []
reported_none part n = elim (nat_eq n 0) as (λ (b : Bool). (if b then None else Some n) ≡ None → (if b then [] else part n ∷ []) ≡ []) [
  | true ↦ λ e. refl
  | false ↦ λ e. cc e
]

reported_some : (part : ℕ → Part) (n v : ℕ) → some_of n ≡ Some v → part_of_count part n ≡ part v ∷ []
reported_some part n v = elim (nat_eq n 0) as (λ (b : Bool). (if b then None else Some n) ≡ Some v → (if b then [] else part n ∷ []) ≡ part v ∷ []) [
  | true ↦ λ e. cc e
  | false ↦ λ e. let same : n ≡ v = cc e in ap (λ (m : ℕ). part m ∷ []) same
]

less : (x y : ℕ) → nat_cmp x y ≡ Less → x < y
less x y e = grind (arith, e)

-- the value at a number
abbrev at : ℕ → List (ℕ × ℕ) → Option ℕ
at r es = lookup (is_at (nat_cmp r)) es

at_here : (x v : ℕ) (es : List (ℕ × ℕ)) → at x ((x, v) ∷ es) ≡ Some v
at_here x v es = ap (λ b. cond b (Some v) (at x es)) (nat_at-same x)

at_there : (r x v : ℕ) (es : List (ℕ × ℕ)) → x ≢ r → at r ((x, v) ∷ es) ≡ at r es
at_there r x v es apart = ap (λ b. cond b (Some v) (at r es)) (nat_at-other r x apart)

at_none : (a : ℕ) (es : List (ℕ × ℕ)) → AllByRecursion (λ y. a < y) (keys_of es) → at a es ≡ None
at_none a [] above = refl
at_none a (e ∷ es) above = at_there a e.0 e.1 es (λ same. omega (arith, above.0, same)) ∙ at_none a es above.1

all_above : (x : ℕ) (ys : List ℕ) → AllByRecursion (λ y. nat_cmp x y ≡ Less) ys → AllByRecursion (λ y. x < y) ys
all_above x [] all = tt
all_above x (y ∷ ys) all = (less x y all.0, all_above x ys all.1)

all_from : (P Q : ℕ → Type 0) (ys : List ℕ) → ((y : ℕ) → P y → Q y) → AllByRecursion P ys → AllByRecursion Q ys
all_from P Q [] each all = tt
all_from P Q (y ∷ ys) each all = (each y all.0, all_from P Q ys each all.1)

-- a part for the replica
abbrev pub as_part : ℕ × ℕ → Part
as_part e = Texts e.0 e.1

module _ (f : ℕ → ℕ) where
  abbrev reported_of : ℕ → List Part
  reported_of r = part_of_count (Texts r) (f r)

  -- what is kept at ascending numbers, of which each is one of k from a on, is what is reported of those
  reported_each : (a k : ℕ) (es : List (ℕ × ℕ)) → IsStrictlySortedBy nat_cmp (keys_of es) → AllByRecursion (λ y. a ≤ y) (keys_of es)
      → ((r : ℕ) → a ≤ r → r < a + k → at r es ≡ some_of (f r))
      → ((r : ℕ) → a + k ≤ r → at r es ≡ None) → map as_part es ≡ flat_map reported_of (range_with_len a k)
  unfolding IsStrictlySortedBy
  reported_each a zero [] sorted from within beyond = refl
  reported_each a zero ((x, v) ∷ es) sorted from within beyond = let none : Some v ≡ None = sym (at_here x v es) ∙ beyond x (omega (arith, from.0)) in cc none
  reported_each a (suc k) [] sorted from within beyond =
      reported_each (a + 1) k [] tt tt (λ r l u. within r (omega (arith, l)) (omega (arith, u))) (λ r l. refl)
      ∙ ap (λ (l : List Part). l ++ flat_map reported_of (range_with_len (a + 1) k)) (sym (reported_none (Texts a) (f a) (sym (within a (omega arith) (omega arith)))))
  reported_each a (suc k) ((x, v) ∷ es) sorted from within beyond =
      let above = all_above x (keys_of es) sorted.0 in
      elim (cases_eq a x) [
        | inl e ↦
            let one : reported_of a ≡ Texts x v ∷ [] =
            reported_some (Texts a) (f a) v (sym (within a (omega arith) (omega arith)) ∙ ap (λ (y : ℕ). at y ((x, v) ∷ es)) e ∙ at_here x v es)
            ∙ ap (λ (y : ℕ). Texts y v ∷ []) e in
            let rest : map as_part es ≡ flat_map reported_of (range_with_len (a + 1) k) =
            reported_each (a + 1) k es sorted.1 (all_from (λ y. x < y) (λ y. a + 1 ≤ y) (keys_of es) (λ y l. omega (arith, l, e)) above)
            (λ r l u. sym (at_there r x v es (λ same. omega (arith, l, e, same))) ∙ within r (omega (arith, l)) (omega (arith, u)))
            (λ r l. sym (at_there r x v es (λ same. omega (arith, l, e, same))) ∙ beyond r (omega (arith, l))) in
            ap (λ (l : List Part). Texts x v ∷ l) rest ∙ ap (λ (l : List Part). l ++ flat_map reported_of (range_with_len (a + 1) k)) (sym one)
        | inr apart ↦
            let later : a < x = omega (arith, from.0, apart) in
            let none : at a ((x, v) ∷ es) ≡ None = at_none a ((x, v) ∷ es) (later, all_from (λ y. x < y) (λ y. a < y) (keys_of es) (λ y l. omega (arith, l, later)) above) in
            reported_each (a + 1) k ((x, v) ∷ es) sorted (omega (arith, later), all_from (λ y. x < y) (λ y. a + 1 ≤ y) (keys_of es) (λ y l. omega (arith, l, later)) above)
            (λ r l u. within r (omega (arith, l)) (omega (arith, u))) (λ r l. beyond r (omega (arith, l)))
            ∙ ap (λ (l : List Part). l ++ flat_map reported_of (range_with_len (a + 1) k)) (sym (reported_none (Texts a) (f a) (sym (within a (omega arith) (omega arith)) ∙ none)))
      ]

all_from_zero : (ys : List ℕ) → AllByRecursion (λ y. 0 ≤ y) ys
all_from_zero [] = tt
all_from_zero (y ∷ ys) = (omega arith, all_from_zero ys)

-- the entries of a map of counts are the parts that tell of the Texts
pub entries_reported : (counts : Counts) (ops : List Op) → IsOrdered nat_cmp counts.texts → AreOf ops counts → map as_part counts.texts.entries ≡ text_parts ops
unfolding replicas
entries_reported counts ops ordered are =
    reported_each (λ r. count (is_letter_by r) ops) 0 (2 ^ 32) counts.texts.entries ordered (all_from_zero (keys_of counts.texts.entries)) (λ r l u. are.texts r)
    (λ r l. are.beyond r l)

filter_short : (is : Op → Bool) (ops : List Op) → count is ops ≤ length ops
filter_short is [] = omega arith
filter_short is (op ∷ ops) =
    let less : count is ops ≤ length ops = filter_short is ops in
    elim (is op) as (λ (b : Bool). length (cond b (op ∷ filter is ops) (filter is ops)) ≤ suc (length ops)) [ true ↦ omega (arith, less) | false ↦ omega (arith, less) ]

-- a number that is kept only where it is not 0, read back
read_back : (n : ℕ) → unwrap_or (some_of n) 0 ≡ n
read_back n = elim (cases_eq n 0) [
  | inl e ↦ rw e refl
  | inr apart ↦ rw (ne_eqb n 0 apart) refl
]

-- counts of so many operations can be one more
pub have_room : (counts : Counts) (ops : List Op) → AreOf ops counts → length ops + 1 < 2 ^ 64 → HaveRoom counts
have_room counts ops are short = record {
  texts = λ r. let n : count_at (get nat_cmp counts.texts) r ≡ count (is_letter_by r) ops =
      ap (λ o. unwrap_or o 0) (are.texts r) ∙ read_back (count (is_letter_by r) ops) in omega (arith, n, filter_short (is_letter_by r) ops, short);
  deletes = omega (arith, are.deletes, filter_short is_delete ops, short);
  sections = omega (arith, are.sections, filter_short is_section_operation ops, short);
  notes = omega (arith, are.notes, filter_short is_note ops, short);
}
