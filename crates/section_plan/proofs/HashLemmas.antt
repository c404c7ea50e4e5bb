-- Texts by the marks of their first thirds.
use Rattle.std.proofs.Common.{List, [], ap, arith, cond, false, get_or, inl, inr, length, nat_eq, nat_le, nat_lt, refl, reverse, subst, suc, sym, take, true, zero, ℕ, ◌*◌, ◌+◌}
use Rattle.std.proofs.Common.{◌-◌, ◌++◌, ◌/◌, ◌<◌, ◌≤◌, ◌∙◌, ◌∷◌, ◌≡◌, ◌⊎◌}
use Rattle.std.specs.Prelude.{IfNone, IfSome, None, Option, Some, slice_get}
use Rattle.std.specs.List.{common_prefix_len}
use Rattle.std.proofs.Math.Nat.{min-eq_left, min_comm}
use Rattle.std.proofs.lemmas.Bool.{and_parts, cases_Bool, cases_eq, eqb-true, leb-false, leb-true, ltb-false, ltb-true, or_cases}
use Rattle.std.proofs.lemmas.List.Sums.{common_prefix_len-le}
use Rattle.std.proofs.lemmas.List.{get_or_append_left, get_or_push, length-reverse, length_push, take_more}
use Rattle.std.proofs.lemmas.Option.{same_Some, slice_get_within}
use Rattle.section_plan.specs.Alike.{NoneAmong}
use Rattle.section_plan.specs.Likeness.{alike, longer_text, shares_third}
use Rattle.section_plan.specs.Hashes.{AreThirds, AreTried, IsFirst, IsNotBefore, IsTextIndex, NoneFronted, NoneHashed, earlier, hash_from, hash_of_text, next_hash, third_hash}
use Rattle.section_plan.specs.Hashes.{turns_left}
use Rattle.section_plan.specs.Matching.{part_of}
use Rattle.section_plan.specs.declared.alike.Scalars.{Scalars}
use Rattle.section_plan.specs.declared.hashes.HashIndex.{HashIndex}
use Rattle.section_plan.specs.declared.pairs.Pairs.{Pairs}

-- one scalar more
hash_push : (m : ℕ) (xs : List ℕ) (c : ℕ) → hash_from m (xs ++ c ∷ []) ≡ next_hash (hash_from m xs) c
hash_push m [] c = refl
hash_push m (x ∷ xs) c = hash_push (next_hash m x) xs c

pub hash_more : (xs : List ℕ) (i c : ℕ) → i < length xs → get_or xs i 0 ≡ c → hash_of_text (take (i + 1) xs) ≡ next_hash (hash_of_text (take i xs)) c
hash_more xs i c l e = ap hash_of_text (take_more xs i 0 l ∙ ap (λ d. take i xs ++ d ∷ []) e) ∙ hash_push 0 (take i xs) c

pub hash_next : (xs : List ℕ) (i m c n : ℕ) → i < length xs → get_or xs i 0 ≡ c → m ≡ hash_of_text (take i xs) → n ≡ next_hash m c → n ≡ hash_of_text (take (i + 1) xs)
hash_next xs i m c n l e was is = is ∙ (ap (λ k. next_hash k c) was ∙ sym (hash_more xs i c l e))

-- the same scalars are at the front as far as two lists are the same
pub front_same : (a b : List ℕ) (w : ℕ) → w ≤ common_prefix_len nat_eq a b → take w a ≡ take w b
front_same a b zero l = refl
front_same [] b (suc w) l = absurd (omega (arith, l))
front_same (x ∷ a) [] (suc w) l = absurd (omega (arith, l))
front_same (x ∷ a) (y ∷ b) (suc w) l = elim (cases_Bool (nat_eq x y)) [
  | inl e ↦
      let n : common_prefix_len nat_eq (x ∷ a) (y ∷ b) ≡ 1 + common_prefix_len nat_eq a b = ap (λ t. cond t (1 + common_prefix_len nat_eq a b) 0) e in
      let same : x ≡ y = eqb-true x y e in
      let rest = front_same a b w (omega (arith, l, n)) in
      λ i. same i ∷ rest i
  | inr e ↦ let n : common_prefix_len nat_eq (x ∷ a) (y ∷ b) ≡ 0 = ap (λ t. cond t (1 + common_prefix_len nat_eq a b) 0) e in absurd (omega (arith, l, n))
]

module _ (p : Pairs) (sections : List Scalars) (hashes : List ℕ) (hash : ℕ) (text : List ℕ) (long : length hashes ≡ length sections) where
  hashed_within : (k : ℕ) (s : Scalars) → slice_get sections k ≡ Some s → k < length hashes
  hashed_within k s at = omega (arith, slice_get_within sections k s at, long)

  -- none was tried yet
  pub tried_none : (o : Option ℕ) → IsFirst hashes 0 hash o → AreTried p sections hashes hash text o
  tried_none None none = record { there = λ k e. cc e; tried = λ k s at same free. absurd (none k (omega arith) (hashed_within k s at) same) }
  tried_none (Some l) first = record {
    there = λ k e. let d : l ≡ k = same_Some l k e in (omega (arith, first.1, d), ap (λ i. get_or hashes i 0) (sym d) ∙ first.2);
    tried = λ k s at same free. inr (first.3 k (omega arith) (hashed_within k s at) same);
  }

  -- one more was
  pub tried_more : (k : ℕ) (o : Option ℕ) (u : Scalars) → AreTried p sections hashes hash text (Some k) → IsFirst hashes (k + 1) (get_or hashes k 0) o → slice_get sections k ≡ Some u
      → (part_of p u.place ≡ None → alike u.list.items text ≡ false)
      → AreTried p sections hashes hash text o
  tried_more k o u was first at other = record {
    there = λ j e. there o first j e;
    tried = λ j s here same free. elim (was.tried j s here same free) [
      | inl out ↦ inl out
      | inr l ↦ elim (cases_eq j k) [
        | inl e ↦ let is : u ≡ s =
            same_Some u s (sym at ∙ (ap (slice_get sections) (sym e) ∙ here)) in
            inl (ap (λ (t : Scalars). alike t.list.items text) (sym is) ∙ other (ap (λ (t : Scalars). part_of p t.place) is ∙ free))
        | inr ne ↦ inr (from_next o first j (omega (arith, l, ne)) (hashed_within j s here) same)
      ]
    ];
  }
    where
      here_hash : get_or hashes k 0 ≡ hash
      here_hash = (was.there k refl).1

      there : (o : Option ℕ) → IsFirst hashes (k + 1) (get_or hashes k 0) o → (j : ℕ) → o ≡ Some j → (j < length hashes) × (get_or hashes j 0 ≡ hash)
      there None first j e = cc e
      there (Some i) first j e = let d : i ≡ j = same_Some i j e in (omega (arith, first.1, d), ap (λ n. get_or hashes n 0) (sym d) ∙ (first.2 ∙ here_hash))

      from_next : (o : Option ℕ) → IsFirst hashes (k + 1) (get_or hashes k 0) o → (j : ℕ) → k + 1 ≤ j → j < length hashes → get_or hashes j 0 ≡ hash → IsNotBefore o j
      from_next None first j l within same = first j l within (same ∙ sym here_hash)
      from_next (Some i) first j l within same = first.3 j l within (same ∙ sym here_hash)

  -- all were
  pub tried_all : AreTried p sections hashes hash text None → NoneHashed p sections hashes hash text
  tried_all was k s at same free = elim (was.tried k s at same free) [ inl out ↦ out | inr none ↦ absurd none ]

-- the next place is after
pub falls : (hashes : List ℕ) (k hash : ℕ) (o : Option ℕ) → k < length hashes → IsFirst hashes (k + 1) hash o → turns_left (length hashes) o < length hashes - k
falls hashes k hash None l first = omega (arith, l)
falls hashes k hash (Some i) l first = omega (arith, first.0, first.1)

-- one front more
pub fronted_more : (p : Pairs) (sections : List Scalars) (hashes list text : List ℕ) (n hash : ℕ) → NoneFronted p sections hashes list n text → hash ≡ hash_of_text (take n list)
    → NoneHashed p sections hashes hash text
    → NoneFronted p sections hashes list (n + 1) text
fronted_more p sections hashes list text n hash was is none w l = elim (cases_eq w n) [
  | inl e ↦ subst (λ m. NoneHashed p sections hashes m text) (is ∙ ap (λ i. hash_of_text (take i list)) (sym e)) none
  | inr ne ↦ was w (omega (arith, l, ne))
]

pub fronted_next : (p : Pairs) (sections : List Scalars) (hashes list text : List ℕ) (n hash : ℕ) (found hashed : Option ℕ)
    → IfNone found (NoneFronted p sections hashes list n text) → hash ≡ hash_of_text (take n list)
    → IfNone hashed (NoneHashed p sections hashes hash text) → IfNone (earlier found hashed) (NoneFronted p sections hashes list (n + 1) text)
fronted_next p sections hashes list text n hash None None was is none = fronted_more p sections hashes list text n hash was is none
fronted_next p sections hashes list text n hash None (Some j) was is none = tt
fronted_next p sections hashes list text n hash (Some k) None was is none = tt
fronted_next p sections hashes list text n hash (Some k) (Some j) was is none = tt

-- what holds of two places holds of the earlier one
pub earlier_is : (P : ℕ → Type 0) (one other : Option ℕ) → IfSome one P → IfSome other P → IfSome (earlier one other) P
earlier_is P None other f g = g
earlier_is P (Some k) None f g = f
earlier_is P (Some k) (Some j) f g = elim (cases_Bool (nat_le k j)) [
  | inl e ↦ subst P (sym (min-eq_left (leb-true k j e))) f
  | inr e ↦ let less : j < k = leb-false k j e in subst P (sym (min_comm k j ∙ min-eq_left (omega (arith, less)))) g
]

-- the longer one of two texts is as long as each of them
longer_long : (a b : List ℕ) → (length a ≤ length (longer_text a b)) × (length b ≤ length (longer_text a b))
longer_long a b = by (cases_Bool (nat_lt (length a) (length b)))
  where
    by : (nat_lt (length a) (length b) ≡ true) ⊎ (nat_lt (length a) (length b) ≡ false) → (length a ≤ length (longer_text a b)) × (length b ≤ length (longer_text a b))
    by (inl e) =
        let is : length (longer_text a b) ≡ length b = ap (λ t. length (cond t b a)) e in
        let less : length a < length b = ltb-true (length a) (length b) e in
        (omega (arith, is, less), omega (arith, is))
    by (inr e) =
        let is : length (longer_text a b) ≡ length a = ap (λ t. length (cond t b a)) e in
        let more : length b ≤ length a = ltb-false (length a) (length b) e in
        (omega (arith, is), omega (arith, is, more))

-- a third of a text that is common is a front of both
third_front : (a b xs ys : List ℕ) → length xs ≡ length a → length ys ≡ length b → shares_third (common_prefix_len nat_eq xs ys) (length (longer_text a b)) ≡ true
    → (length xs / 3 < length ys + 1) × (third_hash xs ≡ hash_of_text (take (length xs / 3) ys))
third_front a b xs ys l m e =
    let le : length (longer_text a b) ≤ 3 * common_prefix_len nat_eq xs ys = leb-true (length (longer_text a b)) (3 * common_prefix_len nat_eq xs ys) e in
    let long = longer_long a b in
    let bound = common_prefix_len-le nat_eq xs ys in
    let w : length xs / 3 ≤ common_prefix_len nat_eq xs ys = omega (arith, le, long.0, l) in
    (omega (arith, w, bound.1), ap hash_of_text (front_same xs ys (length xs / 3) w))

-- where none that has the mark of a front is alike, nor of an end, none is
pub none_among : (p : Pairs) (texts : List Scalars) (front end : HashIndex) (text back : List ℕ) → IsTextIndex texts front end → back ≡ reverse text
    → NoneFronted p texts front.hashes.items text (length text + 1) text
    → NoneFronted p texts end.hashes.items back (length back + 1) text → NoneAmong p texts (length texts) text
none_among p texts front end text back is reversed fronts ends k s l at free = by (cases_Bool (alike s.list.items text))
  where
    back_is : s.reversed.items ≡ reverse s.list.items
    back_is = is.reversed k s at

    by : (alike s.list.items text ≡ true) ⊎ (alike s.list.items text ≡ false) → alike s.list.items text ≡ false
    by (inr e) = e
    by (inl e) =
        let sides = (and_parts _ _ e).1 in
        elim (or_cases _ _ sides) [
          | inl f ↦
              let t = third_front s.list.items text s.list.items text refl refl f in
              fronts (length s.list.items / 3) t.0 k s at (is.by_front.thirds.each k s l at ∙ t.1) free
          | inr f ↦
              let g : shares_third (common_prefix_len nat_eq s.reversed.items back) (length (longer_text s.list.items text)) ≡ true =
              (λ i. shares_third (common_prefix_len nat_eq (back_is i) (reversed i)) (length (longer_text s.list.items text))) ∙ f in
              let t = third_front s.list.items text s.reversed.items back (ap length back_is ∙ length-reverse s.list.items) (ap length reversed ∙ length-reverse text) g in
              ends (length s.reversed.items / 3) t.0 k s at (is.by_end.thirds.each k s l at ∙ t.1) free
        ]

pub none_found : (p : Pairs) (texts : List Scalars) (front end : HashIndex) (text back : List ℕ) (one other : Option ℕ) → IsTextIndex texts front end → back ≡ reverse text
    → IfNone one (NoneFronted p texts front.hashes.items text (length text + 1) text) → IfNone other (NoneFronted p texts end.hashes.items back (length back + 1) text)
    → IfNone (earlier one other) (NoneAmong p texts (length texts) text)
none_found p texts front end text back None None is reversed fronts ends = none_among p texts front end text back is reversed fronts ends
none_found p texts front end text back None (Some j) is reversed fronts ends = tt
none_found p texts front end text back (Some k) None is reversed fronts ends = tt
none_found p texts front end text back (Some k) (Some j) is reversed fronts ends = tt

-- one mark more
pub thirds_more : (list : Scalars → List ℕ) (texts : List Scalars) (n : ℕ) (hashes : List ℕ) (s : Scalars) (m : ℕ) → AreThirds list texts n hashes → slice_get texts n ≡ Some s
    → m ≡ third_hash (list s) → AreThirds list texts (n + 1) (hashes ++ m ∷ [])
thirds_more list texts n hashes s m was at is = record {
  long = length_push hashes m ∙ ap (λ k. k + 1) was.long;
  each = λ k t l e. elim (cases_eq k n) [
    | inl same ↦
        let u : s ≡ t = same_Some s t (sym at ∙ (ap (slice_get texts) (sym same) ∙ e)) in
        get_or_push hashes m 0 k (was.long ∙ sym same) ∙ (is ∙ ap (λ (t : Scalars). third_hash (list t)) u)
    | inr ne ↦ get_or_append_left hashes (m ∷ []) 0 k (omega (arith, l, ne, was.long)) ∙ was.each k t (omega (arith, l, ne)) e
  ];
}
