-- A walk over the Sections and Notes alone. What holds before an operation, and is not changed by those between them, holds after all.
use Rattle.std.proofs.Common.{Bool, List, [], ap, append_assoc, arith, drop, false, get_or, inl, inr, length, refl, reverse, subst, suc, sym, take, ℕ, ◌+◌, ◌++◌, ◌<◌, ◌∙◌, ◌∷◌}
use Rattle.std.proofs.Common.{◌≡◌, ◌≤◌}
use Rattle.std.proofs.lemmas.Bool.{cases_Bool}
use Rattle.std.proofs.lemmas.List.{append-nil, drop_more, length-drop, length-reverse, reverse-append, take_all, take_more, drop_all}
use Rattle.std.proofs.lemmas.Option.{slice_get_read}
use Rattle.std.specs.Prelude.{None, Option, Some, if◌then◌else◌, option_and_then, slice_get}
use Rattle.fugue_ids.specs.declared.op.Op.{Op}
use Rattle.replica_core.specs.Index.{if_section_or_note, is_section_or_note, position_if, section_or_note_at, sections_and_notes}

-- what a list passed, the newest first: one more
pub passed_more : {X : Type 0} → (xs : List X) (i : ℕ) (x : X) → i < length xs → x ≡ get_or xs i x → reverse (take (i + 1) xs) ≡ x ∷ reverse (take i xs)
passed_more xs i x l e =
    ap reverse (take_more xs i x l) ∙ reverse-append (take i xs) (get_or xs i x ∷ []) ∙ ap (λ z. z ∷ reverse (take i xs)) (sym e)

-- what is so of those that were passed, and of one more
pub passed_step : {X : Type 0} → (P : List X → Type 0) (xs : List X) (i : ℕ) (x : X) → i < length xs → x ≡ get_or xs i x → P (x ∷ reverse (take i xs))
    → P (reverse (take (i + 1) xs))
passed_step P xs i x l e p = subst P (sym (passed_more xs i x l e)) p

-- all are passed
pub passed_all : {X : Type 0} → (xs : List X) (i : ℕ) → length xs ≤ i → reverse (take i xs) ≡ reverse xs
passed_all xs i l = ap reverse (take_all i xs l)

-- the positions of those among operations, the oldest first, of which the first has the position i
abbrev pub positions_from : ℕ → List Op → List ℕ
positions_from i [] = []
positions_from i (op ∷ ops) = position_if (is_section_or_note op) i ++ positions_from (suc i) ops

from-push : (i : ℕ) (ops : List Op) (op : Op) → positions_from i (ops ++ op ∷ []) ≡ positions_from i ops ++ position_if (is_section_or_note op) (length ops + i)
from-push i [] op =
    let on : i ≡ 0 + i = omega arith in
    append-nil (position_if (is_section_or_note op) i) ∙ ap (position_if (is_section_or_note op)) on
from-push i (o ∷ ops) op =
    let on : length ops + suc i ≡ length (o ∷ ops) + i = omega arith in
    ap (λ l. position_if (is_section_or_note o) i ++ l) (from-push (suc i) ops op ∙ ap (λ k. positions_from (suc i) ops ++ position_if (is_section_or_note op) k) on)
    ∙ sym (append_assoc (position_if (is_section_or_note o) i) (positions_from (suc i) ops) (position_if (is_section_or_note op) (length (o ∷ ops) + i)))

-- they are those of the history
positions-from : (h : List Op) → sections_and_notes h ≡ positions_from 0 (reverse h)
positions-from [] = refl
positions-from (op ∷ h) =
    let count : length h ≡ length (reverse h) + 0 = omega (arith, length-reverse h) in
    (λ i. positions-from h i ++ position_if (is_section_or_note op) (count i))
    ∙ sym (from-push 0 (reverse h) op)
    ∙ ap (positions_from 0) (sym (reverse-append (op ∷ []) h))

-- a walk over positions has passed the first k of them, and all operations before `at`
pub record Walks (P : ℕ → Type 0) (ops : List Op) (positions : List ℕ) (k : ℕ) : Type 0 where
  pub at : ℕ
  pub within : at ≤ length ops
  pub left : drop k positions ≡ positions_from at (drop at ops)
  pub holds : P at

-- the walk stands at the operation of the position p, which is the next one
pub record StandsAt (P : ℕ → Type 0) (ops : List Op) (positions : List ℕ) (k p : ℕ) : Type 0 where
  pub op : Op
  pub below : p < length ops
  pub is : op ≡ get_or ops p op
  pub there : slice_get ops p ≡ Some op
  pub holds : P p
  pub left : drop (k + 1) positions ≡ positions_from (suc p) (drop (suc p) ops)

-- the walk begins where nothing is passed
pub walk_begins : (P : ℕ → Type 0) (h ops : List Op) (positions : List ℕ) → ops ≡ reverse h → positions ≡ sections_and_notes h → P 0 → Walks P ops positions 0
walk_begins P h ops positions is listed holds = record {
  at = 0;
  within = omega arith;
  left = listed ∙ positions-from h ∙ ap (positions_from 0) (sym is);
  holds = holds;
}

module _ (P : ℕ → Type 0) (ops : List Op)
    (between : (i : ℕ) (op : Op) → i < length ops → op ≡ get_or ops i op → is_section_or_note op ≡ false → P i → P (i + 1))
  where
    one_more : (i : ℕ) → i + 1 ≡ suc i
    one_more i = omega arith

    more_there : (i : ℕ) (op : Op) (rest : List Op) → drop i ops ≡ op ∷ rest → i < length ops
    more_there i op rest e = omega (arith, length-drop i ops, ap length e)

    here : (i : ℕ) (op : Op) (rest : List Op) → drop i ops ≡ op ∷ rest → (op ≡ get_or ops i op) × (drop (suc i) ops ≡ rest)
    here i op rest e =
        let both : op ∷ rest ≡ get_or ops i op ∷ drop (suc i) ops = sym e ∙ drop_more ops i op (more_there i op rest e) ∙ ap (λ j. get_or ops i op ∷ drop j ops) (one_more i) in
        (heads both, sym (tails both))
      where
        heads : {x y : Op} {xs ys : List Op} → x ∷ xs ≡ y ∷ ys → x ≡ y
        heads e = cc

        tails : {x y : Op} {xs ys : List Op} → x ∷ xs ≡ y ∷ ys → xs ≡ ys
        tails e = cc

    -- one that is neither is passed
    passed : (i : ℕ) (op : Op) (rest : List Op) → drop i ops ≡ op ∷ rest → is_section_or_note op ≡ false → P i → P (suc i)
    passed i op rest e other p =
        subst P (one_more i) (between i op (more_there i op rest e) (here i op rest e).0 other p)

    reach : (rest : List Op) (i : ℕ) (positions left : List ℕ) (k p : ℕ) → drop i ops ≡ rest → P i → p ∷ left ≡ positions_from i rest → drop (k + 1) positions ≡ left
        → StandsAt P ops positions k p
    reach [] i positions left k p e holds is on = cc
    reach (op ∷ rest) i positions left k p e holds is on =
        elim (cases_Bool (is_section_or_note op)) [
          | inl t ↦
              let both : p ∷ left ≡ i ∷ positions_from (suc i) rest = is ∙ ap (λ b. position_if b i ++ positions_from (suc i) rest) t in
              let same : p ≡ i = heads both in
              let below : p < length ops = subst (λ j. j < length ops) (sym same) (more_there i op rest e) in
              let at : op ≡ get_or ops p op = (here i op rest e).0 ∙ ap (λ j. get_or ops j op) (sym same) in
              record {
                op = op;
                below = below;
                is = at;
                there = slice_get_read ops (length ops) p op refl below at;
                holds = subst P (sym same) holds;
                left = on ∙ tails both ∙ (λ j. positions_from (suc (sym same j)) (sym (here i op rest e).1 j)) ∙ ap (λ m. positions_from (suc p) (drop (suc m) ops)) (sym same);
              }
          | inr t ↦ reach rest (suc i) positions left k p (here i op rest e).1 (passed i op rest e t holds) (is ∙ ap (λ b. position_if b i ++ positions_from (suc i) rest) t) on
        ]
      where
        heads : {x y : ℕ} {xs ys : List ℕ} → x ∷ xs ≡ y ∷ ys → x ≡ y
        heads e = cc

        tails : {x y : ℕ} {xs ys : List ℕ} → x ∷ xs ≡ y ∷ ys → xs ≡ ys
        tails e = cc

    finish : (rest : List Op) (i : ℕ) → i ≤ length ops → drop i ops ≡ rest → P i → [] ≡ positions_from i rest → P (length ops)
    finish [] i within e holds is = let all : i ≡ length ops = omega (arith, within, length-drop i ops, ap length e) in subst P all holds
    finish (op ∷ rest) i within e holds is =
        elim (cases_Bool (is_section_or_note op)) [
          | inl t ↦ absurd (none_there (is ∙ ap (λ b. position_if b i ++ positions_from (suc i) rest) t))
          | inr t ↦ finish rest (suc i) (more_there i op rest e) (here i op rest e).1 (passed i op rest e t holds) (is ∙ ap (λ b. position_if b i ++ positions_from (suc i) rest) t)
        ]
      where
        none_there : {x : ℕ} {xs : List ℕ} → [] ≡ x ∷ xs → ⊥
        none_there e = cc

    -- the walk comes to the next position
    pub walk_comes : (positions : List ℕ) (k : ℕ) → k < length positions → Walks P ops positions k → StandsAt P ops positions k (get_or positions k 0)
    walk_comes positions k below w =
        reach (drop w.at ops) w.at positions (drop (k + 1) positions) k (get_or positions k 0) refl w.holds
        (sym (drop_more positions k 0 below) ∙ w.left) refl

    -- all is passed after the last position
    pub walk_ends : (positions : List ℕ) (k : ℕ) → length positions ≤ k → Walks P ops positions k → P (length ops)
    walk_ends positions k all w = finish (drop w.at ops) w.at w.within refl w.holds (sym (drop_all k positions all) ∙ w.left)

-- the walk goes on after the operation at which it stands, with what holds there
pub walk_goes_on : (P Q : ℕ → Type 0) (ops : List Op) (positions : List ℕ) (k p : ℕ) → StandsAt P ops positions k p → Q (p + 1) → Walks Q ops positions (k + 1)
walk_goes_on P Q ops positions k p s holds =
    let on : p + 1 ≡ suc p = omega arith in
    record { at = suc p; within = s.below; left = s.left; holds = subst Q on holds }

-- what Sections and Notes alone say is read of the operation at a position
pub read_at : {Y : Type 0} → (f : Op → Option Y) → ((op : Op) → is_section_or_note op ≡ false → f op ≡ None) → (ops : List Op) (position : ℕ)
    → option_and_then f (section_or_note_at ops position) ≡ option_and_then f (slice_get ops position)
read_at f none ops position = by (slice_get ops position)
  where
    by : (o : Option Op) → option_and_then f (option_and_then if_section_or_note o) ≡ option_and_then f o
    by None = refl
    by (Some op) =
        let read : Bool → Option Op = λ b. if b then Some op else None in
        elim (cases_Bool (is_section_or_note op)) [
          | inl t ↦ ap (λ b. option_and_then f (read b)) t
          | inr t ↦ ap (λ b. option_and_then f (read b)) t ∙ sym (none op t)
        ]

-- and of the operation that stands there
pub read_there : {Y : Type 0} → (f : Op → Option Y) (ops : List Op) (position : ℕ) (op : Op) (o : Option Y) → slice_get ops position ≡ Some op
    → o ≡ option_and_then f (slice_get ops position) → f op ≡ o
read_there f ops position op o there e = sym (e ∙ ap (option_and_then f) there)

-- the Section or Note that is found at a position stands there
pub found_there : (ops : List Op) (position : ℕ) (op : Op) → Some op ≡ section_or_note_at ops position → slice_get ops position ≡ Some op
found_there ops position op is = by (slice_get ops position) is
  where
    by : (o : Option Op) → Some op ≡ option_and_then if_section_or_note o → o ≡ Some op
    by None e = cc
    by (Some other) e =
        let read : Bool → Option Op = λ b. if b then Some other else None in
        elim (cases_Bool (is_section_or_note other)) [
          | inl t ↦ sym (e ∙ ap read t)
          | inr t ↦ let none : Some op ≡ None = e ∙ ap read t in cc
        ]
