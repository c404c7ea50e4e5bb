-- The texts of free sections, and parts that none of them is alike.
use Rattle.std.proofs.Common.{ℕ, ◌+◌, ◌<◌, List, [], ◌∷◌, ◌++◌, refl, sym, ap, arith, reverse, subst, suc, zero, false, ◌≡◌, ◌≢◌, ◌⊎◌, inl, inr, ◌∙◌, Some, length}
use Rattle.std.specs.Prelude.{None, slice_get}
use Rattle.std.proofs.lemmas.Bool.{cases_eq}
use Rattle.std.proofs.lemmas.Option.{slice_get_within}
use Rattle.section_plan.specs.Alike.{AreServed, HasSectionTexts, IsServed, NoneAmong}
use Rattle.section_plan.specs.Likeness.{alike}
use Rattle.section_plan.specs.Matching.{KeepsPairs, IsMatching, NoPairIsAlike, part_of, text_at_place}
use Rattle.section_plan.specs.declared.alike.Scalars.{Scalars}
use Rattle.section_plan.specs.declared.pairs.Pairs.{Pairs}
use Rattle.section_plan.specs.declared.part.Part.{Part}
use Rattle.section_plan.proofs.LikenessLemmas.{empty_new, empty_old}
use Rattle.section_plan.proofs.PairLemmas.{free_before, kept_both, part_free_before}
use Rattle.fugue_ids.proofs.ListLemmas.{slice_get-seam}

-- a member stands where it stood, when another one comes after
still_there : {A : Type 0} (xs : List A) (x y : A) (k : ℕ) → slice_get xs k ≡ Some y → slice_get (xs ++ x ∷ []) k ≡ Some y
still_there [] x y k e = cc
still_there (z ∷ xs) x y zero e = e
still_there (z ∷ xs) x y (suc k) e = still_there xs x y k e

-- what stands there then stood there, or is the one that came
came_last : {A : Type 0} (xs : List A) (x y : A) (k : ℕ) → slice_get (xs ++ x ∷ []) k ≡ Some y → (slice_get xs k ≡ Some y) ⊎ (x ≡ y)
came_last [] x y zero e = inr (cc)
came_last [] x y (suc k) e = cc
came_last (z ∷ xs) x y zero e = inl e
came_last (z ∷ xs) x y (suc k) e = came_last xs x y k e

-- one text more
pub texts_more : (p : Pairs) (sections : List Part) (place : ℕ) (texts : List Scalars) (s : Scalars) → HasSectionTexts p sections place texts → place < length sections
    → s.place ≡ place → s.list.items ≡ text_at_place sections place → s.reversed.items ≡ reverse s.list.items
    → HasSectionTexts p sections (place + 1) (texts ++ s ∷ [])
texts_more p sections place texts s has l here reads back = record {
  within = λ k t e. elim (came_last texts s t k e) [ inl f ↦ has.within k t f | inr f ↦ omega (arith, l, here, ap (λ (u : Scalars). u.place) f) ];
  reversed = λ k t e. elim (came_last texts s t k e)
      [ inl f ↦ has.reversed k t f | inr f ↦ ap (λ (u : Scalars). u.reversed.items) (sym f) ∙ (back ∙ ap (λ (u : Scalars). reverse u.list.items) f) ];
  all = λ i m free some.
      elim (cases_eq i place) [
        | inl e ↦ (length texts, s, slice_get-seam texts s, here ∙ sym e, reads ∙ ap (text_at_place sections) (sym e))
        | inr ne ↦ let h = has.all i (omega arith) free some in (h.0, h.1, still_there texts s h.1 h.0 h.2, h.3, h.4)
      ];
}

-- a section that has a part needs no text, nor one whose text is empty
pub texts_same : (p : Pairs) (sections : List Part) (place : ℕ) (texts : List Scalars) → HasSectionTexts p sections place texts
    → (part_of p place ≡ None → text_at_place sections place ≢ [] → ⊥) → HasSectionTexts p sections (place + 1) texts
texts_same p sections place texts has taken = record {
  within = has.within;
  reversed = has.reversed;
  all = λ i m free some.
      elim (cases_eq i place) [
        | inl e ↦ absurd (taken (ap (part_of p) (sym e) ∙ free) (λ n. some (ap (text_at_place sections) e ∙ n)))
        | inr ne ↦ has.all i (omega arith) free some
      ];
}

-- what is none while some sections are free is none while fewer are
fewer : (old new : Pairs) (texts : List Scalars) (n : ℕ) (text : List ℕ) → ((i : ℕ) → part_of new i ≡ None → part_of old i ≡ None) → NoneAmong old texts n text
    → NoneAmong new texts n text
fewer old new texts n text was none k s l e free = none k s l e (was s.place free)

-- a part whose text is empty is served
pub served_empty : (p : Pairs) (texts : List Scalars) (place : ℕ) (text : List ℕ) → text ≡ [] → IsServed p texts place text
served_empty p texts place text e none k s l at free = ap (alike s.list.items) e ∙ empty_new s.list.items

-- one part more is served
pub served_more : (start mid new : Pairs) (sections parts : List Part) (texts : List Scalars) (place : ℕ) → IsMatching (length sections) (length parts) start
    → AreServed start mid texts parts place → KeepsPairs mid new
    → IsServed new texts place (text_at_place parts place) → AreServed start new texts parts (place + 1)
served_more start mid new sections parts texts place m to kept done = record {
  kept = kept_both start mid new to.kept kept;
  served = λ j l.
      elim (cases_eq j place) [
        | inl e ↦ subst (λ k. IsServed new texts k (text_at_place parts k)) (sym e) done
        | inr ne ↦ λ none.
            fewer mid new texts (length texts) (text_at_place parts j)
            (λ i. free_before (length sections) (length parts) mid new (to.kept.matching (length sections) (length parts) m) kept i)
            (to.served j (omega arith) (part_free_before mid new kept j none))
      ];
}

-- all of them are
pub served_all : (start now : Pairs) (sections parts : List Part) (texts : List Scalars) (place : ℕ) → IsMatching (length sections) (length parts) start
    → HasSectionTexts start sections (length sections) texts
    → AreServed start now texts parts place → ((j : ℕ) → j < length parts → j < place) → NoPairIsAlike now sections parts
served_all start now sections parts texts place m has served all i j li lj free_i free_j = by (text_at_place sections i) refl
  where
    by : (t : List ℕ) → text_at_place sections i ≡ t → alike (text_at_place sections i) (text_at_place parts j) ≡ false
    by [] e = ap (λ t. alike t (text_at_place parts j)) e ∙ empty_old (text_at_place parts j)
    by (c ∷ cs) e =
        let h = has.all i li (free_before (length sections) (length parts) start now m served.kept i free_i) (λ n. cc (e, n)) in
        let none = served.served j (all j lj) free_j h.0 h.1 (slice_get_within texts h.0 h.1 h.2) h.2 (ap (part_of now) h.3 ∙ free_i) in
        ap (λ t. alike t (text_at_place parts j)) (sym h.4) ∙ none
