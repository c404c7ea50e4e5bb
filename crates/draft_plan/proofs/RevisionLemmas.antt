-- Sections that get the titles and the texts of parts, one after another.
use Rattle.std.proofs.Common.{List, [], add-one, ap, arith, get_or, inl, inr, length, map, refl, subst, sym, true, ℕ, ◌+◌, ◌<◌, ◌≤◌, ◌∙◌, ◌∷◌, ◌≡◌, ◌≢◌}
use Rattle.std.specs.Prelude.{Some, is_some, slice_get, slice_index_or}
use Rattle.std.specs.Str.{encode_utf8_all}
use Rattle.std.specs.List.{AllPairs, Contains}
use Rattle.std.proofs.lemmas.Bool.{cases_eq, cases_order, false_from_ne_true, true≢false}
use Rattle.std.proofs.lemmas.List.{get_or-map, get_or_default, length-map, same_lists}
use Rattle.fugue_ids.specs.Identifiers.{Identifier}
use Rattle.fugue_ids.specs.declared.op.Op.{Op}
use Rattle.fugue_ids.proofs.ListLemmas.{contains_cases, contains_none}
use Rattle.origin_model.specs.declared.operations.Place.TheVariants.{Catalogue as catalogue, Section as within}
use Rattle.origin_model.specs.edits.State.{State}
use Rattle.origin_model.specs.operations.History.{holds}
use Rattle.origin_model.specs.operations.Verdict.{Lawful}
use Rattle.origin_model.specs.order.Printed.{shown, text}
use Rattle.origin_model.proofs.edits.SplitLemmas.{get_in}
use Rattle.catalogue_notes.specs.Arranged.{arranged}
use Rattle.catalogue_notes.proofs.ArrangedLemmas.{arranged_once, arranged_shown, shown_arranged, shown_is}
use Rattle.catalogue_notes.proofs.PartLemmas.{get_some}
use Rattle.draft_plan.specs.Drafts.{Part}
use Rattle.draft_plan.specs.Needed.{InText, InTexts, IsElement, MakesOnly}
use Rattle.draft_plan.specs.Plain.{arranged_part, arranged_parts}
use Rattle.draft_plan.specs.Revision.{HasOneMore, IsRevision, KeepsSection, Makes, MakesNothing, retitles_of}
use Rattle.draft_plan.specs.Shaping.{AreFilled, IsAtPlace, IsFilledIn, IsReshaped, SameSection}
use Rattle.draft_plan.specs.Texts.{KeepsCommon}
use Rattle.draft_plan.proofs.KeptLemmas.{common_earlier, same_common}
use Rattle.draft_plan.proofs.MakingLemmas.{makes_join, makes_none}
use Rattle.draft_plan.proofs.NeededLemmas.{only_join, only_none, only_weaker, touches_weaker}
use Rattle.draft_plan.proofs.ShapeLemmas.{got, same_join, same_none}

-- a section that was the same until then keeps what it keeps from then on
keeps_after : (a b c : State) (n : ℕ) (s : Identifier) → Makes a b n → SameSection a.held.history b.held.history s → KeepsSection b c s → KeepsSection a c s
keeps_after a b c n s makes first next = record {
  elements =
      common_earlier a b n makes _ _ _ _
      (subst (λ t. KeepsCommon b.held.history t (text c.held.history s) (shown (within s) a.held.history) (shown (within s) c.held.history)) first.reads
      (subst (λ l. KeepsCommon b.held.history (text b.held.history s) (text c.held.history s) l (shown (within s) c.held.history)) first.elements next.elements));
  same_text = λ e. next.same_text (e ∙ sym first.reads) ∙ first.elements;
  same_order = λ e. next.same_order (e ∙ sym first.reads) ∙ first.ordered;
  same_heading = λ e. next.same_heading (e ∙ sym first.headed) ∙ first.retitled;
  retitled = subst (λ l. HasOneMore l (retitles_of c.held.history s)) first.retitled next.retitled;
}

-- and one that is the same from then on, what it kept
keeps_before : (a b c : State) (s : Identifier) → KeepsSection a b s → SameSection b.held.history c.held.history s → KeepsSection a c s
keeps_before a b c s first next = record {
  elements =
      subst (λ t. KeepsCommon a.held.history (text a.held.history s) t (shown (within s) a.held.history) (shown (within s) c.held.history)) (sym next.reads)
      (subst (λ l. KeepsCommon a.held.history (text a.held.history s) (text b.held.history s) (shown (within s) a.held.history) l) (sym next.elements) first.elements);
  same_text = λ e. next.elements ∙ first.same_text (sym next.reads ∙ e);
  same_order = λ e. next.ordered ∙ first.same_order (sym next.reads ∙ e);
  same_heading = λ e. next.retitled ∙ first.same_heading (sym next.headed ∙ e);
  retitled = subst (HasOneMore (retitles_of a.held.history s)) (sym next.retitled) first.retitled;
}

-- the part of a section that is as it was
same_part : (a b : List Op) (s : Identifier) → SameSection a b s → arranged_part b s ≡ arranged_part a s
same_part a b s k = λ i. record { title = encode_utf8_all (k.headed i); text = encode_utf8_all (k.reads i) }

-- no member stands at two places
pub one_place : (xs : List Identifier) (i j : ℕ) (s : Identifier) → AllPairs (λ s t. s ≢ t) xs → slice_get xs i ≡ Some s → slice_get xs j ≡ Some s → i ≡ j
one_place xs i j s apart e f =
    let a = got xs i s e in
    let b = got xs j s f in
    elim (cases_order i j) [
      | inl same ↦ same
      | inr other ↦ elim other [
        | inl l ↦ absurd (apart i j s l b.0 (a.1 ∙ sym b.1))
        | inr l ↦ absurd (apart j i s l a.0 (b.1 ∙ sym a.1))
      ]
    ]

-- none was filled yet
pub filled_none : (s : State) (parts : List Part) → AreFilled s s parts 0 0
filled_none s parts = record {
  makes = makes_none s;
  catalogue_is = refl;
  arranged_as = refl;
  touches = only_none (InTexts s.held.history) s;
  moved = refl;
  each = λ k t e. ((λ l. absurd (omega (arith, l))), λ l. same_none s.held.history t);
  nothing = λ e. (refl, refl);
}

module _ (start now new : State) (parts : List Part) (j n m : ℕ) (s : Identifier) (part : Part) (w : Lawful start.held.history)
    (before : AreFilled start now parts j n) (here : slice_get (arranged start.held.history) j ≡ Some s) (is : (d : Part) → part ≡ slice_index_or parts j d)
    (f : IsFilledIn now new s part m) where
  abbrev xs : List Identifier
  xs = arranged start.held.history

  -- the section that is filled
  filled_here : IsAtPlace start new parts (j + 1) j s
  filled_here = (
    (λ l. (f.reads ∙ is (arranged_part new.held.history s), keeps_after start now new n s before.makes ((before.each j s here).1 (omega arith)) f.keeps)),
    λ l. absurd (omega (arith, l)),
  )

  -- another one
  filled_there : (k : ℕ) (t : Identifier) → slice_get xs k ≡ Some t → k ≢ j → IsAtPlace start new parts (j + 1) k t
  filled_there k t e d =
      let other : t ≢ s = λ q. d (one_place xs k j s (arranged_once start.held.history w) (subst (λ u. slice_get xs k ≡ Some u) q e) here) in
      let same : SameSection now.held.history new.held.history t = f.only.others t other in
      let old = before.each k t e in
      let part_is : arranged_part new.held.history t ≡ arranged_part now.held.history t = same_part now.held.history new.held.history t same in (
        (λ l.
            let done = old.0 (omega (arith, l, d)) in
            (part_is ∙ done.0 ∙ ap (λ (p : Part). slice_index_or parts k p) (sym part_is), keeps_before start now new t done.1 same)),
        λ l. same_join start.held.history now.held.history new.held.history t (old.1 (omega (arith, l))) same,
      )

  still_in_texts : MakesOnly (InTexts start.held.history) start new
  still_in_texts =
      let h : List Op = start.held.history in
      let same : shown (within s) now.held.history ≡ shown (within s) h = ((before.each j s here).1 (omega arith)).elements in
      let placed : Contains (arranged h) s = get_in xs j s here in
      only_join (InTexts h) start now new before.touches
      (only_weaker (InText s (shown (within s) now.held.history)) (InTexts h) now new
      (touches_weaker (λ t. t ≡ s) (Contains (shown (within s) now.held.history)) ⊥ (Contains (arranged h)) (IsElement h) ⊥
      (λ t e. subst (Contains (arranged h)) (sym e) placed)
      (λ x m. (s, placed, subst (λ l. Contains l x) same m)) (λ b. b)) f.touches)

  still_nothing : MakesNothing start new parts (n + m)
  still_nothing e =
      let first = before.nothing e in
      let g = got xs j s here in
      let was : arranged_part start.held.history s ≡ part =
      ap (arranged_part start.held.history) (sym g.1) ∙ sym (get_or-map (arranged_part start.held.history) xs j s part g.0)
      ∙ ap (λ (ps : List Part). get_or ps j part) e ∙ sym (is part) in
      let next = f.nothing (ap (λ (z : State). arranged_part z.held.history s) first.1 ∙ was) in
      (omega (arith, first.0, next.0), next.1 ∙ first.1)

  -- one more was filled
  pub filled_more : AreFilled start new parts (j + 1) (n + m)
  filled_more = record {
    makes = makes_join start now new n m before.makes f.makes;
    catalogue_is = f.only.catalogue_is ∙ before.catalogue_is;
    arranged_as = f.only.arranged_as ∙ before.arranged_as;
    touches = still_in_texts;
    moved = f.only.moved ∙ before.moved;
    each = λ k t e.
        elim (cases_eq k j) [
          | inl q ↦
              let same : t ≡ s = cc (e, here, ap (slice_get xs) q) in
              subst (λ i. IsAtPlace start new parts (j + 1) i t) (sym q) (subst (λ u. IsAtPlace start new parts (j + 1) j u) (sym same) filled_here)
          | inr q ↦ filled_there k t e q
        ];
    nothing = still_nothing;
  }

-- where a member of a list stands
pub stands_at : (xs : List Identifier) (s : Identifier) → Contains xs s → (k : ℕ) × (slice_get xs k ≡ Some s)
stands_at [] s m = absurd (contains_none s m)
stands_at (x ∷ xs) s m =
    elim (contains_cases x xs s m) [
      | inl q ↦ (0, ap Some q)
      | inr q ↦ let r = stands_at xs s q in (r.0 + 1, ap (slice_get (x ∷ xs)) (add-one r.0) ∙ r.1)
    ]

-- all of them were filled
module _ (start new : State) (parts : List Part) (j n : ℕ) (w : Lawful start.held.history) (f : AreFilled start new parts j n)
    (all : length (arranged start.held.history) ≤ j) (long : length (arranged start.held.history) ≡ length parts) where
  abbrev ys : List Identifier
  ys = arranged start.held.history

  reads : arranged_parts new.held.history ≡ parts
  reads =
      let g : Identifier → Part = arranged_part new.held.history in
      ap (map g) f.arranged_as
      ∙ same_lists (map g ys) parts (length-map ys g ∙ long) (λ k d l.
      let within_ys : k < length ys = omega (arith, l, length-map ys g) in
      let x = get_some ys k within_ys in
      let at = got ys k x.0 x.1 in
      let done = (f.each k x.0 x.1).0 (omega (arith, within_ys, all)) in
      get_or-map g ys k x.0 d within_ys ∙ ap g at.1 ∙ done.0 ∙ get_or_default parts k (g x.0) d (omega (arith, within_ys, long)))

  pub revised_all : IsRevision start new parts n
  revised_all = record {
    makes = f.makes;
    reads = reads;
    matched = λ s a b. let k = stands_at ys s a in ((f.each k.0 s k.1).0 (omega (arith, (got ys k.0 s k.1).0, all))).1;
    came = λ s m. inl (subst (λ l. Contains l s) f.arranged_as m);
  }

-- what is shown is held
pub shown_holds : (h : List Op) (s : Identifier) → Lawful h → Contains (shown catalogue h) s → holds h s ≡ true
shown_holds h s w m = ap is_some (shown_is h s w m).1

-- sections were added, dropped and moved first
pub revised_shaped : (old mid new : State) (parts : List Part) (n m : ℕ) → Lawful old.held.history → IsReshaped old mid n → IsRevision mid new parts m
    → IsRevision old new parts (n + m)
revised_shaped old mid new parts n m w first next = record {
  makes = makes_join old mid new n m first.makes next.makes;
  reads = next.reads;
  matched = λ s a b.
      let held : holds old.held.history s ≡ true = shown_holds old.held.history s w (arranged_shown old.held.history s a) in
      elim (next.came s b) [
        | inl k ↦ keeps_after old mid new n s first.makes (first.keeps.same s held) (next.matched s k b)
        | inr k ↦ absurd (true≢false (sym (first.keeps.held s held) ∙ k))
      ];
  came = λ s m.
      elim (next.came s m) [
        | inl k ↦ elim (first.keeps.came s (arranged_shown mid.held.history s k)) [ inl q ↦ inl (shown_arranged old.held.history s w q) | inr q ↦ inr q ]
        | inr k ↦ inr (false_from_ne_true (holds old.held.history s) (λ t. true≢false (sym (first.keeps.held s t) ∙ k)))
      ];
}

-- the sections are the parts already
pub revised_already : (s : State) (parts : List Part) → arranged_parts s.held.history ≡ parts → IsRevision s s parts 0
revised_already s parts e = record {
  makes = makes_none s;
  reads = e;
  matched = λ x a b. record {
    elements = (same_common s.held.history (text s.held.history x) (shown (within x) s.held.history)).0;
    same_text = λ q. refl;
    same_order = λ q. refl;
    same_heading = λ q. refl;
    retitled = inl refl;
  };
  came = λ x m. inl m;
}
