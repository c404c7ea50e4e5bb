-- None of the operations that a revision makes is needless.
use Rattle.std.proofs.Common.{List, [], ap, cond, false, inl, inr, not, refl, subst, sym, true, ℕ, ◌∙◌, ◌∷◌, ◌≡◌, ◌⊎◌}
use Rattle.std.specs.Prelude.{None, Some, is_some}
use Rattle.std.specs.List.{Contains}
use Rattle.std.proofs.lemmas.Bool.{false_from_ne_true, false≢true, or_cases, true≢false}
use Rattle.std.proofs.lemmas.List.Elements.{All-contains}
use Rattle.fugue_ids.specs.Identifiers.{Identifier}
use Rattle.fugue_ids.specs.Ops.{id_of}
use Rattle.fugue_ids.specs.declared.op.Op.{Op}
use Rattle.fugue_ids.specs.declared.op.Op.TheVariants.{Delete, Note, Section, Text}
use Rattle.fugue_ids.proofs.IdentifierLemmas.{id_eq-refl, id_eq-true}
use Rattle.fugue_ids.proofs.ListLemmas.{contains_cases, contains_filter, contains_filter_from, contains_here, contains_none, contains_there}
use Rattle.origin_model.specs.declared.operations.Place.{Place}
use Rattle.origin_model.specs.declared.operations.Place.TheVariants.{Catalogue as catalogue, Section as within}
use Rattle.origin_model.specs.edits.Edits.{history_with}
use Rattle.origin_model.specs.edits.State.{State}
use Rattle.origin_model.specs.operations.History.{element_of, holder, holds}
use Rattle.origin_model.specs.operations.Verdict.{Lawful}
use Rattle.origin_model.specs.order.Laws.{IsIn}
use Rattle.origin_model.specs.order.Order.{order}
use Rattle.origin_model.specs.order.Printed.{deletes, is_hidden, shown}
use Rattle.origin_model.proofs.SharedLemmas.{holder-own, is_own-id, not_hidden_before, order_total}
use Rattle.catalogue_notes.specs.Arranged.{arranged}
use Rattle.catalogue_notes.proofs.ArrangedLemmas.{arranged_shown, shown_arranged, shown_is}
use Rattle.catalogue_notes.proofs.HolderLemmas.{cases_option, holder-kept, joins, not_both}
use Rattle.draft_plan.specs.Needed.{InRevision, InSections, InTexts, IsElement, MayBeDeleted, MakesOnly, NoneIsNeedless}
use Rattle.draft_plan.specs.Shaping.{IsReshaped}
use Rattle.draft_plan.proofs.NeededLemmas.{only_join, only_weaker, section_held, touches_weaker}
use Rattle.draft_plan.proofs.SectionLemmas.{shown_held}
use Rattle.origin_model.proofs.edits.MadeLemmas.{lawful_front}

-- what is held stays held
stays_held : (ops h : List Op) (x : Identifier) (f : Op) → Lawful (history_with h ops) → holder h x ≡ Some f → holder (history_with h ops) x ≡ Some f
stays_held [] h x f w e = e
stays_held (op ∷ ops) h x f w e = stays_held ops (op ∷ h) x f w (holder-kept op f h x (joins h op (lawful_front ops (op ∷ h) w).0) e)

-- an operation that was made was new, and is held
made_held : (ops h : List Op) (op : Op) (x : Identifier) → Lawful (history_with h ops) → Contains ops op → id_of op ≡ Some x
    → (holder h x ≡ None) × (holder (history_with h ops) x ≡ Some op)
made_held [] h op x w m e = absurd (contains_none op m)
made_held (next ∷ ops) h op x w m e =
    let j = joins h next (lawful_front ops (next ∷ h) w).0 in
    elim (contains_cases next ops op m) [
      | inl same ↦
          let owns : id_of next ≡ Some x = ap id_of same ∙ e in
          (j.fresh x owns, stays_held ops (next ∷ h) x op w (holder-own next h x (is_own-id next x owns) ∙ ap Some same))
      | inr later ↦
          let rest = made_held ops (next ∷ h) op x w later e in
          (elim (cases_option (holder h x)) [ inl none ↦ none | inr f ↦ absurd (not_both (holder (next ∷ h) x) f.0 rest.0 (holder-kept next f.0 h x j f.1)) ], rest.1)
    ]

-- what hides an element is its Delete
the_delete : (op : Op) (x : Identifier) → deletes x op ≡ true → op ≡ Delete x
the_delete (Section id left right title) x k = absurd (false≢true k)
the_delete (Text id section left right ch) x k = absurd (false≢true k)
the_delete (Delete target) x k = ap Delete (id_eq-true target x k)
the_delete (Note id named code body) x k = absurd (false≢true k)

-- what is hidden after operations was hidden in front of them, or one of them is its Delete
hidden_by : (ops h : List Op) (x : Identifier) → is_hidden (history_with h ops) x ≡ true → (is_hidden h x ≡ true) ⊎ Contains ops (Delete x)
hidden_by [] h x k = inl k
hidden_by (op ∷ ops) h x k =
    elim (hidden_by ops (op ∷ h) x k) [
      | inl now ↦ elim (or_cases (deletes x op) (is_hidden h x) now) [
        | inl this ↦ inr (subst (λ o. Contains (o ∷ ops) (Delete x)) (sym (the_delete op x this)) (contains_here (Delete x) ops))
        | inr before ↦ inl before
      ]
      | inr later ↦ inr (contains_there op ops (Delete x) later)
    ]

-- what is shown is held
shown_there : (h g : List Op) (x : Identifier) → Lawful h → MayBeDeleted h g x → holds h x ≡ true
shown_there h g x w (inl section) = ap is_some (shown_is h x w (arranged_shown h x section)).1
shown_there h g x w (inr element) = ap is_some (shown_held h element.0 x w element.3).1

module _ (old new : State) (w : Lawful old.held.history) (v : Lawful new.held.history) (only : MakesOnly (InRevision old.held.history new.held.history) old new) where
  abbrev h : List Op
  h = old.held.history

  abbrev g : List Op
  g = new.held.history

  abbrev ops : List Op
  ops = only.0

  is : g ≡ history_with h ops
  is = ap (λ (s : State). s.held.history) only.1.others

  lawful : Lawful (history_with h ops)
  lawful = subst Lawful is v

  each : (op : Op) → Contains ops op → InRevision h g op
  each op m = All-contains (InRevision h g) ops op only.2 m

  -- an element that was made stands in its place, and is not hidden
  made_shown : (p : Place) (op : Op) (x : Identifier) → Contains ops op → id_of op ≡ Some x → element_of p op ≡ Some x → Contains (shown p g) x
  made_shown p op x m e placed =
      let found = made_held ops h op x lawful m e in
      let at : IsIn p g x = record { op = op; held = ap (λ l. holder l x) is ∙ found.1; place = placed } in
      let free : is_hidden g x ≡ false = false_from_ne_true (is_hidden g x) (λ k.
      elim (hidden_by ops h x (ap (λ l. is_hidden l x) (sym is) ∙ k)) [
        | inl before ↦ true≢false (sym before ∙ not_hidden_before h x w (ap is_some found.0))
        | inr gone ↦ false≢true (sym (ap is_some found.0) ∙ shown_there h g x w (each (Delete x) gone))
      ]) in
      contains_filter (λ y. not (is_hidden g y)) (order p g) x (((order_total p g v).lists x).0 at) (ap not free)

  pub none_needless : NoneIsNeedless old new
  none_needless = record {
    made = ops;
    gained = only.1;
    deletes = λ x m. each (Delete x) m;
    sections = λ id left right title m. shown_arranged g id v (made_shown catalogue (Section id left right title) id m refl refl);
    texts = λ id section left right ch m. (
      each (Text id section left right ch) m,
      made_shown (within section) (Text id section left right ch) id m refl (ap (λ b. cond b (Some id) None) (id_eq-refl section)),
    );
  }

-- sections were added, dropped and moved first
pub touches_shaped : (old mid new : State) (n : ℕ) → Lawful old.held.history → IsReshaped old mid n → arranged new.held.history ≡ arranged mid.held.history
    → MakesOnly (InTexts mid.held.history) mid new
    → MakesOnly (InRevision old.held.history new.held.history) old new
touches_shaped old mid new n w first same only =
    let h : List Op = old.held.history in
    let m : List Op = mid.held.history in
    let g : List Op = new.held.history in
    only_join (InRevision h g) old mid new
    (only_weaker (InSections h) (InRevision h g) old mid
    (touches_weaker (λ s. ⊥) (Contains (shown catalogue h)) (Unit {0}) (Contains (arranged g)) (MayBeDeleted h g) (Unit {0}) (λ s b. absurd b)
    (λ x k. inl (shown_arranged h x w k)) (λ u. u)) first.touches)
    (only_weaker (InTexts m) (InRevision h g) mid new
    (touches_weaker (Contains (arranged m)) (IsElement m) ⊥ (Contains (arranged g)) (MayBeDeleted h g) (Unit {0}) (λ s k. subst (λ l. Contains l s) (sym same) k) earlier
    (λ b. tt)) only)
  where
    -- an element that is shown of a section that is arranged now was so at the start, and the section stays
    earlier : (x : Identifier) → IsElement mid.held.history x → MayBeDeleted old.held.history new.held.history x
    earlier x e =
        let h : List Op = old.held.history in
        let s : Identifier = e.0 in
        let there : Contains (shown (within s) h) x = subst (λ l. Contains l x) (first.keeps.lists s) e.2 in
        let at : IsIn (within s) h x = ((order_total (within s) h w).lists x).1 (contains_filter_from (λ y. not (is_hidden h y)) (order (within s) h) x there).0 in
        elim (first.keeps.came s (arranged_shown mid.held.history s e.1)) [
          | inl k ↦ inr (s, shown_arranged h s w k, subst (λ l. Contains l s) (sym same) e.1, there)
          | inr k ↦ absurd (true≢false (sym (section_held h s x at.op w at.held at.place) ∙ k))
        ]
