-- What an older history has stays in a later one.
use Rattle.std.proofs.Common.{List, [], ap, false, get_or, length, ℕ, ◌<◌, inl, inr, subst, sym, true, ◌++◌, ◌∙◌, ◌∷◌, ◌≡◌}
use Rattle.std.specs.Prelude.{Some, not, ◌||◌, filter}
use Rattle.std.specs.List.{Contains, list_any}
use Rattle.std.proofs.lemmas.Bool.{cases_Bool, or_right, false_from_ne_true, false≢true}
use Rattle.std.proofs.lemmas.List.Elements.{Contains-get_or}
use Rattle.fugue_ids.specs.Identifiers.{Identifier, id_eq}
use Rattle.fugue_ids.specs.declared.op.Op.{Op}
use Rattle.fugue_ids.proofs.IdentifierLemmas.{id_eq-refl, id_eq-true}
use Rattle.fugue_ids.proofs.ListLemmas.{contains_cases, contains_filter, contains_filter_from, contains_here, contains_none, contains_there}
use Rattle.origin_model.specs.declared.operations.Place.{Place}
use Rattle.origin_model.specs.declared.operations.Place.TheVariants.{Catalogue as catalogue}
use Rattle.origin_model.specs.operations.History.{holder}
use Rattle.origin_model.specs.operations.Verdict.{Lawful}
use Rattle.origin_model.specs.order.Order.{order}
use Rattle.origin_model.specs.order.Printed.{deletes, is_hidden}
use Rattle.origin_model.proofs.SharedLemmas.{order_total, Lawful-append}
use Rattle.catalogue_notes.specs.Arranged.{arranged}
use Rattle.catalogue_notes.proofs.ArrangedLemmas.{arranged_shown, shown_arranged}
use Rattle.catalogue_notes.specs.Lift.{is_section}
use Rattle.catalogue_notes.proofs.RetitlingLemmas.{arranged_section}
use Rattle.catalogue_notes.proofs.HolderLemmas.{holder-kept, joins}
use Rattle.change_marks.specs.Changes.{IsLater, arranges}

-- what is held stays so
held_later : (new f : List Op) (x : Identifier) (op : Op) → Lawful (new ++ f) → holder f x ≡ Some op → holder (new ++ f) x ≡ Some op
held_later [] f x op w k = k
held_later (e ∷ new) f x op w k = holder-kept e op (new ++ f) x (joins (new ++ f) e w.0) (held_later new f x op w.1 k)

pub holder_later : (f h : List Op) (x : Identifier) (op : Op) → Lawful h → IsLater f h → holder f x ≡ Some op → holder h x ≡ Some op
holder_later f h x op w l k = subst (λ whole. holder whole x ≡ Some op) (sym l.whole) (held_later l.newer f x op (subst Lawful l.whole w) k)

-- and what is hidden
hidden_more : (new f : List Op) (x : Identifier) → is_hidden f x ≡ true → is_hidden (new ++ f) x ≡ true
hidden_more [] f x k = k
hidden_more (e ∷ new) f x k = or_right (deletes x e) (is_hidden (new ++ f) x) (hidden_more new f x k)

pub hidden_later : (f h : List Op) (x : Identifier) → IsLater f h → is_hidden f x ≡ true → is_hidden h x ≡ true
hidden_later f h x l k = subst (λ whole. is_hidden whole x ≡ true) (sym l.whole) (hidden_more l.newer f x k)

pub lawful_before : (f h : List Op) → Lawful h → IsLater f h → Lawful f
lawful_before f h w l = Lawful-append l.newer f (subst Lawful l.whole w)

-- an element stays in the order of its place
pub in_later : (p : Place) (f h : List Op) (x : Identifier) → Lawful h → IsLater f h → Contains (order p f) x → Contains (order p h) x
in_later p f h x w l c =
    let i = ((order_total p f (lawful_before f h w l)).lists x).1 c in
    ((order_total p h w).lists x).0 (record { op = i.op; held = holder_later f h x i.op w l i.held; place = i.place })

-- what the arrangement has is in the catalogue
pub arranged_listed : (h : List Op) (s : Identifier) → Contains (arranged h) s → Contains (order catalogue h) s × (not (is_hidden h s) ≡ true)
arranged_listed h s c = contains_filter_from (λ x. not (is_hidden h x)) (order catalogue h) s (arranged_shown h s c)

-- a list has an identifier where the test finds it
pub has_from_contains : (xs : List Identifier) (s : Identifier) → Contains xs s → list_any (id_eq s) xs ≡ true
has_from_contains [] s c = absurd (contains_none s c)
has_from_contains (x ∷ xs) s c =
    elim (contains_cases x xs s c) [
      | inl e ↦ ap (λ b. b || list_any (id_eq s) xs) (ap (id_eq s) e ∙ id_eq-refl s)
      | inr m ↦ or_right (id_eq s x) (list_any (id_eq s) xs) (has_from_contains xs s m)
    ]

contains_from_has : (xs : List Identifier) (s : Identifier) → list_any (id_eq s) xs ≡ true → Contains xs s
contains_from_has [] s e = absurd (false≢true e)
contains_from_has (x ∷ xs) s e =
    elim (cases_Bool (id_eq s x)) [
      | inl k ↦ subst (Contains (x ∷ xs)) (sym (id_eq-true s x k)) (contains_here x xs)
      | inr k ↦ contains_there x xs s (contains_from_has xs s (sym (ap (λ b. b || list_any (id_eq s) xs) k) ∙ e))
    ]

-- a section that was arranged is dropped where it is hidden now
pub dropped_is_hidden : (f h : List Op) (s : Identifier) → Lawful h → IsLater f h → Contains (arranged f) s → not (arranges h s) ≡ is_hidden h s
dropped_is_hidden f h s w l c =
    let listed = in_later catalogue f h s w l (arranged_listed f s c).0 in
    elim (cases_Bool (is_hidden h s)) [
      | inl k ↦ ap not (false_from_ne_true (arranges h s) (λ t. false≢true (ap not (sym k) ∙ (arranged_listed h s (contains_from_has (arranged h) s t)).1))) ∙ sym k
      | inr k ↦ ap not (has_from_contains (arranged h) s (shown_arranged h s w (kept (order catalogue h) k listed))) ∙ sym k
    ]
  where
    kept : (xs : List Identifier) → is_hidden h s ≡ false → Contains xs s → Contains (filter (λ x. not (is_hidden h x)) xs) s
    kept xs k m = contains_filter (λ x. not (is_hidden h x)) xs s m (ap not k)

-- a section that was arranged is a Section, and stays in the catalogue; the later history may be given by another name
pub arranged_held : (f h : List Op) {h_is : List Op} (s : Identifier) → h_is ≡ h → Lawful h_is → IsLater f h → Contains (arranged f) s → is_section f s ≡ true
arranged_held f h s e w l c = arranged_section f s (lawful_before f h (subst Lawful e w) l) c

pub arranged_later : (f h : List Op) {h_is : List Op} (s : Identifier) → h_is ≡ h → Lawful h_is → IsLater f h → Contains (arranged f) s → Contains (order catalogue h) s
arranged_later f h s e w l c = in_later catalogue f h s (subst Lawful e w) l (arranged_listed f s c).0

-- what stands at a place of the arrangement is in it
pub arranged_member : (h : List Op) (i : ℕ) (s : Identifier) → i < length (arranged h) → s ≡ get_or (arranged h) i s → Contains (arranged h) s
arranged_member h i s below is = subst (Contains (arranged h)) (sym is) (Contains-get_or (arranged h) i s below)

-- a section of the arrangement is in the catalogue
pub arranged_at : (h : List Op) {h_is : List Op} (i : ℕ) (s : Identifier) → h_is ≡ h → i < length (arranged h) → s ≡ get_or (arranged h) i s → Contains (order catalogue h_is) s
arranged_at h i s e below is =
    subst (λ l. Contains (order catalogue l) s) (sym e) (arranged_listed h s (arranged_member h i s below is)).0
