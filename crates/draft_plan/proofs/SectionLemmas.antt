-- What one operation more leaves of the sections.
use Rattle.std.proofs.Common.{List, [], ap, false, inl, inr, not, refl, sym, true, ◌&&◌, ◌||◌, ◌∙◌, ◌∷◌, ◌≡◌, ◌≢◌, ℕ}
use Rattle.std.specs.Prelude.{None, Option, Some, filter, flat_map, is_some}
use Rattle.std.specs.List.{Contains}
use Rattle.fugue_ids.specs.Identifiers.{Identifier, id_eq}
use Rattle.fugue_ids.specs.Ops.{op_eq}
use Rattle.fugue_ids.specs.declared.op.Op.{Op}
use Rattle.fugue_ids.specs.declared.op.Op.TheVariants.{Delete, Note, Section, Text}
use Rattle.fugue_ids.proofs.IdentifierLemmas.{id_eq-refl, ne-id_eq}
use Rattle.fugue_ids.proofs.ListLemmas.{contains_filter_from, contains_here, contains_there}
use Rattle.std.proofs.lemmas.Bool.{false≢true}
use Rattle.origin_model.specs.declared.operations.Place.TheVariants.{Catalogue as catalogue, Section as within}
use Rattle.origin_model.specs.declared.operations.Role.TheVariants.{Section as SectionRole}
use Rattle.origin_model.specs.operations.History.{holder, holds}
use Rattle.origin_model.specs.operations.Verdict.{Lawful, fits}
use Rattle.origin_model.specs.order.Laws.{IsIn}
use Rattle.origin_model.specs.order.Order.{order}
use Rattle.origin_model.specs.order.Printed.{deletes, is_hidden, scalar_of, shown, text, title_of}
use Rattle.origin_model.proofs.SharedLemmas.{holder-own, order_total}
use Rattle.catalogue_notes.specs.Arranged.{best, counts, heading, winner}
use Rattle.catalogue_notes.specs.Claims.{Move, Retitle, move_in, retitle_in}
use Rattle.catalogue_notes.specs.Lift.{is_valid_title, moves, passing, retitles}
use Rattle.catalogue_notes.proofs.ArrangedLemmas.{move_found, move_test, no_move, position_by, shown_is}
use Rattle.catalogue_notes.proofs.ClaimLemmas.{claim_found, claims-none}
use Rattle.catalogue_notes.proofs.HolderLemmas.{Joins, cases_option, holder-kept, not_both, same_value, section_held}
use Rattle.catalogue_notes.proofs.LiftLemmas.{passing_from}
use Rattle.catalogue_notes.proofs.PartLemmas.{filter_no, filter_same, parts_same}
use Rattle.catalogue_notes.proofs.RetitleLemmas.{title-kept, title_shape}
use Rattle.draft_plan.specs.Shaping.{KeepsPlaces, SameSection}
use Rattle.std.proofs.Math.Bool.{or-true}

-- an operation that says no retitle, and deletes none
pub record IsQuiet (h : List Op) (e : Op) : Type 0 where
  pub says : retitle_in e ≡ None
  pub spares : (c : Retitle) → Contains (retitles h) c → deletes c.id e ≡ false

-- what is held has a holder
pub held_by : (h : List Op) (s : Identifier) → holds h s ≡ true → (f : Op) × (holder h s ≡ Some f)
held_by h s k = elim (cases_option (holder h s)) [ inl n ↦ absurd (false≢true (sym (ap is_some n) ∙ k)) | inr f ↦ f ]

-- an element that is shown is held
pub shown_held : (h : List Op) (s x : Identifier) → Lawful h → Contains (shown (within s) h) x → (f : Op) × (holder h x ≡ Some f)
shown_held h s x w m =
    let k : IsIn (within s) h x = ((order_total (within s) h w).lists x).1 (contains_filter_from (λ y. not (is_hidden h y)) (order (within s) h) x m).0 in
    (k.op, k.held)

module _ (h : List Op) (e : Op) (w : Lawful h) (j : Joins h e) where
  pub held_kept : (s : Identifier) → holds h s ≡ true → holds (e ∷ h) s ≡ true
  held_kept s k = let f = held_by h s k in ap is_some (holder-kept e f.0 h s j f.1)

  -- a text of the same elements is the same
  pub text_kept : (s : Identifier) → shown (within s) (e ∷ h) ≡ shown (within s) h → text (e ∷ h) s ≡ text h s
  text_kept s same =
      ap (flat_map (λ x. scalar_of (holder (e ∷ h) x))) same
      ∙ parts_same (λ x. scalar_of (holder (e ∷ h) x)) (λ x. scalar_of (holder h x)) (shown (within s) h)
      (λ x m. let f = shown_held h s x w m in ap scalar_of (holder-kept e f.0 h x j f.1 ∙ sym f.1))

  pub retitles_kept : IsQuiet h e → retitles (e ∷ h) ≡ retitles h
  retitles_kept q = claims-none retitle_in is_valid_title e h (ap (passing (is_valid_title h)) q.says)

  won : IsQuiet h e → (s : Identifier) → winner (e ∷ h) s (retitles (e ∷ h)) ≡ winner h s (retitles h)
  won q s =
      ap (winner (e ∷ h) s) (retitles_kept q)
      ∙ ap best (filter_same (counts (e ∷ h) s) (counts h s) (retitles h) (λ c m. ap (λ b. id_eq c.section s && not (b || is_hidden h c.id)) (q.spares c m)))

  -- and so is the heading of what is held
  pub heading_kept : IsQuiet h e → (s : Identifier) → holds h s ≡ true → heading (e ∷ h) s ≡ heading h s
  heading_kept q s k =
      let f = held_by h s k in
      let title : title_of (holder (e ∷ h) s) ≡ title_of (holder h s) = ap title_of (holder-kept e f.0 h s j f.1 ∙ sym f.1) in
      λ i. elim (won q s i) [ None ↦ title i | Some r ↦ r.value ]

  pub section_kept : IsQuiet h e → (s : Identifier) → heading (e ∷ h) s ≡ heading h s → shown (within s) (e ∷ h) ≡ shown (within s) h
      → order (within s) (e ∷ h) ≡ order (within s) h → SameSection h (e ∷ h) s
  section_kept q s headed same ordered = record {
    headed = headed;
    reads = text_kept s same;
    elements = same;
    ordered = ordered;
    retitled = ap (filter (λ (r : Retitle). id_eq r.section s)) (retitles_kept q);
  }

-- a Section says no retitle
no_retitle : (f : Op) → fits SectionRole f ≡ true → retitle_in f ≡ None
no_retitle (Section i l r t) k = refl
no_retitle (Text i s l r c) k = refl
no_retitle (Delete i) k = refl
no_retitle (Note id named code body) k = absurd (false≢true k)

-- the delete of a section deletes no retitle
pub delete_quiet : (h : List Op) (s : Identifier) → Lawful h → Contains (shown catalogue h) s → IsQuiet h (Delete s)
delete_quiet h s w m = record {
  says = refl;
  spares = λ c k.
      let f = shown_is h s w m in
      let o = claim_found retitle_in is_valid_title (λ e r k. (title_shape e r k).own) title-kept h c w k in
      let said : retitle_in o.0 ≡ Some c = (passing_from (is_valid_title h) (retitle_in o.0) c o.2).0 in
      ne-id_eq s c.id (λ d.
      let same : f.0 ≡ o.0 = same_value (holder h s) f.0 o.0 f.1 (ap (holder h) d ∙ o.1) in
      not_both (retitle_in o.0) c (ap retitle_in (sym same) ∙ no_retitle f.0 f.2) said);
}

-- an operation that says no move, and deletes none
pub record IsStill (h : List Op) (e : Op) : Type 0 where
  pub says : move_in e ≡ None
  pub spares : (c : Move) → Contains (moves h) c → deletes c.id e ≡ false

-- all sections have the moves and the positions that they had
pub places_kept : (h : List Op) (e : Op) → IsStill h e → KeepsPlaces h (e ∷ h)
places_kept h e q =
    let moved : moves (e ∷ h) ≡ moves h = claims-none move_in move_test e h (ap (passing (move_test h)) q.says) in
    record {
      part = λ op k. ap (λ b. op_eq e op || b) k ∙ or-true (op_eq e op);
      moved = moved;
      positions = λ s. ap (position_by s)
          (ap (winner (e ∷ h) s) moved
          ∙ ap best (filter_same (counts (e ∷ h) s) (counts h s) (moves h) (λ c m. ap (λ b. id_eq c.section s && not (b || is_hidden h c.id)) (q.spares c m))));
    }

-- the delete of a section deletes no move
pub delete_still : (h : List Op) (s : Identifier) → Lawful h → Contains (shown catalogue h) s → IsStill h (Delete s)
delete_still h s w m = record {
  says = refl;
  spares = λ c k.
      let f = shown_is h s w m in
      let o = move_found h c w k in
      let said : move_in o.0 ≡ Some c = (passing_from (move_test h) (move_in o.0) c o.2).0 in
      ne-id_eq s c.id (λ d.
      let same : f.0 ≡ o.0 = same_value (holder h s) f.0 o.0 f.1 (ap (holder h) d ∙ o.1) in
      not_both (move_in o.0) c (ap move_in (sym same) ∙ no_move f.0 f.2) said);
}

none_of : (h : List Op) (s : Identifier) (cs : List Retitle) → ((c : Retitle) → Contains cs c → c.section ≢ s) → filter (counts h s) cs ≡ []
none_of h s [] other = refl
none_of h s (c ∷ cs) other =
    filter_no (counts h s) c cs (ap (λ b. b && not (is_hidden h c.id)) (ne-id_eq c.section s (other c (contains_here c cs))))
    ∙ none_of h s cs (λ d m. other d (contains_there c cs d m))

-- a Section that is new is headed by its own title
pub new_heading : (h : List Op) (x : Identifier) (left right : Option Identifier) (title : List ℕ) → Lawful h → holds h x ≡ false
    → heading (Section x left right title ∷ h) x ≡ title
new_heading h x left right title w fresh =
    let e : Op = Section x left right title in
    let other = λ (c : Retitle) (m : Contains (retitles h) c).
    let o = claim_found retitle_in is_valid_title (λ e r k. (title_shape e r k).own) title-kept h c w m in
    let f = section_held h c.section (passing_from (is_valid_title h) (retitle_in o.0) c o.2).1 in
    λ (d : c.section ≡ x). false≢true (sym fresh ∙ (ap (holds h) (sym d) ∙ ap is_some f.1)) in
    let none : winner (e ∷ h) x (retitles (e ∷ h)) ≡ None =
    ap (winner (e ∷ h) x) (claims-none retitle_in is_valid_title e h refl) ∙ ap best (none_of (e ∷ h) x (retitles h) other) in
    ap (λ (o : Option Retitle). elim o [ None ↦ title_of (holder (e ∷ h) x) | Some r ↦ r.value ]) none ∙ ap title_of (holder-own e h x (id_eq-refl x))
