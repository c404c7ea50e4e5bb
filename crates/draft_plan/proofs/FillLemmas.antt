-- A section that gets the title and the text of a part.
use Rattle.std.proofs.Common.{Bool, List, [], ap, arith, drop, inl, inr, length, refl, subst, sym, ℕ, ◌+◌, ◌∙◌, ◌∷◌, ◌≡◌, ◌≢◌}
use Rattle.std.specs.Prelude.{Err, None, Ok, Some, ◌↔◌, filter, slice_get}
use Rattle.std.specs.List.{Contains}
use Rattle.std.specs.Str.{IsUtf8, chars, encode_utf8_all}
use Rattle.std.proofs.lemmas.Str.{encodes-chars}
use Rattle.fugue_ids.specs.Identifiers.{Identifier, id_eq}
use Rattle.fugue_ids.specs.declared.op.Op.{Op}
use Rattle.fugue_ids.proofs.IdentifierLemmas.{eq-id_eq, ne-id_eq}
use Rattle.origin_model.specs.declared.edit_fault.EditFault.{EditFault}
use Rattle.origin_model.specs.declared.edit_fault.EditFault.TheVariants as edit
use Rattle.origin_model.specs.declared.operations.Place.{Place}
use Rattle.origin_model.specs.declared.operations.Place.TheVariants.{Catalogue as catalogue, Section as within}
use Rattle.origin_model.specs.declared.operations.Role.{Role}
use Rattle.origin_model.specs.edits.Effect.{OfSection}
use Rattle.origin_model.specs.edits.Noting.{ShowsAsBefore}
use Rattle.origin_model.specs.edits.Refusal.{section_shown}
use Rattle.origin_model.specs.edits.State.{State}
use Rattle.origin_model.specs.operations.Verdict.{Lawful, names}
use Rattle.origin_model.specs.order.Order.{order}
use Rattle.origin_model.specs.order.Printed.{shown, text}
use Rattle.catalogue_notes.specs.Arranged.{arranged, heading}
use Rattle.catalogue_notes.specs.Claims.{Claim, Retitle as RetitleClaim, retitle_in}
use Rattle.catalogue_notes.specs.Laws.{AddsOne}
use Rattle.catalogue_notes.specs.Lift.{is_valid_title, moves, passing, retitles}
use Rattle.catalogue_notes.specs.Moving.{IsRetitleMade, RefusesFor, TellsAbsence, retitle_by, retitle_refusal, section_cause, section_placed}
use Rattle.catalogue_notes.specs.declared.moving.MoveFault.{MoveFault}
use Rattle.catalogue_notes.proofs.ClaimLemmas.{claims-none, claims-some}
use Rattle.catalogue_notes.proofs.HolderLemmas.{anything, cases_option, joins, not_both, same_value}
use Rattle.catalogue_notes.proofs.LiftLemmas.{passing_from}
use Rattle.catalogue_notes.proofs.PartLemmas.{filter_no, filter_yes}
use Rattle.catalogue_notes.proofs.RetitleLemmas.{title_shape}
use Rattle.draft_plan.specs.Changes.{Retitle, made_of}
use Rattle.draft_plan.specs.Drafts.{Part}
use Rattle.draft_plan.specs.Needed.{InHeading, InText, MakesOnly}
use Rattle.draft_plan.specs.Plain.{arranged_part}
use Rattle.draft_plan.specs.Revision.{HasOneMore, StopsAtLimit, retitles_of}
use Rattle.draft_plan.specs.Shaping.{ChangesOnly, IsFilledIn, IsHeadedBy, SameSection}
use Rattle.draft_plan.specs.Texts.{CountsHunks, EditsText, IsRevised, KeepsCommon, KeepsElements, StopsRevising}
use Rattle.draft_plan.proofs.ChangeLemmas.{changed_retitle, stops_note, stops_weaker}
use Rattle.draft_plan.proofs.KeptLemmas.{common_earlier}
use Rattle.draft_plan.proofs.MakingLemmas.{AnyChange, makes_join, makes_none, makes_one, stops_behind}
use Rattle.draft_plan.proofs.NeededLemmas.{only_join, only_none, only_one, only_weaker, touches_weaker}
use Rattle.draft_plan.proofs.SectionLemmas.{text_kept}
use Rattle.draft_plan.proofs.ShapeLemmas.{got, history_is, note_limit, same_join, same_none, section_there}
use Rattle.draft_plan.specs.declared.fault.ReviseFault.TheVariants as fault
use Rattle.fugue_ids.proofs.OptionLemmas.{failed}

changes_none : (h : List Op) (s : Identifier) → ChangesOnly h h s
changes_none h s = record { catalogue_is = refl; arranged_as = refl; moved = refl; others = λ t d. same_none h t }

-- the title was the heading
pub headed_already : (s : State) (x : Identifier) (title : List ℕ) → encode_utf8_all (heading s.held.history x) ≡ title → IsHeadedBy s s x title 0
headed_already s x title e = record {
  makes = makes_none s;
  only = changes_none s.held.history x;
  touches = only_none InHeading s;
  headed = e;
  retitled = inl refl;
  reads = refl;
  elements = refl;
  ordered = refl;
  nothing = λ k. (refl, refl);
}

-- the first of some names
abbrev first_of_names : Identifier → List (Identifier × Role) → Identifier
first_of_names other [] = other
first_of_names other (n ∷ ns) = n.0

-- a retitle leaves the retitles of other sections
other_retitles : (old : State) (s t : Identifier) (title : List ℕ) → t ≢ s → retitles_of (retitle_by old s title ∷ old.held.history) t ≡ retitles_of old.held.history t
other_retitles old s t title d =
    let h : List Op = old.held.history in
    let e : Op = retitle_by old s title in
    let of : RetitleClaim → Bool = λ r. id_eq r.section t in
    elim (cases_option (passing (is_valid_title h) (retitle_in e))) [
      | inl n ↦ ap (filter of) (claims-none retitle_in is_valid_title e h n)
      | inr r ↦
          let named : names e ≡ anything r.0.section ∷ [] = (title_shape e r.0 (passing_from (is_valid_title h) (retitle_in e) r.0 r.1).0).named in
          let section : s ≡ r.0.section = ap (first_of_names s) named in
          ap (filter of) (claims-some retitle_in is_valid_title e h r.0 r.1)
          ∙ filter_no of r.0 (retitles h) (ne-id_eq r.0.section t (λ k. d (sym k ∙ sym section)))
    ]

-- a claim on a section came in front of the others on it
one_more : {V : Type 0} {section : Identifier} {old new : List (Claim V)} (adds : AddsOne section old new) (s : Identifier) → section ≡ s
    → filter (λ (c : Claim V). id_eq c.section s) new ≡ adds.claim ∷ filter (λ (c : Claim V). id_eq c.section s) old
one_more {V} {section} {old} adds s e =
    ap (filter (λ (c : Claim V). id_eq c.section s)) adds.in_front ∙ filter_yes (λ (c : Claim V). id_eq c.section s) adds.claim old (eq-id_eq adds.claim.section s (adds.on ∙ e))

-- a retitle was made
pub headed_by : (old new : State) (k n : ℕ) (x : Identifier) (title bytes : List ℕ) → Lawful old.held.history → section_placed old k ≡ Some x
    → RefusesFor (retitle_refusal old k) (Ok n)
    → IsRetitleMade old new k title n → ShowsAsBefore old new → encode_utf8_all title ≡ bytes → (encode_utf8_all (heading old.held.history x) ≡ bytes → ⊥)
    → IsHeadedBy old new x bytes n
headed_by old new k n x title bytes w placed refuses made shows text_is other =
    let h : List Op = old.held.history in
    let e : Op = retitle_by old made.section title in
    let here : made.section ≡ x = same_value (section_placed old k) made.section x made.placed placed in
    let is : new.held.history ≡ e ∷ h = history_is old new (e ∷ []) made.gained in
    let same = λ (p : Place). ap (shown p) (sym is) ∙ shows.lists p in
    let j = joins h e made.retitled.ready in
    let count : n ≡ length (made_of old (Retitle k title)) =
    made.count ∙ sym (ap (λ o. length (elim o as (λ _. List Op) [ None ↦ [] | Some section ↦ retitle_by old section title ∷ [] ])) made.placed) in
    record {
      makes = makes_one old new (Retitle k title) n (changed_retitle old new k n title refuses made) count;
      only = record {
        catalogue_is = shows.lists catalogue;
        arranged_as = ap arranged is ∙ made.retitled.same_arranged;
        moved = ap moves is ∙ made.retitled.same_moves;
        others = λ t d.
            let other : t ≢ made.section = λ q. d (q ∙ here) in
            subst (λ g. SameSection h g t) (sym is) (record {
              headed = made.retitled.others t other;
              reads = text_kept h e w j t (same (within t));
              elements = same (within t);
              ordered = ap (order (within t)) (sym is) ∙ shows.orders (within t);
              retitled = other_retitles old made.section t title other;
            });
      };
      touches = only_one InHeading old new e made.gained tt;
      headed = ap (λ s. encode_utf8_all (heading new.held.history s)) (sym here) ∙ ap encode_utf8_all made.titled ∙ text_is;
      retitled = inr (ap (λ g. drop 1 (retitles_of g x)) is ∙ ap (drop 1) (one_more made.retitled.adds x here));
      reads = ap (λ g. text g x) is ∙ text_kept h e w j x (same (within x));
      elements = shows.lists (within x);
      ordered = shows.orders (within x);
      nothing = λ q. absurd (other q);
    }

pub headed_stops : (old new : State) (k : ℕ) (x : Identifier) (title : List ℕ) (why : MoveFault) → section_placed old k ≡ Some x → new ≡ old
    → TellsAbsence (section_cause old k) (Err why)
    → RefusesFor (retitle_refusal old k) (Err why) → StopsAtLimit old new (fault.Move why)
headed_stops old new k x title why placed unmade tells refuses = record {
  limit = note_limit (section_cause old k) why (section_there old k (got (arranged old.held.history) k x placed).0) tells;
  stops = stops_note AnyChange old new (Retitle k title) (retitle_refusal old k) why tt refl unmade refuses;
}

-- the text of a section was revised
pub record IsTextRevised (mid new : State) (k : ℕ) (x : Identifier) (bytes : List ℕ) (m : ℕ) : Type 0 where
  pub utf8 : IsUtf8 bytes
  pub revised : OfSection mid k (λ y. IsRevised mid new k y (chars bytes) m)
  pub keeps : OfSection mid k (λ y. CountsHunks mid new y m)
  pub touches : OfSection mid k (λ y. MakesOnly (InText y (shown (within y) mid.held.history)) mid new)
  pub same : OfSection mid k (λ y. encode_utf8_all (text mid.held.history y) ≡ bytes → (m ≡ 0) × (new ≡ mid))

-- of the section that is shown there
at_section : (P : Identifier → Type 0) (s : State) (k : ℕ) (x : Identifier) → section_shown s k ≡ Some x → OfSection s k P → P x
at_section P s k x e o = subst P (same_value (section_shown s k) o.0 x o.1 e) o.2

-- it got the title, and then the text
module _ (old mid new : State) (k n m : ℕ) (x : Identifier) (title bytes : List ℕ) (there : section_shown old k ≡ Some x) (hd : IsHeadedBy old mid x title n)
    (tx : IsTextRevised mid new k x bytes m) where
  abbrev part : Part
  part = record { title = title; text = bytes }

  shown_there : section_shown mid k ≡ Some x
  shown_there = ap (λ xs. slice_get xs k) hd.only.catalogue_is ∙ there

  r : IsRevised mid new k x (chars bytes) m
  r = at_section (λ y. IsRevised mid new k y (chars bytes) m) mid k x shown_there tx.revised

  unchanged : encode_utf8_all (text mid.held.history x) ≡ bytes → (m ≡ 0) × (new ≡ mid)
  unchanged = at_section (λ y. encode_utf8_all (text mid.held.history y) ≡ bytes → (m ≡ 0) × (new ≡ mid)) mid k x shown_there tx.same

  only : ChangesOnly old.held.history new.held.history x
  only = record {
    catalogue_is = r.keeps.sections ∙ hd.only.catalogue_is;
    arranged_as = r.keeps.arranged_as ∙ hd.only.arranged_as;
    moved = r.keeps.moved ∙ hd.only.moved;
    others = λ t d.
        same_join old.held.history mid.held.history new.held.history t (hd.only.others t d)
        (record {
          headed = r.keeps.headings t;
          reads = r.elsewhere t d;
          elements = r.others t d;
          ordered = r.ordered t d;
          retitled = ap (filter (λ (c : RetitleClaim). id_eq c.section t)) r.keeps.retitled;
        });
  }

  kept : KeepsElements old new x
  kept =
      let one : KeepsElements mid new x = (at_section (λ y. CountsHunks mid new y m) mid k x shown_there tx.keeps).0 in
      common_earlier old mid n hd.makes _ _ _ _
      (subst (λ t. KeepsCommon mid.held.history t (text new.held.history x) (shown (within x) old.held.history) (shown (within x) new.held.history)) hd.reads
      (subst (λ l. KeepsCommon mid.held.history (text mid.held.history x) (text new.held.history x) l (shown (within x) new.held.history)) hd.elements one))

  same_text : text new.held.history x ≡ text old.held.history x → shown (within x) new.held.history ≡ shown (within x) old.held.history
  same_text e =
      let was : text mid.held.history x ≡ chars bytes = hd.reads ∙ sym e ∙ r.here in
      let done = unchanged (ap encode_utf8_all was ∙ encodes-chars bytes tx.utf8) in
      ap (λ (s : State). shown (within x) s.held.history) done.1 ∙ hd.elements

  same_order : text new.held.history x ≡ text old.held.history x → order (within x) new.held.history ≡ order (within x) old.held.history
  same_order e =
      let was : text mid.held.history x ≡ chars bytes = hd.reads ∙ sym e ∙ r.here in
      let done = unchanged (ap encode_utf8_all was ∙ encodes-chars bytes tx.utf8) in
      ap (λ (s : State). order (within x) s.held.history) done.1 ∙ hd.ordered

  same_heading : heading new.held.history x ≡ heading old.held.history x → retitles_of new.held.history x ≡ retitles_of old.held.history x
  same_heading e =
      let was : heading mid.held.history x ≡ heading old.held.history x = sym (r.keeps.headings x) ∙ e in
      let done = hd.nothing (ap encode_utf8_all (sym was) ∙ hd.headed) in
      ap (filter (λ (c : RetitleClaim). id_eq c.section x)) r.keeps.retitled ∙ ap (λ (s : State). retitles_of s.held.history x) done.1

  touches : MakesOnly (InText x (shown (within x) old.held.history)) old new
  touches =
      let xs : List Identifier = shown (within x) old.held.history in
      let one : MakesOnly (InText x (shown (within x) mid.held.history)) mid new =
      at_section (λ y. MakesOnly (InText y (shown (within y) mid.held.history)) mid new) mid k x shown_there tx.touches in
      only_join (InText x xs) old mid new
      (only_weaker InHeading (InText x xs) old mid (touches_weaker (λ s. ⊥) (λ y. ⊥) ⊥ (λ s. s ≡ x) (Contains xs) ⊥ (λ s b. absurd b) (λ y b. absurd b) (λ b. b)) hd.touches)
      (subst (λ ys. MakesOnly (InText x ys) mid new) hd.elements one)

  retitled : HasOneMore (retitles_of old.held.history x) (retitles_of new.held.history x)
  retitled = subst (HasOneMore (retitles_of old.held.history x)) (sym (ap (filter (λ (c : RetitleClaim). id_eq c.section x)) r.keeps.retitled)) hd.retitled

  nothing : arranged_part old.held.history x ≡ part → (n + m ≡ 0) × (new ≡ old)
  nothing e =
      let first = hd.nothing (ap (λ (p : Part). p.title) e) in
      let next = unchanged (ap encode_utf8_all hd.reads ∙ ap (λ (p : Part). p.text) e) in
      (omega (arith, first.0, next.0), next.1 ∙ first.1)

  pub section_filled : IsFilledIn old new x part (n + m)
  section_filled =
      let titled : encode_utf8_all (heading new.held.history x) ≡ title = ap encode_utf8_all (r.keeps.headings x) ∙ hd.headed in
      let written : encode_utf8_all (text new.held.history x) ≡ bytes = ap encode_utf8_all r.here ∙ encodes-chars bytes tx.utf8 in
      record {
        makes = makes_join old mid new n m hd.makes (record { changes = r.changes; changed = r.changed; count = r.count });
        only = only;
        touches = touches;
        reads = λ i. record { title = titled i; text = written i };
        keeps = record { elements = kept; same_text = same_text; same_order = same_order; same_heading = same_heading; retitled = retitled };
        nothing = nothing;
      }

-- a revised text that stopped, of a section that is there
pub text_stops : (old mid new : State) (k n : ℕ) (x : Identifier) (title : List ℕ) (why : EditFault) → section_shown old k ≡ Some x → IsHeadedBy old mid x title n
    → (failed why ≡ failed edit.NoSection) ↔ (section_shown mid k ≡ None) → (failed why ≡ failed edit.OutOfRange → ⊥) → StopsRevising mid new k why
    → StopsAtLimit old new (fault.Edit why)
text_stops old mid new k n x title why there hd absent in_range s =
    let shown_there : section_shown mid k ≡ Some x = ap (λ xs. slice_get xs k) hd.only.catalogue_is ∙ there in
    stops_behind old mid new n (fault.Edit why) hd.makes (by why (λ e. not_both (section_shown mid k) x (absent.0 (ap failed e)) shown_there) (λ e. in_range (ap failed e)) s)
  where
    by : (why : EditFault) → (why ≡ edit.NoSection → ⊥) → (why ≡ edit.OutOfRange → ⊥) → StopsRevising mid new k why → StopsAtLimit mid new (fault.Edit why)
    by edit.NoSection a b s = absurd (a refl)
    by edit.OutOfRange a b s = absurd (b refl)
    by (edit.IdsSpent n) a b s = record { limit = tt; stops = stops_weaker (EditsText k) AnyChange mid new (fault.Edit (edit.IdsSpent n)) (λ c o. tt) s }
    by (edit.TooMany n) a b s = record { limit = tt; stops = stops_weaker (EditsText k) AnyChange mid new (fault.Edit (edit.TooMany n)) (λ c o. tt) s }
    by edit.NoMemory a b s = record { limit = tt; stops = stops_weaker (EditsText k) AnyChange mid new (fault.Edit edit.NoMemory) (λ c o. tt) s }
