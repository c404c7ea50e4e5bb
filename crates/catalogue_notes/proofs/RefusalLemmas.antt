-- Why there is no move or retitle of a replica.
use Rattle.std.proofs.Common.{Bool, ap, arith, false, inl, inr, length, refl, subst, sym, true, ℕ, ◌+◌, ◌-◌, ◌<◌, ◌≤◌, ◌^◌, ◌∙◌, ◌≡◌, ◌≢◌, ◌⊎◌}
use Rattle.std.specs.Prelude.{Err, IfSome, None, Option, Result, Some, if◌then◌else◌, nat_eq, nat_lt, option_map}
use Rattle.std.specs.Option.{option_or}
use Rattle.std.proofs.lemmas.Bool.{cases_Bool, le-ltb, lt-ltb, true≢false}
use Rattle.std.proofs.lemmas.Bool.Decides.{nat_tests}
use Rattle.origin_model.specs.declared.edit_fault.EditFault.{EditFault}
use Rattle.origin_model.specs.declared.edit_fault.EditFault.TheVariants.{NoSection as EditNoSection, OutOfRange as EditOutOfRange, IdsSpent as EditIdsSpent, TooMany as EditTooMany}
use Rattle.origin_model.specs.declared.edit_fault.EditFault.TheVariants.{NoMemory as EditNoMemory}
use Rattle.origin_model.specs.declared.operations.Place.TheVariants.{Catalogue as catalogue}
use Rattle.origin_model.specs.edits.Noting.{note_refusal}
use Rattle.origin_model.specs.edits.State.{State}
use Rattle.origin_model.specs.operations.Verdict.{Lawful}
use Rattle.origin_model.specs.order.Printed.{shown}
use Rattle.catalogue_notes.specs.Arranged.{arranged}
use Rattle.catalogue_notes.specs.Lift.{stamp}
use Rattle.catalogue_notes.specs.Moving.{NoteRefusesAs, RefusesFor, TellsAbsence, as_move_fault, is_absence, note_cause, place_cause, section_cause, stamps_cause}
use Rattle.catalogue_notes.specs.declared.moving.MoveFault.{MoveFault}
use Rattle.catalogue_notes.specs.declared.moving.MoveFault.TheVariants.{IdsSpent, NoMemory, NoPlace, NoSection, StampsSpent, TooMany}
use Rattle.catalogue_notes.proofs.ArrangedLemmas.{arranged_length}
use Rattle.catalogue_notes.proofs.HolderLemmas.{not_both, same_value}
use Rattle.catalogue_notes.proofs.LiftLemmas.{map_from}
use Rattle.fugue_ids.proofs.OptionLemmas.{err_inj}

test_below : (k n : ℕ) → nat_lt k n ≡ true → k < n
test_below k n t = grind (arith, nat_tests)

-- none where the test passed, and the fault where it did not
abbrev unless : MoveFault → Bool → Option MoveFault
unless f b = if b then None else Some f

below : (k n : ℕ) (f : MoveFault) → unless f (nat_lt k n) ≡ None → k < n
below k n f e = elim (cases_Bool (nat_lt k n)) [ inl t ↦ test_below k n t | inr t ↦ absurd (not_both (unless f (nat_lt k n)) f e (ap (unless f) t)) ]

-- the sections that are shown are those that are arranged
module _ (s : State) (w : Lawful s.held.history) where
  counted : length (arranged s.held.history) ≡ length (shown catalogue s.held.history)
  counted = arranged_length s.held.history w

  pub section_absent : (k : ℕ) → length (shown catalogue s.held.history) ≤ k → section_cause s k ≡ Some NoSection
  section_absent k l = ap (unless NoSection) (le-ltb k (length (arranged s.held.history)) (omega (arith, l, counted)))

  pub section_there : (k : ℕ) → k < length (shown catalogue s.held.history) → section_cause s k ≡ None
  section_there k l = ap (unless NoSection) (lt-ltb k (length (arranged s.held.history)) (omega (arith, l, counted)))

  pub place_absent : (k j : ℕ) → section_cause s k ≡ None → length (shown catalogue s.held.history) ≤ j → place_cause s k j ≡ Some NoPlace
  place_absent k j e l =
      ap (λ o. option_or o (unless NoPlace (nat_lt j (length (arranged s.held.history))))) e
      ∙ ap (unless NoPlace) (le-ltb j (length (arranged s.held.history)) (omega (arith, l, counted)))

  pub place_there : (k j : ℕ) → section_cause s k ≡ None → j < length (shown catalogue s.held.history) → place_cause s k j ≡ None
  place_there k j e l =
      ap (λ o. option_or o (unless NoPlace (nat_lt j (length (arranged s.held.history))))) e
      ∙ ap (unless NoPlace) (lt-ltb j (length (arranged s.held.history)) (omega (arith, l, counted)))

pub section_below : (s : State) (k : ℕ) → section_cause s k ≡ None → k < length (arranged s.held.history)
section_below s k e = below k (length (arranged s.held.history)) NoSection e

-- neither is wanting
both_none : (o p : Option MoveFault) → option_or o p ≡ None → (o ≡ None) × (p ≡ None)
both_none None p e = (refl, e)
both_none (Some f) p e = cc e

pub place_below : (s : State) (k j : ℕ) → place_cause s k j ≡ None → (k < length (arranged s.held.history)) × (j < length (arranged s.held.history))
place_below s k j e =
    let n : ℕ = length (arranged s.held.history) in
    let b = both_none (section_cause s k) (unless NoPlace (nat_lt j n)) e in
    (section_below s k b.0, below j n NoPlace b.1)

-- stamps are left
no_top : (n : ℕ) → n + 1 < 2 ^ 32 → nat_eq n (2 ^ 32 - 1) ≡ false
no_top n l = grind (arith, nat_tests)

pub stamps_left : (s : State) → stamp s.held.history + 1 < 2 ^ 32 → stamps_cause s ≡ None
stamps_left s l = ap (λ b. if b then Some StampsSpent else None) (no_top (stamp s.held.history) l)

-- what is not there was reported
pub absence_reported : (cause : Option MoveFault) (fault : MoveFault) → cause ≡ Some fault → TellsAbsence cause (Err fault)
absence_reported cause fault k g a = (λ e. k ∙ ap Some (err_inj fault g e), λ e. ap Err (same_value cause fault g k e))

-- or all is there
all_there : (cause : Option MoveFault) (result : Result ℕ MoveFault) → cause ≡ None → ((fault : MoveFault) → result ≡ Err fault → is_absence fault ≡ false)
    → TellsAbsence cause result
all_there cause result n f g a = (λ e. absurd (true≢false (sym a ∙ f g e)), λ e. absurd (not_both cause g n e))

-- a fault that a plan finds tells no absence
stamps_fault : (s : State) (fault : MoveFault) → stamps_cause s ≡ Some fault → StampsSpent ≡ fault
stamps_fault s fault e = by (nat_eq (stamp s.held.history) (2 ^ 32 - 1)) e
  where
    by : (b : Bool) → (if b then Some StampsSpent else None) ≡ Some fault → StampsSpent ≡ fault
    by true e = cc e
    by false e = cc e

abbrev FoundBy : State → MoveFault → Type 0
FoundBy s fault = fault ≢ NoMemory → stamps_cause s ≡ Some fault

plan_fault : (s : State) (fault : MoveFault) → FoundBy s fault → is_absence fault ≡ false
plan_fault s NoSection f = sym (ap is_absence (stamps_fault s NoSection (f (λ z. cc z))))
plan_fault s NoPlace f = sym (ap is_absence (stamps_fault s NoPlace (f (λ z. cc z))))
plan_fault s StampsSpent f = refl
plan_fault s (IdsSpent n) f = refl
plan_fault s (TooMany n) f = refl
plan_fault s NoMemory f = refl

pub plan_tells : (s : State) (cause : Option MoveFault) (fault : MoveFault) → cause ≡ None → FoundBy s fault → TellsAbsence cause (Err fault)
plan_tells s cause fault n f = all_there cause (Err fault) n (λ g e. ap is_absence (sym (err_inj fault g e)) ∙ plan_fault s fault f)

-- nor does one of the note
note_fault : (fault : EditFault) → is_absence (as_move_fault fault) ≡ false
note_fault EditNoSection = refl
note_fault EditOutOfRange = refl
note_fault (EditIdsSpent n) = refl
note_fault (EditTooMany n) = refl
note_fault EditNoMemory = refl

refused_fault : (s : State) (fault : MoveFault) → (fault ≢ NoMemory → option_map as_move_fault (note_refusal s) ≡ Some fault) → is_absence fault ≡ false
refused_fault s fault f = by fault (λ d. let g = map_from as_move_fault (note_refusal s) fault (f d) in ap is_absence (sym g.2) ∙ note_fault g.0)
  where
    by : (fault : MoveFault) → (fault ≢ NoMemory → is_absence fault ≡ false) → is_absence fault ≡ false
    by NoMemory k = refl
    by NoSection k = k (λ z. cc z)
    by NoPlace k = k (λ z. cc z)
    by StampsSpent k = refl
    by (IdsSpent n) k = refl
    by (TooMany n) k = refl

pub note_tells : (s : State) (cause : Option MoveFault) (result : Result ℕ MoveFault) → cause ≡ None → NoteRefusesAs s result → TellsAbsence cause result
note_tells s cause result n r = all_there cause result n (λ g e. refused_fault s g (λ d. r.only g d e))

-- a refusal that is the cause, or an allocation failure
abbrev Comes : Result ℕ MoveFault → Option MoveFault → Type 0
Comes result cause = IfSome cause (λ fault. (result ≡ Err fault) ⊎ (result ≡ Err NoMemory))

pub refuses : (cause : Option MoveFault) (fault : MoveFault) → cause ≡ Some fault → RefusesFor cause (Err fault)
refuses cause fault k = record { only = λ g d e. k ∙ ap Some (err_inj fault g e); always = subst (Comes (Err fault)) (sym k) (inl refl) }

wants : (cause : Option MoveFault) → RefusesFor cause (Err NoMemory)
wants cause = record { only = λ g d e. absurd (d (sym (err_inj NoMemory g e))); always = any cause }
  where
    any : (cause : Option MoveFault) → Comes (Err NoMemory) cause
    any None = tt
    any (Some g) = inr refl

-- where something is not there, that is the cause
pub refuses_absence : (s : State) (absent : Option MoveFault) (fault : MoveFault) → absent ≡ Some fault → RefusesFor (option_or absent (note_cause s)) (Err fault)
refuses_absence s absent fault k = refuses (option_or absent (note_cause s)) fault (ap (λ o. option_or o (note_cause s)) k)

-- where all is there, stamps are the next cause
module _ (s : State) (absent : Option MoveFault) (n : absent ≡ None) where
  later : option_or absent (note_cause s) ≡ note_cause s
  later = ap (λ o. option_or o (note_cause s)) n

  pub refuses_plan : (fault : MoveFault) → FoundBy s fault → RefusesFor (option_or absent (note_cause s)) (Err fault)
  refuses_plan fault f = by fault f
    where
      found : (fault : MoveFault) → stamps_cause s ≡ Some fault → RefusesFor (option_or absent (note_cause s)) (Err fault)
      found fault e = refuses (option_or absent (note_cause s)) fault (later ∙ ap (λ o. option_or o (option_map as_move_fault (note_refusal s))) e)

      by : (fault : MoveFault) → FoundBy s fault → RefusesFor (option_or absent (note_cause s)) (Err fault)
      by NoSection f = found NoSection (f (λ z. cc z))
      by NoPlace f = found NoPlace (f (λ z. cc z))
      by StampsSpent f = found StampsSpent (f (λ z. cc z))
      by (IdsSpent n) f = found (IdsSpent n) (f (λ z. cc z))
      by (TooMany n) f = found (TooMany n) (f (λ z. cc z))
      by NoMemory f = wants (option_or absent (note_cause s))

  -- and the note's own come last
  pub refuses_note : (result : Result ℕ MoveFault) → stamps_cause s ≡ None → NoteRefusesAs s result → RefusesFor (option_or absent (note_cause s)) result
  refuses_note result st r =
      let is : option_or absent (note_cause s) ≡ option_map as_move_fault (note_refusal s) = later ∙ ap (λ o. option_or o (option_map as_move_fault (note_refusal s))) st in
      record {
        only = λ fault d e. is ∙ r.only fault d e;
        always = by (option_or absent (note_cause s)) (λ fault e. inl (r.always fault (sym is ∙ e)));
      }
    where
      by : (o : Option MoveFault) → ((fault : MoveFault) → o ≡ Some fault → (result ≡ Err fault) ⊎ (result ≡ Err NoMemory)) → Comes result o
      by None f = tt
      by (Some fault) f = f fault refl
