-- Changes of a replica, one after another.
use Rattle.std.proofs.Common.{List, [], ap, append_assoc, inl, inr, length, length-append, refl, subst, sym, ℕ, ◌+◌, ◌++◌, ◌∙◌, ◌∷◌, ◌≡◌}
use Rattle.std.specs.Prelude.{All, Err, None, Ok, Option, Result, Some, option_map}
use Rattle.std.proofs.lemmas.List.{append-nil}
use Rattle.std.proofs.lemmas.List.Elements.{All-append, All-nil, All-weaker}
use Rattle.fugue_ids.specs.declared.op.Op.{Op}
use Rattle.origin_model.specs.declared.edit_fault.EditFault.{EditFault}
use Rattle.origin_model.specs.declared.edit_fault.EditFault.TheVariants as edit
use Rattle.origin_model.specs.edits.Edits.{Command}
use Rattle.origin_model.specs.edits.Effect.{Gains, IsMade, LeavesUnmade, with_ops}
use Rattle.origin_model.specs.edits.Refusal.{RefusesExactly, refusal_message}
use Rattle.origin_model.specs.edits.State.{State}
use Rattle.origin_model.specs.operations.History.{accepted}
use Rattle.origin_model.proofs.edits.MadeLemmas.{extended-append}
use Rattle.catalogue_notes.specs.declared.moving.MoveFault.{MoveFault}
use Rattle.catalogue_notes.specs.declared.moving.MoveFault.TheVariants as moving
use Rattle.catalogue_notes.specs.Moving.{IsMoveMade, IsRetitleMade, RefusesFor, move_by, move_refusal, retitle_by, retitle_refusal}
use Rattle.draft_plan.specs.Changes.{AreAllowed, PlanChange, MakesChanges, Edit, IsRefused, Move, Retitle, Stops, StopsAt, all_made, replica_after, change_refusal, made_of}
use Rattle.draft_plan.specs.declared.fault.ReviseFault.{ReviseFault}
use Rattle.draft_plan.specs.declared.fault.ReviseFault.TheVariants as fault
use Rattle.origin_model.proofs.edits.AllowedLemmas.{allowed}

-- operations, and then others
with_more : (s : State) (xs ys : List Op) → with_ops (with_ops s xs) ys ≡ with_ops s (xs ++ ys)
with_more s xs ys = ap (λ h. record s { held = record { history = h; waiting = s.held.waiting } }) (sym (extended-append s.held.history xs ys))

pub gains_join : (old mid new : State) (ops more : List Op) → Gains old mid ops → Gains mid new more → Gains old new (ops ++ more)
gains_join old mid new ops more first next = record {
  accepted_are = next.accepted_are ∙ ap (λ l. l ++ more) first.accepted_are ∙ append_assoc (accepted old.held.history) ops more;
  others = next.others ∙ ap (λ s. with_ops s more) first.others ∙ with_more old ops more;
}

pub gains_none : (s : State) → Gains s s []
gains_none s = record { accepted_are = sym (append-nil (accepted s.held.history)); others = refl }

-- the operations of changes, and of others on the replica after them
all_made-append : (s : State) (a b : List PlanChange) → all_made s (a ++ b) ≡ all_made s a ++ all_made (with_ops s (all_made s a)) b
all_made-append s [] b = refl
all_made-append s (c ∷ cs) b =
    let ops : List Op = made_of s c in
    let more : List Op = all_made (replica_after s c) cs in
    ap (λ l. ops ++ l) (all_made-append (replica_after s c) cs b)
    ∙ sym (append_assoc ops more (all_made (with_ops (replica_after s c) more) b))
    ∙ ap (λ t. (ops ++ more) ++ all_made t b) (with_more s ops more)

allowed-append : (s : State) (a b : List PlanChange) → AreAllowed s a → AreAllowed (with_ops s (all_made s a)) b → AreAllowed s (a ++ b)
allowed-append s [] b x y = y
allowed-append s (c ∷ cs) b x y =
    (x.0, allowed-append (replica_after s c) cs b x.1 (subst (λ t. AreAllowed t b) (sym (with_more s (made_of s c) (all_made (replica_after s c) cs))) y))

-- the operations of changes, and then of others
pub made_join : (old mid : State) (a b : List PlanChange) → MakesChanges old mid a → all_made old (a ++ b) ≡ all_made old a ++ all_made mid b
made_join old mid a b first = all_made-append old a b ∙ ap (λ t. all_made old a ++ all_made t b) (sym first.gained.others)

-- no change
pub changed_none : (s : State) → MakesChanges s s []
changed_none s = record { allowed = tt; gained = gains_none s }

-- changes, and then others
pub changed_join : (old mid new : State) (a b : List PlanChange) → MakesChanges old mid a → MakesChanges mid new b → MakesChanges old new (a ++ b)
changed_join old mid new a b first next = record {
  allowed = allowed-append old a b first.allowed (subst (λ t. AreAllowed t b) first.gained.others next.allowed);
  gained = subst (Gains old new) (sym (made_join old mid a b first)) (gains_join old mid new (all_made old a) (all_made mid b) first.gained next.gained);
}

-- as many operations as both have
pub count_join : (old mid : State) (a b : List PlanChange) → MakesChanges old mid a → length (all_made old (a ++ b)) ≡ length (all_made old a) + length (all_made mid b)
count_join old mid a b first = ap length (made_join old mid a b first) ∙ length-append (all_made old a) (all_made mid b)

-- one change
pub changed_one : (old new : State) (c : PlanChange) → change_refusal old c ≡ None → Gains old new (made_of old c) → MakesChanges old new (c ∷ [])
changed_one old new c allowed gained = record { allowed = (allowed, tt); gained = subst (Gains old new) (sym (append-nil (made_of old c))) gained }

pub count_one : (s : State) (c : PlanChange) → length (all_made s (c ∷ [])) ≡ length (made_of s c)
count_one s c = ap length (append-nil (made_of s c))

-- an edit that was made
pub changed_edit : (old new : State) (command : Command) (n : ℕ) → RefusesExactly old command (Ok n) → IsMade old new command n → MakesChanges old new (Edit command ∷ [])
changed_edit old new command n exact made = changed_one old new (Edit command) (ap (option_map fault.Edit) (allowed old command n exact)) made.gained

-- what was made has no cause against it
no_cause : (o : Option MoveFault) (n : ℕ) → RefusesFor o (Ok n) → o ≡ None
no_cause None n r = refl
no_cause (Some why) n r = elim r.always [ inl e ↦ absurd (made_no_err n why e) | inr e ↦ absurd (made_no_err n moving.NoMemory e) ]
  where
    made_no_err : (n : ℕ) (why : MoveFault) → ◌≡◌ {A = Result ℕ MoveFault} (Ok n) (Err why) → ⊥
    made_no_err n why e = cc

-- a move that was made
pub changed_move : (old new : State) (k j n : ℕ) → RefusesFor (move_refusal old k j) (Ok n) → IsMoveMade old new k j n → MakesChanges old new (Move k j ∷ [])
changed_move old new k j n refuses made =
    let ops : made_of old (Move k j) ≡ move_by old made.section k j ∷ [] =
    ap (λ o. elim o as (λ _. List Op) [ None ↦ [] | Some section ↦ move_by old section k j ∷ [] ]) made.placed in
    changed_one old new (Move k j) (ap (option_map fault.Move) (no_cause (move_refusal old k j) n refuses)) (subst (Gains old new) (sym ops) made.gained)

-- a retitle that was made
pub changed_retitle : (old new : State) (k n : ℕ) (title : List ℕ) → RefusesFor (retitle_refusal old k) (Ok n) → IsRetitleMade old new k title n
    → MakesChanges old new (Retitle k title ∷ [])
changed_retitle old new k n title refuses made =
    let ops : made_of old (Retitle k title) ≡ retitle_by old made.section title ∷ [] =
    ap (λ o. elim o as (λ _. List Op) [ None ↦ [] | Some section ↦ retitle_by old section title ∷ [] ]) made.placed in
    changed_one old new (Retitle k title) (ap (option_map fault.Move) (no_cause (retitle_refusal old k) n refuses)) (subst (Gains old new) (sym ops) made.gained)

-- changes that were made, and then a stop
pub stops_after : (Only : PlanChange → Type 0) (old mid new : State) (changes : List PlanChange) (why : ReviseFault) → All Only changes → MakesChanges old mid changes
    → Stops Only mid new why
    → Stops Only old new why
stops_after Only old mid new changes why only changed stops = record {
  changes = changes ++ stops.changes;
  only = All-append Only changes stops.changes only stops.only;
  mid = stops.mid;
  changed = changed_join old mid stops.mid changes stops.changes changed stops.changed;
  stop = stops.stop;
}

-- a stop at the first change
pub stops_here : (Only : PlanChange → Type 0) (old new : State) (why : ReviseFault) → StopsAt Only old new why → Stops Only old new why
stops_here Only old new why stop = record { changes = []; only = All-nil Only; mid = old; changed = changed_none old; stop = stop }

-- memory ran out before anything was made
pub stops_first : (Only : PlanChange → Type 0) (s : State) → Stops Only s s (fault.Edit edit.NoMemory)
stops_first Only s = stops_here Only s s (fault.Edit edit.NoMemory) (inl refl)

refused_edit : (Only : PlanChange → Type 0) (old new : State) (command : Command) (why : EditFault) → Only (Edit command) → new ≡ old → refusal_message old command ≡ Some why
    → IsRefused Only old new (fault.Edit why)
refused_edit Only old new command why only unmade refused = record { change = Edit command; only = only; refused = ap (option_map fault.Edit) refused; unmade = unmade }

-- an edit that was refused, or that stopped on its way
pub stops_edit : (Only : PlanChange → Type 0) (old new : State) (command : Command) (why : EditFault) → Only (Edit command) → LeavesUnmade old new command why
    → RefusesExactly old command (Err why) → Stops Only old new (fault.Edit why)
stops_edit Only old new command edit.NoMemory only left exact = stops_here Only old new (fault.Edit edit.NoMemory) (inr (Edit command, only, left))
stops_edit Only old new command why only left exact =
    stops_here Only old new (fault.Edit why) (refused_edit Only old new command why only left ((exact why (λ e. cc e)).0 refl))

-- a move or a retitle that was refused
pub stops_note : (Only : PlanChange → Type 0) (old new : State) (change : PlanChange) (cause : Option MoveFault) (why : MoveFault) → Only change
    → change_refusal old change ≡ option_map fault.Move cause → new ≡ old → RefusesFor cause (Err why) → Stops Only old new (fault.Move why)
stops_note Only old new change cause moving.NoMemory only is unmade refuses = stops_here Only old new (fault.Move moving.NoMemory) (inl unmade)
stops_note Only old new change cause why only is unmade refuses =
    stops_here Only old new (fault.Move why)
    (record { change = change; only = only; refused = is ∙ ap (option_map fault.Move) (refuses.only why (λ e. cc e) refl); unmade = unmade })

-- changes of a kind are changes of a wider one
weaker_at : (Only Kind : PlanChange → Type 0) (old new : State) (why : ReviseFault) → ((c : PlanChange) → Only c → Kind c) → StopsAt Only old new why → StopsAt Kind old new why
weaker_at Only Kind old new (fault.Edit edit.NoMemory) w (inl same) = inl same
weaker_at Only Kind old new (fault.Edit edit.NoMemory) w (inr part) = inr (part.0, w part.0 part.1, part.2)
weaker_at Only Kind old new (fault.Move moving.NoMemory) w (inl same) = inl same
weaker_at Only Kind old new (fault.Move moving.NoMemory) w (inr part) = inr (part.0, w part.0 part.1, part.2)
weaker_at Only Kind old new why w refused = record { change = refused.change; only = w refused.change refused.only; refused = refused.refused; unmade = refused.unmade }

pub stops_weaker : (Only Kind : PlanChange → Type 0) (old new : State) (why : ReviseFault) → ((c : PlanChange) → Only c → Kind c) → Stops Only old new why → Stops Kind old new why
stops_weaker Only Kind old new why w stops = record {
  changes = stops.changes;
  only = All-weaker Only Kind w stops.changes stops.only;
  mid = stops.mid;
  changed = stops.changed;
  stop = weaker_at Only Kind stops.mid new why w stops.stop;
}
