-- What a move of a replica is, and why there is none.
use Rattle.std.proofs.Common.{◌&&◌, Bool, List, [], ap, false, refl, subst, sym, true, ℕ, ◌+◌, ◌-◌, ◌^◌, ◌∙◌, ◌∷◌, ◌≡◌, ◌≢◌}
use Rattle.std.specs.Prelude.{Err, IfOk, None, Ok, Result, Some, if◌then◌else◌, nat_lt, option_map}
use Rattle.std.proofs.Math.Nat.{le_refl}
use Rattle.std.proofs.lemmas.List.Elements.{All-weaker}
use Rattle.fugue_ids.specs.Identifiers.{Identifier}
use Rattle.fugue_ids.specs.declared.op.Op.{Op}
use Rattle.fugue_ids.specs.declared.op.Op.TheVariants.{Note}
use Rattle.fugue_ids.proofs.ListLemmas.{all_from_map}
use Rattle.origin_model.specs.declared.edit_fault.EditFault.{EditFault}
use Rattle.origin_model.specs.declared.edit_fault.EditFault.TheVariants.{IdsSpent as EditIdsSpent, TooMany as EditTooMany, NoMemory as EditNoMemory}
use Rattle.origin_model.specs.declared.operations.Verdict.TheVariants.{Ready}
use Rattle.origin_model.specs.edits.Edits.{id_at, next_counter}
use Rattle.origin_model.specs.edits.Effect.{Gains}
use Rattle.origin_model.specs.edits.Noting.{AreHeld, IsNoted, RefusesNote, note_by, note_refusal}
use Rattle.origin_model.specs.edits.Refusal.{held_count, next_of_own}
use Rattle.origin_model.specs.edits.State.{IsSound, State}
use Rattle.origin_model.specs.operations.History.{holds}
use Rattle.origin_model.specs.operations.Verdict.{verdict}
use Rattle.origin_model.proofs.edits.FreshIdLemmas.{history_below, none_from}
use Rattle.catalogue_notes.specs.Arranged.{arranged}
use Rattle.catalogue_notes.specs.Laws.{IsMoved}
use Rattle.catalogue_notes.specs.Lift.{stamp}
use Rattle.catalogue_notes.specs.Making.{move_body, move_names, origins_for}
use Rattle.catalogue_notes.specs.Moving.{IsMoveMade, IsMovePlan, NoteRefusesAs, as_move_fault, move_by}
use Rattle.catalogue_notes.specs.declared.moving.MoveFault.{MoveFault}
use Rattle.catalogue_notes.specs.declared.moving.MoveFault.TheVariants.{NoMemory}
use Rattle.catalogue_notes.specs.declared.moving.Plan.{Plan}
use Rattle.catalogue_notes.specs.declared.limits.TheConstants.{MOVE_CODE}
use Rattle.catalogue_notes.proofs.HolderLemmas.{IsHeld, anything, are_held, joins}
use Rattle.catalogue_notes.proofs.LiftLemmas.{map_from}
use Rattle.catalogue_notes.proofs.MoveLemmas.{move_lands}
use Rattle.origin_model.proofs.SharedLemmas.{Fits}
use Rattle.fugue_ids.proofs.OptionLemmas.{err_inj}

-- the identifier of the next note is new
pub fresh : (s : State) → holds s.held.history (id_at s.number (next_of_own s)) ≡ false
fresh s =
    let h : List Op = s.held.history in
    let c : ℕ = next_counter s.number h s.held.waiting in
    none_from s.number c h (history_below s.number h s.held.waiting) c (le_refl c)

-- the planned move lands
pub plan_lands : (s : State) (k j : ℕ) (plan : Plan) (p : IsMovePlan s k j plan) → IsSound s → IsMoved s.held.history (move_by s p.section k j) p.section k j
plan_lands s k j plan p st = move_lands s.held.history (id_at s.number (next_of_own s)) p.section k j st.lawful (fresh s) p.left_over p.placed p.place

-- a note that is Ready names what is held
pub ready_held : (h : List Op) (id : Identifier) (named : List Identifier) (code : ℕ) (body : List ℕ) → verdict h (Note id named code body) ≡ Ready → AreHeld h named
ready_held h id named code body r =
    let f = all_from_map anything (Fits h) named (joins h (Note id named code body) r).fit in
    are_held h named (All-weaker (λ i. Fits h (anything i)) (IsHeld h) (λ i k. (k.0, k.1)) named f)

pub plan_held : (s : State) (k j : ℕ) (plan : Plan) → IsMovePlan s k j plan → IsSound s → AreHeld s.held.history plan.names
plan_held s k j plan p st =
    let h : List Op = s.held.history in
    let m = plan_lands s k j plan p st in
    subst (AreHeld h) (sym p.names_are)
    (ready_held h (id_at s.number (next_of_own s)) (move_names p.section (origins_for h k j)) MOVE_CODE (move_body (stamp h + 1) (origins_for h k j)) m.ready)

-- the planned move was made
pub plan_made : (old new : State) (k j n : ℕ) (plan : Plan) → IsMovePlan old k j plan → IsSound old → IsNoted old new plan.names MOVE_CODE plan.body n → IsMoveMade old new k j n
plan_made old new k j n plan p st i = record {
  count = i.count;
  section = p.section;
  placed = p.placed;
  gained = g;
  lands = ap (λ (s : State). arranged s.held.history) g.others ∙ m.lands;
  moved = m;
}
  where
    g : Gains old new (move_by old p.section k j ∷ [])
    g = subst (λ (op : Op). Gains old new (op ∷ [])) (λ t. note_by old (p.names_are t) MOVE_CODE (p.body_is t)) i.gained

    m : IsMoved old.held.history (move_by old p.section k j) p.section k j
    m = plan_lands old k j plan p st

-- a note is not refused for lack of memory
not_for_memory : (s : State) (fault : EditFault) → note_refusal s ≡ Some fault → fault ≢ EditNoMemory
not_for_memory s fault e d = by (nat_lt 0 1 && nat_lt (2 ^ 32) (next_of_own s + 1)) (nat_lt s.most (held_count s + 1)) (ap (λ z. z) e ∙ ap Some d)
  where
    by : (b c : Bool) → (if b then Some (EditIdsSpent (next_of_own s - 1)) else (if c then Some (EditTooMany (held_count s)) else None)) ≡ Some EditNoMemory → ⊥
    by true c e = cc e
    by false true e = cc e
    by false false e = cc e

-- the refusals of a note, as a move tells them
pub note_refuses_ok : (s : State) (n : ℕ) → RefusesNote s (Ok n) → NoteRefusesAs s (Ok n)
note_refuses_ok s n r = record {
  only = λ fault d e. cc e;
  always = λ fault e.
      let g = map_from as_move_fault (note_refusal s) fault e in
      let k : Ok n ≡ Err g.0 = (r g.0 (not_for_memory s g.0 g.1)).1 g.1 in
      cc k;
}

-- an allocation failure is reported as such
memory_reported : (fault : EditFault) → fault ≡ EditNoMemory → as_move_fault fault ≡ NoMemory
memory_reported fault e = ap as_move_fault e

pub note_refuses_err : (s : State) (fault : EditFault) → RefusesNote s (Err fault) → NoteRefusesAs s (Err (as_move_fault fault))
note_refuses_err s fault r = record {
  only = λ f d e.
      let same : as_move_fault fault ≡ f = err_inj (as_move_fault fault) f e in
      ap (option_map as_move_fault) ((r fault (λ z. d (sym same ∙ memory_reported fault z))).0 refl) ∙ ap Some same;
  always = λ f e.
      let g = map_from as_move_fault (note_refusal s) f e in
      let k : Err fault ≡ Err g.0 = (r g.0 (not_for_memory s g.0 g.1)).1 g.1 in
      ap (λ z. Err (as_move_fault z)) (err_inj fault g.0 k) ∙ ap Err g.2;
}

-- an answer, by its plan
pub made_by_plan : (old new : State) (k j : ℕ) (plan : Plan) (r : Result ℕ MoveFault) → IsMovePlan old k j plan → IsSound old
    → IfOk r (λ n. IsNoted old new plan.names MOVE_CODE plan.body n) → IfOk r (λ n. IsMoveMade old new k j n)
made_by_plan old new k j plan (Ok n) p st i = plan_made old new k j n plan p st i
made_by_plan old new k j plan (Err e) p st i = tt
