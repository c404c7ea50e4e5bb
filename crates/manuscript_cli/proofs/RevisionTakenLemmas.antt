-- The operations of a revision, taken in where it began, come to where it ended.
use Rattle.std.proofs.Common.{All, List, [], ap, arith, length, subst, sym, ◌+◌, ◌∙◌, ◌∷◌, ◌≤◌}
use Rattle.std.specs.Prelude.{None, Option, Some}
use Rattle.std.specs.Str.{encode_utf8_all}
use Rattle.std.proofs.lemmas.List.Elements.{All-append, All-cons, All-nil}
use Rattle.fugue_ids.specs.Identifiers.{Identifier}
use Rattle.fugue_ids.specs.declared.op.Op.{Op}
use Rattle.origin_model.specs.edits.Edits.{ReadyInTurn, history_with}
use Rattle.origin_model.specs.edits.State.{State as Replica, IsSound}
use Rattle.origin_model.specs.operations.Verdict.{Lawful}
use Rattle.origin_model.specs.taking.Taking.{IsSettled}
use Rattle.origin_model.proofs.edits.EditIntakeLemmas.{comes, takes}
use Rattle.origin_model.proofs.edits.FreshIdLemmas.{IsUnknown}
use Rattle.origin_model.proofs.edits.MadeLemmas.{extended_length, lawful_front}
use Rattle.origin_model.proofs.edits.NotedLemmas.{noted_unknown}
use Rattle.origin_model.proofs.edits.UndecidedLemmas.{made_unknown}
use Rattle.catalogue_notes.specs.Lift.{stamp}
use Rattle.catalogue_notes.specs.Making.{move_body, move_names, origins_for, retitle_body}
use Rattle.catalogue_notes.specs.declared.limits.TheConstants.{MOVE_CODE, RETITLE_CODE}
use Rattle.catalogue_notes.specs.Moving.{move_by, retitle_by, section_placed}
use Rattle.draft_plan.specs.Changes.{PlanChange, MakesChanges, Edit, Move, Retitle, all_made, replica_after, made_of}
use Rattle.edit_script.proofs.TakenInLemmas.{all_find_place}
use Rattle.edit_script.specs.Laws.{AreTakenIn}
use Rattle.command_kinds.specs.Edit.{made_outcome}
use Rattle.command_kinds.specs.Saving.{Suffices}

-- and each operation was Ready in its turn
pub in_turn : (ops h : List Op) → Lawful (history_with h ops) → ReadyInTurn h ops
in_turn [] h w = tt
in_turn (op ∷ ops) h w = ((lawful_front ops (op ∷ h) w).0, in_turn ops (op ∷ h) w)

-- nothing that waits names what a change makes
one_unknown : (w : List Op) (op : Op) → IsUnknown w op → All (IsUnknown w) (op ∷ [])
one_unknown w op k = All-cons (IsUnknown w) op [] k (All-nil (IsUnknown w))

change_unknown : (s : Replica) (change : PlanChange) → All (IsUnknown s.held.waiting) (made_of s change)
change_unknown s (Edit command) = made_unknown s.number s.held.history s.held.waiting command
change_unknown s (Move k j) = by (section_placed s k)
  where
    by : (o : Option Identifier) → All (IsUnknown s.held.waiting) (elim o [ None ↦ [] | Some section ↦ move_by s section k j ∷ [] ])
    by None = All-nil (IsUnknown s.held.waiting)
    by (Some section) = one_unknown s.held.waiting (move_by s section k j)
        (noted_unknown s.number s.held.history s.held.waiting (move_names section (origins_for s.held.history k j)) MOVE_CODE
        (move_body (stamp s.held.history + 1) (origins_for s.held.history k j)))
change_unknown s (Retitle k title) = by (section_placed s k)
  where
    by : (o : Option Identifier) → All (IsUnknown s.held.waiting) (elim o [ None ↦ [] | Some section ↦ retitle_by s section title ∷ [] ])
    by None = All-nil (IsUnknown s.held.waiting)
    by (Some section) = one_unknown s.held.waiting (retitle_by s section title)
        (noted_unknown s.number s.held.history s.held.waiting (section ∷ []) RETITLE_CODE (retitle_body (stamp s.held.history + 1) (encode_utf8_all title)))

all_unknown : (s : Replica) (changes : List PlanChange) → All (IsUnknown s.held.waiting) (all_made s changes)
all_unknown s [] = All-nil (IsUnknown s.held.waiting)
all_unknown s (change ∷ changes) =
    All-append (IsUnknown s.held.waiting) (made_of s change) (all_made (replica_after s change) changes) (change_unknown s change) (all_unknown (replica_after s change) changes)

-- so a later load comes to the state in which the revision ended
module _ (old new : Replica) (changes : List PlanChange) (settled : IsSettled old.held) (sound : IsSound new) (changed : MakesChanges old new changes) where
  abbrev made : List Op
  made = all_made old changes

  lawful : Lawful (history_with old.held.history made)
  lawful = subst (λ (s : Replica). Lawful s.held.history) changed.gained.others sound.lawful

  fits : length old.held.history + length old.held.waiting + length made ≤ old.most
  fits =
      let few : length (history_with old.held.history made) + length old.held.waiting ≤ old.most =
      subst (λ (s : Replica). length s.held.history + length s.held.waiting ≤ s.most) changed.gained.others sound.few in
      omega (arith, few, extended_length old.held.history made)

  taken : AreTakenIn old new made
  taken =
      let turn = comes made old.held.history old.held.waiting settled (in_turn made old.held.history lawful) (all_unknown old changes) in
      let is = takes old.hold old.most made old.held.history old.held.waiting settled turn fits in
      record { state = is.state ∙ ap (λ (s : Replica). s.held) (sym changed.gained.others); all_kept = is.all_kept }

  pub changed_suffice : Suffices old (made_outcome new made)
  changed_suffice = record { same_state = taken.state; place = all_find_place old new made settled taken }
