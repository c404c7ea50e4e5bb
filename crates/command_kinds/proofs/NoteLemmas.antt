-- What a call gives that makes a note: the note, which a later load takes in to the same state, or why there is none.
use Rattle.std.proofs.Common.{ap, drop, drop_at, length, refl, sym, List, [], ◌+◌, ◌≤◌, ◌≡◌, ◌∷◌, ◌∙◌}
use Rattle.std.specs.Prelude.{Option, Ok, Err}
use Rattle.std.proofs.lemmas.List.Elements.{All-cons, All-nil}
use Rattle.fugue_ids.specs.declared.op.Op.{Op}
use Rattle.origin_model.specs.declared.operations.Verdict.TheVariants.{Ready}
use Rattle.origin_model.specs.edits.Effect.{Gains}
use Rattle.origin_model.specs.edits.Noting.{note_by}
use Rattle.origin_model.specs.edits.State.{State as Replica, IsSound}
use Rattle.origin_model.specs.operations.History.{accepted}
use Rattle.origin_model.specs.operations.Verdict.{verdict}
use Rattle.origin_model.specs.taking.Taking.{IsSettled}
use Rattle.origin_model.proofs.edits.EditIntakeLemmas.{comes, takes}
use Rattle.origin_model.proofs.edits.FreshIdLemmas.{IsUnknown}
use Rattle.origin_model.proofs.edits.NotedLemmas.{note_fits, noted_unknown}
use Rattle.edit_script.proofs.TakenInLemmas.{all_find_place}
use Rattle.edit_script.specs.Laws.{AreTakenIn}
use Rattle.command_kinds.specs.Edit.{made_outcome}
use Rattle.command_kinds.specs.Findings.{Does}
use Rattle.command_kinds.specs.Giving.{GivesTo}
use Rattle.command_kinds.specs.Notes.{MadeNote, NoteComes, NoteOn, note_source, note_outcome}
use Rattle.command_kinds.specs.Saving.{Suffices}
use Rattle.command_kinds.specs.declared.counts.Note.TheVariants as note
use Rattle.command_kinds.specs.declared.refusal.Refusal.{Refusal}
use Rattle.command_kinds.specs.declared.refusal.Refusal.TheVariants as refusal

-- one operation was made that is Ready, of which nothing that waits knows, and for which there was room
module _ (note_on : NoteOn) (old new : Replica) (op : Op) (found_is : note_on old ≡ Does op) (ready : verdict old.held.history op ≡ Ready) (unknown : IsUnknown old.held.waiting op)
    (fits : length old.held.history + length old.held.waiting + 1 ≤ old.most) (gained : Gains old new (op ∷ []))
  where
    pub op_suffices : IsSound old → IsSettled old.held → Suffices old (made_outcome new (op ∷ []))
    op_suffices sound settled =
        let h = old.held in
        let turn = comes (op ∷ []) h.history h.waiting settled (ready, tt) (All-cons (IsUnknown h.waiting) op [] unknown (All-nil (IsUnknown h.waiting))) in
        let taken = takes old.hold old.most (op ∷ []) h.history h.waiting settled turn fits in
        let are : AreTakenIn old new (op ∷ []) = record { state = taken.state ∙ ap (λ (s : Replica). s.held) (sym gained.others); all_kept = taken.all_kept } in
        record { same_state = are.state; place = all_find_place old new (op ∷ []) settled are }

    pub op_gives : IsSound old → IsSettled old.held → (kept : Option (List Op)) → GivesTo (note_source note_on) old new kept (Ok (note.Made 1))
    op_gives sound settled kept =
        record {
          outcome = made_outcome new (op ∷ []);
          gives = ap (λ (s : Replica). Does (made_outcome s (op ∷ []))) gained.others ∙ sym (ap (note_outcome old) found_is);
          suffices = op_suffices sound settled;
          saved = ap (drop (length (accepted old.held.history))) gained.accepted_are ∙ drop_at (accepted old.held.history) (op ∷ []) (length (accepted old.held.history)) refl;
          noted = record { line = refl; status = refl };
        }

pub note_gives : (note_on : NoteOn) (old new : Replica) → MadeNote (note_on old) old new → IsSound old → IsSettled old.held → (kept : Option (List Op))
    → GivesTo (note_source note_on) old new kept (Ok (note.Made 1))
note_gives note_on old new made =
    let h = old.held in
    op_gives note_on old new (note_by old made.named made.code made.body) made.found_is made.ready (noted_unknown old.number h.history h.waiting made.named made.code made.body)
    (note_fits old made.allowed) made.gained

-- no note was made, and why
pub note_gives_none : (note_on : NoteOn) (old new : Replica) (kept : Option (List Op)) (why : Refusal) → NoteComes (note_on old) old new (Err why)
    → GivesTo (note_source note_on) old new kept (Err why)
note_gives_none note_on old new kept refusal.Outside never = absurd never
note_gives_none note_on old new kept refusal.NoMemory comes = tt
note_gives_none note_on old new kept refusal.Words never = never
note_gives_none note_on old new kept why is = sym (ap (note_outcome old) is)
