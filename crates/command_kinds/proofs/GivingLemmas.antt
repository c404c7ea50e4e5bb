-- From what a source gives to what a command that saves does.
use Rattle.std.proofs.Common.{◌≡◌, ◌∙◌, inl, inr, length, refl, sym, subst, List, ℕ}
use Rattle.std.specs.Prelude.{Option, Result, Ok, Err, IsOk}
use Rattle.fugue_ids.specs.Outs.{OutView}
use Rattle.fugue_ids.specs.declared.op.Op.{Op}
use Rattle.outer_ports.specs.disk.Disks.{DiskView}
use Rattle.origin_model.specs.edits.State.{State as Replica}
use Rattle.origin_model.specs.operations.History.{accepted}
use Rattle.replica_file.specs.Append.{AppendMeets, IsTooLong}
use Rattle.replica_file.specs.declared.appending.AppendFault.{AppendFault}
use Rattle.replica_file.specs.declared.appending.AppendFault.TheVariants as append_fault
use Rattle.replica_file.specs.declared.load_file.End.{End}
use Rattle.replica_file.specs.declared.load_file.LoadFault.{LoadFault}
use Rattle.replica_file.specs.declared.load_file.LoadFault.TheVariants as load_fault
use Rattle.command_kinds.specs.Counts.{is_done}
use Rattle.command_kinds.specs.Crashes.{IsFinished}
use Rattle.command_kinds.specs.Giving.{GivenNoted, GivesTo, MayEnd, SavesNoted, note_line, note_status, to_save}
use Rattle.command_kinds.specs.Printing.{NoteMeets, NotesBlameless}
use Rattle.command_kinds.specs.Refusal.{append_refusal, load_refusal}
use Rattle.command_kinds.specs.Saving.{OpsSource, GivesOnce, SavesGiven}
use Rattle.command_kinds.specs.Changes.{Change, DiskBlameless, CountsNoFault, notes_room}
use Rattle.command_kinds.specs.declared.counts.Note.{Note}
use Rattle.command_kinds.specs.declared.counts.Note.TheVariants as note
use Rattle.command_kinds.specs.declared.refusal.Refusal.{Refusal}
use Rattle.command_kinds.specs.declared.refusal.Refusal.TheVariants as refusal
use Rattle.command_kinds.specs.declared.status.Status.{Status}
use Rattle.command_kinds.proofs.LoadedLemmas.{HasNotLoaded, keeps_file, load_failed}
use Rattle.command_kinds.proofs.SavesLemmas.{saves_given}
use Rattle.command_kinds.proofs.ShowLemmas.{done_or_partial}

-- a command does not do all where its source came to a refusal
pub unfinished : (answer : Result Note Refusal) (why : Refusal) (end : Status) → answer ≡ Err why → MayEnd answer end → IsFinished end → ⊥
unfinished answer why end is may done = let ok = subst (λ (a : Result Note Refusal). IsOk a) is (may.finished done) in cc ok

-- a note is of what was done
note_finished : (n : Note) → IsFinished (note_status n)
note_finished (note.Counted counts) = done_or_partial (is_done counts.tally counts.waiting)
note_finished (note.Made count) = inl refl
note_finished (note.Revised count sections) = inl refl

-- all was done, and noted or not
pub note_saves : (ops_source : OpsSource) → GivesOnce ops_source → (file : Change DiskView) (notes : Change OutView) (n : Note) (end : Status) → SavesNoted ops_source file (Ok n)
    → NoteMeets (note_line n) (note_status n) notes.old notes.new end → CountsNoFault notes_room notes.old notes.new
    → DiskBlameless file end → NotesBlameless notes end → SavesGiven ops_source file notes end
note_saves ops_source once file notes n end did noted counts_no_fault file_blameless notes_blameless =
    saves_given ops_source once file notes end (record {
      result = Ok did.0;
      did = (did.2, subst IsFinished (sym did.1.status) (note_finished n));
      reported = record {
        noted = subst (λ (s : Status). NoteMeets did.0.line s notes.old notes.new end) (sym did.1.status)
            (subst (λ (line : List ℕ). NoteMeets line (note_status n) notes.old notes.new end) (sym did.1.line) noted);
        counts_no_fault = counts_no_fault;
        blameless = notes_blameless;
      };
    }) file_blameless

-- nothing was given to a file that is loaded
pub given_none : (ops_source : OpsSource) (before after : Replica) (kept : Option (List Op)) (end : End) (file : Change DiskView) (why : Refusal) → file.new ≡ file.old
    → GivesTo ops_source before after kept (Err why)
    → GivenNoted ops_source before end file (Err why)
given_none ops_source before after kept end file refusal.Outside same gave = inl (gave.0, gave.1, same)
given_none ops_source before after kept end file refusal.NoMemory same gave = same
given_none ops_source before after kept end file refusal.Words same gave = gave
given_none ops_source before after kept end file why same gave = (inl gave, same)

-- what was given was not saved
pub given_unsaved : (ops_source : OpsSource) (before after : Replica) (kept : Option (List Op)) (end : End) (file : Change DiskView) (n : Note) (ops : List Op)
    (fault : AppendFault)
    → ops ≡ to_save n (length (accepted before.held.history)) after kept → GivesTo ops_source before after kept (Ok n) → AppendMeets end ops file.old file.new (Err fault)
    → GivenNoted ops_source before end file (Err (append_refusal fault))
given_unsaved ops_source before after kept end file n ops append_fault.DiskFault is gave meets =
    inr (gave.outcome, gave.gives, subst (λ (l : List Op). AppendMeets end l file.old file.new (Err append_fault.DiskFault)) (is ∙ gave.saved) meets)
given_unsaved ops_source before after kept end file n ops append_fault.NoMemory is gave meets = meets.untouched (inr refl)
given_unsaved ops_source before after kept end file n ops append_fault.BatchTooLong is gave meets =
    (inr (refl, gave.outcome, gave.gives, subst (λ (l : List Op). IsTooLong end l) (is ∙ gave.saved) ((meets.too_long (λ e. cc e)).0 refl)), meets.untouched (inl refl))

-- or it was
pub given_saved : (ops_source : OpsSource) (before after : Replica) (kept : Option (List Op)) (end : End) (file : Change DiskView) (n : Note) (ops : List Op) (last : End)
    → ops ≡ to_save n (length (accepted before.held.history)) after kept → GivesTo ops_source before after kept (Ok n) → AppendMeets end ops file.old file.new (Ok last)
    → GivenNoted ops_source before end file (Ok n)
given_saved ops_source before after kept end file n ops last is gave meets =
    (gave.outcome, gave.noted, gave.gives, gave.suffices, (last, subst (λ (l : List Op). AppendMeets end l file.old file.new (Ok last)) (is ∙ gave.saved) meets))

-- a file that was not loaded
pub load_stops : (ops_source : OpsSource) (file : Change DiskView) (fault : LoadFault) → HasNotLoaded file fault → SavesNoted ops_source file (Err (load_refusal fault))
load_stops ops_source file load_fault.DiskFault meets = inl (load_failed file meets)
load_stops ops_source file load_fault.NoMemory meets = keeps_file file _ meets
load_stops ops_source file load_fault.NotReplica meets = (inl meets.cause, keeps_file file _ meets, inl meets.cause)
load_stops ops_source file (load_fault.BadBatch slot) meets = (inl meets.cause, keeps_file file _ meets, inl meets.cause)
load_stops ops_source file (load_fault.TooMany count) meets = (inl meets.cause, keeps_file file _ meets, inl meets.cause)
