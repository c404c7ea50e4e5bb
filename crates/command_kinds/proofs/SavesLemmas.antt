-- What follows for every command that saves from what came of it.
use Rattle.std.proofs.Common.{◌≡◌, inl, inr, refl, ap, sym, subst, ◌∙◌}
use Rattle.std.specs.Prelude.{◌⊎◌, Ok, Err, Result}
use Rattle.fugue_ids.specs.Causes.{Faulted}
use Rattle.fugue_ids.specs.Outs.{OutView}
use Rattle.outer_ports.specs.disk.Disks.{DiskView}
use Rattle.command_kinds.specs.Acts.{NotesResult, Performs}
use Rattle.command_kinds.specs.Crashes.{IsFinished, NeverTorn}
use Rattle.command_kinds.specs.Files.{FileRefuses, KeepsFile, LoadFailed}
use Rattle.command_kinds.specs.Findings.{Basis, Finding, Refuses, Does, WhereSpecified}
use Rattle.command_kinds.specs.Refusal.{status_of}
use Rattle.command_kinds.specs.Saving.{FileIsRefused, GaveOutcome, OpsSource, GivesOnce, GivingFailed, IsDone, Outcome, SaveFailed, SavesGiven, SavesOutcome, SavingFound}
use Rattle.command_kinds.specs.Saving.{StopsSaving, room_needed, saving, saving_basis}
use Rattle.command_kinds.specs.Changes.{Change, DiskBlameless, DiskCountsNoFault, HasDiskRoom, IsSpecified}
use Rattle.command_kinds.specs.declared.refusal.Refusal.{Refusal}
use Rattle.command_kinds.specs.declared.refusal.Refusal.TheVariants as refusal
use Rattle.command_kinds.specs.declared.status.Status.{Status}
use Rattle.command_kinds.proofs.CrashLemmas.{failed_never_torn, saved_never_torn, stopped_never_torn}
use Rattle.command_kinds.proofs.FoundLemmas.{holds_or_refuses, refuses_once}
use Rattle.command_kinds.proofs.GivenLemmas.{found_once}
use Rattle.command_kinds.proofs.SavedLemmas.{some_room}
use Rattle.command_kinds.proofs.ActLemmas.{Answers, decided_by, inside_by, refusal_unfinished}

-- room for what is to be done is room for a call
needed_room : (found : Finding Outcome) (disk : DiskView) → HasDiskRoom (room_needed found) disk → HasDiskRoom 1 disk
needed_room (Refuses why) disk has = has
needed_room (Does outcome) disk has = some_room outcome.saved disk has

module _ (ops_source : OpsSource) (once : GivesOnce ops_source) (file : Change DiskView) where
  abbrev basis : Basis Outcome
  basis = saving_basis ops_source file

  -- what is found is what came
  same_found : (came : Finding Outcome) → SavingFound ops_source file.old came → WhereSpecified basis (λ found. found ≡ came)
  same_found came so specified found is = found_once ops_source once specified.1 file.old specified.0 found came is so

  done_found : (outcome : Outcome) → IsDone ops_source file outcome → SavingFound ops_source file.old (Does outcome)
  done_found outcome done = (done.replica, done.end, done.holds, (done.gives, done.fits))

  -- a call failed
  abbrev SomeFailed : Type 0
  SomeFailed = LoadFailed file ⊎ GivingFailed ops_source file ⊎ SaveFailed ops_source file

  -- which had no room, or was not sure
  save_room : (save : SaveFailed ops_source file) → WhereSpecified basis (λ found. HasDiskRoom (room_needed found) file.old → ⊥)
  save_room save specified found is has =
      let same = same_found (Does save.outcome) (save.replica, save.end, save.holds, (save.gives, save.fits)) specified found is in
      save.no_room (subst (λ f. HasDiskRoom (room_needed f) file.old) same has)

  failed_unsure : SomeFailed → WhereSpecified basis (λ found. basis.Sure found → ⊥)
  failed_unsure (inl load) specified found is sure = load.no_room (needed_room found file.old sure.1)
  failed_unsure (inr (inl giving)) specified found is sure = giving.not_sure sure.0
  failed_unsure (inr (inr save)) specified found is sure = save_room save specified found is sure.1

  failed_no_fault : SomeFailed → WhereSpecified basis (λ found. DiskCountsNoFault (room_needed found) file)
  failed_no_fault (inl load) specified found is has = absurd (load.no_room (needed_room found file.old has))
  failed_no_fault (inr (inl giving)) specified found is has = giving.keeps.counts_no_fault (needed_room found file.old has)
  failed_no_fault (inr (inr save)) specified found is has = absurd (save_room save specified found is has)

  failed_faulted : SomeFailed → Faulted file.old.faults file.new.faults ⊎ ops_source.Failed
  failed_faulted (inl load) = inl load.faulted
  failed_faulted (inr (inl giving)) = inr giving.failed
  failed_faulted (inr (inr save)) = inl save.faulted

  -- where the file is refused, the call that failed was on the file
  refused_faulted : SomeFailed → IsSpecified file.old → (why : Refusal) → FileRefuses file.old why → Faulted file.old.faults file.new.faults
  refused_faulted (inl load) specified why cause = load.faulted
  refused_faulted (inr (inl giving)) specified why cause = absurd (holds_or_refuses file.old specified (giving.replica, giving.end) why giving.holds cause)
  refused_faulted (inr (inr save)) specified why cause = save.faulted

  -- what is found of a file that is refused is that refusal
  same_refusal : IsSpecified file.old → (found why : Refusal) → SavingFound ops_source file.old (Refuses found) → FileRefuses file.old why → found ≡ why
  same_refusal specified found why (inl cause) other = refuses_once file.old specified found why cause other
  same_refusal specified found why (inr rest) other = absurd (holds_or_refuses file.old specified (rest.0, rest.1) why rest.2 other)

  -- why it stopped: a call failed, or the file is kept
  stopped : (why : Refusal) → StopsSaving ops_source file why → SomeFailed ⊎ KeepsFile file
  stopped refusal.Outside failed = inl failed
  stopped refusal.NoMemory keeps = inr keeps
  stopped refusal.Words none = absurd none
  stopped why stops = inr stops.1

  -- what came is what the file and the source lead to
  answers : (result : Result Outcome Refusal) → SavesOutcome ops_source file result → WhereSpecified basis (λ found. Answers basis found result)
  answers (Ok outcome) did specified found is = same_found (Does outcome) (done_found outcome did.0) specified found is
  answers (Err refusal.Outside) failed specified found is = (failed_faulted failed, failed_unsure failed specified found is)
  answers (Err refusal.NoMemory) keeps specified found is = tt
  answers (Err refusal.Words) none specified found is = absurd none
  answers (Err why) stops specified found is = same_found (Refuses why) stops.0 specified found is

  no_fault_so : (result : Result Outcome Refusal) → SavesOutcome ops_source file result → WhereSpecified basis (λ found. DiskCountsNoFault (room_needed found) file)
  no_fault_so (Ok outcome) did specified found is =
      subst (λ f. DiskCountsNoFault (room_needed f) file) (sym (same_found (Does outcome) (done_found outcome did.0) specified found is)) did.0.counts_no_fault
  no_fault_so (Err why) stops specified found is =
      elim (stopped why stops) [ inl failed ↦ failed_no_fault failed specified found is | inr keeps ↦ λ has. keeps.counts_no_fault (needed_room found file.old has) ]

  module _ (notes : Change OutView) (end : Status) where
    abbrev Noted : Result Outcome Refusal → Type 0
    Noted result = let act = saving ops_source file in NotesResult act.line act.status result notes end

    -- no crash tears the file
    stopped_crash : (IsFinished end → ⊥) → SomeFailed ⊎ KeepsFile file → NeverTorn (GaveOutcome ops_source file.old end) file end
    stopped_crash not_done (inl (inl load)) = stopped_never_torn (GaveOutcome ops_source file.old end) file end (inl (not_done, refl)) not_done load.keeps
    stopped_crash not_done (inl (inr (inl giving))) = stopped_never_torn (GaveOutcome ops_source file.old end) file end (inl (not_done, refl)) not_done giving.keeps
    stopped_crash not_done (inl (inr (inr save))) =
        failed_never_torn (GaveOutcome ops_source file.old end) file end save.outcome.saved
        (inr (save.replica, save.end, save.holds, save.outcome, save.gives, refl)) not_done save.moments
    stopped_crash not_done (inr keeps) = stopped_never_torn (GaveOutcome ops_source file.old end) file end (inl (not_done, refl)) not_done keeps

    crash_so : (result : Result Outcome Refusal) → SavesOutcome ops_source file result → Noted result → NeverTorn (GaveOutcome ops_source file.old end) file end
    crash_so (Ok outcome) (done, finished) noted =
        saved_never_torn (GaveOutcome ops_source file.old end) file end outcome.saved (inr (done.replica, done.end, done.holds, outcome, done.gives, refl)) done.saves
    crash_so (Err why) stops noted = stopped_crash (λ done. refusal_unfinished why (subst IsFinished noted.1 done)) (stopped why stops)

    refused_so : (result : Result Outcome Refusal) → SavesOutcome ops_source file result → Noted result → FileIsRefused file end
    refused_so (Ok outcome) (done, finished) noted specified why cause = absurd (holds_or_refuses file.old specified (done.replica, done.end) why done.holds cause)
    refused_so (Err refusal.Outside) failed noted specified why cause = inr (inr (noted.1, refused_faulted failed specified why cause))
    refused_so (Err refusal.NoMemory) keeps noted specified why cause = inr (inl noted.1)
    refused_so (Err refusal.Words) none noted specified why cause = absurd none
    refused_so (Err other) stops noted specified why cause = inl (noted.1 ∙ ap status_of (same_refusal specified other why stops.0 cause))

    pub saves_given : Performs (saving ops_source file) notes end → DiskBlameless file end → SavesGiven ops_source file notes end
    saves_given performs blameless = record {
      performs = performs;
      crash = crash_so performs.result performs.did performs.reported.noted;
      counts_no_fault = no_fault_so performs.result performs.did;
      never_outside = inside_by (saving ops_source file) notes end performs basis answers (λ outcome did. did.1);
      decided = decided_by (saving ops_source file) notes end performs basis answers;
      refused = refused_so performs.result performs.did performs.reported.noted;
      blameless = blameless;
    }
