-- What a command does that reports, by how the file was loaded and the text written.
use Rattle.std.proofs.Common.{◌≡◌, ◌≢◌, ℕ, List, length, refl, ap, sym, subst, inl, inr}
use Rattle.std.specs.Prelude.{Ok, Err, Result}
use Rattle.fugue_ids.specs.Outs.{OutView, Took}
use Rattle.origin_model.specs.operations.Verdict.{Lawful}
use Rattle.outer_ports.specs.disk.Disks.{DiskView}
use Rattle.outer_ports.specs.disk.Moments.{past_after_step}
use Rattle.outer_ports.specs.disk.States.{durable}
use Rattle.origin_model.specs.edits.State.{State as Replica}
use Rattle.replica_file.proofs.LoadLemmas.{loaded_synced}
use Rattle.replica_file.specs.declared.load_file.End.{End}
use Rattle.replica_file.specs.declared.load_file.LoadFault.{LoadFault}
use Rattle.replica_file.specs.declared.load_file.LoadFault.TheVariants as load_fault
use Rattle.command_kinds.proofs.CrashLemmas.{kept_never_torn}
use Rattle.command_kinds.proofs.FoundLemmas.{finds_once, loaded_lawful}
use Rattle.command_kinds.proofs.LoadedLemmas.{HasLoaded, HasNotLoaded, keeps_file, load_failed}
use Rattle.command_kinds.specs.Report.{Reports, ReportText, TextFound, bytes_found, ReportComes, WroteHeld, report_basis, reporting}
use Rattle.command_kinds.specs.Files.{HolderFinds, KeepsFile}
use Rattle.command_kinds.specs.Findings.{Basis, Finding, Refuses, Does, WhereSpecified}
use Rattle.command_kinds.specs.Refusal.{Reported, load_refusal, refusal_line, status_of}
use Rattle.command_kinds.specs.TextOut.{HasNoText, WritesReport, ReportGoesOut, TextComes}
use Rattle.command_kinds.specs.Changes.{Change, HasRoom, IsSpecified, CountsNoFault, DiskBlameless, OutBlameless}
use Rattle.command_kinds.specs.declared.refusal.Refusal.{Refusal}
use Rattle.command_kinds.specs.declared.refusal.Refusal.TheVariants as refusal
use Rattle.command_kinds.specs.declared.status.Status.{Status}
use Rattle.command_kinds.specs.declared.status.Status.TheVariants as status
use Rattle.command_kinds.specs.Acts.{Performs, ReportsResult, all_done, no_line}
use Rattle.command_kinds.specs.Printing.{WroteFront}
use Rattle.command_kinds.proofs.ActLemmas.{Answers, decided_by, did_all, first_fails, goes_blameless, inside_by, inside_result, reported_performs}

-- of a lawful history one thing is reported
abbrev pub ReportsOnce : ReportText → Type 0
ReportsOnce tells = (replica : Replica) → Lawful replica.held.history → (a b : Finding (List ℕ)) → tells replica a → tells replica b → a ≡ b

text_once : (tells : ReportText) → ReportsOnce tells → (file : DiskView) → IsSpecified file → (a b : Finding (List ℕ)) → TextFound tells file a → TextFound tells file b → a ≡ b
text_once tells once file specified = finds_once (λ replica at. tells replica) file specified (λ replica at holds. once replica (loaded_lawful file specified replica at holds))

-- what follows from what came of a report
module _ (tells : ReportText) (once : ReportsOnce tells) (file : Change DiskView) (output notes : Change OutView) (end : Status)
    (performs : Performs (reporting tells file output) notes end) (keeps : KeepsFile file) where
  abbrev basis : Basis (List ℕ)
  basis = report_basis tells file output

  answers : (result : Result (List ℕ) Refusal) → ReportComes tells file output result → WhereSpecified basis (λ found. Answers basis found result)
  answers (Ok bytes) did specified found is = text_once tells once file.old specified found (Does bytes) is did.found
  answers (Err refusal.Outside) (inl load) specified found is = (first_fails _ _ found load.0.faulted, λ sure. load.0.no_room sure.0)
  answers (Err refusal.Outside) (inr (bytes, wrote)) specified found is =
      let same = text_once tells once file.old specified (Does bytes) found wrote.found is in
      (subst basis.Failed same (inr wrote.came.faulted), λ sure. wrote.came.no_room (subst (λ f. HasRoom (length (bytes_found f)) output.old) (sym same) sure.1))
  answers (Err refusal.NoMemory) did specified found is = tt
  answers (Err refusal.Words) did specified found is = absurd did
  answers (Err why) did specified found is = text_once tells once file.old specified found (Refuses why) is did.0.found

  reports : WhereSpecified basis (λ found. CountsNoFault (length (bytes_found found)) output.old output.new) → DiskBlameless file end → OutBlameless output end
      → Reports tells file output notes end
  reports output_no_fault file_blameless output_blameless = record {
    performs = performs;
    keeps = keeps;
    crash = kept_never_torn file end keeps (λ done. (did_all (reporting tells file output) notes end performs done).1.synced);
    file_no_fault = keeps.counts_no_fault;
    output_no_fault = output_no_fault;
    never_outside = inside_by (reporting tells file output) notes end performs basis answers (λ bytes did. inl refl);
    decided = decided_by (reporting tells file output) notes end performs basis answers;
    file_blameless = file_blameless;
    output_blameless = output_blameless;
  }

-- the file was loaded, and what is reported of its replica was written, or nothing
module _ (tells : ReportText) (once : ReportsOnce tells) (file : Change DiskView) (replica : Replica) (at : End) (output : Change OutView)
    (loaded : HasLoaded file replica at) where
  keeps : KeepsFile file
  keeps = keeps_file file (Ok (replica, at)) loaded

  synced : file.new.past ≡ past_after_step durable file.old.past
  synced = (loaded_synced _ file.old file.new (replica, at) loaded).0

  held : (reported : Finding (List ℕ)) → tells replica reported → HolderFinds (λ replica at. tells replica) file.old reported
  held reported is = (replica, at, loaded.cause, is)

  wrote : (bytes : List ℕ) → tells replica (Does bytes) → (Wrote : Type 0) → Wrote → WroteHeld tells file bytes Wrote
  wrote bytes is Wrote came = record { found = held (Does bytes) is; synced = synced; came = came }

  none_comes : (why : Refusal) → HasNoText (tells replica) why → output.new ≡ output.old → ReportComes tells file output (Err why)
  none_comes refusal.NoMemory none same = same
  none_comes refusal.Outside none same = cc none.0
  none_comes refusal.Words none same = cc none.0
  none_comes why none same = (record { found = inr (held (Refuses why) none.1); synced = inr synced }, same)

  -- what came of the text of a file that was loaded came of the report
  text_comes : (bytes : List ℕ) → tells replica (Does bytes) → (why : Refusal) → TextComes bytes output (Err why) → ReportComes tells file output (Err why)
  text_comes bytes is refusal.Outside came = inr (bytes, wrote bytes is (WroteFront bytes output) came)
  text_comes bytes is refusal.NoMemory came = came
  text_comes bytes is _ came = absurd came

  stops : (why : Refusal) → ReportGoesOut (tells replica) output (Err why) → ReportComes tells file output (Err why)
  stops why (inl out) = text_comes out.0 out.1 why out.2.comes
  stops why (inr none) =
      let same : why ≡ none.0 = cc none.1 in subst (λ w. ReportComes tells file output (Err w)) (sym same) (none_comes none.0 none.2 none.3)

  performs_so : (notes : Change OutView) (end : Status) (result : Result (Unit {0}) Refusal) → ReportGoesOut (tells replica) output result
      → ReportsResult no_line all_done result notes end → Performs (reporting tells file output) notes end
  performs_so notes end (Ok done) (inl out) reported = record {
    result = Ok out.0;
    did = wrote out.0 out.1 (Took output.old output.new out.0) out.2.comes;
    reported = record { noted = reported.noted; counts_no_fault = reported.counts_no_fault; blameless = reported.blameless };
  }
  performs_so notes end (Ok done) (inr none) reported = cc none.1
  performs_so notes end (Err why) did reported =
      record { result = Err why; did = stops why did; reported = record { noted = reported.noted; counts_no_fault = reported.counts_no_fault; blameless = reported.blameless } }

  output_no_fault : (result : Result (Unit {0}) Refusal) → ReportGoesOut (tells replica) output result → IsSpecified file.old → (found : Finding (List ℕ))
      → TextFound tells file.old found → CountsNoFault (length (bytes_found found)) output.old output.new
  output_no_fault result (inl out) specified found is has =
      let same = text_once tells once file.old specified (Does out.0) found (held (Does out.0) out.1) is in
      out.2.counts_no_fault (subst (λ f. HasRoom (length (bytes_found f)) output.old) (sym same) has)
  output_no_fault result (inr none) specified found is has = ap (λ (o : OutView). o.faults) none.3

  output_reported : (result : Result (Unit {0}) Refusal) (end : Status) → ReportGoesOut (tells replica) output result
      → (end ≢ status.OutsideFault → result ≢ Err refusal.Outside) → OutBlameless output end
  output_reported result end (inl out) met = goes_blameless out.0 output result end out.2 met
  output_reported result end (inr none) met = λ tells not. ap (λ (o : OutView). o.faults) none.3

  pub report_written : (notes : Change OutView) (end : Status) → WritesReport (tells replica) output notes end → Reports tells file output notes end
  report_written notes end written =
      reports tells once file output notes end (performs_so notes end written.result written.did written.reported) keeps (output_no_fault written.result written.did)
      (λ disk not. loaded.faults.specified_no_fault disk (λ is. cc is))
      (output_reported written.result end written.did (inside_result no_line all_done written.result notes end written.reported.noted))

-- the file was not loaded: nothing was written, and why was reported
module _ (tells : ReportText) (once : ReportsOnce tells) (file : Change DiskView) (output notes : Change OutView) (same : output.new ≡ output.old) where
  not_loaded : (fault : LoadFault) → HasNotLoaded file fault → ReportComes tells file output (Err (load_refusal fault))
  not_loaded load_fault.DiskFault meets = inl (load_failed file meets, same)
  not_loaded load_fault.NoMemory meets = same
  not_loaded load_fault.NotReplica meets = (record { found = inl meets.cause; synced = inl meets.cause }, same)
  not_loaded (load_fault.BadBatch slot) meets = (record { found = inl meets.cause; synced = inl meets.cause }, same)
  not_loaded (load_fault.TooMany count) meets = (record { found = inl meets.cause; synced = inl meets.cause }, same)

  pub load_refused : (fault : LoadFault) → HasNotLoaded file fault → Reported notes.old notes.new (refusal_line (load_refusal fault))
      → Reports tells file output notes (status_of (load_refusal fault))
  load_refused fault meets reported =
      let why = load_refusal fault in
      reports tells once file output notes (status_of why) (reported_performs (reporting tells file output) notes why (not_loaded fault meets) reported) (keeps_file file _ meets)
      (λ is other found has. ap (λ (o : OutView). o.faults) same) (λ disk inside. meets.faults.specified_no_fault disk
      (λ is. let failed : fault ≡ load_fault.DiskFault = cc is in inside (ap (λ f. status_of (load_refusal f)) failed)))
      (λ is not. ap (λ (o : OutView). o.faults) same)
