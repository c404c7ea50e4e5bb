-- From what a load and what was given come to, to what a command that saves comes to.
use Rattle.std.proofs.Common.{◌≡◌, inl, inr, ap, refl, sym, subst, arith, ◌∙◌}
use Rattle.std.specs.Prelude.{◌⊎◌, Result, Ok, Err}
use Rattle.std.proofs.lemmas.Option.{IfSome_then}
use Rattle.outer_ports.specs.disk.Disks.{DiskView, room_after_write}
use Rattle.outer_ports.specs.disk.Moments.{past_after_step}
use Rattle.outer_ports.specs.disk.States.{durable}
use Rattle.origin_model.specs.edits.State.{State as Replica}
use Rattle.replica_file.proofs.HonestLemmas.{settled_honest}
use Rattle.replica_file.proofs.LoadLemmas.{loaded_synced}
use Rattle.replica_file.specs.Append.{AppendMeets, after_gate}
use Rattle.replica_file.specs.declared.appending.AppendFault.TheVariants as append_fault
use Rattle.replica_file.specs.Gates.{gate_opened}
use Rattle.replica_file.specs.declared.load_file.End.{End}
use Rattle.command_kinds.specs.Files.{FileRefuses, KeepsFile}
use Rattle.command_kinds.specs.Findings.{Refuses, Does}
use Rattle.command_kinds.specs.Giving.{GivenNoted, SavesNoted}
use Rattle.command_kinds.specs.Saving.{GivenTo, OpsSource, IsDone, Outcome, SaveFailed, SavingFound, StopsSaving, Suffices}
use Rattle.command_kinds.specs.Changes.{change}
use Rattle.command_kinds.specs.declared.counts.Note.{Note}
use Rattle.command_kinds.specs.declared.refusal.Refusal.{Refusal}
use Rattle.command_kinds.specs.declared.refusal.Refusal.TheVariants as refusal
use Rattle.command_kinds.proofs.LoadedLemmas.{HasLoaded, keeps_file}
use Rattle.command_kinds.proofs.SavedLemmas.{no_fault_so, gains_so, later_so, saved_so, with_room}

module _ (ops_source : OpsSource) (a b c : DiskView) (replica : Replica) (end : End) (loaded : HasLoaded (change a b) replica end) where
  keeps : KeepsFile (change a b)
  keeps = keeps_file (change a b) (Ok (replica, end)) loaded

  synced : b.past ≡ past_after_step durable a.past
  synced = (loaded_synced _ a b (replica, end) loaded).0

  room : b.room ≡ room_after_write 0 a.room
  room = (loaded_synced _ a b (replica, end) loaded).1

  same_past : c ≡ b → c.past ≡ b.past
  same_past same = ap (λ (d : DiskView). d.past) same

  done_so : (outcome : Outcome) → ops_source.Gives replica (Does outcome) → Suffices replica outcome → (last : End) → AppendMeets end outcome.saved b c (Ok last)
      → IsDone ops_source (change a c) outcome
  done_so outcome gives suffices last saves = record {
    replica = replica;
    end = end;
    holds = loaded.cause;
    gives = gives;
    fits = λ long. let not = (saves.too_long (λ is. cc is)).1 long in cc not;
    saves = saved_so replica end outcome.saved a.past b.past c.past loaded.cause synced keeps.moments saves.moments (λ is. same_past (saves.none is).1)
        (λ some. (saves.appended some).has);
    later = later_so replica end outcome a.past b.past c.past loaded.cause suffices synced (λ is. same_past (saves.none is).1) (λ some. (saves.appended some).calls)
        (λ some. (saves.appended some).has);
    none = λ is. same_past (saves.none is).1 ∙ synced;
    batch = λ some. (saves.appended some).calls ∙ ap (gate_opened end.at (after_gate outcome.saved)) synced;
    counts_no_fault = no_fault_so outcome.saved a b c keeps.counts_no_fault room (λ is. (saves.none is).1) saves.faults.counts_no_fault;
  }

  failed_so : (outcome : Outcome) → ops_source.Gives replica (Does outcome) → AppendMeets end outcome.saved b c (Err append_fault.DiskFault) → SaveFailed ops_source (change a c)
  failed_so outcome gives fails = record {
    replica = replica;
    end = end;
    holds = loaded.cause;
    outcome = outcome;
    gives = gives;
    fits = λ long. let not = (fails.too_long (λ is. cc is)).1 long in cc not;
    moments = gains_so replica end outcome.saved a.past b.past c.past loaded.cause synced keeps.moments fails.moments (fails.honest (settled_honest a.past b.past synced));
    faulted = omega (arith, fails.faults.faulted refl, loaded.faults.later);
    no_room = λ has. with_room ⊥ outcome.saved a b (λ is. let not = (fails.none is).0 in cc not) room has
        (IfSome_then b.room fails.faults.sure (λ left sure lasts. sure lasts refl));
  }

  still_kept : c ≡ b → KeepsFile (change a c)
  still_kept same = subst (λ (d : DiskView). KeepsFile (change a d)) (sym same) keeps

  refused_so : (why : Refusal) → GivenTo ops_source replica end (Refuses why) × (c ≡ b)
      → SavingFound ops_source a (Refuses why) × KeepsFile (change a c) × (FileRefuses a why ⊎ (c.past ≡ past_after_step durable a.past))
  refused_so why given = (inr (replica, end, loaded.cause, given.0), still_kept given.1, inr (same_past given.1 ∙ synced))

  stops_so : (why : Refusal) → GivenNoted ops_source replica end (change b c) (Err why) → StopsSaving ops_source (change a c) why
  stops_so refusal.Outside (inl none) = inr (inl (record {
    replica = replica;
    end = end;
    holds = loaded.cause;
    synced = same_past none.2 ∙ synced;
    failed = none.0;
    not_sure = none.1;
    keeps = still_kept none.2;
  }))
  stops_so refusal.Outside (inr fails) = inr (inr (failed_so fails.0 fails.1 fails.2))
  stops_so refusal.NoMemory same = still_kept same
  stops_so refusal.Words given = given
  stops_so why given = refused_so why given

  -- what was given to a loaded file was saved, or why not
  pub noted_comes : (result : Result Note Refusal) → GivenNoted ops_source replica end (change b c) result → SavesNoted ops_source (change a c) result
  noted_comes (Ok note) given = (given.0, given.1, done_so given.0 given.2 given.3 given.4.0 given.4.1)
  noted_comes (Err why) given = stops_so why given
