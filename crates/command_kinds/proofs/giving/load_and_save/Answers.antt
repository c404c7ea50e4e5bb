use Rattle.std.proofs.Common.{◌≡◌, ap, ◌∙◌}
use Rattle.std.specs.Prelude.{Err}
use Rattle.std.proofs.lemmas.Result.{err_from_is_err_and}
use Rattle.replica_file.specs.declared.load_file.LoadFault.TheVariants.{DiskFault}
use Rattle.replica_file.proofs.LoadLemmas.{loaded_synced, tells_settled}
use Rattle.command_kinds.specs.Refusal.{load_refusal}
use Rattle.command_kinds.specs.Findings.{Refuses}
use Rattle.command_kinds.specs.Changes.{change}
use Rattle.command_kinds.specs.declared.refusal.Refusal.TheVariants.{NoMemory}
use Rattle.command_kinds.proofs.FoundLemmas.{holds_or_refuses}
use Rattle.command_kinds.proofs.GivingLemmas.{load_stops}
use Rattle.command_kinds.proofs.SavingLemmas.{noted_comes}
use Rattle.command_kinds.proofs.giving.load_and_save.Goals as goal

pub returns-clause-saves : goal.returns-clause-saves
returns-clause-saves g c =
    let given = c.give_and_save-saved.ensures.given _ c.in_ok-replica.ensures.cause in
    (given.0, noted_comes _ _ (g.H.Disk.seen c.load.new.disk) _ _ _ c.in_ok-replica.ensures _ given.1)

pub returns-in_err-replica-clause-saves : goal.returns-in_err-replica-clause-saves
returns-in_err-replica-clause-saves g c =
    let p = err_from_is_err_and c.from_residual.result c.from_residual.ensures.1 in
    rw (p.1, p.2) (
      Refuses NoMemory,
      load_stops (g.T.Gives.ops_source c.args.ops_source.now (g.H.Disk.seen c.args.home.now) c.args.from.now c.args.from.now (Refuses NoMemory))
          (change (g.H.Disk.seen c.args.home.now) (g.H.Disk.seen c.load.new.disk))
          c.in_err-replica.field-0.0 c.in_err-replica.ensures,
    )

pub returns-clause-unused : goal.returns-clause-unused
returns-clause-unused g c specified why refuses = absurd (holds_or_refuses (g.H.Disk.seen c.args.home.now) specified (_, _) why c.in_ok-replica.ensures.cause refuses)

pub returns-clause-specified : goal.returns-clause-specified
returns-clause-specified g c tells inside =
    c.give_and_save-saved.ensures.specified (tells_settled _ _ (loaded_synced _ _ _ _ c.in_ok-replica.ensures).0 tells) inside
    ∙ c.in_ok-replica.ensures.faults.specified_no_fault tells (λ is. cc is)

pub returns-in_err-replica-clause-specified : goal.returns-in_err-replica-clause-specified
returns-in_err-replica-clause-specified g c tells inside =
    let p = err_from_is_err_and c.from_residual.result c.from_residual.ensures.1 in
    c.in_err-replica.ensures.faults.specified_no_fault tells (λ is. let failed : c.in_err-replica.field-0.0 ≡ DiskFault = cc is in
    inside (p.1 ∙ ap Err (p.2 ∙ ap load_refusal failed)))
