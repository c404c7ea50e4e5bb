use Rattle.std.proofs.Common.{◌≡◌, ap}
use Rattle.std.proofs.lemmas.Result.{err_from_is_err_and}
use Rattle.replica_file.specs.declared.load_file.LoadFault.TheVariants.{DiskFault}
use Rattle.command_kinds.specs.Findings.{Refuses}
use Rattle.command_kinds.specs.Changes.{change}
use Rattle.command_kinds.specs.Refusal.{load_refusal}
use Rattle.command_kinds.specs.declared.refusal.Refusal.TheVariants.{NoMemory}
use Rattle.command_kinds.proofs.BlameLemmas.{ends_outside}
use Rattle.command_kinds.proofs.LoadedLemmas.{keeps_file}
use Rattle.command_kinds.proofs.MergeLemmas.{file_gives_none, holder_gives}
use Rattle.command_kinds.proofs.merge.OtherFileGives.give.Goals as goal

pub returns-clause-gives : goal.returns-clause-gives
returns-clause-gives g c home last holds =
    (Refuses NoMemory, holder_gives (change (g.G.Disk.seen c.args.from.now) (g.G.Disk.seen c.load.new.disk)) _ _ _ c.in_ok-other.ensures.cause _ _ _ c.give_all-given.ensures.gives)

pub returns-clause-leaves : goal.returns-clause-leaves
returns-clause-leaves g c home last holds end may = record {
  keeps = keeps_file (change (g.G.Disk.seen c.args.from.now) (g.G.Disk.seen c.load.new.disk)) _ c.in_ok-other.ensures;
  blameless = λ tells inside. c.in_ok-other.ensures.faults.specified_no_fault tells (λ is. cc is);
}

pub returns-in_err-other-clause-gives : goal.returns-in_err-other-clause-gives
returns-in_err-other-clause-gives g c home last holds =
    let p = err_from_is_err_and c.from_residual.result c.from_residual.ensures.1 in
    rw (p.1, p.2) (
      Refuses NoMemory,
      file_gives_none (change (g.G.Disk.seen c.args.from.now) (g.G.Disk.seen c.load.new.disk)) c.args.replica.now c.args.replica.now c.args.kept.now c.in_err-other.field-0.0
          c.in_err-other.ensures,
    )

pub returns-in_err-other-clause-leaves : goal.returns-in_err-other-clause-leaves
returns-in_err-other-clause-leaves g c home last holds end may =
    let p = err_from_is_err_and c.from_residual.result c.from_residual.ensures.1 in
    let meets = c.in_err-other.ensures in
    record {
      keeps = keeps_file (change (g.G.Disk.seen c.args.from.now) (g.G.Disk.seen c.load.new.disk)) _ meets;
      blameless = λ tells inside. meets.faults.specified_no_fault tells
          (λ is. let blamed : c.in_err-other.field-0.0 ≡ DiskFault = cc is in inside (ends_outside _ _ _ end p.1 p.2 may (ap load_refusal blamed)));
    }
