use Rattle.std.proofs.Common.{◌≡◌, ap}
use Rattle.std.specs.Prelude.{None}
use Rattle.std.proofs.lemmas.Result.{err_from_is_err_and}
use Rattle.command_kinds.specs.Changes.{change}
use Rattle.edit_script.specs.declared.run.ScriptFault.TheVariants.{ReadFault}
use Rattle.command_kinds.specs.Findings.{Refuses}
use Rattle.command_kinds.specs.Refusal.{script_refusal}
use Rattle.command_kinds.specs.declared.refusal.Refusal.TheVariants.{NoMemory}
use Rattle.command_kinds.proofs.BlameLemmas.{ends_outside, input_read}
use Rattle.command_kinds.proofs.GivingLemmas.{unfinished}
use Rattle.command_kinds.proofs.EditLemmas.{script_gives, script_gives_none}
use Rattle.command_kinds.proofs.edit.ScriptGives.give.Goals as goal

pub returns-in_err-made-clause-gives : goal.returns-in_err-made-clause-gives
returns-in_err-made-clause-gives g c home last holds =
    let p = err_from_is_err_and c.from_residual.result c.from_residual.ensures.1 in
    rw (p.1, p.2) (
      Refuses NoMemory,
      script_gives_none
          (change (g.S.Source.seen c.args.from.now) (g.S.Source.seen c.run_script.new.source)) _ _ None _ c.in_err-made.ensures.err c.in_err-made.ensures.count,
    )

pub returns-in_err-made-clause-leaves : goal.returns-in_err-made-clause-leaves
returns-in_err-made-clause-leaves g c home last holds end may =
    let p = err_from_is_err_and c.from_residual.result c.from_residual.ensures.1 in
    input_read (change (g.S.Source.seen c.args.from.now) (g.S.Source.seen c.run_script.new.source)) end _ c.in_err-made.ensures.count
    (λ done. absurd (unfinished _ _ end p.1 may done))
    (λ failed. let same : c.in_err-made.field-0.0 ≡ ReadFault = cc failed in ends_outside _ _ _ end p.1 p.2 may (ap script_refusal same))

pub returns-clause-gives : goal.returns-clause-gives
returns-clause-gives g c home last holds = (
  Refuses NoMemory,
  script_gives (change (g.S.Source.seen c.args.from.now) (g.S.Source.seen c.run_script.new.source)) _ _ _ c.in_ok-made.ensures.ok c.requires.ready.sound
      c.requires.ready.settled _,
)

pub returns-clause-leaves : goal.returns-clause-leaves
returns-clause-leaves g c home last holds end may =
    input_read (change (g.S.Source.seen c.args.from.now) (g.S.Source.seen c.run_script.new.source)) end _ c.in_ok-made.ensures.count (λ done. c.in_ok-made.ensures.ok.1.ended)
    (λ failed. cc failed)
