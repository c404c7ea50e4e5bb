use Rattle.std.proofs.Common.{◌≡◌}
use Rattle.std.proofs.lemmas.Result.{err_from_is_err_and}
use Rattle.command_kinds.specs.Changes.{change}
use Rattle.command_kinds.specs.Findings.{Refuses}
use Rattle.command_kinds.specs.declared.refusal.Refusal.TheVariants.{NoMemory, Outside}
use Rattle.command_kinds.proofs.BlameLemmas.{ends_outside, input_read}
use Rattle.command_kinds.proofs.GivingLemmas.{unfinished}
use Rattle.command_kinds.proofs.TakeLemmas.{stream_gives, stream_gives_none}
use Rattle.command_kinds.proofs.take.StreamGives.give.Goals as goal

pub returns-in_err-tally-clause-gives : goal.returns-in_err-tally-clause-gives
returns-in_err-tally-clause-gives g c home last holds =
    let p = err_from_is_err_and c.from_residual.result c.from_residual.ensures.1 in
    rw (p.1, p.2) (
      Refuses NoMemory,
      stream_gives_none
          (change (g.S.Source.seen c.args.from.now) (g.S.Source.seen c.take_in.new.source)) c.args.replica.now c.take_in.new.replica c.take_in.new.kept c.in_err-tally.field-0.0
          c.in_err-tally.ensures.err c.in_err-tally.ensures.count,
    )

pub returns-in_err-tally-clause-leaves : goal.returns-in_err-tally-clause-leaves
returns-in_err-tally-clause-leaves g c home last holds end may =
    let p = err_from_is_err_and c.from_residual.result c.from_residual.ensures.1 in
    input_read (change (g.S.Source.seen c.args.from.now) (g.S.Source.seen c.take_in.new.source)) end _ c.in_err-tally.ensures.count
    (λ done. absurd (unfinished _ _ end p.1 may done))
    (λ failed. let outside : c.in_err-tally.field-0.0 ≡ Outside = cc failed in ends_outside _ _ _ end p.1 p.2 may outside)

pub returns-clause-gives : goal.returns-clause-gives
returns-clause-gives g c home last holds = (
  Refuses NoMemory,
  stream_gives (change (g.S.Source.seen c.args.from.now) (g.S.Source.seen c.take_in.new.source)) _ _ _ _ _ c.requires.none_kept c.in_ok-tally.ensures.ok _
      c.requires.ready.settled c.of.ensures,
)

pub returns-clause-leaves : goal.returns-clause-leaves
returns-clause-leaves g c home last holds end may =
    input_read (change (g.S.Source.seen c.args.from.now) (g.S.Source.seen c.take_in.new.source)) end _ c.in_ok-tally.ensures.count (λ done. c.in_ok-tally.ensures.ok.read)
    (λ failed. cc failed)
