use Rattle.std.proofs.Common.{ap, inr}
use Rattle.std.specs.Prelude.{Err, None}
use Rattle.std.proofs.lemmas.Result.{err_from_is_err_and}
use Rattle.replica_core.specs.Keeping.{taking_begun}
use Rattle.command_kinds.specs.Changes.{change}
use Rattle.command_kinds.specs.Findings.{Refuses}
use Rattle.command_kinds.specs.Refusal.{sync_refusal}
use Rattle.command_kinds.specs.declared.refusal.Refusal.TheVariants.{NoMemory}
use Rattle.command_kinds.proofs.BlameLemmas.{ends_outside}
use Rattle.command_kinds.proofs.GivingLemmas.{unfinished}
use Rattle.command_kinds.proofs.SyncLemmas.{reply_gives, reply_gives_none, reply_ops, speaks_front, speaks_whole}
use Rattle.command_kinds.proofs.sync_file.ReplyGives.give.Goals as goal

pub returns-in_err-answered-clause-gives : goal.returns-in_err-answered-clause-gives
returns-in_err-answered-clause-gives g c home last holds =
    let p = err_from_is_err_and c.from_residual.result c.from_residual.ensures.1 in
    let e = c.in_err-answered.ensures in
    rw (p.1, p.2) (
      Refuses NoMemory,
      reply_gives_none c.in_err-answered.field-0.0 c.args.self.now.port c.args.self.now.cursor c.args.replica.now c.args.replica.now _ _ _ last home
          (change (g.W.Wire.seen c.args.from.now) (g.W.Wire.seen c.sync.new.wire)) None holds e.err.1 e.up_to.1 (λ is. e.wire.faulted (ap Err is))
          (λ fits is. e.wire.sure fits (ap Err is)),
    )

pub returns-in_err-answered-clause-leaves : goal.returns-in_err-answered-clause-leaves
returns-in_err-answered-clause-leaves g c home last holds end may =
    let p = err_from_is_err_and c.from_residual.result c.from_residual.ensures.1 in
    let e = c.in_err-answered.ensures in
    record {
      speaks = inr (
        _,
        last,
        holds,
        speaks_front c.args.self.now.port c.args.self.now.cursor (g.W.Wire.seen c.args.from.now) (g.W.Wire.seen c.sync.new.wire)
            (taking_begun c.args.replica.now c.new-ops.result.items) _ _ e.wire.counts_no_fault
            c.in_err-answered.field-0.0 e.err.1 (unfinished _ _ end p.1 may),
      );
      blameless = λ tells inside. e.reported.specified_no_fault tells (λ blamed. inside (ends_outside _ _ _ end p.1 p.2 may (ap sync_refusal blamed)));
    }

pub returns-clause-gives : goal.returns-clause-gives
returns-clause-gives g c home last holds =
    let e = c.in_ok-answered.ensures in
    let ops = reply_ops _ (taking_begun c.args.replica.now c.new-ops.result.items) _ _ _ e.ok.hears.takes e.reply in
    rw c.put.ensures (
      Refuses NoMemory,
      reply_gives c.args.self.now.cursor home (change (g.W.Wire.seen c.args.from.now) (g.W.Wire.seen c.sync.new.wire)) c.args.replica.now _ _ _ _ c.new-ops.ensures.items
          c.in_ok-answered.answered.cursor ops.0 ops.1 ops.2 c.of_exchange.result c.requires.ready.settled c.of_exchange.ensures,
    )

pub returns-clause-leaves : goal.returns-clause-leaves
returns-clause-leaves g c home last holds end may =
    let e = c.in_ok-answered.ensures in
    record {
      speaks = inr (
        _,
        last,
        holds,
        speaks_whole c.args.self.now.port c.args.self.now.cursor (g.W.Wire.seen c.args.from.now) (g.W.Wire.seen c.sync.new.wire)
            (taking_begun c.args.replica.now c.new-ops.result.items) _ _ e.wire.counts_no_fault _ e.ok,
      );
      blameless = λ tells inside. e.reported.specified_no_fault tells (λ never. never);
    }
