use Rattle.std.proofs.Common.{refl, subst}
use Rattle.std.specs.Prelude.{Err, Ok}
use Rattle.std.proofs.lemmas.Result.{err_from_is_err_and}
use Rattle.origin_model.specs.edits.State.{State as Replica}
use Rattle.command_kinds.specs.Changes.{change}
use Rattle.command_kinds.specs.Findings.{Refuses}
use Rattle.command_kinds.specs.Giving.{GivesTo}
use Rattle.command_kinds.specs.declared.refusal.Refusal.TheVariants.{NoMemory}
use Rattle.manuscript_cli.specs.Revising.{revision}
use Rattle.manuscript_cli.specs.RevisingSince.{noted_revision}
use Rattle.manuscript_cli.proofs.RevisingSinceLemmas.{brought_gives, may_bring, moment_gives, moment_may}
use Rattle.manuscript_cli.proofs.revise_since.RevisionSinceGivesDraftSources.give.Goals as goal

pub returns-in_err-past-clause-gives : goal.returns-in_err-past-clause-gives
returns-in_err-past-clause-gives g c home last holds =
    let p = err_from_is_err_and c.from_residual.result c.from_residual.ensures.1 in
    let base = g.G.Disk.seen c.args.from.now.base.now in
    let draft = g.S.Source.seen c.args.from.now.draft.now in
    rw (p.1, p.2) (
      Refuses NoMemory,
      moment_gives c.args.self.now.count (change base base) (change draft draft) c.args.replica.now
          (Refuses NoMemory) c.args.replica.now c.args._kept.now c.in_err-past.field-0.0 c.in_err-past.ensures.err,
    )

pub returns-in_err-revised-clause-gives : goal.returns-in_err-revised-clause-gives
returns-in_err-revised-clause-gives g c home last holds =
    let p = err_from_is_err_and c.from_residual-in_err-revised.result c.from_residual-in_err-revised.ensures.1 in
    let base = change (g.G.Disk.seen c.args.from.now.base.now) (g.G.Disk.seen c.revise_by-given.new.base) in
    let draft = change (g.S.Source.seen c.args.from.now.draft.now) (g.S.Source.seen c.revise_by-given.new.draft) in
    let gave = c.revise_by-given.ensures.gives c.args._kept.now in
    let on_front = subst (λ (s : Replica). GivesTo (revision base draft gave.0) s c.revise_by-given.new.replica c.args._kept.now (noted_revision c.revise_by-given.result))
    c.in_ok-past.ensures.past gave.1 in
    rw (p.1, p.2) (
      gave.0,
      brought_gives c.args.self.now.count base draft c.args.replica.now gave.0 c.in_ok-past.ensures.may c.requires.ready c.revise_by-given.new.replica c.bring.new.replica
          c.args._kept.now c.revise_by-given.result (Err c.in_err-revised.field-0.0) on_front
          c.in_err-revised.ensures.brings,
    )

pub returns-in_err-revised-clause-leaves : goal.returns-in_err-revised-clause-leaves
returns-in_err-revised-clause-leaves g c home last holds end may =
    let p = err_from_is_err_and c.from_residual-in_err-revised.result c.from_residual-in_err-revised.ensures.1 in
    let may_whole = rw (p.1, p.2) at may in
    let may_past = may_bring c.args.replica.now c.bring.new.replica c.revise_by-given.new.replica c.revise_by-given.result
    (Err c.in_err-revised.field-0.0) end c.in_err-revised.ensures.brings may_whole in
    let base = change (g.G.Disk.seen c.args.from.now.base.now) (g.G.Disk.seen c.revise_by-given.new.base) in
    let draft = change (g.S.Source.seen c.args.from.now.draft.now) (g.S.Source.seen c.revise_by-given.new.draft) in (
      refl,
      refl,
      c.revise_by-given.ensures.looks end may_past,
      c.revise_by-given.ensures.reads end may_past,
      moment_may c.args.self.now.count home c.args.replica.now last base draft holds c.in_ok-past.ensures.may,
    )

pub returns-clause-gives : goal.returns-clause-gives
returns-clause-gives g c home last holds =
    let base = change (g.G.Disk.seen c.args.from.now.base.now) (g.G.Disk.seen c.revise_by-given.new.base) in
    let draft = change (g.S.Source.seen c.args.from.now.draft.now) (g.S.Source.seen c.revise_by-given.new.draft) in
    let gave = c.revise_by-given.ensures.gives c.args._kept.now in
    let on_front = subst (λ (s : Replica). GivesTo (revision base draft gave.0) s c.revise_by-given.new.replica c.args._kept.now (noted_revision c.revise_by-given.result))
    c.in_ok-past.ensures.past gave.1 in (
      gave.0,
      brought_gives c.args.self.now.count base draft c.args.replica.now gave.0 c.in_ok-past.ensures.may c.requires.ready c.revise_by-given.new.replica c.bring.new.replica
          c.args._kept.now c.revise_by-given.result (Ok c.in_ok-revised.revised) on_front
          c.in_ok-revised.ensures.brings,
    )

pub returns-clause-leaves : goal.returns-clause-leaves
returns-clause-leaves g c home last holds end may =
    let may_past = may_bring c.args.replica.now c.bring.new.replica c.revise_by-given.new.replica c.revise_by-given.result
    (Ok c.in_ok-revised.revised) end c.in_ok-revised.ensures.brings may in
    let base = change (g.G.Disk.seen c.args.from.now.base.now) (g.G.Disk.seen c.revise_by-given.new.base) in
    let draft = change (g.S.Source.seen c.args.from.now.draft.now) (g.S.Source.seen c.revise_by-given.new.draft) in (
      refl,
      refl,
      c.revise_by-given.ensures.looks end may_past,
      c.revise_by-given.ensures.reads end may_past,
      moment_may c.args.self.now.count home c.args.replica.now last base draft holds c.in_ok-past.ensures.may,
    )
