use Rattle.std.proofs.Common.{◌≡◌, ap, length, refl, ◌∙◌}
use Rattle.std.specs.Prelude.{Err}
use Rattle.std.proofs.lemmas.Result.{err_from_is_err_and}
use Rattle.replica_file.specs.declared.appending.AppendFault.TheVariants.{DiskFault}
use Rattle.command_kinds.specs.Giving.{to_save}
use Rattle.command_kinds.specs.Refusal.{append_refusal}
use Rattle.command_kinds.specs.Changes.{change}
use Rattle.command_kinds.proofs.GivingLemmas.{given_none, given_saved, given_unsaved}
use Rattle.command_kinds.proofs.giving.give_and_save.Goals as goal

pub returns-in_err-note-clause-given : goal.returns-in_err-note-clause-given
returns-in_err-note-clause-given g c file holds =
    let given = c.in_err-note.ensures.gives file c.args.end holds in
    let p = err_from_is_err_and c.from_residual.result c.from_residual.ensures.1 in
    rw (p.1, p.2) (
      given.0,
      given_none (g.T.Gives.ops_source c.args.ops_source.now file c.args.from.now c.give.new.from given.0) c.args.replica.now c.give.new.replica c.give.new.kept c.args.end
          (change (g.H.Disk.seen c.args.home.now) (g.H.Disk.seen c.args.home.now)) c.in_err-note.field-0.0 refl given.1,
    )

pub returns-in_err-append-clause-given : goal.returns-in_err-append-clause-given
returns-in_err-append-clause-given g c file holds =
    let given = c.in_ok-note.ensures.gives file c.args.end holds in
    let p = err_from_is_err_and c.from_residual-in_err-append.result c.from_residual-in_err-append.ensures.1 in
    rw (p.1, p.2) (
      given.0,
      given_unsaved (g.T.Gives.ops_source c.args.ops_source.now file c.args.from.now c.give.new.from given.0) c.args.replica.now c.give.new.replica c.give.new.kept c.args.end
          (change (g.H.Disk.seen c.args.home.now) (g.H.Disk.seen c.append.new.disk)) c.in_ok-note.note c.to_save.result c.in_err-append.field-0.0
          (c.to_save.ensures ∙ ap (λ k. to_save c.in_ok-note.note k c.give.new.replica c.give.new.kept) (c.len-before.ensures ∙ ap length c.accepted.ensures.accepted)) given.1
          c.in_err-append.ensures,
    )

pub returns-in_err-append-clause-specified : goal.returns-in_err-append-clause-specified
returns-in_err-append-clause-specified g c tells inside =
    let p = err_from_is_err_and c.from_residual-in_err-append.result c.from_residual-in_err-append.ensures.1 in
    c.in_err-append.ensures.faults.specified_no_fault tells (λ is. let failed : c.in_err-append.field-0.0 ≡ DiskFault = cc is in
    inside (p.1 ∙ ap Err (p.2 ∙ ap append_refusal failed)))

pub returns-clause-given : goal.returns-clause-given
returns-clause-given g c file holds =
    let given = c.in_ok-note.ensures.gives file c.args.end holds in (
      given.0,
      given_saved (g.T.Gives.ops_source c.args.ops_source.now file c.args.from.now c.give.new.from given.0) c.args.replica.now c.give.new.replica c.give.new.kept c.args.end
          (change (g.H.Disk.seen c.args.home.now) (g.H.Disk.seen c.append.new.disk)) c.in_ok-note.note c.to_save.result _
          (c.to_save.ensures ∙ ap (λ k. to_save c.in_ok-note.note k c.give.new.replica c.give.new.kept) (c.len-before.ensures ∙ ap length c.accepted.ensures.accepted)) given.1
          c.in_ok-append.ensures,
    )

pub returns-clause-specified : goal.returns-clause-specified
returns-clause-specified g c tells inside = c.in_ok-append.ensures.faults.specified_no_fault tells (λ is. cc is)
