use Rattle.std.proofs.Common.{◌∙◌, ◌≡◌, ◌-◌, ◌++◌, ap, append-nil, arith, false, length, length-append, sym, take}
use Rattle.op_runs.specs.Deletions.{deletes_by}
use Rattle.op_runs.proofs.DeletionLemmas.{deletes_back, deletes_after, length-deletes}
use Rattle.op_runs.proofs.list.OpRuns.push_deletes.Goals as goal

pub pushed-init : goal.pushed-init
pushed-init c = (omega arith, sym (append-nil c.args.self.now))

pub push_some_deletes-requires-clause-room : goal.push_some_deletes-requires-clause-room
push_some_deletes-requires-clause-room c =
    omega (
      arith,
      c.pushed-test.true,
      c.requires.room,
      ap length c.pushed.invariant.1,
      length-append c.args.self.now (deletes_by false c.args.first c.pushed.done),
      length-deletes false c.args.first c.pushed.done,
    )

pub pop-requires : goal.pop-requires
pop-requires c =
    let e = c.in_default.ensures.err ∙ c.pushed.invariant.1 in
    omega (arith, ap length e, length-append c.args.self.now (deletes_by false c.args.first c.pushed.done), length-deletes false c.args.first c.pushed.done)

pub returns-in_default-clause-err : goal.returns-in_default-clause-err
returns-in_default-clause-err c =
    let e = c.in_default.ensures.err ∙ c.pushed.invariant.1 in
    c.pop.ensures ∙ (λ i. take (length (e i) - c.pushed.done) (e i)) ∙ deletes_back c.args.self.now c.args.first c.pushed.done

pub pushed-preserved : goal.pushed-preserved
pushed-preserved c = (
  omega (arith, c.in-Ok.ensures.within, c.pushed-test.true),
  c.in-Ok.ensures.ok ∙ (λ i. c.pushed.invariant.1 i ++ deletes_by false (c.nth-next.ensures i) c.in-Ok.more)
      ∙ deletes_after c.args.self.now c.args.first c.pushed.done c.in-Ok.more,
)

pub returns-clause-ok : goal.returns-clause-ok
returns-clause-ok c =
    let all : c.pushed.done ≡ c.args.count = omega (arith, c.pushed.invariant.0, c.pushed-test.false) in
    c.pushed.invariant.1 ∙ ap (λ n. c.args.self.now ++ deletes_by false c.args.first n) all
