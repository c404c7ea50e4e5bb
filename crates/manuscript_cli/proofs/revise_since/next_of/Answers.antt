use Rattle.std.proofs.Common.{ap, arith, suc, ◌∙◌, ◌≡◌}
use Rattle.origin_model.proofs.edits.NextCounterLemmas.{next_by_greatest}
use Rattle.origin_model.specs.edits.Edits.{next_above}
use Rattle.origin_model.specs.edits.Refusal.{next_of_own}
use Rattle.manuscript_cli.proofs.revise_since.next_of.Goals as goal

pub returns-in-Some : goal.returns-in-Some
returns-in-Some c =
    let s = c.args.replica.now in
    let next : next_of_own s ≡ suc c.in-Some.greatest =
    next_by_greatest s.number s.held.history s.held.waiting c.greatest_counter.result c.greatest_counter.ensures.greatest ∙ ap next_above c.in-Some.is in
    omega (arith, next, c.from.ensures)
