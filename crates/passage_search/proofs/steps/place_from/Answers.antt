use Rattle.std.proofs.Common.{drop, subst, sym}
use Rattle.std.specs.Prelude.{None, Some}
use Rattle.memchr.specs.Find.{FindsNeedle}
use Rattle.passage_search.proofs.PlaceLemmas.{none_in_rest, one_in_rest}
use Rattle.passage_search.proofs.StepLemmas.{rest_of}
use Rattle.passage_search.proofs.steps.place_from.Goals as goal

pub returns-in_err-at : goal.returns-in_err-at
returns-in_err-at c =
    let text = c.args.text.now in
    let passage = c.args.finder.now in
    let none : FindsNeedle (drop c.args.from text) passage 0 None = subst (λ rest. FindsNeedle rest passage 0 None) (rest_of c.args.from text) c.in_err-at.ensures in
    subst (FindsNeedle text passage c.args.from) (sym c.from_residual.ensures) (none_in_rest text passage c.args.from c.requires none)

pub returns : goal.returns
returns c =
    let text = c.args.text.now in
    let passage = c.args.finder.now in
    let at = c.in_ok-at.at in
    one_in_rest text passage c.args.from c.requires at (subst (λ rest. FindsNeedle rest passage 0 (Some at)) (rest_of c.args.from text) c.in_ok-at.ensures)
