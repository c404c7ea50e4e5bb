use Rattle.std.proofs.Common.{◌∙◌, sym, ap, subst, arith}
use Rattle.std.proofs.lemmas.List.{nil_from_length}
use Rattle.std.specs.Str.Iter.{chars_rest}
use Rattle.cluster_text.specs.Cuts.{SplitsAt}
use Rattle.cluster_text.proofs.TextLemmas.{splits-none, splits-next, splits-end}
use Rattle.cluster_text.proofs.scalars.pass_scalars.Goals as goal

pub passed-init : goal.passed-init
passed-init c = subst (λ (rest : _). SplitsAt c.args.text.now rest 0) (sym c.chars-scalars.ensures.rest) (splits-none _ c.utf8.text)

pub passed-preserved : goal.passed-preserved
passed-preserved c = splits-next _ _ _ _ _ c.passed.invariant c.in-Some.ensures.steps.0

pub returns-in-None : goal.returns-in-None
returns-in-None c =
    let steps = c.in-None.ensures.steps.0 in
    subst (λ rest. SplitsAt c.args.text.now rest c.args.n) (sym (c.as_str.ensures ∙ ap chars_rest steps.1))
    (splits-end _ _ c.passed.counter c.args.n c.passed.invariant (nil_from_length _ steps.0) (omega (arith, c.passed-test.true)))
