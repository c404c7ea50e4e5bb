use Rattle.std.proofs.Common.{ap, ◌∙◌}
use Rattle.std.specs.Str.{encode_utf8_all}
use Rattle.std.proofs.lemmas.List.{take_all}
use Rattle.draft_plan.proofs.ReviseLemmas.{typed_more}
use Rattle.draft_plan.proofs.revising.text_of.Goals as goal

pub scalars-preserved : goal.scalars-preserved
scalars-preserved c =
    c.in_ok-push.ensures.bytes
    ∙ typed_more _ c.args.scalars.now c.scalars.scalar-index c.scalar-item.result c.scalars-test.true c.scalar-item.is c.scalars.invariant

pub returns : goal.returns
returns c = c.scalars.invariant ∙ ap encode_utf8_all (take_all c.scalars.scalar-index c.args.scalars.now c.scalars-test.false)
