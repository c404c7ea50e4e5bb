use Rattle.std.proofs.Common.{ap, refl, sym, ◌∙◌}
use Rattle.draft_plan.specs.Differences.{first_difference}
use Rattle.manuscript_cli.proofs.RevisingLemmas.{differs_there, good_there}
use Rattle.manuscript_cli.proofs.revise.check_base.Goals as goal

pub returns-in-Some-clause-err : goal.returns-in-Some-clause-err
returns-in-Some-clause-err g c =
    differs_there (g.G.Disk.seen c.args.base.now).past c.args.replica.now.held.history c.written-shown.result.now c.in_ok-bytes.bytes.items _
    (c.written-shown.ensures ∙ c.in_ok-text.ensures) refl c.in_ok-bytes.ensures.specified c.in-Some.at
    (ap (first_difference c.written-shown.result.now) (sym c.deref.ensures.value) ∙ sym c.first_difference.ensures ∙ c.in-Some.is)

pub returns-clause-ok : goal.returns-clause-ok
returns-clause-ok g c =
    good_there (g.G.Disk.seen c.args.base.now).past c.args.replica.now.held.history c.written-shown.result.now c.in_ok-bytes.bytes.items _
    (c.written-shown.ensures ∙ c.in_ok-text.ensures) refl c.in_ok-bytes.ensures.specified
    (ap (first_difference c.written-shown.result.now) (sym c.deref.ensures.value) ∙ sym c.first_difference.ensures ∙ c.in_default.is)
