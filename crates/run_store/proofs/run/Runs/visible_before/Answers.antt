use Rattle.std.proofs.Common.{sym, ◌∙◌, ◌+◌}
use Rattle.run_store.proofs.BeforeShownLemmas.{shown_before-spot}
use Rattle.run_store.proofs.FindLemmas.{spot-held}
use Rattle.run_store.proofs.run.Runs.visible_before.Goals as goal

pub returns-in-Some-clause-some : goal.returns-in-Some-clause-some
returns-in-Some-clause-some c =
    let at = c.visible_to.ensures.visible in
    (λ j. at.2 j + c.visible_within.ensures j)
    ∙ sym (shown_before-spot c.args.self.now c.sound.ensures c.args.id c.in-Some.spot.run c.in-Some.spot.offset c.in-Some.ensures.some at.0 at.1)

pub returns-in-Some-clause-held : goal.returns-in-Some-clause-held
returns-in-Some-clause-held c = spot-held c.args.self.now c.sound.ensures c.args.id c.in-Some.spot.run c.in-Some.spot.offset c.in-Some.ensures.some
