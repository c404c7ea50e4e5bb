use Rattle.std.proofs.Common.{ap, length, subst, sym, ◌∙◌}
use Rattle.std.proofs.lemmas.Bool.{true≢false}
use Rattle.run_store.specs.Runs.{RunsView, cells_in}
use Rattle.run_store.specs.Stored.{IsRaisedBy}
use Rattle.run_store.proofs.EitherLemmas.{kept-raised}
use Rattle.run_store.proofs.HideLemmas.{hidden-again, spot-hidden}
use Rattle.run_store.proofs.run.Runs.hide_part.Goals as goal

pub returns-then-spot-clause-part : goal.returns-then-spot-clause-part
returns-then-spot-clause-part c =
    let r = c.args.self.now in
    let same = c.reach.ensures.same in
    let n = c.part_len-n.ensures in
    record {
      some = n.some;
      bound = n.bound;
      ok = ap cells_in same ∙ hidden-again r c.sound.ensures c.args.id c.in-Some.spot.run c.in-Some.spot.offset c.in-Some.ensures.some c.part_len-n.result n.within c.if-spot.true;
      err = tt;
      raised = subst (λ (z : RunsView). IsRaisedBy 2 (length r.rope) (length z.rope)) (sym same) (kept-raised 2 (length r.rope));
      refused = tt;
    }

pub returns-in_err-hide_at-clause-again : goal.returns-in_err-hide_at-clause-again
returns-in_err-hide_at-clause-again c h =
    absurd (true≢false (sym h ∙ spot-hidden c.args.self.now c.sound.ensures c.args.id c.in-Some.spot.run c.in-Some.spot.offset c.in-Some.ensures.some ∙ c.if-spot.false))

pub returns-clause-again : goal.returns-clause-again
returns-clause-again c h =
    absurd (true≢false (sym h ∙ spot-hidden c.args.self.now c.sound.ensures c.args.id c.in-Some.spot.run c.in-Some.spot.offset c.in-Some.ensures.some ∙ c.if-spot.false))
