use Rattle.std.proofs.Common.{arith, length, refl, subst, sym, ◌+◌, ◌-◌, ◌≡◌}
use Rattle.run_store.specs.Cells.{cells_hiding}
use Rattle.run_store.specs.Changes.{HidesPart, MakesCells}
use Rattle.run_store.specs.Heads.{head_after}
use Rattle.run_store.specs.Runs.{cells_in, first_of}
use Rattle.run_store.specs.declared.run.Run.{Run}
use Rattle.run_store.proofs.EitherLemmas.{kept-raised}
use Rattle.run_store.proofs.HideLemmas.{hides-makes}
use Rattle.run_store.proofs.RunsLemmas.{kept-run}
use Rattle.run_store.proofs.run.Runs.hide_alone.Goals as goal

pub overflow_add-end : goal.overflow_add-end
overflow_add-end c =
    let r = c.args.spot.now.run in
    let x = kept-run c.args.self.now c.sound.ensures r.id r c.requires.held in
    omega (arith, c.requires.inside, x.depths, x.deep, c.sound.ensures.few)

pub returns-then-n-spot : goal.returns-then-n-spot
returns-then-n-spot c =
    let r = c.args.self.now in
    let run = c.args.spot.now.run in
    let n = c.args.n in
    subst (λ o. MakesCells c.hide_front.result r c.hide_front.new.self (cells_hiding (head_after o (first_of run)).id n (cells_in r))) (sym c.if-spot-eq0.true)
    (hides-makes c.hide_front.result r r c.hide_front.new.self run.id n refl (kept-raised 1 (length r.rope)) c.hide_front.ensures)

pub returns : goal.returns
returns c =
    let r = c.args.self.now in
    let run = c.args.spot.now.run in
    let o = c.args.spot.now.offset in
    let n = c.args.n in
    let cut = c.in_ok-cut_after.ensures in
    let rest : (o + n) - o ≡ n = omega arith in
    let hidden = subst (λ (z : Run). HidesPart c.hide_rest.result c.cut_after.new.self c.hide_rest.new.self (head_after o (first_of z)).id (z.len - o)) c.run_to.ensures
    c.hide_rest.ensures in
    hides-makes c.hide_rest.result r c.cut_after.new.self c.hide_rest.new.self (head_after o (first_of run)).id n cut.cells cut.raised
    (subst (HidesPart c.hide_rest.result c.cut_after.new.self c.hide_rest.new.self (head_after o (first_of run)).id) rest hidden)
