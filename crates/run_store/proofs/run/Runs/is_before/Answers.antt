use Rattle.std.proofs.Common.{inl, inr}
use Rattle.run_store.proofs.FindLemmas.{spot-held}
use Rattle.run_store.proofs.run.Runs.is_before.Goals as goal

pub returns-clause-none : goal.returns-clause-none
returns-clause-none c none =
    let r = c.args.self.now in
    let x = c.in-Some.x in
    let y = c.in-Some-find.y in
    elim none [
      | inl n ↦ absurd (n (spot-held r c.sound.ensures c.args.a x.run x.offset c.in-Some.ensures.some))
      | inr n ↦ absurd (n (spot-held r c.sound.ensures c.args.b y.run y.offset c.in-Some-find.ensures.some))
    ]
