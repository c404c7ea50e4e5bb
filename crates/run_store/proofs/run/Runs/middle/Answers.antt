use Rattle.std.proofs.Common.{arith}
use Rattle.run_store.proofs.MiddleLemmas.{in-order, none-answers, part-from, part-to, some-answers}
use Rattle.run_store.proofs.run.Runs.middle.Goals as goal

pub middle_between-requires-clause-order : goal.middle_between-requires-clause-order
middle_between-requires-clause-order c =
    let r = c.args.self.now in
    let p = c.args.part.now in
    let is = c.requires in
    omega (arith, is.begin.at, is.end.at, in-order r c.sound.ensures p.from p.to (part-from r p is) (part-to r p is))

pub returns-clause-none : goal.returns-clause-none
returns-clause-none c =
    let r = c.args.self.now in
    let p = c.args.part.now in
    let is = c.requires in
    none-answers r c.sound.ensures p.from p.to (part-from r p is)
    (part-to r p is) _ _ is.begin.at is.end.at c.middle_between.result c.middle_between.ensures.some c.middle_between.ensures.none

pub returns-clause-some : goal.returns-clause-some
returns-clause-some c =
    let r = c.args.self.now in
    let p = c.args.part.now in
    let is = c.requires in
    some-answers r c.sound.ensures p.from p.to (part-from r p is) (part-to r p is) _ _ is.begin.at is.end.at c.middle_between.result c.middle_between.ensures.some
