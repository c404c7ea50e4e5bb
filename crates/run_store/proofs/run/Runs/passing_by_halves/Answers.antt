use Rattle.std.proofs.Common.{arith, refl, subst}
use Rattle.run_store.proofs.FoundLemmas.{found-small}
use Rattle.run_store.proofs.PassingLemmas.{halved-before, halved-behind, halved-out, halving, shorter-before, shorter-behind}
use Rattle.run_store.proofs.run.Runs.passing_by_halves.Goals as goal

pub halve-init : goal.halve-init
halve-init g c = halving c.args.self.now (goal.P-post g c.args.test) c.args.rest c.requires.part

pub overflow_add-rest : goal.overflow_add-rest
overflow_add-rest g c = omega (arith, found-small c.args.self.now c.sound.ensures c.in-Some.low c.in-Some.ensures.found)

pub halve-smaller-then-test : goal.halve-smaller-then-test
halve-smaller-then-test g c =
    shorter-behind c.args.self.now (goal.P-post g c.args.test) c.args.rest c.halve.rest c.halve.passing c.halve.invariant c.sound.ensures c.in-Some.low c.in-Some.ensures.some

pub halve-smaller : goal.halve-smaller
halve-smaller g c =
    shorter-before c.args.self.now (goal.P-post g c.args.test) c.args.rest c.halve.rest c.halve.passing c.halve.invariant c.sound.ensures c.in-Some.low c.in-Some.ensures.some

pub halve-preserved-then-test : goal.halve-preserved-then-test
halve-preserved-then-test g c =
    halved-behind c.args.self.now (goal.P-post g c.args.test) c.args.rest c.halve.rest c.halve.passing c.halve.invariant c.sound.ensures c.in-Some.low c.in-Some.ensures.some
    c.in-Some.ensures.found
    (subst (goal.P-post g c.args.test c.in-Some.low.id) c.if-test.true c.test.ensures)

pub halve-preserved : goal.halve-preserved
halve-preserved g c =
    halved-before c.args.self.now (goal.P-post g c.args.test) c.args.rest c.halve.rest c.halve.passing c.halve.invariant c.sound.ensures c.in-Some.low c.in-Some.ensures.some
    c.in-Some.ensures.found
    (subst (goal.P-post g c.args.test c.in-Some.low.id) c.if-test.false c.test.ensures)

pub returns : goal.returns
returns g c = halved-out c.args.self.now (goal.P-post g c.args.test) c.args.rest c.halve.rest c.halve.passing c.halve.invariant (c.in_default.ensures.none.0 refl)
