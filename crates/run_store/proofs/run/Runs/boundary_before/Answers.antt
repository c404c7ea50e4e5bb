use Rattle.std.proofs.Common.{arith, refl, sym, ◌+◌, ◌∙◌}
use Rattle.fugue_ids.proofs.IdentifierLemmas.{id_eq-true}
use Rattle.run_store.proofs.BoundaryLemmas.{hides-first}
use Rattle.run_store.proofs.RunsLemmas.{kept-run}
use Rattle.run_store.proofs.run.Runs.boundary_before.Goals as goal

pub overflow_add-result : goal.overflow_add-result
overflow_add-result c =
    let r = c.args.self.now in
    let run = c.in_ok-spot.spot.run in
    let front = kept-run r c.sound.ensures run.id run c.in_ok-spot.ensures.some.held in
    let back = kept-run r c.sound.ensures c.args.run.now.id c.args.run.now c.requires.held in
    omega (arith, front.ends, back.ends, c.requires.more, c.sound.ensures.few)

pub returns-then-eq : goal.returns-then-eq
returns-then-eq c =
    let front = c.in_ok-spot.spot.run in
    let back = c.in_ok-back.back in
    hides-first c.args.self.now c.sound.ensures front back c.in_ok-back.ensures c.args.run.now c.args.n (front.len + c.args.n) c.requires.held c.requires.some c.requires.more
    (id_eq-true back.id c.args.run.now.id (sym c.eq.ensures ∙ c.if-eq.true)) c.if-not-front.false refl
