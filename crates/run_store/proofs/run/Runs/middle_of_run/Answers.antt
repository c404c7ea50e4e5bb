use Rattle.std.proofs.Common.{ap, arith, sym}
use Rattle.run_store.specs.declared.standing.Found.{Found}
use Rattle.run_store.proofs.FoundLemmas.{found-in}
use Rattle.run_store.proofs.PlaceLemmas.{run-named}
use Rattle.run_store.proofs.StandingLemmas.{in-run}
use Rattle.run_store.proofs.run.Runs.middle_of_run.Goals as goal

pub returns-then-from-to-clause-some : goal.returns-then-from-to-clause-some
returns-then-from-to-clause-some c =
    let r = c.args.self.now in
    let run = c.in_ok-run.run' in
    in-run r c.sound.ensures run c.args.place _ c.args.from c.args.to c.found_in.result.id (ap (λ (f : Found). f.id) c.found_in.ensures)
    (run-named r c.sound.ensures c.args.place run (sym c.in_ok-run.ensures))
    (omega arith) (omega (arith, c.min-to.ensures, c.if-from-to.true)) (omega (arith, c.min-to.ensures, c.if-from-to.true))

pub returns-then-from-to-clause-found : goal.returns-then-from-to-clause-found
returns-then-from-to-clause-found c =
    let r = c.args.self.now in
    let run = c.in_ok-run.run' in
    found-in r c.sound.ensures run c.args.place _ c.found_in.result c.found_in.ensures (run-named r c.sound.ensures c.args.place run (sym c.in_ok-run.ensures))
    (omega (arith, c.min-to.ensures, c.if-from-to.true))
