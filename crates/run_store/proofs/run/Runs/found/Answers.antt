use Rattle.std.proofs.Common.{ap, sym, ◌∙◌}
use Rattle.run_store.specs.declared.standing.Found.{Found}
use Rattle.run_store.proofs.FindLemmas.{spot-fits}
use Rattle.run_store.proofs.FoundLemmas.{found-in}
use Rattle.run_store.proofs.run.Runs.found.Goals as goal

pub found_in-requires-clause-counters : goal.found_in-requires-clause-counters
found_in-requires-clause-counters c = (spot-fits c.args.self.now c.sound.ensures c.args.id c.in-Some.spot.run c.in-Some.spot.offset c.in-Some.ensures.some).0

pub found_in-requires-clause-depths : goal.found_in-requires-clause-depths
found_in-requires-clause-depths c = (spot-fits c.args.self.now c.sound.ensures c.args.id c.in-Some.spot.run c.in-Some.spot.offset c.in-Some.ensures.some).1

pub returns : goal.returns
returns c =
    let spot = c.in-Some.spot in
    let at = c.in-Some.ensures.some in
    record {
      found = found-in c.args.self.now c.sound.ensures spot.run c.place_of.result spot.offset c.found_in.result c.found_in.ensures c.place_of.ensures at.inside;
      same = ap (λ (f : Found). f.id) c.found_in.ensures ∙ sym at.is;
    }
