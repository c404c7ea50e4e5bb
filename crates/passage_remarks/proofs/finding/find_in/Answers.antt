use Rattle.std.proofs.Common.{arith}
use Rattle.passage_search.proofs.FirstLemmas.{place_fits}
use Rattle.passage_remarks.proofs.finding.find_in.Goals as goal

pub overflow_add-places : goal.overflow_add-places
overflow_add-places c =
    omega (arith, place_fits c.as_bytes.result.now c.args.passage.now c.places_of-places.result c.places_of-places.ensures (omega (arith, c.in-1.is)), c.as_bytes.ensures.len)
