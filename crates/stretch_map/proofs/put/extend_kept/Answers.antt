use Rattle.std.proofs.Common.{ap}
use Rattle.std.specs.Prelude.{is_some}
use Rattle.stretch_map.proofs.PutLemmas.{map_grew}
use Rattle.stretch_map.proofs.put.extend_kept.Goals as goal

pub returns-in-Some-get_mut-clause-on : goal.returns-in-Some-get_mut-clause-on
returns-in-Some-get_mut-clause-on g c = λ _.
    let written = c.get_mut.follows.holds c.in-Some-longer.longer in
    map_grew g.V.Follows.nth g.V.Follows.reaches c.args.kept.now (c.get_mut.follows.lender c.in-Some-longer.longer) (c.args.key, c.args.run.now) _ c.in-Some.ensures.some.kept
    c.in-Some-longer.ensures.some.0 c.in-Some-longer.longer c.in-Some-longer.ensures.some.1 (written.3 (ap is_some c.in-Some.ensures.some.kept)) written.4
