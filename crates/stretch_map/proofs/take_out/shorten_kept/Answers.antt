use Rattle.std.proofs.Common.{ap}
use Rattle.std.specs.Prelude.{None, Some, is_some}
use Rattle.stretch_map.proofs.TakenLemmas.{taken_from}
use Rattle.stretch_map.proofs.take_out.shorten_kept.Goals as goal

pub returns-in-Some-get_mut : goal.returns-in-Some-get_mut
returns-in-Some-get_mut g c =
    let written = c.get_mut.follows.holds c.in-Some.rest in
    taken_from c.args.kept.now (c.get_mut.follows.lender c.in-Some.rest) (c.args.first, c.args.stretch.now) (Some (c.in-Some.field-0-0, c.in-Some.rest)) c.in-Some.ensures
    (written.3 (ap is_some c.requires.there)) written.4

pub returns-in-None : goal.returns-in-None
returns-in-None g c =
    taken_from c.args.kept.now c.remove.new.self (c.args.first, c.args.stretch.now) None c.in-None.ensures c.remove.ensures.updates c.remove.ensures.ordered
