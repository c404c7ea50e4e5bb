use Rattle.origin_model.proofs.Words.{None, Some, ap, id_of, sym, ◌∙◌, ◌≡◌}
use Rattle.fugue_ids.specs.Ops.{own_in}
use Rattle.origin_model.proofs.operations.OneLookUpLemmas.{found_once}
use Rattle.origin_model.proofs.operations.named.found_of.Goals as goal

pub returns-in-Some : goal.returns-in-Some
returns-in-Some g c =
    let own : id_of c.args.op.now ≡ Some c.in-Own.id = ap own_in (sym c.key.ensures ∙ c.in-Own.is) in
    c.beside.ensures
    ∙ found_once (g.L.Lookup.history c.args.lookup.now) c.args.op.now c.in-Own.id c.equals.ensures.lawful own (Some c.in-Some.equal) (sym c.in-Some.is ∙ c.equals.ensures.held)

pub returns-in-None : goal.returns-in-None
returns-in-None g c =
    let own : id_of c.args.op.now ≡ Some c.in-Own.id = ap own_in (sym c.key.ensures ∙ c.in-Own.is) in
    found_once (g.L.Lookup.history c.args.lookup.now) c.args.op.now c.in-Own.id c.equals.ensures.lawful own None (sym c.in-None.is ∙ c.equals.ensures.held)
