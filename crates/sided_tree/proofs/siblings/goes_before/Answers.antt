use Rattle.std.proofs.Common.{ap, subst, sym, ◌∙◌}
use Rattle.fugue_ids.specs.Keys.{ids}
use Rattle.fugue_ids.specs.Listed.{HoldsOrigin}
use Rattle.origin_model.specs.order.Order.{index_of_origin, precedes}
use Rattle.origin_model.proofs.SharedLemmas.{keyed_ids}
use Rattle.sided_tree.proofs.RightOriginLemmas.{origin_stands, right_stands}
use Rattle.sided_tree.proofs.siblings.goes_before.Goals as goal

pub goes_first-requires-clause-here_stands : goal.goes_first-requires-clause-here_stands
goes_first-requires-clause-here_stands g c =
    let ns = g.N.NodeLookup.nodes c.args.nodes.now in
    subst (HoldsOrigin (ids (g.F.OrderOf.listed c.args.order.now))) (sym c.right_of-right.ensures)
    (right_stands ns (ids (g.F.OrderOf.listed c.args.order.now)) c.args.sibling c.requires.new.1 (ap ids c.requires.list ∙ keyed_ids ns))

pub goes_first-requires-clause-there_stands : goal.goes_first-requires-clause-there_stands
goes_first-requires-clause-there_stands g c =
    let ns = g.N.NodeLookup.nodes c.args.nodes.now in
    origin_stands ns (ids (g.F.OrderOf.listed c.args.order.now)) c.args.node.now.right c.requires.new.1 (ap ids c.requires.list ∙ keyed_ids ns) c.requires.new.0.right

pub returns : goal.returns
returns g c =
    let list = ap ids c.requires.list ∙ keyed_ids (g.N.NodeLookup.nodes c.args.nodes.now) in
    c.goes_first.ensures
    ∙ (λ i. precedes (index_of_origin (list i) (c.right_of-right.ensures i)) (index_of_origin (list i) c.args.node.now.right) c.args.sibling c.args.node.now.id)
