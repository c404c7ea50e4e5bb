use Rattle.std.proofs.Common.{rules}
use Rattle.sided_tree.specs.EarlierSiblings.{is_earlier_sibling}
use Rattle.sided_tree.proofs.slots.last_earlier_sibling.Goals as goal

pub returns-clause-earlier_sibling : goal.returns-clause-earlier_sibling
returns-clause-earlier_sibling g c =
    c.last_passing.ensures.last (is_earlier_sibling (g.N.NodeLookup.nodes c.args.nodes.now) c.args.node.now) (λ x b p. search rules)
    (c.requires.falls c.last_passing.ensures.fit)
