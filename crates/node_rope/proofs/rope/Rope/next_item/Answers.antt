use Rattle.std.proofs.Common.{◌≡◌, ◌+◌, None, Option, Some, length, true, false, sym, ap, ◌∙◌, subst}
use Rattle.std.specs.Prelude.{is_some}
use Rattle.node_rope.specs.declared.cells.Link.{Link}
use Rattle.node_rope.specs.Made.{shapes_of}
use Rattle.node_rope.specs.Shapes.{link_number, nodes_in_order, shape_at}
use Rattle.node_rope.specs.Items.{own_of, value_under}
use Rattle.node_rope.specs.Places.{StandsAt}
use Rattle.node_rope.specs.Found.{IsFollowed}
use Rattle.node_rope.proofs.KeyLemmas.{node-holds, not-held}
use Rattle.node_rope.proofs.AfterLemmas.{item-stands, item-behind, item-last}
use Rattle.node_rope.proofs.rope.Rope.next_item.Goals as goal

pub node_after-requires-clause-made : goal.node_after-requires-clause-made
node_after-requires-clause-made g c = c.self.invariant.mapped c.args.key c.in-Some.link (sym c.find_link.ensures ∙ c.in-Some.is)

pub returns-in-Some-node_after-clause-some : goal.returns-in-Some-node_after-clause-some
returns-in-Some-node_after-clause-some g c =
    let i = c.self.inside in
    let wt = own_of g.T.Weigh.weight_of g.T.Weigh.rank_of in
    let key = c.args.key in
    let l = c.in-Some.link in
    let n = c.in-Some-node_after.behind in
    let f : IsFollowed (nodes_in_order i.store i.root) l.number (Some n.number) =
    subst (λ (o : Option Link). IsFollowed (nodes_in_order i.store i.root) l.number (link_number o)) c.in-Some-node_after.is c.node_after.ensures.behind in
    let at = sym c.find_link.ensures ∙ c.in-Some.is in (
      length f.front,
      subst (λ xs. StandsAt xs (length f.front) key) c.self.view_is (item-stands wt i.store i.root i.map.links c.self.invariant key l at (Some n.number) f),
      subst (λ h. StandsAt c.args.self.now (length f.front + 1) h.key) (sym c.shape.ensures)
          (subst (λ xs. StandsAt xs (length f.front + 1) (shape_at (shapes_of i.store) n.number).key) c.self.view_is
          (item-behind wt i.store i.root i.map.links c.self.invariant key l at n f)),
    )

pub returns-in-Some-node_after-clause-value : goal.returns-in-Some-node_after-clause-value
returns-in-Some-node_after-clause-value g c =
    let i = c.self.inside in
    let n = c.in-Some-node_after.behind in
    let made = c.node_after.ensures.made n c.in-Some-node_after.is in
    let holds = node-holds (own_of g.T.Weigh.weight_of g.T.Weigh.rank_of) i.store i.root i.map.links c.self.invariant n made c.value.result.now c.value.ensures in
    ap (λ h. value_under h.key c.args.self.now) c.shape.ensures
    ∙ subst (λ xs. value_under (shape_at (shapes_of i.store) n.number).key xs ≡ Some c.value.result.now) c.self.view_is holds

pub returns-in-None-node_after-clause-none : goal.returns-in-None-node_after-clause-none
returns-in-None-node_after-clause-none g c =
    let i = c.self.inside in
    let wt = own_of g.T.Weigh.weight_of g.T.Weigh.rank_of in
    let key = c.args.key in
    let l = c.in-Some.link in
    let f : IsFollowed (nodes_in_order i.store i.root) l.number None =
    subst (λ (o : Option Link). IsFollowed (nodes_in_order i.store i.root) l.number (link_number o)) c.in-None-node_after.is c.node_after.ensures.behind in
    let at = sym c.find_link.ensures ∙ c.in-Some.is in
    λ held. (
      length f.front,
      subst (λ xs. StandsAt xs (length f.front) key) c.self.view_is (item-stands wt i.store i.root i.map.links c.self.invariant key l at None f),
      ap length (sym c.self.view_is) ∙ item-last wt i.store i.root i.map.links c.self.invariant key l at f,
    )

pub returns-in-None-clause-none : goal.returns-in-None-clause-none
returns-in-None-clause-none g c = λ held. (
    let i = c.self.inside in
    let none = not-held (own_of g.T.Weigh.weight_of g.T.Weigh.rank_of) i.store i.root i.map.links c.self.invariant c.args.key (sym c.find_link.ensures ∙ c.in-None.is) in
    let no : false ≡ true = ap is_some (sym none) ∙ ap (λ xs. is_some (value_under c.args.key xs)) c.self.view_is ∙ held in
    absurd (cc))
