use Rattle.std.proofs.Common.{sym, ap, ◌∙◌, slice_set}
use Rattle.node_rope.specs.declared.cells.Shape.{Shape}
use Rattle.node_rope.specs.Made.{shapes_of}
use Rattle.node_rope.specs.Items.{own_of}
use Rattle.node_rope.specs.Beside.{items_renamed}
use Rattle.node_rope.proofs.KeyLemmas.{same-roped, fresh}
use Rattle.node_rope.proofs.RekeyLemmas.{renamed-roped, renamed-list}
use Rattle.node_rope.proofs.rope.Rope.rename.Goals as goal

pub rename_link-requires-clause-fresh : goal.rename_link-requires-clause-fresh
rename_link-requires-clause-fresh g c =
    let i = c.self.inside in
    fresh (own_of g.T.Weigh.weight_of g.T.Weigh.rank_of) i.store i.root i.map.links c.self.invariant c.args.new_key c.args.self.now c.self.view_is c.requires.fresh

pub invariant_of-self : goal.invariant_of-self
invariant_of-self g c =
    let i = c.self.inside in
    same-roped (own_of g.T.Weigh.weight_of g.T.Weigh.rank_of) i.store i.root i.map.links c.self.invariant c.rename_link.new.map.links
    (c.rename_link.ensures.refused c.if-not-rename_link.true)

pub invariant_of-self-2 : goal.invariant_of-self-2
invariant_of-self-2 g c =
    let i = c.self.inside in
    let wt = own_of g.T.Weigh.weight_of g.T.Weigh.rank_of in
    let l = c.in-Some.link in
    let e = c.set_shape.ensures in
    let none = fresh wt i.store i.root i.map.links c.self.invariant c.args.new_key c.args.self.now c.self.view_is c.requires.fresh in
    let is = e.shapes ∙ ap (λ (h : Shape). slice_set (shapes_of i.store) l.number (record h { key = c.args.new_key })) c.shape-shape.ensures in
    renamed-roped wt i.store c.set_shape.new.self i.root i.map.links c.rename_link.new.map.links c.args.key c.args.new_key l c.self.invariant
    (sym c.find_link.ensures ∙ c.in-Some.is) none is e.values e.count e.kept
    (c.rename_link.ensures.renamed c.if-not-rename_link.false)

pub returns-clause-renamed : goal.returns-clause-renamed
returns-clause-renamed g c t =
    let i = c.self.inside in
    let wt = own_of g.T.Weigh.weight_of g.T.Weigh.rank_of in
    let l = c.in-Some.link in
    let e = c.set_shape.ensures in
    let none = fresh wt i.store i.root i.map.links c.self.invariant c.args.new_key c.args.self.now c.self.view_is c.requires.fresh in
    let is = e.shapes ∙ ap (λ (h : Shape). slice_set (shapes_of i.store) l.number (record h { key = c.args.new_key })) c.shape-shape.ensures in
    renamed-list wt i.store c.set_shape.new.self i.root i.map.links c.rename_link.new.map.links c.args.key c.args.new_key l c.self.invariant
    (sym c.find_link.ensures ∙ c.in-Some.is) none is e.values e.count e.kept
    (c.rename_link.ensures.renamed c.if-not-rename_link.false)
    ∙ ap (items_renamed c.args.key c.args.new_key) c.self.view_is
