use Rattle.std.proofs.Common.{◌≡◌, Some, length, refl, ap, ◌∙◌, arith}
use Rattle.node_rope.specs.Made.{made_count}
use Rattle.node_rope.specs.Items.{own_of}
use Rattle.node_rope.proofs.NodeCountLemmas.{few-made}
use Rattle.node_rope.proofs.KeyLemmas.{fresh, first-grown, first-list, grown-roped}
use Rattle.node_rope.proofs.AlikeLemmas.{alike-roped, alike-list}
use Rattle.node_rope.proofs.rope.Rope.insert_first.Goals as goal

pub invariant_of-self : goal.invariant_of-self
invariant_of-self g c =
    let i = c.self.inside in
    let m = c.in-Ok.ensures.made in
    let w = c.own_of-own.ensures in
    let wt = own_of g.T.Weigh.weight_of g.T.Weigh.rank_of in
    let none : made_count i.store ≡ 0 = omega (arith, few-made wt i.store i.root i.map.links c.self.invariant c.args.self.now c.self.view_is, ap length c.requires) in
    let grown = first-grown i.store c.enter.new.store i.root c.args.key c.own_of-own.result c.args.value c.in-Ok.node none m.shapes m.values m.number m.made m.count
    (omega (arith, w.fits)) in
    let free = fresh wt i.store i.root i.map.links c.self.invariant c.args.key c.args.self.now c.self.view_is (rw c.requires refl) in
    grown-roped wt i.store c.enter.new.store i.root
    (Some c.in-Ok.node) i.map.links c.enter.new.map.links c.args.key c.own_of-own.result c.args.value c.in-Ok.node c.self.invariant grown c.enter.ensures.kept
    (omega (arith, none)) (omega (arith, w.light)) (omega (arith, w.fits)) w.own free c.in-Ok.ensures.set

pub returns-in-Ok-clause-placed : goal.returns-in-Ok-clause-placed
returns-in-Ok-clause-placed g c =
    let i = c.self.inside in
    let m = c.in-Ok.ensures.made in
    let none : made_count i.store ≡ 0 =
    omega (arith, few-made (own_of g.T.Weigh.weight_of g.T.Weigh.rank_of) i.store i.root i.map.links c.self.invariant c.args.self.now c.self.view_is, ap length c.requires) in
    first-list i.store c.enter.new.store i.root c.args.key c.own_of-own.result c.args.value c.in-Ok.node none m.shapes m.values m.number m.made m.count
    (omega (arith, c.own_of-own.ensures.fits)) c.self.invariant.sound

pub invariant_of-self-in-Err : goal.invariant_of-self-in-Err
invariant_of-self-in-Err g c =
    let i = c.self.inside in
    let no = c.in-Err.ensures.refused in
    alike-roped (own_of g.T.Weigh.weight_of g.T.Weigh.rank_of) i.store c.enter.new.store i.root i.map.links c.enter.new.map.links c.self.invariant no.alike no.links

pub returns-in-Err-clause-refused : goal.returns-in-Err-clause-refused
returns-in-Err-clause-refused g c =
    let i = c.self.inside in
    let no = c.in-Err.ensures.refused in
    (no.value, alike-list i.store c.enter.new.store i.root c.self.invariant.sound no.alike ∙ c.self.view_is)
