use Rattle.std.proofs.Common.{refl}
use Rattle.order_proof.proofs.WayLemmas.{way_of_none, way_of_one, way_of_other}
use Rattle.order_proof.proofs.parting.rise.Goals as goal

pub returns-in-Some-clause-way : goal.returns-in-Some-clause-way
returns-in-Some-clause-way g c =
    let passed = rw c.in-Some.is at c.in_ok-at.ensures.passed in
    way_of_one (g.P.Positions.operations c.args.held.now) c.args.below c.args.one.now c.args.other.now c.requires.apart c.in-Some.at c.pass_newest.new.ascent passed

pub returns-in-Some-2-clause-way : goal.returns-in-Some-2-clause-way
returns-in-Some-2-clause-way g c =
    let left = c.in_ok-at.ensures.left in
    let kept = (rw c.in_default.is at left) refl in
    let passed = rw (c.in-Some-2.is, kept.same) at c.in_ok-at-2.ensures.passed in
    way_of_other (g.P.Positions.operations c.args.held.now) c.args.below c.args.one.now c.args.other.now c.requires.apart c.in-Some-2.at c.pass_newest.new.ascent
    c.pass_newest-2.new.ascent kept.same passed

pub returns-clause-way : goal.returns-clause-way
returns-clause-way g c =
    let one = (rw c.in_default.is at c.in_ok-at.ensures.left) refl in
    let other = (rw c.in_default-2.is at c.in_ok-at-2.ensures.left) refl in
    way_of_none (g.P.Positions.operations c.args.held.now) c.args.below c.args.one.now c.args.other.now c.requires.apart c.pass_newest.new.ascent c.pass_newest-2.new.ascent one
    other
