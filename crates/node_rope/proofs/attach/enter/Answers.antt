use Rattle.node_rope.proofs.AlikeLemmas.{unmade-alike}
use Rattle.node_rope.proofs.attach.enter.Goals as goal

pub returns-then-not-set_link-clause-refused : goal.returns-then-not-set_link-clause-refused
returns-then-not-set_link-clause-refused g c =
    let m = c.in_ok-link.ensures.made in
    let a = unmade-alike c.args.store.now c.make.new.self c.unmake-value.new.self c.args.shape c.args.value c.unmake-value.result m.shapes m.values c.make.ensures.kept
    c.unmake-value.ensures in
    record { value = a.0; alike = a.1; links = c.set_link.ensures.refused c.if-not-set_link.true }

pub returns-then-not-set_link-clause-kept : goal.returns-then-not-set_link-clause-kept
returns-then-not-set_link-clause-kept g c =
    let m = c.in_ok-link.ensures.made in
    let a = unmade-alike c.args.store.now c.make.new.self c.unmake-value.new.self c.args.shape c.args.value c.unmake-value.result m.shapes m.values c.make.ensures.kept
    c.unmake-value.ensures in
    a.1.kept
