use Rattle.std.proofs.Common.{take}
use Rattle.op_runs.specs.Slices.{stretch_ops}
use Rattle.version_views.proofs.AcceptingLemmas.{goes_on, some_can}
use Rattle.version_views.proofs.accepting.accept_all.Goals as goal

pub accept_some-requires-clause-can : goal.accept_some-requires-clause-can
accept_some-requires-clause-can c =
    some_can c.args.front.now c.stretches.front (take c.args.count c.args.ops) c.stretches.rest (stretch_ops c.in-Some.stretch) c.next_stretch.new.self c.stretches.left
    c.requires c.stretches.invariant c.in-Some.ensures.taken

pub stretches-preserved : goal.stretches-preserved
stretches-preserved c =
    goes_on c.args.front.now c.stretches.front (take c.args.count c.args.ops) c.stretches.rest (stretch_ops c.in-Some.stretch) c.next_stretch.new.self c.stretches.left
    c.requires c.stretches.invariant c.in-Some.ensures.taken c.accept_some.new.front c.in_ok-left.field-0 c.in_ok-left.ensures.count c.in_ok-left.ensures.ok
    c.in_ok-left.ensures.sound
