use Rattle.std.proofs.Common.{subst, refl}
use Rattle.op_frame.specs.Decoded.{IsDecoded}
use Rattle.op_frame.specs.declared.frame_ops.Decoded.{Decoded}
use Rattle.origin_model.specs.frames.Frames.{Single}
use Rattle.op_frame.proofs.HeaderLemmas.{run_whole, run_within}
use Rattle.op_frame.proofs.frame_ops.FrameOps.new.Goals as goal

pub overflow_sub-start : goal.overflow_sub-start
overflow_sub-start c = run_within c.in-Run.header c.args.frame.now (subst (λ (d : Decoded). IsDecoded d c.args.frame.now) c.in-Run.is c.in_ok-op.ensures.ok)

pub invariant_of-result-in-Run : goal.invariant_of-result-in-Run
invariant_of-result-in-Run c = (run_whole c.in-Run.header c.args.frame.now (subst (λ (d : Decoded). IsDecoded d c.args.frame.now) c.in-Run.is c.in_ok-op.ensures.ok)).held

pub returns-in-Single-clause-ok : goal.returns-in-Single-clause-ok
returns-in-Single-clause-ok c =
    let d = subst (λ (d : Decoded). IsDecoded d c.args.frame.now) c.in-Single.is c.in_ok-op.ensures.ok in
    record { item = Single c.in-Single.op; is_item = d.0; bytes_are = d.1; ops_are = refl }

pub returns-in-Run-clause-ok : goal.returns-in-Run-clause-ok
returns-in-Run-clause-ok c = (run_whole c.in-Run.header c.args.frame.now (subst (λ (d : Decoded). IsDecoded d c.args.frame.now) c.in-Run.is c.in_ok-op.ensures.ok)).is_frame
