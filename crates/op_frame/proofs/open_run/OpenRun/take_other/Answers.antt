use Rattle.std.proofs.Common.{Option, [], sym, subst, ◌∷◌}
use Rattle.fugue_ids.specs.declared.run.RunStart.{RunStart}
use Rattle.op_frame.specs.OpenRuns.{TakesInOps, open_ops}
use Rattle.op_frame.proofs.OpenRunLemmas.{other_taken}
use Rattle.op_frame.proofs.open_run.OpenRun.take_other.Goals as goal

pub returns-clause-takes : goal.returns-clause-takes
returns-clause-takes c =
    let run = c.args.self.now in
    let new = c.encode.new.out.items in
    subst (λ (start : Option RunStart). TakesInOps (open_ops run.start run.text.items) (open_ops start c.close.new.self.text.items) c.args.out.now.items new (c.args.op.now ∷ []))
    (sym c.in_ok-close.ensures.start)
    (other_taken run.start run.text.items c.args.out.now.items c.close.new.out.items new c.args.op.now c.requires.is_open c.requires.other c.in_ok-close.ensures.have_frames
    c.in_ok-close.ensures.ok
    c.in_ok-encode.ensures.has_frame c.in_ok-encode.ensures.ok)
