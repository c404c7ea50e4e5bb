use Rattle.std.proofs.Common.{Option, subst, sym}
use Rattle.fugue_ids.specs.declared.run.RunStart.{RunStart}
use Rattle.op_runs.specs.Deletions.{deletes_by}
use Rattle.op_frame.specs.OpenRuns.{TakesInOps, open_ops}
use Rattle.op_frame.proofs.OpenRunLemmas.{deletes_taken}
use Rattle.op_frame.proofs.encodings.take_deletes.Goals as goal

pub returns-clause-takes : goal.returns-clause-takes
returns-clause-takes c =
    let run = c.args.run.now in
    let d = c.args.deletes.now in
    let new = c.encode_deletes.new.out.items in
    subst (λ (start : Option RunStart). TakesInOps (open_ops run.start run.text.items) (open_ops start c.close.new.self.text.items) c.args.out.now.items new
    (deletes_by d.down d.target d.count)) (sym c.in_ok-close.ensures.start)
    (deletes_taken run.start run.text.items c.args.out.now.items c.close.new.out.items new d.down d.target d.count c.requires.is_open c.requires.some
    c.in_ok-close.ensures.have_frames c.in_ok-close.ensures.ok
    c.in_ok-encode_deletes.ensures.have_frames c.in_ok-encode_deletes.ensures.ok)
