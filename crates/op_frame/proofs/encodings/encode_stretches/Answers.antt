use Rattle.std.proofs.Common.{List, [], ap, append_assoc, sym, ◌++◌, ◌∙◌}
use Rattle.fugue_ids.specs.declared.op.Op.{Op}
use Rattle.op_runs.specs.Slices.{stretch_ops}
use Rattle.op_frame.specs.OpenRuns.{open_ops}
use Rattle.op_frame.proofs.OpenRunLemmas.{takes_then}
use Rattle.op_frame.proofs.encodings.encode_stretches.Goals as goal

pub stretches-preserved : goal.stretches-preserved
stretches-preserved c =
    let is = c.stretches.invariant in
    let ops : List Op = stretch_ops c.in-Some.stretch in
    record {
      done = is.done ++ ops;
      whole = is.whole ∙ ap (λ (l : List Op). is.done ++ l) c.in-Some.ensures.taken ∙ sym (append_assoc is.done ops c.next_stretch.new.self);
      takes = takes_then [] (open_ops c.stretches.run.start c.stretches.run.text.items)
          (open_ops c.take_stretch.new.run.start c.take_stretch.new.run.text.items) c.args.out.now.items c.stretches.out.items
          c.take_stretch.new.out.items is.done ops is.takes c.in_ok-take_stretch.ensures.takes;
      is_open = c.in_ok-take_stretch.ensures.is_open;
    }
