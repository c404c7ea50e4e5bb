use Rattle.std.proofs.Common.{List, ap, append_assoc, arith, length, length-drop, sym, take, ℕ, ◌++◌, ◌∙◌, ◌≡◌, ◌<◌, ◌-◌}
use Rattle.std.specs.Prelude.{drop}
use Rattle.fugue_ids.specs.Runs.{run_from}
use Rattle.fugue_ids.specs.declared.op.Op.{Op}
use Rattle.fugue_ids.specs.declared.run.RunStart.{RunStart}
use Rattle.op_frame.specs.OpenRuns.{open_ops}
use Rattle.op_frame.proofs.OpenRunLemmas.{takes_then}
use Rattle.op_frame.proofs.open_run.OpenRun.take_texts.Goals as goal

pub texts-preserved : goal.texts-preserved
texts-preserved c =
    let is = c.texts.invariant in
    let parts = c.split_at-behind.ensures in
    let next : RunStart = c.texts.next in
    let behind : List Op = run_from c.split_at-behind.result.1 c.split_at-behind.result.2.now in
    let front : List Op = run_from next (take c.in_ok-count.count c.texts.rest.now) in
    record {
      done = is.done ++ front;
      whole = is.whole ∙ ap (λ (l : List Op). is.done ++ l) (parts.whole ∙ ap (λ (l : List ℕ). run_from next l ++ behind) parts.front) ∙ sym (append_assoc is.done front behind);
      takes = takes_then (open_ops c.args.self.now.start c.args.self.now.text.items) (open_ops c.texts.self.start c.texts.self.text.items)
          (open_ops c.take_front.new.self.start c.take_front.new.self.text.items) c.args.out.now.items c.texts.out.items c.take_front.new.out.items is.done front is.takes
          c.in_ok-count.ensures.takes;
      is_open = c.in_ok-count.ensures.is_open;
      counters = λ more.
          let left : length c.split_at-behind.result.2.now ≡ length (drop c.in_ok-count.count c.texts.rest.now) = ap length parts.rest in
          let long : length (drop c.in_ok-count.count c.texts.rest.now) ≡ length c.texts.rest.now - c.in_ok-count.count = length-drop c.in_ok-count.count c.texts.rest.now in
          let there : c.in_ok-count.count < length c.texts.rest.now = omega (arith, more, left, long) in
          omega (arith, left, long, there, is.counters (omega (arith, there)), ap (λ (s : RunStart). s.id.counter) (parts.next there));
    }
