use Rattle.std.proofs.Common.{arith, inl, inr, length, ◌≤◌}
use Rattle.draft_plan.proofs.DifferenceLemmas.{shorter_here}
use Rattle.draft_plan.proofs.differences.first_difference.Goals as goal
use Rattle.draft_plan.proofs.differences.first_difference.Goals.{else-bytes-test, then-bytes-test+else-at-new}

pub returns : goal.returns
returns c =
    elim c.bytes-test.branch [
      | then-bytes-test+else-at-new w ↦
          let ends : length c.args.new.now ≤ c.bytes.at = omega (arith, w.if-at-new.false) in
          shorter_here c.args.old.now c.args.new.now c.bytes.at (inr ends) c.if-old-new.false c.bytes.invariant
      | else-bytes-test w ↦
          let ends : length c.args.old.now ≤ c.bytes.at = omega (arith, w.bytes-test.false) in
          shorter_here c.args.old.now c.args.new.now c.bytes.at (inl ends) c.if-old-new.false c.bytes.invariant
    ]
