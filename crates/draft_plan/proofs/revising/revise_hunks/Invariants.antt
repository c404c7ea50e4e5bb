use Rattle.std.specs.Prelude.{Ok}
use Rattle.std.proofs.Common.{drop, length, ◌≤◌}
use Rattle.origin_model.specs.edits.Effect.{OfSection}
use Rattle.origin_model.specs.edits.State.{IsSound}
use Rattle.origin_model.specs.taking.Taking.{IsSettled}
use Rattle.draft_plan.specs.Limits.{Costs, hunks_cost}
use Rattle.draft_plan.specs.Revising.{AreHunksMade}
use Rattle.draft_plan.proofs.revising.revise_hunks.Given as goal

abbrev pub invariant-hunks : goal.invariant-hunks
invariant-hunks l = record {
  within : l.left ≤ length l.hunks;
  settled : IsSettled l.replica.held;
  sound : IsSound l.replica;
  made : OfSection l.fn.replica l.section (λ x. AreHunksMade l.fn.replica l.replica l.section x (drop l.left l.hunks) l.new l.made);
  costs : Costs l.fn.replica l.replica (hunks_cost (drop l.left l.hunks)) (Ok l.made);
}

abbrev pub decreases-hunks : goal.decreases-hunks
decreases-hunks l = l.left
