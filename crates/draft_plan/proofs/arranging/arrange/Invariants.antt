use Rattle.std.specs.Prelude.{◌≡◌, Ok, length}
use Rattle.origin_model.specs.edits.State.{IsSound}
use Rattle.origin_model.specs.taking.Taking.{IsSettled}
use Rattle.catalogue_notes.specs.Arranged.{arranged}
use Rattle.catalogue_notes.specs.Arranging.{Arranges}
use Rattle.section_plan.specs.Orders.{ArePlaced, IsOrder}
use Rattle.draft_plan.specs.Arranging.{IsOrderOf, MovesFewTo}
use Rattle.draft_plan.specs.Limits.{CostsShaping, cost}
use Rattle.draft_plan.specs.Plans.{move_count, sum_below}
use Rattle.draft_plan.specs.Shaping.{IsShaped}
use Rattle.draft_plan.proofs.arranging.arrange.Given as goal

abbrev pub invariant-parts : goal.invariant-parts
invariant-parts l = record {
  settled : IsSettled l.replica.held;
  sound : IsSound l.replica;
  arranges : Arranges l.replica.held.history l.arranger;
  shaped : IsShaped l.fn.replica l.replica l.made;
  order : IsOrder l.order.items;
  placed : ArePlaced l.order.items l.stays.items l.part;
  of : IsOrderOf l.sections (arranged l.replica.held.history) l.order.items;
  few : MovesFewTo l.fn.replica.held.history l.replica.held.history l.stays.items l.sections l.part;
  long : length l.order.items ≡ length l.sections;
  costs : CostsShaping l.fn.replica l.replica
      (cost (sum_below (move_count l.stays.items) l.part) (sum_below (move_count l.stays.items) l.part) (sum_below (move_count l.stays.items) l.part)) (Ok l.made);
}
