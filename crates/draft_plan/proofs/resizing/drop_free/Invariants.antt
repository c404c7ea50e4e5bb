use Rattle.std.specs.Prelude.{Ok}
use Rattle.origin_model.specs.declared.operations.Place.TheVariants.{Catalogue as catalogue}
use Rattle.origin_model.specs.edits.State.{IsSound}
use Rattle.origin_model.specs.order.Printed.{shown}
use Rattle.origin_model.specs.taking.Taking.{IsSettled}
use Rattle.catalogue_notes.specs.Outlining.{entry_sections}
use Rattle.draft_plan.specs.Limits.{CostsShaping, cost}
use Rattle.draft_plan.specs.Plans.{dropped_count}
use Rattle.draft_plan.specs.Resizing.{AreLeft}
use Rattle.draft_plan.specs.Shaping.{IsReshaped, KeepsPlaces}
use Rattle.draft_plan.proofs.resizing.drop_free.Given as goal

abbrev pub invariant-entries : goal.invariant-entries
invariant-entries l = record {
  settled : IsSettled l.replica.held;
  sound : IsSound l.replica;
  shaped : IsReshaped l.fn.replica l.replica l.made;
  places : KeepsPlaces l.fn.replica.held.history l.replica.held.history;
  left : AreLeft (entry_sections l.entries) l.pairs l.place (shown catalogue l.replica.held.history);
  costs : CostsShaping l.fn.replica l.replica (cost (dropped_count l.pairs l.place) 0 0) (Ok l.made);
}
