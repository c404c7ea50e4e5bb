use Rattle.std.specs.Prelude.{IfSome, Ok, map}
use Rattle.std.specs.List.{Contains}
use Rattle.origin_model.specs.edits.State.{IsSound}
use Rattle.origin_model.specs.taking.Taking.{IsSettled}
use Rattle.catalogue_notes.specs.Outlining.{entry_sections}
use Rattle.draft_plan.specs.Limits.{CostsShaping, cost}
use Rattle.draft_plan.specs.Plans.{added_count}
use Rattle.draft_plan.specs.Readings.{seen_part}
use Rattle.draft_plan.specs.Resizing.{AreTargetsTo}
use Rattle.draft_plan.specs.Shaping.{IsShaped, KeepsPlaces}
use Rattle.draft_plan.proofs.resizing.add_missing.Given as goal

abbrev pub invariant-parts : goal.invariant-parts
invariant-parts l = record {
  settled : IsSettled l.replica.held;
  sound : IsSound l.replica;
  shaped : IsShaped l.fn.replica l.replica l.made;
  places : KeepsPlaces l.fn.replica.held.history l.replica.held.history;
  anchor : IfSome l.anchor (λ s. Contains l.sections.items s);
  targets : AreTargetsTo l.fn.replica l.replica (entry_sections l.entries) l.pairs (map seen_part l.parts) l.place l.sections.items;
  costs : CostsShaping l.fn.replica l.replica (cost (added_count l.pairs l.place) (added_count l.pairs l.place) 0) (Ok l.made);
}
