use Rattle.std.specs.Prelude.{map, slice_get}
use Rattle.origin_model.specs.edits.State.{IsSound}
use Rattle.origin_model.specs.taking.Taking.{IsSettled}
use Rattle.catalogue_notes.specs.Arranged.{arranged}
use Rattle.catalogue_notes.specs.Arranging.{Arranges}
use Rattle.draft_plan.specs.Readings.{seen_part}
use Rattle.draft_plan.specs.Shaping.{AreFilled}
use Rattle.draft_plan.proofs.PlanLemmas.{FillsFirst}
use Rattle.draft_plan.proofs.revision.fill.Given as goal

abbrev pub invariant-parts : goal.invariant-parts
invariant-parts l = record {
  settled : IsSettled l.replica.held;
  sound : IsSound l.replica;
  arranges : Arranges l.replica.held.history l.arranger;
  filled : AreFilled l.fn.replica l.replica (map seen_part l.parts) l.place l.made;
  costs : FillsFirst l.fn.replica l.replica (slice_get (arranged l.fn.replica.held.history)) (map seen_part l.parts) l.place l.made;
}
