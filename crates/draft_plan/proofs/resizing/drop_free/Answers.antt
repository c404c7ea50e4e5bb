use Rattle.std.proofs.Common.{length}
use Rattle.draft_plan.specs.Limits.{cost}
use Rattle.draft_plan.specs.Plans.{dropped_count}
use Rattle.draft_plan.proofs.PlanLemmas.{dropped_longer, dropped_more, dropped_one}
use Rattle.section_plan.specs.Matching.{part_of}
use Rattle.std.specs.Prelude.{None}
use Rattle.draft_plan.proofs.EditCostLemmas.{shaping_join, shaping_more, shaping_none, shaping_stop}
use Rattle.draft_plan.proofs.LimitLemmas.{up}
use Rattle.std.proofs.Common.{arith, inl, ◌+◌, ◌≡◌}
use Rattle.std.proofs.lemmas.Result.{err_from_is_err_and}
use Rattle.std.proofs.lemmas.Grind.{common_steps}
use Rattle.origin_model.specs.declared.operations.Place.TheVariants.{Catalogue as catalogue}
use Rattle.origin_model.specs.order.Printed.{shown}
use Rattle.catalogue_notes.specs.Outlining.{entry_sections}
use Rattle.draft_plan.proofs.MakingLemmas.{makes_few}
use Rattle.draft_plan.proofs.ResizingLemmas.{entries_once, entry_section, left_goes, left_shown, left_start, left_stays}
use Rattle.draft_plan.proofs.ShapeLemmas.{places_join, places_none, reshaped_join, reshaped_none, stops_reshaped}
use Rattle.draft_plan.proofs.resizing.drop_free.Goals as goal
use Rattle.draft_plan.proofs.resizing.drop_free.Goals.{then-is_none+in_ok-made, else-is_none}

pub entries-init : goal.entries-init
entries-init c =
    let s = c.args.replica.now in
    record {
      settled = c.requires.settled;
      sound = c.requires.sound;
      shaped = reshaped_none s;
      costs = shaping_none s (cost 0 0 0);
      places = places_none s.held.history;
      left = left_start s.held.history c.args.entries.now c.args.pairs.now c.requires.sound.lawful c.requires.outline;
    }

pub drop_one-requires-clause-there : goal.drop_one-requires-clause-there
drop_one-requires-clause-there c =
    let at = entry_section c.args.entries.now c.entries.place c.index-entries-place.result (omega arith) c.index-entries-place.is in
    c.entries.invariant.left.kept c.entries.place c.index-entries-place.result.section at (inl (omega arith))

pub returns-in_err-made-clause-shapes : goal.returns-in_err-made-clause-shapes
returns-in_err-made-clause-shapes c =
    let p = err_from_is_err_and c.from_residual.result c.from_residual.ensures.1 in
    rw (p.1, p.2)
    (stops_reshaped c.args.replica.now c.entries.replica c.drop_one.new.replica c.entries.made c.in_err-made.field-0.0 c.entries.invariant.shaped c.in_err-made.ensures.shapes)

pub overflow_add-made : goal.overflow_add-made
overflow_add-made c =
    let more = reshaped_join c.args.replica.now c.entries.replica c.drop_one.new.replica c.entries.made c.in_ok-made.field-0 c.entries.invariant.shaped c.in_ok-made.ensures.shapes
    (left_shown c.args.replica.now.held.history c.args.entries.now c.args.pairs.now c.entries.place
    (shown catalogue c.entries.replica.held.history) c.requires.outline c.entries.invariant.left) in
    omega (arith, makes_few c.args.replica.now c.drop_one.new.replica (c.entries.made + c.in_ok-made.field-0) more.makes c.in_ok-made.ensures.sound)

pub entries-preserved : goal.entries-preserved
entries-preserved c =
    let ys = entry_sections c.args.entries.now in
    let at = entry_section c.args.entries.now c.entries.place c.index-entries-place.result (omega arith) c.index-entries-place.is in
    let was = c.entries.invariant in
    elim c.if-is_none.branch [
      | then-is_none+in_ok-made w ↦
          let e = w.in_ok-made.ensures in
          rw (w.replica-is, w.made-is) (record {
            settled = e.settled;
            sound = e.sound;
            shaped = reshaped_join c.args.replica.now c.entries.replica w.drop_one.new.replica c.entries.made w.in_ok-made.field-0 was.shaped e.shapes
                (left_shown c.args.replica.now.held.history c.args.entries.now c.args.pairs.now c.entries.place
                (shown catalogue c.entries.replica.held.history) c.requires.outline was.left);
            costs = shaping_join c.args.replica.now c.entries.replica w.drop_one.new.replica (cost (dropped_count c.args.pairs.now c.entries.place) 0 0) (cost 1 0 0)
                (cost (dropped_count c.args.pairs.now (c.entries.place + 1)) 0 0) c.entries.made w.in_ok-made.field-0
                (up (omega (arith, dropped_one c.args.pairs.now c.entries.place (grind (arith, common_steps)))) (omega arith) (omega arith)) was.costs e.costs;
            places = places_join c.args.replica.now.held.history c.entries.replica.held.history w.drop_one.new.replica.held.history was.places e.places;
            left = left_goes ys c.args.pairs.now c.entries.place (shown catalogue c.entries.replica.held.history)
                (shown catalogue w.drop_one.new.replica.held.history) c.index-entries-place.result.section
                (entries_once c.args.replica.now.held.history c.args.entries.now c.requires.sound.lawful c.requires.outline) was.left at (grind (arith, common_steps)) e.gone;
          })
      | else-is_none w ↦
          rw (w.replica-is, w.made-is) (record {
            settled = was.settled;
            sound = was.sound;
            shaped = was.shaped;
            costs = shaping_more c.args.replica.now c.entries.replica (cost (dropped_count c.args.pairs.now c.entries.place) 0 0)
                (cost (dropped_count c.args.pairs.now (c.entries.place + 1)) 0 0) c.entries.made
                (up (omega (arith, dropped_more c.args.pairs.now c.entries.place)) (omega arith) (omega arith)) was.costs;
            places = was.places;
            left = left_stays ys c.args.pairs.now c.entries.place (shown catalogue c.entries.replica.held.history) was.left (grind (arith, common_steps));
          })
    ]

pub returns-in_err-made-clause-costs : goal.returns-in_err-made-clause-costs
returns-in_err-made-clause-costs c =
    let p = err_from_is_err_and c.from_residual.result c.from_residual.ensures.1 in
    let none : part_of c.args.pairs.now c.entries.place ≡ None = grind (arith, common_steps) in
    let one = dropped_one c.args.pairs.now c.entries.place none in
    let all = dropped_longer c.args.pairs.now (c.entries.place + 1) (length c.args.entries.now) (omega arith) in
    rw (p.1, p.2)
    (shaping_stop c.args.replica.now c.entries.replica (cost (dropped_count c.args.pairs.now c.entries.place) 0 0) (cost 1 0 0)
    (cost (dropped_count c.args.pairs.now (length c.args.entries.now)) 0 0) c.entries.made c.in_err-made.field-0.0
    (up (omega (arith, one, all)) (omega arith) (omega arith)) c.entries.invariant.costs c.in_err-made.ensures.costs)

pub returns-clause-costs : goal.returns-clause-costs
returns-clause-costs c =
    shaping_more c.args.replica.now c.entries.replica (cost (dropped_count c.args.pairs.now c.entries.place) 0 0)
    (cost (dropped_count c.args.pairs.now (length c.args.entries.now)) 0 0) c.entries.made
    (up (omega (arith, dropped_longer c.args.pairs.now c.entries.place (length c.args.entries.now) (omega arith))) (omega arith) (omega arith)) c.entries.invariant.costs
