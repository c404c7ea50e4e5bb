use Rattle.draft_plan.specs.Limits.{cost}
use Rattle.draft_plan.specs.Plans.{added_count, unmatched_count}
use Rattle.draft_plan.proofs.PlanLemmas.{added_longer, added_more, part_got}
use Rattle.draft_plan.proofs.EditCostLemmas.{shaping_join, shaping_more, shaping_none, shaping_stop}
use Rattle.draft_plan.proofs.LimitLemmas.{up}
use Rattle.std.proofs.Common.{List, ap, arith, get_or, length, map, subst, sym, ◌+◌, ◌≡◌}
use Rattle.std.proofs.lemmas.List.{length-map}
use Rattle.std.proofs.lemmas.Result.{err_from_is_err_and}
use Rattle.fugue_ids.specs.Identifiers.{Identifier}
use Rattle.origin_model.specs.declared.operations.Place.TheVariants.{Catalogue as catalogue}
use Rattle.origin_model.specs.order.Printed.{shown}
use Rattle.catalogue_notes.specs.Outlining.{entry_sections}
use Rattle.catalogue_notes.specs.declared.entry.Entry.{Entry}
use Rattle.section_plan.specs.Matching.{IsMatching, section_of}
use Rattle.draft_plan.specs.Readings.{seen_part}
use Rattle.draft_plan.specs.Resizing.{AreLeft, AreTargetsTo}
use Rattle.draft_plan.proofs.MakingLemmas.{makes_few}
use Rattle.draft_plan.proofs.OutlineLemmas.{part_is}
use Rattle.draft_plan.proofs.ShapeLemmas.{places_join, places_none, shaped_join, shaped_none, stops_shaped, wants_memory}
use Rattle.draft_plan.proofs.TargetLemmas.{matched_held, matched_within, targets_all, targets_more, targets_start, taken_places}
use Rattle.draft_plan.proofs.resizing.add_missing.Goals as goal

pub parts-init : goal.parts-init
parts-init c =
    let s = c.args.replica.now in
    let ys : List Identifier = entry_sections c.args.entries.now in
    let long : length ys ≡ length c.args.entries.now = length-map c.args.entries.now (λ (e : Entry). e.section) in
    let m = subst (λ n. IsMatching n (length c.args.parts.now) c.args.pairs.now) (sym long) c.requires.matching in
    let left = subst (λ n. AreLeft ys c.args.pairs.now n (shown catalogue s.held.history)) (sym long) c.requires.left in
    record {
      settled = c.requires.settled;
      sound = c.requires.sound;
      shaped = shaped_none s;
      costs = shaping_none s (cost 0 0 0);
      places = places_none s.held.history;
      anchor = tt;
      targets = subst (AreTargetsTo s s ys c.args.pairs.now (map seen_part c.args.parts.now) 0) (sym c.requires.none)
          (targets_start s ys c.args.pairs.now (length c.args.parts.now) (map seen_part c.args.parts.now) m left);
    }

pub take_part-requires-clause-there : goal.take_part-requires-clause-there
take_part-requires-clause-there c = c.parts.invariant.targets.there

pub take_part-requires-clause-staying : goal.take_part-requires-clause-staying
take_part-requires-clause-staying c = omega (arith, ap length c.as_slice.ensures.value, c.in_ok-stays.ensures)

pub take_part-requires-clause-within : goal.take_part-requires-clause-within
take_part-requires-clause-within c = λ i e. matched_within (length c.args.entries.now) (length c.args.parts.now) c.args.pairs.now c.parts.place i c.requires.matching e

pub returns-in_err-made-clause-shapes : goal.returns-in_err-made-clause-shapes
returns-in_err-made-clause-shapes c =
    let p = err_from_is_err_and c.from_residual-in_err-made.result c.from_residual-in_err-made.ensures.1 in
    rw (p.1, p.2)
    (stops_shaped c.args.replica.now c.parts.replica c.take_part.new.replica c.parts.made c.in_err-made.field-0.0 c.parts.invariant.shaped c.in_err-made.ensures.shapes)

pub overflow_add-made : goal.overflow_add-made
overflow_add-made c =
    let more = shaped_join c.args.replica.now c.parts.replica c.take_part.new.replica c.parts.made c.in_ok-made.field-0 c.parts.invariant.shaped c.in_ok-made.ensures.shapes in
    omega (arith, makes_few c.args.replica.now c.take_part.new.replica (c.parts.made + c.in_ok-made.field-0) more.makes c.in_ok-made.ensures.sound)

pub parts-preserved : goal.parts-preserved
parts-preserved c =
    let s = c.args.replica.now in
    let was = c.parts.invariant in
    let e = c.in_ok-made.ensures in
    let ps = c.args.parts.now in
    let n = added_count c.args.pairs.now c.parts.place in
    let one = unmatched_count (section_of c.args.pairs.now c.parts.place) in
    let more = added_count c.args.pairs.now (c.parts.place + 1) in
    let ys : List Identifier = entry_sections c.args.entries.now in
    let long : length ys ≡ length c.args.entries.now = length-map c.args.entries.now (λ (e : Entry). e.section) in
    let m = subst (λ n. IsMatching n (length c.args.parts.now) c.args.pairs.now) (sym long) c.requires.matching in
    let left = subst (λ n. AreLeft ys c.args.pairs.now n (shown catalogue s.held.history)) (sym long) c.requires.left in
    record {
      settled = e.settled;
      sound = e.sound;
      shaped = shaped_join s c.parts.replica c.take_part.new.replica c.parts.made c.in_ok-made.field-0 was.shaped e.shapes;
      costs = shaping_join s c.parts.replica c.take_part.new.replica (cost n n 0) (cost one one 0) (cost more more 0) c.parts.made c.in_ok-made.field-0
          (up (omega (arith, added_more c.args.pairs.now c.parts.place)) (omega (arith, added_more c.args.pairs.now c.parts.place)) (omega arith)) was.costs e.costs;
      places = places_join s.held.history c.parts.replica.held.history c.take_part.new.replica.held.history was.places
          (taken_places c.parts.replica c.take_part.new.replica ys
          (section_of c.args.pairs.now c.parts.place) c.parts.anchor _ c.parts.sections.items c.take_part.new.sections.items e.taken);
      anchor = e.anchor;
      targets = targets_more s c.parts.replica c.take_part.new.replica ys c.args.pairs.now (length c.args.parts.now) c.parts.place (map seen_part ps)
          (seen_part (get_or ps c.parts.place _))
          (part_got (map seen_part ps) c.parts.place (seen_part (get_or ps c.parts.place _)) (part_is ps c.parts.place _ (omega arith)) (omega (arith, length-map ps seen_part)))
          c.parts.anchor c.parts.sections.items c.take_part.new.sections.items m c.requires.once
          was.sound.lawful (matched_held s ys (length c.args.parts.now) c.args.pairs.now c.requires.sound.lawful m left) was.shaped.keeps.held was.targets e.taken;
    }

pub returns-clause-targets : goal.returns-clause-targets
returns-clause-targets c =
    let ys : List Identifier = entry_sections c.args.entries.now in
    let long : length ys ≡ length c.args.entries.now = length-map c.args.entries.now (λ (e : Entry). e.section) in
    let m = subst (λ n. IsMatching n (length c.args.parts.now) c.args.pairs.now) (sym long) c.requires.matching in
    targets_all c.args.replica.now c.parts.replica ys c.args.pairs.now (length c.args.parts.now) c.parts.place (map seen_part c.args.parts.now) c.parts.sections.items m
    (omega arith) (length-map c.args.parts.now seen_part) c.parts.invariant.targets

pub returns-in_err-made-clause-costs : goal.returns-in_err-made-clause-costs
returns-in_err-made-clause-costs c =
    let p = err_from_is_err_and c.from_residual-in_err-made.result c.from_residual-in_err-made.ensures.1 in
    let n = added_count c.args.pairs.now c.parts.place in
    let one = unmatched_count (section_of c.args.pairs.now c.parts.place) in
    let all = added_count c.args.pairs.now (length c.args.parts.now) in
    let more = added_more c.args.pairs.now c.parts.place in
    let longer = added_longer c.args.pairs.now (c.parts.place + 1) (length c.args.parts.now) (omega arith) in
    rw (p.1, p.2)
    (shaping_stop c.args.replica.now c.parts.replica (cost n n 0) (cost one one 0) (cost all all 0) c.parts.made c.in_err-made.field-0.0
    (up (omega (arith, more, longer)) (omega (arith, more, longer)) (omega arith)) c.parts.invariant.costs c.in_err-made.ensures.costs)

pub returns-clause-costs : goal.returns-clause-costs
returns-clause-costs c =
    let n = added_count c.args.pairs.now c.parts.place in
    let all = added_count c.args.pairs.now (length c.args.parts.now) in
    let longer = added_longer c.args.pairs.now c.parts.place (length c.args.parts.now) (omega arith) in
    shaping_more c.args.replica.now c.parts.replica (cost n n 0) (cost all all 0) c.parts.made
    (up (omega (arith, longer)) (omega (arith, longer)) (omega arith)) c.parts.invariant.costs

pub returns-in_err-stays-clause-shapes : goal.returns-in_err-stays-clause-shapes
returns-in_err-stays-clause-shapes c =
    let p = err_from_is_err_and c.from_residual.result c.from_residual.ensures.1 in
    rw (p.1, p.2) (wants_memory c.args.replica.now)

pub returns-in_err-stays-clause-costs : goal.returns-in_err-stays-clause-costs
returns-in_err-stays-clause-costs c =
    let p = err_from_is_err_and c.from_residual.result c.from_residual.ensures.1 in
    rw (p.1, p.2) tt
