use Rattle.catalogue_notes.specs.Arranged.{arranged}
use Rattle.draft_plan.specs.Plans.{filling}
use Rattle.draft_plan.proofs.PlanLemmas.{filling_all, filling_lacks, filling_more, no_hunks, part_got}
use Rattle.draft_plan.proofs.LimitLemmas.{costs_none}
use Rattle.std.proofs.Common.{[], ap, arith, get_or, map, refl, sym, ◌+◌, ◌∙◌}
use Rattle.std.specs.Prelude.{slice_get}
use Rattle.std.proofs.lemmas.List.{length-map}
use Rattle.std.specs.Str.{encode_utf8_all}
use Rattle.std.proofs.lemmas.Result.{err_from_is_err_and}
use Rattle.draft_plan.specs.Readings.{seen_part}
use Rattle.draft_plan.proofs.MakingLemmas.{makes_few, stops_behind}
use Rattle.draft_plan.proofs.OutlineLemmas.{entry_at, outline_long, part_is}
use Rattle.draft_plan.proofs.RevisionLemmas.{filled_more, filled_none, revised_all}
use Rattle.draft_plan.proofs.revision.fill.Goals as goal

pub parts-init : goal.parts-init
parts-init c = record {
  settled = c.requires.settled;
  sound = c.requires.sound;
  arranges = c.new-arranger.ensures.arranges c.args.replica.now.held.history;
  filled = filled_none c.args.replica.now (map seen_part c.args.parts.now);
  costs = ([], refl, no_hunks _ _ _, costs_none c.args.replica.now (filling 0 []));
}

pub fill_section-requires-clause-placed : goal.fill_section-requires-clause-placed
fill_section-requires-clause-placed c =
    let at = entry_at c.args.replica.now.held.history c.args.entries.now c.parts.place c.index-entries-place.result c.requires.outline (omega arith) c.index-entries-place.is in
    ap (λ xs. slice_get xs c.parts.place) c.parts.invariant.filled.arranged_as ∙ at.placed

pub fill_section-requires-clause-numbered : goal.fill_section-requires-clause-numbered
fill_section-requires-clause-numbered c =
    let at = entry_at c.args.replica.now.held.history c.args.entries.now c.parts.place c.index-entries-place.result c.requires.outline (omega arith) c.index-entries-place.is in
    ap (λ xs. slice_get xs c.index-entries-place.result.number) c.parts.invariant.filled.catalogue_is ∙ at.entry.numbered

pub fill_section-requires-clause-headed : goal.fill_section-requires-clause-headed
fill_section-requires-clause-headed c =
    let at = entry_at c.args.replica.now.held.history c.args.entries.now c.parts.place c.index-entries-place.result c.requires.outline (omega arith) c.index-entries-place.is in
    at.entry.headed ∙ ap encode_utf8_all (sym ((c.parts.invariant.filled.each c.parts.place c.index-entries-place.result.section at.placed).1 (omega arith)).headed)

pub returns-in_err-made-clause-stops : goal.returns-in_err-made-clause-stops
returns-in_err-made-clause-stops c =
    let p = err_from_is_err_and c.from_residual.result c.from_residual.ensures.1 in
    rw (p.1, p.2)
    (stops_behind c.args.replica.now c.parts.replica c.fill_section.new.replica c.parts.made c.in_err-made.field-0.0 c.parts.invariant.filled.makes c.in_err-made.ensures.stops)

pub overflow_add-made : goal.overflow_add-made
overflow_add-made c =
    let start = c.args.replica.now in
    let ps = c.args.parts.now in
    let at = entry_at start.held.history c.args.entries.now c.parts.place c.index-entries-place.result c.requires.outline (omega arith) c.index-entries-place.is in
    let more = filled_more start c.parts.replica c.fill_section.new.replica (map seen_part ps) c.parts.place c.parts.made c.in_ok-made.field-0 c.index-entries-place.result.section
    (seen_part (get_or ps c.parts.place _)) c.requires.sound.lawful c.parts.invariant.filled at.placed (part_is ps c.parts.place _ (omega arith)) c.in_ok-made.ensures.filled in
    omega (arith, makes_few start c.fill_section.new.replica (c.parts.made + c.in_ok-made.field-0) more.makes c.in_ok-made.ensures.sound)

pub parts-preserved : goal.parts-preserved
parts-preserved c =
    let start = c.args.replica.now in
    let ps = c.args.parts.now in
    let at = entry_at start.held.history c.args.entries.now c.parts.place c.index-entries-place.result c.requires.outline (omega arith) c.index-entries-place.is in
    let same = (c.parts.invariant.filled.each c.parts.place c.index-entries-place.result.section at.placed).1 (omega arith) in
    record {
      settled = c.in_ok-made.ensures.settled;
      sound = c.in_ok-made.ensures.sound;
      arranges = c.in_ok-made.ensures.arranges;
      filled = filled_more start c.parts.replica c.fill_section.new.replica (map seen_part ps) c.parts.place c.parts.made c.in_ok-made.field-0 c.index-entries-place.result.section
          (seen_part (get_or ps c.parts.place _)) c.requires.sound.lawful c.parts.invariant.filled at.placed
          (part_is ps c.parts.place _ (omega arith)) c.in_ok-made.ensures.filled;
      costs = filling_more start c.parts.replica (slice_get (arranged start.held.history)) (map seen_part ps) c.parts.place c.parts.made c.index-entries-place.result.section
          (seen_part (get_or ps c.parts.place _))
          at.placed (part_got (map seen_part ps) c.parts.place (seen_part (get_or ps c.parts.place _)) (part_is ps c.parts.place _ (omega arith))
          (omega (arith, length-map ps seen_part)))
          same.headed same.reads c.parts.invariant.costs c.fill_section.new.replica c.in_ok-made.field-0 c.in_ok-made.ensures.costs;
    }

pub returns-clause-revised : goal.returns-clause-revised
returns-clause-revised c =
    let start = c.args.replica.now in
    let ps = c.args.parts.now in
    let long = outline_long start.held.history c.args.entries.now c.requires.outline in
    revised_all start c.parts.replica (map seen_part ps) c.parts.place c.parts.made c.requires.sound.lawful c.parts.invariant.filled (omega (arith, long))
    (omega (arith, long, length-map ps seen_part))

pub returns-clause-same : goal.returns-clause-same
returns-clause-same c = c.parts.invariant.filled.nothing

pub returns-clause-touches : goal.returns-clause-touches
returns-clause-touches c = c.parts.invariant.filled.touches

pub returns-in_err-made-clause-costs : goal.returns-in_err-made-clause-costs
returns-in_err-made-clause-costs c =
    let start = c.args.replica.now in
    let ps = map seen_part c.args.parts.now in
    let at = entry_at start.held.history c.args.entries.now c.parts.place c.index-entries-place.result c.requires.outline (omega arith) c.index-entries-place.is in
    let same = (c.parts.invariant.filled.each c.parts.place c.index-entries-place.result.section at.placed).1 (omega arith) in
    let p = err_from_is_err_and c.from_residual.result c.from_residual.ensures.1 in
    rw (p.1, p.2)
    (filling_lacks start c.parts.replica (slice_get (arranged start.held.history)) ps c.parts.place c.parts.made c.index-entries-place.result.section
    (seen_part (get_or c.args.parts.now c.parts.place _))
    at.placed (part_got ps c.parts.place (seen_part (get_or c.args.parts.now c.parts.place _)) (part_is c.args.parts.now c.parts.place _ (omega arith))
    (omega (arith, length-map c.args.parts.now seen_part)))
    same.headed same.reads c.parts.invariant.costs c.fill_section.new.replica c.in_err-made.field-0.0
    (omega (arith, length-map c.args.parts.now seen_part)) c.in_err-made.ensures.costs)

pub returns-clause-costs : goal.returns-clause-costs
returns-clause-costs c =
    let start = c.args.replica.now in
    let ps = c.args.parts.now in
    let long = outline_long start.held.history c.args.entries.now c.requires.outline in
    filling_all start c.parts.replica (slice_get (arranged start.held.history)) (map seen_part ps) c.parts.place c.parts.made
    (omega (arith, long, length-map ps seen_part)) c.parts.invariant.costs
