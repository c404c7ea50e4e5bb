use Rattle.std.proofs.Common.{arith, length, map, refl, ◌≤◌}
use Rattle.draft_plan.specs.Readings.{seen_part}
use Rattle.draft_plan.proofs.PartLemmas.{good_whole, parts_end}
use Rattle.draft_plan.proofs.reading.read_parts.Goals as goal

pub parts-init : goal.parts-init
parts-init c = rw c.new-parts.ensures.items (record { same = refl; good = good_whole c.args.draft.now c.requires })

pub returns : goal.returns
returns c =
    let none : length c.parts.rest.now ≤ 0 = grind arith in
    parts_end c.args.draft.now c.parts.rest.now (map seen_part c.parts.parts.items) c.parts.invariant.same none
