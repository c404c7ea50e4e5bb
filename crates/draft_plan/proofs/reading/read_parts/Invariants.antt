use Rattle.std.proofs.Common.{length, map, ◌++◌, ◌≡◌}
use Rattle.draft_plan.specs.Drafts.{parts_of, pieces}
use Rattle.draft_plan.specs.Readings.{IsGood, seen_part}
use Rattle.draft_plan.proofs.reading.read_parts.Given as goal

abbrev pub invariant-parts : goal.invariant-parts
invariant-parts l = record {
  same : parts_of (pieces l.draft) ≡ map seen_part l.parts.items ++ parts_of (pieces l.rest);
  good : IsGood l.rest;
}

abbrev pub decreases-parts : goal.decreases-parts
decreases-parts l = length l.rest
