use Rattle.std.proofs.Common.{take}
use Rattle.std.specs.Prelude.{Ok, flat_map}
use Rattle.fugue_ids.specs.Gathers.{GathersText}
use Rattle.catalogue_notes.specs.Arranged.{arranged}
use Rattle.change_marks.specs.Steps.{dropped_part}
use Rattle.change_marks.proofs.changes.put_all_dropped.Given as goal

-- what is reported of the sections that were passed is gathered
abbrev pub invariant-walk : goal.invariant-walk
invariant-walk g l =
    GathersText {T = Unit {0}} (g.O.Out.seen l.initial.output) (g.O.Out.seen l.output) l.initial.gather l.gather (Ok tt)
    (flat_map (dropped_part l.then l.now) (take l.section-index (arranged l.then)))
