use Rattle.std.proofs.Common.{[], take, ◌∷◌}
use Rattle.std.specs.Prelude.{Ok, flat_map}
use Rattle.fugue_ids.specs.Gathers.{GathersText}
use Rattle.passage_remarks.specs.Clusters.{byte_in_line}
use Rattle.passage_remarks.proofs.printing.put_in_line.Given as goal

-- the bytes that were passed are gathered
abbrev pub invariant-letters : goal.invariant-letters
invariant-letters g l =
    GathersText {T = Unit {0}} (g.O.Out.seen l.initial.output) (g.O.Out.seen l.output) l.initial.gather l.gather (Ok tt)
    (flat_map (λ b. byte_in_line b ∷ []) (take l.byte-index l.bytes))
