use Rattle.origin_model.proofs.Words.{Catalogue, Ok, flat_map, printed_section, reverse, take}
use Rattle.fugue_ids.specs.Outs.{WritesBytes}
use Rattle.fugue_ids.specs.declared.out.Failed.{Failed}
use Rattle.origin_model.specs.order.Listed.{part}
use Rattle.origin_model.proofs.order.printing.write_manuscript.Given as goal

abbrev pub invariant-sections : goal.invariant-sections
invariant-sections g l =
    WritesBytes {E = Failed} {T = Unit {0}} (g.O.Out.seen l.initial.out) (g.O.Out.seen l.out) (Ok tt)
    (flat_map (part (printed_section (reverse l.ops)) (reverse l.ops) Catalogue) (take l.e-index l.listed))
