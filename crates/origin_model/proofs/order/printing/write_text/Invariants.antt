use Rattle.origin_model.proofs.Words.{Ok, flat_map, reverse, take}
use Rattle.fugue_ids.specs.Outs.{WritesBytes}
use Rattle.fugue_ids.specs.declared.out.Failed.{Failed}
use Rattle.origin_model.specs.order.Listed.{part, scalar_bytes_of}
use Rattle.origin_model.proofs.order.printing.write_text.Given as goal

abbrev pub invariant-elements : goal.invariant-elements
invariant-elements g l =
    WritesBytes {E = Failed} {T = Unit {0}} (g.O.Out.seen l.initial.out) (g.O.Out.seen l.out) (Ok tt)
    (flat_map (part (scalar_bytes_of (reverse l.ops)) (reverse l.ops) l.place) (take l.e-index l.listed))
