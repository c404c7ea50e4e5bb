use Rattle.std.proofs.Common.{take, ◌∷◌}
use Rattle.std.specs.Prelude.{Ok, flat_map}
use Rattle.fugue_ids.specs.Outs.{WritesBytes}
use Rattle.fugue_ids.specs.declared.out.Failed.{Failed}
use Rattle.order_proof.specs.Texts.{id_text}
use Rattle.order_proof.proofs.writing.write_ids.Given as goal

abbrev pub invariant-ids : goal.invariant-ids
invariant-ids g l = WritesBytes {E = Failed} {T = Unit {0}} (g.O.Out.seen l.initial.out) (g.O.Out.seen l.out) (Ok tt) (flat_map (λ id. 32 ∷ id_text id) (take l.id-index l.ids))
