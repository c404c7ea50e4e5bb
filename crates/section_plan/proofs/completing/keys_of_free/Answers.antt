use Rattle.std.proofs.Common.{arith}
use Rattle.section_plan.proofs.KeyLemmas.{keys_more, keys_same}
use Rattle.section_plan.proofs.completing.keys_of_free.Goals as goal
use Rattle.section_plan.proofs.completing.keys_of_free.Goals.{then-is_none+in_ok-insert, else-is_none}

pub sections-preserved : goal.sections-preserved
sections-preserved c =
    elim c.if-is_none.branch [
      | then-is_none+in_ok-insert w ↦ rw w.keys-is
          (keys_more c.args.pairs.now c.args.sections.now c.args.key c.sections.place w.key_of.result.now c.sections.keys w.insert.new.self w.key_of.ensures c.sections.invariant
          w.in_ok-insert.ensures.updates)
      | else-is_none w ↦ rw w.keys-is (keys_same c.args.pairs.now c.args.sections.now c.args.key c.sections.place c.sections.keys c.sections.invariant (λ e. grind arith))
    ]
