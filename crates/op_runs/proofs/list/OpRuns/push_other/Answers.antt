use Rattle.std.proofs.Common.{◌∙◌, ◌++◌, ◌∷◌, [], ap, arith, length}
use Rattle.op_runs.proofs.PartLemmas.{room_in}
use Rattle.op_runs.proofs.PushLemmas.{other_pushed}
use Rattle.op_runs.proofs.list.OpRuns.push_other.Goals as goal

pub overflow_cast-place : goal.overflow_cast-place
overflow_cast-place c =
    omega (
      arith,
      ap length c.as_slice.ensures.value,
      room_in c.self.inside.letters.items c.self.inside.others.items c.self.inside.parts.items c.self.inside.firsts.items c.self.inside.count c.self.invariant,
      c.self.invariant.small,
    )

pub invariant_of-self-in-Ok : goal.invariant_of-self-in-Ok
invariant_of-self-in-Ok c =
    (other_pushed c.self.inside.letters.items c.self.inside.others.items c.push.new.self.items c.self.inside.parts.items c.add_part.new.parts.items c.self.inside.firsts.items
    c.add_part.new.firsts.items
    c.self.inside.count (length c.as_slice.result.now) c.args.op c.in_default.ensures.items c.self.invariant c.in-Ok.ensures.ok c.in-Ok.ensures.firsts
    (ap length c.as_slice.ensures.value) c.requires.other
    (omega (arith, c.requires.room, c.self.invariant.counted, ap length c.self.view_is))).are

pub returns-in-Ok-clause-ok : goal.returns-in-Ok-clause-ok
returns-in-Ok-clause-ok c =
    (other_pushed c.self.inside.letters.items c.self.inside.others.items c.push.new.self.items c.self.inside.parts.items c.add_part.new.parts.items c.self.inside.firsts.items
    c.add_part.new.firsts.items
    c.self.inside.count (length c.as_slice.result.now) c.args.op c.in_default.ensures.items c.self.invariant c.in-Ok.ensures.ok c.in-Ok.ensures.firsts
    (ap length c.as_slice.ensures.value) c.requires.other
    (omega (arith, c.requires.room, c.self.invariant.counted, ap length c.self.view_is))).ops
    ∙ ap (λ z. z ++ c.args.op ∷ []) c.self.view_is
