use Rattle.std.proofs.Common.{◌∙◌, ◌++◌, ap, arith, length, refl}
use Rattle.fugue_ids.specs.Runs.{run_from}
use Rattle.op_runs.proofs.PartLemmas.{last_short, room_in}
use Rattle.op_runs.proofs.PushLemmas.{run_pushed}
use Rattle.op_runs.proofs.list.OpRuns.push_run.Goals as goal

pub overflow_cast-run : goal.overflow_cast-run
overflow_cast-run c =
    omega (
      arith,
      ap length c.as_slice-at.ensures.value,
      room_in c.self.inside.letters.items c.self.inside.others.items c.self.inside.parts.items c.self.inside.firsts.items c.self.inside.count c.self.invariant,
      c.self.invariant.small,
    )

pub add_run-requires : goal.add_run-requires
add_run-requires c = λ last is.
    omega (
      arith,
      last_short c.self.inside.letters.items c.self.inside.others.items c.self.inside.parts.items c.self.inside.firsts.items c.self.inside.count last c.self.invariant is,
      c.requires.room,
      c.self.invariant.counted,
      ap length c.self.view_is,
    )

pub invariant_of-self-in-Ok : goal.invariant_of-self-in-Ok
invariant_of-self-in-Ok c =
    (run_pushed c.self.inside.letters.items c.extend_from_slice.new.self.items c.args.text.now c.self.inside.others.items c.self.inside.parts.items c.add_run.new.parts.items
    c.self.inside.firsts.items c.add_run.new.firsts.items c.self.inside.count
    (record { start = c.args.start; at = length c.as_slice-at.result.now; count = length c.args.text.now })
    c.in_ok-extend_from_slice.ensures.items c.self.invariant c.in-Ok.ensures.ok (ap length c.as_slice-at.ensures.value) refl c.requires.some c.requires.counters
    (omega (arith, c.requires.room, c.self.invariant.counted, ap length c.self.view_is))).are

pub returns-in-Ok-clause-ok : goal.returns-in-Ok-clause-ok
returns-in-Ok-clause-ok c =
    (run_pushed c.self.inside.letters.items c.extend_from_slice.new.self.items c.args.text.now c.self.inside.others.items c.self.inside.parts.items c.add_run.new.parts.items
    c.self.inside.firsts.items c.add_run.new.firsts.items c.self.inside.count
    (record { start = c.args.start; at = length c.as_slice-at.result.now; count = length c.args.text.now })
    c.in_ok-extend_from_slice.ensures.items c.self.invariant c.in-Ok.ensures.ok (ap length c.as_slice-at.ensures.value) refl c.requires.some c.requires.counters
    (omega (arith, c.requires.room, c.self.invariant.counted, ap length c.self.view_is))).ops
    ∙ ap (λ z. z ++ run_from c.args.start c.args.text.now) c.self.view_is
