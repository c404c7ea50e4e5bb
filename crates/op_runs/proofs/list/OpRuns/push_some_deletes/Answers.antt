use Rattle.std.proofs.Common.{◌∙◌, ◌++◌, ap, arith, false, length}
use Rattle.op_runs.specs.Deletions.{deletes_by}
use Rattle.op_runs.proofs.PartLemmas.{last_short}
use Rattle.op_runs.proofs.PushLemmas.{deletes_pushed, few_pushed, some_pushed}
use Rattle.op_runs.proofs.list.OpRuns.push_some_deletes.Goals as goal

pub add_deletes-requires-clause-room : goal.add_deletes-requires-clause-room
add_deletes-requires-clause-room c = λ last is.
    omega (
      arith,
      last_short c.self.inside.letters.items c.self.inside.others.items c.self.inside.parts.items c.self.inside.firsts.items c.self.inside.count last c.self.invariant is,
      c.requires.room,
      c.self.invariant.counted,
      ap length c.self.view_is,
    )

pub invariant_of-self-2 : goal.invariant_of-self-2
invariant_of-self-2 c =
    (deletes_pushed c.self.inside.letters.items c.self.inside.others.items c.self.inside.parts.items c.add_deletes.new.parts.items c.self.inside.firsts.items
    c.add_deletes.new.firsts.items
    c.self.inside.count c.args.most c.in_ok-count.count c.args.first c.self.invariant c.in_ok-count.ensures.ok c.requires.some c.requires.counters
    (omega (arith, c.requires.room, c.self.invariant.counted, ap length c.self.view_is))).are

pub returns-clause-ok : goal.returns-clause-ok
returns-clause-ok c =
    (deletes_pushed c.self.inside.letters.items c.self.inside.others.items c.self.inside.parts.items c.add_deletes.new.parts.items c.self.inside.firsts.items
    c.add_deletes.new.firsts.items
    c.self.inside.count c.args.most c.in_ok-count.count c.args.first c.self.invariant c.in_ok-count.ensures.ok c.requires.some c.requires.counters
    (omega (arith, c.requires.room, c.self.invariant.counted, ap length c.self.view_is))).ops
    ∙ ap (λ z. z ++ deletes_by false c.args.first c.in_ok-count.count) c.self.view_is

pub returns-clause-some : goal.returns-clause-some
returns-clause-some c =
    some_pushed c.self.inside.parts.items c.add_deletes.new.parts.items c.self.inside.firsts.items c.add_deletes.new.firsts.items c.self.inside.count c.args.most
    c.in_ok-count.count c.args.first c.in_ok-count.ensures.ok c.requires.some

pub returns-clause-within : goal.returns-clause-within
returns-clause-within c =
    few_pushed c.self.inside.parts.items c.add_deletes.new.parts.items c.self.inside.firsts.items c.add_deletes.new.firsts.items c.self.inside.count c.args.most
    c.in_ok-count.count c.args.first c.in_ok-count.ensures.ok
