use Rattle.std.proofs.Common.{Ok, Option, subst}
use Rattle.fugue_ids.specs.declared.op.Op.{Op}
use Rattle.op_frame.specs.Readers.{Nexts}
use Rattle.op_frame.proofs.GatherLemmas.{gives_many, gives_with}
use Rattle.op_frame.proofs.reader.FrameReader.next_run.Goals as goal

pub returns-in-Ok-Some-clause-nexts : goal.returns-in-Ok-Some-clause-nexts
returns-in-Ok-Some-clause-nexts g c no_fault =
    let gathers = c.gather.ensures.gathers in
    let before = g.S.Source.seen c.args.source.now in
    let after = g.S.Source.seen c.next.new.source in
    let nexts = subst (λ (given : Option Op). Nexts c.args.self.now c.next.new.self before after (Ok given)) c.in-Ok-Some.field-0-is (c.in-Ok-Some.ensures.nexts no_fault) in
    (gives_with c.args.self.now c.next.new.self c.gather.new.self before after c.in-Ok-Some.op _ gathers.others gathers.ops_are nexts (gathers.gives after), gathers.sound)

pub returns-in-Ok-Some-clause-gives_many : goal.returns-in-Ok-Some-clause-gives_many
returns-in-Ok-Some-clause-gives_many g c no_fault =
    let gathers = c.gather.ensures.gathers in
    let before = g.S.Source.seen c.args.source.now in
    let after = g.S.Source.seen c.next.new.source in
    let nexts = subst (λ (given : Option Op). Nexts c.args.self.now c.next.new.self before after (Ok given)) c.in-Ok-Some.field-0-is (c.in-Ok-Some.ensures.nexts no_fault) in
    gives_many c.args.self.now c.gather.new.self before after _
    (gives_with c.args.self.now c.next.new.self c.gather.new.self before after c.in-Ok-Some.op _ gathers.others gathers.ops_are nexts (gathers.gives after))
