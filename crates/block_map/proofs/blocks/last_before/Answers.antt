use Rattle.block_map.proofs.FloorLemmas.{before_none, before_some}
use Rattle.block_map.proofs.blocks.last_before.Goals as goal

pub returns-in-Some-clause-none : goal.returns-in-Some-clause-none
returns-in-Some-clause-none g c =
    let range = c.range.ensures.in_range tt in
    let steps = c.in-Some.ensures.steps in
    let entry = range.3 (c.in-Some.last.now, c.in-Some.block.now) c.next_back.new.self steps in
    (before_some c.args.blocks.now c.requires c.args.key c.in-Some.last.now c.in-Some.block.now entry.1 entry.0.1
    (λ q lt h. range.4 (c.in-Some.last.now, c.in-Some.block.now) c.next_back.new.self steps q (tt, lt) h) c.last.result c.last.ensures.none c.last.ensures.some c.named.result
    c.named.ensures).0

pub returns-in-Some-clause-some : goal.returns-in-Some-clause-some
returns-in-Some-clause-some g c =
    let range = c.range.ensures.in_range tt in
    let steps = c.in-Some.ensures.steps in
    let entry = range.3 (c.in-Some.last.now, c.in-Some.block.now) c.next_back.new.self steps in
    (before_some c.args.blocks.now c.requires c.args.key c.in-Some.last.now c.in-Some.block.now entry.1 entry.0.1
    (λ q lt h. range.4 (c.in-Some.last.now, c.in-Some.block.now) c.next_back.new.self steps q (tt, lt) h) c.last.result c.last.ensures.none c.last.ensures.some c.named.result
    c.named.ensures).1

pub returns-in-None-clause-none : goal.returns-in-None-clause-none
returns-in-None-clause-none g c =
    let range = c.range.ensures.in_range tt in
    before_none c.args.blocks.now c.requires c.args.key (λ q lt. range.5 c.in-None.ensures.steps.0 q (tt, lt))
