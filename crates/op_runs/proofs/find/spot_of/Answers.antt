use Rattle.std.proofs.Common.{arith}
use Rattle.op_runs.proofs.FindLemmas.{firsts_rise, none_floor, spot_floor}
use Rattle.op_runs.proofs.find.spot_of.Goals as goal

pub floor_of-requires : goal.floor_of-requires
floor_of-requires c = firsts_rise c.args.firsts.now c.args.parts.now c.requires.firsts c.requires.some

pub returns-in_default-clause-none : goal.returns-in_default-clause-none
returns-in_default-clause-none c = none_floor c.args.parts.now c.args.firsts.now c.args.position c.requires.firsts c.in_default.ensures.none

pub returns-clause-some : goal.returns-clause-some
returns-clause-some c =
    spot_floor c.args.parts.now c.args.firsts.now c.in-Some.part c.args.position c.requires.firsts c.in-Some.ensures.some
    (omega (arith, c.if-position-count.false, c.requires.counted))
