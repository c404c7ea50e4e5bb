use Rattle.std.proofs.Common.{◌≡◌, take}
use Rattle.op_runs.proofs.repeat.same_len.Given as goal

-- the scalars so far are the same
abbrev pub invariant-loop-count : goal.invariant-loop-count
invariant-loop-count l = take l.count l.letters ≡ take l.count l.text
