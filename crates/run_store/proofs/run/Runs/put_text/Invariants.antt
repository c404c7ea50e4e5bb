use Rattle.std.proofs.Common.{length}
use Rattle.run_store.proofs.TextLemmas.{IsUnderWay}
use Rattle.run_store.proofs.run.Runs.put_text.Given as goal

-- what the runs so far add was gathered, and the walk has the others
abbrev pub invariant-runs : goal.invariant-runs
invariant-runs g l = IsUnderWay l.self.letters l.self.rope (g.O.Out.seen l.initial.output) (g.O.Out.seen l.output) l.initial.gather l.gather l.walk

abbrev pub decreases-runs : goal.decreases-runs
decreases-runs g l = length l.walk
