use Rattle.std.specs.Prelude.{◌-◌}
use Rattle.run_store.proofs.HideRunLemmas.{IsHidingRun}
use Rattle.run_store.proofs.run.Runs.hide_run.Given as goal

-- the first are hidden
abbrev pub invariant-parts : goal.invariant-parts
invariant-parts l = IsHidingRun l.initial.self l.first l.count l.self l.done

abbrev pub decreases-parts : goal.decreases-parts
decreases-parts l = l.count - l.done
