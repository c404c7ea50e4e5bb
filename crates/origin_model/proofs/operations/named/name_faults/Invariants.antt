use Rattle.std.proofs.Common.{take, ◌≡◌}
use Rattle.origin_model.specs.operations.Verdict.{first_missing, first_stray, names}
use Rattle.origin_model.proofs.operations.named.name_faults.Given as goal

-- the faults of the names so far
abbrev pub invariant-names : goal.invariant-names
invariant-names g l = record {
  stray : l.faults.stray ≡ first_stray (g.L.Lookup.history l.lookup) (take l.named-index (names l.op));
  missing : l.faults.missing ≡ first_missing (g.L.Lookup.history l.lookup) (take l.named-index (names l.op));
}
