use Rattle.std.proofs.Common.{length, ◌+◌, ◌-◌, ◌≡◌, ◌≤◌}
use Rattle.std.specs.Io.KnownBytes.{prepend_known}
use Rattle.outer_ports.specs.Sources.{KeepsCount}
use Rattle.manuscript_cli.specs.declared.check.TheConstants.{LONGEST_TEXT}
use Rattle.manuscript_cli.proofs.check.read_text.Given as goal

abbrev pub invariant-reads : goal.invariant-reads
invariant-reads g l = record {
  split : (g.S.Source.seen l.fn.source).left ≡ prepend_known l.text.items (g.S.Source.seen l.source).left;
  bound : length l.text.items ≤ LONGEST_TEXT + 1;
  count : KeepsCount (g.S.Source.seen l.fn.source) (g.S.Source.seen l.source) ⊥;
}

abbrev pub decreases-reads : goal.decreases-reads
decreases-reads g l = LONGEST_TEXT + 1 - length l.text.items
