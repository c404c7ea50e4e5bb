use Rattle.std.proofs.Common.{◌≡◌, ◌≤◌, ◌-◌, length, take}
use Rattle.std.specs.Io.KnownBytes.{prepend_known}
use Rattle.outer_ports.specs.Sources.{KeepsCount}
use Rattle.edit_script.proofs.script.fill.Given as goal

abbrev pub invariant-reads : goal.invariant-reads
invariant-reads g l = record {
  size : length l.buffer ≡ length l.initial.buffer;
  bound : l.len ≤ length l.buffer;
  split : (g.S.Source.seen l.fn.source).left ≡ prepend_known (take l.len l.buffer) (g.S.Source.seen l.source).left;
  count : KeepsCount (g.S.Source.seen l.fn.source) (g.S.Source.seen l.source) ⊥;
}

abbrev pub decreases-reads : goal.decreases-reads
decreases-reads g l = length l.buffer - l.len
