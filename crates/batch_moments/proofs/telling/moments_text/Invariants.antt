use Rattle.std.proofs.Common.{drop, ◌++◌, ◌≡◌}
use Rattle.std.specs.Prelude.{flat_map}
use Rattle.batch_moments.specs.Lines.{line_text, moment_lines, lines_of_moments}
use Rattle.batch_moments.proofs.telling.moments_text.Given as goal

-- what is written, and the lines that are left, are all lines
abbrev pub invariant-moments : goal.invariant-moments
invariant-moments l = record {
  left : l.text.items ++ flat_map line_text (lines_of_moments l.from (drop l.moment-index l.moments) l.ops) ≡ flat_map line_text (moment_lines l.moments l.ops);
  rest : l.rest ≡ drop l.from l.ops;
}
