use Rattle.std.proofs.Common.{length}
use denote.Text.{Utf8}
use denote.Shadow.{shadow}
use Rattle.cluster_text.specs.Cuts.{IsPassed}
use Rattle.cluster_text.proofs.cutting.pass_part.Given as goal

abbrev pub invariant-scalars : goal.invariant-scalars
invariant-scalars l = shadow (Utf8 l.rest) × IsPassed l.text l.rest l.ending

abbrev pub decreases-scalars : goal.decreases-scalars
decreases-scalars l = length l.rest
