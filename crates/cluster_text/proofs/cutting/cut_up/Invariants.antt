use Rattle.std.proofs.Common.{◌≡◌, ◌++◌, length}
use denote.Text.{Utf8}
use denote.Shadow.{shadow}
use Rattle.cluster_text.specs.Cuts.{IsWhole}
use Rattle.cluster_text.specs.Parts.{whole}
use Rattle.cluster_text.proofs.cutting.cut_up.Given as goal

abbrev pub invariant-parts : goal.invariant-parts
invariant-parts l = shadow (Utf8 l.rest) × (whole l.parts ++ l.rest ≡ l.text) × IsWhole l.rest

abbrev pub decreases-parts : goal.decreases-parts
decreases-parts l = length l.rest
