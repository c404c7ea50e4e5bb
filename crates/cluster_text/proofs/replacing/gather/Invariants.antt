use Rattle.std.proofs.Common.{◌-◌, length, string_bytes}
use Rattle.std.specs.Str.{chars}
use Rattle.cluster_text.specs.Endings.{IsEnding}
use Rattle.cluster_text.specs.Parts.{IsGathered}
use Rattle.cluster_text.proofs.replacing.gather.Given as goal

abbrev pub invariant-parts : goal.invariant-parts
invariant-parts l = IsGathered l.parts (string_bytes l.initial.text) (string_bytes l.text) l.from l.behind × IsEnding (chars (string_bytes l.text)) l.ending

abbrev pub decreases-parts : goal.decreases-parts
decreases-parts l = length l.parts - l.behind
