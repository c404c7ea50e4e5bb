use Rattle.std.proofs.Common.{take, ◌++◌, ◌≡◌}
use Rattle.std.specs.Prelude.{codes, flat_map}
use Rattle.batch_moments.specs.Lines.{part_text}
use Rattle.batch_moments.proofs.part.put_parts.Given as goal

abbrev pub invariant-parts : goal.invariant-parts
invariant-parts l = l.text.items ≡ l.initial.text.items ++ flat_map (λ next. codes ", " ++ part_text next) (take l.part-index l.rest)
