use Rattle.std.proofs.Common.{take, ◌≡◌}
use Rattle.std.specs.Prelude.{string_bytes}
use Rattle.std.specs.Str.{encode_utf8_all}
use Rattle.draft_plan.proofs.revising.text_of.Given as goal

abbrev pub invariant-scalars : goal.invariant-scalars
invariant-scalars l = string_bytes l.text ≡ encode_utf8_all (take l.scalar-index l.scalars)
