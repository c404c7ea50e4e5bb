use Rattle.std.proofs.Common.{◌≡◌, ◌++◌, length, string_bytes}
use denote.Text.{Utf8}
use denote.Shadow.{shadow}
use Rattle.std.specs.List.{flat_map}
use Rattle.std.specs.Str.{chars}
use Rattle.edit_script.specs.Grammar.{escaped_scalar}
use Rattle.edit_script.proofs.text.read_text.Given as goal

abbrev pub invariant-scalars : goal.invariant-scalars
invariant-scalars l = shadow (Utf8 l.rest) × (l.text ≡ flat_map escaped_scalar (chars (string_bytes l.new)) ++ l.rest)

abbrev pub decreases-scalars : goal.decreases-scalars
decreases-scalars l = length l.rest
