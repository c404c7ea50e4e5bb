-- Bytes that come from a source, after those that came before.
use Rattle.std.proofs.Common.{◌≡◌, ℕ, ◌+◌, ◌≤◌, List, ◌++◌, Option, Some, None, length, take, refl, ap, sym, ◌∙◌, append_assoc}
use Rattle.std.specs.Io.KnownBytes.{prepend_known}
use Rattle.std.proofs.Math.Seq.{take-append-add}
use Rattle.std.proofs.lemmas.List.{length-take-le}

-- the first ones of a buffer, and what was put after them
pub placed_longer : (old new part : List ℕ) (from n : ℕ) → new ≡ take from old ++ part → from ≤ length old → take (from + n) new ≡ take from old ++ take n part
placed_longer old new part from n is within =
    ap (take (from + n)) is
    ∙ ap (λ (k : ℕ). take (k + n) (take from old ++ part)) (sym (length-take-le from old within))
    ∙ take-append-add (take from old) part n
