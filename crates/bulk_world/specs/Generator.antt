-- The numbers by which a bulk manuscript is made, and the edit that each of them asks for.
use Rattle.std.specs.Prelude.{◌+◌, ◌*◌, ◌/◌, ◌%◌, ℕ, Bool, not, ◌&&◌, nat_eq, if◌then◌else◌, [], ◌∷◌}
use Rattle.origin_model.specs.edits.Edits.{Command, Put, Cut}

-- the number after x
abbrev pub next : ℕ → ℕ
next x = (1664525 * x + 1013904223) % 4294967296

-- the upper half of a number
abbrev pub upper : ℕ → ℕ
upper x = x / 65536

-- whether a scalar goes, where so many are shown
abbrev pub cuts : (x shown : ℕ) → Bool
cuts x shown = not (nat_eq shown 0) && nat_eq (upper x % 8) 0

-- a letter from `a` to `z`
abbrev pub letter : ℕ → ℕ
letter x = 97 + upper x / 8 % 26

-- the edit of the first section that x asks for, where so many scalars are shown of it
abbrev pub drawn_command : (x shown : ℕ) → Command
drawn_command x shown = if cuts x shown then Cut 0 (x % shown) 1 else Put 0 (x % (shown + 1)) (letter x ∷ [])
