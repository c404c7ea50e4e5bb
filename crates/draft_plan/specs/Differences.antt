-- Where two lists of bytes first differ.
use Rattle.std.specs.Prelude.{ℕ, nat_eq, Option, Some, None, ◌&&◌, if◌then◌else◌, List, length}
use Rattle.std.specs.List.{common_prefix_len}

-- n, unless both lists have so many bytes and no more
abbrev pub unless_whole : (n : ℕ) → (a b : List ℕ) → Option ℕ
unless_whole n a b = if nat_eq n (length a) && nat_eq n (length b) then None else Some n

-- the first place where the lists differ, or where the shorter one ends: None where they are the same
abbrev pub first_difference : List ℕ → List ℕ → Option ℕ
first_difference a b = unless_whole (common_prefix_len nat_eq a b) a b
