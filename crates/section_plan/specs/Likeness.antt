-- Texts that are alike. A text is a list of scalars.
use Rattle.std.specs.Prelude.{ℕ, ◌*◌, nat_eq, nat_le, nat_lt, Bool, ◌&&◌, ◌||◌, if◌then◌else◌, List, length, reverse}
use Rattle.std.specs.List.{common_prefix_len, list_any}
use Rattle.std.specs.Char.Unicode.Alphabetic.{is_alphabetic}

-- the longer one of two texts
abbrev pub longer_text : (old new : List ℕ) → List ℕ
longer_text old new = if nat_lt (length old) (length new) then new else old

-- so many scalars are a third of a length at least
abbrev pub shares_third : (common long : ℕ) → Bool
shares_third common long = nat_le long (3 * common)

-- the longer one has a letter, and a third of its length at least is common at the front or at the end
abbrev pub alike : (old new : List ℕ) → Bool
alike old new =
    list_any is_alphabetic (longer_text old new)
    && (shares_third (common_prefix_len nat_eq old new) (length (longer_text old new))
    || shares_third (common_prefix_len nat_eq (reverse old) (reverse new)) (length (longer_text old new)))
