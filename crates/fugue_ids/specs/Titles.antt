-- What a text must be to be a title, or a line.
use Rattle.std.specs.Prelude.{◌≡◌, ℕ, ◌<◌, ◌≤◌, Bool, false, not, ◌&&◌, ◌||◌, nat_eq, nat_le, nat_lt, List, length}
use Rattle.std.specs.List.{list_any}
use Rattle.std.specs.Str.{is_utf8}
use Rattle.fugue_ids.specs.declared.limits.TheConstants.{LONGEST_TITLE}

-- LF or CR
abbrev pub ends_line : ℕ → Bool
ends_line byte = nat_eq byte 10 || nat_eq byte 13

-- an LF or a CR stands in the bytes
abbrev pub has_line_end : List ℕ → Bool
has_line_end bytes = list_any ends_line bytes

-- one line of text: UTF-8 of 1 to so many bytes without LF and CR
abbrev pub is_line : ℕ → List ℕ → Bool
is_line most bytes = is_utf8 bytes && nat_lt 0 (length bytes) && nat_le (length bytes) most && not (has_line_end bytes)

-- 1 to 480 bytes without LF and CR
pub record IsTitleText (bytes : List ℕ) : Type 0 where
  pub some : 0 < length bytes
  pub short : length bytes ≤ LONGEST_TITLE
  pub one_line : has_line_end bytes ≡ false
