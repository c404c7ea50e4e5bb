-- Where texts are cut.
use Rattle.std.specs.Prelude.{◌≡◌, ◌⊎◌, ℕ, ◌<◌, true, List, [], ◌++◌, take, drop, encode_utf8_all}
use Rattle.std.specs.Str.{IsUtf8, chars}
use Rattle.cluster_text.specs.Boundaries.{first_opens, is_closed, stands_alone}
use Rattle.cluster_text.specs.Endings.{IsEnding}
use Rattle.cluster_text.specs.declared.ending.Ending.{Ending}

-- the text is empty, or it stands alone
abbrev pub IsWhole : List ℕ → Type 0
IsWhole text = (text ≡ []) ⊎ (stands_alone text ≡ true)

-- the text is split after its first n scalars, and `rest` is what is left
pub record SplitsAt (text rest : List ℕ) (n : ℕ) : Type 0 where
  pub utf8 : IsUtf8 rest
  pub text_is : text ≡ encode_utf8_all (take n (chars text)) ++ rest
  pub rest_is : chars rest ≡ drop n (chars text)

-- the text up to `rest` was passed, and it ends so
pub record IsPassed (text rest : List ℕ) (ending : Ending) : Type 0 where
  pub count : ℕ
  pub splits : SplitsAt text rest count
  pub ends : IsEnding (take count (chars text)) ending

-- the text is cut in front of `rest`: at its end, or where a cluster ends whatever stands around
pub record IsCut (text rest : List ℕ) : Type 0 where
  pub count : ℕ
  pub splits : SplitsAt text rest count
  pub some : 0 < count
  pub boundary : (rest ≡ []) ⊎ ((is_closed (take count (chars text)) ≡ true) × (first_opens (chars rest) ≡ true))
