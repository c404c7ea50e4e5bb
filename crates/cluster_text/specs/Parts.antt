-- A text in parts, over whose ends no cluster goes.
use Rattle.std.specs.Prelude.{◌≡◌, ℕ, ◌+◌, ◌-◌, ◌<◌, ◌≤◌, true, List, [], ◌∷◌, ◌++◌, length, map, take, drop, string_bytes}
use Rattle.std.specs.List.{concat}
use Rattle.std.specs.Str.{chars, is_utf8}
use Rattle.cluster_text.specs.declared.part.Part.{Part}

-- what parts make up
abbrev pub whole : List Part → List ℕ
whole parts = concat (map (λ part. string_bytes part.text) parts)

-- how many scalars they have
abbrev pub scalar_count : List Part → ℕ
scalar_count parts = length (chars (whole parts))

-- a text between two NULs: a cluster ends after the first and before the last, whatever the text is
abbrev pub between_nuls : List ℕ → List ℕ
between_nuls text = 0 ∷ text ++ 0 ∷ []

-- what stands between the first and the last byte
abbrev pub inside : List ℕ → List ℕ
inside bytes = take (length bytes - 2) (drop 1 bytes)

-- the parts make up an enclosed text of so many scalars, the two NULs counted
pub record IsIndex (parts : List Part) (count : ℕ) : Type 0 where
  pub text_is : whole parts ≡ between_nuls (inside (whole parts))
  pub utf8 : is_utf8 (inside (whole parts)) ≡ true
  pub count_is : count ≡ scalar_count parts

-- the scalar at this place stands in the part at `index`, with `within` scalars of the part in front of it
pub record IsSpot (parts : List Part) (at index within : ℕ) : Type 0 where
  pub front : List Part
  pub here : Part
  pub back : List Part
  pub parts_are : parts ≡ front ++ here ∷ back
  pub index_is : index ≡ length front
  pub place : at ≡ scalar_count front + within
  pub fits : within < length (chars (string_bytes here.text))

-- a text went on with the parts from one index up to another
pub record IsGathered (parts : List Part) (old new : List ℕ) (from to : ℕ) : Type 0 where
  pub order : from ≤ to
  pub within : to ≤ length parts
  pub text_is : new ≡ old ++ whole (take (to - from) (drop from parts))
