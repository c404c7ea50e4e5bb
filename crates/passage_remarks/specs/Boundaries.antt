-- The boundaries of the clusters of a text, in scalars and in bytes.
use Rattle.std.specs.Prelude.{ℕ, ◌+◌, List, [], ◌∷◌, length}
use Rattle.std.specs.Str.{chars}
use Rattle.passage_remarks.specs.declared.page.Boundary.{Boundary}

-- the boundaries of clusters, where so many scalars and bytes stand before the first one
abbrev pub kept_boundaries : (scalars bytes : ℕ) → List (List ℕ) → List Boundary
kept_boundaries n b [] = record { scalars = n; bytes = b } ∷ []
kept_boundaries n b (c ∷ cs) = record { scalars = n; bytes = b } ∷ kept_boundaries (n + length (chars c)) (b + length c) cs
