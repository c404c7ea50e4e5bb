-- The clusters of a text that have bytes of a passage.
use Rattle.std.specs.Prelude.{ℕ, ◌+◌, ◌-◌, nat_le, nat_lt, List, [], ◌∷◌, count_by, length}
use Rattle.passage_search.specs.declared.span.Span.{Span}

-- where clusters begin, and where they end, in bytes: the first of them begins at `at`
abbrev pub starts : (at : ℕ) → List (List ℕ) → List ℕ
starts at [] = []
starts at (c ∷ cs) = at ∷ starts (at + length c) cs

-- where clusters end, in bytes, where the first of them begins at `at`
abbrev pub ends : (at : ℕ) → List (List ℕ) → List ℕ
ends at [] = []
ends at (c ∷ cs) = (at + length c) ∷ ends (at + length c) cs

-- how many clusters end at a byte or before it
abbrev pub ended_before : List (List ℕ) → ℕ → ℕ
ended_before cs from = count_by (λ end. nat_le end from) (ends 0 cs)

-- how many clusters begin before a byte
abbrev pub begun_before : List (List ℕ) → ℕ → ℕ
begun_before cs to = count_by (λ start. nat_lt start to) (starts 0 cs)

-- from the cluster in which the passage begins to that in which it ends, both counted
abbrev pub clusters_spanned : List (List ℕ) → (from to : ℕ) → Span
clusters_spanned cs from to = record { first = ended_before cs from; count = begun_before cs to - ended_before cs from }
