-- Where a passage of scalars stands among the clusters of its text: from the boundary before it to the boundary after it.
use Rattle.std.specs.Prelude.{ℕ, ◌+◌, ◌-◌, nat_eq, nat_le, nat_lt, if◌then◌else◌, List, [], ◌∷◌, count_by, drop, length, map, take}
use Rattle.std.specs.List.{concat}
use Rattle.std.specs.Str.{chars}

-- the boundaries of clusters, in scalars, the first of them at n: one more than there are clusters
abbrev pub boundaries_from : ℕ → List (List ℕ) → List ℕ
boundaries_from n [] = n ∷ []
boundaries_from n (c ∷ cs) = n ∷ boundaries_from (n + length (chars c)) cs

-- where each cluster begins
abbrev pub cluster_starts : List (List ℕ) → List ℕ
cluster_starts cs = take (length cs) (boundaries_from 0 cs)

-- where each cluster ends
abbrev pub cluster_ends : List (List ℕ) → List ℕ
cluster_ends cs = drop 1 (boundaries_from 0 cs)

-- how many clusters end at the scalar `from` or before it: the number of the first cluster of a passage that begins there
abbrev pub first_cluster : List (List ℕ) → (from : ℕ) → ℕ
first_cluster cs from = count_by (λ end. nat_le end from) (cluster_ends cs)

-- how many clusters have scalars of the passage from `from` to `to`
abbrev pub passage_cluster_count : List (List ℕ) → (from to : ℕ) → ℕ
passage_cluster_count cs from to =
    if nat_lt from to then count_by (λ start. nat_lt start to) (cluster_starts cs) - first_cluster cs from else 0

-- the text of so many clusters, from the cluster `first` on
abbrev pub cluster_text : List (List ℕ) → (first count : ℕ) → List ℕ
cluster_text cs first count = concat (take count (drop first cs))

-- the bytes of a text in one line: each LF is a space
abbrev pub byte_in_line : ℕ → ℕ
byte_in_line byte = if nat_eq byte 10 then 32 else byte

-- the bytes of a text in one line
abbrev pub in_line : List ℕ → List ℕ
in_line text = map byte_in_line text
