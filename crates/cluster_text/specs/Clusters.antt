-- What a reader sees as the characters of a text, and how many scalars they have.
use Rattle.std.specs.Prelude.{◌≡◌, ℕ, ◌+◌, ◌≤◌, true, List, length, take, drop}
use Rattle.std.specs.List.{concat, sum_by}
use Rattle.std.specs.Str.{chars}
use Rattle.unicode_segmentation.specs.Grapheme.{graphemes}

-- the extended grapheme clusters of a text, each as its bytes
abbrev pub clusters : List ℕ → List (List ℕ)
clusters text = graphemes true text

-- how many scalars clusters have together
abbrev pub scalars : List (List ℕ) → ℕ
scalars clusters = sum_by (λ cluster. length (chars cluster)) clusters

-- how many scalars stand before the cluster `at`, and how many the n clusters from there on have
abbrev pub span : List (List ℕ) → (at n : ℕ) → ℕ × ℕ
span clusters at n = (scalars (take at clusters), scalars (take n (drop at clusters)))

-- the first n clusters were passed, which have `count` scalars; the others are left
pub record Passed (old new : List (List ℕ)) (n count : ℕ) : Type 0 where
  pub enough : n ≤ length old
  pub left : new ≡ drop n old
  pub count_is : count ≡ scalars (take n old)
  pub others : count + length (chars (concat new)) ≡ length (chars (concat old))
