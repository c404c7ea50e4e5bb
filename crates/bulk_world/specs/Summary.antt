-- What is reported of a bulk manuscript.
use Rattle.std.specs.Prelude.{◌+◌, ◌*◌, ◌%◌, ℕ, suc, Bool, nat_eq, if◌then◌else◌, List, [], ◌∷◌, flat_map, length, codes, decimal}
use Rattle.origin_model.specs.order.Printed.{manuscript}
use Rattle.origin_model.specs.edits.State.{State}
use Rattle.list_spec.specs.Worlds.{World}
use Rattle.bulk_world.specs.Turns.{bulk_world, first_text, numbered_replica}
use Rattle.bulk_world.specs.declared.summary.Summary.{Summary}
use lib.Pointwise.{pointwise}

-- the sum of each scalar times its position, where the first has the position k
abbrev pub weighted_scalars : ℕ → List ℕ → ℕ
weighted_scalars k [] = 0
weighted_scalars k (ch ∷ chs) = k * ch + weighted_scalars (suc k) chs

-- the same with positions from 1, modulo 2^32
abbrev pub sum_of : List ℕ → ℕ
sum_of chs = weighted_scalars 1 chs % 4294967296

-- two texts are as long as each other, and equal byte by byte
abbrev pub are_same : List ℕ → List ℕ → Bool
are_same a b = pointwise nat_eq a b

-- how many operations the first of two replicas accepted, what it shows of its first section, and whether both have the same manuscript
abbrev pub summary_of : State → State → Summary
summary_of one two =
    record {
      operations = length one.held.history;
      scalars = length (first_text one);
      sum = sum_of (first_text one);
      is_equal = are_same (manuscript one.held.history) (manuscript two.held.history);
    }

-- the summary of a world with replicas 1 and 2
abbrev pub summary : World → Summary
summary w = summary_of (numbered_replica 1 w.replicas) (numbered_replica 2 w.replicas)

-- the last word
abbrev pub equality_word : Bool → List ℕ
equality_word is_equal = if is_equal then codes "equal" else codes "different"

-- LF
abbrev line_end : List ℕ
line_end = 10 ∷ []

-- the four lines
abbrev pub summary_text : Summary → List ℕ
summary_text s =
    flat_map (λ piece. piece) (
    codes "operations " ∷ decimal s.operations ∷ line_end
    ∷ codes "scalars " ∷ decimal s.scalars ∷ line_end
    ∷ codes "sum " ∷ decimal s.sum ∷ line_end
    ∷ equality_word s.is_equal ∷ line_end ∷ [])

-- what a seed and a count lead to
abbrev pub bulk_text : (seed count : ℕ) → List ℕ
bulk_text seed count = summary_text (summary (bulk_world seed count))
