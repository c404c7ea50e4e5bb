use Rattle.std.proofs.Common.{List, ℕ, length, ◌++◌, ◌≡◌}
use Rattle.passage_remarks.specs.Spelling.{word_of_passage}
use Rattle.passage_remarks.proofs.spelling.is_spelled.Given as goal

-- what was read, and what is left, are the word
abbrev pub invariant-bytes : goal.invariant-bytes
invariant-bytes l = (done : List ℕ) × (l.fn.word ≡ word_of_passage done ++ l.rest)

abbrev pub decreases-bytes : goal.decreases-bytes
decreases-bytes l = length l.rest
