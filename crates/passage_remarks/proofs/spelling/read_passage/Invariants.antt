use Rattle.std.proofs.Common.{length, ◌++◌, ◌≡◌}
use Rattle.passage_remarks.specs.Spelling.{word_of_passage}
use Rattle.passage_remarks.proofs.spelling.read_passage.Given as goal

abbrev pub invariant-bytes : goal.invariant-bytes
invariant-bytes l = l.fn.word ≡ word_of_passage l.passage.items ++ l.rest

abbrev pub decreases-bytes : goal.decreases-bytes
decreases-bytes l = length l.rest
