-- The clusters that begin before a byte, and those that end by one.
use Rattle.std.proofs.Common.{◌≡◌, ℕ, suc, ◌+◌, ◌≤◌, List, [], ◌∷◌, length, refl, ap, arith}
use Rattle.std.specs.Prelude.{nat_le, nat_lt}
use Rattle.std.proofs.lemmas.List.Sums.{count_by-le-length}
use Rattle.passage_search.specs.Spans.{begun_before, ended_before, ends, starts}

length-starts : (at : ℕ) (cs : List (List ℕ)) → length (starts at cs) ≡ length cs
length-starts at [] = refl
length-starts at (c ∷ cs) = ap suc (length-starts (at + length c) cs)

length-ends : (at : ℕ) (cs : List (List ℕ)) → length (ends at cs) ≡ length cs
length-ends at [] = refl
length-ends at (c ∷ cs) = ap suc (length-ends (at + length c) cs)

-- no more than there are
pub begun_few : (cs : List (List ℕ)) (to : ℕ) → begun_before cs to ≤ length cs
begun_few cs to = omega (arith, count_by-le-length (λ start. nat_lt start to) (starts 0 cs), length-starts 0 cs)

pub ended_few : (cs : List (List ℕ)) (from : ℕ) → ended_before cs from ≤ length cs
ended_few cs from = omega (arith, count_by-le-length (λ end. nat_le end from) (ends 0 cs), length-ends 0 cs)
