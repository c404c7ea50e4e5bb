-- The numbers of a set.
use Rattle.std.proofs.Common.{[], ap, length, ℕ}
use Rattle.std.specs.BTreeSet.{BTreeSet, IsEmpty}
use Rattle.std.specs.List.{list_any}
use Rattle.std.specs.Ordering.{is_eq, nat_cmp}
use Rattle.relay_sync.specs.Over.{IsOver}

-- none yet
pub is_over_none : (set : BTreeSet ℕ) → IsEmpty set → IsOver set []
is_over_none set none = record { count = ap length none; same = λ session. ap (list_any (λ key. is_eq (nat_cmp session key))) none }
