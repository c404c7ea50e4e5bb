use Rattle.std.proofs.Common.{◌≡◌, take, false, nat_eq}
use Rattle.std.specs.List.{list_any, position_or_len}
use Rattle.causal_inbox.specs.Key.{main_key}
use Rattle.causal_inbox.specs.Lists.{ages_under}
use Rattle.causal_inbox.specs.Index.{is_equal_at}
use Rattle.causal_inbox.proofs.index.Index.has_equal.Given as goal

-- none so far is equal
abbrev pub invariant-loop-age : goal.invariant-loop-age
invariant-loop-age l = list_any (λ a. is_equal_at l.ops.items l.op (position_or_len (λ b. nat_eq b a) l.self.ages.items))
    (take l.age-index (ages_under l.self.lists (main_key l.op))) ≡ false
