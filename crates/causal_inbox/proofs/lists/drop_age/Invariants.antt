use Rattle.std.proofs.Common.{take, ◌+◌}
use Rattle.causal_inbox.specs.Index.{without_age}
use Rattle.causal_inbox.specs.Key.{is_among, keys_of}
use Rattle.causal_inbox.specs.Lists.{Changed, ages_under, key_cmp}
use Rattle.causal_inbox.specs.Keyed.{HasNoEmpty}
use Rattle.causal_inbox.proofs.lists.drop_age.Given as goal

-- the age stands under none of the keys so far, and no list is empty
abbrev pub invariant-names : goal.invariant-names
invariant-names l = Changed (is_among (take (l.named-index + 1) (keys_of l.op))) (λ ages. without_age ages l.age) (ages_under l.fn.lists) (ages_under l.lists)
    × (HasNoEmpty key_cmp l.fn.lists → HasNoEmpty key_cmp l.lists)
