use Rattle.std.proofs.Common.{sym, subst, ◌∙◌, ◌≡◌, ◌+◌, arith}
use Rattle.std.proofs.lemmas.Grind.{common_steps}
use Rattle.std.specs.BTreeMap.Range.{IsRangeOf}
use Rattle.std.specs.declared.ops.Bound.TheVariants.{Excluded, Unbounded}
use Rattle.causal_inbox.specs.Greatest.{IsLastKey}
use Rattle.causal_inbox.specs.Key.{own_key_of}
use Rattle.causal_inbox.specs.Lists.{key_cmp}
use Rattle.causal_inbox.proofs.KeyOrderLemmas.{last_in_range}
use Rattle.causal_inbox.proofs.index.last_key.Goals as goal

pub returns-in-Some : goal.returns-in-Some
returns-in-Some c =
    let more : c.in-Some.replica ≡ c.args.replica + 1 = grind (arith, common_steps) in
    let next : c.own_key-next.result ≡ own_key_of (record { replica = c.args.replica + 1; counter = 0 }) =
    c.own_key-next.ensures ∙ (λ i. own_key_of (record { replica = more i; counter = 0 })) in
    subst (IsLastKey c.args.lists.now c.args.replica) (sym c.key_of.ensures.key)
    (last_in_range c.args.lists.now c.args.replica c.range.result c.next_back.new.self c.next_back.result
    (subst (λ end. IsRangeOf key_cmp Unbounded (Excluded end) c.args.lists.now c.range.result) next (c.range.ensures.in_range tt))
    c.next_back.ensures.steps)
