use Rattle.std.proofs.Common.{sym, subst, List}
use Rattle.fugue_ids.specs.declared.op.Op.{Op}
use Rattle.causal_inbox.specs.Index.{IsAgeIndex}
use Rattle.causal_inbox.specs.Lists.{ages_under}
use Rattle.causal_inbox.proofs.InboxLemmas.{still_within}
use Rattle.causal_inbox.proofs.open_inbox.OpenInbox.remove.Goals as goal

pub invariant_of-self : goal.invariant_of-self
invariant_of-self c = record {
  within = still_within c.self.inside.ops.items c.remove-op.new.self.items c.args.position c.self.inside.hold c.remove-op.result c.remove-op.ensures.item c.remove-op.ensures.rest
      c.self.invariant.within;
  index = subst (λ (l : List Op). IsAgeIndex l c.remove.new.self.ages.items (ages_under c.remove.new.self.lists)) (sym c.remove-op.ensures.rest)
      (c.remove.ensures.index c.self.inside.ops.items c.self.invariant.index c.remove-op.ensures.item);
  no_empty = c.remove.ensures.no_empty c.self.invariant.no_empty;
}

pub returns-clause-within : goal.returns-clause-within
returns-clause-within c =
    still_within c.self.inside.ops.items c.remove-op.new.self.items c.args.position c.self.inside.hold c.remove-op.result c.remove-op.ensures.item c.remove-op.ensures.rest
    c.self.invariant.within
