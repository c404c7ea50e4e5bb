use Rattle.std.proofs.Common.{sym, subst, List, ℕ}
use Rattle.std.specs.List.{remove}
use Rattle.fugue_ids.specs.declared.op.Op.{Op}
use Rattle.causal_inbox.specs.Index.{IsAgeIndex}
use Rattle.causal_inbox.specs.Key.{keys_of}
use Rattle.causal_inbox.specs.Lists.{ages_under}
use Rattle.causal_inbox.proofs.IndexLemmas.{index_removed, index_rises}
use Rattle.causal_inbox.proofs.KeyLemmas.{keys_are}
use Rattle.causal_inbox.proofs.index.Index.remove.Goals as goal

pub drop_age-requires : goal.drop_age-requires
drop_age-requires c = index_rises c.requires.some.ops c.args.self.now.ages.items (ages_under c.args.self.now.lists) c.requires.some.index

pub returns-clause-index : goal.returns-clause-index
returns-clause-index c = λ (ops : List Op) index is.
    let ages = c.args.self.now.ages.items in
    subst (λ (l : List ℕ). IsAgeIndex (remove ops c.args.position) l (ages_under c.drop_age.new.lists)) (sym c.remove-age.ensures.rest)
    (index_removed ops c.args.op.now ages c.args.position c.remove-age.result (keys_of c.args.op.now) (ages_under c.args.self.now.lists)
    (ages_under c.drop_age.new.lists) is c.remove-age.ensures.item (keys_are c.args.op.now) c.drop_age.ensures.dropped index)
