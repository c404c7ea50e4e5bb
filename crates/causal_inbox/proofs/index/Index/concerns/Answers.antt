use Rattle.causal_inbox.proofs.RangeLemmas.{concerned}
use Rattle.causal_inbox.proofs.index.Index.concerns.Goals as goal

pub returns : goal.returns
returns c = λ ops index. concerned c.args.self.now.lists ops c.args.self.now.ages.items c.args.first c.args.count c.has_list_from.result c.requires.no_empty index
    c.has_list_from.ensures
