use Rattle.std.proofs.Common.{ap, ◌∙◌, ◌+◌, drop, set}
use Rattle.std.proofs.lemmas.List.{drop-set-add}
use Rattle.causal_inbox.proofs.queue.Queue.put.Goals as goal

pub returns-clause-items : goal.returns-clause-items
returns-clause-items g c =
    let gone = c.self.inside.gone in
    let items = c.self.inside.items.items in
    ap (λ x. drop gone (set items (gone + c.args.position) x)) c.replace.ensures.after
    ∙ drop-set-add gone items c.args.position c.args.item ∙ ap (λ l. set l c.args.position c.args.item) c.self.view_is
