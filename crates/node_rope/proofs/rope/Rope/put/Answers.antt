use Rattle.std.proofs.Common.{◌≡◌, true, false, sym, ap, ◌∙◌}
use Rattle.std.specs.Prelude.{is_some}
use Rattle.node_rope.specs.Items.{own_of, value_under}
use Rattle.node_rope.specs.Beside.{put_under}
use Rattle.node_rope.proofs.KeyLemmas.{not-held}
use Rattle.node_rope.proofs.rope.Rope.put.Goals as goal

pub returns-in-None-clause-old : goal.returns-in-None-clause-old
returns-in-None-clause-old g c =
    let i = c.self.inside in
    let none = not-held (own_of g.T.Weigh.weight_of g.T.Weigh.rank_of) i.store i.root i.map.links c.self.invariant c.args.key (sym c.find_link.ensures ∙ c.in-None.is) in
    let no : false ≡ true = ap is_some (sym none) ∙ ap (λ xs. is_some (value_under c.args.key xs)) c.self.view_is ∙ c.requires in
    absurd (cc)

pub returns-in-None-clause-put : goal.returns-in-None-clause-put
returns-in-None-clause-put g c =
    let i = c.self.inside in
    let none = not-held (own_of g.T.Weigh.weight_of g.T.Weigh.rank_of) i.store i.root i.map.links c.self.invariant c.args.key (sym c.find_link.ensures ∙ c.in-None.is) in
    let no : false ≡ true = ap is_some (sym none) ∙ ap (λ xs. is_some (value_under c.args.key xs)) c.self.view_is ∙ c.requires in
    absurd (cc)

pub refill-requires-clause-held : goal.refill-requires-clause-held
refill-requires-clause-held g c = sym c.find_link.ensures ∙ c.in-Some.is

pub returns-clause-old : goal.returns-clause-old
returns-clause-old g c = ap (value_under c.args.key) (sym c.self.view_is) ∙ c.refill.ensures.old

pub returns-clause-put : goal.returns-clause-put
returns-clause-put g c = c.refill.ensures.put ∙ ap (put_under c.args.key c.args.value) c.self.view_is
