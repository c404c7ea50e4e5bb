use Rattle.std.proofs.Common.{ap, sym, ◌∙◌}
use Rattle.std.specs.Prelude.{Some}
use Rattle.std.specs.Option.{option_map}
use Rattle.causal_inbox.proofs.IndexLemmas.{index_nth}
use Rattle.causal_inbox.proofs.index.Index.nth.Goals as goal

pub returns-in-Some : goal.returns-in-Some
returns-in-Some c = λ ops index.
    ap Some c.position.ensures
    ∙ sym (index_nth ops _ _ _ c.args.k index ∙ ap (option_map _) (sym c.nth_age.ensures ∙ c.in-Some.is))

pub returns-in-None : goal.returns-in-None
returns-in-None c = λ ops index. sym (index_nth ops _ _ _ c.args.k index ∙ ap (option_map _) (sym c.nth_age.ensures ∙ c.in-None.is))
