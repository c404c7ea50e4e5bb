use Rattle.std.proofs.Common.{sym, ◌∙◌}
use Rattle.std.proofs.lemmas.Bool.{false_from_ne_true, true≢false}
use Rattle.origin_model.specs.order.Printed.{is_hidden}
use Rattle.origin_model.proofs.SharedLemmas.{hidden-has, not_hidden_before}
use Rattle.draft_plan.proofs.laws.others_are_spared.Goals as goal

pub returns : goal.returns
returns c = λ part whole x w v inside lacks own.
    false_from_ne_true (is_hidden whole x) (λ hidden.
    true≢false (sym (hidden-has part x ∙ own (sym (hidden-has whole x) ∙ hidden)) ∙ not_hidden_before part x w lacks))
