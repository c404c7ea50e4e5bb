use Rattle.std.proofs.Common.{sym, ap, ◌∙◌}
use Rattle.std.specs.Str.{chars}
use Rattle.std.proofs.Common.{List, ℕ, length}
use Rattle.cluster_text.specs.Boundaries.{stands_alone}
use Rattle.cluster_text.proofs.IndexLemmas.{enclosed_alone, index_is, inside_is}
use Rattle.cluster_text.specs.Parts.{inside}
use Rattle.cluster_text.proofs.index.ClusterIndex.new.Goals as goal

pub cut_up-requires : goal.cut_up-requires
cut_up-requires c = ap stands_alone (c.as_str.ensures.value ∙ c.in_ok-text.ensures) ∙ enclosed_alone c.args.text.now c.utf8.text

pub invariant_of-result : goal.invariant_of-result
invariant_of-result c =
    let whole_is = c.in_ok-cut_up.ensures ∙ c.as_str.ensures.value in
    index_is c.in_ok-cut_up.field-0 c.count_scalars.result c.args.text.now (whole_is ∙ c.in_ok-text.ensures) c.utf8.text
    (c.count_scalars.ensures.count ∙ ap (λ (t : List ℕ). length (chars t)) (c.as_str-2.ensures.value ∙ sym whole_is))

pub returns : goal.returns
returns c = ap inside (c.in_ok-cut_up.ensures ∙ c.as_str.ensures.value ∙ c.in_ok-text.ensures) ∙ inside_is c.args.text.now
