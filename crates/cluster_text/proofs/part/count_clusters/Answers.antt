use Rattle.std.proofs.Common.{sym, ◌∙◌}
use Rattle.cluster_text.proofs.SingleLemmas.{plain_clusters}
use Rattle.cluster_text.proofs.part.count_clusters.Goals as goal

pub returns-then-is_plain : goal.returns-then-is_plain
returns-then-is_plain c = sym (plain_clusters c.args.text.now (sym c.is_plain.ensures ∙ c.if-is_plain.true))
