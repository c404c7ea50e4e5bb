use Rattle.std.proofs.Common.{length, ◌+◌, ◌≡◌}
use Rattle.std.specs.Prelude.{count_by, nat_le, nat_lt}
use Rattle.std.specs.List.{concat}
use Rattle.unicode_segmentation.specs.Iter.{graphemes_left}
use Rattle.cluster_text.specs.Clusters.{clusters as clusters_of}
use Rattle.passage_search.specs.Spans.{begun_before, ended_before, ends, starts}
use Rattle.passage_search.proofs.span.span_of.Given as goal

-- the clusters that were passed and those to come are all
abbrev pub invariant-clusters : goal.invariant-clusters
invariant-clusters l = record {
  ended : l.ended + count_by (λ end. nat_le end l.fn.from) (ends l.at (graphemes_left l.clusters)) ≡ ended_before (clusters_of l.fn.text) l.fn.from;
  begun : l.begun + count_by (λ start. nat_lt start l.fn.to) (starts l.at (graphemes_left l.clusters)) ≡ begun_before (clusters_of l.fn.text) l.fn.to;
  bytes : l.at + length (concat (graphemes_left l.clusters)) ≡ length l.fn.text;
}

abbrev pub decreases-clusters : goal.decreases-clusters
decreases-clusters l = length (graphemes_left l.clusters)
