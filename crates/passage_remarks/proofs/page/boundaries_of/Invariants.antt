use Rattle.std.proofs.Common.{length, ◌+◌, ◌++◌, ◌≡◌}
use Rattle.std.specs.List.{concat}
use Rattle.std.specs.Str.{chars}
use Rattle.unicode_segmentation.specs.Iter.{graphemes_left}
use Rattle.cluster_text.specs.Clusters.{clusters}
use Rattle.passage_remarks.specs.Boundaries.{kept_boundaries}
use Rattle.passage_remarks.proofs.page.boundaries_of.Given as goal

-- the boundaries that were passed and those to come are all, and so are the scalars and the bytes
abbrev pub invariant-clusters : goal.invariant-clusters
invariant-clusters l =
    (l.boundaries.items ++ kept_boundaries l.scalars l.bytes (graphemes_left l.graphemes) ≡ kept_boundaries 0 0 (clusters l.text))
    × (l.scalars + length (chars (concat (graphemes_left l.graphemes))) ≡ length (chars l.text))
    × (l.bytes + length (concat (graphemes_left l.graphemes)) ≡ length l.text)

abbrev pub decreases-clusters : goal.decreases-clusters
decreases-clusters l = length (graphemes_left l.graphemes)
