use Rattle.unicode_segmentation.specs.Iter.{graphemes_left}
use Rattle.cluster_text.specs.Clusters.{Passed}
use Rattle.cluster_text.proofs.place.count_front.Given as goal

abbrev pub invariant-passed : goal.invariant-passed
invariant-passed l = Passed (graphemes_left l.initial.clusters) (graphemes_left l.clusters) l.counter l.scalars
