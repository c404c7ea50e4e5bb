use Rattle.std.proofs.Common.{ap, arith, length, ℕ, ◌+◌}
use Rattle.std.specs.Prelude.{count_by, if◌then◌else◌, nat_le, nat_lt}
use Rattle.std.specs.List.{concat}
use Rattle.std.proofs.lemmas.List.Sums.{sum_by-cons}
use Rattle.unicode_segmentation.specs.Iter.{graphemes_left}
use Rattle.unicode_segmentation.specs.Grapheme.{is_grapheme_break}
use Rattle.unicode_segmentation.proofs.SegmentsLemmas.{concat-segments}
use Rattle.std.proofs.Common.{true, ◌∙◌}
use Rattle.cluster_text.specs.Clusters.{clusters as clusters_of}
use Rattle.passage_search.specs.Spans.{ends, starts}
use Rattle.passage_search.proofs.SpanLemmas.{begun_few, ended_few}
use Rattle.passage_search.proofs.span.span_of.Goals as goal

pub clusters-init : goal.clusters-init
clusters-init c =
    let left = c.graphemes-clusters.ensures.left in
    let whole = ap concat left ∙ concat-segments (is_grapheme_break true) c.args.text.now c.utf8.text in
    record {
      ended = omega (arith, ap (λ l. count_by (λ end. nat_le end c.args.from) (ends 0 l)) left);
      begun = omega (arith, ap (λ l. count_by (λ start. nat_lt start c.args.to) (starts 0 l)) left);
      bytes = omega (arith, ap length whole);
    }

pub overflow_add-begun : goal.overflow_add-begun
overflow_add-begun c =
    let next : ℕ → ℕ = λ start. if nat_lt start c.args.to then 1 else 0 in
    let first = c.in-Some.cluster.now in
    omega (
      arith,
      c.clusters.invariant.begun,
      ap (λ l. count_by (λ start. nat_lt start c.args.to) (starts c.clusters.at l)) c.in-Some.ensures.steps,
      sum_by-cons next c.clusters.at (starts (c.clusters.at + length first) (graphemes_left c.next.new.self)),
      c.one_if-begun.ensures,
      begun_few (clusters_of c.args.text.now) c.args.to,
      ap length c.graphemes-clusters.ensures.left,
      c.graphemes-clusters.ensures.len,
    )

pub overflow_add-ended : goal.overflow_add-ended
overflow_add-ended c =
    let next : ℕ → ℕ = λ end. if nat_le end c.args.from then 1 else 0 in
    let first = c.in-Some.cluster.now in
    omega (
      arith,
      c.clusters.invariant.ended,
      ap (λ l. count_by (λ end. nat_le end c.args.from) (ends c.clusters.at l)) c.in-Some.ensures.steps,
      sum_by-cons next (c.clusters.at + length first) (ends (c.clusters.at + length first) (graphemes_left c.next.new.self)),
      c.one_if-ended.ensures,
      ended_few (clusters_of c.args.text.now) c.args.from,
      ap length c.graphemes-clusters.ensures.left,
      c.graphemes-clusters.ensures.len,
    )
