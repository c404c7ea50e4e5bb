use Rattle.std.proofs.Common.{List, ap, arith, drop, length, sym, take, ◌+◌, ◌-◌, ◌∙◌, ◌≡◌, ◌≤◌, ℕ, true}
use Rattle.std.specs.List.{concat}
use Rattle.std.specs.Str.{IsUtf8}
use Rattle.cluster_text.specs.Clusters.{clusters}
use Rattle.unicode_segmentation.specs.Grapheme.{is_grapheme_break}
use Rattle.unicode_segmentation.proofs.SegmentsLemmas.{concat-segments}
use Rattle.passage_remarks.specs.Clusters.{cluster_text}
use Rattle.passage_remarks.proofs.BoundaryLemmas.{bytes_between}
use Rattle.passage_remarks.proofs.page.Page.cluster_text.Goals as goal

pub bytes_before-start-requires : goal.bytes_before-start-requires
bytes_before-start-requires c = omega (arith, c.requires)

pub overflow_add-first : goal.overflow_add-first
overflow_add-first c = omega (arith, c.requires, c.bytes_before-start.ensures.few)

-- what stands between the two places
between : (text now : List ℕ) (first count start end : ℕ) → IsUtf8 text → text ≡ now → first + count ≤ length (clusters now) → start ≡ length (concat (take first (clusters now)))
    → end ≡ length (concat (take (first + count) (clusters now)))
    → (start ≤ end) × (end ≤ length text) × (take (end - start) (drop start text) ≡ cluster_text (clusters now) first count)
between text now first count start end u v l s e =
    bytes_between text (clusters now) first count start end (ap (λ t. concat (clusters t)) (sym v) ∙ concat-segments (is_grapheme_break true) text u) l s e

-- what was read of the text that is seen
found : (c : goal.After-as_bytes) → let text = c.as_bytes.result.now in
    (c.bytes_before-start.result ≤ c.bytes_before-end.result) × (c.bytes_before-end.result ≤ length text)
    × (take (c.bytes_before-end.result - c.bytes_before-start.result) (drop c.bytes_before-start.result text) ≡ cluster_text (clusters c.args.self.now) c.args.first c.args.count)
found c =
    between c.as_bytes.result.now c.args.self.now c.args.first c.args.count c.bytes_before-start.result c.bytes_before-end.result c.as_bytes.ensures.utf8
    (c.as_bytes.ensures.value ∙ c.as_str.ensures.value ∙ c.self.view_is) c.requires c.bytes_before-start.ensures.bytes c.bytes_before-end.ensures.bytes

pub part-requires-clause-order : goal.part-requires-clause-order
part-requires-clause-order c = (found c).0

pub part-requires-clause-within : goal.part-requires-clause-within
part-requires-clause-within c = (found c).1

pub returns : goal.returns
returns c =
    let text = c.as_bytes.result.now in
    c.part.ensures
    ∙ (between text c.args.self.now c.args.first c.args.count c.bytes_before-start.result c.bytes_before-end.result c.as_bytes.ensures.utf8
    (c.as_bytes.ensures.value ∙ c.as_str.ensures.value ∙ c.self.view_is) c.requires c.bytes_before-start.ensures.bytes c.bytes_before-end.ensures.bytes).2
