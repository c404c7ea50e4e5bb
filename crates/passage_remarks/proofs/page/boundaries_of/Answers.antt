use Rattle.std.proofs.Common.{List, [], length-append, ap, arith, append_assoc, length, sym, true, ℕ, ◌+◌, ◌++◌, ◌∷◌, ◌∙◌, ◌≡◌}
use Rattle.std.specs.List.{concat}
use Rattle.std.specs.Str.{IsUtf8, chars}
use Rattle.std.proofs.lemmas.Str.{chars-append}
use Rattle.unicode_segmentation.specs.Iter.{graphemes_left}
use Rattle.unicode_segmentation.specs.Grapheme.{is_grapheme_break}
use Rattle.unicode_segmentation.proofs.SegmentsLemmas.{concat-segments}
use Rattle.cluster_text.proofs.ScalarLemmas.{few_scalars}
use Rattle.passage_remarks.specs.Boundaries.{kept_boundaries}
use Rattle.passage_remarks.specs.declared.page.Boundary.{Boundary}
use Rattle.passage_remarks.proofs.page.boundaries_of.Goals as goal

pub clusters-init : goal.clusters-init
clusters-init c =
    let text : List ℕ = c.args.text.now in
    let whole : concat (graphemes_left c.graphemes-graphemes.result) ≡ text =
    ap concat c.graphemes-graphemes.ensures.left ∙ concat-segments (is_grapheme_break true) text c.utf8.text in (
      (λ i. c.new-boundaries.ensures.items i ++ kept_boundaries 0 0 (c.graphemes-graphemes.ensures.left i)),
      omega (arith, ap (λ t. length (chars t)) whole),
      omega (arith, ap length whole),
    )

-- what one cluster more leaves of the scalars
fewer : (text first rest all : List ℕ) (s n : ℕ) → IsUtf8 first → all ≡ first ++ rest → s + length (chars all) ≡ length (chars text) → n ≡ length (chars first)
    → (s + n) + length (chars rest) ≡ length (chars text)
fewer text first rest all s n u e whole count =
    omega (arith, whole, count, ap (λ t. length (chars t)) e ∙ ap length (chars-append first rest u) ∙ length-append (chars first) (chars rest))

pub overflow_add-scalars : goal.overflow_add-scalars
overflow_add-scalars c =
    let f = fewer c.args.text.now c.in-Some.cluster.now (concat (graphemes_left c.next.new.self))
    (concat (graphemes_left c.clusters.graphemes)) c.clusters.scalars c.scalar_count-scalars.result
    c.scalar_count-scalars.ensures.text (ap concat c.in-Some.ensures.steps) c.clusters.invariant.1 c.scalar_count-scalars.ensures.count in
    omega (arith, f, few_scalars c.args.text.now c.utf8.text)

pub clusters-preserved : goal.clusters-preserved
clusters-preserved c =
    let text : List ℕ = c.args.text.now in
    let first : List ℕ = c.in-Some.cluster.now in
    let rest = graphemes_left c.next.new.self in
    let turn = c.in-Some.ensures.steps in
    let old = c.clusters.boundaries.items in
    let s = c.clusters.scalars in
    let b = c.clusters.bytes in
    let one : Boundary = record { scalars = s; bytes = b } in (
      (λ i. c.in_ok-push.ensures.items i ++ kept_boundaries (s + c.scalar_count-scalars.ensures.count i) (b + length first) rest)
          ∙ append_assoc old (one ∷ []) (kept_boundaries (s + length (chars first)) (b + length first) rest)
          ∙ ap (λ l. old ++ kept_boundaries s b l) (sym turn)
          ∙ c.clusters.invariant.0,
      fewer text first (concat rest) (concat (graphemes_left c.clusters.graphemes)) s c.scalar_count-scalars.result c.scalar_count-scalars.ensures.text
          (ap concat turn) c.clusters.invariant.1 c.scalar_count-scalars.ensures.count,
      omega (arith, c.clusters.invariant.2, ap (λ l. length (concat l)) turn, length-append first (concat rest)),
    )
