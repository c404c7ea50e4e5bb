use Rattle.std.proofs.Common.{[], ◌++◌, ◌∙◌, ◌∷◌, refl, sym}
use Rattle.std.proofs.lemmas.Bool.{eqb-true}
use Rattle.passage_remarks.proofs.SpellingLemmas.{one_more, some_unless, spelled_some, spells, stuck, unless_some}
use Rattle.passage_remarks.proofs.spelling.is_spelled.Goals as goal
use Rattle.fugue_ids.proofs.OptionLemmas.{some_if}

pub bytes-preserved : goal.bytes-preserved
bytes-preserved c = (
  c.bytes.invariant.0 ++ c.in-Some._byte ∷ [],
  one_more _ c.bytes.invariant.0 c.bytes.rest.now c.in-Some.behind.now c.in-Some._byte c.bytes.invariant.1 c.in-Some.ensures.some,
)

pub returns-then-is_empty : goal.returns-then-is_empty
returns-then-is_empty c =
    let word = c.args.word.now in
    let test = c.is_empty-then-is_empty in (
      λ t. spells word c.bytes.invariant.0 c.bytes.rest.now c.bytes.invariant.1 (eqb-true _ 0 (sym c.is_empty.ensures ∙ c.if-is_empty.true))
          (some_unless word test.result test.ensures t),
      λ s. unless_some word test.result test.ensures (spelled_some word s),
    )

pub returns-else-is_empty : goal.returns-else-is_empty
returns-else-is_empty c =
    let word = c.args.word.now in (
      λ t. cc,
      λ s. absurd (stuck word c.bytes.invariant.0 c.bytes.rest.now s.passage c.bytes.invariant.1 (some_if _ (sym c.is_empty.ensures ∙ c.if-is_empty.false))
          (c.in_default.ensures.none refl) s.word_is),
    )
