use Rattle.std.proofs.Common.{ap, sym, ◌∙◌}
use Rattle.std.specs.Prelude.{not}
use Rattle.std.proofs.lemmas.Bool.{eqb-true}
use Rattle.passage_remarks.specs.Spelling.{passage_of}
use Rattle.passage_remarks.proofs.SpellingLemmas.{all_read, passage_same, some_read, some_unless}
use Rattle.passage_remarks.proofs.spelling.read_passage.Goals as goal

pub returns-then-not-is_empty : goal.returns-then-not-is_empty
returns-then-not-is_empty c =
    let word = c.args.word.now in
    let passage = c.bytes.passage.items in
    let test = c.is_empty-then-is_empty in
    let whole = all_read word passage c.bytes.rest.now c.bytes.invariant (eqb-true _ 0 (sym c.is_empty.ensures ∙ c.if-is_empty.true)) in
    (whole, some_read word passage whole (some_unless word test.result test.ensures (ap not c.if-not-is_empty.true)), sym (ap passage_of whole ∙ passage_same passage))
