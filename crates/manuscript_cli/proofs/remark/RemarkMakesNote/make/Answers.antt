use Rattle.std.proofs.Common.{ap, ◌∙◌}
use Rattle.passage_remarks.specs.Spelling.{passage_of}
use Rattle.manuscript_cli.proofs.PassageLemmas.{remarked}
use Rattle.manuscript_cli.proofs.remark.RemarkMakesNote.make.Goals as goal

pub returns-in-Ok-clause-comes : goal.returns-in-Ok-clause-comes
returns-in-Ok-clause-comes c =
    rw (c.as_slice.ensures.value ∙ c.in-Some-read_passage.ensures.2 ∙ ap passage_of c.as_bytes.ensures.value, c.in-Some.ensures.0)
    at (remarked _ _ _ _ c.in-Ok.ensures.made c.in-Ok.ensures.refused c.remark.ensures.sound.lawful)
