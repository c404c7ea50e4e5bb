use Rattle.std.specs.Option.{option_copied}
use Rattle.origin_model.specs.taking.Taking.{IsSettled}
use Rattle.edit_script.specs.Sections.{AreShownTexts}
use Rattle.edit_script.proofs.RunLemmas.{Walk, bytes_left}
use Rattle.edit_script.proofs.run.run_lines.Given as goal

abbrev pub invariant-lines : goal.invariant-lines
invariant-lines l = record {
  walk : Walk l.fn.replica l.replica l.fn.script (option_copied l.rest) l.number;
  settled : IsSettled l.replica.held;
  sections : AreShownTexts l.sections.indices.entries l.replica;
}

abbrev pub decreases-lines : goal.decreases-lines
decreases-lines l = bytes_left (option_copied l.rest)
