use Rattle.std.proofs.Common.{◌∙◌}
use Rattle.edit_script.proofs.sections.Sections.put_back.Goals as goal

pub returns-in-Ok : goal.returns-in-Ok
returns-in-Ok c = λ s are is. c.put_index.ensures s are (c.in-Ok.ensures.ok ∙ is)
