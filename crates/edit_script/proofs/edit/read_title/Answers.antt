use Rattle.edit_script.proofs.LineLemmas.{is_title_text, spelled_scalars}
use Rattle.edit_script.proofs.edit.read_title.Goals as goal

pub returns-in-Ok-clause-title : goal.returns-in-Ok-clause-title
returns-in-Ok-clause-title c = (
  c.in-Ok.ensures.ok,
  spelled_scalars c.args.text.now c.in-Ok.title c.utf8.text c.in-Ok.ensures.ok,
  is_title_text c.args.text.now
      (λ is. let wrong = c.in-Ok.ensures.empty.1 is in cc)
      (λ is. let wrong = c.in-Ok.ensures.too_long.1 is in cc)
      (λ is. let wrong = c.in-Ok.ensures.line_end.1 is in cc),
)
