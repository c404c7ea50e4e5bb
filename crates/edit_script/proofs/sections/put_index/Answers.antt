use Rattle.std.proofs.Common.{subst, sym}
use Rattle.fugue_ids.proofs.IdentifierLemmas.{id_at-other}
use Rattle.edit_script.specs.Sections.{AreShownTexts}
use Rattle.edit_script.proofs.SectionLemmas.{put_in}
use Rattle.edit_script.proofs.sections.put_index.Goals as goal

pub returns-in-Ok : goal.returns-in-Ok
returns-in-Ok c =
    let u = c.in-Ok.ensures.updates in
    λ s are is. put_in _ _ s c.args.section c.args.index u.1 (λ y other. u.2 y (id_at-other c.args.section y other)) is are

pub returns : goal.returns
returns c = λ s are is. subst (λ texts. AreShownTexts texts s) (sym c.in-Err.ensures.err) are
