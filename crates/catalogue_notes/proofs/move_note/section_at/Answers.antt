use Rattle.std.proofs.Common.{ap, sym, ◌∙◌}
use Rattle.std.specs.Prelude.{Some}
use Rattle.std.proofs.lemmas.Option.{slice_get-get_or}
use Rattle.catalogue_notes.proofs.move_note.section_at.Goals as goal

pub returns : goal.returns
returns c =
    slice_get-get_or c.args.arrangement.now.sections.items c.args.k c.index.result.now c.requires ∙ ap Some (sym c.index.ensures)
