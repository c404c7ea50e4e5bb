use Rattle.std.proofs.Common.{ap, refl, ◌∙◌}
use Rattle.std.specs.Prelude.{slice_get}
use Rattle.run_store.specs.Cells.{cell_ids, cells_shown}
use Rattle.catalogue_notes.proofs.OutliningLemmas.{visible_place}
use Rattle.catalogue_notes.proofs.outlining.number_of.Goals as goal
use Rattle.section_list.proofs.ShownLemmas.{visible_listed}

pub returns-in-Some : goal.returns-in-Some
returns-in-Some c =
    let cells = c.args.catalogue.now.cells in
    ap (slice_get (cell_ids (cells_shown cells))) c.in-Some.ensures.some ∙ visible_place cells c.args.section c.requires.apart c.requires.visible

pub returns-in-None : goal.returns-in-None
returns-in-None c = absurd (c.in-None.ensures.none.0 refl (visible_listed c.args.catalogue.now.cells c.args.section c.requires.visible))
