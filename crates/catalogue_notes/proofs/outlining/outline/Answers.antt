use Rattle.std.proofs.Common.{subst, sym}
use Rattle.origin_model.specs.declared.operations.Place.TheVariants.{Catalogue as catalogue}
use Rattle.section_catalogue.specs.Manuscript.{IsOrderedPlace}
use Rattle.catalogue_notes.specs.Outlining.{IsOutline}
use Rattle.catalogue_notes.proofs.outlining.outline.Goals as goal

pub entries_of-entries-requires-clause-catalogue : goal.entries_of-entries-requires-clause-catalogue
entries_of-entries-requires-clause-catalogue c =
    subst (IsOrderedPlace catalogue c.args.replica.now.held.history) (sym c.catalogue-catalogue.ensures.catalogue) c.places.ensures.lists.catalogue_is

pub returns-clause-outline : goal.returns-clause-outline
returns-clause-outline c = subst (IsOutline c.args.replica.now.held.history) (sym c.new.ensures) c.in_ok-entries.ensures
