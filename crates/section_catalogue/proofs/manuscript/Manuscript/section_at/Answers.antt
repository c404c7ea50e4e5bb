use Rattle.std.proofs.Common.{ap, subst, sym, ◌∙◌}
use Rattle.std.specs.Prelude.{slice_get}
use Rattle.section_catalogue.specs.Contents.{contents_of}
use Rattle.section_catalogue.specs.Manuscript.{Represents}
use Rattle.section_catalogue.proofs.ShownLemmas.{catalogue_shown}
use Rattle.section_catalogue.proofs.manuscript.Manuscript.section_at.Goals as goal

pub returns-clause-section : goal.returns-clause-section
returns-clause-section c =
    λ h s. c.nth_visible.ensures ∙ ap (λ xs. slice_get xs c.args.k) (catalogue_shown (contents_of c.self.inside.tables) h (subst (λ m. Represents m h) (sym c.self.view_is) s))
