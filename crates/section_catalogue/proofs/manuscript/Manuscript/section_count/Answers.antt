use Rattle.std.proofs.Common.{subst, sym, ◌∙◌}
use Rattle.section_catalogue.specs.Contents.{contents_of}
use Rattle.section_catalogue.specs.Manuscript.{Represents}
use Rattle.section_catalogue.proofs.ShownLemmas.{count_shown}
use Rattle.section_catalogue.proofs.manuscript.Manuscript.section_count.Goals as goal

pub returns-clause-count : goal.returns-clause-count
returns-clause-count c = λ h s. c.visible_count.ensures ∙ count_shown (contents_of c.self.inside.tables) h (subst (λ m. Represents m h) (sym c.self.view_is) s)
