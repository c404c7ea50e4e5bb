use Rattle.std.proofs.Common.{ap, sym, ◌∙◌}
use Rattle.std.specs.Str.{chars}
use Rattle.catalogue_notes.specs.Claims.{is_title}
use Rattle.catalogue_notes.proofs.RetitlingLemmas.{title_text}
use Rattle.catalogue_notes.proofs.retitling.body_of.Goals as goal

pub returns-in-Ok-clause-text : goal.returns-in-Ok-clause-text
returns-in-Ok-clause-text c = ap is_title (sym c.as_str.ensures.text) ∙ title_text c.as_str.result.now c.as_str.utf8 c.as_str.ensures.is_title

pub returns-in-Ok-clause-scalars : goal.returns-in-Ok-clause-scalars
returns-in-Ok-clause-scalars c = ap chars (sym c.as_str.ensures.text) ∙ c.as_str.ensures.scalars
