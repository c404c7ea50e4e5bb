use Rattle.version_views.proofs.FrontMakingLemmas.{edits_grow, files_grow, first_stays, intakes_grow, notes_grow, parts_grow}
use Rattle.version_views.proofs.laws.histories_grow.Goals as goal

pub returns-clause-intakes : goal.returns-clause-intakes
returns-clause-intakes c = intakes_grow

pub returns-clause-files : goal.returns-clause-files
returns-clause-files c = files_grow

pub returns-clause-edits : goal.returns-clause-edits
returns-clause-edits c = edits_grow

pub returns-clause-parts : goal.returns-clause-parts
returns-clause-parts c = parts_grow

pub returns-clause-notes : goal.returns-clause-notes
returns-clause-notes c = notes_grow

pub returns-clause-first : goal.returns-clause-first
returns-clause-first c = first_stays
