use Rattle.std.proofs.Common.{ap, reverse, ◌∙◌}
use Rattle.margin_notes.specs.Listing.{body_of}
use Rattle.margin_notes.proofs.EntryLemmas.{body_there}
use Rattle.margin_notes.proofs.reading.body_at.Goals as goal

pub returns-in-Some : goal.returns-in-Some
returns-in-Some c = c.body_in.ensures ∙ ap body_of c.in-Some.ensures.found ∙ body_there (reverse c.args.replica.now.held.history) c.args.at

pub returns-in-None : goal.returns-in-None
returns-in-None c = ap body_of c.in-None.ensures.found ∙ body_there (reverse c.args.replica.now.held.history) c.args.at
