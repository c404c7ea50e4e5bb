use Rattle.std.proofs.Common.{ap, sym, ◌∙◌}
use Rattle.std.specs.Prelude.{option_map}
use Rattle.origin_model.specs.operations.History.{holder}
use Rattle.origin_model.specs.operations.Verdict.{fits}
use Rattle.replica_core.proofs.ManuscriptLemmas.{fits_by_place}
use Rattle.replica_core.proofs.accepted.AcceptedLookup.fits.Goals as goal

pub returns-in-Some : goal.returns-in-Some
returns-in-Some c =
    fits_by_place c.self.inside.manuscript c.self.inside.history c.args.id c.in-Some.place c.args.role c.fits_at.result c.self.invariant.represents
    (sym c.place_of.ensures.place ∙ c.in-Some.is) c.fits_at.ensures
    ∙ ap (λ h. option_map (fits c.args.role) (holder h c.args.id)) c.self.view_is
