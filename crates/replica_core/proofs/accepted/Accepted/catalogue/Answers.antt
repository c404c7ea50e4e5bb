use Rattle.section_catalogue.proofs.ShownLemmas.{look_ups_agree}
use Rattle.replica_core.proofs.accepted.Accepted.catalogue.Goals as goal

pub returns : goal.returns
returns c = rw (c.catalogue.ensures.catalogue, ← c.self.view_is) (look_ups_agree c.self.inside.manuscript c.self.inside.history c.self.invariant.represents).catalogue_is
