use Rattle.section_catalogue.proofs.ShownLemmas.{look_ups_agree}
use Rattle.section_catalogue.proofs.manuscript.look_ups_are_the_definitions.Goals as goal

pub returns : goal.returns
returns c = look_ups_agree
