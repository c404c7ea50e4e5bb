use Rattle.section_catalogue.proofs.HomeLemmas.{no_places}
use Rattle.section_catalogue.proofs.tables.Tables.new.Goals as goal

pub returns : goal.returns
returns c = λ i. record { catalogue = c.new.ensures.nothing i; sections = c.new-2.ensures.empty i; places = no_places c.new-3.result.values c.new-3.ensures.values i }
