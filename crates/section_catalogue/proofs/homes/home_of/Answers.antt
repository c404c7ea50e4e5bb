use Rattle.std.proofs.Common.{ap, sym, ◌∙◌}
use Rattle.std.specs.Prelude.{option_map}
use Rattle.section_catalogue.proofs.HomeLemmas.{place-get}
use Rattle.section_catalogue.proofs.homes.home_of.Goals as goal

pub returns-in-Some : goal.returns-in-Some
returns-in-Some c = ap (option_map (λ h. h.place)) (sym c.in-Some.is ∙ c.get.ensures) ∙ sym (place-get c.args.homes.now.values c.args.id)

pub returns-in-None : goal.returns-in-None
returns-in-None c = ap (option_map (λ h. h.place)) (sym c.in-None.is ∙ c.get.ensures) ∙ sym (place-get c.args.homes.now.values c.args.id)
