use Rattle.std.proofs.Common.{ap, subst, sym, ◌∙◌}
use Rattle.std.specs.Prelude.{IsSome, option_map}
use Rattle.origin_model.specs.declared.operations.Place.TheVariants.{Catalogue as catalogue}
use Rattle.origin_model.proofs.SharedLemmas.{order_total}
use Rattle.replica_core.proofs.LookUpLemmas.{some_from_map, text_found}
use Rattle.change_marks.proofs.sections.elements_of.Goals as goal

pub unwrap-list-requires : goal.unwrap-list-requires
unwrap-list-requires c =
    let h = c.args.replica.now.held.history in
    let there = (c.places.ensures.lists.there c.args.section).1 (((order_total catalogue h c.places.ensures.sound.lawful).lists c.args.section).1 c.requires) in
    some_from_map (λ text. text.now) c.section.result (subst (λ o. IsSome o) (sym c.section.ensures.text) there)

pub returns-clause-elements : goal.returns-clause-elements
returns-clause-elements c =
    (text_found c.places.result.now c.args.replica.now.held.history c.args.section c.unwrap-list.result.now c.places.ensures.places
    (sym (ap (option_map (λ text. text.now)) c.unwrap-list.ensures) ∙ c.section.ensures.text)).place.all

pub returns-clause-shown : goal.returns-clause-shown
returns-clause-shown c =
    (text_found c.places.result.now c.args.replica.now.held.history c.args.section c.unwrap-list.result.now c.places.ensures.places
    (sym (ap (option_map (λ text. text.now)) c.unwrap-list.ensures) ∙ c.section.ensures.text)).place.visible
