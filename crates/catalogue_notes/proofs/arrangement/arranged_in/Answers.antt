use Rattle.std.proofs.Common.{List, [], ap, append_assoc, drop, sym, ◌++◌, ◌∙◌, ◌∷◌, ◌≡◌}
use Rattle.std.specs.Prelude.{flat_map, option_to_list, Some, None, option_copied}
use Rattle.std.specs.BTreeMap.{get}
use Rattle.fugue_ids.specs.Identifiers.{Identifier, id_cmp}
use Rattle.catalogue_notes.proofs.PlacingLemmas.{next_part}
use Rattle.catalogue_notes.proofs.arrangement.arranged_in.Goals as goal

pub walk-preserved-in-Continue-1 : goal.walk-preserved-in-Continue-1
walk-preserved-in-Continue-1 c =
    let F : Identifier → List Identifier = λ x. option_to_list (get id_cmp c.args.placing.now x) in
    let s = next_part F c.walk.shown c.in-Some.x (sym c.step.ensures.first ∙ c.in-Some.is) in
    let here : get id_cmp c.args.placing.now c.in-Some.x ≡ Some c.in-Some-get.section.now = sym c.get.ensures.value ∙ ap option_copied c.in-Some-get.is in
    (λ i. c.in_ok-push.ensures.items i ++ flat_map F (c.step.ensures.rest i))
    ∙ append_assoc c.walk.found.items (c.in-Some-get.section.now ∷ []) (flat_map F (drop 1 c.walk.shown))
    ∙ ap (λ z. c.walk.found.items ++ z) (ap (λ o. option_to_list o ++ flat_map F (drop 1 c.walk.shown)) (sym here) ∙ sym s)
    ∙ c.walk.invariant

pub walk-preserved : goal.walk-preserved
walk-preserved c =
    let F : Identifier → List Identifier = λ x. option_to_list (get id_cmp c.args.placing.now x) in
    let s = next_part F c.walk.shown c.in-Some.x (sym c.step.ensures.first ∙ c.in-Some.is) in
    let here : get id_cmp c.args.placing.now c.in-Some.x ≡ None = sym c.get.ensures.value ∙ ap option_copied c.in_default-get.is in
    (λ i. c.walk.found.items ++ flat_map F (c.step.ensures.rest i))
    ∙ ap (λ z. c.walk.found.items ++ z) (ap (λ o. option_to_list o ++ flat_map F (drop 1 c.walk.shown)) (sym here) ∙ sym s)
    ∙ c.walk.invariant
