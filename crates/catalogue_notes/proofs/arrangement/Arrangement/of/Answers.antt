use Rattle.std.proofs.Common.{List, ap, not, reverse, subst, sym, ◌∙◌, ◌≡◌}
use Rattle.std.specs.Prelude.{flat_map, option_to_list}
use Rattle.std.specs.BTreeMap.{get}
use Rattle.fugue_ids.specs.Identifiers.{Identifier, id_cmp}
use Rattle.fugue_ids.specs.declared.op.Op.{Op}
use Rattle.origin_model.specs.declared.operations.Place.TheVariants.{Catalogue as catalogue}
use Rattle.origin_model.specs.order.Printed.{is_withdrawn}
use Rattle.section_catalogue.specs.Manuscript.{IsOrderedPlace}
use Rattle.run_store.specs.Cells.{cell_ids, cells_shown}
use Rattle.catalogue_notes.specs.Arranged.{position}
use Rattle.catalogue_notes.specs.Placing.{position_in}
use Rattle.catalogue_notes.specs.Winning.{winning_candidate}
use Rattle.catalogue_notes.proofs.PlacingLemmas.{arranged_by, placing_same, positions_apart, positions_are}
use Rattle.catalogue_notes.proofs.arrangement.Arrangement.of.Goals as goal

pub placing_of-requires : goal.placing_of-requires
placing_of-requires c =
    let h : List Op = c.args.replica.now.held.history in
    let listed : IsOrderedPlace catalogue h c.catalogue.result.now = subst (IsOrderedPlace catalogue h) (sym c.catalogue.ensures.catalogue) c.places.ensures.lists.catalogue_is in
    let won = λ (s : Identifier). c.in_ok-winners.ensures s ∙ ap (λ z. winning_candidate (λ x. not (is_withdrawn h x)) s (reverse z)) c.deref.ensures.value in
    positions_apart h (cell_ids (cells_shown c.catalogue.result.now.cells)) (position_in (get id_cmp c.in_ok-winners.winners)) c.places.ensures.sound.lawful listed.visible
    (positions_are h c.in_ok-lifted.lifted.list c.in_ok-lifted.lifted.moves.items (get id_cmp c.in_ok-winners.winners) c.in_ok-lifted.ensures.lifted won)

pub returns-clause-arranged : goal.returns-clause-arranged
returns-clause-arranged c =
    let h : List Op = c.args.replica.now.held.history in
    let listed : IsOrderedPlace catalogue h c.catalogue.result.now = subst (IsOrderedPlace catalogue h) (sym c.catalogue.ensures.catalogue) c.places.ensures.lists.catalogue_is in
    let at : Identifier → Identifier = position_in (get id_cmp c.in_ok-winners.winners) in
    let pos : (s : Identifier) → at s ≡ position h s =
    positions_are h c.in_ok-lifted.lifted.list c.in_ok-lifted.lifted.moves.items (get id_cmp c.in_ok-winners.winners) c.in_ok-lifted.ensures.lifted
    (λ s. c.in_ok-winners.ensures s ∙ ap (λ z. winning_candidate (λ x. not (is_withdrawn h x)) s (reverse z)) c.deref.ensures.value) in
    record {
      sections =
          c.in_ok-sections.ensures
          ∙ ap (flat_map (λ x. option_to_list (get id_cmp c.in_ok-placing.placing x))) c.in_ok-lifted.ensures.lifted.visible
          ∙ arranged_by h (get id_cmp c.in_ok-placing.placing) c.places.ensures.sound.lawful
          (placing_same h (cell_ids (cells_shown c.catalogue.result.now.cells)) at (get id_cmp c.in_ok-placing.placing) listed.visible pos c.in_ok-placing.ensures);
      lifted = c.in_ok-lifted.ensures.lifted;
      winners_are = λ s. c.in_ok-winners.ensures s ∙ ap (λ z. winning_candidate (λ x. not (is_withdrawn h x)) s (reverse z)) c.deref.ensures.value;
      positions = pos;
    }
