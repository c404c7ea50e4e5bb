use Rattle.std.proofs.Common.{List, ap, subst, sym, ◌∙◌}
use Rattle.std.specs.BTreeMap.{get}
use Rattle.fugue_ids.specs.Identifiers.{Identifier, id_cmp}
use Rattle.fugue_ids.proofs.IdentifierLemmas.{id_at-other}
use Rattle.run_store.specs.Cells.{cell_ids, cells_shown}
use Rattle.catalogue_notes.specs.Placing.{position_in}
use Rattle.catalogue_notes.proofs.PlacingLemmas.{IsPlacingSome, placing_all, placing_more}
use Rattle.catalogue_notes.proofs.arrangement.placing_of.Goals as goal

pub sections-preserved : goal.sections-preserved
sections-preserved c =
    let at : Identifier → Identifier = position_in (get id_cmp c.args.winners.now) in
    let listed : List Identifier = cell_ids (cells_shown c.args.catalogue.now.cells) in
    let u = c.in_ok-insert.ensures.updates in
    subst (λ z. IsPlacingSome at listed z (get id_cmp c.insert.new.self)) (sym c.step.ensures.rest)
    (placing_more at listed c.sections.shown c.in-Some.section (get id_cmp c.sections.placing) (get id_cmp c.insert.new.self) c.requires (sym c.step.ensures.first ∙ c.in-Some.is)
    (ap (get id_cmp c.insert.new.self) (sym c.position_of.ensures) ∙ u.1)
    (λ x n. u.2 x (id_at-other c.position_of.result x (λ e. n (e ∙ c.position_of.ensures)))) c.sections.invariant)

pub returns : goal.returns
returns c =
    placing_all (position_in (get id_cmp c.args.winners.now)) (cell_ids (cells_shown c.args.catalogue.now.cells)) c.sections.shown (get id_cmp c.sections.placing)
    (sym c.step.ensures.first ∙ c.in_default.is) c.sections.invariant
