use Rattle.std.proofs.Common.{ap, arith, subst, sym, ◌∙◌, ◌≡◌}
use Rattle.std.specs.Prelude.{Some, option_map}
use Rattle.section_catalogue.specs.Contents.{text_at}
use Rattle.section_catalogue.specs.Manuscript.{Represents}
use Rattle.replica_core.specs.Replica.{OpenState}
use Rattle.replica_core.proofs.DeletesFeedingLemmas.{row_can_go, row_within}
use Rattle.replica_core.proofs.open_replica.OpenReplica.deletable.Goals as goal

pub returns-clause-can : goal.returns-clause-can
returns-clause-can c =
    let state = c.args.self.now.state in
    let s = c.in_ok-section.section in
    let l = c.in_ok-text.text.now in
    let m = c.places-places.result.now in
    let represents : Represents m state.held.history = subst (Represents m) (ap (λ (r : OpenState). r.state.held.history) c.self.view_is) c.places-places.ensures in
    let found : Some l ≡ text_at m s = sym (ap (option_map (λ text. text.now)) c.in_ok-text.was) ∙ c.section.ensures.text in
    row_can_go m state s l c.args.first c.visible_row-row.result c.requires.settled represents found c.visible_row-row.ensures.visible
    (omega (arith, c.visible_row-row.ensures.within, c.min-most.ensures, c.room.ensures.room))

pub returns-clause-placed : goal.returns-clause-placed
returns-clause-placed c =
    let h = c.args.self.now.state.held.history in
    let s = c.in_ok-section.section in
    let l = c.in_ok-text.text.now in
    let m = c.places-places.result.now in
    let represents : Represents m h = subst (Represents m) (ap (λ (r : OpenState). r.state.held.history) c.self.view_is) c.places-places.ensures in
    let found : Some l ≡ text_at m s = sym (ap (option_map (λ text. text.now)) c.in_ok-text.was) ∙ c.section.ensures.text in
    row_within m h s l c.args.first c.visible_row-row.result represents found c.visible_row-row.ensures.visible
