use Rattle.std.proofs.Common.{List, ap, length, subst, sym, ◌+◌, ◌<◌, ◌∙◌, ◌≡◌}
use Rattle.std.specs.Prelude.{Some, insert, slice_get}
use Rattle.std.specs.BTreeMap.{get}
use Rattle.fugue_ids.specs.Identifiers.{Identifier, id_cmp}
use Rattle.fugue_ids.specs.declared.op.Op.{Op}
use Rattle.origin_model.specs.edits.State.{State}
use Rattle.catalogue_notes.specs.Arranged.{arranged}
use Rattle.catalogue_notes.specs.Lift.{stamp}
use Rattle.catalogue_notes.specs.Lifting.{IsLiftOf}
use Rattle.catalogue_notes.specs.Making.{without_member}
use Rattle.catalogue_notes.specs.Placing.{AreWinners}
use Rattle.catalogue_notes.specs.declared.lifting.Lifted.{Lifted}
use Rattle.catalogue_notes.proofs.PlacingLemmas.{positions_are}
use Rattle.catalogue_notes.proofs.stamped.Stamped.take_move.Goals as goal

pub put-requires-clause-place : goal.put-requires-clause-place
put-requires-clause-place c =
    let b = c.requires.behind in
    subst (λ (z : List Identifier). c.args.j < length z) (sym (ap (λ v. v.items) c.in_ok-take_note.ensures.sections ∙ b.stamped.arranged.sections)) b.place

pub returns : goal.returns
returns c =
    let b = c.requires.behind in
    let h : List Op = c.args.replica.now.held.history in
    let was : c.take_note.new.self.sections.items ≡ arranged b.old.held.history = ap (λ v. v.items) c.in_ok-take_note.ensures.sections ∙ b.stamped.arranged.sections in
    let there : slice_get c.take_note.new.self.sections.items c.args.k ≡ Some b.made.section = ap (λ z. slice_get z c.args.k) was ∙ b.made.placed in
    let lifted : IsLiftOf h c.put.new.self.lifted.list c.put.new.self.lifted.moves.items =
    subst (λ (z : Lifted). IsLiftOf h z.list z.moves.items) (sym c.in_ok-put.ensures.lifted) c.in_ok-take_note.ensures.lifted in
    let winners : AreWinners h c.put.new.self.lifted.moves.items (get id_cmp c.put.new.self.winners) =
    subst (λ z. AreWinners h c.put.new.self.lifted.moves.items (get id_cmp z)) (sym c.in_ok-put.ensures.winners)
    (subst (λ (z : Lifted). AreWinners h z.moves.items (get id_cmp c.take_note.new.self.winners)) (sym c.in_ok-put.ensures.lifted) c.in_ok-take_note.ensures.winners) in
    record {
      arranged = record {
        sections = c.in_ok-put.ensures.sections b.made.section there ∙ ap (λ z. insert (without_member z c.args.k) c.args.j b.made.section) was ∙ sym b.made.lands;
        lifted = lifted;
        winners_are = winners;
        positions = positions_are h c.put.new.self.lifted.list c.put.new.self.lifted.moves.items (get id_cmp c.put.new.self.winners) lifted winners;
      };
      stamp_is = ap (λ n. n + 1) b.stamped.stamp_is ∙ sym b.made.moved.stamped ∙ sym (ap (λ (s : State). stamp s.held.history) b.made.gained.others);
    }
