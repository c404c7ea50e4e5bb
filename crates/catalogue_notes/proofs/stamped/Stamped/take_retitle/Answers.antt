use Rattle.std.proofs.Common.{List, ap, sym, ◌+◌, ◌∙◌}
use Rattle.std.specs.BTreeMap.{get}
use Rattle.fugue_ids.specs.Identifiers.{id_cmp}
use Rattle.fugue_ids.specs.declared.op.Op.{Op}
use Rattle.origin_model.specs.edits.State.{State}
use Rattle.catalogue_notes.specs.Arranged.{arranged}
use Rattle.catalogue_notes.specs.Lift.{stamp}
use Rattle.catalogue_notes.proofs.PlacingLemmas.{positions_are}
use Rattle.catalogue_notes.proofs.stamped.Stamped.take_retitle.Goals as goal

pub returns : goal.returns
returns c =
    let b = c.requires.behind in
    let h : List Op = c.args.replica.now.held.history in
    let l = c.take_note.new.self.lifted in
    record {
      arranged = record {
        sections = ap (λ v. v.items) c.in_ok-take_note.ensures.sections ∙ b.stamped.arranged.sections ∙ sym b.made.retitled.same_arranged
            ∙ sym (ap (λ (s : State). arranged s.held.history) b.made.gained.others);
        lifted = c.in_ok-take_note.ensures.lifted;
        winners_are = c.in_ok-take_note.ensures.winners;
        positions = positions_are h l.list l.moves.items (get id_cmp c.take_note.new.self.winners) c.in_ok-take_note.ensures.lifted c.in_ok-take_note.ensures.winners;
      };
      stamp_is = ap (λ n. n + 1) b.stamped.stamp_is ∙ sym b.made.retitled.stamped ∙ sym (ap (λ (s : State). stamp s.held.history) b.made.gained.others);
    }
