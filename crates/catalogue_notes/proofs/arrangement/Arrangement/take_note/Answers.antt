use Rattle.std.proofs.Common.{List, ap, length, subst, sym, ◌-◌, ◌++◌, ◌∙◌, ◌∷◌, ◌≡◌}
use Rattle.std.specs.Prelude.{Some, option_to_list}
use Rattle.std.specs.BTreeMap.{get}
use Rattle.fugue_ids.specs.Identifiers.{id_cmp}
use Rattle.fugue_ids.specs.Ops.{id_of}
use Rattle.fugue_ids.specs.declared.op.Op.{Op}
use Rattle.fugue_ids.specs.declared.op.Op.TheVariants.{Note}
use Rattle.origin_model.specs.operations.Verdict.{Lawful}
use Rattle.catalogue_notes.specs.Lift.{is_section}
use Rattle.catalogue_notes.specs.Placing.{AreWinners}
use Rattle.catalogue_notes.specs.declared.reading.Candidate.{Candidate}
use Rattle.catalogue_notes.proofs.NotedLemmas.{lifted_candidate, noted_more, noted_new, noted_read, noted_same, winners_more}
use Rattle.catalogue_notes.proofs.arrangement.Arrangement.take_note.Goals as goal

pub returns-in_default-clause-lifted : goal.returns-in_default-clause-lifted
returns-in_default-clause-lifted c =
    noted_same c.args.replica.now.held.history c.args.self.now c.requires c.accepted.ensures.sound.lawful
    (noted_read c.args.replica.now.held.history c.args.self.now c.requires c.accepted.ensures.sound.lawful (c.len-newest.result - 1) c.lift_at.result
    (ap (λ n. n - 1) (c.len-newest.ensures ∙ ap length c.accepted.ensures.accepted)) c.lift_at.ensures ∙ c.in_default.is)

pub take-requires-clause-new : goal.take-requires-clause-new
take-requires-clause-new c =
    noted_new c.args.replica.now.held.history c.args.self.now c.requires c.accepted.ensures.sound.lawful
    c.in-Some.lift (noted_read c.args.replica.now.held.history c.args.self.now c.requires c.accepted.ensures.sound.lawful (c.len-newest.result - 1) c.lift_at.result
    (ap (λ n. n - 1) (c.len-newest.ensures ∙ ap length c.accepted.ensures.accepted)) c.lift_at.ensures ∙ c.in-Some.is)

pub returns-in_ok-take_candidate-clause-lifted : goal.returns-in_ok-take_candidate-clause-lifted
returns-in_ok-take_candidate-clause-lifted c =
    noted_more c.args.replica.now.held.history c.args.self.now c.requires c.accepted.ensures.sound.lawful
    c.take.new.self.list c.take.new.self.moves.items c.in-Some.lift
    (noted_read c.args.replica.now.held.history c.args.self.now c.requires c.accepted.ensures.sound.lawful (c.len-newest.result - 1) c.lift_at.result
    (ap (λ n. n - 1) (c.len-newest.ensures ∙ ap length c.accepted.ensures.accepted)) c.lift_at.ensures ∙ c.in-Some.is) c.in_ok-take.ensures.list c.in_ok-take.ensures.in_order
    c.in_ok-take.ensures.moves

pub returns-in_default-candidate-clause-lifted : goal.returns-in_default-candidate-clause-lifted
returns-in_default-candidate-clause-lifted c =
    noted_more c.args.replica.now.held.history c.args.self.now c.requires c.accepted.ensures.sound.lawful
    c.take.new.self.list c.take.new.self.moves.items c.in-Some.lift
    (noted_read c.args.replica.now.held.history c.args.self.now c.requires c.accepted.ensures.sound.lawful (c.len-newest.result - 1) c.lift_at.result
    (ap (λ n. n - 1) (c.len-newest.ensures ∙ ap length c.accepted.ensures.accepted)) c.lift_at.ensures ∙ c.in-Some.is) c.in_ok-take.ensures.list c.in_ok-take.ensures.in_order
    c.in_ok-take.ensures.moves

pub returns-in_ok-take_candidate-clause-winners : goal.returns-in_ok-take_candidate-clause-winners
returns-in_ok-take_candidate-clause-winners c =
    let r = c.requires in
    let h : List Op = c.args.replica.now.held.history in
    let note : Op = Note r.id r.named r.code r.body in
    let b : Candidate = c.in-Some-candidate.candidate in
    let own : id_of note ≡ Some b.id =
    lifted_candidate (is_section h) c.args.self.now.lifted.list.nodes note c.in-Some.lift b
    (noted_read c.args.replica.now.held.history c.args.self.now c.requires c.accepted.ensures.sound.lawful (c.len-newest.result - 1) c.lift_at.result
    (ap (λ n. n - 1) (c.len-newest.ensures ∙ ap length c.accepted.ensures.accepted)) c.lift_at.ensures ∙ c.in-Some.is) c.in-Some-candidate.is in
    let candidates = c.args.self.now.lifted.moves.items in
    subst (λ z. AreWinners z c.take.new.self.moves.items (get id_cmp c.take_candidate.new.winners)) (sym r.is)
    (subst (λ z. AreWinners (note ∷ r.older) z (get id_cmp c.take_candidate.new.winners))
    (ap (λ o. candidates ++ option_to_list o) (sym c.in-Some-candidate.is) ∙ sym c.in_ok-take.ensures.moves)
    (winners_more r.older r.id r.named r.code r.body candidates b (get id_cmp c.args.self.now.winners) (get id_cmp c.take_candidate.new.winners)
    (subst Lawful r.is c.accepted.ensures.sound.lawful) own
    r.arranged.winners_are c.in_ok-take_candidate.ensures.ok))
