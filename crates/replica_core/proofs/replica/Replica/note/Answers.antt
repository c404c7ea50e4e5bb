use Rattle.std.proofs.Common.{ap, subst, sym, ◌∙◌, ◌∷◌, []}
use Rattle.origin_model.specs.edits.Effect.{with_ops}
use Rattle.replica_core.specs.Edits.{CanJoin}
use Rattle.origin_model.proofs.edits.NotedLemmas.{noted_shows}
use Rattle.replica_core.proofs.EditLemmas.{note_can_join}
use Rattle.replica_core.proofs.replica.Replica.note.Goals as goal

pub join-requires : goal.join-requires
join-requires c =
    subst (λ op. CanJoin c.args.self.now (op ∷ [])) (sym c.in_ok-op.ensures.ok)
    (note_can_join c.args.self.now c.args.names c.args.code c.args.body c.in_ok-op.ensures.sound c.requires.settled c.requires.held c.in_ok-op.ensures.may)

pub returns-clause-shown : goal.returns-clause-shown
returns-clause-shown c =
    noted_shows c.args.self.now c.join.new.self c.args.names c.args.code c.args.body
    (c.in_ok-join.ensures.ok ∙ ap (λ op. with_ops c.args.self.now (op ∷ [])) c.in_ok-op.ensures.ok)
