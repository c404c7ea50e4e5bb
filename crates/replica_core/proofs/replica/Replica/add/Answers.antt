use Rattle.std.proofs.Common.{ap, subst, sym, ◌∙◌}
use Rattle.origin_model.specs.edits.Edits.{Add}
use Rattle.origin_model.specs.edits.Effect.{with_ops}
use Rattle.replica_core.specs.Edits.{CanJoin}
use Rattle.origin_model.proofs.edits.RefusalLemmas.{edit_lands}
use Rattle.replica_core.proofs.EditLemmas.{made_can_join}
use Rattle.replica_core.proofs.replica.Replica.add.Goals as goal

pub join-requires : goal.join-requires
join-requires c =
    subst (CanJoin c.args.self.now) c.in_ok-op.ensures.ok (made_can_join c.args.self.now (Add c.args.at c.args.title) c.in_ok-op.ensures.sound c.requires c.in_ok-op.ensures.may)

pub returns-clause-lands : goal.returns-clause-lands
returns-clause-lands c =
    edit_lands (Add c.args.at c.args.title) c.args.self.now c.join.new.self c.in_ok-op.ensures.sound.lawful c.in_ok-op.ensures.may
    (c.in_ok-join.ensures.ok ∙ ap (with_ops c.args.self.now) (sym c.in_ok-op.ensures.ok))
