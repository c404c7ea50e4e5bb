use Rattle.std.proofs.Common.{ap, subst, sym, ◌∙◌}
use Rattle.origin_model.specs.edits.Edits.{Cut, deletes_of}
use Rattle.origin_model.specs.edits.Effect.{with_ops}
use Rattle.replica_core.specs.Deleting.{AreWithin}
use Rattle.replica_core.specs.Edits.{CanJoin}
use Rattle.origin_model.proofs.edits.RefusalLemmas.{edit_lands}
use Rattle.replica_core.proofs.EditLemmas.{made_can_join}
use Rattle.replica_core.proofs.replica.Replica.cut.Goals as goal

pub delete_each-requires-clause-can_join : goal.delete_each-requires-clause-can_join
delete_each-requires-clause-can_join c =
    rw c.deref.ensures.value
    (subst (CanJoin c.args.self.now) c.in_ok-targets.ensures.ok
    (made_can_join c.args.self.now (Cut c.args.section c.args.at c.args.n) c.in_ok-targets.ensures.sound c.requires c.in_ok-targets.ensures.may))

pub delete_each-requires-clause-within : goal.delete_each-requires-clause-within
delete_each-requires-clause-within c =
    subst (AreWithin c.in_ok-targets.targets.section c.args.self.now.held.history) (sym c.deref.ensures.value) c.in_ok-targets.ensures.within

pub returns-clause-lands : goal.returns-clause-lands
returns-clause-lands c =
    edit_lands (Cut c.args.section c.args.at c.args.n) c.args.self.now c.delete_each.new.self c.in_ok-targets.ensures.sound.lawful c.in_ok-targets.ensures.may
    (c.in_ok-delete_each.ensures.ok.others ∙ ap (with_ops c.args.self.now) (ap deletes_of c.deref.ensures.value ∙ sym c.in_ok-targets.ensures.ok))
