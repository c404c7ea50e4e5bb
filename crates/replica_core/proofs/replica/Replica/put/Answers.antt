use Rattle.std.proofs.Common.{ap, subst, sym, ◌∙◌}
use Rattle.std.specs.Str.{chars}
use Rattle.origin_model.specs.edits.Edits.{Put}
use Rattle.origin_model.specs.edits.Effect.{Gains, with_ops}
use Rattle.replica_core.specs.Edits.{CanJoin}
use Rattle.origin_model.proofs.edits.RefusalLemmas.{edit_lands, put_count}
use Rattle.replica_core.proofs.EditLemmas.{made_can_join}
use Rattle.replica_core.proofs.replica.Replica.put.Goals as goal

pub type_text-requires-clause-can_join : goal.type_text-requires-clause-can_join
type_text-requires-clause-can_join c =
    subst (CanJoin c.args.self.now) c.in-Ok.ensures.ok
    (made_can_join c.args.self.now (Put c.args.section c.args.at (chars c.args.text.now)) c.in-Ok.ensures.sound c.requires c.in-Ok.ensures.may)

pub returns-in_ok-type_text-in-Ok-clause-made : goal.returns-in_ok-type_text-in-Ok-clause-made
returns-in_ok-type_text-in-Ok-clause-made c =
    record {
      count = c.in_ok-type_text-in-Ok.ensures.count ∙ sym (put_count c.args.self.now c.args.section c.args.at (chars c.args.text.now) c.in-Ok.ensures.may);
      gained = subst (Gains c.args.self.now c.type_text.new.self) (sym c.in-Ok.ensures.ok) c.in_ok-type_text-in-Ok.ensures.ok;
    }

pub returns-in_ok-type_text-in-Ok-clause-lands : goal.returns-in_ok-type_text-in-Ok-clause-lands
returns-in_ok-type_text-in-Ok-clause-lands c =
    edit_lands (Put c.args.section c.args.at (chars c.args.text.now)) c.args.self.now c.type_text.new.self c.in-Ok.ensures.sound.lawful c.in-Ok.ensures.may
    (c.in_ok-type_text-in-Ok.ensures.ok.others ∙ ap (with_ops c.args.self.now) (sym c.in-Ok.ensures.ok))
