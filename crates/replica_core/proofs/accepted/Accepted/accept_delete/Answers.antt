use Rattle.std.proofs.Common.{sym, ◌∙◌, ap, ◌≡◌}
use Rattle.fugue_ids.specs.declared.op.Op.TheVariants.{Delete}
use Rattle.origin_model.specs.operations.Verdict.{verdict}
use Rattle.origin_model.specs.declared.operations.Verdict.TheVariants.{Ready}
use Rattle.replica_core.proofs.WithdrawnLemmas.{withdrawn_free}
use Rattle.replica_core.proofs.accepted.Accepted.accept_delete.Goals as goal

pub take_in_delete-requires-clause-free : goal.take_in_delete-requires-clause-free
take_in_delete-requires-clause-free c none =
    let x = c.args.target in
    let h = c.self.inside.history in
    let ready : verdict h (Delete x) ≡ Ready = ap (λ z. verdict z (Delete x)) c.self.view_is ∙ c.requires.ready in
    withdrawn_free c.self.inside.withdrawn.values h x c.self.invariant.withdrawn_are ready (sym (c.self.invariant.represents.places x) ∙ none)
