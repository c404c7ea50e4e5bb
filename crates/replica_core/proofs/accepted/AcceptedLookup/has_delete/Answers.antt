use Rattle.std.proofs.Common.{ap, ◌∙◌}
use Rattle.std.specs.Prelude.{is_some}
use Rattle.fugue_ids.specs.declared.op.Op.TheVariants.{Delete}
use Rattle.origin_model.specs.operations.History.{has_op, holder}
use Rattle.origin_model.proofs.SharedLemmas.{hidden-has}
use Rattle.section_catalogue.specs.Place.{place_held}
use Rattle.replica_core.proofs.accepted.AcceptedLookup.has_delete.Goals as goal

pub returns-in-Some : goal.returns-in-Some
returns-in-Some c =
    let found = c.in-Some.ensures.some in
    c.is_hidden.ensures ∙ found.listed.hidden c.args.target found.inside ∙ hidden-has c.args.self.now c.args.target

pub returns-in-None : goal.returns-in-None
returns-in-None c =
    let x = c.args.target in
    let h = c.self.inside.history in
    c.is_some.ensures ∙ ap is_some c.get.ensures
    ∙ c.self.invariant.withdrawn_are x (ap (λ h. place_held (holder h x)) c.self.view_is ∙ c.in-None.ensures.none)
    ∙ hidden-has h x ∙ ap (λ h. has_op h (Delete x)) c.self.view_is
