use Rattle.std.proofs.Common.{refl, subst, sym, ◌∙◌, ◌∷◌, ◌≡◌}
use Rattle.fugue_ids.specs.declared.op.Op.TheVariants.{Note}
use Rattle.origin_model.specs.operations.Verdict.{verdict}
use Rattle.origin_model.specs.declared.operations.Verdict.TheVariants.{Ready}
use Rattle.section_catalogue.specs.Manuscript.{Represents}
use Rattle.section_catalogue.proofs.GrowthLemmas.{note_stands}
use Rattle.section_catalogue.proofs.UnchangedLemmas.{either}
use Rattle.replica_core.specs.Withdrawn.{HasWithdrawn}
use Rattle.replica_core.proofs.WithdrawnLemmas.{stays_withdrawn}
use Rattle.replica_core.proofs.accepted.Accepted.accept.Goals as goal

pub invariant_of-self : goal.invariant_of-self
invariant_of-self c =
    let i = c.self.inside in
    let h = i.history in
    let w = i.withdrawn.values in
    let note = Note c.in-Note.id c.in-Note.names c.in-Note.code c.in-Note.body in
    let ready : verdict h note ≡ Ready = (λ i. verdict (c.self.view_is i) (sym c.in-Note.is i)) ∙ c.requires.ready in
    let represents : Represents i.manuscript (note ∷ h) =
    note_stands i.manuscript h c.in-Note.id c.in-Note.names c.in-Note.code c.in-Note.body c.self.invariant.represents ready in
    let withdrawn : HasWithdrawn w (note ∷ h) = stays_withdrawn w note h ready (λ x none. refl) c.self.invariant.withdrawn_are in
    either c.push.result (c.push.new.self ≡ c.args.op ∷ h) (c.push.new.self ≡ h) _ c.push.ensures.ok c.push.ensures.err
    (λ ok. record {
      represents = subst (Represents i.manuscript) (sym ok) (subst (λ o. Represents i.manuscript (o ∷ h)) (sym c.in-Note.is) represents);
      withdrawn_are = subst (HasWithdrawn w) (sym ok) (subst (λ o. HasWithdrawn w (o ∷ h)) (sym c.in-Note.is) withdrawn);
    })
    (λ err. record {
      represents = subst (Represents i.manuscript) (sym err) c.self.invariant.represents;
      withdrawn_are = subst (HasWithdrawn w) (sym err) c.self.invariant.withdrawn_are;
    })
