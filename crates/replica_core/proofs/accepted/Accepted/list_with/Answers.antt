use Rattle.std.proofs.Common.{ap, subst, sym, ◌∙◌, ◌≡◌}
use Rattle.std.specs.Prelude.{IfSome, Some}
use Rattle.origin_model.specs.declared.operations.Place.TheVariants.{Catalogue as catalogue, Section as within}
use Rattle.section_catalogue.specs.Contents.{place_at}
use Rattle.replica_core.specs.Withdrawn.{StandsIn}
use Rattle.replica_core.proofs.LookUpLemmas.{never_without, stands_in_catalogue, stands_in_section}
use Rattle.replica_core.proofs.accepted.Accepted.list_with.Goals as goal

pub returns-in-Catalogue-clause-some : goal.returns-in-Catalogue-clause-some
returns-in-Catalogue-clause-some c =
    let m = c.self.inside.manuscript in
    let h = c.self.inside.history in
    let x = c.args.id in
    let at : place_at m x ≡ Some catalogue = sym c.place_of.ensures.place ∙ c.in_ok-place_of.was ∙ ap (λ p. Some p) c.in-Catalogue.is in
    subst (λ z. StandsIn z x c.catalogue.result.now) c.self.view_is
    (subst (StandsIn h x) (sym c.catalogue.ensures.catalogue) (stands_in_catalogue m h x c.self.invariant.represents at))

pub returns-in-Section-clause-some : goal.returns-in-Section-clause-some
returns-in-Section-clause-some c =
    let m = c.self.inside.manuscript in
    let h = c.self.inside.history in
    let x = c.args.id in
    let s = c.in-Section.section in
    let at : place_at m x ≡ Some (within s) = sym c.place_of.ensures.place ∙ c.in_ok-place_of.was ∙ ap (λ p. Some p) c.in-Section.is in
    subst (λ z. IfSome c.section.result (λ list. StandsIn z x list.now)) c.self.view_is
    (stands_in_section m h x s (λ list. list.now) c.self.invariant.represents at c.section.result c.section.ensures.text)

pub returns-in-Section-clause-none : goal.returns-in-Section-clause-none
returns-in-Section-clause-none c =
    let m = c.self.inside.manuscript in
    let x = c.args.id in
    let s = c.in-Section.section in
    let at : place_at m x ≡ Some (within s) = sym c.place_of.ensures.place ∙ c.in_ok-place_of.was ∙ ap (λ p. Some p) c.in-Section.is in
    never_without m c.self.inside.history x s (λ list. list.now) c.self.invariant.represents at _ c.section.result c.section.ensures.text
