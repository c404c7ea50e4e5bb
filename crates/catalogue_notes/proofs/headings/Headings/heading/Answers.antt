use Rattle.std.proofs.Common.{ap, subst, sym, true, ◌∙◌, ◌≡◌}
use Rattle.std.specs.Str.{encode_utf8_all}
use Rattle.catalogue_notes.specs.Arranged.{heading}
use Rattle.catalogue_notes.specs.Lift.{is_section}
use Rattle.catalogue_notes.proofs.PrintingLemmas.{heading_found}
use Rattle.catalogue_notes.proofs.headings.Headings.heading.Goals as goal

pub returns : goal.returns
returns c =
    let h = c.self.inside.replica.now.held.history in
    let s = c.args.section in
    c.title_of.ensures
    ∙ heading_found h c.self.inside.layout s c.self.invariant.0 c.self.invariant.1 (subst (λ l. is_section l s ≡ true) (sym c.self.view_is) c.requires)
    ∙ ap (λ l. encode_utf8_all (heading l s)) c.self.view_is
