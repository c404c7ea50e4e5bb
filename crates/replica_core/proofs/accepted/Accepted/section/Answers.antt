use Rattle.std.proofs.Common.{ap, sym, ◌∙◌}
use Rattle.std.specs.Prelude.{option_map}
use Rattle.replica_core.proofs.LookUpLemmas.{shown_has_text, text_found}
use Rattle.replica_core.proofs.accepted.Accepted.section.Goals as goal

pub unwrap-text-requires : goal.unwrap-text-requires
unwrap-text-requires c =
    let m = c.self.inside.manuscript in
    let h = c.self.inside.history in
    shown_has_text m h c.args.k c.in-Some.id (λ text. text.now) c.section.result c.self.invariant.represents
    (sym (c.section_at.ensures.section h c.self.invariant.represents) ∙ c.in-Some.is) c.section.ensures.text

pub returns-clause-text : goal.returns-clause-text
returns-clause-text c =
    let m = c.self.inside.manuscript in
    rw (← c.self.view_is)
    (text_found m c.self.inside.history c.in-Some.id c.unwrap-text.result.now c.self.invariant.represents
    (sym (ap (option_map (λ text. text.now)) c.unwrap-text.ensures) ∙ c.section.ensures.text))
