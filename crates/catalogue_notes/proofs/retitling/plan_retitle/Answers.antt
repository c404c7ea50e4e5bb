use Rattle.std.proofs.Common.{ap, length, subst, sym, ◌<◌, ◌∙◌}
use Rattle.std.specs.Prelude.{slice_get}
use Rattle.std.specs.Str.{encode_utf8_all}
use Rattle.catalogue_notes.specs.Making.{retitle_body}
use Rattle.catalogue_notes.proofs.RefusalLemmas.{section_below}
use Rattle.catalogue_notes.proofs.retitling.plan_retitle.Goals as goal

pub section_at-requires : goal.section_at-requires
section_at-requires c =
    subst (λ z. c.args.k < length z) (sym c.requires.found.arranged.sections) (section_below c.args.replica.now c.args.k c.requires.section)

pub returns-clause-ok : goal.returns-clause-ok
returns-clause-ok c =
    let s = c.requires.found in
    let next = c.in_ok-next.ensures.ok c.args.replica.now.held.history s in
    record {
      section = c.section_at.result;
      placed = ap (λ z. slice_get z c.args.k) (sym s.arranged.sections) ∙ c.section_at.ensures;
      left_over = next.1;
      is_text = c.in_ok-body.ensures.text;
      scalars = c.in_ok-body.ensures.scalars;
      names_are = c.names_of.ensures;
      body_is = c.in_ok-body.ensures.body ∙ ap (λ n. retitle_body n (encode_utf8_all c.args.title.now)) next.0;
    }
