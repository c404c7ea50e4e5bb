use Rattle.std.proofs.Common.{ap, length, subst, sym, ◌<◌, ◌∙◌}
use Rattle.std.specs.Prelude.{slice_get}
use Rattle.catalogue_notes.specs.Making.{move_body, move_names}
use Rattle.catalogue_notes.proofs.RefusalLemmas.{place_below}
use Rattle.catalogue_notes.proofs.moving.plan_move.Goals as goal

pub gap_for-gap-requires-clause-section : goal.gap_for-gap-requires-clause-section
gap_for-gap-requires-clause-section c =
    subst (λ z. c.args.k < length z) (sym c.requires.found.arranged.sections) (place_below c.args.replica.now c.args.k c.args.j c.requires.place).0

pub gap_for-gap-requires-clause-place : goal.gap_for-gap-requires-clause-place
gap_for-gap-requires-clause-place c =
    subst (λ z. c.args.j < length z) (sym c.requires.found.arranged.sections) (place_below c.args.replica.now c.args.k c.args.j c.requires.place).1

pub section_at-requires : goal.section_at-requires
section_at-requires c =
    subst (λ z. c.args.k < length z) (sym c.requires.found.arranged.sections) (place_below c.args.replica.now c.args.k c.args.j c.requires.place).0

pub returns-clause-ok : goal.returns-clause-ok
returns-clause-ok c =
    let s = c.requires.found in
    let next = c.in_ok-stamp.ensures.ok c.args.replica.now.held.history s in
    let gap = c.gap_for-gap.ensures c.args.replica.now.held.history s.arranged in
    record {
      section = c.section_at.result;
      placed = ap (λ z. slice_get z c.args.k) (sym s.arranged.sections) ∙ c.section_at.ensures;
      place = (place_below c.args.replica.now c.args.k c.args.j c.requires.place).1;
      left_over = next.1;
      names_are = c.names_of.ensures ∙ ap (move_names c.section_at.result) gap;
      body_is = c.in_ok-body.ensures ∙ (λ i. move_body (next.0 i) (gap i));
    }
