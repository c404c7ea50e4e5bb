use Rattle.draft_plan.specs.Limits.{CostsShaping, LacksRoom, cost}
use Rattle.draft_plan.specs.Plans.{unmatched_count}
use Rattle.section_plan.specs.Matching.{section_of}
use Rattle.std.specs.Prelude.{None, Ok}
use Rattle.draft_plan.proofs.EditCostLemmas.{shaping_none}
use Rattle.std.proofs.Common.{[], ap, inl, refl, subst, sym, ◌++◌, ◌∙◌, ◌∷◌, ◌≡◌}
use Rattle.std.specs.Prelude.{Some, slice_get}
use Rattle.std.proofs.lemmas.Option.{same_Some}
use Rattle.std.proofs.lemmas.Result.{err_from_is_err_and}
use Rattle.origin_model.specs.declared.edit_fault.EditFault.TheVariants as edit
use Rattle.origin_model.specs.declared.operations.Place.TheVariants.{Catalogue as catalogue}
use Rattle.origin_model.specs.order.Printed.{shown}
use Rattle.catalogue_notes.specs.Outlining.{entry_sections}
use Rattle.catalogue_notes.specs.declared.entry.Entry.{Entry}
use Rattle.draft_plan.specs.declared.fault.ReviseFault.TheVariants as fault
use Rattle.draft_plan.proofs.ResizingLemmas.{entry_section}
use Rattle.draft_plan.proofs.ShapeLemmas.{stops_shaped, wants_memory}
use Rattle.draft_plan.proofs.TargetLemmas.{anchored_in, anchored_more}
use Rattle.draft_plan.proofs.resizing.take_part.Goals as goal

pub returns-in_err-keep_section-clause-shapes : goal.returns-in_err-keep_section-clause-shapes
returns-in_err-keep_section-clause-shapes c =
    let p = err_from_is_err_and c.from_residual.result c.from_residual.ensures.1 in
    rw (p.1, p.2) (wants_memory c.args.replica.now)

pub returns-in-Some-clause-taken : goal.returns-in-Some-clause-taken
returns-in-Some-clause-taken c =
    let there = sym c.section_of.ensures ∙ c.in-Some.is in
    let within = c.requires.within c.in-Some.place there in
    let at = entry_section c.args.entries.now c.in-Some.place c.index-entries-place.result within c.index-entries-place.is in
    record {
      section = c.index-entries-place.result.section;
      targets_are = c.in_ok-keep_section.ensures ∙ ap (λ (e : Entry). c.args.sections.now.items ++ e.section ∷ []) (sym c.index-entries-place.is);
      kept = λ i e. let same = same_Some c.in-Some.place i (sym there ∙ e) in (ap (slice_get (entry_sections c.args.entries.now)) (sym same) ∙ at, refl);
      came = λ e. cc (e, there);
    }

pub returns-in_err-keep_section-2-clause-shapes : goal.returns-in_err-keep_section-2-clause-shapes
returns-in_err-keep_section-2-clause-shapes c =
    let p = err_from_is_err_and c.from_residual-in_err-keep_section-2.result c.from_residual-in_err-keep_section-2.ensures.1 in
    let mid = c.add_one.new.replica in
    rw (p.1, p.2) (stops_shaped c.args.replica.now mid mid 1 (fault.Edit edit.NoMemory) c.in_ok-section.ensures.added.shaped (wants_memory mid))

pub returns-in_err-keep_section-clause-costs : goal.returns-in_err-keep_section-clause-costs
returns-in_err-keep_section-clause-costs c =
    let p = err_from_is_err_and c.from_residual.result c.from_residual.ensures.1 in
    rw (p.1, p.2) tt

pub returns-in-Some-clause-costs : goal.returns-in-Some-clause-costs
returns-in-Some-clause-costs c =
    shaping_none c.args.replica.now (cost (unmatched_count (section_of c.args.pairs.now c.args.part)) (unmatched_count (section_of c.args.pairs.now c.args.part)) 0)

pub returns-in_err-keep_section-2-clause-costs : goal.returns-in_err-keep_section-2-clause-costs
returns-in_err-keep_section-2-clause-costs c =
    let p = err_from_is_err_and c.from_residual-in_err-keep_section-2.result c.from_residual-in_err-keep_section-2.ensures.1 in
    rw (p.1, p.2) tt

pub returns-clause-taken : goal.returns-clause-taken
returns-clause-taken c =
    let none = sym c.section_of.ensures ∙ c.in_default.is in
    record {
      section = c.in_ok-section.section;
      targets_are = c.in_ok-keep_section-2.ensures;
      kept = λ i e. cc (e, none);
      came = λ e. record { number = c.number_after-number.result; behind = c.number_after-number.ensures; added = c.in_ok-section.ensures.added };
    }

pub number_after-number-requires : goal.number_after-number-requires
number_after-number-requires c = anchored_in c.args.anchor.now c.args.sections.now.items (shown catalogue c.args.replica.now.held.history) c.requires.anchor c.requires.there

pub returns-in-Some-clause-anchor : goal.returns-in-Some-clause-anchor
returns-in-Some-clause-anchor c =
    anchored_more c.args.anchor.now c.next_anchor.result c.args.sections.now.items c.keep_section.new.sections.items _ c.in_ok-keep_section.ensures c.requires.anchor
    c.next_anchor.ensures

pub returns-clause-anchor : goal.returns-clause-anchor
returns-clause-anchor c =
    anchored_more c.args.anchor.now (Some c.in_ok-section.section) c.args.sections.now.items c.keep_section-2.new.sections.items c.in_ok-section.section
    c.in_ok-keep_section-2.ensures c.requires.anchor (inl refl)

pub returns-in_err-section-clause-costs : goal.returns-in_err-section-clause-costs
returns-in_err-section-clause-costs c =
    let none : section_of c.args.pairs.now c.args.part ≡ None = sym c.section_of.ensures ∙ c.in_default.is in
    let p = err_from_is_err_and c.from_residual-in_err-section.result c.from_residual-in_err-section.ensures.1 in
    rw (p.1, p.2) (subst (λ o. LacksRoom c.args.replica.now (cost (unmatched_count o) (unmatched_count o) 0) c.in_err-section.field-0.0) (sym none) c.in_err-section.ensures.lacks)

pub returns-clause-costs : goal.returns-clause-costs
returns-clause-costs c =
    let none : section_of c.args.pairs.now c.args.part ≡ None = sym c.section_of.ensures ∙ c.in_default.is in
    subst (λ o. CostsShaping c.args.replica.now c.add_one.new.replica (cost (unmatched_count o) (unmatched_count o) 0) (Ok 1)) (sym none) c.in_ok-section.ensures.costs
