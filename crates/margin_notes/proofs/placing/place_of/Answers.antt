use Rattle.std.proofs.Common.{List, ap, reverse, sym, ◌∙◌}
use Rattle.std.specs.Prelude.{option_map}
use Rattle.fugue_ids.specs.declared.op.Op.{Op}
use Rattle.margin_notes.specs.Placing.{comment_placed}
use Rattle.margin_notes.proofs.EntryLemmas.{first_is_in, last_is_in, place_found, section_missing}
use Rattle.margin_notes.proofs.placing.place_of.Goals as goal

pub returns-in_err-section : goal.returns-in_err-section
returns-in_err-section c =
    let h : List Op = c.args.replica.now.held.history in
    let not_withdrawn = sym c.is_withdrawn.ensures.withdrawn ∙ c.if-is_withdrawn.false in
    ap (option_map (comment_placed (reverse h))) c.from_residual-in_err-section.ensures
    ∙ section_missing h c.args.op.now c.in_ok-anchors.anchors c.in_ok-anchors.ensures not_withdrawn (c.in_err-section.ensures h c.places-places.ensures.places)

pub returns : goal.returns
returns c =
    let h : List Op = c.args.replica.now.held.history in
    let st = c.places-places.ensures.places in
    let a = c.in_ok-anchors.anchors in
    let not_withdrawn = sym c.is_withdrawn.ensures.withdrawn ∙ c.if-is_withdrawn.false in
    let at_section = c.in_ok-section.ensures h st in
    let s = c.in_ok-section.section in
    place_found h c.args.op.now a c.in_ok-anchors.ensures not_withdrawn s at_section (reverse h) c.start_of.result c.end_of.result c.args.at c.requires
    (c.start_of.ensures h st (first_is_in h c.args.op.now a c.in_ok-anchors.ensures not_withdrawn s at_section))
    (c.end_of.ensures h st (last_is_in h c.args.op.now a c.in_ok-anchors.ensures not_withdrawn s at_section))
