use Rattle.std.proofs.Common.{List, ap, reverse, sym, ◌∙◌}
use Rattle.std.specs.Prelude.{option_and_then, option_map, slice_get}
use Rattle.fugue_ids.specs.declared.op.Op.{Op}
use Rattle.margin_notes.specs.Listing.{line_of_entry}
use Rattle.margin_notes.proofs.EntryLemmas.{line_at_place, line_placed, placed_line}
use Rattle.margin_notes.specs.Placing.{comment_placed}
use Rattle.margin_notes.proofs.listing.entry_at.Goals as goal

pub returns-in_err-place : goal.returns-in_err-place
returns-in_err-place c =
    let h : List Op = c.args.replica.now.held.history in
    ap (option_map (line_of_entry (reverse h))) c.from_residual.ensures
    ∙ ap (option_and_then (line_placed h)) c.in_err-place.ensures
    ∙ sym (line_at_place h (slice_get (reverse h) c.args.at))

pub returns-in_err-number : goal.returns-in_err-number
returns-in_err-number c =
    let h : List Op = c.args.replica.now.held.history in
    let p = comment_placed (reverse h) c.in_ok-place.place in
    ap (option_map (line_of_entry (reverse h))) c.from_residual-in_err-number.ensures
    ∙ ap (option_map (λ k. placed_line k p)) (c.in_err-number.ensures h c.places.ensures.places)
    ∙ ap (option_and_then (line_placed h)) c.in_ok-place.ensures
    ∙ sym (line_at_place h (slice_get (reverse h) c.args.at))

pub returns : goal.returns
returns c =
    let h : List Op = c.args.replica.now.held.history in
    let p = comment_placed (reverse h) c.in_ok-place.place in
    ap (option_map (λ k. placed_line k p)) (c.in_ok-number.ensures h c.places.ensures.places)
    ∙ ap (option_and_then (line_placed h)) c.in_ok-place.ensures
    ∙ sym (line_at_place h (slice_get (reverse h) c.args.at))
