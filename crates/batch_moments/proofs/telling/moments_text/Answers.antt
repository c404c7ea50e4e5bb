use Rattle.std.proofs.Common.{List, ap, append-nil, append_assoc, arith, drop, length, refl, sym, take, ◌+◌, ◌++◌, ◌<◌, ◌∙◌, ◌≡◌}
use Rattle.std.specs.Prelude.{flat_map, slice_index_or}
use Rattle.std.proofs.lemmas.List.{drop_all}
use Rattle.fugue_ids.specs.declared.op.Op.{Op}
use Rattle.batch_moments.specs.Counts.{reported_parts}
use Rattle.batch_moments.specs.Lines.{ops_between, line_text, lines_of_moments, moments_text}
use Rattle.batch_moments.proofs.LineLemmas.{lines_next}
use Rattle.batch_moments.proofs.telling.moments_text.Goals as goal

pub moments-preserved : goal.moments-preserved
moments-preserved c =
    let moments = c.args.moments.now in
    let ops = c.args.ops in
    let i = c.moments.moment-index in
    let moment = slice_index_or moments i 0 in
    let text = c.moments.text.items in
    let below : i < length moments = omega (arith, c.moments-test.true, c.moments.auto.moment-index-end) in
    let rest = flat_map line_text (lines_of_moments moment (drop (i + 1) moments) ops) in
    let line = line_text (record { moment = moment; parts = reported_parts (ops_between c.moments.from moment ops) }) in
    let came : take c.saturating_sub.result c.moments.rest ≡ ops_between c.moments.from moment ops = λ k. take (c.saturating_sub.ensures k) (c.moments.invariant.rest k) in
    record {
      left =
          ap (λ t. t ++ rest) (c.in_ok-put_line.ensures.line ∙ ap (λ (l : List Op). text ++ line_text (record { moment = moment; parts = reported_parts l })) came)
          ∙ append_assoc text line rest
          ∙ ap (λ l. text ++ flat_map line_text l) (sym (lines_next moments i moment below refl c.moments.from ops)) ∙ c.moments.invariant.left;
      rest = c.after_moment-rest.ensures;
    }

pub returns : goal.returns
unfolding moments_text
returns c =
    let text = c.moments.text.items in
    let none = drop_all c.moments.moment-index c.args.moments.now c.moments-test.false in
    sym (append-nil text) ∙ sym (ap (λ l. text ++ flat_map line_text (lines_of_moments c.moments.from l c.args.ops)) none) ∙ c.moments.invariant.left
