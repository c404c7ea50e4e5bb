use Rattle.std.proofs.Common.{ap, string_bytes, sym, ◌∙◌}
use Rattle.std.specs.Prelude.{option_map}
use Rattle.margin_notes.proofs.CommentedLemmas.{range_found, range_missing, text_there}
use Rattle.margin_notes.proofs.commenting.find_range.Goals as goal

pub returns-clause-found : goal.returns-clause-found
returns-clause-found c =
    let found = text_there _ _ (string_bytes c.in-Some.text) (sym (ap (option_map string_bytes) c.in-Some.is) ∙ c.in_ok-text.ensures.text) in
    range_found _ _ _ _ c.as_str.result.now found.0 c.cluster_span.result _ _ c.ok_or.ensures.value found.1 (c.as_str.ensures.value ∙ found.2) c.as_str.utf8
    c.in_ok-text.ensures.sound.lawful c.cluster_span.ensures.span c.cluster_span.ensures.none c.cluster_span.ensures.within

pub returns-clause-none : goal.returns-clause-none
returns-clause-none c =
    let found = text_there _ _ (string_bytes c.in-Some.text) (sym (ap (option_map string_bytes) c.in-Some.is) ∙ c.in_ok-text.ensures.text) in
    range_missing c.args.replica.now c.args.section c.args.at c.args.n c.as_str.result.now found.0 c.cluster_span.result _ c.ok_or.ensures.value found.1
    (c.as_str.ensures.value ∙ found.2) c.cluster_span.ensures.none
