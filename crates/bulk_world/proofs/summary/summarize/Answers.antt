use Rattle.std.proofs.Common.{ap, length, sym, ◌∙◌, string_bytes}
use Rattle.std.specs.Prelude.{Some, option_map}
use Rattle.bulk_world.proofs.TellingLemmas.{no_text, some_text, summed_by}
use Rattle.bulk_world.proofs.summary.summarize.Goals as goal

pub returns-in-Some : goal.returns-in-Some
returns-in-Some c =
    let bytes = ap Some c.as_str.ensures.value ∙ sym (ap (option_map string_bytes) c.in-Some.is) ∙ c.in_ok-text.ensures.text in
    summed_by c.args.first.now c.args.second.now _ _ _ _ c.summary_by.ensures (c.len-operations.ensures ∙ ap length c.accepted.ensures.accepted)
    (some_text c.args.first.now _ bytes c.as_str.utf8) c.in_ok-is_equal.ensures

pub returns-in-None : goal.returns-in-None
returns-in-None c =
    summed_by c.args.first.now c.args.second.now _ _ _ _ c.summary_by-in-None.ensures (c.len-operations.ensures ∙ ap length c.accepted.ensures.accepted)
    (no_text c.args.first.now (sym (ap (option_map string_bytes) c.in-None.is) ∙ c.in_ok-text.ensures.text))
    c.in_ok-is_equal.ensures
