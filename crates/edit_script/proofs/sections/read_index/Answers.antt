use Rattle.std.proofs.Common.{ap, sym, ◌∙◌}
use Rattle.std.specs.Prelude.{option_map, string_bytes}
use Rattle.edit_script.specs.Sections.{shown_text_in}
use Rattle.edit_script.proofs.SectionLemmas.{read_hidden, read_shown}
use Rattle.edit_script.proofs.sections.read_index.Goals as goal

pub returns-in_ok-new-in-Some : goal.returns-in_ok-new-in-Some
returns-in_ok-new-in-Some c =
    read_shown _ (shown_text_in c.args.replica.now) (string_bytes c.in-Some.text) _ (sym (ap (option_map string_bytes) c.in-Some.is) ∙ c.in_ok-text.ensures.text)
    (c.in_ok-new-in-Some.ensures ∙ c.as_str.ensures.value)

pub returns-in_ok-new-in-None : goal.returns-in_ok-new-in-None
returns-in_ok-new-in-None c =
    read_hidden _ (shown_text_in c.args.replica.now) _ (sym (ap (option_map string_bytes) c.in-None.is) ∙ c.in_ok-text.ensures.text)
