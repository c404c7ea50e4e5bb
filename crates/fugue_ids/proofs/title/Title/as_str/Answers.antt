use Rattle.std.proofs.Common.{sym, ap, ◌∙◌}
use Rattle.std.specs.Str.{encode_utf8_all, chars}
use Rattle.fugue_ids.proofs.TextLemmas.{encode_utf8_all-chars}
use Rattle.fugue_ids.proofs.title.Title.as_str.Goals as goal

pub returns-clause-text : goal.returns-clause-text
returns-clause-text c =
    sym (encode_utf8_all-chars _ c.as_str.utf8) ∙ ap encode_utf8_all (ap chars c.as_str.ensures.value ∙ c.self.view_is)
