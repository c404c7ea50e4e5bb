use Rattle.std.proofs.Common.{string_bytes, sym, ◌∙◌}
use Rattle.std.proofs.lemmas.Str.{IsUtf8-string_bytes}
use Rattle.cluster_text.proofs.SingleLemmas.{front-singles}
use Rattle.cluster_text.proofs.place.scalars_before.Goals as goal

pub returns-then-part : goal.returns-then-part
returns-then-part c =
    let part = c.args.part.now in
    sym (front-singles (string_bytes part.text) c.args.n (IsUtf8-string_bytes part.text) (sym part.clusters_are ∙ c.if-part.true ∙ part.scalars_are) c.requires)
