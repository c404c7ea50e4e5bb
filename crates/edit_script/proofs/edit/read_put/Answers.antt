use Rattle.std.proofs.Common.{ap, sym, ◌∙◌, length, string_bytes}
use Rattle.std.specs.List.{flat_map}
use Rattle.std.specs.Str.{chars}
use Rattle.std.proofs.lemmas.Bool.{eqb-true, eqb-false}
use Rattle.std.proofs.lemmas.Str.{scalars-chars, IsUtf8-string_bytes}
use Rattle.edit_script.specs.Grammar.{escaped_scalar}
use Rattle.edit_script.proofs.EscapeLemmas.{none_written}
use Rattle.edit_script.proofs.LineLemmas.{put_asks, puts}
use Rattle.edit_script.proofs.edit.read_put.Goals as goal

pub returns-then-is_empty-clause-every : goal.returns-then-is_empty-clause-every
returns-then-is_empty-clause-every c command asks =
    let line = puts c.args.rest.now command asks in
    let parts = c.in-Some.ensures.every line.section line.at (flat_map escaped_scalar line.new) line.small line.place_small line.rest_is in
    absurd (line.some (none_written line.new (sym (ap length parts.2) ∙ eqb-true _ 0 (sym c.is_empty.ensures ∙ c.if-is_empty.true))))

pub returns-in-Some-2-clause-named : goal.returns-in-Some-2-clause-named
returns-in-Some-2-clause-named c =
    let read = rw c.in-Some-2.is at c.in_ok-text.ensures.named in
    put_asks _ _ (chars (string_bytes c.in-Some-2.text)) _ _ c.in-Some.ensures.parts.0 c.in-Some.ensures.parts.1 c.in-Some.ensures.parts.2 read
    (scalars-chars _ (IsUtf8-string_bytes c.in-Some-2.text)) (eqb-false _ 0 (sym c.is_empty.ensures ∙ c.if-is_empty.false))
