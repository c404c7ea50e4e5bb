use Rattle.std.proofs.Common.{ℕ, List, Some, ap, ap₂, sym, ◌∙◌}
use Rattle.std.specs.Prelude.{encode_utf8_all}
use Rattle.std.proofs.lemmas.Str.{encodes_same}
use Rattle.origin_model.specs.edits.Edits.{Command, Add}
use Rattle.edit_script.proofs.LineLemmas.{add_asks, adds}
use Rattle.edit_script.proofs.edit.read_add.Goals as goal

pub returns-in-Some-2-clause-named : goal.returns-in-Some-2-clause-named
returns-in-Some-2-clause-named c =
    let read = rw c.in-Some-2.is at c.in_ok-title.ensures.title in
    add_asks _ _ _ _ c.in-Some.ensures.parts.0 c.in-Some.ensures.parts.1 read.0 read.1 read.2

pub returns-in-Some-2-clause-every : goal.returns-in-Some-2-clause-every
returns-in-Some-2-clause-every c command asks =
    let read = rw c.in-Some-2.is at c.in_ok-title.ensures.title in
    let line = adds c.args.rest.now command asks in
    let parts = c.in-Some.ensures.every line.at (encode_utf8_all line.title) line.small line.rest_is in
    ap₂ (λ (at : ℕ) (title : List ℕ). Some (Add at title)) parts.0 (encodes_same _ _ (read.0 ∙ parts.1)) ∙ ap (λ (c : Command). Some c) (sym line.is)
