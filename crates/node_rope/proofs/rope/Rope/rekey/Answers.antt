use Rattle.std.proofs.Common.{sym, ap, ◌∙◌}
use Rattle.std.specs.Prelude.{is_some}
use Rattle.node_rope.specs.Items.{value_under}
use Rattle.node_rope.specs.Beside.{put_under}
use Rattle.node_rope.proofs.RekeyLemmas.{value-renamed, put-renamed}
use Rattle.node_rope.proofs.rope.Rope.rekey.Goals as goal

pub put-requires : goal.put-requires
put-requires g c =
    let is = c.rename.ensures.renamed c.if-not-rename.false in
    ap (λ xs. is_some (value_under c.args.new_key xs)) is ∙ ap is_some (value-renamed c.args.key c.args.new_key c.args.self.now c.requires.fresh) ∙ c.requires.held

pub returns-clause-old : goal.returns-clause-old
returns-clause-old g c =
    let is = c.rename.ensures.renamed c.if-not-rename.false in
    sym (value-renamed c.args.key c.args.new_key c.args.self.now c.requires.fresh) ∙ ap (value_under c.args.new_key) (sym is) ∙ c.put.ensures.old

pub returns-clause-rekeyed : goal.returns-clause-rekeyed
returns-clause-rekeyed g c =
    let is = c.rename.ensures.renamed c.if-not-rename.false in
    c.put.ensures.put ∙ ap (put_under c.args.new_key c.args.value) is ∙ put-renamed c.args.key c.args.new_key c.args.value c.args.self.now c.requires.fresh
