use Rattle.std.proofs.Common.{arith, sym, ◌∙◌}
use Rattle.std.proofs.lemmas.Option.{get_or_from_slice_get, slice_get_within}
use Rattle.causal_inbox.proofs.AgeLemmas.{position_found, position_none}
use Rattle.causal_inbox.proofs.index.position.Goals as goal
use Rattle.causal_inbox.proofs.index.position.Goals.{else-first-len-via-then-first-len+else-get-age, else-first-len-via-else-first-len}

pub returns-then-get-age : goal.returns-then-get-age
returns-then-get-age c =
    let ages = c.args.ages.now.items in
    let first = c.first_from-first.result in
    sym (position_found ages first c.args.age c.requires (slice_get_within ages first c.get.result.now c.get.ensures)
    (get_or_from_slice_get ages first c.get.result.now 0 c.get.ensures ∙ c.if-get-age.true))

pub returns : goal.returns
returns c =
    let ages = c.args.ages.now.items in
    c.len-2.ensures ∙ sym (position_none ages c.args.age c.first_from-first.result c.requires c.first_from-first.ensures (elim c.else-first-len.branch [
      | else-first-len-via-then-first-len+else-get-age w ↦
          λ l e. w.if-get-age.false (sym (get_or_from_slice_get ages c.first_from-first.result w.get.result.now 0 w.get.ensures) ∙ e)
      | else-first-len-via-else-first-len w ↦ λ l e. omega (arith, l, w.if-first-len.false, c.len.ensures)
    ]))
