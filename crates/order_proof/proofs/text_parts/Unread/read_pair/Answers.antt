use Rattle.std.proofs.Common.{[], ap, get_or, length, ◌∙◌, ◌∷◌, ◌≡◌}
use Rattle.std.proofs.lemmas.Result.{err_from_is_err_and}
use Rattle.order_proof.proofs.LineLemmas.{passed_on}
use Rattle.order_proof.proofs.text_parts.Unread.read_pair.Goals as goal

pub returns-in_err-chain-clause-every : goal.returns-in_err-chain-clause-every
returns-in_err-chain-clause-every c x y more p e =
    passed_on c.from_residual.result c.in_err-chain.field-0.0 _ (err_from_is_err_and c.from_residual.result c.from_residual.ensures.1)
    (c.in_err-chain.ensures.every (x ∷ y ∷ []) more p e)

pub returns-then-ids-eq2-clause-every : goal.returns-then-ids-eq2-clause-every
returns-then-ids-eq2-clause-every c x y more p e =
    let found = c.in_ok-chain.ensures.every (x ∷ y ∷ []) more p e in
    let whole = c.as_slice-ids.ensures ∙ found.0 in
    (c.index-ids-0.is ∙ ap (λ l. get_or l 0 c.index-ids-0.result) whole, c.index-ids-1.is ∙ ap (λ l. get_or l 1 c.index-ids-1.result) whole, found.1)

pub returns-clause-every : goal.returns-clause-every
returns-clause-every c x y more p e =
    let found = c.in_ok-chain.ensures.every (x ∷ y ∷ []) more p e in
    let two : length c.as_slice-ids.result.now ≡ 2 = ap length (c.as_slice-ids.ensures ∙ found.0) in
    c.if-ids-eq2.false two
