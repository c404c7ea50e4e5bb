use Rattle.std.proofs.Common.{◌++◌, ◌∙◌, ◌∷◌}
use Rattle.std.proofs.lemmas.Result.{err_from_is_err_and}
use Rattle.order_proof.specs.Texts.{ids_text}
use Rattle.order_proof.proofs.LineLemmas.{line_split, narrow_all, passed_on}
use Rattle.order_proof.proofs.TextLemmas.{ids_free}
use Rattle.order_proof.proofs.text_parts.Unread.read_chain.Goals as goal

pub returns-in_default-clause-every : goal.returns-in_default-clause-every
returns-in_default-clause-every c ids more p e =
    let behind = c.takes.ensures.every (ids_text ids ++ 10 ∷ more) (e ∙ line_split c.args.word.now ids more) in
    absurd (c.in_default.ensures.every (ids_text ids) more (ids_free ids (narrow_all ids p)) behind.1)

pub returns-in_err-read_ids-clause-every : goal.returns-in_err-read_ids-clause-every
returns-in_err-read_ids-clause-every c ids more p e =
    let behind = c.takes.ensures.every (ids_text ids ++ 10 ∷ more) (e ∙ line_split c.args.word.now ids more) in
    let parts = c.in-Some.ensures.every (ids_text ids) more (ids_free ids (narrow_all ids p)) behind.1 in
    passed_on c.from_residual.result c.in_err-read_ids.field-0.0 _ (err_from_is_err_and c.from_residual.result c.from_residual.ensures.1)
    (c.in_err-read_ids.ensures.every ids p parts.0)

pub returns-clause-every : goal.returns-clause-every
returns-clause-every c ids more p e =
    let behind = c.takes.ensures.every (ids_text ids ++ 10 ∷ more) (e ∙ line_split c.args.word.now ids more) in
    let parts = c.in-Some.ensures.every (ids_text ids) more (ids_free ids (narrow_all ids p)) behind.1 in
    (c.new.ensures ∙ c.in_ok-read_ids.ensures.every ids p parts.0, parts.1)
