use Rattle.std.proofs.Common.{length, length-drop, sym, ap, subst, ◌∙◌, arith}
use Rattle.std.proofs.lemmas.List.{drop_all}
use Rattle.std.proofs.lemmas.Str.{IsUtf8-nil}
use Rattle.std.specs.Str.{IsUtf8}
use Rattle.cluster_text.specs.Cuts.{IsWhole}
use Rattle.cluster_text.proofs.TextLemmas.{alone-some, front_alone, rest_alone, splits-boundary, splits-front, splits-rest, cut_shorter}
use Rattle.cluster_text.proofs.cutting.split_part.Goals as goal

pub returns-then-text-le-LONG-clause-shorter : goal.returns-then-text-le-LONG-clause-shorter
returns-then-text-le-LONG-clause-shorter c =
    omega (arith, ap length c.split_at.ensures.back, length-drop (length c.args.text.now) c.args.text.now, alone-some c.args.text.now c.requires)

pub split_at-requires-2 : goal.split_at-requires-2
split_at-requires-2 c = splits-boundary _ _ _ c.pass_part-rest.ensures.splits

pub returns-clause-part : goal.returns-clause-part
returns-clause-part c =
    let boundary = c.pass_part-rest.ensures in
    front_alone c.args.text.now c.pass_part-rest.result.now boundary c.utf8.text c.requires c.split_at-2.result.0.now (c.split_at-2.ensures.front ∙ splits-front _ _ _ boundary.splits)

pub returns-clause-rest : goal.returns-clause-rest
returns-clause-rest c =
    let boundary = c.pass_part-rest.ensures in
    subst (λ t. IsWhole t) (sym (c.split_at-2.ensures.back ∙ splits-rest _ _ _ boundary.splits))
    (rest_alone c.args.text.now c.pass_part-rest.result.now boundary c.utf8.text c.requires)

pub returns-then-text-le-LONG-clause-utf8 : goal.returns-then-text-le-LONG-clause-utf8
returns-then-text-le-LONG-clause-utf8 c =
    subst IsUtf8 (sym (c.split_at.ensures.back ∙ drop_all (length c.args.text.now) c.args.text.now (omega arith))) IsUtf8-nil

pub returns-clause-utf8 : goal.returns-clause-utf8
returns-clause-utf8 c =
    let boundary = c.pass_part-rest.ensures in
    subst IsUtf8 (sym (c.split_at-2.ensures.back ∙ splits-rest _ _ _ boundary.splits)) boundary.splits.utf8

pub returns-clause-shorter : goal.returns-clause-shorter
returns-clause-shorter c =
    let boundary = c.pass_part-rest.ensures in
    let shorter = cut_shorter c.args.text.now c.pass_part-rest.result.now boundary c.utf8.text c.requires in
    omega (arith, ap length (c.split_at-2.ensures.back ∙ splits-rest _ _ _ boundary.splits), shorter)
