use Rattle.std.proofs.Common.{ap, subst, ◌∙◌, ◌∷◌, [], ◌++◌}
use Rattle.std.specs.Prelude.{Err, codes}
use Rattle.std.specs.Str.{encode_utf8_all}
use Rattle.std.proofs.lemmas.Result.{err_from_is_err_and}
use Rattle.fugue_ids.specs.Gathers.{GathersText}
use Rattle.fugue_ids.proofs.GatherLemmas.{gathers_join, gathers_stop}
use Rattle.origin_model.proofs.SharedLemmas.{section_joins}
use Rattle.run_store.specs.Cells.{cell_text}
use Rattle.section_catalogue.proofs.printing.put_section.Goals as goal

pub returns-in_err-put_heading : goal.returns-in_err-put_heading
returns-in_err-put_heading g c =
    let title = c.as_str.result.now in
    let body = encode_utf8_all (cell_text c.args.section.now.text.cells) in
    let p = err_from_is_err_and c.from_residual.result c.from_residual.ensures.1 in
    rw p.1 (subst (GathersText {T = Unit {0}} (g.O.Out.seen c.args.output.now) (g.O.Out.seen c.put_heading.new.out) c.args.gather.now c.put_heading.new.self (Err (record {})))
    (section_joins title body ∙ ap (λ t. codes "# " ++ t ++ 10 ∷ body ++ 10 ∷ []) c.as_str.ensures.text)
    (gathers_stop {T = Unit {0}} {S = Unit {0}} _ _ _ _ (codes "# " ++ title ++ 10 ∷ []) (body ++ 10 ∷ []) c.in_err-put_heading.ensures))

pub returns-in_err-put_text : goal.returns-in_err-put_text
returns-in_err-put_text g c =
    let title = c.as_str.result.now in
    let body = encode_utf8_all (cell_text c.args.section.now.text.cells) in
    let p = err_from_is_err_and c.from_residual-in_err-put_text.result c.from_residual-in_err-put_text.ensures.1 in
    rw p.1 (subst (GathersText {T = Unit {0}} (g.O.Out.seen c.args.output.now) (g.O.Out.seen c.put_text.new.output) c.args.gather.now c.put_text.new.gather (Err (record {})))
    (section_joins title body ∙ ap (λ t. codes "# " ++ t ++ 10 ∷ body ++ 10 ∷ []) c.as_str.ensures.text)
    (gathers_join {T = Unit {0}} {S = Unit {0}} tt (Err (record {})) _ _ _ _ _ _ (codes "# " ++ title ++ 10 ∷ []) (body ++ 10 ∷ []) c.in_ok-put_heading.ensures
    (gathers_stop {T = Unit {0}} {S = Unit {0}} _ _ _ _ body (10 ∷ []) c.in_err-put_text.ensures)))

pub returns : goal.returns
returns g c =
    let title = c.as_str.result.now in
    let body = encode_utf8_all (cell_text c.args.section.now.text.cells) in
    subst (GathersText {T = Unit {0}} (g.O.Out.seen c.args.output.now) (g.O.Out.seen c.put.new.out) c.args.gather.now c.put.new.self c.put.result)
    (section_joins title body ∙ ap (λ t. codes "# " ++ t ++ 10 ∷ body ++ 10 ∷ []) c.as_str.ensures.text)
    (gathers_join {T = Unit {0}} {S = Unit {0}} tt c.put.result _ _ _ _ _ _ (codes "# " ++ title ++ 10 ∷ []) (body ++ 10 ∷ []) c.in_ok-put_heading.ensures
    (gathers_join {T = Unit {0}} {S = Unit {0}} tt c.put.result _ _ _ _ _ _ body (10 ∷ []) c.in_ok-put_text.ensures c.put.ensures))
