use Rattle.std.proofs.Common.{[], List, ap, false, subst, sym, true, ℕ, ◌++◌, ◌∙◌, ◌∷◌, ◌≡◌}
use Rattle.std.specs.Prelude.{Bool, Err, codes, if◌then◌else◌}
use Rattle.std.proofs.lemmas.Result.{err_from_is_err_and}
use Rattle.fugue_ids.specs.Gathers.{GathersText}
use Rattle.fugue_ids.proofs.GatherLemmas.{gathers_join, gathers_stop}
use Rattle.origin_model.proofs.SharedLemmas.{section_joins}
use Rattle.change_marks.specs.Changes.{head, is_changed}
use Rattle.change_marks.specs.Marks.{text_with_marks, runs}
use Rattle.change_marks.proofs.sections.put_section.Goals as goal

pub returns-in_err-put_head : goal.returns-in_err-put_head
returns-in_err-put_head g c =
    let title : List ℕ = head c.args.then.now c.args.now.now c.args.section in
    let body : List ℕ = text_with_marks c.args.now.now (runs false c.args.then.now c.args.now.now c.args.section) in
    let changed : is_changed c.args.then.now c.args.now.now c.args.section ≡ true = sym c.is_changed.ensures ∙ c.if-not-is_changed.false in
    let p = err_from_is_err_and c.from_residual.result c.from_residual.ensures.1 in
    rw p.1 (subst (GathersText {T = Unit {0}} (g.O.Out.seen c.args.output.now) (g.O.Out.seen c.put_head.new.output) c.args.gather.now c.put_head.new.gather (Err (record {})))
    (section_joins title body ∙ sym (ap (λ (b : Bool). if b then codes "# " ++ title ++ 10 ∷ body ++ 10 ∷ [] else []) changed))
    (gathers_stop {T = Unit {0}} {S = Unit {0}} _ _ _ _ (codes "# " ++ title ++ 10 ∷ []) (body ++ 10 ∷ []) c.in_err-put_head.ensures))

pub returns : goal.returns
returns g c =
    let title : List ℕ = head c.args.then.now c.args.now.now c.args.section in
    let body : List ℕ = text_with_marks c.args.now.now (runs false c.args.then.now c.args.now.now c.args.section) in
    let changed : is_changed c.args.then.now c.args.now.now c.args.section ≡ true = sym c.is_changed.ensures ∙ c.if-not-is_changed.false in
    subst (GathersText {T = Unit {0}} (g.O.Out.seen c.args.output.now) (g.O.Out.seen c.put_body.new.output) c.args.gather.now c.put_body.new.gather c.put_body.result)
    (section_joins title body ∙ sym (ap (λ (b : Bool). if b then codes "# " ++ title ++ 10 ∷ body ++ 10 ∷ [] else []) changed))
    (gathers_join {T = Unit {0}} {S = Unit {0}} tt c.put_body.result _ _ _ _ _ _ (codes "# " ++ title ++ 10 ∷ []) (body ++ 10 ∷ []) c.in_ok-put_head.ensures c.put_body.ensures)
