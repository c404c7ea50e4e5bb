use Rattle.std.proofs.Common.{[], subst, true, ◌++◌, ◌∷◌}
use Rattle.std.specs.Prelude.{Err, codes}
use Rattle.std.proofs.lemmas.Result.{err_from_is_err_and}
use Rattle.fugue_ids.specs.Gathers.{GathersText}
use Rattle.fugue_ids.proofs.GatherLemmas.{gathers_join, gathers_stop}
use Rattle.origin_model.proofs.SharedLemmas.{section_joins}
use Rattle.change_marks.specs.Changes.{heading_bytes}
use Rattle.change_marks.specs.Marks.{text_with_marks, runs}
use Rattle.change_marks.proofs.sections.put_dropped.Goals as goal

pub returns-in_err-put_dropped_head : goal.returns-in_err-put_dropped_head
returns-in_err-put_dropped_head g c =
    let title = codes "{--" ++ heading_bytes c.args.then.now c.args.section ++ codes "--}" in
    let body = text_with_marks c.args.now.now (runs true c.args.then.now c.args.now.now c.args.section) in
    let p = err_from_is_err_and c.from_residual.result c.from_residual.ensures.1 in
    rw p.1 (subst (GathersText {T = Unit {0}} (g.O.Out.seen c.args.output.now) (g.O.Out.seen c.put_dropped_head.new.output) c.args.gather.now c.put_dropped_head.new.gather
    (Err (record {}))) (section_joins title body)
    (gathers_stop {T = Unit {0}} {S = Unit {0}} _ _ _ _ (codes "# " ++ title ++ 10 ∷ []) (body ++ 10 ∷ []) c.in_err-put_dropped_head.ensures))

pub returns : goal.returns
returns g c =
    let title = codes "{--" ++ heading_bytes c.args.then.now c.args.section ++ codes "--}" in
    let body = text_with_marks c.args.now.now (runs true c.args.then.now c.args.now.now c.args.section) in
    subst (GathersText {T = Unit {0}} (g.O.Out.seen c.args.output.now) (g.O.Out.seen c.put_body.new.output) c.args.gather.now c.put_body.new.gather c.put_body.result)
    (section_joins title body)
    (gathers_join {T = Unit {0}} {S = Unit {0}} tt c.put_body.result _ _ _ _ _ _ (codes "# " ++ title ++ 10 ∷ [])
    (body ++ 10 ∷ []) c.in_ok-put_dropped_head.ensures c.put_body.ensures)
