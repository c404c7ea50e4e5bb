use Rattle.std.proofs.Common.{ap, length, min, subst, sym, take, ◌∙◌, ◌≡◌}
use Rattle.fugue_ids.specs.Runs.{run_from}
use Rattle.fugue_ids.proofs.RunLemmas.{length-typed}
use Rattle.op_runs.specs.Deletions.{deletes_by}
use Rattle.op_runs.specs.Slices.{stretch_ops}
use Rattle.op_runs.proofs.DeletionLemmas.{length-deletes}
use Rattle.origin_model.specs.edits.Effect.{with_ops}
use Rattle.version_views.specs.Accepting.{CanAccept}
use Rattle.version_views.proofs.AcceptingLemmas.{deletes_front, run_front}
use Rattle.version_views.proofs.accepting.accept_some.Goals as goal

pub accept_run-requires-clause-can : goal.accept_run-requires-clause-can
accept_run-requires-clause-can c =
    let is : take c.args.most (stretch_ops c.args.stretch.now) ≡ run_from c.in-Typed.start (take c.min-count.result c.in-Typed.text.now) =
    ap (λ z. take c.args.most (stretch_ops z)) c.in-Typed.is ∙ sym (run_front c.in-Typed.start c.in-Typed.text.now c.min-count.result c.args.most c.min-count.ensures) in
    subst (CanAccept c.args.front.now) is c.requires.can

pub accept_deletes-requires-clause-can : goal.accept_deletes-requires-clause-can
accept_deletes-requires-clause-can c =
    let d = c.in-Deleted.deletes in
    let is : take c.args.most (stretch_ops c.args.stretch.now) ≡ deletes_by d.down d.target c.min-count-in-Deleted.result =
    ap (λ z. take c.args.most (stretch_ops z)) c.in-Deleted.is
    ∙ sym (deletes_front d.down d.target d.count c.min-count-in-Deleted.result c.args.most c.min-count-in-Deleted.ensures) in
    subst (CanAccept c.args.front.now) is c.requires.can

pub returns-in_ok-accept_run-in-Typed-clause-count : goal.returns-in_ok-accept_run-in-Typed-clause-count
returns-in_ok-accept_run-in-Typed-clause-count c =
    let s = c.in-Typed.start in
    let long : length (stretch_ops c.args.stretch.now) ≡ length c.in-Typed.text.now =
    ap (λ z. length (stretch_ops z)) c.in-Typed.is ∙ length-typed s.id s.section s.left s.right c.in-Typed.text.now in
    c.min-count.ensures ∙ ap (λ n. min n c.args.most) (sym long)

pub returns-in_ok-accept_run-in-Typed-clause-ok : goal.returns-in_ok-accept_run-in-Typed-clause-ok
returns-in_ok-accept_run-in-Typed-clause-ok c =
    c.in_ok-accept_run-in-Typed.ensures.ok
    ∙ ap (with_ops c.args.front.now) (run_front c.in-Typed.start c.in-Typed.text.now c.min-count.result c.args.most c.min-count.ensures
    ∙ ap (λ z. take c.args.most (stretch_ops z)) (sym c.in-Typed.is))

pub returns-in_ok-accept_deletes-in-Deleted-clause-count : goal.returns-in_ok-accept_deletes-in-Deleted-clause-count
returns-in_ok-accept_deletes-in-Deleted-clause-count c =
    let d = c.in-Deleted.deletes in
    let long : length (stretch_ops c.args.stretch.now) ≡ d.count = ap (λ z. length (stretch_ops z)) c.in-Deleted.is ∙ length-deletes d.down d.target d.count in
    c.min-count-in-Deleted.ensures ∙ ap (λ n. min n c.args.most) (sym long)

pub returns-in_ok-accept_deletes-in-Deleted-clause-ok : goal.returns-in_ok-accept_deletes-in-Deleted-clause-ok
returns-in_ok-accept_deletes-in-Deleted-clause-ok c =
    let d = c.in-Deleted.deletes in
    c.in_ok-accept_deletes-in-Deleted.ensures.ok
    ∙ ap (with_ops c.args.front.now) (deletes_front d.down d.target d.count c.min-count-in-Deleted.result c.args.most c.min-count-in-Deleted.ensures
    ∙ ap (λ z. take c.args.most (stretch_ops z)) (sym c.in-Deleted.is))
