use Rattle.std.proofs.Common.{ap, arith, sym, ◌+◌, ◌++◌, ◌-◌, ◌∙◌, ◌∷◌, [], subst}
use Rattle.fugue_ids.specs.declared.op.Op.TheVariants.{Delete}
use Rattle.op_runs.specs.Deletions.{deletes_by, target_by}
use Rattle.origin_model.specs.edits.Effect.{with_ops}
use Rattle.version_views.specs.Accepting.{CanAccept}
use Rattle.version_views.proofs.AcceptingLemmas.{next_can, next_delete, with_more}
use Rattle.version_views.proofs.accepting.accept_deletes.Goals as goal
use Rattle.op_runs.proofs.DeletionLemmas.{deletes_more}

pub accept-requires : goal.accept-requires
accept-requires c =
    let d = c.args.deletes.now in
    let n = c.deletes.done in
    subst (λ t. CanAccept c.deletes.front (Delete t ∷ [])) (sym c.nth-target.ensures)
    (next_can c.args.front.now c.deletes.front (deletes_by d.down d.target c.args.count) (deletes_by d.down d.target n) (Delete (target_by d.down d.target n) ∷ [])
    (deletes_by d.down (target_by d.down d.target (n + 1)) (c.args.count - (n + 1)))
    c.requires.can (next_delete d.down d.target n c.args.count c.deletes-test.true) c.deletes.invariant.accepted c.deletes.invariant.sound)

pub deletes-preserved : goal.deletes-preserved
deletes-preserved c =
    let d = c.args.deletes.now in
    let n = c.deletes.done in
    record {
      within = omega (arith, c.deletes-test.true);
      accepted = with_more c.args.front.now c.deletes.front c.accept.new.front (deletes_by d.down d.target n)
          (Delete c.nth-target.result ∷ []) c.deletes.invariant.accepted c.in_ok-accept.ensures.ok
          ∙ ap (with_ops c.args.front.now) (ap (λ t. deletes_by d.down d.target n ++ Delete t ∷ []) c.nth-target.ensures ∙ sym (deletes_more d.down d.target n));
      sound = c.in_ok-accept.ensures.sound;
    }
