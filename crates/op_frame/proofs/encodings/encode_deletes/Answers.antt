use Rattle.std.proofs.Common.{List, [], ap, append_assoc, subst, sym, ℕ, ◌++◌, ◌∙◌, ◌∷◌, All}
use Rattle.std.proofs.lemmas.List.Elements.{All-append, All-cons, All-nil}
use Rattle.fugue_ids.specs.Identifiers.{Identifier}
use Rattle.fugue_ids.specs.declared.op.Op.TheVariants.{Delete}
use Rattle.origin_model.specs.frames.Frames.{HasFrame, frame}
use Rattle.origin_model.specs.frames.Framings.{frames}
use Rattle.op_runs.specs.Deletions.{deletes_by, target_by}
use Rattle.op_frame.proofs.RunFrameLemmas.{frames_more}
use Rattle.op_frame.proofs.encodings.encode_deletes.Goals as goal
use Rattle.op_runs.proofs.DeletionLemmas.{deletes_more}

pub loop-offset-preserved : goal.loop-offset-preserved
loop-offset-preserved c =
    let d = c.args.deletes.now in
    let n : ℕ = c.loop-offset.offset in
    let target : Identifier = target_by d.down d.target n in
    record {
      items = c.in_ok-encode.ensures.ok ∙ ap (λ (l : List ℕ). l ++ frame (Delete c.nth-target.result)) c.loop-offset.invariant.items
          ∙ append_assoc c.args.out.now.items (frames (deletes_by d.down d.target n)) (frame (Delete c.nth-target.result))
          ∙ ap (λ (t : Identifier). c.args.out.now.items ++ (frames (deletes_by d.down d.target n) ++ frame (Delete t))) c.nth-target.ensures
          ∙ ap (λ (l : List ℕ). c.args.out.now.items ++ l) (sym (frames_more d.down d.target n));
      have_frames = subst (All HasFrame) (sym (deletes_more d.down d.target n))
          (All-append HasFrame (deletes_by d.down d.target n) (Delete target ∷ []) c.loop-offset.invariant.have_frames
          (All-cons HasFrame (Delete target) [] (subst (λ (t : Identifier). HasFrame (Delete t)) c.nth-target.ensures c.in_ok-encode.ensures.has_frame) (All-nil HasFrame)));
    }
