use Rattle.std.proofs.Common.{◌<◌, ◌∙◌, Some, ap, length, subst, sym}
use Rattle.std.specs.Prelude.{slice_get}
use Rattle.fugue_ids.specs.Runs.{text_by}
use Rattle.fugue_ids.specs.declared.op.Op.TheVariants.{Delete}
use Rattle.op_runs.specs.Parts.{IsSoundPart, part_len, part_ops}
use Rattle.op_runs.specs.declared.part.Part.{Part}
use Rattle.op_runs.specs.declared.part.Part.TheVariants.{Deleted, Other, Typed}
use Rattle.op_runs.proofs.FindLemmas.{delete_at, letter_at, other_at}
use Rattle.op_runs.proofs.find.op_in.Goals as goal

pub returns-in-Typed : goal.returns-in-Typed
returns-in-Typed c =
    let s : IsSoundPart (length c.args.letters.now) (length c.args.others.now) (Typed c.in-Typed.run') =
    subst (IsSoundPart (length c.args.letters.now) (length c.args.others.now)) c.in-Typed.is c.requires.sound in
    let o : c.args.offset < part_len (Typed c.in-Typed.run') = subst (λ (p : Part). c.args.offset < part_len p) c.in-Typed.is c.requires.inside in
    ap (λ z. Some (text_by z c.index-letters-run.result)) c.nth.ensures
    ∙ letter_at c.args.letters.now c.in-Typed.run' c.args.offset c.index-letters-run.result s.1 o c.index-letters-run.is
    ∙ ap (λ (p : Part). slice_get (part_ops c.args.letters.now c.args.others.now p) c.args.offset) (sym c.in-Typed.is)

pub returns-in-Deleted : goal.returns-in-Deleted
returns-in-Deleted c =
    let d = c.in-Deleted.deletes in
    let o : c.args.offset < part_len (Deleted d) = subst (λ (p : Part). c.args.offset < part_len p) c.in-Deleted.is c.requires.inside in
    ap (λ t. Some (Delete t)) c.nth-in-Deleted.ensures
    ∙ delete_at d.down d.target d.count c.args.offset o
    ∙ ap (λ (p : Part). slice_get (part_ops c.args.letters.now c.args.others.now p) c.args.offset) (sym c.in-Deleted.is)

pub returns-in-Other : goal.returns-in-Other
returns-in-Other c =
    let s : IsSoundPart (length c.args.letters.now) (length c.args.others.now) (Other c.in-Other.place) =
    subst (IsSoundPart (length c.args.letters.now) (length c.args.others.now)) c.in-Other.is c.requires.sound in
    let o : c.args.offset < part_len (Other c.in-Other.place) = subst (λ (p : Part). c.args.offset < part_len p) c.in-Other.is c.requires.inside in
    other_at c.args.others.now c.in-Other.place c.args.offset c.index-others-place.result s.1 o c.index-others-place.is
    ∙ ap (λ (p : Part). slice_get (part_ops c.args.letters.now c.args.others.now p) c.args.offset) (sym c.in-Other.is)
