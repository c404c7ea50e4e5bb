use Rattle.std.proofs.Common.{[], refl}
use Rattle.std.proofs.lemmas.Str.{chars-nil}
use Rattle.std.specs.Str.{chars}
use Rattle.origin_model.specs.edits.Edits.{Cut}
use Rattle.edit_script.proofs.MakingLemmas.{cut_is, cut_refusal, made_in, unmade_in}
use Rattle.edit_script.proofs.SectionLemmas.{cut_kept}
use Rattle.edit_script.proofs.making.cut.Goals as goal

pub put_back-requires : goal.put_back-requires
put_back-requires c = c.in_ok-found.ensures.found.fits

pub returns-clause-made : goal.returns-clause-made
returns-clause-made c =
    let spans = c.in_ok-found.ensures.found.spans in
    made_in _ _ (Cut c.args.section c.args.at c.args.n) _ _ c.cut-made.result refl (cut_is _ _ _ _ _ spans)
    (cut_refusal _ _ _ _ _ spans) c.cut-made.ensures.refused c.cut-made.ensures.made

pub returns-clause-unmade : goal.returns-clause-unmade
returns-clause-unmade c =
    let spans = c.in_ok-found.ensures.found.spans in
    unmade_in _ _ (Cut c.args.section c.args.at c.args.n) _ _ c.cut-made.result refl (cut_is _ _ _ _ _ spans)
    (cut_refusal _ _ _ _ _ spans) c.cut-made.ensures.refused c.cut-made.ensures.unmade

pub returns-clause-sections : goal.returns-clause-sections
returns-clause-sections c =
    cut_kept _ _ _ _ _ _ _ _ _ _ c.in_ok-found.ensures.found c.in_ok-found.ensures.taken c.in_ok-found.ensures.others (chars []) c.cut-made.result chars-nil c.cut-made.ensures.made
    (c.put_back.ensures c.cut-made.new.self)
