use Rattle.std.proofs.Common.{refl}
use Rattle.std.specs.Str.{chars}
use Rattle.origin_model.specs.edits.Edits.{Put}
use Rattle.edit_script.proofs.MakingLemmas.{made_in, put_is, put_refusal, unmade_in}
use Rattle.edit_script.proofs.SectionLemmas.{put_kept}
use Rattle.edit_script.proofs.making.put.Goals as goal

pub put_back-requires : goal.put_back-requires
put_back-requires c = c.in_ok-found.ensures.found.fits

pub returns-clause-made : goal.returns-clause-made
returns-clause-made c =
    let spans = c.in_ok-found.ensures.found.spans in
    made_in _ _ (Put c.args.section c.args.at (chars c.args.text.now)) _ _ c.put-made.result refl (put_is _ _ _ _ _ spans)
    (put_refusal _ _ _ _ _ spans) c.put-made.ensures.refused c.put-made.ensures.made

pub returns-clause-unmade : goal.returns-clause-unmade
returns-clause-unmade c =
    let spans = c.in_ok-found.ensures.found.spans in
    unmade_in _ _ (Put c.args.section c.args.at (chars c.args.text.now)) _ _ c.put-made.result refl (put_is _ _ _ _ _ spans)
    (put_refusal _ _ _ _ _ spans) c.put-made.ensures.refused c.put-made.ensures.unmade

pub returns-clause-sections : goal.returns-clause-sections
returns-clause-sections c =
    put_kept _ _ _ _ _ _ _ _ _ _ c.in_ok-found.ensures.found c.in_ok-found.ensures.taken c.in_ok-found.ensures.others
    (chars c.args.text.now) c.put-made.result refl c.put-made.ensures.made
    (c.put_back.ensures c.put-made.new.self)
