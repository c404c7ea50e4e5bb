use Rattle.std.proofs.Common.{subst}
use Rattle.std.specs.Prelude.{All}
use Rattle.std.proofs.lemmas.List.{take_all}
use Rattle.std.proofs.lemmas.List.Elements.{All-more}
use Rattle.origin_model.specs.frames.Frames.{AreNames, IsIdentifier}
use Rattle.op_frame.proofs.framed.identifiers.Goals as goal

pub loop-id-preserved : goal.loop-id-preserved
loop-id-preserved c = All-more IsIdentifier c.as_slice-ids.result.now c.loop-id.id-index c.id-item.result c.loop-id-test.true c.loop-id.invariant
    (subst IsIdentifier c.id-item.is c.identifier.ensures)

pub returns : goal.returns
returns c =
    subst AreNames c.as_slice-ids.ensures.ids (record {
      few = c.as_slice-ids.ensures.few;
      identifiers = subst (All IsIdentifier) (take_all c.loop-id.id-index c.as_slice-ids.result.now c.loop-id-test.false) c.loop-id.invariant;
    })
