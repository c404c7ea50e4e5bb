use Rattle.op_frame.proofs.GatherLemmas.{one_delete_more}
use Rattle.op_frame.proofs.reader.FrameReader.gather_deletes.Goals as goal

pub deletes-preserved : goal.deletes-preserved
deletes-preserved c = one_delete_more c.args.first c.deletes.count c.args.self.now c.deletes.self c.gather_delete.new.self c.deletes-test.true c.deletes.invariant
    c.if-gather_delete.ensures
