use Rattle.std.proofs.Common.{arith, subst, ◌≤◌}
use Rattle.op_frame.specs.NextRuns.{bytes_left}
use Rattle.op_frame.specs.Readers.{FrameReading}
use Rattle.op_frame.proofs.GatherLemmas.{had_within}
use Rattle.op_frame.proofs.reader.FrameReader.fits.Goals as goal

pub returns : goal.returns
returns c =
    let r = c.self.inside in
    subst (λ (v : FrameReading). bytes_left v ≤ 4096) c.self.view_is (omega (arith, had_within r.held r.unread.bytes c.self.invariant.2, c.fit.ensures))
