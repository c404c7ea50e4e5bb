use Rattle.std.proofs.Common.{refl}
use Rattle.replica_file.proofs.PartLemmas.{specified_one}
use Rattle.replica_file.proofs.slots.take_slots.Goals as goal

pub returns-clause-ends : goal.returns-clause-ends
returns-clause-ends g c =
    specified_one (g.H.Disk.seen c.args.disk.now).past
    (λ h w. record { out = record { gate = c.slots.gate; walked = w.walked; shut = c.slots-test.false; at = refl }; are = w.are }) c.slots.invariant.walked
