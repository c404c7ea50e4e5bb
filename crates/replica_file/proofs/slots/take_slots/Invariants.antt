use Rattle.std.proofs.Common.{◌≡◌, ◌-◌, ◌+◌, ◌≤◌}
use Rattle.std.specs.Prelude.{IfSome, true}
use Rattle.replica_file.specs.Ends.{farthest_gate}
use Rattle.replica_file.specs.Loading.{CanTake, IsSameButHeld}
use Rattle.replica_file.specs.Looks.{LooksOnly, ReadsNoFurther}
use Rattle.replica_file.specs.Moments.{WalkedWith}
use Rattle.replica_file.proofs.slots.take_slots.Given as goal

abbrev pub invariant-slots : goal.invariant-slots
invariant-slots g l = record {
  walked : IfSome (g.H.Disk.seen l.fn.disk).past (λ h. WalkedWith h.last.seen l.slots l.gate l.loading.replica l.moments.items);
  reaches : l.gate.at ≤ farthest_gate l.slots;
  few : l.slots ≤ 4294967295;
  finds_place : l.loading.finds_place ≡ true;
  ready : CanTake l.loading.replica;
  same : IsSameButHeld l.fn.loading.replica l.loading.replica;
  looks : LooksOnly (g.H.Disk.seen l.fn.disk) (g.H.Disk.seen l.disk) ⊥;
  behind : 13 ≤ l.gate.at;
  reach : ReadsNoFurther (l.gate.at + 1) (g.H.Disk.seen l.fn.disk) (g.H.Disk.seen l.disk);
}

abbrev pub decreases-slots : goal.decreases-slots
decreases-slots g l = 4294967295 - l.slots
