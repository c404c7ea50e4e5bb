use Rattle.std.proofs.Common.{◌+◌, ◌-◌, ◌≤◌}
use Rattle.std.specs.Prelude.{IfSome}
use Rattle.replica_file.specs.Loading.{CanTake, IsSameButHeld}
use Rattle.replica_file.specs.Looks.{LooksOnly, ReadsNoFurther}
use Rattle.replica_file.specs.Slots.{TakesInFrames}
use Rattle.replica_file.proofs.PartLemmas.{Pieces}
use Rattle.replica_file.proofs.frames.take_frames.Given as goal

abbrev pub invariant-pieces : goal.invariant-pieces
invariant-pieces g l = record {
  within : l.taken ≤ l.word.len;
  took : IfSome (g.H.Disk.seen l.fn.disk).past
      (λ h. TakesInFrames l.word.grammar h.last.seen l.at l.word.len l.taken l.fn.loading.finds_place l.fn.loading.replica l.loading.finds_place l.loading.replica);
  pieces : IfSome (g.H.Disk.seen l.fn.disk).past (λ h. Pieces l.word.grammar h.last.seen l.at l.word.len l.taken);
  ready : CanTake l.loading.replica;
  same : IsSameButHeld l.fn.loading.replica l.loading.replica;
  looks : LooksOnly (g.H.Disk.seen l.fn.disk) (g.H.Disk.seen l.disk) ⊥;
  reach : ReadsNoFurther (l.fn.at + l.word.len) (g.H.Disk.seen l.fn.disk) (g.H.Disk.seen l.disk);
}

abbrev pub decreases-pieces : goal.decreases-pieces
decreases-pieces g l = l.word.len - l.taken
