use Rattle.std.proofs.Common.{refl}
use Rattle.std.specs.Prelude.{Some, true}
use Rattle.std.proofs.lemmas.Result.{err_from_is_err_and}
use Rattle.op_frame.proofs.StreamLemmas.{chains}
use Rattle.op_frame.specs.NextRuns.{ops_given}
use Rattle.replica_file.proofs.PieceLemmas.{bad, cut, gave_more, operation, steps_wanting, title}
use Rattle.replica_file.proofs.piece.Piece.take_next.Goals as goal

pub returns-in-Err-CutShort-clause-steps : goal.returns-in-Err-CutShort-clause-steps
returns-in-Err-CutShort-clause-steps c bytes ops reading len = (
  cut bytes ops _ _ _ _ reading c.in-Err-CutShort.offset
      (chains _ _ _ _ _ (rw c.in-Err-CutShort.field-0-is at (c.in-Err-CutShort.ensures.with_room c.requires.no_fault c.requires.room))),
  refl,
  refl,
)

pub returns-in-Err-BadFrame-clause-steps : goal.returns-in-Err-BadFrame-clause-steps
returns-in-Err-BadFrame-clause-steps c bytes ops reading len =
    bad bytes ops _ _ _ _ reading c.in-Err-BadFrame.field-0-0
    (chains _ _ _ _ _ (rw c.in-Err-BadFrame.field-0-is at (c.in-Err-BadFrame.ensures.with_room c.requires.no_fault c.requires.room)))

pub returns-in-Err-NoMemory-clause-steps : goal.returns-in-Err-NoMemory-clause-steps
returns-in-Err-NoMemory-clause-steps c bytes ops reading len =
    title bytes ops _ _ _ _ reading c.args.loading.now.replica c.args.loading.now.finds_place
    (rw c.in-Err-NoMemory.field-0-is at (c.in-Err-NoMemory.ensures.with_room c.requires.no_fault c.requires.room))

pub returns-in_ok-take-in-Ok-Some-clause-steps : goal.returns-in_ok-take-in-Ok-Some-clause-steps
returns-in_ok-take-in-Ok-Some-clause-steps c bytes ops reading len =
    let gives = rw (c.in-Ok-Some.field-0-is, ← c.as_slice.ensures.value) at (c.in-Ok-Some.ensures.gives_many c.requires.no_fault) in (
      ops_given c.in-Ok-Some.next c.as_slice.result.now,
      gave_more bytes ops _ _ _ _ reading (ops_given c.in-Ok-Some.next c.as_slice.result.now) gives refl,
      c.in_ok-take-in-Ok-Some.ensures.feeds,
    )

pub returns-in_err-take-in-Ok-Some-clause-steps : goal.returns-in_err-take-in-Ok-Some-clause-steps
returns-in_err-take-in-Ok-Some-clause-steps c bytes ops reading len =
    let p = err_from_is_err_and c.from_residual.result c.from_residual.ensures.1 in
    let gives = rw (c.in-Ok-Some.field-0-is, ← c.as_slice.ensures.value) at (c.in-Ok-Some.ensures.gives_many c.requires.no_fault) in
    steps_wanting c.args.self.now.reader.grammar bytes ops c.args.loading.now.finds_place c.take.new.self.finds_place c.args.loading.now.replica c.take.new.self.replica
    c.next_run.new.self
    (record { left = Some c.next_run.new.source.left; faults = 0; sure = true }) c.from_residual.result p.0 p.1 p.2
    (operation bytes ops _ _ _ _ reading c.args.loading.now.replica c.args.loading.now.finds_place
    (ops_given c.in-Ok-Some.next c.as_slice.result.now) gives c.in_err-take-in-Ok-Some.ensures.memory)
