use Rattle.std.proofs.Common.{arith, ◌+◌, ◌-◌}
use Rattle.std.proofs.lemmas.Result.{err_from_is_err_and}
use Rattle.replica_file.proofs.LoadingLemmas.{same_then}
use Rattle.replica_file.proofs.PartLemmas.{frames_bad, frames_lacks, frames_more, one_piece_more, specified_three, specified_two}
use Rattle.replica_file.proofs.ReachLemmas.{reaches_then}
use Rattle.replica_file.proofs.ReadingLemmas.{looks_then, well}
use Rattle.replica_file.proofs.frames.take_frames.Goals as goal

pub returns-in_err-taken-clause-bad : goal.returns-in_err-taken-clause-bad
returns-in_err-taken-clause-bad g c is =
    let kept = c.pieces.invariant in
    let p = err_from_is_err_and c.from_residual.result c.from_residual.ensures.1 in
    specified_two (g.H.Disk.seen c.args.disk.now).past (g.H.Disk.seen c.pieces.disk).past kept.looks.past
    (λ h one bad. frames_bad c.args.word.grammar h.last.seen c.args.at c.args.word.len c.pieces.taken kept.within _ _ _ _ one bad) kept.took
    (c.in_err-taken.ensures.bad (cc (is, p.1, p.2)))

pub returns-in_err-taken-clause-memory : goal.returns-in_err-taken-clause-memory
returns-in_err-taken-clause-memory g c is =
    let kept = c.pieces.invariant in
    let p = err_from_is_err_and c.from_residual.result c.from_residual.ensures.1 in
    specified_three (g.H.Disk.seen c.args.disk.now).past (g.H.Disk.seen c.pieces.disk).past kept.looks.past
    (λ h one pieces lacks. frames_lacks c.args.word.grammar h.last.seen c.args.at c.args.word.len c.pieces.taken kept.within _ _ _ _ kept.same one pieces lacks)
    kept.took kept.pieces (c.in_err-taken.ensures.memory (cc (is, p.1, p.2)))

pub pieces-preserved : goal.pieces-preserved
pieces-preserved g c =
    let kept = c.pieces.invariant in
    record {
      within = omega (arith, kept.within, c.in_ok-taken.ensures.within);
      took = specified_two (g.H.Disk.seen c.args.disk.now).past (g.H.Disk.seen c.pieces.disk).past kept.looks.past
          (λ h one two. frames_more c.args.word.grammar h.last.seen c.args.at c.args.word.len c.pieces.taken kept.within c.in_ok-taken.field-0 c.args.loading.now.finds_place
          c.pieces.loading.finds_place c.take_some.new.loading.finds_place
          c.args.loading.now.replica c.pieces.loading.replica c.take_some.new.loading.replica one two) kept.took c.in_ok-taken.ensures.took;
      pieces = specified_two (g.H.Disk.seen c.args.disk.now).past (g.H.Disk.seen c.pieces.disk).past kept.looks.past
          (λ h one two. one_piece_more c.args.word.grammar h.last.seen c.args.at c.args.word.len c.pieces.taken c.in_ok-taken.field-0 one two) kept.pieces
          c.in_ok-taken.ensures.whole;
      ready = c.in_ok-taken.ensures.ready;
      same = same_then c.args.loading.now.replica c.pieces.loading.replica c.take_some.new.loading.replica kept.same c.in_ok-taken.ensures.same;
      looks = looks_then ⊥ (g.H.Disk.seen c.args.disk.now) (g.H.Disk.seen c.pieces.disk) (g.H.Disk.seen c.take_some.new.disk) kept.looks
          (well _ (g.H.Disk.seen c.pieces.disk) (g.H.Disk.seen c.take_some.new.disk) (λ e. cc e) c.in_ok-taken.ensures.looks);
      reach = reaches_then (c.args.at + c.args.word.len) (c.args.at + c.pieces.taken + (c.args.word.len - c.pieces.taken)) (c.args.at + c.args.word.len)
          (g.H.Disk.seen c.args.disk.now).reach (g.H.Disk.seen c.pieces.disk).reach (g.H.Disk.seen c.take_some.new.disk).reach
          (omega arith) (omega (arith, kept.within)) kept.reach c.in_ok-taken.ensures.reach;
    }
