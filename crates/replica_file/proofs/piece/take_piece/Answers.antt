use Rattle.std.proofs.Common.{◌++◌, refl, ◌∙◌}
use Rattle.std.specs.Prelude.{Err, Some, true}
use Rattle.replica_file.proofs.LoadingLemmas.{feeds_then, same_then}
use Rattle.replica_file.proofs.PieceLemmas.{lacks_none, steps_bad, steps_by, steps_lacks, takes_piece}
use Rattle.replica_file.proofs.piece.take_piece.Goals as goal

pub frames-preserved : goal.frames-preserved
frames-preserved c =
    let kept = c.frames.invariant in
    let step = rw c.in-Ok-None.field-0-is at (c.in-Ok-None.ensures.steps c.args.bytes.items kept.ops kept.reading kept.len) in
    record {
      ops = kept.ops ++ step.0;
      reading = step.1;
      feeds = feeds_then _ _ _ _ _ _ kept.ops step.0 kept.feeds step.2;
      ready = c.in-Ok-None.ensures.ready;
      same = same_then c.args.loading.now.replica c.frames.loading.replica c.take_next.new.loading.replica kept.same c.in-Ok-None.ensures.same;
      room = c.in-Ok-None.ensures.room;
      by_grammar = c.in-Ok-None.ensures.grammar ∙ kept.by_grammar;
      len = c.in-Ok-None.ensures.len ∙ kept.len;
    }

pub returns-in-Ok-Some-clause-took : goal.returns-in-Ok-Some-clause-took
returns-in-Ok-Some-clause-took c =
    let kept = c.frames.invariant in
    takes_piece c.args.grammar c.args.bytes.items kept.ops _ _ _ _ _ _ c.in-Ok-Some.len kept.feeds
    (rw (c.in-Ok-Some.field-0-is, kept.by_grammar) at (c.in-Ok-Some.ensures.steps c.args.bytes.items kept.ops kept.reading kept.len))

pub returns-in-Err-clause-bad : goal.returns-in-Err-clause-bad
returns-in-Err-clause-bad c is =
    let kept = c.frames.invariant in
    steps_bad c.args.grammar c.args.bytes.items kept.ops c.frames.loading.finds_place c.take_next.new.loading.finds_place c.frames.loading.replica c.take_next.new.loading.replica
    c.take_next.new.self.reader (record { left = Some c.take_next.new.self.source.left; faults = 0; sure = true }) c.in-Err.stop
    (steps_by c.args.grammar c.args.bytes.items kept.ops c.frames.loading.finds_place c.take_next.new.loading.finds_place c.frames.loading.replica c.take_next.new.loading.replica
    c.take_next.new.self.reader (record { left = Some c.take_next.new.self.source.left; faults = 0; sure = true }) c.frames.piece.reader.grammar (Err c.in-Err.stop) kept.by_grammar
    (c.in-Err.ensures.steps c.args.bytes.items kept.ops kept.reading kept.len)) (cc is)

pub returns-in_err-piece-clause-memory : goal.returns-in_err-piece-clause-memory
returns-in_err-piece-clause-memory c is = lacks_none c.args.grammar _ _ c.args.loading.now.finds_place c.args.loading.now.replica refl

pub returns-in-Err-clause-memory : goal.returns-in-Err-clause-memory
returns-in-Err-clause-memory c is =
    let kept = c.frames.invariant in
    steps_lacks c.args.grammar c.args.bytes.items kept.ops c.frames.loading.finds_place c.take_next.new.loading.finds_place c.frames.loading.replica c.take_next.new.loading.replica
    c.take_next.new.self.reader (record { left = Some c.take_next.new.self.source.left; faults = 0; sure = true }) _ _ c.in-Err.stop kept.feeds kept.same
    (steps_by c.args.grammar c.args.bytes.items kept.ops c.frames.loading.finds_place c.take_next.new.loading.finds_place c.frames.loading.replica c.take_next.new.loading.replica
    c.take_next.new.self.reader (record { left = Some c.take_next.new.self.source.left; faults = 0; sure = true }) c.frames.piece.reader.grammar (Err c.in-Err.stop) kept.by_grammar
    (c.in-Err.ensures.steps c.args.bytes.items kept.ops kept.reading kept.len)) (cc is)
