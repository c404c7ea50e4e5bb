use Rattle.std.proofs.Common.{ℕ, ◌+◌, arith, refl, subst, inr}
use Rattle.std.proofs.lemmas.Result.{err_from_is_err_and}
use Rattle.replica_file.specs.Wanting.{AreWholeFrames}
use Rattle.replica_file.proofs.PartLemmas.{piece_bad, piece_lacks, piece_none, piece_took, piece_whole, specified_all, specified_one}
use Rattle.replica_file.proofs.PieceLemmas.{lacks_none}
use Rattle.replica_file.proofs.ReachLemmas.{reaches_so}
use Rattle.replica_file.proofs.frames.take_some.Goals as goal

pub returns-in_err-len-clause-bad : goal.returns-in_err-len-clause-bad
returns-in_err-len-clause-bad g c is =
    let p = err_from_is_err_and c.from_residual-in_err-len.result c.from_residual-in_err-len.ensures.1 in
    let bad = c.in_err-len.ensures.bad (cc (is, p.1, p.2)) in
    specified_one (g.H.Disk.seen c.args.disk.now).past
    (λ h specified. inr (piece_bad c.args.left.grammar h.last.seen c.args.at c.args.left.len c.min-size.result c.in_ok-piece.piece.items specified (omega arith) bad))
    c.in_ok-piece.ensures.specified

pub returns-then-len-eq0-clause-bad : goal.returns-then-len-eq0-clause-bad
returns-then-len-eq0-clause-bad g c is =
    let took = c.in_ok-len.ensures.took in
    specified_one (g.H.Disk.seen c.args.disk.now).past
    (λ h specified. inr (piece_none c.args.left.grammar h.last.seen c.args.at c.args.left.len c.min-size.result c.in_ok-piece.piece.items specified (omega arith) took.ops
    (subst (λ (n : ℕ). AreWholeFrames c.args.left.grammar c.in_ok-piece.piece.items n took.ops) c.if-len-eq0.true took.whole) (omega arith) (omega arith) (omega arith)))
    c.in_ok-piece.ensures.specified

pub returns-clause-took : goal.returns-clause-took
returns-clause-took g c =
    specified_one (g.H.Disk.seen c.args.disk.now).past
    (λ h specified. piece_took c.args.left.grammar h.last.seen c.args.at c.args.left.len c.min-size.result c.in_ok-piece.piece.items specified (omega arith) c.in_ok-len.len
    c.args.loading.now.finds_place c.take_piece.new.loading.finds_place c.args.loading.now.replica c.take_piece.new.loading.replica c.in_ok-len.ensures.took)
    c.in_ok-piece.ensures.specified

pub returns-in_err-piece-clause-memory : goal.returns-in_err-piece-clause-memory
returns-in_err-piece-clause-memory g c is =
    specified_all (g.H.Disk.seen c.args.disk.now).past (λ h. lacks_none c.args.left.grammar _ _ c.args.loading.now.finds_place c.args.loading.now.replica refl)

pub returns-in_err-len-clause-memory : goal.returns-in_err-len-clause-memory
returns-in_err-len-clause-memory g c is =
    let p = err_from_is_err_and c.from_residual-in_err-len.result c.from_residual-in_err-len.ensures.1 in
    let lacks = c.in_err-len.ensures.memory (cc (is, p.1, p.2)) in
    specified_one (g.H.Disk.seen c.args.disk.now).past
    (λ h specified. piece_lacks c.args.left.grammar h.last.seen c.args.at c.args.left.len c.min-size.result c.in_ok-piece.piece.items specified (omega arith)
    c.args.loading.now.finds_place c.args.loading.now.replica lacks) c.in_ok-piece.ensures.specified

pub returns-clause-whole : goal.returns-clause-whole
returns-clause-whole g c =
    let took = c.in_ok-len.ensures.took in
    specified_one (g.H.Disk.seen c.args.disk.now).past
    (λ h specified. piece_whole c.args.left.grammar h.last.seen c.args.at c.args.left.len c.min-size.result c.in_ok-piece.piece.items specified
    (omega arith) c.in_ok-len.len took.ops took.whole (omega arith))
    c.in_ok-piece.ensures.specified

pub returns-clause-reach : goal.returns-clause-reach
returns-clause-reach g c =
    reaches_so (c.args.at + c.min-size.result) (c.args.at + c.args.left.len) (g.H.Disk.seen c.args.disk.now).reach (g.H.Disk.seen c.read_piece.new.disk).reach
    (omega arith) c.in_ok-piece.ensures.reach
