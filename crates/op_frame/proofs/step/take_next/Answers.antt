use Rattle.std.proofs.Common.{Bool, Err, List, Ok, Some, [], false, length, refl, subst, sym, take, ◌-◌, ◌∷◌, ◌≤◌, ℕ}
use Rattle.std.proofs.lemmas.Result.{err_from_is_err_and}
use Rattle.fugue_ids.specs.declared.op.Op.{Op}
use Rattle.origin_model.specs.frames.Frames.{IsBad, IsPartial}
use Rattle.op_frame.specs.FrameFronts.{IsFrameOf}
use Rattle.op_frame.specs.NextRuns.{IsOpFront}
use Rattle.op_frame.specs.Refills.{Refills}
use Rattle.op_frame.proofs.DecodingLemmas.{frame_wider}
use Rattle.op_frame.proofs.LetterLemmas.{letter_whole, letter_within}
use Rattle.op_frame.proofs.StepLemmas.{at_last, front_short, over, refuses, stops, takes_frame}
use Rattle.op_frame.proofs.step.take_next.Goals as goal

pub returns-in-Some : goal.returns-in-Some
returns-in-Some g c =
    let op : Op = c.in-Some.op in
    let bytes : List ℕ = c.reads.unread.bytes in
    let front : IsOpFront op c.in-Some.len bytes = subst (IsOpFront op c.in-Some.len) c.as_slice.ensures c.in-Some.ensures.front in
    takes_frame c.args.grammar _ _ _ _ _ _ c.reads.invariant _ c.in-Some.len (Ok (Some c.take_letter.result)) (letter_within op _ bytes front)
    (op ∷ [], letter_whole op _ bytes front c.args.grammar c.in-Some.ensures.letter) c.take_letter.ensures

pub take_frame-requires-clause-frame : goal.take_frame-requires-clause-frame
take_frame-requires-clause-frame g c =
    frame_wider c.args.grammar _ (subst (λ (l : List ℕ). IsFrameOf c.args.grammar (take c.in-Frame.len l)) c.as_slice-in-reads.ensures c.in-Frame.ensures.1)

pub returns-in-Frame : goal.returns-in-Frame
returns-in-Frame g c =
    takes_frame c.args.grammar _ _ _ _ _ _ c.reads.invariant _ c.in-Frame.len c.take_frame.result
    (subst (λ (l : List ℕ). c.in-Frame.len ≤ length l) c.as_slice-in-reads.ensures c.in-Frame.ensures.0)
    (subst (λ (l : List ℕ). IsFrameOf c.args.grammar (take c.in-Frame.len l)) c.as_slice-in-reads.ensures c.in-Frame.ensures.1) c.take_frame.ensures

pub returns-in-Bad : goal.returns-in-Bad
returns-in-Bad g c = refuses c.args.grammar _ _ _ _ _ _ c.reads.invariant (subst (IsBad c.args.grammar) c.as_slice-in-reads.ensures c.in-Bad.ensures)

pub refill-requires : goal.refill-requires
refill-requires g c = front_short c.args.grammar _ (subst (IsPartial c.args.grammar) c.as_slice-in-reads.ensures c.in-Prefix.ensures)

pub returns-in_err-refill : goal.returns-in_err-refill
returns-in_err-refill g c =
    let p = err_from_is_err_and c.from_residual.result c.from_residual.ensures.1 in
    let front : IsPartial c.args.grammar c.reads.unread.bytes = subst (IsPartial c.args.grammar) c.as_slice-in-reads.ensures c.in-Prefix.ensures in
    rw (p.1, p.2) (stops c.args.grammar _ _ _ _ _ _ c.reads.invariant _ _ c.in_err-refill.field-0.0 front
    (subst (λ (n : ℕ). Refills c.reads.unread.bytes c.refill.new.unread.bytes (g.S.Source.seen c.reads.source) (g.S.Source.seen c.refill.new.source) (c.args.room - n)
    (Err c.in_err-refill.field-0.0))
    c.len.ensures c.in_err-refill.ensures))

pub returns-then-not-branch : goal.returns-then-not-branch
returns-then-not-branch g c =
    let front : IsPartial c.args.grammar c.reads.unread.bytes = subst (IsPartial c.args.grammar) c.as_slice-in-reads.ensures c.in-Prefix.ensures in
    let refilled : Refills c.reads.unread.bytes c.refill.new.unread.bytes (g.S.Source.seen c.reads.source) (g.S.Source.seen c.refill.new.source) (c.args.room - c.len.result)
    (Ok false)
    = subst (λ (b : Bool). Refills c.reads.unread.bytes c.refill.new.unread.bytes (g.S.Source.seen c.reads.source) (g.S.Source.seen c.refill.new.source)
    (c.args.room - c.len.result) (Ok b))
    c.if-not-branch.true c.in_ok-refill.ensures in
    over c.args.grammar _ _ _ _ _ _ (at_last c.args.grammar _ _ _ _ c.args.offset _ c.reads.invariant _ _ _ refilled) c.at_end.result
    (subst (IsPartial c.args.grammar) (sym refilled.grew) front) (refilled.ends refl).1 c.at_end.ensures.none c.at_end.ensures.cut
