use Rattle.std.proofs.Common.{List, drop, refl, subst, sym, take, ℕ}
use Rattle.std.proofs.lemmas.List.{take-append-drop}
use Rattle.origin_model.specs.frames.Frames.{Single}
use Rattle.op_frame.specs.Decoded.{IsDecoded}
use Rattle.op_frame.specs.FrameFronts.{AsksMemory}
use Rattle.op_frame.specs.Headers.{IsHeld}
use Rattle.op_frame.specs.declared.frame_ops.Decoded.{Decoded}
use Rattle.op_frame.proofs.HeaderLemmas.{takes_run, text_there}
use Rattle.op_frame.proofs.StepLemmas.{asks_too}
use Rattle.op_frame.proofs.step.take_frame.Goals as goal

pub overflow_sub-len : goal.overflow_sub-len
overflow_sub-len c =
    let d = subst (λ (l : List ℕ). IsDecoded c.in-Ok-Run.field-0 (take c.args.len l)) c.as_slice.ensures c.in-Ok-Run.ensures.ok in
    (text_there c.in-Ok-Run.header c.args.unread.now.bytes c.args.len c.requires.within
    (subst (λ (d : Decoded). IsDecoded d (take c.args.len c.args.unread.now.bytes)) c.in-Ok-Run.field-0-is d)).within

pub take_held-op-requires : goal.take_held-op-requires
take_held-op-requires c =
    let d = subst (λ (l : List ℕ). IsDecoded c.in-Ok-Run.field-0 (take c.args.len l)) c.as_slice.ensures c.in-Ok-Run.ensures.ok in
    subst (λ (l : List ℕ). IsHeld l c.in-Ok-Run.header) (sym c.skip-in-Ok-Run.ensures)
    (text_there c.in-Ok-Run.header c.args.unread.now.bytes c.args.len c.requires.within
    (subst (λ (d : Decoded). IsDecoded d (take c.args.len c.args.unread.now.bytes)) c.in-Ok-Run.field-0-is d)).held

pub returns-in-Err : goal.returns-in-Err
returns-in-Err c =
    let bytes : List ℕ = c.args.unread.now.bytes in
    let asks : AsksMemory (take c.args.len bytes) = subst (λ (l : List ℕ). AsksMemory (take c.args.len l)) c.as_slice.ensures (c.in-Err.ensures.err refl) in
    (refl, subst AsksMemory (take-append-drop c.args.len bytes) (asks_too (take c.args.len bytes) (drop c.args.len bytes) asks))

pub returns-in-Ok-Single : goal.returns-in-Ok-Single
returns-in-Ok-Single c =
    let d = subst (λ (d : Decoded). IsDecoded d (take c.args.len c.args.unread.now.bytes)) c.in-Ok-Single.field-0-is
    (subst (λ (l : List ℕ). IsDecoded c.in-Ok-Single.field-0 (take c.args.len l)) c.as_slice.ensures c.in-Ok-Single.ensures.ok) in
    record {
      is_frame = record { item = Single c.in-Ok-Single.op; is_item = d.0; bytes_are = d.1; ops_are = refl };
      rest = sym c.skip.ensures;
      held = tt;
      len = refl;
    }

pub returns-in-Ok-Run : goal.returns-in-Ok-Run
returns-in-Ok-Run c =
    let d = subst (λ (l : List ℕ). IsDecoded c.in-Ok-Run.field-0 (take c.args.len l)) c.as_slice.ensures c.in-Ok-Run.ensures.ok in
    takes_run c.in-Ok-Run.header c.take_held-op.result.1 c.take_held-op.result.0 c.args.unread.now.bytes _ _ c.args.len c.requires.within
    (subst (λ (d : Decoded). IsDecoded d (take c.args.len c.args.unread.now.bytes)) c.in-Ok-Run.field-0-is d) c.skip-in-Ok-Run.ensures c.take_held-op.ensures
