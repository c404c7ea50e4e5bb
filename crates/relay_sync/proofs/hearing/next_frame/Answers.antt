use Rattle.relay_sync.proofs.CountLemmas.{wire_on, wire_still}
use Rattle.std.proofs.Common.{[], List, ap, arith, length, length-append, refl, subst, sym, ℕ, ◌+◌, ◌++◌, ◌∙◌, ◌∷◌, ◌≡◌}
use Rattle.std.proofs.lemmas.Result.{err_from_is_err_and}
use Rattle.origin_model.specs.declared.grammar.Grammar.TheVariants.{Version2}
use Rattle.op_frame.specs.FrameFronts.{FrontBytes, IsFrameOf}
use Rattle.op_frame.specs.declared.grown.Grown.TheVariants.{Bad, Frame, Front}
use Rattle.relay_sync.specs.Replies.{IsMessageFront}
use Rattle.relay_sync.proofs.HearingLemmas.{broken_frame, frame_front, grown_in, hears-append, hears_none, no_bytes, stops_behind}
use Rattle.relay_sync.proofs.hearing.next_frame.Goals as goal

pub bytes-init : goal.bytes-init
bytes-init g c =
    let none : c.clear.new.self.bytes ≡ [] = ap (λ (f : FrontBytes). f.bytes) c.clear.ensures in
    record {
      bytes = [];
      grammar = ap (λ (f : FrontBytes). f.grammar) c.clear.ensures ∙ c.requires.grammar;
      are = ap (λ (b : List ℕ). b ++ c.args.first ∷ []) none;
      hears = hears_none _;
      partial = subst IsMessageFront (sym none) no_bytes;
      count = omega (arith, c.requires.count);
      within = c.requires.within;
      reported = wire_still ⊥ _;
    }

pub returns-in-Frame-clause-ok : goal.returns-in-Frame-clause-ok
returns-in-Frame-clause-ok g c =
    let kept = c.bytes.invariant in
    let all = c.in-Frame.ensures.bytes ∙ kept.are in
    record {
      is_frame = subst (IsFrameOf Version2) (sym c.in-Frame.ensures.bytes) (grown_in Frame _ _ kept.grammar c.in-Frame.ensures.is);
      bytes = kept.bytes;
      hears = kept.hears;
      split = all;
      count = kept.count ∙ ap (λ (b : List ℕ). c.args.place + length b) (sym all);
      within = kept.within;
    }

pub returns-in-Bad-clause-err : goal.returns-in-Bad-clause-err
returns-in-Bad-clause-err g c =
    let kept = c.bytes.invariant in
    record {
      bytes = kept.bytes;
      hears = kept.hears;
      stops = (
        refl,
        broken_frame c.args.first c.bytes.byte c.bytes.front.bytes kept.bytes c.requires.no_end c.requires.no_refusal kept.are kept.partial
            (grown_in Bad _ _ kept.grammar c.in-Bad.ensures.is),
        omega (arith, kept.count, kept.within),
      );
    }

pub returns-in_err-byte-in-Front-clause-err : goal.returns-in_err-byte-in-Front-clause-err
returns-in_err-byte-in-Front-clause-err g c =
    let p = err_from_is_err_and c.from_residual.result c.from_residual.ensures.1 in
    let kept = c.bytes.invariant in
    let partial = subst IsMessageFront kept.are (frame_front _ (grown_in Front _ _ kept.grammar c.in-Front.ensures.is)) in
    rw (p.1, p.2) (stops_behind _ _ _ _ _ (c.args.first ∷ []) kept.bytes kept.hears
    (c.in_err-byte-in-Front.ensures.err (c.args.first ∷ kept.bytes) partial (omega (arith, kept.count))))

pub bytes-preserved : goal.bytes-preserved
bytes-preserved g c =
    let kept = c.bytes.invariant in
    let next = c.in_ok-byte-in-Front.byte in
    let grown = c.in-Front.ensures.bytes in
    record {
      bytes = kept.bytes ++ next ∷ [];
      grammar = c.in-Front.ensures.grammar ∙ kept.grammar;
      are = ap (λ (b : List ℕ). b ++ next ∷ []) (grown ∙ kept.are);
      hears = hears-append _ _ _ kept.bytes (next ∷ []) kept.hears c.in_ok-byte-in-Front.ensures.ok;
      partial = subst IsMessageFront (sym grown) (frame_front _ (grown_in Front _ _ kept.grammar c.in-Front.ensures.is));
      count = omega (arith, kept.count, c.in_ok-byte-in-Front.ensures.count, length-append kept.bytes (next ∷ []));
      within = c.in_ok-byte-in-Front.ensures.within;
      reported = wire_on ⊥ _ _ _ kept.reported c.in_ok-byte-in-Front.ensures.reported;
    }
