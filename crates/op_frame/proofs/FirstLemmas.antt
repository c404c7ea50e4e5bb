-- What stands at the front of bytes is one thing.
use Rattle.std.proofs.Common.{◌≡◌, ℕ, ◌≤◌, List, length, take, drop, refl, ap, sym, subst, ◌∙◌}
use Rattle.std.proofs.lemmas.List.{take-append-drop, length-take-le}
use Rattle.std.specs.Prelude.{Vec}
use Rattle.std.specs.declared.alloc.Global.{Global}
use Rattle.fugue_ids.specs.declared.op.Op.{Op}
use Rattle.origin_model.specs.declared.grammar.Grammar.TheVariants.{Version2}
use Rattle.origin_model.specs.frames.Frames.{IsBad, IsFrame, IsPartial}
use Rattle.op_frame.specs.Firsts.{FrameOf, FirstIs}
use Rattle.op_frame.specs.declared.first.First.TheVariants.{Whole, Prefix, Bad}
use Rattle.op_frame.proofs.ReadingLemmas.{begins_not_partial, common_prefix}

-- one frame stands there
same_frame : (ops others : List Op) (n m : ℕ) (bytes : List ℕ) → FrameOf ops n bytes → FrameOf others m bytes → (ops ≡ others) × (n ≡ m)
same_frame ops others n m bytes p q =
    let same = common_prefix Version2 _ _ (drop n bytes) (drop m bytes) p.1.is_frame q.1.is_frame (take-append-drop n bytes ∙ sym (take-append-drop m bytes)) in
    (same.ops, sym (length-take-le n bytes p.0) ∙ ap length same.bytes ∙ length-take-le m bytes q.0)

pub first_whole : (ops : Vec Op Global) (n : ℕ) (bytes : List ℕ) → n ≤ length bytes → IsFrame Version2 (record { bytes = take n bytes; ops = ops.items })
    → FirstIs (Whole ops n) bytes
first_whole ops n bytes within is =
    let found : FrameOf ops.items n bytes = (within, record { is_frame = is; split = sym (take-append-drop n bytes) }) in
    record {
      whole = λ others m. (
        (λ c. subst (λ (k : ℕ). FrameOf others k bytes) c.1 (subst (λ (l : List Op). FrameOf l n bytes) c.0 found)),
        λ q. same_frame ops.items others n m bytes found q,
      );
      partial = ((λ is. absurd (cc is)), λ q. absurd (begins_not_partial Version2 bytes _ (drop n bytes) found.1 q));
      bad = ((λ is. absurd (cc is)), λ q. absurd (q.no_frame _ (drop n bytes) found.1));
    }

pub first_partial : (bytes : List ℕ) → IsPartial Version2 bytes → FirstIs Prefix bytes
first_partial bytes p = record {
  whole = λ ops n. ((λ c. absurd c), λ q. absurd (begins_not_partial Version2 bytes _ (drop n bytes) q.1 p));
  partial = ((λ is. p), λ q. refl);
  bad = ((λ is. absurd (cc is)), λ q. absurd (q.no_front p));
}

pub first_bad : (bytes : List ℕ) → IsBad Version2 bytes → FirstIs Bad bytes
first_bad bytes p = record {
  whole = λ ops n. ((λ c. absurd c), λ q. absurd (p.no_frame _ (drop n bytes) q.1));
  partial = ((λ is. absurd (cc is)), λ q. absurd (p.no_front q));
  bad = ((λ is. p), λ q. refl);
}
