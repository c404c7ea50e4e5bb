-- The front of some bytes, and what a call does that gives it.
use Rattle.std.proofs.Common.{◌≡◌, ℕ, ◌+◌, ◌-◌, ◌<◌, ◌≤◌, List, ◌++◌, length, take, drop, Some, Ok, true, refl, ap, sym, ◌∙◌, arith, length-append, length-drop, length-take-le}
use Rattle.std.proofs.Common.{drop-drop}
use Rattle.std.proofs.lemmas.Bool.{false≢true}
use Rattle.std.proofs.Math.Seq.{take-append_seam}
use Rattle.std.proofs.lemmas.List.{take-append-drop, drop_all, drop-take}
use Rattle.outer_ports.specs.Sources.{ReadsSome}

-- a window without its first bytes
pub skipped : (s e n : ℕ) (b : List ℕ) → s + n ≤ e → take (e - (s + n)) (drop (s + n) b) ≡ drop n (take (e - s) (drop s b))
skipped s e n b le =
    let is : e - s ≡ n + (e - (s + n)) = omega (arith, le) in
    sym (ap (λ (k : ℕ). drop n (take k (drop s b))) is ∙ drop-take n (e - (s + n)) (drop s b) ∙ ap (take (e - (s + n))) (drop-drop n s b ∙ ap (λ (k : ℕ). drop k b) (omega arith)))

-- a buffer whose front holds the next n bytes has been read into, where n is 0 only at the end
pub reads_front : {E : Type 0} (bytes left front buf : List ℕ) (at n faults : ℕ)
    → drop at bytes ≡ left → front ≡ take n left → at + n ≤ length bytes → n ≤ length buf → (n ≡ 0 → 0 < length buf → length bytes ≤ at)
    → ReadsSome {E = E} (record { left = Some left; faults = faults; sure = true })
    (record { left = Some (drop (at + n) bytes); faults = faults; sure = true }) (Ok n) (front ++ drop n buf)
reads_front bytes left front buf at n faults is copied inside within stops =
    let size : length left ≡ length bytes - at = sym (ap length is) ∙ length-drop at bytes in
    let long : length front ≡ n = ap length copied ∙ length-take-le n left (omega arith) in
    let whole : length (front ++ drop n buf) ≡ length buf = omega (arith, length-append front (drop n buf), length-drop n buf) in
    let given : take n (front ++ drop n buf) ≡ take n left
    = ap (λ k. take k (front ++ drop n buf)) (sym long) ∙ take-append_seam front (drop n buf) ∙ copied in
    let rest : drop (at + n) bytes ≡ drop n left = sym (drop-drop n at bytes) ∙ ap (drop n) is in
    record {
      bound = omega arith;
      gave = rw (given, rest) (ap Some (sym (take-append-drop n left)));
      ends = λ none room. sym is ∙ drop_all at bytes (stops none (omega arith));
      kept = tt;
      count = record {
        later = omega arith;
        faulted = λ failed. absurd (false≢true failed);
        sure = refl;
        succeeds = λ _ failed. false≢true failed;
        counts_no_fault = λ _. refl;
        tells = λ _. refl;
        specified_no_fault = λ _ _. refl;
      };
    }
