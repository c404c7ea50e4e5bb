-- One step more of a file in memory.
use Rattle.std.proofs.Common.{◌≡◌, ℕ, ◌+◌, ◌<◌, ◌≤◌, max, Bool, true, false, List, [], ◌∷◌, ◌++◌, length, take, drop, refl, ap, ◌∙◌, arith, length-drop}
use Rattle.std.proofs.lemmas.List.{take-append-le, drop-append-le, take_all}
use Rattle.std.specs.Prelude.{if◌then◌else◌}
use Rattle.outer_ports.specs.disk.States.{at_rest, overwritten, wrote, tried_state, durable}
use Rattle.outer_ports.specs.disk.Moments.{History, history_after_step}
use Rattle.memory_ports.specs.disk.Kept.{written_by, written_by_all, step_of, replayed_history, past_after_steps}
use Rattle.memory_ports.specs.declared.disk.kept.Step.{Step}

pub written_more : (steps : List Step) (step : Step) → written_by_all (steps ++ step ∷ []) ≡ written_by_all steps + written_by step
written_more [] step = omega arith
written_more (first ∷ steps) step = omega (arith, written_more steps step)

pub replayed_more : (steps : List Step) (step : Step) (written bytes : List ℕ) (h : History)
    → written_by_all steps ≡ length written → written_by step ≡ length bytes
    → replayed_history (steps ++ step ∷ []) (written ++ bytes) h ≡ history_after_step (step_of step bytes) (replayed_history steps written h)
replayed_more [] step [] bytes h all one = ap (λ (l : List ℕ). history_after_step (step_of step l) h) (take_all (written_by step) bytes (omega (arith, one)))
replayed_more [] step (x ∷ written) bytes h all one = absurd (omega (arith, all))
replayed_more (first ∷ steps) step written bytes h all one =
    let fits : written_by first ≤ length written = omega (arith, all) in
    let front : take (written_by first) (written ++ bytes) ≡ take (written_by first) written = take-append-le (written_by first) written bytes fits in
    let rest : drop (written_by first) (written ++ bytes) ≡ drop (written_by first) written ++ bytes = drop-append-le (written_by first) written bytes fits in
    ap (λ (l : List ℕ). replayed_history (steps ++ step ∷ []) (drop (written_by first) (written ++ bytes)) (history_after_step (step_of first l) h)) front
    ∙ ap (λ (l : List ℕ). replayed_history (steps ++ step ∷ []) l (history_after_step (step_of first (take (written_by first) written)) h)) rest
    ∙ replayed_more steps step (drop (written_by first) written) bytes (history_after_step (step_of first (take (written_by first) written)) h)
    (omega (arith, all, length-drop (written_by first) written)) one

-- what has room for a step was prepared
not_fresh : (fresh : Bool) (calls : ℕ) → (fresh ≡ true → calls ≡ 0) → 0 < calls → fresh ≡ false
not_fresh true calls none some = absurd (omega (arith, none refl, some))
not_fresh false calls none some = refl

module _ (fresh : Bool) (calls : ℕ) (none : fresh ≡ true → calls ≡ 0) (some : 0 < calls) where
  pub next_past : (old new first written new_written bytes : List ℕ) (steps new_steps : List Step) (step : Step)
      → new_steps ≡ steps ++ step ∷ [] → new_written ≡ written ++ bytes → written_by_all steps ≡ length written → written_by step ≡ length bytes
      → past_after_steps (if fresh then new else first) new_steps new_written ≡ history_after_step (step_of step bytes)
      (past_after_steps (if fresh then old else first) steps written)
  next_past old new first written new_written bytes steps new_steps step is grew all one =
      let kept : fresh ≡ false = not_fresh fresh calls none some in
      rw (kept, is, grew) (replayed_more steps step written bytes (record { last = at_rest first; before = [] }) all one)

  pub wrote_is : (old new base bytes : List ℕ) (ranges new_ranges : List (ℕ × ℕ)) (longest new_longest at : ℕ)
      → new ≡ overwritten old at bytes → new_ranges ≡ ranges ++ (at, length bytes) ∷ [] → new_longest ≡ max longest (at + length bytes)
      → wrote at bytes (record { seen = old; base = if fresh then old else base; ranges = ranges; longest = longest })
      ≡ record { seen = new; base = if fresh then new else base; ranges = new_ranges; longest = new_longest }
  wrote_is old new base bytes ranges new_ranges longest new_longest at e f g =
      let kept : fresh ≡ false = not_fresh fresh calls none some in
      rw (kept, e, f, g) refl

  pub tried_is : (old base : List ℕ) (ranges new_ranges : List (ℕ × ℕ)) (longest new_longest at n : ℕ)
      → new_ranges ≡ ranges ++ (at, n) ∷ [] → new_longest ≡ max longest (at + n)
      → tried_state at n (record { seen = old; base = if fresh then old else base; ranges = ranges; longest = longest })
      ≡ record { seen = old; base = if fresh then old else base; ranges = new_ranges; longest = new_longest }
  tried_is old base ranges new_ranges longest new_longest at n f g = rw (f, g) refl

  pub settled_is : (old base new_base : List ℕ) (ranges new_ranges : List (ℕ × ℕ)) (longest new_longest : ℕ)
      → new_base ≡ old → new_ranges ≡ [] → new_longest ≡ length old
      → durable (record { seen = old; base = if fresh then old else base; ranges = ranges; longest = longest })
      ≡ record { seen = old; base = if fresh then old else new_base; ranges = new_ranges; longest = new_longest }
  settled_is old base new_base ranges new_ranges longest new_longest e f g =
      let kept : fresh ≡ false = not_fresh fresh calls none some in
      rw (kept, e, f, g) refl
