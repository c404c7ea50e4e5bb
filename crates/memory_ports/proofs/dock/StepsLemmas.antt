-- Steps that are taken in parts.
use Rattle.std.proofs.Common.{◌≡◌, ℕ, ◌+◌, ◌-◌, ◌<◌, ◌≤◌, true, false, List, [], ◌∷◌, ◌++◌, length, drop, get_or, add-one, refl, ap, sym, subst, ◌∙◌, arith, length-drop}
use Rattle.std.proofs.Math.Seq.{drop-cons}
use Rattle.std.proofs.Math.ListN.{get_or-eq_default}
use Rattle.std.proofs.lemmas.List.{drop-drop, map-append, get_or_default}
use Rattle.std.proofs.lemmas.List.Sums.{sum_by-cons}
use Rattle.std.proofs.lemmas.Bool.{lt-ltb, le-ltb, cases_lt}
use Rattle.std.specs.Prelude.{All, nat_lt}
use Rattle.std.proofs.Common.{inl, inr}
use Rattle.outer_ports.specs.dock.Steps.{BringsSome, Gives, calls_for, calls_for_all, given_part, rest_after}
use Rattle.memory_ports.specs.dock.Arrivals.{from, from_first, step_at, coming_of, taken_of}
use Rattle.memory_ports.specs.declared.dock.arrivals.Part.{Part}
use Rattle.outer_ports.specs.declared.dock.MemStep.{MemStep}
use Rattle.outer_ports.specs.declared.dock.MemStep.TheVariants.{Opened, Bytes, Gone}

pub from_none : (steps : List MemStep) → from_first 0 steps ≡ steps
from_none [] = refl
from_none (Opened session ∷ steps) = refl
from_none (Bytes session bytes ∷ steps) = refl
from_none (Gone session ∷ steps) = refl

from_first_long : (offset : ℕ) (steps : List MemStep) → length (from_first offset steps) ≡ length steps
from_first_long offset [] = refl
from_first_long offset (step ∷ steps) = refl

pub coming_long : (steps : List MemStep) (at offset : ℕ) → length (coming_of steps at offset) ≡ length steps - at
coming_long steps at offset = from_first_long offset (drop at steps) ∙ length-drop at steps

pub has_bytes_at : (steps : List MemStep) (number : ℕ) → All BringsSome steps → 0 < calls_for (step_at steps number)
has_bytes_at steps number all = elim (cases_lt number (length steps)) [
  | inl below ↦ all number (Gone 0) below
  | inr past ↦ subst BringsSome (sym (get_or-eq_default steps (Gone 0) past)) (omega arith)
]

pub step_is : (steps : List MemStep) (number : ℕ) (step : MemStep) → number < length steps → step ≡ get_or steps number step → step_at steps number ≡ step
step_is steps number step below is = get_or_default steps number (Gone 0) step below ∙ sym is

coming_first : (steps : List MemStep) (at offset : ℕ) → at < length steps → coming_of steps at offset ≡ from offset (step_at steps at) ∷ drop (at + 1) steps
coming_first steps at offset below = rw (add-one) (ap (from_first offset) (drop-cons steps at (Gone 0) below))

rest_partly : (step : MemStep) (offset most : ℕ) → 0 < most → most < calls_for step - offset → from (offset + most) step ∷ [] ≡ rest_after most (from offset step)
rest_partly (Opened session) offset most some left = absurd (omega (arith, some, left))
rest_partly (Bytes session bytes) offset most some left =
    let test : nat_lt most (length (drop offset bytes)) ≡ true = lt-ltb most (length (drop offset bytes)) (omega (arith, left, length-drop offset bytes)) in
    rw (test, drop-drop most offset bytes) refl
rest_partly (Gone session) offset most some left = absurd (omega (arith, some, left))

rest_whole : (step : MemStep) (offset most : ℕ) → calls_for step - offset ≤ most → rest_after most (from offset step) ≡ []
rest_whole (Opened session) offset most all = refl
rest_whole (Bytes session bytes) offset most all =
    let test : nat_lt most (length (drop offset bytes)) ≡ false = le-ltb most (length (drop offset bytes)) (omega (arith, all, length-drop offset bytes)) in
    rw test refl
rest_whole (Gone session) offset most all = refl

module _ (steps : List MemStep) (at offset most : ℕ) (step : MemStep) (below : at < length steps) (given : step ≡ given_part most (from offset (step_at steps at))) where
  -- so many bytes of the next step are given, and more are left
  pub gives_partly : 0 < most → most < calls_for (step_at steps at) - offset → Gives most (coming_of steps at offset) (coming_of steps at (offset + most)) step
  gives_partly some left = record {
    first = from offset (step_at steps at);
    others = drop (at + 1) steps;
    came = coming_first steps at offset below;
    given = given;
    left = coming_first steps at (offset + most) below ∙ ap (λ (l : List MemStep). l ++ drop (at + 1) steps) (rest_partly (step_at steps at) offset most some left);
  }

  -- what was left of the next step is given
  pub gives_whole : calls_for (step_at steps at) - offset ≤ most → Gives most (coming_of steps at offset) (coming_of steps (at + 1) 0) step
  gives_whole all = record {
    first = from offset (step_at steps at);
    others = drop (at + 1) steps;
    came = coming_first steps at offset below;
    given = given;
    left = from_none (drop (at + 1) steps) ∙ ap (λ (l : List MemStep). l ++ drop (at + 1) steps) (sym (rest_whole (step_at steps at) offset most all));
  }

  -- what is given, where the steps to come begin then at another number and offset
  pub gives_next : (number start : ℕ) → 0 < most
      → (most < calls_for (step_at steps at) - offset → (number ≡ at) × (start ≡ offset + most))
      → (calls_for (step_at steps at) - offset ≤ most → (number ≡ at + 1) × (start ≡ 0))
      → Gives most (coming_of steps at offset) (coming_of steps number start) step
  gives_next number start some partly whole = elim (cases_lt most (calls_for (step_at steps at) - offset)) [
    | inl left ↦ rw ((partly left).0, (partly left).1) (gives_partly some left)
    | inr all ↦ rw ((whole all).0, (whole all).1) (gives_whole all)
  ]

-- the first of some steps, and the others
all_split : (step : MemStep) (steps : List MemStep) → calls_for_all (step ∷ steps) ≡ calls_for step + calls_for_all steps
all_split step steps = sum_by-cons calls_for step steps

calls_from : (step : MemStep) (offset : ℕ) → calls_for step - offset ≤ calls_for (from offset step)
calls_from (Opened session) offset = omega arith
calls_from (Bytes session bytes) offset = omega (arith, length-drop offset bytes)
calls_from (Gone session) offset = omega arith

calls_from_more : (step : MemStep) (offset most : ℕ) → 0 < most → most < calls_for step - offset → calls_for (from (offset + most) step) + 1 ≤ calls_for (from offset step)
calls_from_more (Opened session) offset most some left = absurd (omega (arith, some, left))
calls_from_more (Bytes session bytes) offset most some left = omega (arith, some, left, length-drop offset bytes, length-drop (offset + most) bytes)
calls_from_more (Gone session) offset most some left = absurd (omega (arith, some, left))

module _ (steps : List MemStep) (at offset : ℕ) (below : at < length steps) (within : offset < calls_for (step_at steps at)) where
  calls_split : calls_for_all (coming_of steps at offset) ≡ calls_for (from offset (step_at steps at)) + calls_for_all (drop (at + 1) steps)
  calls_split = ap calls_for_all (coming_first steps at offset below) ∙ all_split (from offset (step_at steps at)) (drop (at + 1) steps)

  -- steps to come serve a call
  pub some_calls : 0 < calls_for_all (coming_of steps at offset)
  some_calls = omega (arith, calls_split, within, calls_from (step_at steps at) offset)

  -- and fewer than before, once one was given
  pub fewer_calls : (most number start : ℕ) → 0 < most
      → (most < calls_for (step_at steps at) - offset → (number ≡ at) × (start ≡ offset + most))
      → (calls_for (step_at steps at) - offset ≤ most → (number ≡ at + 1) × (start ≡ 0))
      → calls_for_all (coming_of steps number start) + 1 ≤ calls_for_all (coming_of steps at offset)
  fewer_calls most number start some partly whole = elim (cases_lt most (calls_for (step_at steps at) - offset)) [
    | inl left ↦
        let more : calls_for_all (coming_of steps at (offset + most)) ≡ calls_for (from (offset + most) (step_at steps at)) + calls_for_all (drop (at + 1) steps)
        = ap calls_for_all (coming_first steps at (offset + most) below) ∙ all_split (from (offset + most) (step_at steps at)) (drop (at + 1) steps) in
        rw ((partly left).0, (partly left).1) (omega (arith, calls_split, more, calls_from_more (step_at steps at) offset most some left))
    | inr all ↦
        let none : calls_for_all (coming_of steps (at + 1) 0) ≡ calls_for_all (drop (at + 1) steps) = ap calls_for_all (from_none (drop (at + 1) steps)) in
        rw ((whole all).0, (whole all).1) (omega (arith, calls_split, none, within, calls_from (step_at steps at) offset))
  ]

pub taken_more : (steps : List MemStep) (parts : List Part) (part : Part) (step : MemStep) → step ≡ given_part part.most (from part.offset (step_at steps part.step))
    → taken_of steps (parts ++ part ∷ []) ≡ taken_of steps parts ++ step ∷ []
taken_more steps parts part step is =
    map-append (λ (p : Part). given_part p.most (from p.offset (step_at steps p.step))) parts (part ∷ []) ∙ ap (λ (s : MemStep). taken_of steps parts ++ s ∷ []) (sym is)
