-- Lines that are written to the notes, and sure objects with room for them.
use Rattle.std.proofs.Common.{◌≡◌, inl, inr, refl, ℕ, ◌≤◌, List, length, take, sym, subst, arith}
use Rattle.std.specs.Prelude.{Result, Err, IfSome}
use Rattle.std.proofs.lemmas.List.{take_all}
use Rattle.fugue_ids.proofs.JoinLemmas.{took_joins}
use Rattle.fugue_ids.specs.Outs.{OutView, IsSure, Took, TookFront, WritesBytes}
use Rattle.fugue_ids.specs.declared.out.Failed.{Failed}
use Rattle.command_kinds.specs.Printing.{NoteMeets, NotesBlameless}
use Rattle.command_kinds.specs.Refusal.{Reported, TookFronts, refusal_line, status_of}
use Rattle.command_kinds.specs.Changes.{Change, HasRoom, notes_room}
use Rattle.command_kinds.specs.declared.refusal.Refusal.{Refusal}
use Rattle.command_kinds.specs.declared.refusal.Refusal.TheVariants as refusal
use Rattle.command_kinds.specs.declared.status.Status.{Status}

-- a text for which there is room goes out, and no fault is counted
pub sure_of : (result : Result (Unit {0}) Failed) (old new : OutView) (text : List ℕ) → WritesBytes old new result text → (has : HasRoom (length text) old)
    → IsSure has.room (length text) old.faults new.faults result
sure_of result old new text wrote has = subst (λ o. IfSome o (λ room. IsSure room (length text) old.faults new.faults result)) has.is wrote.sure

pub less_room : (fewer bytes : ℕ) (out : OutView) → fewer ≤ bytes → HasRoom bytes out → HasRoom fewer out
less_room fewer bytes out le has = record { room = has.room; is = has.is; fits = omega (arith, le, has.fits) }

pub text_has_no_room : (e : Failed) (old new : OutView) (text : List ℕ) (bytes : ℕ) → WritesBytes {E = Failed} {T = Unit {0}} old new (Err e) text → length text ≤ bytes
    → HasRoom bytes old → ⊥
text_has_no_room e old new text bytes wrote short has =
    let fits = less_room (length text) bytes old short has in (sure_of (Err e) old new text wrote fits).fits fits.fits

pub whole_front : (old new : OutView) (text : List ℕ) → Took old new text → TookFront old new text
whole_front old new text took = record { count = length text; within = omega arith; took = subst (Took old new) (sym (take_all (length text) text (omega arith))) took }

-- the notes' count rose only where the refusal's line was not written
pub reported_blameless : (why : Refusal) (notes : Change OutView) → Reported notes.old notes.new (refusal_line why) → NotesBlameless notes (status_of why)
reported_blameless why notes reported tells not =
    elim (reported.exact tells) [ inl same ↦ inl same | inr faulted ↦ inr (record { why = why; end_is = refl; front = reported.front; faulted = faulted }) ]

-- a line did not go out whole, and after it another did or did not
pub fronts_joined : (old mid new : OutView) (first second : List ℕ) → TookFront old mid first → TookFront mid new second → TookFronts old new first second
fronts_joined old mid new first second a b = record {
  count = a.count;
  within = a.within;
  more = b.count;
  more_within = b.within;
  took = took_joins old mid new (take a.count first) (take b.count second) a.took b.took;
}

-- a line of notes did not go out whole, and the fault was reported
pub not_noted : (e : Failed) (old mid new : OutView) (line : List ℕ) (status end : Status) → WritesBytes {E = Failed} {T = Unit {0}} old mid (Err e) line → length line ≤ notes_room
    → Reported mid new (refusal_line refusal.Outside) → end ≡ status_of refusal.Outside → NoteMeets line status old new end
not_noted e old mid new line status end wrote short reported is = inr (
  record {
    took = fronts_joined old mid new line (refusal_line refusal.Outside) wrote.err reported.front;
    faulted = omega (arith, wrote.cause.failed, reported.later);
    no_room = text_has_no_room e old mid line notes_room wrote short;
  },
  is,
)
