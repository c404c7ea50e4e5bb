-- A text that goes out on a wire, piece by piece, after the dialling.
use Rattle.std.proofs.Common.{[], List, arith, drop, length, take, ℕ, ◌+◌, ◌-◌, ◌∙◌, ◌≡◌}
use Rattle.std.specs.Prelude.{Err, IfSome, None, Ok, OnOk, Option, Result, Some}
use Rattle.fugue_ids.specs.Outs.{IsSure, WritesBytes}
use Rattle.fugue_ids.proofs.JoinLemmas.{call_grows, took_none}
use Rattle.outer_ports.specs.wire.Wires.{Dials, DialsOnce, WireView, WireWrites, out_of}
use Rattle.relay_sync.specs.Saying.{SaysText}

-- one call more
pub says_grow : {E T : Type 0} (x : T) (u v w : WireView) (piece : List ℕ) (at n : ℕ) → SaysText {E = E} {T = T} u v (Ok x) (take at piece)
    → WireWrites {E = E} v w (Ok n) (take (length piece - at) (drop at piece)) → SaysText {E = E} {T = T} u w (Ok x) (take (at + n) piece)
says_grow {E} {T} x u v w piece at n s t =
    record { writes = call_grows {E = E} {T = T} x (out_of u) (out_of v) (out_of w) piece at n s.writes t.writes; dials = t.dials ∙ s.dials; left = t.left ∙ s.left }

-- dialling says nothing
sure_dialled : (E T : Type 0) (x : T) (room : Option ℕ) (before now : ℕ) → IfSome room (λ r. now ≡ before) → IfSome room (λ r. IsSure {E = E} {T = T} r 0 before now (Ok x))
sure_dialled E T x None before now counts_no_fault = tt
sure_dialled E T x (Some r) before now counts_no_fault = record { fits = λ fit. tt; within = omega arith; counts_no_fault = counts_no_fault }

sure_refused : (E T : Type 0) (e : E) (room : Option ℕ) (n before now : ℕ) → IfSome room (λ r. ⊥) → IfSome room (λ r. IsSure {E = E} {T = T} r n before now (Err e))
sure_refused E T e None n before now succeeds = tt
sure_refused E T e (Some r) n before now succeeds = absurd succeeds

dialled_none : {E T : Type 0} (x : T) (u v : WireView) (port : ℕ) → Dials {E = E} {T = T} u v (Ok x) port → WritesBytes {E = E} {T = T} (out_of u) (out_of v) (Ok x) []
dialled_none {E} {T} x u v port d = record {
  ok = took_none (out_of u) (out_of v) d.said d.room;
  err = tt;
  cause = record { later = d.count.cause.later; failed = tt };
  sure = sure_dialled E T x u.room u.faults v.faults d.count.counts_no_fault;
  specified_no_fault = d.specified_no_fault;
}

dialled_stays : {E T : Type 0} (result : Result T E) (u v w : WireView) (port : ℕ) → DialsOnce u v port → w.dials ≡ v.dials
    → OnOk result (DialsOnce u w port)
dialled_stays (Ok x) u v w port d s = s ∙ d
dialled_stays (Err e) u v w port d s = tt
