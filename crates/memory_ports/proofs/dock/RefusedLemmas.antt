-- What a call on a dock does that fails and changes nothing but the count.
use Rattle.std.proofs.Common.{◌≡◌, ◌≤◌, ℕ, List, refl}
use Rattle.std.specs.Prelude.{None, Result, Ok, Err, IsErr}
use Rattle.outer_ports.specs.Calls.{risen}
use Rattle.outer_ports.specs.dock.Docks.{DockView, out_to, Listens, Takes, Sends, EndsSession}
use Rattle.outer_ports.specs.declared.dock.DockStep.{DockStep}
use Rattle.fugue_ids.proofs.JoinLemmas.{took_none}

module _ {E : Type 0} (dock : DockView) (faults : ℕ) (apart : dock.ends ≡ None) (later : dock.faults ≤ faults) (faulted : risen dock.faults ≤ faults) where
  pub refused_takes : (result : Result DockStep E) (buf : List ℕ) → IsErr result → Takes {E = E} dock (record dock { faults = faults }) result buf
  refused_takes (Ok step) buf is = absurd (cc is)
  refused_takes (Err e) buf is = record {
    fits = tt;
    taken = tt;
    came = tt;
    kept = record { taken = refl; coming = refl };
    nothing_sent = record { sent = λ s. refl; room = λ s. refl };
    listens = refl;
    ended = refl;
    ended_at = refl;
    ends = refl;
    count = record { cause = record { later = later; failed = faulted }; excused = rw apart tt; counts_no_fault = rw apart tt };
    specified_no_fault = λ tells. tt;
  }

  pub refused_ends : {T : Type 0} (result : Result T E) (session : ℕ) → IsErr result → EndsSession {E = E} {T = T} dock (record dock { faults = faults }) result session
  refused_ends (Ok x) session is = absurd (cc is)
  refused_ends (Err e) session is = record {
    ended = tt;
    kept = refl;
    ended_at = tt;
    kept_at = refl;
    ends = tt;
    same_ends = refl;
    nothing_sent = record { sent = λ s. refl; room = λ s. refl };
    nothing_taken = record { taken = refl; coming = refl };
    listens = refl;
    count = record { cause = record { later = later; failed = faulted }; excused = rw apart tt; counts_no_fault = rw apart tt };
    specified_no_fault = λ tells. tt;
    within = rw apart tt;
  }

  pub refused_listens : {T : Type 0} (result : Result T E) (port : ℕ) → IsErr result → Listens {E = E} {T = T} dock (record dock { faults = faults }) result port
  refused_listens (Ok x) port is = absurd (cc is)
  refused_listens (Err e) port is = record {
    listened = tt;
    kept = refl;
    nothing_sent = record { sent = λ s. refl; room = λ s. refl };
    nothing_taken = record { taken = refl; coming = refl };
    ended = refl;
    ended_at = refl;
    ends = refl;
    count = record { cause = record { later = later; failed = faulted }; excused = rw apart tt; counts_no_fault = rw apart tt };
    specified_no_fault = λ tells. tt;
  }

  pub refused_sends : (alone : (session : ℕ) → dock.room session ≡ None) (result : Result ℕ E) (session : ℕ) (piece : List ℕ) → IsErr result
      → Sends {E = E} dock (record dock { faults = faults }) result session piece
  refused_sends alone (Ok n) session piece is = absurd (cc is)
  refused_sends alone (Err e) session piece is = record {
    writes = record {
      bound = tt;
      some = tt;
      took = tt;
      none = took_none (out_to session dock) (out_to session (record dock { faults = faults })) refl refl;
      cause = record { later = later; failed = faulted };
      full = rw (alone session) tt;
      within = rw (alone session) tt;
      counts_no_fault = rw (alone session) tt;
      specified_no_fault = λ tells. tt;
    };
    others = λ other differs. (refl, refl);
    nothing_taken = record { taken = refl; coming = refl };
    listens = refl;
    ended = refl;
    ended_at = refl;
    ends = refl;
  }
