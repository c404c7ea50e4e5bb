-- Counts of faults on docks and wires that are specified: they rise only where the dock or the wire is blamed.
use Rattle.std.proofs.Common.{List, false, inl, inr, refl, subst, sym, true, ℕ, ◌∙◌, ◌≡◌}
use Rattle.std.specs.Prelude.{Err, IsErr, IsSome, Ok, Result}
use Rattle.std.proofs.lemmas.Bool.{cases_eq, false≢true}
use Rattle.fugue_ids.proofs.JoinLemmas.{text_tells}
use Rattle.outer_ports.proofs.SharedLemmas.{wire_write_tells}
use Rattle.outer_ports.specs.dock.Docks.{DockIsSpecified, DockView, out_to}
use Rattle.outer_ports.specs.wire.Wires.{WireView, WireWrites}
use Rattle.relay_sync.specs.Replies.{WireRisesFor}
use Rattle.relay_sync.specs.Sending.{DockRisesFor, SendsText}
use Rattle.outer_ports.proofs.TellLemmas.{same_tells}

-- nothing was called
pub dock_still : (P : Type 0) (u : DockView) → DockRisesFor P u u
dock_still P u = record { tells = λ t. t; specified_no_fault = λ t none. refl }

-- calls that did not fail, and others after them
pub dock_then : (P Q : Type 0) (u v w : DockView) → (P → ⊥) → DockRisesFor P u v → DockRisesFor Q v w → DockRisesFor Q u w
dock_then P Q u v w none s t =
    record {
      tells = λ reported. t.tells (s.tells reported);
      specified_no_fault = λ reported other. t.specified_no_fault (s.tells reported) other
          ∙ s.specified_no_fault reported none;
    }

-- the same blame in other words
pub dock_so : (P Q : Type 0) (u v : DockView) → (P → Q) → DockRisesFor P u v → DockRisesFor Q u v
dock_so P Q u v so s = record { tells = s.tells; specified_no_fault = λ reported none. s.specified_no_fault reported (λ p. none (so p)) }

-- after calls that did not fail
pub dock_on : (Q : Type 0) (u v w : DockView) → DockRisesFor ⊥ u v → DockRisesFor Q v w → DockRisesFor Q u w
dock_on Q u v w s t = dock_then ⊥ Q u v w (λ e. e) s t

pub dock_no_fault : (Q : Type 0) (u v : DockView) → DockRisesFor ⊥ u v → DockRisesFor Q u v
dock_no_fault Q u v s = dock_so ⊥ Q u v (λ e. absurd e) s

sends_tell : {E T : Type 0} (result : Result T E) (u v : DockView) (session : ℕ) (text : List ℕ) → SendsText {E = E} {T = T} u v result session text → DockIsSpecified u
    → DockIsSpecified v
sends_tell result u v session text s tells = record {
  listens = same_tells s.listens tells.listens;
  taken = same_tells s.nothing_taken.taken tells.taken;
  coming = same_tells s.nothing_taken.coming tells.coming;
  sent = λ other. elim (cases_eq other session) [
    | inl it ↦ subst (λ k. IsSome (v.sent k)) (sym it) (text_tells result (out_to session u) (out_to session v) text s.writes (tells.sent session))
    | inr differs ↦ same_tells (s.others other differs).0 (tells.sent other)
  ];
  ended = same_tells s.ended tells.ended;
  ended_at = same_tells s.ended_at tells.ended_at;
}

-- the same of wires
pub wire_still : (P : Type 0) (u : WireView) → WireRisesFor P u u
wire_still P u = record { tells = λ t. t; specified_no_fault = λ t none. refl }

pub wire_then : (P Q : Type 0) (u v w : WireView) → (P → ⊥) → WireRisesFor P u v → WireRisesFor Q v w → WireRisesFor Q u w
wire_then P Q u v w none s t =
    record {
      tells = λ reported. t.tells (s.tells reported);
      specified_no_fault = λ reported other. t.specified_no_fault (s.tells reported) other
          ∙ s.specified_no_fault reported none;
    }

pub wire_so : (P Q : Type 0) (u v : WireView) → (P → Q) → WireRisesFor P u v → WireRisesFor Q u v
wire_so P Q u v so s = record { tells = s.tells; specified_no_fault = λ reported none. s.specified_no_fault reported (λ p. none (so p)) }

-- after calls that did not fail
pub wire_on : (Q : Type 0) (u v w : WireView) → WireRisesFor ⊥ u v → WireRisesFor Q v w → WireRisesFor Q u w
wire_on Q u v w s t = wire_then ⊥ Q u v w (λ e. e) s t

pub wire_went : (u v : WireView) → WireRisesFor (false ≡ true) u v → WireRisesFor ⊥ u v
wire_went u v s = wire_so (false ≡ true) ⊥ u v (λ e. false≢true e) s

pub write_rises : {E : Type 0} (result : Result ℕ E) (u v : WireView) (piece : List ℕ) → WireWrites {E = E} u v result piece → WireRisesFor (IsErr result) u v
write_rises (Ok n) u v piece r = record { tells = wire_write_tells (Ok n) u v piece r; specified_no_fault = λ tells none. r.writes.specified_no_fault tells.2 }
write_rises (Err e) u v piece r = record { tells = wire_write_tells (Err e) u v piece r; specified_no_fault = λ tells none. absurd (none refl) }
