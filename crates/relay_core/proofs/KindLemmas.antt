-- Bytes are of exactly one kind, and so events have exactly one outcome.
use Rattle.std.proofs.Common.{[], List, ap, arith, inl, inr, length, sym, ℕ, ◌∙◌, ◌∷◌, ◌≡◌}
use Rattle.std.proofs.lemmas.List.{append-nil}
use Rattle.fugue_ids.specs.declared.op.Op.{Op}
use Rattle.origin_model.specs.declared.grammar.Grammar.TheVariants.{Version2}
use Rattle.origin_model.specs.frames.Frames.{Framed, Begins, IsFrame, IsPartial}
use Rattle.origin_model.specs.relay.Session.{Closing, Frame, Front, IsKind, Kind, Neither, closing}
use Rattle.origin_model.proofs.SharedLemmas.{SomeKind, run_once, run_some, step_once, step_some}
use Rattle.op_frame.proofs.FrontLemmas.{Front as Found, bad_there, front_of, frame_there, front_there}
use Rattle.op_frame.proofs.ReadingLemmas.{begins_not_partial, frames_once}
use Rattle.relay_core.specs.Laws.{EventsComeOnce}
use Rattle.fugue_ids.proofs.DecideLemmas.{Decided, equal_decided}

-- the bytes are the closing byte or not
closing_decided : (bytes : List ℕ) → Decided (bytes ≡ closing)
closing_decided [] = inr (λ e. cc e)
closing_decided (x ∷ []) = elim (equal_decided x 0x44) [
  | inl same ↦ inl (ap (λ y. y ∷ []) same)
  | inr other ↦ inr (λ e. other (cc e))
]
closing_decided (x ∷ y ∷ more) = inr (λ e. cc e)

-- bytes that are neither a frame nor a front of one
none_of : (bytes : List ℕ) → ((ops : List Op) → IsFrame Version2 (record { bytes = bytes; ops = ops }) → ⊥) → (IsPartial Version2 bytes → ⊥) → (kind : Kind) × IsKind kind bytes
none_of bytes none apart = elim (closing_decided bytes) [
  | inl same ↦ (Closing, same)
  | inr other ↦ (Neither, (none, apart, other))
]

-- bytes are of some kind
pub some_kind : SomeKind
some_kind bytes = by (front_of Version2 bytes)
  where
    begins : (framed : Framed) (rest : List ℕ) → Begins Version2 bytes framed rest → (kind : Kind) × IsKind kind bytes
    begins framed [] b = (
      Frame framed.ops,
      record { item = b.is_frame.item; is_item = b.is_frame.is_item; bytes_are = b.split ∙ append-nil framed.bytes ∙ b.is_frame.bytes_are; ops_are = b.is_frame.ops_are },
    )
    begins framed (z ∷ zs) b =
        none_of bytes
        (λ ops f. omega (arith, ap length (frames_once framed (record { bytes = bytes; ops = ops }) (z ∷ zs) [] b.is_frame f (sym b.split ∙ sym (append-nil bytes))).1))
        (λ p. begins_not_partial Version2 bytes framed (z ∷ zs) b p)

    by : Found Version2 bytes → (kind : Kind) × IsKind kind bytes
    by (frame_there framed rest b) = begins framed rest b
    by (front_there partial) = (Front, partial)
    by (bad_there bad) =
        none_of bytes (λ ops f. bad.no_frame (record { bytes = bytes; ops = ops }) [] (record { is_frame = f; split = sym (append-nil bytes) })) bad.no_front

-- events have exactly one outcome
pub events_come_once : EventsComeOnce
events_come_once = record {
  one = λ relay event new other reply answer h i. step_once frames_once relay event new other reply answer h i;
  some = λ relay event. step_some some_kind relay event;
  one_run = λ relay events new other replies answers h i. run_once frames_once events relay new other replies answers h i;
  some_run = λ relay events. run_some some_kind events relay;
}
