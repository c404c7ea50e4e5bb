-- Messages of a reply, as they are heard byte by byte.
use Rattle.std.proofs.Common.{[], List, ap, append_assoc, arith, get_or, length, refl, subst, sym, ℕ, ◌++◌, ◌<◌, ◌≤◌, ◌∙◌, ◌∷◌, ◌≡◌, ◌≢◌}
use Rattle.std.specs.Prelude.{is_some, Err, Option, Result}
use Rattle.std.specs.Int.{from_be_bytes, w32}
use Rattle.std.specs.Io.KnownBytes.{prepend_known}
use Rattle.std.proofs.lemmas.List.{append-nil}
use Rattle.fugue_ids.specs.declared.op.Op.{Op}
use Rattle.fugue_ids.specs.declared.op.Op.TheVariants.{Delete, Note, Section, Text}
use Rattle.origin_model.specs.declared.grammar.Grammar.{Grammar}
use Rattle.origin_model.specs.declared.grammar.Grammar.TheVariants.{Version2}
use Rattle.origin_model.specs.frames.Frames.{IsPartial, Item, Single, Typed, frame, item_bytes}
use Rattle.origin_model.specs.relay.Session.{refusal_message}
use Rattle.op_frame.specs.FrameFronts.{IsFrameStage}
use Rattle.op_frame.specs.declared.grown.Grown.{Grown}
use Rattle.op_frame.specs.declared.grown.Grown.TheVariants.{Bad}
use Rattle.op_frame.proofs.SpecifiedLemmas.{prepend_none}
use Rattle.outer_ports.specs.wire.Wires.{WireReads, WireView}
use Rattle.relay_sync.specs.Replies.{End, HeardBytes, IsBroken, IsCode, IsMessage, IsMessageFront, Message, Operations, Refusal, StopsHearing, StopsIn, ending}
use Rattle.relay_sync.specs.declared.syncing.SyncFault.{SyncFault}
use Rattle.relay_sync.specs.declared.syncing.SyncFault.TheVariants.{BadReply, CutShort, NoMemory, RelayRefused, TooLong, TooMany, WireFault}
use Rattle.fugue_ids.proofs.JoinLemmas.{prepend_twice}

-- bytes after bytes
pub hears-append : (u v w : WireView) (a b : List ℕ) → HeardBytes u v a → HeardBytes v w b → HeardBytes u w (a ++ b)
hears-append u v w a b s t = record {
  heard = s.heard ∙ ap (prepend_known a) t.heard ∙ prepend_twice a b w.left;
  said = t.said ∙ s.said;
  dials = t.dials ∙ s.dials;
  room = t.room ∙ s.room;
  later = omega (arith, s.later, t.later);
  counts_no_fault = λ sure. t.counts_no_fault (ap (λ (r : Option ℕ). is_some r) s.room ∙ sure) ∙ s.counts_no_fault sure;
}

-- a fault after bytes that were heard
pub stops_in : (fault : SyncFault) (u v w : WireView) (place : ℕ) (bytes : List ℕ) → u.faults ≤ v.faults → v.room ≡ u.room → StopsIn fault v w place bytes
    → StopsIn fault u w place bytes
stops_in WireFault u v w place bytes le room s = (s.0, omega (arith, le, s.1), λ sure. s.2 (ap (λ (r : Option ℕ). is_some r) room ∙ sure))
stops_in (BadReply at) u v w place bytes le room s = s
stops_in (CutShort at) u v w place bytes le room s = s
stops_in TooLong u v w place bytes le room s = s
stops_in NoMemory u v w place bytes le room s = absurd s
stops_in (RelayRefused code) u v w place bytes le room s = s
stops_in (TooMany most) u v w place bytes le room s = s

pub stops_behind : (fault : SyncFault) (u v w : WireView) (place : ℕ) (before bytes : List ℕ) → HeardBytes u v bytes → StopsHearing fault v w place (before ++ bytes)
    → StopsHearing fault u w place before
stops_behind fault u v w place before bytes s t = record {
  bytes = bytes ++ t.bytes;
  hears = hears-append u v w bytes t.bytes s t.hears;
  stops = subst (StopsIn fault u w place) (append_assoc before bytes t.bytes) (stops_in fault u v w place ((before ++ bytes) ++ t.bytes) s.later s.room t.stops);
}

-- nothing is a front of the message that ends a reply
pub number_front : (front more : List ℕ) → 0 < length more → length (front ++ more) ≡ 4 → IsMessageFront (ending ∷ front)
number_front front more lacks long =
    record {
      message = End (from_be_bytes w32 (front ++ more));
      whole = ending ∷ (front ++ more);
      is_message = (front ++ more, long, refl, refl);
      more = more;
      lacks = lacks;
      front = refl;
    }

pub no_bytes : IsMessageFront []
no_bytes = record {
  message = End (from_be_bytes w32 (0 ∷ 0 ∷ 0 ∷ 0 ∷ []));
  whole = ending ∷ 0 ∷ 0 ∷ 0 ∷ 0 ∷ [];
  is_message = (0 ∷ 0 ∷ 0 ∷ 0 ∷ [], refl, refl, refl);
  more = ending ∷ 0 ∷ 0 ∷ 0 ∷ 0 ∷ [];
  lacks = omega arith;
  front = refl;
}

pub refusal_front : IsMessageFront (0x58 ∷ [])
refusal_front = record { message = Refusal 1; whole = refusal_message 1; is_message = ((omega arith, omega arith), refl); more = 1 ∷ []; lacks = omega arith; front = refl }

pub frame_front : (bytes : List ℕ) → IsPartial Version2 bytes → IsMessageFront bytes
frame_front bytes p = record { message = Operations p.framed.ops; whole = p.framed.bytes; is_message = p.is_frame; more = p.more; lacks = p.lacks; front = p.front }

pub hears_none : (wire : WireView) → HeardBytes wire wire []
hears_none wire = record { heard = sym (prepend_none wire.left); said = refl; dials = refl; room = refl; later = omega arith; counts_no_fault = λ sure. refl }

-- with which byte a message begins
abbrev pub IsLead : Message → ℕ → Type 0
IsLead (Operations ops) x = x < 6
IsLead (End count) x = x ≡ 0x55
IsLead (Refusal code) x = x ≡ 0x58

pub leads : (message : Message) (whole behind : List ℕ) → IsMessage message whole → IsLead message (get_or (whole ++ behind) 0 0)
leads (Operations ops) whole behind is = subst (λ (w : List ℕ). get_or (w ++ behind) 0 0 < 6) (sym is.bytes_are) (by_item is.item)
  where
    by_op : (op : Op) → get_or (frame op ++ behind) 0 0 < 6
    by_op (Section id l r t) = omega arith
    by_op (Text id s l r ch) = omega arith
    by_op (Delete id) = omega arith
    by_op (Note id n c b) = omega arith

    by_item : (item : Item) → get_or (item_bytes item ++ behind) 0 0 < 6
    by_item (Single op) = by_op op
    by_item (Typed run) = omega arith
leads (End count) whole behind is = ap (λ (w : List ℕ). get_or (w ++ behind) 0 0) is.3
leads (Refusal code) whole behind is = ap (λ (w : List ℕ). get_or (w ++ behind) 0 0) is.1

-- a message that begins with 58 has a code, and one that begins with neither 55 nor 58 is a frame
pub code_after : (message : Message) (whole behind : List ℕ) (code : ℕ) (more : List ℕ) → IsMessage message whole → 0x58 ∷ code ∷ more ≡ whole ++ behind → IsCode code
code_after message whole behind code more is split = by_kind message is (subst (λ (l : List ℕ). IsLead message (get_or l 0 0)) (sym split) (leads message whole behind is))
  where
    by_kind : (message : Message) → IsMessage message whole → IsLead message 0x58 → IsCode code
    by_kind (Operations ops) is lead = absurd (omega (arith, lead))
    by_kind (End count) is lead = absurd (omega (arith, lead))
    by_kind (Refusal other) is lead = subst IsCode (sym (ap (λ (l : List ℕ). get_or l 1 0) (split ∙ ap (λ (l : List ℕ). l ++ behind) is.1))) is.0

pub other_is_frame : (message : Message) (whole behind : List ℕ) (x : ℕ) (xs : List ℕ) → x ≢ 0x55 → x ≢ 0x58 → IsMessage message whole → x ∷ xs ≡ whole ++ behind
    → (ops : List Op) × IsMessage (Operations ops) whole
other_is_frame message whole behind x xs no_end no_refusal is split =
    by_kind message is (subst (λ (l : List ℕ). IsLead message (get_or l 0 0)) (sym split) (leads message whole behind is))
  where
    by_kind : (message : Message) → IsMessage message whole → IsLead message x → (ops : List Op) × IsMessage (Operations ops) whole
    by_kind (Operations ops) is lead = (ops, is)
    by_kind (End count) is lead = absurd (no_end lead)
    by_kind (Refusal code) is lead = absurd (no_refusal lead)

-- a message that begins with neither is the front of a frame
pub other_is_partial : (x : ℕ) (xs : List ℕ) → x ≢ 0x55 → x ≢ 0x58 → IsMessageFront (x ∷ xs) → IsPartial Version2 (x ∷ xs)
other_is_partial x xs no_end no_refusal p =
    let f = other_is_frame p.message p.whole [] x (xs ++ p.more) no_end no_refusal p.is_message (sym p.front ∙ sym (append-nil p.whole)) in
    record { framed = record { bytes = p.whole; ops = f.0 }; is_frame = f.1; more = p.more; lacks = p.lacks; front = p.front }

-- a code out of range
pub broken_code : (code : ℕ) → (IsCode code → ⊥) → IsBroken (0x58 ∷ code ∷ [])
broken_code code none = record {
  before = 0x58 ∷ [];
  byte = code;
  bytes_are = refl;
  was_front = refusal_front;
  no_message = λ message is. none (code_after message (0x58 ∷ code ∷ []) [] code [] is refl);
  no_front = λ p. none (code_after p.message p.whole [] code p.more p.is_message (sym p.front ∙ sym (append-nil p.whole)));
}

-- what the bytes are by the grammar of replies
pub grown_in : (grown : Grown) (g : Grammar) (bytes : List ℕ) → g ≡ Version2 → IsFrameStage grown g bytes → IsFrameStage grown Version2 bytes
grown_in grown g bytes same is = subst (λ (h : Grammar). IsFrameStage grown h bytes) same is

-- a byte with which no frame begins or goes on
pub broken_frame : (first byte : ℕ) (front bytes : List ℕ) → first ≢ 0x55 → first ≢ 0x58 → front ++ byte ∷ [] ≡ first ∷ bytes → IsMessageFront front
    → IsFrameStage Bad Version2 (front ++ byte ∷ [])
    → IsBroken (first ∷ bytes)
broken_frame first byte front bytes a b are was grown =
    let none : IsFrameStage Bad Version2 (first ∷ bytes) = subst (IsFrameStage Bad Version2) are grown in
    record {
      before = front;
      byte = byte;
      bytes_are = sym are;
      was_front = was;
      no_message = λ message is. none.0 (other_is_frame message (first ∷ bytes) [] first bytes a b is (sym (append-nil (first ∷ bytes))));
      no_front = λ p. none.1 (other_is_partial first bytes a b p);
    }

-- a read that failed
pub read_fails : {E : Type 0} (result : Result ℕ E) (e : E) (u v : WireView) (buf : List ℕ) (place : ℕ) (before : List ℕ) → result ≡ Err e → WireReads {E = E} u v result buf
    → IsMessageFront before → StopsHearing WireFault u v place before
read_fails {E} result e u v buf place before is reads front =
    let r : WireReads {E = E} u v (Err e) buf = subst (λ (x : Result ℕ E). WireReads {E = E} u v x buf) is reads in
    record {
      bytes = [];
      hears = record {
        heard = sym r.reads.kept ∙ sym (prepend_none v.left);
        said = r.said;
        dials = r.dials;
        room = r.room;
        later = r.reads.count.later;
        counts_no_fault = r.reads.count.counts_no_fault;
      };
      stops = (subst IsMessageFront (sym (append-nil before)) front, r.reads.count.faulted refl, λ sure. r.reads.count.succeeds sure refl);
    }
