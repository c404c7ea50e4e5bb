-- The slots of a file one after another, and what loading comes to at each end of the walk.
use Rattle.std.proofs.Common.{◌≡◌, ◌≢◌, ℕ, ◌+◌, ◌<◌, List, [], ◌∷◌, ◌++◌, length, drop, refl, ap, sym, subst, ◌∙◌, arith, append_assoc, length-append, drop-cons, add-one}
use Rattle.std.specs.Prelude.{Bool, true, false, Some, slice_get}
use Rattle.std.proofs.lemmas.Grind.{flat_map-append}
use Rattle.std.proofs.lemmas.List.{append-nil}
use Rattle.std.proofs.lemmas.List.Elements.{All-append, All-cons, All-nil}
use Rattle.std.proofs.lemmas.Option.{get_or_from_slice_get, slice_get_within}
use Rattle.fugue_ids.specs.declared.op.Op.{Op}
use Rattle.origin_model.specs.files.Image.{Batch, IsBatch, IsNoBatch, OpenSlots, batch_ops, content_of, has_header, header_of, last_slot, length_at, number_at, open_slot}
use Rattle.origin_model.specs.files.Image.{open_slots, slots_of}
use Rattle.origin_model.specs.taking.Taking.{Answer, Held, TooMany as AnswersTooMany, answer, held, is_kept, nothing_held}
use Rattle.fugue_ids.specs.declared.limits.TheConstants.{MOST_OPERATIONS}
use Rattle.origin_model.specs.edits.State.{State}
use Rattle.replica_file.specs.declared.load_file.End.{End}
use Rattle.replica_file.specs.declared.gate.Gate.{Gate}
use Rattle.replica_file.specs.Load.{AreTooMany, FindPlace, FindsBadBatch, FindsTooMany, LacksMemory, Loads, hold_of}
use Rattle.replica_file.specs.Loading.{AreIn, Fed, IsSameButHeld}
use Rattle.replica_file.specs.Slots.{IsGate, LacksInSlot, TakesSlot, Walked, WalksOut}
use Rattle.replica_file.specs.Wanting.{BeginsPiece, ForContent, ForOperation, ForPiece, IsWanting, file_part}

-- a gate, and what stands after it
pub gate_after : (bytes : List ℕ) (at byte : ℕ) → slice_get bytes at ≡ Some byte → drop at bytes ≡ byte ∷ drop (at + 1) bytes
gate_after bytes at byte is =
    drop-cons bytes at 0 (slice_get_within bytes at byte is) ∙ (λ i. get_or_from_slice_get bytes at byte 0 is i ∷ drop (sym (add-one at) i) bytes)

not_none : (bytes : List ℕ) (at byte : ℕ) → slice_get bytes at ≡ Some byte → drop at bytes ≢ []
not_none bytes at byte is none = let some = sym none ∙ gate_after bytes at byte is in cc some

module _ (bytes : List ℕ) (slots : ℕ) (gate : Gate) (r : State) (w : Walked bytes slots gate r) where
  module _ (open_now : gate.open ≡ true) where
    -- the bytes from an open gate on
    open_gate : drop gate.at bytes ≡ 1 ∷ drop (gate.at + 1) bytes
    open_gate = gate_after bytes gate.at w.is_gate.byte w.is_gate.is ∙ ap (λ (n : ℕ). n ∷ drop (gate.at + 1) bytes) (w.is_gate.opens open_now)

    -- an open slot without a batch
    pub walk_bad : (most : ℕ) → r.most ≡ most → IsNoBatch slots (drop (gate.at + 1) bytes) → FindsBadBatch most bytes slots
    walk_bad most limit bad = record {
      header = w.header;
      ends = record {
        batches = w.batches;
        rest = drop (gate.at + 1) bytes;
        found = subst (OpenSlots (slots_of bytes) w.batches) open_gate w.found;
        number = w.number;
        bad = bad;
      };
      place = subst (λ (h : ℕ). FindPlace h most (batch_ops w.batches)) w.hold_is (subst (λ (m : ℕ). FindPlace r.hold m (batch_ops w.batches)) limit w.fed.place);
    }

    -- memory ran out in an open slot
    module _ (most : ℕ) (limit : r.most ≡ most) (was : Bool) (was_so : was ≡ true) (few : slots < last_slot) (slot : LacksInSlot bytes gate.at was r) where
      abbrev reached : List Op
      reached = batch_ops w.batches ++ slot.lacks.ops

      fed_so_far : Fed slot.lacks.now slot.lacks.new reached
      fed_so_far = slot.lacks.feeds.behind (batch_ops w.batches) (subst (λ (b : Bool). Fed b r (batch_ops w.batches)) (sym was_so) w.fed)

      -- what is said of the replica's hold and limit is said of the file's hold and of the limit
      by_limits : (P : (hold most : ℕ) → Type 0) → P slot.lacks.new.hold slot.lacks.new.most → P (hold_of bytes) most
      by_limits P is =
          let same = slot.lacks.same in
          subst (P (hold_of bytes)) (ap (λ (t : State). t.most) same ∙ limit) (subst (λ (h : ℕ). P h slot.lacks.new.most) (ap (λ (t : State). t.hold) same ∙ w.hold_is) is)

      abbrev begins : List ℕ → Type 0
      begins = BeginsPiece slot.grammar bytes (gate.at + 5) (length_at (gate.at + 1) bytes)

      abbrev part : List ℕ
      part = file_part bytes (gate.at + 5) (length_at (gate.at + 1) bytes)

      by_wants : IsWanting slot.grammar begins part slot.lacks.ops slot.lacks.new.hold slot.lacks.new.most slot.lacks.new.held (slot.lacks.now ≡ true)
          → IsWanting slot.grammar begins part slot.lacks.ops (hold_of bytes) most (held (hold_of bytes) most reached) (FindPlace (hold_of bytes) most reached)
      by_wants (ForPiece rest starts begin) = ForPiece rest starts begin
      by_wants (ForContent rest starts first) = ForContent rest starts first
      by_wants (ForOperation op later behind starts found kept) =
          let are : AreIn slot.lacks.new reached = subst (λ (b : Bool). Fed b slot.lacks.new reached) found fed_so_far in
          ForOperation op later behind starts (by_limits (λ h m. FindPlace h m reached) are.place)
          (by_limits (λ h m. is_kept (answer h m (held h m reached) op) ≡ true)
          (subst (λ (s : Held). is_kept (answer slot.lacks.new.hold slot.lacks.new.most s op) ≡ true) are.held_is kept))

      pub walk_lacks : LacksMemory most bytes
      walk_lacks = record {
        header = w.header;
        earlier = w.batches;
        at = gate.at;
        at_is = w.at;
        found = subst (OpenSlots (slots_of bytes) w.batches) open_gate w.found;
        few = omega (arith, few, w.number);
        place = subst (λ (h : ℕ). FindPlace h most (batch_ops w.batches)) w.hold_is (subst (λ (m : ℕ). FindPlace r.hold m (batch_ops w.batches)) limit w.fed.place);
        grammar = slot.grammar;
        tagged = slot.tagged;
        short = slot.short;
        ops = slot.lacks.ops;
        wants = by_wants slot.lacks.wants;
      }

    module _ (next : Gate) (was now : Bool) (s : State) (was_so : was ≡ true) (few : slots < last_slot) (same : IsSameButHeld r s)
        (took : TakesSlot bytes gate.at next was r now s) where
      abbrev all : List Batch
      all = w.batches ++ took.batch ∷ []

      all_found : OpenSlots (slots_of bytes) all (drop next.at bytes)
      all_found = record {
        batches_are = All-append IsBatch w.batches (took.batch ∷ []) w.found.batches_are (All-cons IsBatch took.batch [] took.is_batch (All-nil IsBatch));
        few = omega (arith, length-append w.batches (took.batch ∷ []), w.number, few);
        split = w.found.split ∙ ap (λ (l : List ℕ). open_slots w.batches ++ l) (open_gate ∙ ap (λ (l : List ℕ). 1 ∷ l) took.split)
            ∙ sym (append_assoc (open_slots w.batches) (open_slot took.batch) (drop next.at bytes))
            ∙ ap (λ (l : List ℕ). l ++ drop next.at bytes)
            (sym (flat_map-append open_slot w.batches (took.batch ∷ []) ∙ ap (λ (l : List ℕ). open_slots w.batches ++ l) (append-nil (open_slot took.batch))));
        gate = not_none bytes next.at took.gate.byte took.gate.is;
      }

      all_ops : batch_ops w.batches ++ took.batch.ops ≡ batch_ops all
      all_ops = sym (flat_map-append (λ (batch : Batch). batch.ops) w.batches (took.batch ∷ []) ∙ ap (λ (l : List Op). batch_ops w.batches ++ l) (append-nil took.batch.ops))

      fed_all : Fed now s (batch_ops all)
      fed_all = subst (Fed now s) all_ops (took.feeds.behind (batch_ops w.batches) (subst (λ (b : Bool). Fed b r (batch_ops w.batches)) (sym was_so) w.fed))

      pub walk_on : now ≡ true → Walked bytes (slots + 1) next s
      walk_on found = record {
        header = w.header;
        batches = all;
        found = all_found;
        number = omega (arith, length-append w.batches (took.batch ∷ []), w.number);
        at = omega (
          arith,
          took.next_at,
          w.at,
          ap length (flat_map-append open_slot w.batches (took.batch ∷ []) ∙ ap (λ (l : List ℕ). open_slots w.batches ++ l) (append-nil (open_slot took.batch))),
          length-append (open_slots w.batches) (open_slot took.batch),
          length-append took.batch.word took.batch.bytes,
          took.is_batch.four_bytes,
        );
        is_gate = took.gate;
        fed = subst (λ (b : Bool). Fed b s (batch_ops all)) found fed_all;
        replica_is = ap (λ (t : State). t.number) same ∙ w.replica_is;
        hold_is = ap (λ (t : State). t.hold) same ∙ w.hold_is;
      }

      pub walk_on_adds : (found : now ≡ true) → (walk_on found).batches ≡ all
      unfolding walk_on
      walk_on_adds found = refl

      -- an operation of the slot is one too many
      pub walk_many : (most : ℕ) → r.most ≡ most → now ≡ false → FindsTooMany most bytes
      walk_many most limit many = record {
        header = w.header;
        earlier = w.batches;
        batch = took.batch;
        rest = drop next.at bytes;
        found = all_found;
        place = subst (λ (h : ℕ). FindPlace h most (batch_ops w.batches)) w.hold_is (subst (λ (m : ℕ). FindPlace r.hold m (batch_ops w.batches)) limit w.fed.place);
        refused = subst (λ (h : ℕ). AreTooMany h most (batch_ops all)) (ap (λ (t : State). t.hold) same ∙ w.hold_is)
            (subst (λ (m : ℕ). AreTooMany s.hold m (batch_ops all)) (ap (λ (t : State). t.most) same ∙ limit) (subst (λ (b : Bool). Fed b s (batch_ops all)) many fed_all));
      }

-- the end of the walk
pub walk_out : (bytes : List ℕ) (most : ℕ) (end : End) (r : State) → r.most ≡ most → WalksOut bytes end r → Loads most bytes r end
walk_out bytes most end r limit out =
    let w = out.walked in
    record {
      content = content_of (header_of bytes) w.batches;
      holds = (
        w.header,
        record {
          batches = w.batches;
          gate = w.is_gate.byte;
          rest = drop (out.gate.at + 1) bytes;
          found = subst (OpenSlots (slots_of bytes) w.batches) (gate_after bytes out.gate.at w.is_gate.byte w.is_gate.is) w.found;
          closed = w.is_gate.shuts out.shut;
          content_is = refl;
        },
      );
      place = subst (λ (h : ℕ). FindPlace h most (batch_ops w.batches)) w.hold_is (subst (λ (m : ℕ). FindPlace r.hold m (batch_ops w.batches)) limit w.fed.place);
      replica_is = λ i. record {
        number = w.replica_is i;
        hold = w.hold_is i;
        most = limit i;
        held = (w.fed.same ∙ ap (λ (h : ℕ). held h MOST_OPERATIONS (batch_ops w.batches)) w.hold_is) i;
      };
      end_is = λ i. record { at = (out.at ∙ w.at) i; slots = w.number i };
    }

-- the walk begins with no slot
pub walk_begin : (bytes : List ℕ) (first : Gate) (r : State) → has_header bytes ≡ true → first.at ≡ 13 → IsGate bytes first → r.number ≡ number_at 5 (header_of bytes)
    → r.hold ≡ number_at 9 (header_of bytes)
    → r.held ≡ nothing_held → Walked bytes 0 first r
walk_begin bytes first r header at gate number hold none = record {
  header = header;
  batches = [];
  found = record {
    batches_are = All-nil IsBatch;
    few = omega arith;
    split = ap (λ (n : ℕ). drop n bytes) (sym at);
    gate = not_none bytes first.at gate.byte gate.is;
  };
  number = refl;
  at = at;
  is_gate = gate;
  fed = record { place = All-nil (λ (a : Answer). a ≢ AnswersTooMany); held_is = none; same = none };
  replica_is = number;
  hold_is = hold;
}
