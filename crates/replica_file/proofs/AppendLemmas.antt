-- What a file holds while a batch is appended, and then.
use Rattle.std.proofs.Common.{◌≡◌, ◌≢◌, inl, inr, ℕ, ◌+◌, ◌<◌, ◌≤◌, List, [], ◌∷◌, ◌++◌, length, take, drop, get_or, refl, ap, sym, subst, ◌∙◌, arith, append_assoc, length-append}
use Rattle.std.proofs.Common.{length-drop, drop-cons, add-one}
use Rattle.std.proofs.lemmas.List.{length-take, take-append-drop}
use Rattle.std.proofs.lemmas.Bool.{cases_eq}
use Rattle.std.specs.Prelude.{◌↔◌, All, Some, None, Option, IfSome, Ok, Err}
use Rattle.std.proofs.lemmas.Option.{IfSome_then, get_or_from_slice_get}
use Rattle.fugue_ids.specs.Causes.{Faulted}
use Rattle.fugue_ids.specs.declared.op.Op.{Op}
use Rattle.outer_ports.specs.disk.Disks.{DiskIsSpecified, DiskView, RoomView}
use Rattle.outer_ports.specs.disk.States.{DiskState, IsCrashImage, IsHonest}
use Rattle.outer_ports.specs.disk.Moments.{History, LeavesOnly, LeavesOnlyTo}
use Rattle.outer_ports.proofs.SharedLemmas.{image_at_rest, leaves_none}
use Rattle.origin_model.specs.declared.files.TheConstants.{LONGEST_BATCH}
use Rattle.origin_model.specs.files.Image.{Content, HasImage, Holds, last_slot, open_slot, open_slots}
use Rattle.origin_model.specs.frames.Frames.{HasFrame, Whole}
use Rattle.origin_model.specs.frames.Framings.{frames}
use Rattle.origin_model.proofs.SharedLemmas.{batch_appended, batch_of, before_gate, framing_read, from_parts, image_once, is_batch, ReadOnce, same_to_gate, to_parts, with_batch}
use Rattle.origin_model.proofs.SharedLemmas.{written_framing}
use Rattle.op_frame.proofs.ReadingLemmas.{reads_once}
use Rattle.replica_file.specs.declared.appending.AppendFault.{AppendFault}
use Rattle.replica_file.specs.declared.appending.AppendFault.TheVariants.{BatchTooLong, DiskFault, NoMemory}
use Rattle.replica_file.specs.declared.load_file.End.{End}
use Rattle.replica_file.specs.Append.{AppendMeets, HasBatch, HoldsEither, IsTooLong, after_gate, next_end, content_with_ops}
use Rattle.replica_file.specs.Ends.{EndsAtGate, IsWithinReach, Means}
use Rattle.replica_file.specs.Faults.{AccountsForFaults}
use Rattle.replica_file.specs.Gates.{BeforeOrWritten, IsOpened, IsWrittenAfter, LastsForCalls, OpenedTo, gate_opened, spent_opening}

pub read_once : ReadOnce
read_once grammar bytes ops others p q = (reads_once grammar bytes ops others Whole Whole p q).0

-- a file has one content at most
pub same_content : (bytes : List ℕ) (a b : Content) → HasImage bytes (Holds a) → HasImage bytes (Holds b) → a ≡ b
same_content bytes a b p q = let same : Holds a ≡ Holds b = image_once read_once bytes (Holds a) (Holds b) p q in cc same

-- bytes in three parts: those before an offset, the one there, and those after
at_offset : (bytes : List ℕ) (n byte : ℕ) → n < length bytes → get_or bytes n 0 ≡ byte → bytes ≡ take n bytes ++ byte ∷ drop (n + 1) bytes
at_offset bytes n byte inside is =
    sym (take-append-drop n bytes) ∙ ap (λ (l : List ℕ). take n bytes ++ l)
    (drop-cons bytes n 0 inside ∙ (λ i. is i ∷ drop (sym (add-one n) i) bytes))

-- another gate that is not open ends the meaning at the same place
other_gate : (before image : List ℕ) (content : Content) → HasImage before (Holds content) → content.at < length image → take content.at image ≡ take content.at before
    → get_or image content.at 0 ≢ 1 → HasImage image (Holds content)
other_gate before image content h inside front shut =
    let p = to_parts before content h in
    let gate : ℕ = get_or image content.at 0 in
    let rest : List ℕ = drop (content.at + 1) image in
    from_parts image content (record {
      head = p.head;
      batches = p.batches;
      gate = gate;
      rest = rest;
      long = p.long;
      is_head = p.is_head;
      batches_are = p.batches_are;
      few = p.few;
      closed = shut;
      split = at_offset image content.at gate inside refl ∙ ap (λ (z : List ℕ). z ++ gate ∷ rest) (front ∙ before_gate before content p)
          ∙ append_assoc p.head (open_slots p.batches) (gate ∷ rest);
      content_is = p.content_is;
    })

module _ (before : List ℕ) (content : Content) (ops : List Op) (h : HasImage before (Holds content)) (have : All HasFrame ops) (short : length (frames ops) ≤ LONGEST_BATCH)
    (few : content.slots < last_slot) where
  -- the bytes of one more batch, opened
  pub with_open_gate : (image : List ℕ) → IsWrittenAfter before content.at (after_gate ops) image → get_or image content.at 0 ≡ 1
      → HasImage image (Holds (content_with_ops content ops))
  with_open_gate image written open_now =
      let more : List ℕ = drop (length (after_gate ops)) (drop (content.at + 1) image) in
      let behind : drop (content.at + 1) image ≡ after_gate ops ++ more =
      sym (take-append-drop (length (after_gate ops)) (drop (content.at + 1) image)) ∙ ap (λ (z : List ℕ). z ++ more) written.behind in
      let bytes : image ≡ take content.at before ++ (open_slot (batch_of ops) ++ 0 ∷ more) =
      at_offset image content.at 1 written.inside open_now ∙ (λ i. written.front i ++ 1 ∷ behind i)
      ∙ ap (λ (z : List ℕ). take content.at before ++ 1 ∷ z) (append_assoc ((batch_of ops).word ++ frames ops) (0 ∷ []) more) in
      let long : length (open_slot (batch_of ops)) ≡ length (after_gate ops) = omega (arith, length-append ((batch_of ops).word ++ frames ops) (0 ∷ [])) in
      let same : with_batch content (batch_of ops) ≡ content_with_ops content ops =
      ap (λ (n : ℕ). record { replica = content.replica; hold = content.hold; ops = content.ops ++ ops; at = content.at + n; slots = content.slots + 1 }) long in
      subst (λ (z : List ℕ). HasImage z (Holds (content_with_ops content ops))) (sym bytes)
      (subst (λ (c : Content). HasImage (take content.at before ++ (open_slot (batch_of ops) ++ 0 ∷ more)) (Holds c)) same
      (batch_appended before content (batch_of ops) 0 more h (is_batch ops (framing_read ops (frames ops) (written_framing ops have)) short) few (λ e. omega (arith, e))))

  -- what a crash leaves holds what the file held, or that with the batch
  pub holds_either : (image : List ℕ) → content.at + 1 ≤ length before → BeforeOrWritten before content.at (after_gate ops) image → HoldsEither content ops image
  holds_either image inside (inl same) =
      inl (same_to_gate before image content h (subst (λ (n : ℕ). take n image ≡ take n before) (add-one content.at) same))
  holds_either image inside (inr written) = elim (cases_eq (get_or image content.at 0) 1) [
    | inl open_now ↦ inr (with_open_gate image written open_now)
    | inr shut_now ↦ inl (other_gate before image content h written.inside written.front shut_now)
  ]

-- the same of all states that came
pub leaves_either : (h k : History) (content : Content) (ops : List Op) → Means h.last content → All HasFrame ops → length (frames ops) ≤ LONGEST_BATCH → content.slots < last_slot
    → content.at + 1 ≤ length h.last.seen → LeavesOnly h k (BeforeOrWritten h.last.seen content.at (after_gate ops)) → LeavesOnly h k (HoldsEither content ops)
leaves_either h k content ops means have short few inside leaves = record {
  recent = leaves.recent;
  grows = leaves.grows;
  each = λ n d below image is. holds_either h.last.seen content ops means have short few image inside (leaves.each n d below image is);
}

-- the next batch can be appended after the one that was opened
has_batch : (before : List ℕ) (s : DiskState) (content : Content) (end : End) (ops : List Op) → HasImage before (Holds content) → content.at ≡ end.at → content.slots ≡ end.slots
    → All HasFrame ops
    → length (frames ops) ≤ LONGEST_BATCH → content.slots < last_slot → IsOpened before content.at (after_gate ops) s → HasBatch content end ops s
has_batch before s content end ops h at slots have short few is =
    let means : Means s (content_with_ops content ops) =
    with_open_gate before content ops h have short few s.seen is.written (get_or_from_slice_get s.seen content.at 1 0 is.opened) in
    let reach : content.at + 1 + length (after_gate ops) ≤ length s.seen =
    omega (arith, ap length is.written.behind, length-take (length (after_gate ops)) (drop (content.at + 1) s.seen), length-drop (content.at + 1) s.seen, is.written.inside) in
    record {
      means = means;
      settled = is.settled;
      ends = record {
        content = content_with_ops content ops;
        means = means;
        at = ap (λ (n : ℕ). n + length (after_gate ops)) at;
        slots = ap (λ (n : ℕ). n + 1) slots;
        agrees = record {
          inside = omega (arith, reach, at);
          each = λ image left. ap (take ((next_end end ops).at + 1)) (image_at_rest s.seen image (subst (λ (t : DiskState). IsCrashImage t image) is.settled left));
        };
      };
    }

-- at every moment since, what a crash leaves holds what the file held, or that with the batch
abbrev Leaves : List Op → History → Option History → Type 0
Leaves ops h p = (content : Content) → Means h.last content → LeavesOnlyTo h p (HoldsEither content ops)

-- nothing was done
at_rest_still : (ops : List Op) (old p : Option History) → p ≡ old → IfSome old (λ h. Leaves ops h p)
at_rest_still ops None p same = tt
at_rest_still ops (Some h) p same = λ content means. subst (λ o. LeavesOnlyTo h o (HoldsEither content ops)) (sym same) (leaves_none (HoldsEither content ops) h)

-- no call was made
no_calls : (disk : DiskView) (Lasts : RoomView → Type 0) (failed : Type 0) → (failed → ⊥) → AccountsForFaults disk disk Lasts failed
no_calls disk Lasts failed none = record {
  later = omega arith;
  faulted = λ fails. absurd (none fails);
  sure = each (λ room lasts fails. none fails) disk.room;
  counts_no_fault = each (λ room lasts. refl) disk.room;
  specified_no_fault = λ tells not. refl;
}
  where
    each : {P : RoomView → Type 0} → ((room : RoomView) → P room) → (o : Option RoomView) → IfSome o P
    each is None = tt
    each is (Some room) = is room

-- no operations are no batch
pub nothing_appended : (end : End) (ops : List Op) (disk : DiskView) → length ops ≡ 0 → IsWithinReach end → AppendMeets end ops disk disk (Ok end)
nothing_appended end ops disk none reaches = record {
  none = λ is. (refl, refl);
  too_long = λ not. (λ is. cc is, λ long. absurd (never ops none long));
  untouched = λ which. refl;
  appended = λ some. absurd (some (empty ops none));
  reaches = reaches;
  moments = at_rest_still ops disk.past disk.past refl;
  honest = λ is. is;
  faults = no_calls disk _ _ (λ is. cc is);
}
  where
    empty : (l : List Op) → length l ≡ 0 → l ≡ []
    empty [] is = refl
    empty (op ∷ l) is = absurd (omega (arith, is))

    never : (l : List Op) → length l ≡ 0 → IsTooLong end l → ⊥
    never [] is (inl long) = omega (arith, long)
    never [] is (inr some) = some.0 refl
    never (op ∷ l) is long = absurd (omega (arith, is))

-- why nothing was written
pub not_appended : (end : End) (ops : List Op) (disk : DiskView) (fault : AppendFault) → ops ≢ [] → fault ≢ DiskFault
    → (fault ≢ NoMemory → (fault ≡ BatchTooLong) ↔ IsTooLong end ops) → AppendMeets end ops disk disk (Err fault)
not_appended end ops disk fault some inside too_long = record {
  none = λ is. absurd (some is);
  too_long = λ not. let exactly = too_long (λ is. not (ap Err is)) in (λ is. let same : fault ≡ BatchTooLong = cc is in exactly.0 same, λ long. ap Err (exactly.1 long));
  untouched = λ which. refl;
  appended = λ more. tt;
  reaches = tt;
  moments = at_rest_still ops disk.past disk.past refl;
  honest = λ is. is;
  faults = no_calls disk _ _ (λ is. let same : fault ≡ DiskFault = cc is in inside same);
}

module _ (end : End) (ops : List Op) (have : All HasFrame ops) (short : length (frames ops) ≤ LONGEST_BATCH) (few : end.slots < last_slot) (bytes : List ℕ)
    (is : bytes ≡ after_gate ops) where
  -- the batch was written
  at_moments : (old p : Option History) → IfSome old (λ h. EndsAtGate h.last end) → IfSome old (λ h. LeavesOnlyTo h p (BeforeOrWritten h.last.seen end.at bytes))
      → IfSome old (λ h. Leaves ops h p)
  at_moments None p ends leaves = tt
  at_moments (Some h) None ends leaves = λ content means. leaves
  at_moments (Some h) (Some k) ends leaves = λ content means.
      let same : content ≡ ends.content = same_content h.last.seen content ends.content means ends.means in
      let at : content.at ≡ end.at = ap (λ (c : Content). c.at) same ∙ ends.at in
      let slots : content.slots ≡ end.slots = ap (λ (c : Content). c.slots) same ∙ ends.slots in
      leaves_either h k content ops means have short (omega (arith, slots, few)) (omega (arith, at, ends.agrees.inside))
      (subst (λ (n : ℕ). LeavesOnly h k (BeforeOrWritten h.last.seen n (after_gate ops))) (sym at)
      (subst (λ (b : List ℕ). LeavesOnly h k (BeforeOrWritten h.last.seen end.at b)) is leaves))

  -- and once it is settled that with the batch
  at_last : (old p : Option History) → IfSome old (λ h. EndsAtGate h.last end) → IfSome old (λ h. OpenedTo h.last.seen end.at bytes p)
      → IfSome old (λ h. (content : Content) → Means h.last content → IfSome p (λ k. HasBatch content end ops k.last))
  at_last None p ends opened = tt
  at_last (Some h) None ends opened = λ content means. tt
  at_last (Some h) (Some k) ends opened = λ content means.
      let same : content ≡ ends.content = same_content h.last.seen content ends.content means ends.means in
      let at : content.at ≡ end.at = ap (λ (c : Content). c.at) same ∙ ends.at in
      let slots : content.slots ≡ end.slots = ap (λ (c : Content). c.slots) same ∙ ends.slots in
      has_batch h.last.seen k.last content end ops means at slots have short (omega (arith, slots, few))
      (subst (λ (n : ℕ). IsOpened h.last.seen n (after_gate ops) k.last) (sym at)
      (subst (λ (b : List ℕ). IsOpened h.last.seen end.at b k.last) is opened))

  fits : IsTooLong end ops → ⊥
  fits (inl long) = omega (arith, long, short)
  fits (inr spent) = omega (arith, spent.1, few)

  module _ (old new : DiskView) (some : ops ≢ []) (ends : IfSome old.past (λ h. EndsAtGate h.last end))
      (moments : IfSome old.past (λ h. LeavesOnlyTo h new.past (BeforeOrWritten h.last.seen end.at bytes)))
      (honest : IfSome old.past (λ h. IsHonest h.last) → IfSome new.past (λ k. IsHonest k.last)) (later : old.faults ≤ new.faults)
      (counts_no_fault : IfSome old.room (λ room. LastsForCalls bytes room → new.faults ≡ old.faults)) where
    -- a call failed
    pub append_failed : Faulted old.faults new.faults → IfSome old.room (λ room. LastsForCalls bytes room → ⊥) → AppendMeets end ops old new (Err DiskFault)
    append_failed faulted sure = record {
      none = λ is. absurd (some is);
      too_long = λ not. (λ is. cc is, λ long. absurd (fits long));
      untouched = λ which. elim which [ inl is ↦ cc is | inr is ↦ cc is ];
      appended = λ more. tt;
      reaches = tt;
      moments = at_moments old.past new.past ends moments;
      honest = honest;
      faults = record {
        later = later;
        faulted = λ fails. faulted;
        sure = IfSome_then old.room (subst (λ (b : List ℕ). IfSome old.room (λ room. LastsForCalls b room → ⊥)) is sure) (λ room never lasts fails. never lasts);
        counts_no_fault = subst (λ (b : List ℕ). IfSome old.room (λ room. LastsForCalls b room → new.faults ≡ old.faults)) is counts_no_fault;
        specified_no_fault = λ tells not. absurd (not refl);
      };
    }

    -- the batch was written, and its gate opened
    pub append_done : (last : End) → last ≡ next_end end ops → IsWithinReach end → new.past ≡ gate_opened end.at bytes old.past → new.room ≡ spent_opening bytes old.room
        → IfSome old.past (λ h. OpenedTo h.last.seen end.at bytes new.past) → (DiskIsSpecified old → new.faults ≡ old.faults) → AppendMeets end ops old new (Ok last)
    append_done last last_is reach calls room opened specified_no_fault = record {
      none = λ is. absurd (some is);
      too_long = λ not. (λ is. cc is, λ long. absurd (fits long));
      untouched = λ which. elim which [ inl is ↦ cc is | inr is ↦ cc is ];
      appended = λ more. record {
        last_is = last_is;
        calls = calls ∙ ap (λ (b : List ℕ). gate_opened end.at b old.past) is;
        room = room ∙ ap (λ (b : List ℕ). spent_opening b old.room) is;
        has = at_last old.past new.past ends opened;
      };
      reaches = subst IsWithinReach (sym last_is) (omega (arith, reach, short, length-append (frames ops) (0 ∷ [])));
      moments = at_moments old.past new.past ends moments;
      honest = honest;
      faults = record {
        later = later;
        faulted = λ fails. cc fails;
        sure = IfSome_then old.room counts_no_fault (λ room same lasts fails. cc fails);
        counts_no_fault = subst (λ (b : List ℕ). IfSome old.room (λ room. LastsForCalls b room → new.faults ≡ old.faults)) is counts_no_fault;
        specified_no_fault = λ tells not. specified_no_fault tells;
      };
    }
