-- Appending a batch to a file.
use Rattle.std.specs.Prelude.{◌≡◌, ◌≢◌, ◌⊎◌, ◌↔◌, ◌+◌, ◌<◌, ℕ, List, [], ◌∷◌, ◌++◌, length, Result, Ok, Err, IfOk, IfSome}
use Rattle.std.specs.Int.{to_be_bytes, w32}
use Rattle.fugue_ids.specs.declared.op.Op.{Op}
use Rattle.outer_ports.specs.disk.Disks.{DiskView}
use Rattle.outer_ports.specs.disk.Moments.{LeavesOnlyTo}
use Rattle.outer_ports.specs.disk.States.{DiskState, IsHonest, at_rest}
use Rattle.origin_model.specs.declared.files.TheConstants.{LONGEST_BATCH}
use Rattle.origin_model.specs.declared.grammar.Grammar.TheVariants.{Version2}
use Rattle.origin_model.specs.files.Image.{Content, HasImage, Holds, last_slot, word_of}
use Rattle.origin_model.specs.frames.Framings.{frames}
use Rattle.replica_file.specs.declared.appending.AppendFault.{AppendFault}
use Rattle.replica_file.specs.declared.appending.AppendFault.TheVariants.{BatchTooLong, DiskFault, NoMemory}
use Rattle.replica_file.specs.declared.load_file.End.{End}
use Rattle.replica_file.specs.Ends.{EndsAtGate, IsWithinReach, Means}
use Rattle.replica_file.specs.Faults.{AccountsForFaults}
use Rattle.replica_file.specs.Gates.{LastsForCalls, gate_opened, spent_opening}

-- what is written after a slot's gate: the word, the frames, and the next gate, which is closed
abbrev pub after_gate : List Op → List ℕ
after_gate ops = to_be_bytes w32 (word_of Version2 (length (frames ops))) ++ frames ops ++ 0 ∷ []

-- the frames are too long for one batch, or there is no slot for them
abbrev pub IsTooLong : End → List Op → Type 0
IsTooLong end ops = (LONGEST_BATCH < length (frames ops)) ⊎ ((ops ≢ []) × (end.slots ≡ last_slot))

-- the end after one more slot
abbrev pub next_end : End → List Op → End
next_end end ops = record { at = end.at + length (after_gate ops); slots = end.slots + 1 }

-- what a file holds with one more batch
abbrev pub content_with_ops : Content → List Op → Content
content_with_ops content ops = record {
  replica = content.replica;
  hold = content.hold;
  ops = content.ops ++ ops;
  at = content.at + length (after_gate ops);
  slots = content.slots + 1;
}

-- the bytes hold this content, or this with one more batch
abbrev pub HoldsEither : Content → List Op → List ℕ → Type 0
HoldsEither content ops bytes = HasImage bytes (Holds content) ⊎ HasImage bytes (Holds (content_with_ops content ops))

-- the file has the batch, a crash leaves nothing else, and the next batch can be appended
pub record HasBatch (content : Content) (end : End) (ops : List Op) (s : DiskState) : Type 0 where
  pub means : Means s (content_with_ops content ops)
  pub settled : s ≡ at_rest s.seen
  pub ends : EndsAtGate s (next_end end ops)

-- the operations were appended as one batch
pub record IsAppended (end : End) (ops : List Op) (old new : DiskView) (last : End) : Type 0 where
  -- the meaning ends after it
  pub last_is : last ≡ next_end end ops
  -- it was written after the gate at the end, which was opened then
  pub calls : new.past ≡ gate_opened end.at (after_gate ops) old.past
  -- that took four calls
  pub room : new.room ≡ spent_opening (after_gate ops) old.room
  -- the file, where it is specified, has the batch
  pub has : IfSome old.past (λ h. (content : Content) → Means h.last content → IfSome new.past (λ k. HasBatch content end ops k.last))

-- an append to a file whose meaning ends there
pub record AppendMeets (end : End) (ops : List Op) (old new : DiskView) (result : Result End AppendFault) : Type 0 where
  -- no operations are no batch
  pub none : ops ≡ [] → (result ≡ Ok end) × (new ≡ old)
  -- the operations are too long exactly where that is answered, but for lack of memory
  pub too_long : result ≢ Err NoMemory → (result ≡ Err BatchTooLong) ↔ IsTooLong end ops
  -- nothing was done then
  pub untouched : (result ≡ Err BatchTooLong) ⊎ (result ≡ Err NoMemory) → new ≡ old
  -- what an answer without a fault gives
  pub appended : ops ≢ [] → IfOk result (IsAppended end ops old new)
  -- the slots can reach as far as the new end
  pub reaches : IfOk result IsWithinReach
  -- whatever a crash leaves holds what the file held, or that with the batch
  pub moments : IfSome old.past (λ h. (content : Content) → Means h.last content → LeavesOnlyTo h new.past (HoldsEither content ops))
  -- a read gives something that a crash may leave
  pub honest : IfSome old.past (λ h. IsHonest h.last) → IfSome new.past (λ k. IsHonest k.last)
  -- two writes and two syncs may fail
  pub faults : AccountsForFaults old new (LastsForCalls (after_gate ops)) (result ≡ Err DiskFault)
