-- What a refusal answers, and the line that it writes to the notes.
use Rattle.std.specs.Prelude.{◌≡◌, ◌⊎◌, ℕ, ◌≤◌, List, [], ◌∷◌, ◌++◌, length, take, drop, replicate, codes, decimal}
use Rattle.fugue_ids.specs.Causes.{Faulted}
use Rattle.fugue_ids.specs.Outs.{OutIsSpecified, OutView, Took, TookFront}
use Rattle.op_frame.specs.declared.fault.FrameFault.{FrameFault}
use Rattle.op_frame.specs.declared.fault.FrameFault.TheVariants as frame_fault
use Rattle.replica_core.specs.declared.keeping.FeedFault.{FeedFault}
use Rattle.replica_core.specs.declared.keeping.FeedFault.TheVariants as feed_fault
use Rattle.edit_script.specs.declared.run.ScriptFault.{ScriptFault}
use Rattle.edit_script.specs.declared.run.ScriptFault.TheVariants as script_fault
use Rattle.relay_sync.specs.declared.syncing.SyncFault.{SyncFault}
use Rattle.relay_sync.specs.declared.syncing.SyncFault.TheVariants as sync_fault
use Rattle.relay_sync.specs.declared.serving.ServeFault.{ServeFault}
use Rattle.relay_sync.specs.declared.serving.ServeFault.TheVariants as serve_fault
use Rattle.replica_file.specs.declared.appending.AppendFault.{AppendFault}
use Rattle.replica_file.specs.declared.appending.AppendFault.TheVariants as append_fault
use Rattle.replica_file.specs.declared.creating.CreateFault.{CreateFault}
use Rattle.replica_file.specs.declared.creating.CreateFault.TheVariants as create_fault
use Rattle.replica_file.specs.declared.load_file.LoadFault.{LoadFault}
use Rattle.replica_file.specs.declared.load_file.LoadFault.TheVariants as load_fault
use Rattle.replica_file.specs.declared.reading.ReadFault.{ReadFault}
use Rattle.replica_file.specs.declared.reading.ReadFault.TheVariants as read_fault
use Rattle.command_kinds.specs.Changes.{HasRoom, CountsNoFault, notes_room}
use Rattle.command_kinds.specs.declared.refusal.Detail.{Detail}
use Rattle.command_kinds.specs.declared.refusal.Detail.TheVariants.{Nothing, Number, Times, Name}
use Rattle.command_kinds.specs.declared.refusal.Refusal.{Refusal}
use Rattle.command_kinds.specs.declared.refusal.Refusal.TheVariants.{Words, BadFrame, CutShort, BadLine, NoSectionAtLine, OutOfRangeAtLine}
use Rattle.command_kinds.specs.declared.refusal.Refusal.TheVariants.{NotReplica, BadBatch, NotEmpty, TooMany, IdsSpent, TooLong}
use Rattle.command_kinds.specs.declared.refusal.Refusal.TheVariants.{BatchTooLong, BadReply, RelayRefused, ReplyCutShort, NoSuchPlaces}
use Rattle.command_kinds.specs.declared.refusal.Refusal.TheVariants.{NoSection, NoPlace, StampsSpent, BaseDiffers, BadDraft, EmptyDraft}
use Rattle.command_kinds.specs.declared.refusal.Refusal.TheVariants.{NoMoment, OwnSince, OutOfRange, NoComment, PassageNotFound, FoundOften}
use Rattle.command_kinds.specs.declared.refusal.Refusal.TheVariants.{NoVersion, Outside, NoMemory}
use Rattle.command_kinds.specs.declared.status.Status.{Status}
use Rattle.command_kinds.specs.declared.version_name.VersionName.{VersionName}
use Rattle.version_views.specs.declared.limits.TheConstants.{LONGEST_NAME}
use Rattle.command_kinds.specs.declared.status.Status.TheVariants as status

-- what is reported of a refusal: the status that it answers, and the words of its line with what stands after them
pub record Row : Type 0 where
  pub status : Status
  pub words : List ℕ
  pub detail : Detail

-- a row of the table of refusals
abbrev row : Status → List ℕ → Detail → Row
row status words detail = record { status = status; words = words; detail = detail }

-- the name that is kept, and how a name is kept: with zeros after it
abbrev pub name_bytes : VersionName → List ℕ
name_bytes kept = take kept.length kept.bytes

-- a version's name as it is kept: with zeros after it, and its length
abbrev pub kept_name : List ℕ → VersionName
kept_name name = record { bytes = name ++ drop (length name) (replicate LONGEST_NAME 0); length = length name }

-- the table of all refusals
abbrev pub row_of : Refusal → Row
row_of Words = row status.Usage (codes "words not understood") Nothing
row_of (BadFrame offset) = row status.BadInput (codes "bad frame at byte ") (Number offset)
row_of (CutShort offset) = row status.BadInput (codes "cut short at byte ") (Number offset)
row_of (BadLine line) = row status.BadInput (codes "bad line ") (Number line)
row_of (NoSectionAtLine line) = row status.BadInput (codes "no section at line ") (Number line)
row_of (OutOfRangeAtLine line) = row status.BadInput (codes "out of range at line ") (Number line)
row_of NotReplica = row status.BadFile (codes "not a replica") Nothing
row_of (BadBatch slot) = row status.BadFile (codes "bad batch ") (Number slot)
row_of NotEmpty = row status.BadFile (codes "not empty") Nothing
row_of (TooMany count) = row status.Limit (codes "too many: ") (Number count)
row_of (IdsSpent count) = row status.Limit (codes "ids spent: ") (Number count)
row_of TooLong = row status.Limit (codes "too long") Nothing
row_of BatchTooLong = row status.Limit (codes "batch too long") Nothing
row_of (BadReply offset) = row status.BadInput (codes "bad reply at byte ") (Number offset)
row_of (RelayRefused code) = row status.BadInput (codes "relay refused ") (Number code)
row_of (ReplyCutShort offset) = row status.BadInput (codes "reply cut short at byte ") (Number offset)
row_of NoSuchPlaces = row status.BadInput (codes "no such places") Nothing
row_of (NoSection section) = row status.BadInput (codes "no section ") (Number section)
row_of (NoPlace place) = row status.BadInput (codes "no place ") (Number place)
row_of StampsSpent = row status.Limit (codes "stamps spent") Nothing
row_of (BaseDiffers offset) = row status.BadInput (codes "base differs at byte ") (Number offset)
row_of (BadDraft line) = row status.BadInput (codes "bad draft at line ") (Number line)
row_of EmptyDraft = row status.BadInput (codes "empty draft") Nothing
row_of (NoMoment moment) = row status.BadInput (codes "no moment ") (Number moment)
row_of (OwnSince moment) = row status.BadInput (codes "own operations since ") (Number moment)
row_of OutOfRange = row status.BadInput (codes "out of range") Nothing
row_of (NoComment number) = row status.BadInput (codes "no comment ") (Number number)
row_of PassageNotFound = row status.BadInput (codes "passage not found") Nothing
row_of (FoundOften count) = row status.BadInput (codes "passage found ") (Times count)
row_of (NoVersion name) = row status.BadInput (codes "no version ") (Name name)
row_of Outside = row status.OutsideFault (codes "outside fault") Nothing
row_of NoMemory = row status.NoMemory (codes "no memory") Nothing

-- the status of a refusal
abbrev pub status_of : Refusal → Status
status_of refusal = (row_of refusal).status

-- the words of a refusal
abbrev pub words_of : Refusal → List ℕ
words_of refusal = (row_of refusal).words

-- what a refusal says after its words
abbrev pub detail_of : Refusal → Detail
detail_of refusal = (row_of refusal).detail

-- what a refusal says after its words, as it is written
abbrev pub detail_text : Detail → List ℕ
detail_text Nothing = []
detail_text (Number n) = decimal n
detail_text (Times n) = decimal n ++ codes " times"
detail_text (Name name) = name_bytes name

-- the words, the number or the name where there is one, with `times` after a number of places, LF
abbrev pub refusal_line : Refusal → List ℕ
refusal_line refusal = words_of refusal ++ detail_text (detail_of refusal) ++ 10 ∷ []

-- a reader's fault as a refusal
abbrev pub frame_refusal : FrameFault → Refusal
frame_refusal (frame_fault.BadFrame offset) = BadFrame offset
frame_refusal (frame_fault.CutShort offset) = CutShort offset
frame_refusal frame_fault.ReadFault = Outside
frame_refusal frame_fault.TooLong = TooLong
frame_refusal frame_fault.NoMemory = NoMemory

-- a replica's fault as a refusal
abbrev pub feed_refusal : FeedFault → Refusal
feed_refusal (feed_fault.TooMany count) = TooMany count
feed_refusal feed_fault.NoMemory = NoMemory

-- why a script stopped, as a refusal
abbrev pub script_refusal : ScriptFault → Refusal
script_refusal (script_fault.BadLine line) = BadLine line
script_refusal (script_fault.NoSection line) = NoSectionAtLine line
script_refusal (script_fault.OutOfRange line) = OutOfRangeAtLine line
script_refusal (script_fault.IdsSpent count) = IdsSpent count
script_refusal (script_fault.TooMany count) = TooMany count
script_refusal script_fault.ReadFault = Outside
script_refusal script_fault.TooLong = TooLong
script_refusal script_fault.NoMemory = NoMemory

-- why a file was not made, not loaded or not appended to, as a refusal
abbrev pub create_refusal : CreateFault → Refusal
create_refusal create_fault.NotEmpty = NotEmpty
create_refusal create_fault.DiskFault = Outside

-- the refusal of a file that does not load
abbrev pub load_refusal : LoadFault → Refusal
load_refusal load_fault.NotReplica = NotReplica
load_refusal (load_fault.BadBatch slot) = BadBatch slot
load_refusal load_fault.DiskFault = Outside
load_refusal (load_fault.TooMany count) = TooMany count
load_refusal load_fault.NoMemory = NoMemory

-- the refusal of operations that were not appended
abbrev pub append_refusal : AppendFault → Refusal
append_refusal append_fault.BatchTooLong = BatchTooLong
append_refusal append_fault.DiskFault = Outside
append_refusal append_fault.NoMemory = NoMemory

-- the refusal of a file whose bytes were not read
abbrev pub read_refusal : ReadFault → Refusal
read_refusal read_fault.DiskFault = Outside
read_refusal read_fault.NoMemory = NoMemory

-- why an exchange with a relay stopped, as a refusal
abbrev pub sync_refusal : SyncFault → Refusal
sync_refusal sync_fault.WireFault = Outside
sync_refusal (sync_fault.BadReply offset) = BadReply offset
sync_refusal (sync_fault.RelayRefused code) = RelayRefused code
sync_refusal (sync_fault.CutShort offset) = ReplyCutShort offset
sync_refusal sync_fault.TooLong = TooLong
sync_refusal (sync_fault.TooMany count) = TooMany count
sync_refusal sync_fault.NoMemory = NoMemory

-- why a relay served no further, as a refusal
abbrev pub serve_refusal : ServeFault → Refusal
serve_refusal serve_fault.DockFault = Outside
serve_refusal serve_fault.TooLong = TooLong
serve_refusal serve_fault.NoMemory = NoMemory

-- a line was written as far as the object took it: whole, unless its count of faults rose
pub record Reported (old new : OutView) (line : List ℕ) : Type 0 where
  pub later : old.faults ≤ new.faults
  pub whole : (Faulted old.faults new.faults → ⊥) → Took old new line
  pub front : TookFront old new line
  pub sure : HasRoom (length line) old → (new.faults ≡ old.faults) × Took old new line
  pub counts_no_fault : CountsNoFault notes_room old new
  -- an object that is specified counts a fault only where the line is not whole
  pub exact : OutIsSpecified old → (new.faults ≡ old.faults) ⊎ Faulted old.faults new.faults

-- a front of one line went out, after it a front of another, and nothing else
pub record TookFronts (old new : OutView) (first second : List ℕ) : Type 0 where
  pub count : ℕ
  pub within : count ≤ length first
  pub more : ℕ
  pub more_within : more ≤ length second
  pub took : Took old new (take count first ++ take more second)
