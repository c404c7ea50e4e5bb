-- `revise` with a number: the draft was written from what was shown when so many operations were accepted. It is
-- planned on the replica as it was then, and what it makes comes after all that the file has.
use Rattle.std.specs.Prelude.{All, filter, true, ◌++◌, ◌≡◌, ℕ, nat_eq, nat_lt, not, ◌-◌, Bool, drop, if◌then◌else◌, Option, Some, None}
use Rattle.std.specs.Prelude.{List, length, Result, Ok, Err}
use Rattle.fugue_ids.specs.Identifiers.{Identifier}
use Rattle.fugue_ids.specs.declared.op.Op.{Op}
use Rattle.fugue_ids.specs.declared.op.Op.TheVariants.{Delete}
use Rattle.origin_model.specs.edits.Refusal.{held_count, next_of_own}
use Rattle.origin_model.specs.edits.State.{State as Replica}
use Rattle.origin_model.specs.operations.History.{accepted, has_op}
use Rattle.origin_model.specs.taking.Taking.{MeetsNoLimit, Held, held_from}
use Rattle.outer_ports.specs.Sources.{SourceView}
use Rattle.outer_ports.specs.disk.Disks.{DiskView}
use Rattle.replica_core.specs.declared.keeping.FeedFault.{FeedFault}
use Rattle.replica_core.specs.declared.keeping.FeedFault.TheVariants as feed_fault
use Rattle.replica_file.specs.declared.load_file.End.{End}
use Rattle.version_views.specs.Fronts.{replica_at}
use Rattle.command_kinds.specs.Findings.{Finding, Refuses, Does}
use Rattle.command_kinds.specs.Saving.{OpsSource, Outcome}
use Rattle.command_kinds.specs.Changes.{Change, IsSpecified}
use Rattle.command_kinds.specs.Files.{FileHolds}
use Rattle.command_kinds.specs.Take.{IsOneTooMany}
use Rattle.command_kinds.specs.declared.counts.Note.{Note}
use Rattle.command_kinds.specs.declared.counts.Note.TheVariants as note
use Rattle.command_kinds.specs.declared.refusal.Refusal.{Refusal}
use Rattle.command_kinds.specs.declared.refusal.Refusal.TheVariants as refusal
use Rattle.manuscript_cli.specs.Revising.{RevisionGives, revision}
use Rattle.manuscript_cli.specs.declared.revise.Revised.{Revised}

-- the counters of the next operations of two replicas are the same
abbrev pub same_next : Replica → Replica → Bool
same_next one other = nat_eq (next_of_own one) (next_of_own other)

-- the replica made operations after the first n: the counter of its next one is another than it was
abbrev pub made_since : ℕ → Replica → Bool
made_since n replica = not (same_next replica (replica_at n replica))

-- why no draft is taken that was written when n operations were accepted: fewer are, or the replica made some since
abbrev pub moment_refusal : ℕ → Replica → Option Refusal
moment_refusal n replica =
    if nat_lt (length replica.held.history) n then Some (refusal.NoMoment n) else
    (if made_since n replica then Some (refusal.OwnSince n) else None)

-- a limit tells how many operations the whole holds
abbrev pub refusal_of_whole : Replica → Refusal → Refusal
refusal_of_whole replica (refusal.TooMany held) = refusal.TooMany (held_count replica)
refusal_of_whole replica why = why

-- the home file holds a replica that takes no draft of this moment
pub record RefusesMoment (n : ℕ) (home : DiskView) : Type 0 where
  pub specified : IsSpecified home
  pub replica : Replica
  pub end : End
  pub holds : FileHolds home replica end
  pub why : Refusal
  pub refused : moment_refusal n replica ≡ Some why

-- then neither the base nor the draft is asked for
abbrev pub MomentDecidesAlone : ℕ → (home : DiskView) → (guest : Change DiskView) → (input : Change SourceView) → Type 0
MomentDecidesAlone n home guest input = RefusesMoment n home → (input.new ≡ input.old) × (guest.new ≡ guest.old)

-- those of the operations that a history lacks
abbrev pub lacking_ops : List Op → List Op → List Op
lacking_ops history ops = filter (λ op. not (has_op history op)) ops

-- what was made is all accepted, after what was accepted before, which lacked all of it but Deletes that others made
-- too; what waits is what waited
pub record ComesAfterAccepted (old : Held) (made : List Op) (new : Held) : Type 0 where
  pub behind : accepted new.history ≡ accepted old.history ++ lacking_ops old.history made
  pub each : All (λ op. has_op new.history op ≡ true) made
  pub had : All (λ op. has_op old.history op ≡ true → (x : Identifier) × (op ≡ Delete x)) made
  pub waiting : new.waiting ≡ old.waiting

-- what comes in the whole of what a draft gives to the replica as it was: what it makes is saved as it is, and taken in
-- after all that the whole holds, if there is room for it
abbrev pub ComesInWhole : Replica → (given found : Finding Outcome) → Type 0
ComesInWhole replica (Refuses why) found = found ≡ Refuses (refusal_of_whole replica why)
ComesInWhole replica (Does outcome) (Does whole) =
    MeetsNoLimit replica.hold replica.most replica.held outcome.saved
    × (whole ≡ record outcome { held = held_from replica.hold replica.most replica.held outcome.saved })
    × ComesAfterAccepted replica.held outcome.saved whole.held
ComesInWhole replica (Does outcome) (Refuses why) = (why ≡ refusal.TooMany (held_count replica)) × IsOneTooMany replica outcome.saved

-- a revision since a moment gives what the replica as it was then gave, taken in by the whole
abbrev pub GivesSince : (moment : Option Refusal) → ℕ → DiskView → SourceView → (finding : Finding Outcome) → Replica → Finding Outcome
    → Type 0
GivesSince (Some why) n guest input finding replica found = found ≡ Refuses why
GivesSince None n guest input finding replica found =
    (given : Finding Outcome) × RevisionGives guest input finding (replica_at n replica) given × ComesInWhole replica given found

-- what such a draft gives: what it gives to the replica as it was, in the whole
abbrev pub SinceGives : ℕ → DiskView → SourceView → (finding : Finding Outcome) → Replica → Finding Outcome → Type 0
SinceGives n guest input finding replica found = GivesSince (moment_refusal n replica) n guest input finding replica found

-- it reads the same objects as a draft of what is shown now
abbrev pub revision_since : ℕ → Change DiskView → Change SourceView → (finding : Finding Outcome) → OpsSource
revision_since n guest input finding = record (revision guest input finding) { Gives = SinceGives n guest.old input.old finding }

-- what is noted of a revision
abbrev pub noted_revision : Result Revised Refusal → Result Note Refusal
noted_revision (Ok revised) = Ok (note.Revised revised.made revised.sections)
noted_revision (Err why) = Err why

-- what a revision made of the replica as it was: what stands last there
abbrev pub made_last : Replica → Revised → List Op
made_last past revised = drop (length (accepted past.held.history) - revised.made) (accepted past.held.history)

-- an operation is one too many, or memory ran out
abbrev pub HasNoPlaceFor : FeedFault → Replica → List Op → Type 0
HasNoPlaceFor (feed_fault.TooMany limit) replica ops = IsOneTooMany replica ops
HasNoPlaceFor feed_fault.NoMemory replica ops = Unit {0}

-- why what was made has no place in the whole
abbrev pub FindsNoRoom : Refusal → Replica → List Op → Type 0
FindsNoRoom (refusal.TooMany held) replica made = (held ≡ held_count replica) × IsOneTooMany replica made
FindsNoRoom refusal.NoMemory replica made = Unit {0}
FindsNoRoom _ replica made = ⊥

-- what a revision of the replica as it was comes to in the whole, which the former takes the place of where it comes to its end
abbrev pub BringsRevision : (old new past : Replica) → (given result : Result Revised Refusal) → Type 0
BringsRevision old new past (Ok revised) (Ok brought) =
    (brought ≡ revised) × (new ≡ past) × MeetsNoLimit old.hold old.most old.held (made_last past revised)
BringsRevision old new past (Ok revised) (Err why) = FindsNoRoom why old (made_last past revised)
BringsRevision old new past (Err why) (Ok brought) = ⊥
BringsRevision old new past (Err why) (Err specified) = specified ≡ refusal_of_whole old why
