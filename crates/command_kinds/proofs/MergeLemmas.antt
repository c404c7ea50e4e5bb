-- Taking in what another replica holds: its operations, a run at a time, and the first that finds no place.
use Rattle.std.proofs.Common.{List, [], ap, append_assoc, inl, inr, length, refl, subst, sym, ◌++◌, ◌∙◌, ◌∷◌, ◌≡◌}
use Rattle.std.specs.Prelude.{Err, None, Ok, Option, Result, Some}
use Rattle.std.proofs.lemmas.List.{append-nil}
use Rattle.fugue_ids.specs.declared.op.Op.{Op}
use Rattle.origin_model.specs.declared.taking.Tally.{Tally}
use Rattle.origin_model.specs.taking.Taking.{MeetsNoLimit, IsSettled, kept_from, no_counts}
use Rattle.origin_model.proofs.SharedLemmas.{no_place_left}
use Rattle.replica_core.specs.Feeding.{TakesInAll}
use Rattle.origin_model.specs.edits.State.{State}
use Rattle.replica_core.specs.declared.keeping.FeedFault.{FeedFault}
use Rattle.replica_core.specs.declared.keeping.FeedFault.TheVariants as feed_fault
use Rattle.outer_ports.specs.disk.Disks.{DiskView}
use Rattle.replica_file.specs.declared.load_file.End.{End}
use Rattle.replica_file.specs.declared.load_file.LoadFault.{LoadFault}
use Rattle.replica_file.specs.declared.load_file.LoadFault.TheVariants as load_fault
use Rattle.command_kinds.specs.Files.{FileHolds, HolderFinds}
use Rattle.command_kinds.specs.Findings.{Does, Finding, Refuses}
use Rattle.command_kinds.specs.Intake.{FeedsNotAll, OneTooMany, copies_of_kept, ops_in}
use Rattle.command_kinds.specs.Refusal.{feed_refusal, load_refusal}
use Rattle.command_kinds.specs.Saving.{GivesOnce, Outcome}
use Rattle.command_kinds.specs.Take.{IsOneTooMany, ReplicaGives, all_held_by, all_held_ops, other_file}
use Rattle.command_kinds.specs.Changes.{Change}
use Rattle.command_kinds.specs.declared.counts.Counts.{Counts}
use Rattle.command_kinds.specs.declared.refusal.Refusal.{Refusal}
use Rattle.command_kinds.specs.declared.refusal.Refusal.TheVariants as refusal
use Rattle.command_kinds.proofs.FoundLemmas.{finds_once}
use Rattle.command_kinds.proofs.LoadedLemmas.{HasNotLoaded, load_failed}
use Rattle.command_kinds.proofs.TakeLemmas.{taken_gives}
use Rattle.command_kinds.specs.Giving.{GivesTo}
use Rattle.command_kinds.specs.declared.counts.Note.{Note}
use Rattle.command_kinds.specs.declared.counts.Note.TheVariants as note

-- Operations of which one finds no place, and what stands after them

-- one is one too many then
pub one_too_many : (replica : State) (ops more : List Op) → OneTooMany replica ops → IsOneTooMany replica (ops ++ more)
one_too_many replica ops more one places =
    let all : ops ++ more ≡ one.front ++ one.op ∷ (one.more ++ more) = ap (λ (l : List Op). l ++ more) one.parts ∙ append_assoc one.front (one.op ∷ one.more) more in
    no_place_left replica.hold replica.most replica.held one.front (one.more ++ more) one.op (subst (MeetsNoLimit replica.hold replica.most replica.held) all places) one.refused

-- why what the other replica holds was not taken in
pub merge_gives_none : (fault : FeedFault) (replica now other : State) (kept : Option (List Op)) → FeedsNotAll fault replica (all_held_ops other.held)
    → GivesTo (all_held_by other) replica now kept (Err (feed_refusal fault))
merge_gives_none (feed_fault.TooMany limit) replica now other kept (most, one) =
    (ap refusal.TooMany most, subst (IsOneTooMany replica) (append-nil (all_held_ops other.held)) (one_too_many replica (all_held_ops other.held) [] one))
merge_gives_none feed_fault.NoMemory replica now other kept none = tt

-- what the other replica holds was taken in
pub merge_gives : (replica now other : State) (tally : Tally) (kept : Option (List Op)) → TakesInAll replica now (all_held_ops other.held) no_counts tally
    → kept ≡ copies_of_kept (Some []) (kept_from replica.hold replica.most replica.held (all_held_ops other.held)) → (counts : Counts) → IsSettled replica.held
    → counts ≡ record { tally = tally; waiting = length now.held.waiting; cursor = None } → GivesTo (all_held_by other) replica now kept (Ok (note.Counted counts))
merge_gives replica now other tally kept taken kept_are counts settled is =
    taken_gives (all_held_by other) replica now (all_held_ops other.held) None (taken.has_place, refl) settled kept (ap ops_in kept_are) counts
    (is ∙ (λ i. record { tally = taken.counts i; waiting = length (taken.replica i).held.waiting; cursor = None }))

-- what the replica of the other file gives is what this file gives
module _ (guest : Change DiskView) (other replica : State) (other_end : End) (holds : FileHolds guest.old other other_end) where
  by_holder : (finding : Finding Outcome) → ReplicaGives other replica finding → HolderFinds (λ held end. ReplicaGives held replica) guest.old finding
  by_holder finding gives = (other, other_end, holds, gives)

  pub holder_gives : (now : State) (kept : Option (List Op)) (result : Result Note Refusal) → GivesTo (all_held_by other) replica now kept result
      → GivesTo (other_file guest) replica now kept result
  holder_gives now kept (Ok n) did = record { outcome = did.outcome; gives = by_holder (Does did.outcome) did.gives; suffices = did.suffices; saved = did.saved; noted = did.noted }
  holder_gives now kept (Err refusal.Outside) failed = absurd failed.0
  holder_gives now kept (Err refusal.NoMemory) same = tt
  holder_gives now kept (Err refusal.Words) never = never
  holder_gives now kept (Err why) gives = inr (by_holder (Refuses why) gives)

-- another replica gives one thing
held_gives_once : (other replica : State) (one two : Finding Outcome) → ReplicaGives other replica one → ReplicaGives other replica two → one ≡ two
held_gives_once other replica (Refuses why) (Refuses cause) a b = ap Refuses (a.0 ∙ sym b.0)
held_gives_once other replica (Refuses why) (Does outcome) a b = absurd (a.1 b.0)
held_gives_once other replica (Does outcome) (Refuses why) a b = absurd (b.1 a.0)
held_gives_once other replica (Does outcome) (Does last) a b = ap Does (a.1 ∙ sym b.1)

-- and so does another file that is specified
pub file_once : (guest : Change DiskView) → GivesOnce (other_file guest)
file_once guest reported replica = finds_once (λ other end. ReplicaGives other replica) guest.old reported (λ other end holds. held_gives_once other replica)

-- another file that was not loaded gives its refusal
pub file_gives_none : (guest : Change DiskView) (replica now : State) (kept : Option (List Op)) (fault : LoadFault) → HasNotLoaded guest fault
    → GivesTo (other_file guest) replica now kept (Err (load_refusal fault))
file_gives_none guest replica now kept load_fault.DiskFault meets = let failed = load_failed guest meets in (failed.faulted, failed.no_room)
file_gives_none guest replica now kept load_fault.NoMemory meets = tt
file_gives_none guest replica now kept load_fault.NotReplica meets = inl meets.cause
file_gives_none guest replica now kept (load_fault.BadBatch slot) meets = inl meets.cause
file_gives_none guest replica now kept (load_fault.TooMany count) meets = inl meets.cause
