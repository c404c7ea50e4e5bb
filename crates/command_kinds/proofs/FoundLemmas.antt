-- A file that is specified leads to one thing: it holds one replica, or is the cause of one refusal.
use Rattle.std.proofs.Common.{◌≡◌, ap, inl, inr, subst, sym, ◌∙◌, refl}
use Rattle.std.specs.Prelude.{IfSome, Ok, Err, Result}
use Rattle.fugue_ids.specs.declared.limits.TheConstants.{MOST_OPERATIONS}
use Rattle.outer_ports.specs.disk.Disks.{DiskView}
use Rattle.outer_ports.specs.disk.Moments.{History}
use Rattle.origin_model.specs.operations.Verdict.{Lawful}
use Rattle.origin_model.specs.taking.Taking.{nothing_held}
use Rattle.origin_model.specs.edits.State.{State as Replica}
use Rattle.replica_file.proofs.OnceLemmas.{answers_once}
use Rattle.replica_file.specs.Load.{LoadAnswerIs, IsLoadByBytes, Loads}
use Rattle.replica_file.specs.declared.load_file.End.{End}
use Rattle.replica_file.specs.declared.load_file.LoadFault.{LoadFault}
use Rattle.replica_file.specs.declared.load_file.LoadFault.TheVariants as load_fault
use Rattle.command_kinds.proofs.LawfulLemmas.{held_lawful}
use Rattle.command_kinds.specs.Files.{FileFinds, FileHolds, FileRefuses, HolderFinds}
use Rattle.command_kinds.specs.Findings.{Does, Finding, Refuses}
use Rattle.command_kinds.specs.Refusal.{load_refusal}
use Rattle.command_kinds.specs.Changes.{IsSpecified}
use Rattle.command_kinds.specs.declared.refusal.Refusal.{Refusal}
use Rattle.command_kinds.specs.declared.refusal.Refusal.TheVariants as refusal

abbrev Answer : Type 0
Answer = Result (Replica × End) LoadFault

-- the answer of a load that the file, where it is specified, leads to
record LeadsTo (disk : DiskView) (answer : Answer) : Type 0 where
  by_bytes : IsLoadByBytes answer
  is : IfSome disk.past (λ h. LoadAnswerIs MOST_OPERATIONS h.last.seen answer)

by_the_bytes : (disk : DiskView) (answer : Answer) (specified : IsSpecified disk) → LeadsTo disk answer → LoadAnswerIs MOST_OPERATIONS specified.0.last.seen answer
by_the_bytes disk answer specified leads = subst (λ o. IfSome o (λ (h : History). LoadAnswerIs MOST_OPERATIONS h.last.seen answer)) specified.1 leads.is

leads_once : (disk : DiskView) (a b : Answer) → IsSpecified disk → LeadsTo disk a → LeadsTo disk b → a ≡ b
leads_once disk a b specified one other =
    answers_once MOST_OPERATIONS specified.0.last.seen a b one.by_bytes other.by_bytes (by_the_bytes disk a specified one) (by_the_bytes disk b specified other)

leads_to_replica : (disk : DiskView) (loaded : Replica × End) → FileHolds disk loaded.0 loaded.1 → LeadsTo disk (Ok loaded)
leads_to_replica disk loaded holds = record { by_bytes = tt; is = holds }

leads_to_refusal : (disk : DiskView) (why : Refusal) → FileRefuses disk why → (fault : LoadFault) × LeadsTo disk (Err fault) × (why ≡ load_refusal fault)
leads_to_refusal disk refusal.NotReplica refuses = (load_fault.NotReplica, record { by_bytes = tt; is = refuses }, refl)
leads_to_refusal disk (refusal.BadBatch slot) refuses = (load_fault.BadBatch slot, record { by_bytes = tt; is = refuses }, refl)
leads_to_refusal disk (refusal.TooMany count) refuses = (load_fault.TooMany count, record { by_bytes = tt; is = refuses }, refl)
leads_to_refusal disk _ refuses = absurd refuses

pub holds_once : (disk : DiskView) → IsSpecified disk → (loaded other : Replica × End) → FileHolds disk loaded.0 loaded.1 → FileHolds disk other.0 other.1 → loaded ≡ other
holds_once disk specified loaded other holds holds' =
    cc (leads_once disk (Ok loaded) (Ok other) specified (leads_to_replica disk loaded holds) (leads_to_replica disk other holds'))

pub refuses_once : (disk : DiskView) → IsSpecified disk → (why other : Refusal) → FileRefuses disk why → FileRefuses disk other → why ≡ other
refuses_once disk specified why other refuses refuses' =
    let one = leads_to_refusal disk why refuses in
    let two = leads_to_refusal disk other refuses' in
    let same = leads_once disk (Err one.0) (Err two.0) specified one.1 two.1 in
    one.2 ∙ ap load_refusal (cc same) ∙ sym two.2

pub holds_or_refuses : (disk : DiskView) → IsSpecified disk → (loaded : Replica × End) (why : Refusal) → FileHolds disk loaded.0 loaded.1 → FileRefuses disk why → ⊥
holds_or_refuses disk specified loaded why holds refuses =
    let one = leads_to_refusal disk why refuses in
    cc (leads_once disk (Ok loaded) (Err one.0) specified (leads_to_replica disk loaded holds) one.1)

-- what a file that is specified holds is lawful
pub loaded_lawful : (disk : DiskView) → IsSpecified disk → (replica : Replica) (at : End) → FileHolds disk replica at → Lawful replica.held.history
loaded_lawful disk specified replica at holds =
    let loads : Loads MOST_OPERATIONS specified.0.last.seen replica at = subst (λ o. IfSome o (λ (h : History). Loads MOST_OPERATIONS h.last.seen replica at)) specified.1 holds in
    subst (λ (r : Replica). Lawful r.held.history) (sym loads.replica_is) (held_lawful loads.content.hold MOST_OPERATIONS nothing_held loads.content.ops tt)

-- and where one thing comes of what it holds, to one thing
module _ {T : Type 0} (Gives : Replica → End → Finding T → Type 0) (disk : DiskView) (specified : IsSpecified disk)
    (once : (replica : Replica) (end : End) → FileHolds disk replica end → (a b : Finding T) → Gives replica end a → Gives replica end b → a ≡ b) where
  held_once : (a b : Finding T) → HolderFinds Gives disk a → HolderFinds Gives disk b → a ≡ b
  held_once a b one two =
      let same = holds_once disk specified (one.0, one.1) (two.0, two.1) one.2 two.2 in
      once one.0 one.1 one.2 a b one.3 (subst (λ (l : Replica × End). Gives l.0 l.1 b) (sym same) two.3)

  apart : (why : Refusal) (found : Finding T) → FileRefuses disk why → HolderFinds Gives disk found → ⊥
  apart why found refuses holder = holds_or_refuses disk specified (holder.0, holder.1) why holder.2 refuses

  pub finds_once : (a b : Finding T) → FileFinds Gives disk a → FileFinds Gives disk b → a ≡ b
  finds_once (Refuses why) (Refuses other) (inl one) (inl two) = ap Refuses (refuses_once disk specified why other one two)
  finds_once (Refuses why) (Refuses other) (inl one) (inr two) = absurd (apart why (Refuses other) one two)
  finds_once (Refuses why) (Refuses other) (inr one) (inl two) = absurd (apart other (Refuses why) two one)
  finds_once (Refuses why) (Refuses other) (inr one) (inr two) = held_once (Refuses why) (Refuses other) one two
  finds_once (Refuses why) (Does done) (inl one) two = absurd (apart why (Does done) one two)
  finds_once (Refuses why) (Does done) (inr one) two = held_once (Refuses why) (Does done) one two
  finds_once (Does done) (Refuses why) one (inl two) = absurd (apart why (Does done) two one)
  finds_once (Does done) (Refuses why) one (inr two) = held_once (Does done) (Refuses why) one two
  finds_once (Does done) (Does other) one two = held_once (Does done) (Does other) one two
