-- An exchange with a relay: what was said, what the reply gives, and that it gives one thing.
use Rattle.std.proofs.Common.{List, [], ap, arith, inl, inr, length, length-append, refl, subst, sym, ℕ, ◌+◌, ◌++◌, ◌<◌, ◌^◌, ◌∙◌, ◌∷◌, ◌≡◌, ◌≢◌, ◌≤◌}
use Rattle.std.specs.Prelude.{Err, IfSome, None, Ok, Option, Some, decimal}
use Rattle.std.proofs.lemmas.Fmt.{length-decimal-le}
use Rattle.fugue_ids.specs.Causes.{Faulted}
use Rattle.fugue_ids.specs.Outs.{Took}
use Rattle.fugue_ids.specs.declared.op.Op.{Op}
use Rattle.origin_model.specs.declared.taking.Tally.{Tally}
use Rattle.origin_model.specs.taking.Taking.{IsSettled}
use Rattle.outer_ports.specs.disk.Disks.{DiskView}
use Rattle.outer_ports.specs.wire.Wires.{WireView, out_of}
use Rattle.relay_sync.specs.Outcomes.{Bad, Cut, Ended, HeardTo, HeardUpTo, Refused, ReplyComes, ReplyEnd, TooLong, TooMany}
use Rattle.relay_sync.specs.Saying.{request_for}
use Rattle.relay_sync.specs.Syncing.{SyncFails, FitsBytes, SyncsReplica}
use Rattle.relay_sync.specs.declared.syncing.SyncFault.{SyncFault}
use Rattle.relay_sync.specs.declared.syncing.SyncFault.TheVariants as sync_fault
use Rattle.relay_sync.proofs.OutcomeLemmas.{reply_comes_once}
use Rattle.replica_core.specs.Keeping.{TakesIn, OpsTaking, taking_begun}
use Rattle.origin_model.specs.edits.State.{State as Replica}
use Rattle.replica_file.specs.declared.load_file.End.{End}
use Rattle.command_kinds.specs.Counts.{cursor_line}
use Rattle.command_kinds.specs.Files.{FileHolds}
use Rattle.command_kinds.specs.Findings.{Finding, Refuses, Does}
use Rattle.command_kinds.specs.Giving.{GivesTo}
use Rattle.command_kinds.specs.Refusal.{sync_refusal}
use Rattle.command_kinds.specs.Saving.{GivesOnce, Outcome}
use Rattle.command_kinds.specs.Sync.{AnswerComes, ReplyGives, Speaks, reply}
use Rattle.command_kinds.specs.Take.{noted_in, taken_in}
use Rattle.command_kinds.specs.Changes.{Change, change, notes_room}
use Rattle.command_kinds.specs.declared.counts.Counts.{Counts}
use Rattle.command_kinds.specs.declared.counts.Note.TheVariants as note
use Rattle.command_kinds.specs.declared.refusal.Refusal.TheVariants as refusal
use Rattle.command_kinds.proofs.TakeLemmas.{taken_gives}
use Rattle.command_kinds.proofs.TextLemmas.{whole_front}

cursor_short : (cursor : ℕ) → cursor < 2 ^ 32 → length (cursor_line cursor) ≤ 18
cursor_short cursor fits = omega (arith, length-decimal-le 10 cursor (omega arith) (omega (arith, fits)) (omega (arith, fits)), length-append (decimal cursor) (10 ∷ []))

-- the counts of an exchange fit the notes
pub exchange_short : (line : List ℕ) (cursor : ℕ) → cursor < 2 ^ 32 → length line + 18 ≤ notes_room → length (line ++ cursor_line cursor) ≤ notes_room
exchange_short line cursor fits short = omega (arith, short, cursor_short cursor fits, length-append line (cursor_line cursor))

-- what was said stays said while a reply is heard
still_said : (old asked new : WireView) (text : List ℕ) → Took (out_of old) (out_of asked) text → new.said ≡ asked.said → new.room ≡ asked.room
    → Took (out_of old) (out_of new) text
still_said old asked new text took said room = record { written = said ∙ took.written; room = room ∙ took.room }

module _ (port cursor : ℕ) (old new : WireView) (before after : OpsTaking) (done : Type 0)
    (counts_no_fault : FitsBytes (length (request_for cursor before.replica.held)) old → new.faults ≡ old.faults) where
  -- the replica spoke and heard the reply
  pub speaks_whole : (count : ℕ) → SyncsReplica old new before after port cursor count → Speaks port cursor before.replica.held (change old new) done
  speaks_whole count s =
      let took = still_said old s.asked new (request_for cursor before.replica.held) s.asks.said s.hears.hears.said s.hears.hears.room in
      record {
        front = whole_front (out_of old) (out_of new) (request_for cursor before.replica.held) took;
        no_other = inl (s.hears.hears.dials ∙ s.asks.dialled);
        whole = λ d. took;
        dialled = λ d. s.hears.hears.dials ∙ s.asks.dialled;
        heard = λ d. record {
          found = s.hears.found;
          are_frames = s.hears.are_frames;
          count = count;
          last = s.hears.last;
          ends = s.hears.ends;
          heard = sym s.asks.left ∙ s.hears.hears.heard;
        };
        counts_no_fault = counts_no_fault;
      }

  -- it spoke up to a fault, or heard the reply up to one
  pub speaks_front : (fault : SyncFault) → SyncFails fault old new before after port cursor → (done → ⊥) → Speaks port cursor before.replica.held (change old new) done
  speaks_front fault (inl asks) not_done =
      record {
        front = asks.said;
        no_other = asks.no_other;
        whole = λ d. absurd (not_done d);
        dialled = λ d. absurd (not_done d);
        heard = λ d. absurd (not_done d);
        counts_no_fault = counts_no_fault;
      }
  speaks_front fault (inr hear) not_done = record {
    front = whole_front (out_of old) (out_of new) (request_for cursor before.replica.held)
        (still_said old hear.asked new (request_for cursor before.replica.held) hear.asks.said hear.hears.hears.said hear.hears.hears.room);
    no_other = inl (hear.hears.hears.dials ∙ hear.asks.dialled);
    whole = λ d. absurd (not_done d);
    dialled = λ d. absurd (not_done d);
    heard = λ d. absurd (not_done d);
    counts_no_fault = counts_no_fault;
  }

-- the operations of a reply that was heard to its end
pub reply_ops : (reported : Option (List ℕ)) (before after : OpsTaking) (end : ReplyEnd) (ops : List Op) → TakesIn before after ops → HeardTo reported before after end
    → (all : List Op) × IfSome reported (λ bytes. ReplyComes before.replica.hold before.replica.most before.replica.held bytes all end) × TakesIn before after all
reply_ops None before after end ops takes heard = (ops, tt, takes)
reply_ops (Some bytes) before after end ops takes heard = (heard.ops, heard.comes, heard.takes)

-- those that were taken in before a fault
cause_ops : (reported : Option (List ℕ)) (before after : OpsTaking) (end : ReplyEnd) → HeardTo reported before after end
    → (all : List Op) × IfSome reported (λ bytes. ReplyComes before.replica.hold before.replica.most before.replica.held bytes all end)
cause_ops None before after end heard = ([], tt)
cause_ops (Some bytes) before after end heard = (heard.ops, heard.comes)

-- an exchange that stopped gives its refusal
pub reply_gives_none : (fault : SyncFault) (port cursor : ℕ) (replica now : Replica) (kept : List Op) (after last : OpsTaking) (end : End) (home : DiskView)
    (wire : Change WireView) (kept_after : Option (List Op))
    → FileHolds home replica end → SyncFails fault wire.old wire.new (taking_begun replica kept) after port cursor → HeardUpTo fault wire.old.left (taking_begun replica kept) last
    → (fault ≡ sync_fault.WireFault → Faulted wire.old.faults wire.new.faults) → (FitsBytes (length (request_for cursor replica.held)) wire.old → fault ≢ sync_fault.WireFault)
    → GivesTo (reply cursor home wire) replica now kept_after (Err (sync_refusal fault))
reply_gives_none sync_fault.WireFault port cursor replica now kept after last end home wire kept_after holds fails heard faulted sure =
    (faulted refl, λ fits. sure (fits replica end holds) refl)
reply_gives_none (sync_fault.BadReply k) port cursor replica now kept after last end home wire kept_after holds fails heard faulted sure =
    cause_ops wire.old.left (taking_begun replica kept) last (Bad k) heard
reply_gives_none (sync_fault.RelayRefused code) port cursor replica now kept after last end home wire kept_after holds fails heard faulted sure =
    cause_ops wire.old.left (taking_begun replica kept) last (Refused code) heard
reply_gives_none (sync_fault.CutShort k) port cursor replica now kept after last end home wire kept_after holds fails heard faulted sure =
    cause_ops wire.old.left (taking_begun replica kept) last (Cut k) heard
reply_gives_none sync_fault.TooLong port cursor replica now kept after last end home wire kept_after holds fails heard faulted sure =
    cause_ops wire.old.left (taking_begun replica kept) last TooLong heard
reply_gives_none (sync_fault.TooMany most) port cursor replica now kept after last end home wire kept_after holds fails heard faulted sure =
    let cause = cause_ops wire.old.left (taking_begun replica kept) last TooMany heard in (
      elim fails [
        | inl asks ↦ absurd asks.cause
        | inr hear ↦
            let many = hear.hears.stops.0 in
            many.2 ∙ ap (λ (r : Replica). r.most) many.1.takes.replica ∙ ap (λ (r : Replica). r.most) hear.hears.takes.replica
      ],
      cause.0,
      cause.1,
    )
reply_gives_none sync_fault.NoMemory port cursor replica now kept after last end home wire kept_after holds fails heard faulted sure = tt

-- a reply that was taken in gives its outcome
pub reply_gives : (cursor : ℕ) (home : DiskView) (wire : Change WireView) (replica now : Replica) (tally : Tally) (kept kept_after : List Op) → kept ≡ []
    → (count : ℕ) (ops : List Op)
    → AnswerComes replica wire.old ops (Ended count) → TakesIn (taking_begun replica kept) (record { replica = now; counts = tally; kept = kept_after }) ops
    → (counts : Counts) → IsSettled replica.held → counts ≡ record { tally = tally; waiting = length now.held.waiting; cursor = Some count }
    → GivesTo (reply cursor home wire) replica now (Some kept_after) (Ok (note.Counted counts))
reply_gives cursor home wire replica now tally kept kept_after none count ops comes taken counts settled is =
    taken_gives (reply cursor home wire) replica now ops (Some count) (ops, count, comes, refl) settled (Some kept_after)
    (taken.kept ∙ ap (λ (k : List Op). k ++ (taken_in replica ops).saved) none) counts
    (is ∙ (λ i. record { tally = taken.counts i; waiting = length (taken.replica i).held.waiting; cursor = Some count }))

-- what a reply gives that comes to an end
abbrev reply_finding : Replica → List Op → ReplyEnd → Finding Outcome
reply_finding replica ops (Ended count) = Does (noted_in replica ops (Some count))
reply_finding replica ops (Refused code) = Refuses (refusal.RelayRefused code)
reply_finding replica ops (Bad k) = Refuses (refusal.BadReply k)
reply_finding replica ops (Cut k) = Refuses (refusal.ReplyCutShort k)
reply_finding replica ops TooLong = Refuses refusal.TooLong
reply_finding replica ops TooMany = Refuses (refusal.TooMany replica.most)

-- the end to which a reply came
record ComesTo (wire : WireView) (replica : Replica) (finding : Finding Outcome) : Type 0 where
  ops : List Op
  end : ReplyEnd
  came : AnswerComes replica wire ops end
  finding_is : finding ≡ reply_finding replica ops end

comes_to : (wire : WireView) (replica : Replica) (finding : Finding Outcome) → ReplyGives wire replica finding → ComesTo wire replica finding
comes_to wire replica (Does outcome) gives = record { ops = gives.0; end = Ended gives.1; came = gives.2; finding_is = ap Does gives.3 }
comes_to wire replica (Refuses (refusal.BadReply k)) gives = record { ops = gives.0; end = Bad k; came = gives.1; finding_is = refl }
comes_to wire replica (Refuses (refusal.RelayRefused code)) gives = record { ops = gives.0; end = Refused code; came = gives.1; finding_is = refl }
comes_to wire replica (Refuses (refusal.ReplyCutShort k)) gives = record { ops = gives.0; end = Cut k; came = gives.1; finding_is = refl }
comes_to wire replica (Refuses refusal.TooLong) gives = record { ops = gives.0; end = TooLong; came = gives.1; finding_is = refl }
comes_to wire replica (Refuses (refusal.TooMany most)) gives =
    record { ops = gives.1; end = TooMany; came = gives.2; finding_is = ap (λ (n : ℕ). Refuses (refusal.TooMany n)) gives.0 }
comes_to wire replica (Refuses _) gives = absurd gives

-- a reply that is specified gives one thing
pub reply_once : (cursor : ℕ) (home : DiskView) (wire : Change WireView) → GivesOnce (reply cursor home wire)
reply_once cursor home wire reported replica one two gives others =
    let a = comes_to wire.old replica one gives in
    let b = comes_to wire.old replica two others in
    let same = reply_comes_once replica.hold replica.most replica.held reported.0 a.ops b.ops a.end b.end (by_bytes a.ops a.end a.came) (by_bytes b.ops b.end b.came) in
    a.finding_is ∙ (λ i. reply_finding replica (same.0 i) (same.1 i)) ∙ sym b.finding_is
  where
    by_bytes : (ops : List Op) (end : ReplyEnd) → AnswerComes replica wire.old ops end → ReplyComes replica.hold replica.most replica.held reported.0 ops end
    by_bytes ops end came = subst (λ o. IfSome o (λ bytes. ReplyComes replica.hold replica.most replica.held bytes ops end)) reported.1 came
