-- What was heard of a reply whose bytes are specified is what these bytes come to.
use Rattle.std.proofs.Common.{[], List, ap, append_assoc, arith, length, length-append, refl, subst, sym, take, ℕ, ◌+◌, ◌++◌, ◌-◌, ◌<◌, ◌≤◌, ◌∙◌, ◌∷◌, ◌≡◌, ◌⊎◌, inl, inr}
use Rattle.std.specs.Prelude.{All, Err, IfErr, IfOk, IfSome, None, Ok, Option, Result, Some}
use Rattle.std.proofs.lemmas.List.{append-nil, take_all, take_at}
use Rattle.fugue_ids.specs.declared.limits.TheConstants.{STREAM_LIMIT}
use Rattle.fugue_ids.specs.declared.op.Op.{Op}
use Rattle.origin_model.specs.declared.grammar.Grammar.TheVariants.{Version2}
use Rattle.origin_model.specs.frames.Frames.{Framed, IsFrame}
use Rattle.origin_model.specs.taking.Taking.{answer, held_from, kept_from, tally_from}
use Rattle.origin_model.proofs.SharedLemmas.{bytes_of, ops_of}
use Rattle.op_frame.proofs.FormatLemmas.{FallsShort, Reaches, two_fronts}
use Rattle.op_frame.proofs.SpecifiedLemmas.{shows, some_is, take_past}
use Rattle.outer_ports.specs.wire.Wires.{WireView}
use Rattle.replica_core.specs.Keeping.{TakesIn, OpsTaking}
use Rattle.origin_model.specs.edits.State.{State}
use Rattle.replica_core.proofs.KeepingLemmas.{same_taking}
use Rattle.relay_sync.specs.Outcomes.{AnswerIs, AnswersByReply, IsByReply, sync_answer, reply_end_of, BeginsBytes, EndsReply, HeardTo, HeardUpTo, HearsTo, IsNoMessage, ReplyEnd}
use Rattle.relay_sync.specs.Outcomes.{Ended, Refused as EndsRefused, Bad, Cut, TooLong as EndsTooLong, TooMany as EndsTooMany}
use Rattle.relay_sync.specs.Replies.{End, IsBroken, IsMessage, IsMessageFront, Message, Refusal}
use Rattle.relay_sync.specs.Syncing.{HearsPartly, HearsReply, ReplyStopsFor, TakesNotAll}
use Rattle.relay_sync.specs.declared.syncing.Synced.{Synced}
use Rattle.origin_model.specs.declared.taking.Tally.{Tally}
use Rattle.replica_core.specs.declared.keeping.FeedFault.TheVariants as feed_fault
use Rattle.relay_sync.specs.declared.syncing.SyncFault.{SyncFault}
use Rattle.relay_sync.specs.declared.syncing.SyncFault.TheVariants.{BadReply, CutShort, NoMemory, RelayRefused, TooLong, TooMany, WireFault}
use Rattle.relay_sync.proofs.OutcomeLemmas.{begins_no_front, by_reading, reply_comes_once}
use Rattle.relay_sync.proofs.SyncingLemmas.{takes-append}

-- bytes that broke off a message are none, however they go on
broken_is_none : (bytes behind : List ℕ) → IsBroken bytes → IsNoMessage (bytes ++ behind)
broken_is_none bytes behind b = record { none_begins = λ message p. by_fronts message p (two_fronts bytes behind p.whole p.behind p.split); no_front = no_front }
  where
    no_front : IsMessageFront (bytes ++ behind) → ⊥
    no_front f = b.no_front (record {
      message = f.message;
      whole = f.whole;
      is_message = f.is_message;
      more = behind ++ f.more;
      lacks = omega (arith, f.lacks, length-append behind f.more);
      front = f.front ∙ append_assoc bytes behind f.more;
    })

    -- a message that these bytes go past
    gone_past : (message : Message) (whole between : List ℕ) → IsMessage message whole → 0 < length between → bytes ≡ whole ++ between → ⊥
    gone_past message whole between is some split = by_fronts (two_fronts b.before (b.byte ∷ []) whole between same)
      where
        same : b.before ++ b.byte ∷ [] ≡ whole ++ between
        same = sym b.bytes_are ∙ split

        not_before : (more : List ℕ) → b.before ≡ whole ++ more → ⊥
        not_before more is_front = begins_no_front message b.before (record { whole = whole; is_message = is; behind = more; split = is_front }) b.was_front

        by_rest : (c : List ℕ) → whole ≡ b.before ++ c → ⊥
        by_rest [] all = not_before [] (sym (append-nil b.before) ∙ sym all ∙ sym (append-nil whole))
        by_rest (x ∷ c) all =
            omega (arith, some, ap length same, ap length all, length-append b.before (b.byte ∷ []), length-append whole between, length-append b.before (x ∷ c))

        by_fronts : Reaches b.before whole ⊎ FallsShort b.before whole → ⊥
        by_fronts (inl r) = by_rest r.between r.is
        by_fronts (inr f) = not_before f.between f.is

    reached : (message : Message) (whole c : List ℕ) → IsMessage message whole → whole ≡ bytes ++ c → ⊥
    reached message whole [] is all = b.no_message message (subst (IsMessage message) (all ∙ append-nil bytes) is)
    reached message whole (x ∷ c) is all = b.no_front (record { message = message; whole = whole; is_message = is; more = x ∷ c; lacks = omega arith; front = all })

    by_fronts : (message : Message) (p : BeginsBytes message (bytes ++ behind)) → Reaches bytes p.whole ⊎ FallsShort bytes p.whole → ⊥
    by_fronts message p (inl r) = reached message p.whole r.between p.is_message r.is
    by_fronts message p (inr f) = gone_past message p.whole f.between p.is_message f.some f.is

module _ (before middle after : OpsTaking) (found : List Framed) (are : All (IsFrame Version2) found) (takes : TakesIn before middle (ops_of found)) where
  abbrev heard : List ℕ
  heard = bytes_of found

  module _ (same : after ≡ middle) where
    -- an end after the frames
    comes_to : (bytes rest : List ℕ) (end : ReplyEnd) → take STREAM_LIMIT bytes ≡ heard ++ rest → EndsReply (length bytes) (length heard) rest end → HearsTo bytes before after end
    comes_to bytes rest end split ends = record {
      ops = ops_of found;
      comes = record {
        has_place = takes.has_place;
        ends = by_reading before.replica.hold before.replica.most before.replica.held bytes (ops_of found) end
            (record { found = found; are_frames = are; ops_are = refl; rest = rest; split = split; ends = ends });
      };
      takes = subst (λ (t : OpsTaking). TakesIn before t (ops_of found)) (sym same) takes;
    }

    comes_to_long : (bytes more front : List ℕ) (byte : ℕ) → bytes ≡ front ++ byte ∷ [] → IsMessageFront front → length heard + length front ≡ STREAM_LIMIT
        → HearsTo ((heard ++ bytes) ++ more) before after EndsTooLong
    comes_to_long bytes more front byte is partial full =
        let all : (heard ++ bytes) ++ more ≡ (heard ++ front) ++ byte ∷ more = ap (λ (l : List ℕ). (heard ++ l) ++ more) is ∙ regroup heard front byte more in
        let size : length (heard ++ front) ≡ STREAM_LIMIT = length-append heard front ∙ full in
        comes_to ((heard ++ bytes) ++ more) front EndsTooLong (ap (take STREAM_LIMIT) all ∙ take_at (heard ++ front) (byte ∷ more) STREAM_LIMIT size)
        (omega (arith, ap length all, size, length-append (heard ++ front) (byte ∷ more)), partial)
      where
        regroup : (a b : List ℕ) (x : ℕ) (c : List ℕ) → (a ++ (b ++ x ∷ [])) ++ c ≡ (a ++ b) ++ x ∷ c
        regroup a b x c = simp append_assoc

  module _ (bytes more : List ℕ) (within : length heard + length bytes ≤ STREAM_LIMIT) where
    -- the bytes with what stands after them up to the limit
    abbrev on : List ℕ
    on = take (STREAM_LIMIT - length (heard ++ bytes)) more

    split_on : take STREAM_LIMIT ((heard ++ bytes) ++ more) ≡ heard ++ (bytes ++ on)
    split_on =
        take_past (heard ++ bytes) more STREAM_LIMIT (length (heard ++ bytes)) refl (omega (arith, within, length-append heard bytes))
        ∙ append_assoc heard bytes on

    begins_on : (message : Message) → IsMessage message bytes → BeginsBytes message (bytes ++ on)
    begins_on message is = record { whole = bytes; is_message = is; behind = on; split = refl }

    pub comes_to_end : (same : after ≡ middle) (count : ℕ) → IsMessage (End count) bytes → HearsTo ((heard ++ bytes) ++ more) before after (Ended count)
    comes_to_end same count is = comes_to same ((heard ++ bytes) ++ more) (bytes ++ on) (Ended count) split_on (begins_on (End count) is)

    comes_to_refusal : (same : after ≡ middle) (code : ℕ) → IsMessage (Refusal code) bytes → HearsTo ((heard ++ bytes) ++ more) before after (EndsRefused code)
    comes_to_refusal same code is = comes_to same ((heard ++ bytes) ++ more) (bytes ++ on) (EndsRefused code) split_on (begins_on (Refusal code) is)

    comes_to_none : (same : after ≡ middle) (at : ℕ) → at ≡ length heard → IsBroken bytes → HearsTo ((heard ++ bytes) ++ more) before after (Bad at)
    comes_to_none same at is broken = comes_to same ((heard ++ bytes) ++ more) (bytes ++ on) (Bad at) split_on (is, broken_is_none bytes on broken)

    comes_to_cut : (same : after ≡ middle) (at : ℕ) → at ≡ length heard → IsMessageFront bytes → more ≡ [] → HearsTo ((heard ++ bytes) ++ more) before after (Cut at)
    comes_to_cut same at is front none =
        let size : length ((heard ++ bytes) ++ more) ≤ STREAM_LIMIT = omega (arith, within, ap length none, length-append (heard ++ bytes) more, length-append heard bytes) in
        let all : (heard ++ bytes) ++ more ≡ heard ++ bytes = ap (λ (l : List ℕ). (heard ++ bytes) ++ l) none ∙ append-nil (heard ++ bytes) in
        comes_to same ((heard ++ bytes) ++ more) bytes (Cut at) (take_all STREAM_LIMIT ((heard ++ bytes) ++ more) size ∙ all) (is, size, front)

    -- the operations of the frame after them were taken in up to one that is one too many
    comes_to_many : (most : ℕ) → TakesNotAll (feed_fault.TooMany most) middle after bytes → HearsTo ((heard ++ bytes) ++ more) before after EndsTooMany
    comes_to_many most met =
        let last = met.1 in
        let taken : TakesIn before after (ops_of found ++ last.front) = takes-append before middle after (ops_of found) last.front takes last.takes in
        record {
          ops = ops_of found ++ last.front;
          comes = record {
            has_place = taken.has_place;
            ends = record {
              earlier = ops_of found;
              rest = bytes ++ on;
              starts = record { found = found; are_frames = are; ops_are = refl; split = split_on };
              framed = record { bytes = bytes; ops = last.front ++ met.0 ∷ last.more };
              behind = on;
              begins = record { is_frame = last.is_message; split = refl };
              front = last.front;
              op = met.0;
              more = last.more;
              brings = refl;
              taken = refl;
              refused = ap (λ (s : State). answer s.hold s.most s.held met.0) (sym taken.replica) ∙ met.3;
            };
          };
          takes = taken;
        }

pub reply_heard : (old new : WireView) (before after : OpsTaking) (count : ℕ) → HearsReply old new before after count → HeardTo old.left before after (Ended count)
reply_heard old new before after count h =
    shows (λ (bytes : List ℕ). HearsTo bytes before after (Ended count)) (bytes_of h.found ++ h.last) new.left old.left h.hears.heard
    (λ more is. comes_to_end before after after h.found h.are_frames h.takes h.last more (omega (arith, h.within, length-append (bytes_of h.found) h.last)) refl count h.ends)

pub reply_up_to : (fault : SyncFault) (old new : WireView) (before after : OpsTaking) → HearsPartly fault old new before after → HeardUpTo fault old.left before after
reply_up_to fault old new before after h = by_fault fault h.stops
  where
    specified : (end : ReplyEnd) → ((more : List ℕ) → new.left ≡ Some more → HearsTo ((bytes_of h.found ++ h.bytes) ++ more) before after end) → HeardTo old.left before after end
    specified end comes = shows (λ (bytes : List ℕ). HearsTo bytes before after end) (bytes_of h.found ++ h.bytes) new.left old.left h.hears.heard comes

    by_fault : (fault : SyncFault) → ReplyStopsFor fault old new h.middle after (length (bytes_of h.found)) h.bytes → HeardUpTo fault old.left before after
    by_fault WireFault s = tt
    by_fault NoMemory s = tt
    by_fault (RelayRefused code) s =
        specified (EndsRefused code) (λ more is. comes_to_refusal before h.middle after h.found h.are_frames h.takes h.bytes more s.2 s.0 code s.1)
    by_fault (TooMany most) s =
        specified EndsTooMany (λ more is. comes_to_many before h.middle after h.found h.are_frames h.takes h.bytes more s.1 most s.0)
    by_fault (BadReply at) s =
        specified (Bad at) (λ more is. comes_to_none before h.middle after h.found h.are_frames h.takes h.bytes more s.1.2 s.0 at s.1.0 s.1.1)
    by_fault (CutShort at) s = specified (Cut at) (λ more is.
        comes_to_cut before h.middle after h.found h.are_frames h.takes h.bytes more s.1.3 s.0 at s.1.0 s.1.1 (some_is (λ (l : List ℕ). l ≡ []) new.left more s.1.2 is))
    by_fault TooLong s =
        specified EndsTooLong (λ more is. comes_to_long before h.middle after h.found h.are_frames h.takes s.0 h.bytes more s.1.0 s.1.1 s.1.2 s.1.3 s.1.4)

pub reply_same : (bytes : List ℕ) (before after others : OpsTaking) (end other : ReplyEnd) → HearsTo bytes before after end → HearsTo bytes before others other
    → (after ≡ others) × (end ≡ other)
reply_same bytes before after others end other p q =
    let s : State = before.replica in
    let same = reply_comes_once s.hold s.most s.held bytes p.ops q.ops end other p.comes q.comes in (
      same_taking after others (p.takes.replica ∙ ap (λ (x : List Op). record s { held = held_from s.hold s.most s.held x }) same.0 ∙ sym q.takes.replica)
          (p.takes.counts ∙ ap (λ (x : List Op). tally_from s.hold s.most s.held x before.counts) same.0 ∙ sym q.takes.counts)
          (p.takes.kept ∙ ap (λ (x : List Op). before.kept ++ kept_from s.hold s.most s.held x) same.0 ∙ sym q.takes.kept),
      same.1,
    )

-- the same after what was said
pub heard_after : (said old new : WireView) (before after : OpsTaking) (count : ℕ) → old.left ≡ said.left → HearsReply old new before after count
    → HeardTo said.left before after (Ended count)
heard_after said old new before after count same h =
    subst (λ (specified : Option (List ℕ)). HeardTo specified before after (Ended count)) same (reply_heard old new before after count h)

pub up_to_after : (fault : SyncFault) (said old new : WireView) (before after : OpsTaking) → old.left ≡ said.left → HearsPartly fault old new before after
    → HeardUpTo fault said.left before after
up_to_after fault said old new before after same h =
    subst (λ (specified : Option (List ℕ)). HeardUpTo fault specified before after) same (reply_up_to fault old new before after h)

-- an answer that the bytes tell comes exactly where they do
reported_exactly : (before : OpsTaking) (bytes : List ℕ) (result : Result Synced SyncFault) → AnswerIs before bytes result → AnswersByReply result before bytes
reported_exactly before bytes result p by answer is = (
  λ same. subst (AnswerIs before bytes) same p,
  λ q.
      let same = reply_same bytes before p.after q.after p.end q.end p.comes q.comes in
      p.answer_is ∙ (λ i. sync_answer (same.0 i) (same.1 i)) ∙ sym q.answer_is,
)

-- where the bytes decide nothing
pub undecided_exactly : (fault : SyncFault) (before : OpsTaking) (specified : Option (List ℕ)) → (IsByReply (Err fault) → ⊥) → IfSome specified (AnswersByReply (Err fault) before)
undecided_exactly fault before None none = tt
undecided_exactly fault before (Some bytes) none = λ by. absurd (none by)

same_end : {x y : ReplyEnd} → Some x ≡ Some y → x ≡ y
same_end e = cc e

-- the answer to what was heard up to a fault
fault_is : (fault : SyncFault) (end : ReplyEnd) (old new : WireView) (middle after : OpsTaking) (place : ℕ) (bytes : List ℕ) → reply_end_of fault ≡ Some end
    → ReplyStopsFor fault old new middle after place bytes → Err fault ≡ sync_answer after end
fault_is WireFault end old new middle after place bytes is s = absurd (cc is)
fault_is NoMemory end old new middle after place bytes is s = absurd (cc is)
fault_is (RelayRefused code) end old new middle after place bytes is s = ap (sync_answer after) (same_end is)
fault_is (TooMany most) end old new middle after place bytes is s = ap (λ (n : ℕ). Err (TooMany n)) s.0.2 ∙ ap (sync_answer after) (same_end is)
fault_is (BadReply at) end old new middle after place bytes is s = ap (sync_answer after) (same_end is)
fault_is (CutShort at) end old new middle after place bytes is s = ap (sync_answer after) (same_end is)
fault_is TooLong end old new middle after place bytes is s = ap (sync_answer after) (same_end is)

heard_exactly : (specified : Option (List ℕ)) (before after : OpsTaking) (count : ℕ) → HeardTo specified before after (Ended count)
    → IfSome specified (AnswersByReply (Ok (record { tally = after.counts; cursor = count })) before)
heard_exactly None before after count h = tt
heard_exactly (Some bytes) before after count h =
    reported_exactly before bytes (Ok (record { tally = after.counts; cursor = count })) (record { after = after; end = Ended count; comes = h; answer_is = refl })

up_to_exactly : (specified : Option (List ℕ)) (fault : SyncFault) (before after : OpsTaking) → HeardUpTo fault specified before after
    → ((end : ReplyEnd) → reply_end_of fault ≡ Some end → Err fault ≡ sync_answer after end)
    → (reply_end_of fault ≡ None → IsByReply (Err fault) → ⊥) → IfSome specified (AnswersByReply (Err fault) before)
up_to_exactly specified fault before after h is none = by (reply_end_of fault) refl h
  where
    reported_end : (specified : Option (List ℕ)) (end : ReplyEnd) → reply_end_of fault ≡ Some end → HeardTo specified before after end
        → IfSome specified (AnswersByReply (Err fault) before)
    reported_end None end so h = tt
    reported_end (Some bytes) end so h = reported_exactly before bytes (Err fault) (record { after = after; end = end; comes = h; answer_is = is end so })

    by : (end : Option ReplyEnd) → reply_end_of fault ≡ end → IfSome end (HeardTo specified before after) → IfSome specified (AnswersByReply (Err fault) before)
    by None so h = undecided_exactly fault before specified (none so)
    by (Some end) so h = reported_end specified end so h

decides : (fault : SyncFault) → reply_end_of fault ≡ None → IsByReply (Err fault) → ⊥
decides WireFault is by = by
decides NoMemory is by = by
decides (RelayRefused code) is by = cc is
decides (TooMany most) is by = cc is
decides (BadReply at) is by = cc is
decides (CutShort at) is by = cc is
decides TooLong is by = cc is

-- what was heard is answered exactly so
pub hears_exactly : (result : Result Synced SyncFault) (said old new : WireView) (before : OpsTaking) (replica : State) (kept : List Op) → old.left ≡ said.left
    → IfOk result (λ synced. HearsReply old new before (record { replica = replica; counts = synced.tally; kept = kept }) synced.cursor)
    → IfErr result (λ fault. (counts : Tally) × HearsPartly fault old new before (record { replica = replica; counts = counts; kept = kept }))
    → IfSome said.left (AnswersByReply result before)
hears_exactly (Ok synced) said old new before replica kept same ok err =
    heard_exactly said.left before (record { replica = replica; counts = synced.tally; kept = kept }) synced.cursor
    (heard_after said old new before (record { replica = replica; counts = synced.tally; kept = kept }) synced.cursor same ok)
hears_exactly (Err fault) said old new before replica kept same ok err =
    let after : OpsTaking = record { replica = replica; counts = err.0; kept = kept } in
    let h : HearsPartly fault old new before after = err.1 in
    up_to_exactly said.left fault before after (up_to_after fault said old new before after same h)
    (λ end is. fault_is fault end old new h.middle after (length (bytes_of h.found)) h.bytes is h.stops) (decides fault)
