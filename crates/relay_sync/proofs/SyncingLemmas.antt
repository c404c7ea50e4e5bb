-- A reply on its way: what one message more makes of it.
use Rattle.std.proofs.Common.{[], List, ap, append_assoc, arith, inl, inr, length, length-append, refl, subst, sym, ℕ, ◌+◌, ◌*◌, ◌++◌, ◌≤◌, ◌∙◌, ◌∷◌, ◌≡◌}
use Rattle.std.specs.Prelude.{All, Err, Result, Option, Some, None}
use Rattle.std.proofs.lemmas.Grind.{flat_map-append}
use Rattle.std.proofs.lemmas.List.{append-nil}
use Rattle.std.proofs.lemmas.List.Elements.{All-push}
use Rattle.fugue_ids.specs.declared.limits.TheConstants.{GREATEST_HOLD, STREAM_LIMIT}
use Rattle.fugue_ids.specs.declared.op.Op.{Op}
use Rattle.fugue_ids.proofs.JoinLemmas.{took_none}
use Rattle.origin_model.specs.declared.grammar.Grammar.TheVariants.{Version2}
use Rattle.origin_model.specs.declared.taking.Tally.{Tally}
use Rattle.origin_model.specs.frames.Frames.{Framed, IsFrame, Item, Single, Typed, IsItem, item_ops}
use Rattle.origin_model.specs.taking.Taking.{Held, IsSettled, held_from, kept_from, tally_from}
use Rattle.origin_model.proofs.SharedLemmas.{bytes_of, frame_wide, held-append, kept-append, ops_of, places-append, tally-append}
use Rattle.outer_ports.specs.wire.Wires.{WireView, out_of}
use Rattle.replica_core.specs.Keeping.{LeavesUnkept, TakesIn, OpsTaking}
use Rattle.replica_core.specs.Answering.{StaysBelow}
use Rattle.replica_core.specs.declared.keeping.FeedFault.{FeedFault}
use Rattle.replica_core.specs.declared.keeping.FeedFault.TheVariants as feed_fault
use Rattle.replica_core.proofs.KeepingLemmas.{same_taking, takes_none}
use Rattle.relay_sync.specs.Replies.{End, HeardBytes, IsMessage, Message, Operations, StopsHearing, StopsIn, Whole, WholeFrame}
use Rattle.relay_sync.specs.FeedFaults.{fault_of}
use Rattle.relay_sync.specs.Saying.{SaysTo, request_for}
use Rattle.relay_sync.specs.Syncing.{FailsToAsk, HearsOne, HearsPartly, HearsReply, StopsHearingAt, ReplyStopsFor, TakesInFrame, TakesNotAll, HearsMessage, count_so_far}
use Rattle.relay_sync.specs.declared.syncing.SyncFault.{SyncFault}
use Rattle.relay_sync.specs.declared.syncing.SyncFault.TheVariants.{BadReply, CutShort, NoMemory, RelayRefused, TooLong, TooMany, WireFault}
use Rattle.relay_sync.proofs.HearingLemmas.{hears-append, stops_behind, stops_in}

-- operations after others
pub takes-append : (start now next : OpsTaking) (a b : List Op) → TakesIn start now a → TakesIn now next b → TakesIn start next (a ++ b)
takes-append start now next a b s t =
    let hold : ℕ = start.replica.hold in
    let most : ℕ = start.replica.most in
    let held : Held = held_from hold most start.replica.held a in
    let reached : OpsTaking = record { replica = record start.replica { held = held }; counts = now.counts; kept = now.kept } in
    let t : TakesIn reached next b = subst (λ (r : OpsTaking). TakesIn r next b) (same_taking now reached s.replica refl refl) t in
    record {
      has_place = places-append hold most start.replica.held a b s.has_place t.has_place;
      replica = t.replica ∙ ap (λ (h : Held). record start.replica { held = h }) (held-append hold most start.replica.held a b);
      counts = t.counts ∙ ap (λ (c : Tally). tally_from hold most held b c) s.counts ∙ tally-append hold most start.replica.held a b start.counts;
      kept = t.kept ∙ ap (λ (k : List Op). k ++ kept_from hold most held b) s.kept ∙ append_assoc start.kept (kept_from hold most start.replica.held a) (kept_from hold most held b)
          ∙ ap (λ (k : List Op). start.kept ++ k) (kept-append hold most start.replica.held a b);
    }

-- frames were heard, and their operations were taken in
pub record Goes (old new : WireView) (start now : OpsTaking) (heard : ℕ) : Type 0 where
  pub found : List Framed
  pub are_frames : All (IsFrame Version2) found
  pub hears : HeardBytes old new (bytes_of found)
  pub takes : TakesIn start now (ops_of found)
  pub count : heard ≡ length (bytes_of found)
  pub within : heard ≤ STREAM_LIMIT

module _ (u v w : WireView) (start now next : OpsTaking) (heard : ℕ) (goes : Goes u v start now heard) where
  -- one frame more
  pub goes_on : (last : ℕ) → HearsMessage v w now next heard last → Goes u w start next last
  goes_on last one =
      let found : List Framed = goes.found in
      let framed : Framed = record { bytes = one.hears.bytes; ops = one.ops } in
      let bytes : bytes_of (found ++ framed ∷ []) ≡ bytes_of found ++ one.hears.bytes =
      flat_map-append (λ (f : Framed). f.bytes) found (framed ∷ []) ∙ ap (λ (b : List ℕ). bytes_of found ++ b) (append-nil one.hears.bytes) in
      let ops : ops_of (found ++ framed ∷ []) ≡ ops_of found ++ one.ops =
      flat_map-append (λ (f : Framed). f.ops) found (framed ∷ []) ∙ ap (λ (b : List Op). ops_of found ++ b) (append-nil one.ops) in
      record {
        found = found ++ framed ∷ [];
        are_frames = All-push (IsFrame Version2) found framed goes.are_frames one.hears.is_message;
        hears = subst (HeardBytes u w) (sym bytes) (hears-append u v w (bytes_of found) one.hears.bytes goes.hears one.hears.hears);
        takes = subst (TakesIn start next) (sym ops) (takes-append start now next (ops_of found) one.ops goes.takes one.takes);
        count = omega (arith, one.hears.count, goes.count, ap length bytes, length-append (bytes_of found) one.hears.bytes);
        within = one.hears.within;
      }

  -- the end of the reply
  pub goes_to_end : (last count : ℕ) → Whole (End count) v w heard last [] → next ≡ now → HearsReply u w start next count
  goes_to_end last count whole same = record {
    found = goes.found;
    are_frames = goes.are_frames;
    last = whole.bytes;
    ends = whole.is_message;
    hears = hears-append u v w (bytes_of goes.found) whole.bytes goes.hears whole.hears;
    within = omega (arith, whole.count, whole.within, goes.count, length-append (bytes_of goes.found) whole.bytes);
    takes = subst (λ (t : OpsTaking). TakesIn start t (ops_of goes.found)) (sym same) goes.takes;
  }

  -- a fault
  stops_for : (fault : SyncFault) (bytes : List ℕ) → ReplyStopsFor fault v w now next heard bytes → ReplyStopsFor fault u w now next heard bytes
  stops_for WireFault bytes s = (s.0, stops_in WireFault u v w heard bytes goes.hears.later goes.hears.room s.1)
  stops_for (BadReply at) bytes s = s
  stops_for (CutShort at) bytes s = s
  stops_for TooLong bytes s = s
  stops_for NoMemory bytes s = s
  stops_for (RelayRefused code) bytes s = s
  stops_for (TooMany most) bytes s = s

  pub goes_to_fault : (fault : SyncFault) → StopsHearingAt fault v w now next heard → HearsPartly fault u w start next
  goes_to_fault fault stops = record {
    found = goes.found;
    are_frames = goes.are_frames;
    bytes = stops.bytes;
    hears = hears-append u v w (bytes_of goes.found) stops.bytes goes.hears stops.hears;
    middle = now;
    takes = goes.takes;
    stops = subst (λ (n : ℕ). ReplyStopsFor fault u w now next n stops.bytes) goes.count (stops_for fault stops.bytes stops.stops);
  }

-- what a message is, by the answer that says so
pub is_end : (answer : Option ℕ) (u v : WireView) (before after : OpsTaking) (place heard count : ℕ) → answer ≡ Some count → HearsOne u v before after place heard answer
    → Whole (End count) u v place heard [] × (after ≡ before)
is_end answer u v before after place heard count is one = subst (HearsOne u v before after place heard) is one

pub is_more : (answer : Option ℕ) (u v : WireView) (before after : OpsTaking) (place heard : ℕ) → ((count : ℕ) → answer ≡ Some count → ⊥)
    → HearsOne u v before after place heard answer
    → HearsMessage u v before after place heard
is_more None u v before after place heard none one = one
is_more (Some count) u v before after place heard none one = absurd (none count refl)

-- the rest of a message after its first byte
pub whole_first : (message : Message) (u v w : WireView) (first byte place heard : ℕ) → HeardBytes u v (first ∷ []) → first ≡ byte → Whole message v w place heard (byte ∷ [])
    → Whole message u w place heard []
whole_first message u v w first byte place heard h is whole = record {
  bytes = byte ∷ whole.bytes;
  hears = hears-append u v w (byte ∷ []) whole.bytes (subst (λ (b : ℕ). HeardBytes u v (b ∷ [])) is h) whole.hears;
  is_message = whole.is_message;
  count = whole.count;
  within = whole.within;
}

pub frame_first : (frame : List ℕ) (u v w : WireView) (first place heard : ℕ) → HeardBytes u v (first ∷ []) → WholeFrame frame v w place heard (first ∷ [])
    → WholeFrame frame u w place heard []
frame_first frame u v w first place heard h whole = record {
  is_frame = whole.is_frame;
  bytes = first ∷ whole.bytes;
  hears = hears-append u v w (first ∷ []) whole.bytes h whole.hears;
  split = whole.split;
  count = whole.count;
  within = whole.within;
}

-- a fault of hearing
pub stops_at : (fault : SyncFault) (u v : WireView) (now : OpsTaking) (place : ℕ) → StopsHearing fault u v place [] → StopsHearingAt fault u v now now place
stops_at fault u v now place s = record { bytes = s.bytes; hears = s.hears; stops = by_fault fault s.stops }
  where
    by_fault : (fault : SyncFault) → StopsIn fault u v place s.bytes → ReplyStopsFor fault u v now now place s.bytes
    by_fault WireFault p = (refl, p)
    by_fault (BadReply at) p = (refl, p)
    by_fault (CutShort at) p = (refl, p)
    by_fault TooLong p = (refl, p)
    by_fault NoMemory p = absurd p
    by_fault (RelayRefused code) p = absurd p
    by_fault (TooMany most) p = absurd p

pub stops_first : (fault : SyncFault) (u v w : WireView) (now : OpsTaking) (first byte place : ℕ) → HeardBytes u v (first ∷ []) → first ≡ byte
    → StopsHearing fault v w place (byte ∷ []) → StopsHearingAt fault u w now now place
stops_first fault u v w now first byte place h is s =
    stops_at fault u w now place (stops_behind fault u v w place [] (byte ∷ []) (subst (λ (b : ℕ). HeardBytes u v (b ∷ [])) is h) s)

-- a frame that was heard whose operations were not all taken in
pub feed_fails : (frame taken : List ℕ) (u v : WireView) (before after : OpsTaking) (place heard : ℕ) (fault : FeedFault) → WholeFrame frame u v place heard [] → taken ≡ frame
    → TakesNotAll fault before after taken → StopsHearingAt (fault_of fault) u v before after place
feed_fails frame taken u v before after place heard fault whole same t =
    record { bytes = whole.bytes; hears = whole.hears; stops = by_fault fault (subst (TakesNotAll fault before after) (same ∙ whole.split) t) }
  where
    within : place + length whole.bytes ≤ STREAM_LIMIT
    within = omega (arith, whole.within, whole.count, ap length whole.split)

    by_fault : (fault : FeedFault) → TakesNotAll fault before after whole.bytes → ReplyStopsFor (fault_of fault) u v before after place whole.bytes
    by_fault (feed_fault.TooMany most) t = (t, within)
    by_fault feed_fault.NoMemory t = (t, within)

-- each frame has an operation
first_op : (item : Item) → IsItem Version2 item → (op : Op) × (more : List Op) × (item_ops item ≡ op ∷ more)
first_op (Single op) is = (op, [], refl)
first_op (Typed run) is = by_text run.text is.text.some
  where
    by_text : (text : List ℕ) → 2 ≤ length text → (op : Op) × (more : List Op) × (item_ops (Typed (record run { text = text })) ≡ op ∷ more)
    by_text [] some = absurd (omega (arith, some))
    by_text (ch ∷ text) some = (_, _, refl)

-- none of the frame's operations was taken in for lack of memory
pub none_taken : (start : OpsTaking) (frame : List ℕ) (ops : List Op) → IsMessage (Operations ops) frame → TakesNotAll feed_fault.NoMemory start start frame
none_taken start frame ops is =
    let first = first_op is.item is.is_item in (
      first.0,
      start,
      record {
        front = [];
        more = first.1;
        is_message = subst (λ (o : List Op). IsMessage (Operations o) frame) (is.ops_are ∙ first.2) is;
        takes = takes_none start;
      },
      inl refl,
    )

-- operations of a frame were taken in: few were counted until then
module _ (start now : OpsTaking) (frame : List ℕ) (given rest : List Op) (is : IsMessage (Operations (given ++ rest)) frame)
    (count : count_so_far now ≡ count_so_far start + length given) where
  few_given : 2 * count_so_far now ≤ 2 * count_so_far start + length frame
  few_given = omega (arith, count, frame_wide Version2 (record { bytes = frame; ops = given ++ rest }) is, length-append given rest)

  pub stays_below : 2 * count_so_far start + length frame ≤ STREAM_LIMIT + 2 * GREATEST_HOLD → StaysBelow now.counts
  stays_below few = record {
    accepted = omega (arith, few_given, few);
    repeated = omega (arith, few_given, few);
    conflict = omega (arith, few_given, few);
    stray = omega (arith, few_given, few);
    full = omega (arith, few_given, few);
  }

  -- they were all of it
  pub all_taken : rest ≡ [] → TakesIn start now given → IsSettled now.replica.held → TakesInFrame start now frame
  all_taken none takes settled = record {
    ops = given;
    is_message = subst (λ (o : List Op). IsMessage (Operations o) frame) (ap (λ (o : List Op). given ++ o) none ∙ append-nil given) is;
    takes = takes;
    settled = settled;
    few = few_given;
  }

-- one more
pub given_more : (frame : List ℕ) (given rest more : List Op) (op : Op) → IsMessage (Operations (given ++ rest)) frame → rest ≡ op ∷ more
    → IsMessage (Operations ((given ++ op ∷ []) ++ more)) frame
given_more frame given rest more op is first =
    subst (λ (o : List Op). IsMessage (Operations o) frame) (ap (λ (o : List Op). given ++ o) first ∙ sym (append_assoc given (op ∷ []) more)) is

-- or those before one were
pub stops_before : (start now next : OpsTaking) (frame : List ℕ) (given more : List Op) (op : Op) (fault : FeedFault) → IsMessage (Operations (given ++ op ∷ more)) frame
    → TakesIn start now given
    → LeavesUnkept now.replica next.replica op now.counts next.counts fault → next.kept ≡ now.kept → TakesNotAll fault start next frame
stops_before start now next frame given more op (feed_fault.TooMany most) is takes left kept =
    let same : next ≡ now = same_taking next now left.2 left.3 kept in
    subst (λ (t : OpsTaking). TakesNotAll (feed_fault.TooMany most) start t frame) (sym same)
    (op, record { front = given; more = more; is_message = is; takes = takes }, left.0, left.1)
stops_before start now next frame given more op feed_fault.NoMemory is takes left kept = (
  op,
  now,
  record { front = given; more = more; is_message = is; takes = takes },
  elim left.1 [
    | inl none ↦ inl (same_taking next now none.0 none.1 kept)
    | inr partly ↦ inr (record { replica = left.0; partly = partly; kept = kept })
  ],
)

-- nothing was said for lack of memory
pub fails_at_once : (wire : WireView) (start : OpsTaking) (port cursor : ℕ) → FailsToAsk NoMemory wire wire start start port cursor
fails_at_once wire start port cursor = record {
  said = record { count = 0; within = omega arith; took = took_none (out_of wire) (out_of wire) refl refl };
  no_other = inr (refl, refl);
  left = refl;
  cause = refl;
  same = refl;
}

-- or not all of it was
pub fails_to_say : {E T : Type 0} (result : Result T E) (e : E) (u v : WireView) (start : OpsTaking) (port cursor : ℕ) (text : List ℕ) → result ≡ Err e
    → text ≡ request_for cursor start.replica.held
    → SaysTo u v result port text → FailsToAsk WireFault u v start start port cursor
fails_to_say {E} {T} result e u v start port cursor text is text_is says =
    let said : SaysTo u v (Err e) port (request_for cursor start.replica.held) =
    subst (SaysTo u v (Err e) port) text_is (subst (λ (r : Result T E). SaysTo u v r port text) is says) in
    record { said = said.writes.err; no_other = said.no_other; left = said.left; cause = said.writes.cause.failed; same = refl }
