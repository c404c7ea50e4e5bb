-- A replica reads what any relay replies, and a relay answers what any replica sends.
use Rattle.std.proofs.Common.{Bool, List, [], ap, append-nil, append_assoc, arith, drop, false, inl, inr, length, length-append, nat_lt, refl, subst, sym, take, true, ℕ, ◌++◌, ◌<◌}
use Rattle.std.proofs.Common.{◌^◌, ◌∙◌, ◌∷◌, ◌≡◌, ◌≤◌, ◌⊎◌}
use Rattle.std.specs.Prelude.{All, flat_map, if◌then◌else◌, ◌*◌}
use Rattle.std.specs.Int.{to_be_bytes, w32}
use Rattle.std.proofs.lemmas.Bool.{cases_lt, le-ltb, lt-ltb}
use Rattle.std.proofs.lemmas.Grind.{flat_map-append}
use Rattle.std.proofs.lemmas.List.{drop-map, length-map, take-append-drop, take_all}
use Rattle.std.proofs.lemmas.List.Elements.{All-append, All-head, All-tail}
use Rattle.std.proofs.lemmas.List.Folds.{flat_map-map}
use Rattle.std.proofs.lemmas.Nat.{from_be_bytes-to_be_bytes_4}
use Rattle.fugue_ids.specs.declared.limits.TheConstants.{STREAM_LIMIT}
use Rattle.fugue_ids.specs.declared.op.Op.{Op}
use Rattle.fugue_ids.specs.declared.op.Op.TheVariants.{Delete, Note, Section, Text}
use Rattle.fugue_ids.proofs.ListLemmas.{all_before, all_after}
use Rattle.origin_model.specs.declared.grammar.Grammar.TheVariants.{Version2}
use Rattle.origin_model.specs.frames.Frames.{Framed, HasFrame, IsFrame, Reads, Whole, frame, single_frames}
use Rattle.origin_model.specs.frames.Framings.{IsWritten, frames}
use Rattle.origin_model.specs.operations.History.{accepted}
use Rattle.origin_model.specs.relay.Session.{Closes, Goes, Taken, TakesAll, at_cursor, closing, is_logged, log_joined, refusal_message, reply_from, session_goes_on}
use Rattle.origin_model.specs.relay.Session.{session_refused, unread}
use Rattle.origin_model.proofs.SharedLemmas.{all_once, bytes_of, closed_takes, closing_takes, frame_takes, hello, hello_takes, ops_of, origin_short, partly, singles_read}
use Rattle.origin_model.proofs.SharedLemmas.{takes-append, written}
use Rattle.origin_model.specs.taking.Taking.{Held}
use Rattle.op_frame.proofs.ReadingLemmas.{frames_once}
use Rattle.relay_core.specs.OpLogs.{IsLogOf}
use Rattle.relay_core.specs.Texts.{log_with_ops}
use Rattle.relay_core.specs.declared.relay.TheConstants.{MOST_LOGGED}
use Rattle.relay_core.proofs.JoiningLemmas.{IsRefused, all_join, all_or_refused, one_too_many, with_ops-append}
use Rattle.relay_core.proofs.OpLogLemmas.{logs_are_of_operations}
use Rattle.relay_sync.specs.Outcomes.{Ended, ReadsReply}
use Rattle.relay_sync.specs.Saying.{request_for}
use Rattle.relay_sync.specs.TwoEnds.{IsBeyond, IsFull, IsReplied, RepliesAreRead, RequestsAreAnswered, sent_ops}
use Rattle.op_frame.proofs.FieldLemmas.{length-identifiers}

-- the longest frame of one operation is that of a note with the most names and the longest body
frame_short : (op : Op) → HasFrame op → length (frame op) ≤ 1061
frame_short (Section i l r t) has = simp length-append (omega (arith, origin_short l, origin_short r, has.3.text.short))
frame_short (Text i s l r c) has = simp length-append (omega (arith, origin_short l, origin_short r))
frame_short (Delete i) has = omega arith
frame_short (Note i ns c b) has = simp length-append (omega (arith, length-identifiers ns, has.1.few, has.3.short))

frames_short : (ops : List Op) → All HasFrame ops → length (single_frames ops) ≤ 1061 * length ops
frames_short [] have = omega arith
frames_short (op ∷ ops) have =
    omega (arith, length-append (frame op) (single_frames ops), frame_short op (All-head HasFrame op ops have), frames_short ops (All-tail HasFrame op ops have))

-- a reply from a cursor of the log reads as the operations from there on
pub reply_reads : (log : List (List ℕ)) (ops : List Op) (cursor : ℕ) → IsLogOf log ops → length log ≤ MOST_LOGGED
    → ReadsReply (reply_from log cursor) (drop cursor ops) (Ended (length log))
reply_reads log ops cursor is few =
    let own : List (List ℕ) → List ℕ = flat_map (λ f. f) in
    let some : List Op = drop cursor ops in
    let have : All HasFrame some = all_after HasFrame (take cursor ops) some (subst (All HasFrame) (sym (take-append-drop cursor ops)) is.have_frames) in
    let r : Reads Version2 (single_frames some) some Whole = singles_read Version2 some have in
    let same : own (drop cursor log) ≡ single_frames some =
    ap (λ l. own (drop cursor l)) is.frames_are ∙ ap own (drop-map frame cursor ops) ∙ flat_map-map (λ (f : List ℕ). f) frame some in
    let end : List ℕ = 0x55 ∷ to_be_bytes w32 (length log) in
    let bytes_are : reply_from log cursor ≡ bytes_of r.found ++ end =
    ap (λ l. l ++ end) (same ∙ r.split ∙ ap (λ l. bytes_of r.found ++ l) r.ends ∙ append-nil (bytes_of r.found)) in
    let many : length ops ≡ length log = sym (length-map ops frame) ∙ ap length (sym is.frames_are) in
    let fewer : length some ≤ length ops = omega (arith, ap length (take-append-drop cursor ops), length-append (take cursor ops) some) in
    let most : MOST_LOGGED ≡ 1048576 = refl in
    let limit : STREAM_LIMIT ≡ 2147483648 = refl in
    let short : length (reply_from log cursor) ≤ STREAM_LIMIT =
    omega (arith, length-append (own (drop cursor log)) end, ap length same, frames_short some have, fewer, many, few, most, limit) in
    record {
      found = r.found;
      are_frames = r.are_frames;
      ops_are = r.ops_are;
      rest = end;
      split = take_all STREAM_LIMIT (reply_from log cursor) short ∙ bytes_are;
      ends = record {
        whole = end;
        is_message = (to_be_bytes w32 (length log), refl, sym (from_be_bytes-to_be_bytes_4 (length log) (omega (arith, few, most))), refl);
        behind = [];
        split = sym (append-nil end);
      };
    }

-- so it is of each log that events lead to
pub replies_are_read : RepliesAreRead
replies_are_read limit events relay small state =
    let l = logs_are_of_operations limit events relay state in
    record { ops = l.0.0; is_log = l.0.1; reads = λ cursor within. reply_reads relay.log l.0.0 cursor l.0.1 (omega (arith, l.1, small)) }

-- a log with operations, and the session closed since one found it full
abbrev refused_after : List (List ℕ) → Taken
refused_after log = session_refused log 2

-- what whole frames after a whole message come to: all of their operations join, or one finds the log full
abbrev FramesCome : (limit cursor : ℕ) → (log : List (List ℕ)) → (ops : List Op) → (after : Taken) → Type 0
FramesCome limit cursor log ops after =
    ((length (log_with_ops log ops) ≤ limit) × (after ≡ partly (log_with_ops log ops) cursor []))
    ⊎ ((r : IsRefused limit log ops) × (after ≡ refused_after (log_with_ops log r.before)))

-- the same with operations that joined before
come_later : (limit cursor : ℕ) (log : List (List ℕ)) (xs ys : List Op) (after : Taken) → FramesCome limit cursor (log_with_ops log xs) ys after
    → FramesCome limit cursor log (xs ++ ys) after
come_later limit cursor log xs ys after (inl f) =
    let joins : log_with_ops log (xs ++ ys) ≡ log_with_ops (log_with_ops log xs) ys = with_ops-append xs ys log in
    inl (subst (λ l. length l ≤ limit) (sym joins) f.0, f.1 ∙ ap (λ l. partly l cursor []) (sym joins))
come_later limit cursor log xs ys after (inr f) =
    let r : IsRefused limit (log_with_ops log xs) ys = f.0 in
    let joins : log_with_ops log (xs ++ r.before) ≡ log_with_ops (log_with_ops log xs) r.before = with_ops-append xs r.before log in
    inr (
      record {
        before = xs ++ r.before;
        op = r.op;
        later = r.later;
        split = ap (λ (l : List Op). xs ++ l) r.split ∙ sym (append_assoc xs r.before (r.op ∷ r.later));
        lacks = ap (λ l. is_logged l (frame r.op)) joins ∙ r.lacks;
        full = ap length joins ∙ r.full;
      },
      f.1 ∙ ap refused_after (sym joins),
    )

frames_come : (limit cursor : ℕ) (found : List Framed) (log : List (List ℕ)) → All (IsFrame Version2) found → length log ≤ limit
    → (after : Taken) × TakesAll limit (bytes_of found) (partly log cursor []) after × FramesCome limit cursor log (ops_of found) after
frames_come limit cursor [] log are room = (partly log cursor [], refl, inl (room, refl))
frames_come limit cursor (f ∷ found) log are room =
    let start : Taken = partly log cursor [] in
    let first : TakesAll limit f.bytes start (log_joined limit log cursor f.ops) = frame_takes f (All-head (IsFrame Version2) f found are) limit cursor log in
    elim (all_or_refused limit f.ops log room) [
      | inl fits ↦
          let now : List (List ℕ) = log_with_ops log f.ops in
          let goes : log_joined limit log cursor f.ops ≡ partly now cursor [] =
          all_join limit cursor f.ops [] log (subst (λ (l : List Op). length (log_with_ops log l) ≤ limit) (sym (append-nil f.ops)) fits) in
          let rest = frames_come limit cursor found now (All-tail (IsFrame Version2) f found are) fits in (
            rest.0,
            takes-append limit f.bytes (bytes_of found) start (partly now cursor []) rest.0 (subst (TakesAll limit f.bytes start) goes first) rest.1,
            come_later limit cursor log f.ops (ops_of found) rest.0 rest.2,
          )
      | inr r ↦
          let closed : Taken = refused_after (log_with_ops log r.before) in
          let stops : log_joined limit log cursor f.ops ≡ closed =
          ap (log_joined limit log cursor) r.split ∙ one_too_many limit cursor r.before r.op r.later log r.lacks r.full in (
            closed,
            takes-append limit f.bytes (bytes_of found) start closed closed (subst (TakesAll limit f.bytes start) stops first)
                (closed_takes limit (bytes_of found) (log_with_ops log r.before) (refusal_message 2)),
            inr (
              record {
                before = r.before;
                op = r.op;
                later = r.later ++ ops_of found;
                split = ap (λ (l : List Op). l ++ ops_of found) r.split ∙ append_assoc r.before (r.op ∷ r.later) (ops_of found);
                lacks = r.lacks;
                full = r.full;
              },
              refl,
            ),
          )
    ]

-- one of the three answers
abbrev Answered : (limit cursor : ℕ) → (log : List (List ℕ)) → (ops : List Op) → (after : Taken) → Type 0
Answered limit cursor log ops after = IsBeyond cursor log after ⊎ (IsFull limit cursor log ops after ⊎ IsReplied limit cursor log ops after)

-- a greeting, frames, and the closing byte
module _ (limit cursor : ℕ) (log : List (List ℕ)) (fits : cursor < 2 ^ 32) (room : length log ≤ limit) (found : List Framed) (are : All (IsFrame Version2) found) where
  abbrev pub begun : Taken
  begun = record { log = log; next = Goes unread }

  abbrev pub said : List ℕ
  said = (hello cursor ++ bytes_of found) ++ closing

  -- after the cursor
  from : (b : Bool) → nat_lt (length log) cursor ≡ b → at_cursor log cursor ≡ (if b then session_refused log 3 else session_goes_on log cursor)
  from b e = ap (λ c. if c then session_refused log 3 else session_goes_on log cursor) e

  greets : (middle after : Taken) → at_cursor log cursor ≡ middle → TakesAll limit (bytes_of found ++ closing) middle after → TakesAll limit said begun after
  greets middle after e more =
      subst (λ l. TakesAll limit l begun after) (sym (append_assoc (hello cursor) (bytes_of found) closing))
      (takes-append limit (hello cursor) (bytes_of found ++ closing) begun middle after (subst (TakesAll limit (hello cursor) begun) e (hello_takes limit log cursor fits)) more)

  pub request_comes : (after : Taken) × TakesAll limit said begun after × Answered limit cursor log (ops_of found) after
  request_comes =
      elim (cases_lt (length log) cursor) [
        | inl beyond ↦
            let closed : Taken = session_refused log 3 in (
              closed,
              greets closed closed (from true (lt-ltb (length log) cursor beyond)) (closed_takes limit (bytes_of found ++ closing) log (refusal_message 3)),
              inl (record { beyond = beyond; answered = refl }),
            )
        | inr within ↦
            let goes : Taken = partly log cursor [] in
            let is : at_cursor log cursor ≡ goes = from false (le-ltb (length log) cursor within) in
            let f = frames_come limit cursor found log are room in
            elim f.2 [
              | inl all ↦
                  let now : List (List ℕ) = log_with_ops log (ops_of found) in
                  let after : Taken = record { log = now; next = Closes (reply_from now cursor) } in
                  let closes : TakesAll limit closing f.0 after = subst (λ t. TakesAll limit closing t after) (sym all.1) (closing_takes limit cursor now) in (
                    after,
                    greets goes after is (takes-append limit (bytes_of found) closing goes f.0 after f.1 closes),
                    inr (inr (record { within = within; room = all.0; answered = refl })),
                  )
              | inr r ↦
                  let after : Taken = refused_after (log_with_ops log r.0.before) in
                  let closes : TakesAll limit closing f.0 after =
                  subst (λ t. TakesAll limit closing t after) (sym r.1) (closed_takes limit closing (log_with_ops log r.0.before) (refusal_message 2)) in (
                    after,
                    greets goes after is (takes-append limit (bytes_of found) closing goes f.0 after f.1 closes),
                    inr (inl (record {
                      within = within;
                      before = r.0.before;
                      op = r.0.op;
                      later = r.0.later;
                      split = r.0.split;
                      lacks = r.0.lacks;
                      full = r.0.full;
                      answered = refl;
                    })),
                  )
            ]
      ]

-- a request as a greeting, frames of all that is sent, and the closing byte
pub record Asked (cursor : ℕ) (held : Held) : Type 0 where
  pub found : List Framed
  pub are_frames : All (IsFrame Version2) found
  pub ops_are : sent_ops held ≡ ops_of found
  pub bytes_are : request_for cursor held ≡ (hello cursor ++ bytes_of found) ++ closing

pub asked : (cursor : ℕ) (held : Held) → All HasFrame (sent_ops held) → Asked cursor held
asked cursor held have =
    let first : IsWritten (accepted held.history) (frames (accepted held.history)) =
    written (accepted held.history) (all_before HasFrame (accepted held.history) held.waiting have) in
    let second : IsWritten held.waiting (frames held.waiting) = written held.waiting (all_after HasFrame (accepted held.history) held.waiting have) in
    let found : List Framed = first.found ++ second.found in
    let bytes_are : frames (accepted held.history) ++ frames held.waiting ≡ bytes_of found =
    (λ i. first.bytes_are i ++ second.bytes_are i) ∙ sym (flat_map-append (λ (f : Framed). f.bytes) first.found second.found) in
    record {
      found = found;
      are_frames = All-append (IsFrame Version2) first.found second.found first.are_frames second.are_frames;
      ops_are = (λ i. first.ops_are i ++ second.ops_are i) ∙ sym (flat_map-append (λ (f : Framed). f.ops) first.found second.found);
      bytes_are = ap (λ l. l ++ closing) (append_assoc (hello cursor) (frames (accepted held.history)) (frames held.waiting) ∙ ap (λ l. hello cursor ++ l) bytes_are);
    }

-- a request of a replica is answered so
pub requests_are_answered : RequestsAreAnswered
requests_are_answered limit cursor log held after fits room have takes =
    let a : Asked cursor held = asked cursor held have in
    let new : Taken = record { log = log; next = Goes unread } in
    let comes = request_comes limit cursor log fits room a.found a.are_frames in
    let is : comes.0 ≡ after = all_once frames_once limit (request_for cursor held) new comes.0 after (subst (λ l. TakesAll limit l new comes.0) (sym a.bytes_are) comes.1) takes in
    subst (λ (ops : List Op). Answered limit cursor log ops after) (sym a.ops_are) (subst (λ t. Answered limit cursor log (ops_of a.found) t) is comes.2)
