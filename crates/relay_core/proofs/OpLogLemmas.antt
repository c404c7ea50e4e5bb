-- The log of a relay is one of operations, it only grows, and replies join.
use Rattle.std.proofs.Common.{List, [], ap, append-nil, append_assoc, arith, drop, false, inl, inr, length, nat_eq, nat_lt, refl, subst, suc, sym, true, zero, ℕ, ◌++◌, ◌∙◌, ◌∷◌}
use Rattle.std.proofs.Common.{◌≡◌, ◌≢◌, ◌≤◌}
use Rattle.std.specs.Prelude.{All, AllPairs, None, Option, Some, flat_map, if◌then◌else◌}
use Rattle.std.specs.Cmp.Lexicographic.{pointwise}
use Rattle.std.specs.FinMap as finite
use Rattle.std.specs.Int.{from_be_bytes, to_be_bytes, w32}
use Rattle.std.proofs.lemmas.Bool.{and_from, cases_Bool, eq-eqb, or_parts, true≢false}
use Rattle.std.proofs.lemmas.Grind.{flat_map-append}
use Rattle.std.proofs.lemmas.List.{map-append}
use Rattle.std.proofs.lemmas.List.Elements.{All-append, All-cons, All-head, All-nil, All-tail}
use Rattle.fugue_ids.specs.declared.op.Op.{Op}
use Rattle.fugue_ids.specs.declared.op.Op.TheVariants.{Text}
use Rattle.fugue_ids.proofs.ListLemmas.{all_before, all_pairs_append, all_pairs_nil, pointwise-same}
use Rattle.origin_model.specs.declared.grammar.Grammar.TheVariants.{Version2}
use Rattle.origin_model.specs.declared.relay.Event.{Event}
use Rattle.origin_model.specs.declared.relay.Event.TheVariants.{Gone, Opened, Piece}
use Rattle.origin_model.specs.declared.relay.Reply.{Reply}
use Rattle.origin_model.specs.frames.Frames.{HasFrame, IsFrame, IsItem, Item, Single, Typed, frame, item_ops}
use Rattle.origin_model.specs.relay.Relay.{Relay, RelayRuns, RelaySteps, Sessions, StepsPiece, new_relay, session_opened}
use Rattle.origin_model.specs.relay.Session.{Closes, Closing, Frame, Front, Goes, IsKind, Kind, Neither, Next, SessionReading, Taken, TakesAll, TakesByte, TakesOne, at_cursor}
use Rattle.origin_model.specs.relay.Session.{greeting_read, greeting, is_logged, log_joined, session_goes_on, session_refused, handled}
use Rattle.op_frame.proofs.RunFrameLemmas.{run_frames}
use Rattle.relay_core.specs.OpLogs.{IsLogOf, LogsAreOfOperations, LogsGrow, RepliesJoin}
use Rattle.relay_core.specs.Texts.{with_op, log_with_ops}
use Rattle.relay_core.proofs.JoiningLemmas.{all_join, all_or_refused, one_too_many}

-- a frame that a log lacks is none of its frames
not_logged : (log : List (List ℕ)) (own : List ℕ) → is_logged log own ≡ false → All (λ f. f ≢ own) log
not_logged [] own lacks = All-nil (λ f. f ≢ own)
not_logged (f ∷ log) own lacks =
    let p = or_parts (pointwise nat_eq own f) (is_logged log own) lacks in
    All-cons (λ g. g ≢ own) f log (λ e. true≢false (sym (ap (pointwise nat_eq own) e ∙ pointwise-same own) ∙ p.0)) (not_logged log own p.1)

-- one operation more
one_logged : (log : List (List ℕ)) (ops : List Op) (op : Op) → IsLogOf log ops → HasFrame op → (all : List Op) × IsLogOf (with_op log op) all
one_logged log ops op is has =
    let own : List ℕ = frame op in
    elim (cases_Bool (is_logged log own)) [
      | inl t ↦ (ops, subst (λ b. IsLogOf (if b then log else log ++ own ∷ []) ops) (sym t) is)
      | inr f ↦ (
        ops ++ op ∷ [],
        subst (λ b. IsLogOf (if b then log else log ++ own ∷ []) (ops ++ op ∷ [])) (sym f)
            (record {
              frames_are = ap (λ l. l ++ own ∷ []) is.frames_are ∙ sym (map-append frame ops (op ∷ []));
              have_frames = All-append HasFrame ops (op ∷ []) is.have_frames (All-cons HasFrame op [] has (All-nil HasFrame));
              once = all_pairs_append (λ a b. a ≢ b) log (own ∷ []) is.once (alone own) (each_apart log own (not_logged log own f));
            }),
      )
    ]
  where
    alone : (own : List ℕ) → AllPairs (λ a b. a ≢ b) (own ∷ [])
    alone own = λ i j d before within. absurd (omega (arith, before, within))

    each_apart : (log : List (List ℕ)) (own : List ℕ) → All (λ f. f ≢ own) log → All (λ f. All (λ g. f ≢ g) (own ∷ [])) log
    each_apart [] own apart = All-nil (λ f. All (λ g. f ≢ g) (own ∷ []))
    each_apart (f ∷ log) own apart =
        All-cons (λ h. All (λ g. h ≢ g) (own ∷ [])) f log (All-cons (λ g. f ≢ g) own [] (All-head (λ h. h ≢ own) f log apart) (All-nil (λ g. f ≢ g)))
        (each_apart log own (All-tail (λ h. h ≢ own) f log apart))

-- operations more
all_logged : (log : List (List ℕ)) (ops new : List Op) → IsLogOf log ops → All HasFrame new → (all : List Op) × IsLogOf (log_with_ops log new) all
all_logged log ops [] is has = (ops, is)
all_logged log ops (op ∷ new) is has =
    let one = one_logged log ops op is (All-head HasFrame op new has) in all_logged (with_op log op) one.0 new one.1 (All-tail HasFrame op new has)

-- the operations of each frame have frames
item_frames : (item : Item) → IsItem Version2 item → All HasFrame (item_ops item)
item_frames (Single op) is = All-cons HasFrame op [] is (All-nil HasFrame)
item_frames (Typed run) is =
    run_frames run.id run.section run.left run.right run.text is.id is.counters_fit is.section is.left is.right is.text.scalars

frame_ops : (bytes : List ℕ) (ops : List Op) → IsFrame Version2 (record { bytes = bytes; ops = ops }) → All HasFrame ops
frame_ops bytes ops is = subst (All HasFrame) (sym is.ops_are) (item_frames is.item is.is_item)

-- some of the operations joined a log: none is there that it had not, and there are no more than the limit
record Joins (limit : ℕ) (old new : List (List ℕ)) (ops : List Op) : Type 0 where
  front : List Op
  behind : List Op
  split : ops ≡ front ++ behind
  log_is : new ≡ log_with_ops old front
  few : length new ≤ limit

-- so operations of a frame join
joined_joins : (limit cursor : ℕ) (log : List (List ℕ)) (ops : List Op) → length log ≤ limit → Joins limit log (log_joined limit log cursor ops).log ops
joined_joins limit cursor log ops room =
    elim (all_or_refused limit ops log room) [
      | inl fits ↦
          let is : log_joined limit log cursor ops ≡ session_goes_on (log_with_ops log ops) cursor =
          all_join limit cursor ops [] log (subst (λ l. length (log_with_ops log l) ≤ limit) (sym (append-nil ops)) fits) in
          record { front = ops; behind = []; split = sym (append-nil ops); log_is = ap (λ (t : Taken). t.log) is; few = omega (arith, fits, ap (λ (t : Taken). length t.log) is) }
      | inr f ↦
          let is : log_joined limit log cursor ops ≡ session_refused (log_with_ops log f.before) 2 =
          ap (log_joined limit log cursor) f.split ∙ one_too_many limit cursor f.before f.op f.later log f.lacks f.full in
          record {
            front = f.before;
            behind = f.op ∷ f.later;
            split = f.split;
            log_is = ap (λ (t : Taken). t.log) is;
            few = omega (arith, f.full, ap (λ (t : Taken). length t.log) is);
          }
    ]

-- a log with operations has more frames after its own
with_more : (log : List (List ℕ)) (ops : List Op) → (more : List (List ℕ)) × (log_with_ops log ops ≡ log ++ more)
with_more log [] = ([], sym (append-nil log))
with_more log (op ∷ ops) =
    let one : (more : List (List ℕ)) × (with_op log op ≡ log ++ more) =
    elim (is_logged log (frame op)) as (λ b. (more : List (List ℕ)) × ((if b then log else log ++ frame op ∷ []) ≡ log ++ more)) [
      | true ↦ ([], sym (append-nil log))
      | false ↦ (frame op ∷ [], refl)
    ] in
    let rest = with_more (with_op log op) ops in
    (one.0 ++ rest.0, rest.1 ∙ ap (λ l. l ++ rest.0) one.1 ∙ append_assoc log one.0 rest.0)

-- a log with more frames after it, no more than the limit, which is one of operations where it was one
record Grows (limit : ℕ) (old new : List (List ℕ)) : Type 0 where
  more : List (List ℕ)
  grown : new ≡ old ++ more
  few : length new ≤ limit
  ops : (all : List Op) → IsLogOf old all → (now : List Op) × IsLogOf new now

unchanged : (limit : ℕ) (old new : List (List ℕ)) → length old ≤ limit → new ≡ old → Grows limit old new
unchanged limit old new room e =
    record { more = []; grown = e ∙ sym (append-nil old); few = omega (arith, room, ap length e); ops = λ all is. (all, subst (λ l. IsLogOf l all) (sym e) is) }

one_after : (limit : ℕ) (a b c : List (List ℕ)) → Grows limit a b → Grows limit b c → Grows limit a c
one_after limit a b c first second =
    record {
      more = first.more ++ second.more;
      grown = second.grown ∙ ap (λ l. l ++ second.more) first.grown ∙ append_assoc a first.more second.more;
      few = second.few;
      ops = λ all is. let now = first.ops all is in second.ops now.0 now.1;
    }

-- operations of a frame join a log
joined_grows : (limit cursor : ℕ) (log : List (List ℕ)) (ops : List Op) → length log ≤ limit → All HasFrame ops → Grows limit log (log_joined limit log cursor ops).log
joined_grows limit cursor log ops room have =
    let j : Joins limit log (log_joined limit log cursor ops).log ops = joined_joins limit cursor log ops room in
    let m = with_more log j.front in
    record {
      more = m.0;
      grown = j.log_is ∙ m.1;
      few = j.few;
      ops = λ all is.
          let now = all_logged log all j.front is (all_before HasFrame j.front j.behind (subst (All HasFrame) j.split have)) in
          (now.0, subst (λ l. IsLogOf l now.0) (sym j.log_is) now.1);
    }

-- the first bytes of a text leave the log
greeted_log : (log : List (List ℕ)) (bytes : List ℕ) → (greeting_read log bytes).log ≡ log
greeted_log log [] = refl
greeted_log log (first ∷ number) =
    let cursor : ℕ = from_be_bytes w32 number in
    let compared : (at_cursor log cursor).log ≡ log =
    elim (nat_lt (length log) cursor) as (λ b. (if b then session_refused log 3 else session_goes_on log cursor).log ≡ log) [ true ↦ refl | false ↦ refl ] in
    let partly : Taken = record { log = log; next = Goes (record { cursor = None; rest = first ∷ number }) } in
    let read : (if nat_lt (length number) 4 then partly else at_cursor log cursor).log ≡ log =
    elim (nat_lt (length number) 4) as (λ b. (if b then partly else at_cursor log cursor).log ≡ log) [ true ↦ refl | false ↦ compared ] in
    elim (nat_eq first greeting) as (λ b. (if b then (if nat_lt (length number) 4 then partly else at_cursor log cursor) else session_refused log 1).log ≡ log)
    [ true ↦ read | false ↦ refl ]

-- so does a kind of message, but for a frame
handled_grows : (limit cursor : ℕ) (log : List (List ℕ)) (bytes : List ℕ) (kind : Kind) → length log ≤ limit → IsKind kind bytes
    → Grows limit log (handled kind limit log cursor bytes).log
handled_grows limit cursor log bytes (Frame ops) room is = joined_grows limit cursor log ops room (frame_ops bytes ops is)
handled_grows limit cursor log bytes Closing room is = unchanged limit log log room refl
handled_grows limit cursor log bytes Front room is = unchanged limit log log room refl
handled_grows limit cursor log bytes Neither room is = unchanged limit log log room refl

byte_grows : (limit : ℕ) (log : List (List ℕ)) (cursor : Option ℕ) (bytes : List ℕ) (after : Taken) → length log ≤ limit → TakesByte limit log cursor bytes after
    → Grows limit log after.log
byte_grows limit log None bytes after room t = unchanged limit log after.log room (ap (λ (r : Taken). r.log) t ∙ greeted_log log bytes)
byte_grows limit log (Some cursor) bytes after room t =
    subst (λ l. Grows limit log l) (sym (ap (λ (r : Taken). r.log) t.2)) (handled_grows limit cursor log bytes t.0 room t.1)

one_grows : (limit byte : ℕ) (log : List (List ℕ)) (next : Next) (after : Taken) → length log ≤ limit → TakesOne limit byte log next after → Grows limit log after.log
one_grows limit byte log (Goes reading) after room t = byte_grows limit log reading.cursor (reading.rest ++ byte ∷ []) after room t
one_grows limit byte log (Closes reply) after room t = unchanged limit log after.log room (ap (λ (r : Taken). r.log) t)

takes_grow : (limit : ℕ) (bytes : List ℕ) (before after : Taken) → length before.log ≤ limit → TakesAll limit bytes before after → Grows limit before.log after.log
takes_grow limit [] before after room t = unchanged limit before.log after.log room (ap (λ (r : Taken). r.log) t)
takes_grow limit (byte ∷ bytes) before after room t =
    let first : Grows limit before.log t.0.log = one_grows limit byte before.log before.next t.0 room t.1 in
    one_after limit before.log t.0.log after.log first (takes_grow limit bytes t.0 after first.few t.2)

-- a relay with the same limit, whose log grew
record Follows (old new : Relay) : Type 0 where
  limit : new.limit ≡ old.limit
  grows : Grows old.limit old.log new.log

same_log : (old new : Relay) (sessions : Sessions) → length old.log ≤ old.limit → new ≡ record { limit = old.limit; log = old.log; sessions = sessions } → Follows old new
same_log old new sessions room e = record { limit = ap (λ (r : Relay). r.limit) e; grows = unchanged old.limit old.log new.log room (ap (λ (r : Relay). r.log) e) }

piece_follows : (old new : Relay) (n : ℕ) (o : Option SessionReading) (bytes : List ℕ) (reply : Option Reply) → length old.log ≤ old.limit → StepsPiece old n o bytes new reply
    → Follows old new
piece_follows old new n None bytes reply room t = same_log old new old.sessions room t.0
piece_follows old new n (Some reading) bytes reply room t =
    record {
      limit = ap (λ (r : Relay). r.limit) t.new_is;
      grows = subst (λ l. Grows old.limit old.log l) (sym (ap (λ (r : Relay). r.log) t.new_is))
          (takes_grow old.limit bytes (record { log = old.log; next = Goes reading }) t.taken room t.takes);
    }

step_follows : (old new : Relay) (event : Event) (reply : Option Reply) → length old.log ≤ old.limit → RelaySteps old event new reply → Follows old new
step_follows old new (Opened n) reply room t = same_log old new (session_opened n old.sessions) room t.0
step_follows old new (Piece n bytes) reply room t = piece_follows old new n (finite.get old.sessions n) bytes reply room t
step_follows old new (Gone n) reply room t = same_log old new (finite.remove old.sessions n) room t.0

run_follows : (old new : Relay) (events : List Event) (replies : List (Option Reply)) → length old.log ≤ old.limit → RelayRuns old events new replies → Follows old new
run_follows old new [] replies room t = same_log old new old.sessions room t.0
run_follows old new (event ∷ events) replies room t =
    let first : Follows old t.0 = step_follows old t.0 event t.1 room t.3 in
    let rest : Follows t.0 new = run_follows t.0 new events t.2 (subst (λ l. length t.0.log ≤ l) (sym first.limit) first.grows.few) t.4 in
    record {
      limit = rest.limit ∙ first.limit;
      grows = one_after old.limit old.log t.0.log new.log first.grows (subst (λ l. Grows l t.0.log new.log) first.limit rest.grows);
    }

-- the log of a relay is one of operations
pub logs_are_of_operations : LogsAreOfOperations
logs_are_of_operations limit events relay state =
    let f : Follows (new_relay limit) relay = run_follows (new_relay limit) relay events state.replies (omega arith) state.runs in
    (f.grows.ops [] (record { frames_are = refl; have_frames = All-nil HasFrame; once = all_pairs_nil (λ a b. a ≢ b) }), f.grows.few)

-- and it only grows
pub logs_grow : LogsGrow
logs_grow limit before old new events replies state runs =
    let reached : Follows (new_relay limit) old = run_follows (new_relay limit) old before state.replies (omega arith) state.runs in
    let f : Follows old new = run_follows old new events replies (subst (λ l. length old.log ≤ l) (sym reached.limit) reached.grows.few) runs in
    (f.grows.more, f.grows.grown)

-- replies join
pub replies_join : RepliesJoin
replies_join cursor log more within =
    let own : List (List ℕ) → List ℕ = flat_map (λ f. f) in
    let end : List ℕ = 0x55 ∷ to_be_bytes w32 (length (log ++ more)) in
    let here : drop cursor (log ++ more) ≡ drop cursor log ++ more = drop_front cursor log more within in
    let there : drop (length log) (log ++ more) ≡ more = drop_all_front log more in
    ap (λ l. own l ++ end) here ∙ ap (λ l. l ++ end) (flat_map-append (λ (f : List ℕ). f) (drop cursor log) more) ∙ append_assoc (own (drop cursor log)) (own more) end
    ∙ ap (λ l. own (drop cursor log) ++ (own l ++ end)) (sym there)
  where
    drop_front : (n : ℕ) (xs ys : List (List ℕ)) → n ≤ length xs → drop n (xs ++ ys) ≡ drop n xs ++ ys
    drop_front zero xs ys within = refl
    drop_front (suc n) [] ys within = absurd (omega (arith, within))
    drop_front (suc n) (x ∷ xs) ys within = drop_front n xs ys (omega (arith, within))

    drop_all_front : (xs ys : List (List ℕ)) → drop (length xs) (xs ++ ys) ≡ ys
    drop_all_front [] ys = refl
    drop_all_front (x ∷ xs) ys = drop_all_front xs ys
