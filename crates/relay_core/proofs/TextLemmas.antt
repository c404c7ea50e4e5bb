-- The texts of sessions as they are read: what the whole text says is what reading it byte by byte comes to.
use Rattle.std.proofs.Common.{[], List, ap, append_assoc, arith, inl, inr, length, refl, subst, sym, ℕ, ◌++◌, ◌<◌, ◌∙◌, ◌∷◌, ◌≡◌, ◌≤◌, ◌⊎◌}
use Rattle.std.specs.Prelude.{All, Some}
use Rattle.std.proofs.lemmas.List.{append-nil}
use Rattle.std.proofs.lemmas.List.Elements.{All-cons, All-head, All-nil, All-tail}
use Rattle.fugue_ids.specs.declared.op.Op.{Op}
use Rattle.origin_model.specs.declared.grammar.Grammar.TheVariants.{Version2}
use Rattle.origin_model.specs.frames.Frames.{Framed, IsFrame, IsPartial, Starts}
use Rattle.origin_model.specs.relay.Session.{Closing, Frame, Front, IsKind, Kind, Neither, Taken, TakesAll, closing, session_goes_on, log_joined, refusal_message, session_refused}
use Rattle.origin_model.specs.relay.Session.{reply_from, handled}
use Rattle.origin_model.proofs.SharedLemmas.{all_once, bytes_of, closed_takes, closing_takes, frame_takes, front_takes, ops_of, partly, takes-append}
use Rattle.op_frame.proofs.ReadingLemmas.{frames_once, no_bytes_are_partial}
use Rattle.relay_core.specs.Sessions.{becomes}
use Rattle.relay_core.specs.Texts.{Closed, FollowsFrames, Foreign, IsForeign, OneTooMany, StandsInText, Unfinished, closing_bytes, joined_after, log_with_ops}
use Rattle.relay_core.proofs.JoiningLemmas.{IsRefused, all_or_refused, all_join, one_too_many, with_ops-append}

-- bytes are read after others as they are read with them
pub behind : (limit : ℕ) (xs ys : List ℕ) (start middle after : Taken) → TakesAll limit (xs ++ ys) start after → TakesAll limit xs start middle → TakesAll limit ys middle after
behind limit [] ys start middle after h i = subst (λ (t : Taken). TakesAll limit ys t after) (sym i) h
behind limit (x ∷ xs) ys start middle after h i =
    let same : h.0 ≡ i.0 = all_once frames_once limit (x ∷ []) start h.0 i.0 (h.0, h.1, refl) (i.0, i.1, refl) in
    behind limit xs ys i.0 middle after (subst (λ (t : Taken). TakesAll limit (xs ++ ys) t after) same h.2) i.2

-- frames that come after a whole message
frames_take : (limit cursor : ℕ) (found : List Framed) (log : List (List ℕ)) (rest : List ℕ) (after : Taken) → All (IsFrame Version2) found
    → length (log_with_ops log (ops_of found)) ≤ limit
    → TakesAll limit rest (session_goes_on (log_with_ops log (ops_of found)) cursor) after → TakesAll limit (bytes_of found ++ rest) (session_goes_on log cursor) after
frames_take limit cursor [] log rest after are room h = h
frames_take limit cursor (f ∷ found) log rest after are room h =
    let now : List (List ℕ) = log_with_ops log f.ops in
    let both : log_with_ops log (f.ops ++ ops_of found) ≡ log_with_ops now (ops_of found) = with_ops-append f.ops (ops_of found) log in
    let more : TakesAll limit (bytes_of found ++ rest) (session_goes_on now cursor) after
    = frames_take limit cursor found now rest after (All-tail (IsFrame Version2) f found are) (subst (λ (l : List (List ℕ)). length l ≤ limit) both room)
    (subst (λ (l : List (List ℕ)). TakesAll limit rest (session_goes_on l cursor) after) both h) in
    let is : log_joined limit log cursor f.ops ≡ session_goes_on now cursor = all_join limit cursor f.ops (ops_of found) log room in
    subst (λ (bytes : List ℕ). TakesAll limit bytes (session_goes_on log cursor) after) (sym (append_assoc f.bytes (bytes_of found) rest))
    (takes-append limit f.bytes (bytes_of found ++ rest) (session_goes_on log cursor) (log_joined limit log cursor f.ops) after
    (frame_takes f (All-head (IsFrame Version2) f found are) limit cursor log)
    (subst (λ (t : Taken). TakesAll limit (bytes_of found ++ rest) t after) (sym is) more))

-- operations that come after a whole message
pub starts_take : (limit cursor : ℕ) (ops : List Op) (log : List (List ℕ)) (messages rest : List ℕ) (after : Taken) → Starts Version2 messages ops rest
    → length (log_with_ops log ops) ≤ limit
    → TakesAll limit rest (session_goes_on (log_with_ops log ops) cursor) after → TakesAll limit messages (session_goes_on log cursor) after
starts_take limit cursor ops log messages rest after starts room h =
    subst (λ (bytes : List ℕ). TakesAll limit bytes (session_goes_on log cursor) after) (sym starts.split)
    (frames_take limit cursor starts.found log rest after starts.are_frames (subst (λ (l : List Op). length (log_with_ops log l) ≤ limit) starts.ops_are room)
    (subst (λ (l : List Op). TakesAll limit rest (session_goes_on (log_with_ops log l) cursor) after) starts.ops_are h))

-- no frame stands at the front
pub none_starts : (bytes : List ℕ) → Starts Version2 bytes [] bytes
none_starts bytes = record { found = []; are_frames = All-nil (IsFrame Version2); ops_are = refl; split = refl }

-- a front of a frame
pub front_goes : (limit cursor : ℕ) (log : List (List ℕ)) (rest : List ℕ) → IsPartial Version2 rest → TakesAll limit rest (session_goes_on log cursor) (partly log cursor rest)
front_goes limit cursor log rest p = by p.more p.lacks p.front
  where
    by : (more : List ℕ) → 0 < length more → p.framed.bytes ≡ rest ++ more → TakesAll limit rest (session_goes_on log cursor) (partly log cursor rest)
    by [] lacks e = absurd (omega (arith, lacks))
    by (z ∷ zs) lacks e = front_takes p.framed p.is_frame limit cursor log [] rest z zs e

-- what the log is, and what becomes of the session, after the frames of a text
abbrev pub outcome : FollowsFrames → (cursor : ℕ) → List (List ℕ) → (rest : List ℕ) → Taken
outcome follows cursor log rest =
    record { log = log_with_ops log (joined_after follows); next = becomes (closing_bytes follows log cursor) (record { cursor = Some cursor; rest = rest }) }

-- what follows the frames of a text
pub rest_takes : (follows : FollowsFrames) (limit cursor : ℕ) (log : List (List ℕ)) (rest : List ℕ) → StandsInText follows limit log rest
    → TakesAll limit rest (session_goes_on log cursor) (outcome follows cursor log rest)
rest_takes Unfinished limit cursor log rest s = front_goes limit cursor log rest s
rest_takes Closed limit cursor log rest s =
    let after : Taken = outcome Closed cursor log rest in
    subst (λ (bytes : List ℕ). TakesAll limit bytes (session_goes_on log cursor) after) (sym s.1)
    (takes-append limit closing s.0 (session_goes_on log cursor) after after (closing_takes limit cursor log) (closed_takes limit s.0 log (reply_from log cursor)))
rest_takes Foreign limit cursor log rest s =
    let after : Taken = session_refused log 1 in
    let f : IsForeign s.0 = s.2 in
    let shown : TakesAll limit s.0 (session_goes_on log cursor) after
    = subst (λ (bytes : List ℕ). TakesAll limit bytes (session_goes_on log cursor) after) (sym f.bytes_are)
    (takes-append limit f.before (f.byte ∷ []) (session_goes_on log cursor) (partly log cursor f.before) after (front_goes limit cursor log f.before f.was_front)
    (after, (Neither, subst (IsKind Neither) f.bytes_are f.is_none, refl), refl)) in
    subst (λ (bytes : List ℕ). TakesAll limit bytes (session_goes_on log cursor) after) (sym s.3)
    (takes-append limit s.0 s.1 (session_goes_on log cursor) after after shown (closed_takes limit s.1 log (refusal_message 1)))
rest_takes (OneTooMany before) limit cursor log rest s =
    let now : List (List ℕ) = log_with_ops log before in
    let after : Taken = session_refused now 2 in
    let framed : Framed = record { bytes = s.2; ops = before ++ s.0 ∷ s.1 } in
    let is : log_joined limit log cursor (before ++ s.0 ∷ s.1) ≡ after = one_too_many limit cursor before s.0 s.1 log s.6 s.7 in
    subst (λ (bytes : List ℕ). TakesAll limit bytes (session_goes_on log cursor) after) (sym s.5)
    (takes-append limit s.2 s.3 (session_goes_on log cursor) after after (subst (TakesAll limit s.2 (session_goes_on log cursor)) is (frame_takes framed s.4 limit cursor log))
    (closed_takes limit s.3 now (refusal_message 2)))

-- bytes after a whole message, as they were read
pub record Reads (limit cursor : ℕ) (log : List (List ℕ)) (bytes : List ℕ) (after : Taken) : Type 0 where
  pub new : List Op
  pub rest : List ℕ
  pub follows : FollowsFrames
  pub starts : Starts Version2 bytes new rest
  pub room : length (log_with_ops log new) ≤ limit
  pub stands : StandsInText follows limit (log_with_ops log new) rest
  pub after_is : after ≡ outcome follows cursor (log_with_ops log new) rest

module _ (limit cursor : ℕ) (after : Taken) where
  -- no frame more
  reads_none : (log : List (List ℕ)) (bytes : List ℕ) (follows : FollowsFrames) → length log ≤ limit → StandsInText follows limit log bytes
      → after ≡ outcome follows cursor log bytes → Reads limit cursor log bytes after
  reads_none log bytes follows room stands is = record { new = []; rest = bytes; follows = follows; starts = none_starts bytes; room = room; stands = stands; after_is = is }

  -- a frame more, all of whose operations join
  reads_frame : (log : List (List ℕ)) (framed : Framed) (bytes : List ℕ) → IsFrame Version2 framed → Reads limit cursor (log_with_ops log framed.ops) bytes after
      → Reads limit cursor log (framed.bytes ++ bytes) after
  reads_frame log framed bytes is r =
      let both : log_with_ops (log_with_ops log framed.ops) r.new ≡ log_with_ops log (framed.ops ++ r.new) = sym (with_ops-append framed.ops r.new log) in
      record {
        new = framed.ops ++ r.new;
        rest = r.rest;
        follows = r.follows;
        starts = record {
          found = framed ∷ r.starts.found;
          are_frames = All-cons (IsFrame Version2) framed r.starts.found is r.starts.are_frames;
          ops_are = ap (λ (l : List Op). framed.ops ++ l) r.starts.ops_are;
          split = ap (λ (b : List ℕ). framed.bytes ++ b) r.starts.split ∙ sym (append_assoc framed.bytes (bytes_of r.starts.found) r.rest);
        };
        room = subst (λ (l : List (List ℕ)). length l ≤ limit) both r.room;
        stands = subst (λ (l : List (List ℕ)). StandsInText r.follows limit l r.rest) both r.stands;
        after_is = r.after_is ∙ ap (λ (l : List (List ℕ)). outcome r.follows cursor l r.rest) both;
      }

  -- the log a byte further
  abbrev Further : List ℕ → Type 0
  Further bytes = (log : List (List ℕ)) (rest : List ℕ) → length log ≤ limit → IsPartial Version2 rest → TakesAll limit bytes (partly log cursor rest) after
      → Reads limit cursor log (rest ++ bytes) after

  -- a frame is whole
  frame_reads : (log : List (List ℕ)) (framed : Framed) (bytes : List ℕ) → IsFrame Version2 framed → length log ≤ limit → Further bytes
      → TakesAll limit bytes (log_joined limit log cursor framed.ops) after
      → Reads limit cursor log (framed.bytes ++ bytes) after
  frame_reads log framed bytes is room further h = by (all_or_refused limit framed.ops log room)
    where
      now : List (List ℕ)
      now = log_with_ops log framed.ops

      by : (length now ≤ limit) ⊎ IsRefused limit log framed.ops → Reads limit cursor log (framed.bytes ++ bytes) after
      by (inl fits) =
          reads_frame log framed bytes is
          (further now [] fits (no_bytes_are_partial Version2) (subst (λ (t : Taken). TakesAll limit bytes t after) (all_join limit cursor framed.ops [] log
          (subst (λ (l : List Op). length (log_with_ops log l) ≤ limit) (sym (append-nil framed.ops)) fits)) h))
      by (inr f) =
          let refused : Taken = session_refused (log_with_ops log f.before) 2 in
          let same : log_joined limit log cursor framed.ops ≡ refused =
          ap (log_joined limit log cursor) f.split ∙ one_too_many limit cursor f.before f.op f.later log f.lacks f.full in
          let whole : IsFrame Version2 (record { bytes = framed.bytes; ops = f.before ++ f.op ∷ f.later }) =
          subst (λ (l : List Op). IsFrame Version2 (record { bytes = framed.bytes; ops = l })) f.split is in
          reads_none log (framed.bytes ++ bytes) (OneTooMany f.before) room (f.op, f.later, framed.bytes, bytes, whole, refl, f.lacks, f.full)
          (all_once frames_once limit bytes refused after refused (subst (λ (t : Taken). TakesAll limit bytes t after) same h)
          (closed_takes limit bytes (log_with_ops log f.before) (refusal_message 2)))

  -- one byte more
  kind_reads : (log : List (List ℕ)) (rest : List ℕ) (byte : ℕ) (bytes : List ℕ) → length log ≤ limit → IsPartial Version2 rest → Further bytes → (kind : Kind)
      → IsKind kind (rest ++ byte ∷ [])
      → TakesAll limit bytes (handled kind limit log cursor (rest ++ byte ∷ [])) after → Reads limit cursor log ((rest ++ byte ∷ []) ++ bytes) after
  kind_reads log rest byte bytes room partial further (Frame ops) f h = frame_reads log (record { bytes = rest ++ byte ∷ []; ops = ops }) bytes f room further h
  kind_reads log rest byte bytes room partial further Closing f h =
      reads_none log ((rest ++ byte ∷ []) ++ bytes) Closed room (bytes, ap (λ (b : List ℕ). b ++ bytes) f)
      (all_once frames_once limit bytes (handled Closing limit log cursor closing) after (handled Closing limit log cursor closing) h
      (closed_takes limit bytes log (reply_from log cursor)))
  kind_reads log rest byte bytes room partial further Front f h = further log (rest ++ byte ∷ []) room f h
  kind_reads log rest byte bytes room partial further Neither f h =
      reads_none log ((rest ++ byte ∷ []) ++ bytes) Foreign room
      (rest ++ byte ∷ [], bytes, record { before = rest; byte = byte; bytes_are = refl; was_front = partial; is_none = f }, refl)
      (all_once frames_once limit bytes (session_refused log 1) after (session_refused log 1) h (closed_takes limit bytes log (refusal_message 1)))

-- bytes after a whole message and a front of the next one
pub reads : (limit cursor : ℕ) (after : Taken) (bytes : List ℕ) (log : List (List ℕ)) (rest : List ℕ) → length log ≤ limit → IsPartial Version2 rest
    → TakesAll limit bytes (partly log cursor rest) after
    → Reads limit cursor log (rest ++ bytes) after
reads limit cursor after [] log rest room partial h =
    subst (λ (b : List ℕ). Reads limit cursor log b after) (sym (append-nil rest)) (reads_none limit cursor after log rest Unfinished room partial h)
reads limit cursor after (byte ∷ bytes) log rest room partial h =
    subst (λ (b : List ℕ). Reads limit cursor log b after) (append_assoc rest (byte ∷ []) bytes)
    (kind_reads limit cursor after log rest byte bytes room partial (λ now front fits is t. reads limit cursor after bytes now front fits is t) h.1.0 h.1.1
    (subst (λ (t : Taken). TakesAll limit bytes t after) h.1.2 h.2))
