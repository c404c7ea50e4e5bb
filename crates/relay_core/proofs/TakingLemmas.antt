-- What more bytes of a text do.
use Rattle.std.proofs.Common.{[], List, ap, append_assoc, drop, false, get_or, length, refl, subst, sym, take, true, ℕ, ◌+◌, ◌++◌, ◌<◌, ◌∙◌, ◌∷◌, ◌≡◌, ◌≢◌}
use Rattle.std.specs.Prelude.{Err, IfOk, None, Ok, Option, Result, Some, is_some}
use Rattle.std.proofs.lemmas.Bool.{true≢false}
use Rattle.std.proofs.lemmas.List.{take-append-drop, take_more}
use Rattle.origin_model.specs.relay.Session.{Closes, Frame, Goes, Neither, SessionReading, Taken, TakesAll, TakesByte, TakesOne, closing, refusal_message}
use Rattle.origin_model.proofs.SharedLemmas.{closed_takes, takes-append}
use Rattle.origin_model.specs.declared.grammar.Grammar.TheVariants.{Version2}
use Rattle.op_frame.specs.FrameFronts.{IsFrameStage}
use Rattle.op_frame.specs.declared.grown.Grown.TheVariants.{Bad}
use Rattle.relay_core.specs.Joins.{JoinsFrame, joined_later}
use Rattle.relay_core.specs.Logs.{LogGrows}
use Rattle.relay_core.specs.Sessions.{becomes}

-- one byte more
pub takes-more : (limit : ℕ) (xs : List ℕ) (byte : ℕ) (a b c : Taken) → TakesAll limit xs a b → TakesOne limit byte b.log b.next c → TakesAll limit (xs ++ byte ∷ []) a c
takes-more limit xs byte a b c h one = takes-append limit xs (byte ∷ []) a b c h (c, one, refl)

-- growth upon growth
pub grows_on : (a b c : List (List ℕ)) → LogGrows a b → LogGrows b c → LogGrows a c
grows_on a b c g h = (g.0 ++ h.0, h.1 ∙ ap (λ t. t ++ h.0) g.1 ∙ append_assoc a g.0 h.0)

-- the bytes after the one that closes a session count for nothing
pub closes_early : (limit : ℕ) (piece : List ℕ) (at : ℕ) (start before : Taken) (log : List (List ℕ)) (reply : List ℕ) → at < length piece
    → TakesAll limit (take at piece) start before
    → TakesOne limit (get_or piece at 0) before.log before.next (record { log = log; next = Closes reply }) → TakesAll limit piece start (record { log = log; next = Closes reply })
closes_early limit piece at start before log reply within h one =
    let after : Taken = record { log = log; next = Closes reply } in
    let taken : TakesAll limit (take (at + 1) piece) start after
    = subst (λ xs. TakesAll limit xs start after) (sym (take_more piece at 0 within)) (takes-more limit (take at piece) (get_or piece at 0) start before after h one) in
    subst (λ xs. TakesAll limit xs start after) (take-append-drop (at + 1) piece)
    (takes-append limit (take (at + 1) piece) (drop (at + 1) piece) start after after taken (closed_takes limit (drop (at + 1) piece) log reply))

-- the byte closes the session, or it goes on
pub stops_there : (limit : ℕ) (piece : List ℕ) (at : ℕ) (start before : Taken) (log : List (List ℕ)) (reply : Option (List ℕ)) (reading : SessionReading) → is_some reply ≡ true
    → at < length piece
    → TakesAll limit (take at piece) start before → TakesOne limit (get_or piece at 0) before.log before.next (record { log = log; next = becomes reply reading })
    → TakesAll limit piece start (record { log = log; next = becomes reply reading })
stops_there limit piece at start before log None reading is within h one = absurd (true≢false (sym is))
stops_there limit piece at start before log (Some bytes) reading is within h one = closes_early limit piece at start before log bytes within h one

pub goes_there : (limit : ℕ) (piece : List ℕ) (at : ℕ) (start before : Taken) (log : List (List ℕ)) (reply : Option (List ℕ)) (reading : SessionReading) → is_some reply ≡ false
    → at < length piece
    → TakesAll limit (take at piece) start before → TakesOne limit (get_or piece at 0) before.log before.next (record { log = log; next = becomes reply reading })
    → TakesAll limit (take (at + 1) piece) start (record { log = log; next = Goes reading })
goes_there limit piece at start before log None reading is within h one =
    let after : Taken = record { log = log; next = Goes reading } in
    subst (λ xs. TakesAll limit xs start after) (sym (take_more piece at 0 within)) (takes-more limit (take at piece) (get_or piece at 0) start before after h one)
goes_there limit piece at start before log (Some bytes) reading is within h one = absurd (true≢false is)

-- bytes that are no message are refused
pub refused_there : {E : Type 0} (limit cursor : ℕ) (log : List (List ℕ)) (bytes : List ℕ) (reading : SessionReading) (result : Result (Option (List ℕ)) E)
    → IsFrameStage Bad Version2 bytes → bytes ≢ closing
    → IfOk result (λ reply. reply ≡ Some (refusal_message 1)) → IfOk result (λ reply. TakesByte limit log (Some cursor) bytes (record { log = log; next = becomes reply reading }))
refused_there limit cursor log bytes reading (Ok reply) none apart is =
    (Neither, (λ ops f. none.0 (ops, f), none.1, apart), ap (λ r. record { log = log; next = becomes r reading }) is)
refused_there limit cursor log bytes reading (Err e) none apart is = is

-- the operations of a frame joined, and the bytes after it begin anew
pub frame_there : (limit cursor : ℕ) (old new : List (List ℕ)) (bytes rest : List ℕ) (reply : Option (List ℕ)) → rest ≡ [] → JoinsFrame limit old bytes new [] reply
    → TakesByte limit old (Some cursor) bytes (record { log = new; next = becomes reply (record { cursor = Some cursor; rest = rest }) })
frame_there limit cursor old new bytes rest reply none h =
    (Frame h.ops, h.is_frame, ap (λ (r : List ℕ). record { log = new; next = becomes reply (record { cursor = Some cursor; rest = r }) }) none ∙ sym (h.joins cursor ∙ by reply))
  where
    by : (reply : Option (List ℕ)) → joined_later limit new cursor [] reply ≡ record { log = new; next = becomes reply (record { cursor = Some cursor; rest = [] }) }
    by None = refl
    by (Some bytes) = refl
