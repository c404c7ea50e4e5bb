-- Events, one after another, as whole texts tell them: the same log and the same replies.
use Rattle.std.proofs.Common.{[], Bool, List, ap, arith, cond, false, inl, inr, length, refl, subst, sym, true, ℕ, ◌++◌, ◌∙◌, ◌∷◌, ◌≡◌, ◌≤◌}
use Rattle.std.specs.Prelude.{None, Option, Some, if◌then◌else◌, is_some}
use Rattle.std.specs.Cmp.{nat_cmp_total}
use Rattle.std.specs.FinMap as finite
use Rattle.std.specs.FinMap.{get-empty, get-insert, get-remove}
use Rattle.std.specs.Ordering.{nat_cmp}
use Rattle.fugue_ids.specs.declared.op.Op.{Op}
use Rattle.origin_model.specs.declared.relay.Event.{Event}
use Rattle.origin_model.specs.declared.relay.Event.TheVariants.{Gone, Opened, Piece}
use Rattle.origin_model.specs.declared.relay.Reply.{Reply}
use Rattle.origin_model.specs.relay.Relay.{Relay, RelayRuns, Sessions, RelaySteps, StepsPiece, session_opened, reply_of, sessions_after}
use Rattle.origin_model.specs.relay.Session.{SessionReading, Taken, unread}
use Rattle.origin_model.proofs.SharedLemmas.{after_piece, piece_steps, unknown_steps}
use Rattle.relay_core.specs.Laws.{SessionsByWholeTexts}
use Rattle.relay_core.specs.Sessions.{becomes}
use Rattle.relay_core.specs.Texts.{Beyond, Closed, FollowsFrames, Foreign, SessionText, Greets, HasCome, IsSessionText, NoGreeting}
use Rattle.relay_core.specs.Texts.{OneTooMany, Speaks, StandsInText, Tells, TellsAll}
use Rattle.relay_core.specs.Texts.{TellsTo, OpenTexts, LogWithTexts, Unfinished, joined_after, reply_to_text, log_after, reply_with, texts_after, text_opened, log_with_ops}
use Rattle.relay_core.proofs.SessionTextLemmas.{reading_by, taken_by}
use Rattle.relay_core.proofs.StoryLemmas.{Read, ReadSo, read_on, read_takes, still_read}
use Rattle.relay_core.proofs.JoiningLemmas.{grown}

-- a session is open in both, and was read as its text says, or in neither
abbrev Alike : List (List ℕ) → Option (List ℕ) → Option SessionReading → Type 0
Alike log None None = Unit {0}
Alike log (Some text) (Some reading) = ReadSo log text reading
Alike log text reading = ⊥

record Agrees (limit : ℕ) (log : List (List ℕ)) (sessions : Sessions) (texts : OpenTexts) : Type 0 where
  room : length log ≤ limit
  each : (n : ℕ) → Alike log (finite.get texts n) (finite.get sessions n)

-- a log that grows
read_later : (log now : List (List ℕ)) (text : List ℕ) (reading : SessionReading) → length log ≤ length now → ReadSo log text reading → ReadSo now text reading
read_later log now text reading more (inl front) = inl front
read_later log now text reading more (inr s) =
    inr (record { cursor = s.cursor; ops = s.ops; rest = s.rest; says = s.says; partial = s.partial; within = omega (arith, s.within, more); reading_is = s.reading_is })

alike_later : (log now : List (List ℕ)) (text : Option (List ℕ)) (reading : Option SessionReading) → length log ≤ length now → Alike log text reading → Alike now text reading
alike_later log now None None more a = tt
alike_later log now None (Some reading) more a = absurd a
alike_later log now (Some text) None more a = absurd a
alike_later log now (Some text) (Some reading) more a = read_later log now text reading more a

-- one session set or removed
alike_by : (log : List (List ℕ)) (here : Bool) (x before : Option (List ℕ)) (y past : Option SessionReading) (text : Option (List ℕ)) (reading : Option SessionReading)
    → text ≡ cond here x before → reading ≡ cond here y past
    → Alike log x y → Alike log before past → Alike log text reading
alike_by log true x before y past text reading p q a b = subst (λ (o : Option SessionReading). Alike log text o) (sym q) (subst (λ (o : Option (List ℕ)). Alike log o y) (sym p) a)
alike_by log false x before y past text reading p q a b =
    subst (λ (o : Option SessionReading). Alike log text o) (sym q) (subst (λ (o : Option (List ℕ)). Alike log o past) (sym p) b)

module _ (limit : ℕ) (log now : List (List ℕ)) (sessions : Sessions) (texts : OpenTexts) (agrees : Agrees limit log sessions texts) (more : length log ≤ length now)
    (room : length now ≤ limit) (n : ℕ) where
  later : (q : ℕ) → Alike now (finite.get texts q) (finite.get sessions q)
  later q = alike_later log now (finite.get texts q) (finite.get sessions q) more (agrees.each q)

  set_agrees : (text : List ℕ) (reading : SessionReading) → ReadSo now text reading → Agrees limit now (finite.insert sessions n reading) (finite.insert texts n text)
  set_agrees text reading so = record {
    room = room;
    each = λ q. alike_by now _ (Some text) (finite.get texts q) (Some reading) (finite.get sessions q) (finite.get (finite.insert texts n text) q)
        (finite.get (finite.insert sessions n reading) q)
        (get-insert nat_cmp_total texts n text q) (get-insert nat_cmp_total sessions n reading q) so (later q);
  }

  removed_agrees : Agrees limit now (finite.remove sessions n) (finite.remove texts n)
  removed_agrees = record {
    room = room;
    each = λ q. alike_by now _ None (finite.get texts q) None (finite.get sessions q) (finite.get (finite.remove texts n) q) (finite.get (finite.remove sessions n) q)
        (get-remove nat_cmp_total texts n q) (get-remove nat_cmp_total sessions n q) tt (later q);
  }

  -- after a piece
  piece_agrees : (answer : Option (List ℕ)) (text : List ℕ) (reading : SessionReading) → (answer ≡ None → ReadSo now text reading)
      → Agrees limit now (sessions_after n sessions (becomes answer reading)) (texts_after n texts text answer)
  piece_agrees None text reading so = set_agrees text reading (so refl)
  piece_agrees (Some bytes) text reading so = removed_agrees

-- one session opened
opened_by : (limit : ℕ) (log : List (List ℕ)) (sessions : Sessions) (texts : OpenTexts) (n : ℕ) → Agrees limit log sessions texts
    → (text : Option (List ℕ)) (reading : Option SessionReading) → Alike log text reading
    → Agrees limit log (if is_some reading then sessions else finite.insert sessions n unread) (if is_some text then texts else finite.insert texts n [])
opened_by limit log sessions texts n agrees None None a = set_agrees limit log log sessions texts agrees (omega arith) agrees.room n [] unread (inl (tt, refl))
opened_by limit log sessions texts n agrees None (Some reading) a = absurd a
opened_by limit log sessions texts n agrees (Some text) None a = absurd a
opened_by limit log sessions texts n agrees (Some text) (Some reading) a = agrees

-- the log after a text of a form
outcome_grows : (session_text : SessionText) (log : List (List ℕ)) → length log ≤ length (log_after session_text log)
outcome_grows Greets log = omega arith
outcome_grows NoGreeting log = omega arith
outcome_grows Beyond log = omega arith
outcome_grows (Speaks cursor new rest follows) log = omega (arith, grown log new, grown (log_with_ops log new) (joined_after follows))

-- what joined of a frame with an operation too many fits
follows_room : (follows : FollowsFrames) (limit : ℕ) (log : List (List ℕ)) (rest : List ℕ) → length log ≤ limit → StandsInText follows limit log rest
    → length (log_with_ops log (joined_after follows)) ≤ limit
follows_room Unfinished limit log rest room s = room
follows_room Closed limit log rest room s = room
follows_room Foreign limit log rest room s = room
follows_room (OneTooMany before) limit log rest room s = omega (arith, s.7)

outcome_room : (session_text : SessionText) (limit : ℕ) (log : List (List ℕ)) (before : List Op) (text : List ℕ) → length log ≤ limit
    → IsSessionText session_text limit log before text
    → length (log_after session_text log) ≤ limit
outcome_room Greets limit log before text room is = room
outcome_room NoGreeting limit log before text room is = room
outcome_room Beyond limit log before text room is = room
outcome_room (Speaks cursor new rest follows) limit log before text room is = follows_room follows limit (log_with_ops log new) rest is.2 is.3

-- the reply to what the form says
replies_same : (n : ℕ) (answer : Option (List ℕ)) (reading : SessionReading) → reply_of n (becomes answer reading) ≡ reply_with n answer
replies_same n None reading = refl
replies_same n (Some bytes) reading = refl

abbrev relay_of : ℕ → List (List ℕ) → Sessions → Relay
relay_of limit log sessions = record { limit = limit; log = log; sessions = sessions }

abbrev log_texts : List (List ℕ) → OpenTexts → LogWithTexts
log_texts log texts = record { log = log; texts = texts }

-- the same step on both sides
record Both (limit : ℕ) (log : List (List ℕ)) (sessions : Sessions) (texts : OpenTexts) (event : Event) (reply : Option Reply) : Type 0 where
  log_now : List (List ℕ)
  sessions_now : Sessions
  texts_now : OpenTexts
  steps : RelaySteps (relay_of limit log sessions) event (relay_of limit log_now sessions_now) reply
  tells : Tells limit (log_texts log texts) event (log_texts log_now texts_now) reply
  agree : Agrees limit log_now sessions_now texts_now

module _ (limit : ℕ) (log : List (List ℕ)) (sessions : Sessions) (texts : OpenTexts) (agrees : Agrees limit log sessions texts) where
  abbrev open_both : (n : ℕ) → Both limit log sessions texts (Opened n) None
  open_both n = record {
    log_now = log;
    sessions_now = session_opened n sessions;
    texts_now = text_opened n texts;
    steps = (refl, refl);
    tells = (refl, refl);
    agree = opened_by limit log sessions texts n agrees (finite.get texts n) (finite.get sessions n) (agrees.each n);
  }

  abbrev gone_both : (n : ℕ) → Both limit log sessions texts (Gone n) None
  gone_both n = record {
    log_now = log;
    sessions_now = finite.remove sessions n;
    texts_now = finite.remove texts n;
    steps = (refl, refl);
    tells = (refl, refl);
    agree = removed_agrees limit log log sessions texts agrees (omega arith) agrees.room n;
  }

  abbrev unknown_both : (n : ℕ) (bytes : List ℕ) → finite.get texts n ≡ None → finite.get sessions n ≡ None → Both limit log sessions texts (Piece n bytes) None
  unknown_both n bytes absent none = record {
    log_now = log;
    sessions_now = sessions;
    texts_now = texts;
    steps = unknown_steps (relay_of limit log sessions) n bytes none;
    tells = subst (λ (o : Option (List ℕ)). TellsTo limit (log_texts log texts) n o bytes (log_texts log texts) None) (sym absent) (refl, refl);
    agree = agrees;
  }

  abbrev piece_both : (n : ℕ) (bytes text : List ℕ) (reading : SessionReading) (before : List Op) (session_text : SessionText) → finite.get texts n ≡ Some text
      → finite.get sessions n ≡ Some reading → ReadSo log text reading
      → (come : HasCome text before) → IsSessionText session_text limit log before (text ++ bytes)
      → Both limit log sessions texts (Piece n bytes) (reply_with n (reply_to_text session_text log))
  piece_both n bytes text reading before session_text some found so come is =
      let answer : Option (List ℕ) = reply_to_text session_text log in
      let whole : List ℕ = text ++ bytes in
      let taken : Taken = taken_by session_text log whole in
      let now : List (List ℕ) = log_after session_text log in
      record {
        log_now = now;
        sessions_now = sessions_after n sessions taken.next;
        texts_now = texts_after n texts whole answer;
        steps = subst (RelaySteps (relay_of limit log sessions) (Piece n bytes) (after_piece (relay_of limit log sessions) n taken))
            (replies_same n answer (reading_by session_text whole))
            (piece_steps (relay_of limit log sessions) n reading bytes taken found (read_takes limit log text bytes reading before session_text so come is));
        tells = subst (λ (o : Option (List ℕ)). TellsTo limit (log_texts log texts) n o bytes (log_texts now (texts_after n texts whole answer)) (reply_with n answer)) (sym some)
            (record {
              answer = answer;
              comes = record { before = before; has_come = come; session_text = session_text; is_session_text = is; log_is = refl; answer_is = refl };
              texts_are = refl;
              reply_is = refl;
            });
        agree = piece_agrees limit log now sessions texts agrees (outcome_grows session_text log) (outcome_room session_text limit log before whole agrees.room is) n answer whole
            (reading_by session_text whole)
            (λ none. still_read session_text limit log before whole is none);
      }

-- every step of a relay is told
record StepByTexts (limit : ℕ) (log : List (List ℕ)) (sessions : Sessions) (texts : OpenTexts) (event : Event) (new : Relay) (reply : Option Reply) : Type 0 where
  same_reply : Option Reply
  both : Both limit log sessions texts event same_reply
  reply_is : reply ≡ same_reply
  new_is : new ≡ relay_of limit both.log_now both.sessions_now

step_by_texts : (limit : ℕ) (log : List (List ℕ)) (sessions : Sessions) (texts : OpenTexts) → Agrees limit log sessions texts → (event : Event) (new : Relay) (reply : Option Reply)
    → RelaySteps (relay_of limit log sessions) event new reply
    → StepByTexts limit log sessions texts event new reply
step_by_texts limit log sessions texts agrees (Opened n) new reply h =
    record { same_reply = None; both = open_both limit log sessions texts agrees n; reply_is = h.1; new_is = h.0 }
step_by_texts limit log sessions texts agrees (Gone n) new reply h = record { same_reply = None; both = gone_both limit log sessions texts agrees n; reply_is = h.1; new_is = h.0 }
step_by_texts limit log sessions texts agrees (Piece n bytes) new reply h = by (finite.get texts n) (finite.get sessions n) refl refl (agrees.each n) h
  where
    by : (text : Option (List ℕ)) (reading : Option SessionReading) → finite.get texts n ≡ text → finite.get sessions n ≡ reading → Alike log text reading
        → StepsPiece (relay_of limit log sessions) n reading bytes new reply → StepByTexts limit log sessions texts (Piece n bytes) new reply
    by None None absent none a h = record { same_reply = None; both = unknown_both limit log sessions texts agrees n bytes absent none; reply_is = h.1; new_is = h.0 }
    by None (Some reading) absent none a h = absurd a
    by (Some text) None absent none a h = absurd a
    by (Some text) (Some reading) some found a h =
        let r : Read limit log text bytes h.taken = read_on limit log text bytes reading h.taken agrees.room a h.takes in
        let answer : Option (List ℕ) = reply_to_text r.session_text log in
        record {
          same_reply = reply_with n answer;
          both = piece_both limit log sessions texts agrees n bytes text reading r.before r.session_text some found a r.has_come r.is_session_text;
          reply_is = h.reply_is ∙ ap (λ (t : Taken). reply_of n t.next) r.after_is ∙ replies_same n answer (reading_by r.session_text (text ++ bytes));
          new_is = h.new_is ∙ ap (after_piece (relay_of limit log sessions) n) r.after_is;
        }

-- and every step that is told is one of a relay
record TextStep (limit : ℕ) (log : List (List ℕ)) (sessions : Sessions) (texts : OpenTexts) (event : Event) (new : LogWithTexts) (reply : Option Reply) : Type 0 where
  same_reply : Option Reply
  both : Both limit log sessions texts event same_reply
  reply_is : reply ≡ same_reply
  new_is : new ≡ log_texts both.log_now both.texts_now

step_from_texts : (limit : ℕ) (log : List (List ℕ)) (sessions : Sessions) (texts : OpenTexts) → Agrees limit log sessions texts
    → (event : Event) (new : LogWithTexts) (reply : Option Reply) → Tells limit (log_texts log texts) event new reply
    → TextStep limit log sessions texts event new reply
step_from_texts limit log sessions texts agrees (Opened n) new reply h =
    record { same_reply = None; both = open_both limit log sessions texts agrees n; reply_is = h.1; new_is = h.0 }
step_from_texts limit log sessions texts agrees (Gone n) new reply h =
    record { same_reply = None; both = gone_both limit log sessions texts agrees n; reply_is = h.1; new_is = h.0 }
step_from_texts limit log sessions texts agrees (Piece n bytes) new reply h = by (finite.get texts n) (finite.get sessions n) refl refl (agrees.each n) h
  where
    by : (text : Option (List ℕ)) (reading : Option SessionReading) → finite.get texts n ≡ text → finite.get sessions n ≡ reading → Alike log text reading
        → TellsTo limit (log_texts log texts) n text bytes new reply → TextStep limit log sessions texts (Piece n bytes) new reply
    by None None absent none a h = record { same_reply = None; both = unknown_both limit log sessions texts agrees n bytes absent none; reply_is = h.1; new_is = h.0 }
    by None (Some reading) absent none a h = absurd a
    by (Some text) None absent none a h = absurd a
    by (Some text) (Some reading) some found a h = record {
      same_reply = reply_with n (reply_to_text h.comes.session_text log);
      both = piece_both limit log sessions texts agrees n bytes text reading h.comes.before h.comes.session_text some found a h.comes.has_come h.comes.is_session_text;
      reply_is = h.reply_is ∙ ap (reply_with n) h.comes.answer_is;
      new_is = λ i. record { log = h.comes.log_is i; texts = (h.texts_are ∙ ap (texts_after n texts (text ++ bytes)) h.comes.answer_is) i };
    }

-- a run of a relay is told
run_from_texts : (limit : ℕ) (log : List (List ℕ)) (sessions : Sessions) (texts : OpenTexts) → Agrees limit log sessions texts
    → (events : List Event) (new : Relay) (replies : List (Option Reply)) → RelayRuns (relay_of limit log sessions) events new replies
    → (handled : LogWithTexts) × TellsAll limit (log_texts log texts) events handled replies × (handled.log ≡ new.log)
run_from_texts limit log sessions texts agrees [] new replies h = (log_texts log texts, (refl, h.1), sym (ap (λ (r : Relay). r.log) h.0))
run_from_texts limit log sessions texts agrees (event ∷ events) new replies h =
    let s = step_by_texts limit log sessions texts agrees event h.0 h.1 h.3 in
    let b = s.both in
    let rest = run_from_texts limit b.log_now b.sessions_now b.texts_now b.agree events new h.2 (subst (λ (r : Relay). RelayRuns r events new h.2) s.new_is h.4) in (
      rest.0,
      (
        log_texts b.log_now b.texts_now,
        h.1,
        h.2,
        subst (Tells limit (log_texts log texts) event (log_texts b.log_now b.texts_now))
            (sym s.reply_is) b.tells,
        rest.1,
        h.5,
      ),
      rest.2,
    )

-- and what is told is a run
run_by_texts : (limit : ℕ) (log : List (List ℕ)) (sessions : Sessions) (texts : OpenTexts) → Agrees limit log sessions texts
    → (events : List Event) (handled : LogWithTexts) (replies : List (Option Reply))
    → TellsAll limit (log_texts log texts) events handled replies → (new : Relay) × RelayRuns (relay_of limit log sessions) events new replies × (new.log ≡ handled.log)
run_by_texts limit log sessions texts agrees [] handled replies h = (relay_of limit log sessions, (refl, h.1), sym (ap (λ (t : LogWithTexts). t.log) h.0))
run_by_texts limit log sessions texts agrees (event ∷ events) handled replies h =
    let s = step_from_texts limit log sessions texts agrees event h.0 h.1 h.3 in
    let b = s.both in
    let rest = run_by_texts limit b.log_now b.sessions_now b.texts_now b.agree events handled h.2
    (subst (λ (t : LogWithTexts). TellsAll limit t events handled h.2) s.new_is h.4) in (
      rest.0,
      (
        relay_of limit b.log_now b.sessions_now,
        h.1,
        h.2,
        subst (RelaySteps (relay_of limit log sessions) event (relay_of limit b.log_now b.sessions_now)) (sym s.reply_is) b.steps,
        rest.1,
        h.5,
      ),
      rest.2,
    )

-- before any event
no_texts : (limit : ℕ) → Agrees limit [] finite.empty finite.empty
no_texts limit = record { room = omega arith; each = λ n. alike_by [] true None None None None _ _ (get-empty nat_cmp n) (get-empty nat_cmp n) tt tt }

-- what a relay does is what the whole texts say
pub sessions_by_whole_texts : SessionsByWholeTexts
sessions_by_whole_texts = record {
  exactly = λ limit events log replies. (
    (λ h. let t = run_from_texts limit [] finite.empty finite.empty (no_texts limit) events h.0 replies h.1 in (t.0, t.1, t.2 ∙ h.2)),
    (λ h. let r = run_by_texts limit [] finite.empty finite.empty (no_texts limit) events h.0 replies h.1 in (r.0, r.1, r.2 ∙ h.2)),
  );
}
