-- What a text comes to, from its opening on and after the text that came before.
use Rattle.std.proofs.Common.{[], Bool, List, ap, arith, false, length, nat_eq, nat_lt, refl, subst, sym, true, ℕ, ◌++◌, ◌<◌, ◌∙◌, ◌∷◌, ◌≡◌, ◌≤◌}
use Rattle.std.specs.Prelude.{None, Some, if◌then◌else◌}
use Rattle.std.specs.Int.{from_be_bytes, w32}
use Rattle.std.proofs.lemmas.Bool.{eq-eqb, eqb-true, le-ltb, lt-ltb, ltb-false, ltb-true, true≢false}
use Rattle.fugue_ids.specs.declared.op.Op.{Op}
use Rattle.origin_model.specs.relay.Session.{Goes, SessionReading, Taken, TakesAll, at_cursor, session_goes_on, greeting, refusal_message, session_refused, unread}
use Rattle.origin_model.proofs.SharedLemmas.{closed_takes, takes-append}
use Rattle.origin_model.specs.declared.grammar.Grammar.TheVariants.{Version2}
use Rattle.op_frame.proofs.ReadingLemmas.{no_bytes_are_partial}
use Rattle.relay_core.specs.Sessions.{becomes}
use Rattle.relay_core.specs.Texts.{Beyond, SessionText, Greets, IsSessionText, IsGreetingFront, NoGreeting, SaysCursor, Speaks, reply_to_text, log_after, log_with_ops}
use Rattle.relay_core.proofs.TextLemmas.{Reads, behind, none_starts, outcome, reads, rest_takes, starts_take}

-- the first bytes of a greeting
pub greeting_goes : (limit : ℕ) (log : List (List ℕ)) (text : List ℕ) → IsGreetingFront text
    → TakesAll limit text (record { log = log; next = Goes unread }) (record { log = log; next = Goes (record { cursor = None; rest = text }) })
greeting_goes limit log [] is = refl
greeting_goes limit log (first ∷ number) is =
    subst (λ (x : ℕ). TakesAll limit (x ∷ number) (record { log = log; next = Goes unread }) (record { log = log; next = Goes (record { cursor = None; rest = x ∷ number }) }))
    (sym is.0) (by number is.1)
  where
    goes : List ℕ → Taken
    goes bytes = record { log = log; next = Goes (record { cursor = None; rest = bytes }) }

    by : (number : List ℕ) → length number < 4 → TakesAll limit (greeting ∷ number) (record { log = log; next = Goes unread }) (goes (greeting ∷ number))
    by [] few = (goes (greeting ∷ []), refl, refl)
    by (a ∷ []) few = (goes (greeting ∷ []), refl, (goes (greeting ∷ a ∷ []), refl, refl))
    by (a ∷ b ∷ []) few = (goes (greeting ∷ []), refl, (goes (greeting ∷ a ∷ []), refl, (goes (greeting ∷ a ∷ b ∷ []), refl, refl)))
    by (a ∷ b ∷ c ∷ []) few =
        (goes (greeting ∷ []), refl, (goes (greeting ∷ a ∷ []), refl, (goes (greeting ∷ a ∷ b ∷ []), refl, (goes (greeting ∷ a ∷ b ∷ c ∷ []), refl, refl))))
    by (a ∷ b ∷ c ∷ d ∷ more) few = absurd (omega (arith, few))

-- a whole one
pub greeting_takes : (limit : ℕ) (log : List (List ℕ)) (number : List ℕ) → length number ≡ 4
    → TakesAll limit (greeting ∷ number) (record { log = log; next = Goes unread }) (at_cursor log (from_be_bytes w32 number))
greeting_takes limit log [] four = absurd (omega (arith, four))
greeting_takes limit log (a ∷ []) four = absurd (omega (arith, four))
greeting_takes limit log (a ∷ b ∷ []) four = absurd (omega (arith, four))
greeting_takes limit log (a ∷ b ∷ c ∷ []) four = absurd (omega (arith, four))
greeting_takes limit log (a ∷ b ∷ c ∷ d ∷ []) four =
    takes-append limit (greeting ∷ a ∷ b ∷ c ∷ []) (d ∷ []) (record { log = log; next = Goes unread })
    (record { log = log; next = Goes (record { cursor = None; rest = greeting ∷ a ∷ b ∷ c ∷ [] }) })
    (at_cursor log (from_be_bytes w32 (a ∷ b ∷ c ∷ d ∷ []))) (greeting_goes limit log (greeting ∷ a ∷ b ∷ c ∷ []) (refl, omega arith))
    (at_cursor log (from_be_bytes w32 (a ∷ b ∷ c ∷ d ∷ [])), refl, refl)
greeting_takes limit log (a ∷ b ∷ c ∷ d ∷ e ∷ more) four = absurd (omega (arith, four))

-- by whether its cursor is beyond the log
abbrev compared : List (List ℕ) → ℕ → Bool → Taken
compared log cursor b = if b then session_refused log 3 else session_goes_on log cursor

within_log : (log : List (List ℕ)) (cursor : ℕ) → cursor ≤ length log → at_cursor log cursor ≡ session_goes_on log cursor
within_log log cursor within = ap (compared log cursor) (le-ltb (length log) cursor within)

beyond_log : (log : List (List ℕ)) (cursor : ℕ) → length log < cursor → at_cursor log cursor ≡ session_refused log 3
beyond_log log cursor beyond = ap (compared log cursor) (lt-ltb (length log) cursor beyond)

-- how far a text was read that goes on
abbrev pub reading_by : SessionText → List ℕ → SessionReading
reading_by (Speaks cursor new rest follows) text = record { cursor = Some cursor; rest = rest }
reading_by session_text text = record { cursor = None; rest = text }

-- what a session of this form comes to
abbrev pub taken_by : SessionText → List (List ℕ) → List ℕ → Taken
taken_by session_text log text = record { log = log_after session_text log; next = becomes (reply_to_text session_text log) (reading_by session_text text) }

-- the greeting of a text, and what it says after it
says_takes : (limit : ℕ) (log : List (List ℕ)) (text : List ℕ) (cursor : ℕ) (new : List Op) (rest : List ℕ) (after : Taken) → (says : SaysCursor text cursor new rest)
    → TakesAll limit says.messages (at_cursor log cursor) after → TakesAll limit text (record { log = log; next = Goes unread }) after
says_takes limit log text cursor new rest after says h =
    subst (λ (bytes : List ℕ). TakesAll limit bytes (record { log = log; next = Goes unread }) after) (sym says.text_is)
    (takes-append limit (greeting ∷ says.number) says.messages (record { log = log; next = Goes unread }) (at_cursor log cursor) after
    (subst (λ (c : ℕ). TakesAll limit (greeting ∷ says.number) (record { log = log; next = Goes unread }) (at_cursor log c)) (sym says.cursor_is)
    (greeting_takes limit log says.number says.four_bytes)) h)

-- the session of a whole text comes to what its form says
pub outcome_takes : (session_text : SessionText) (limit : ℕ) (log : List (List ℕ)) (text : List ℕ) → IsSessionText session_text limit log [] text
    → TakesAll limit text (record { log = log; next = Goes unread }) (taken_by session_text log text)
outcome_takes Greets limit log text is = greeting_goes limit log text is
outcome_takes NoGreeting limit log text is =
    let other : nat_eq is.0 greeting ≡ false = none (nat_eq is.0 greeting) refl in
    let wrong : (b : Bool) → Taken = λ b. if b then record { log = log; next = Goes (record { cursor = None; rest = is.0 ∷ [] }) } else session_refused log 1 in
    subst (λ (bytes : List ℕ). TakesAll limit bytes (record { log = log; next = Goes unread }) (session_refused log 1)) (sym is.3)
    (session_refused log 1, sym (ap wrong other), closed_takes limit is.1 log (refusal_message 1))
  where
    none : (b : Bool) → nat_eq is.0 greeting ≡ b → nat_eq is.0 greeting ≡ false
    none true e = absurd (is.2 (eqb-true is.0 greeting e))
    none false e = e
outcome_takes Beyond limit log text is =
    let messages : List ℕ = is.2.messages in
    says_takes limit log text is.0 [] is.1 (session_refused log 3) is.2
    (subst (λ (t : Taken). TakesAll limit messages t (session_refused log 3)) (sym (beyond_log log is.0 is.3)) (closed_takes limit messages log (refusal_message 3)))
outcome_takes (Speaks cursor new rest follows) limit log text is =
    let after : Taken = outcome follows cursor (log_with_ops log new) rest in
    says_takes limit log text cursor new rest after is.0
    (subst (λ (t : Taken). TakesAll limit is.0.messages t after) (sym (within_log log cursor is.1))
    (starts_take limit cursor new log is.0.messages rest after is.0.starts is.2 (rest_takes follows limit cursor (log_with_ops log new) rest is.3)))

-- a text is of some form
pub outcome_found : (limit : ℕ) (log : List (List ℕ)) (text : List ℕ) (after : Taken) → length log ≤ limit → TakesAll limit text (record { log = log; next = Goes unread }) after
    → (session_text : SessionText) × IsSessionText session_text limit log [] text
outcome_found limit log [] after room h = (Greets, tt)
outcome_found limit log (first ∷ number) after room h = by_first (nat_eq first greeting) refl
  where
    by_cursor : (number more : List ℕ) → length number ≡ 4 → first ≡ greeting → TakesAll limit (first ∷ number ++ more) (record { log = log; next = Goes unread }) after
        → (b : Bool)
        → nat_lt (length log) (from_be_bytes w32 number) ≡ b → (session_text : SessionText) × IsSessionText session_text limit log [] (first ∷ number ++ more)
    by_cursor number more four is h true beyond = (
      Beyond,
      (
        from_be_bytes w32 number,
        more,
        record {
          number = number;
          four_bytes = four;
          cursor_is = refl;
          messages = more;
          starts = none_starts more;
          text_is = ap (λ x. x ∷ number ++ more) is;
        },
        ltb-true (length log) (from_be_bytes w32 number) beyond,
      ),
    )
    by_cursor number more four is h false beyond =
        let cursor : ℕ = from_be_bytes w32 number in
        let within : cursor ≤ length log = ltb-false (length log) cursor beyond in
        let start : Taken = record { log = log; next = Goes unread } in
        let whole : TakesAll limit (greeting ∷ number ++ more) start after = subst (λ (x : ℕ). TakesAll limit (x ∷ number ++ more) start after) is h in
        let rest : TakesAll limit more (session_goes_on log cursor) after
        = subst (λ (t : Taken). TakesAll limit more t after) (within_log log cursor within)
        (behind limit (greeting ∷ number) more start (at_cursor log cursor) after whole (greeting_takes limit log number four)) in
        let r : Reads limit cursor log more after = reads limit cursor after more log [] room (no_bytes_are_partial Version2) rest in (
          Speaks cursor r.new r.rest r.follows,
          (
            record {
              number = number;
              four_bytes = four;
              cursor_is = refl;
              messages = more;
              starts = r.starts;
              text_is = ap (λ x. x ∷ number ++ more) is;
            },
            within,
            r.room,
            r.stands,
          ),
        )

    by_number : (number : List ℕ) → first ≡ greeting → TakesAll limit (first ∷ number) (record { log = log; next = Goes unread }) after
        → (session_text : SessionText) × IsSessionText session_text limit log [] (first ∷ number)
    by_number [] is h = (Greets, (is, omega arith))
    by_number (a ∷ []) is h = (Greets, (is, omega arith))
    by_number (a ∷ b ∷ []) is h = (Greets, (is, omega arith))
    by_number (a ∷ b ∷ c ∷ []) is h = (Greets, (is, omega arith))
    by_number (a ∷ b ∷ c ∷ d ∷ more) is h = by_cursor (a ∷ b ∷ c ∷ d ∷ []) more refl is h (nat_lt (length log) (from_be_bytes w32 (a ∷ b ∷ c ∷ d ∷ []))) refl

    by_first : (b : Bool) → nat_eq first greeting ≡ b → (session_text : SessionText) × IsSessionText session_text limit log [] (first ∷ number)
    by_first false other = (NoGreeting, (first, number, (λ same. true≢false (sym (eq-eqb first greeting same) ∙ other)), refl))
    by_first true same = by_number number (eqb-true first greeting same) h
