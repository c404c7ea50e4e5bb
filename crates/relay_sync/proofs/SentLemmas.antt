-- The log of a relay to which replicas sent what they held has the operations that were sent, and no others.
use Rattle.std.proofs.Common.{Bool, List, [], ap, append-nil, append_assoc, arith, false, inl, inr, length, length-append, nat_eq, refl, subst, sym, true, ℕ, ◌++◌, ◌<◌, ◌∙◌, ◌∷◌}
use Rattle.std.proofs.Common.{◌≡◌, ◌≢◌, ◌≤◌, ◌⊎◌}
use Rattle.std.specs.Prelude.{All, IfSome, None, Option, Some, cond, flat_map, if◌then◌else◌, is_some, map}
use Rattle.std.specs.Cmp.{nat_cmp_total}
use Rattle.std.specs.Cmp.Lexicographic.{pointwise}
use Rattle.std.specs.FinMap as finite
use Rattle.std.specs.FinMap.{get-empty, get-insert, get-remove}
use Rattle.std.specs.Int.{to_be_bytes, w32}
use Rattle.std.specs.List.{filter}
use Rattle.std.specs.Ordering.{nat_cmp}
use Rattle.std.proofs.lemmas.Cmp.{nat_list_eq_equiv}
use Rattle.std.proofs.lemmas.Bool.{cases_Bool, eq-eqb, eqb-true, or_left, or_right, true≢false}
use Rattle.std.proofs.lemmas.List.{nil_from_length}
use Rattle.std.proofs.lemmas.List.Elements.{All-append, All-cons, All-contains, All-filter, All-head, All-nil, All-tail, All-weaker}
use Rattle.std.proofs.lemmas.List.Folds.{list_any-append}
use Rattle.fugue_ids.specs.declared.op.Op.{Op}
use Rattle.fugue_ids.proofs.IdentifierLemmas.{nat_at-other, nat_at-same}
use Rattle.fugue_ids.proofs.ListLemmas.{all_before, all_after, all_from_filter, all_weaker_at}
use Rattle.fugue_ids.proofs.OpLemmas.{op_eq-refl}
use Rattle.fugue_ids.specs.Ops.{op_eq}
use Rattle.origin_model.specs.declared.grammar.Grammar.TheVariants.{Version2}
use Rattle.origin_model.specs.declared.relay.Event.{Event}
use Rattle.origin_model.specs.declared.relay.Event.TheVariants.{Gone, Opened, Piece}
use Rattle.origin_model.specs.declared.relay.Reply.{Reply}
use Rattle.origin_model.specs.frames.Frames.{Framed, IsFrame, IsPartial, frame}
use Rattle.origin_model.specs.operations.History.{has_op}
use Rattle.origin_model.specs.relay.Relay.{Relay, RelayRuns, new_relay}
use Rattle.origin_model.specs.relay.Session.{Closing, Frame, Front, closing, greeting, is_logged, refusal_message}
use Rattle.origin_model.specs.taking.Closure.{given_by, given_by_all, taker_state}
use Rattle.origin_model.proofs.SharedLemmas.{bytes_of, has-append, hello, one_kind, ops_of}
use Rattle.op_frame.proofs.CodeLemmas.{same_fronts}
use Rattle.op_frame.proofs.ReadingLemmas.{begins_not_partial, framed_some, frames_once, common_prefix}
use Rattle.relay_core.specs.Texts.{Beyond, Closed, FollowsFrames, Foreign, Greets, HasCome, IsSessionText, IsGreetingFront, NoGreeting, OneTooMany, SaysCursor, SessionText, Speaks}
use Rattle.relay_core.specs.Texts.{StandsInText, Tells, TellsAll, TellsPiece, TellsTo, OpenTexts, LogWithTexts, Unfinished, log_after, no_log_texts, reply_to_text, reply_with}
use Rattle.relay_core.specs.Texts.{texts_after, with_op, log_with_ops}
use Rattle.relay_core.proofs.TellingLemmas.{sessions_by_whole_texts}
use Rattle.relay_sync.specs.Exchanges.{AreInterleaved, IsHonestRequest, NoneRefused, Sending, beginners, events_of, gone_with, is_whole, session_of}
use Rattle.relay_sync.specs.Saying.{request_for}
use Rattle.relay_sync.proofs.TwoEndsLemmas.{Asked, asked}

-- bytes that begin with a frame don't begin with the closing byte
frame_not_closing : (f : Framed) → IsFrame Version2 f → (more rest : List ℕ) → f.bytes ++ more ≡ closing ++ rest → ⊥
frame_not_closing f is more rest e = by f.bytes refl e
  where
    by : (bytes : List ℕ) → f.bytes ≡ bytes → bytes ++ more ≡ closing ++ rest → ⊥
    by [] none e = omega (arith, ap length none, framed_some Version2 f is)
    by (b ∷ []) same e =
        let at : b ≡ 0x44 = cc e in
        let clash : Frame f.ops ≡ Closing = one_kind frames_once closing (Frame f.ops) Closing
        (record { item = is.item; is_item = is.is_item; bytes_are = ap (λ x. x ∷ []) (sym at) ∙ sym same ∙ is.bytes_are; ops_are = is.ops_are }) refl in
        cc clash
    by (b ∷ c ∷ bytes) same e =
        let at : b ≡ 0x44 = cc e in
        let clash : Front ≡ Closing = one_kind frames_once closing Front Closing
        (record { framed = f; is_frame = is; more = c ∷ bytes; lacks = omega arith; front = same ∙ ap (λ x. x ∷ c ∷ bytes) at }) refl in
        cc clash

-- of a request, these operations were said, then this rest, and the bytes that are left: the rest begins the later frames
record IsLeft (sent ops : List Op) (rest left : List ℕ) : Type 0 where
  later : List Framed
  are : All (IsFrame Version2) later
  sent_are : sent ≡ ops ++ ops_of later
  bytes_are : rest ++ left ≡ bytes_of later ++ closing

left_of : (fs found : List Framed) (rest left : List ℕ) → All (IsFrame Version2) fs → All (IsFrame Version2) found → bytes_of fs ++ (rest ++ left) ≡ bytes_of found ++ closing
    → IsLeft (ops_of found) (ops_of fs) rest left
left_of [] found rest left p q e = record { later = found; are = q; sent_are = refl; bytes_are = e }
left_of (f ∷ fs) [] rest left p q e =
    absurd (frame_not_closing f (All-head (IsFrame Version2) f fs p) (bytes_of fs ++ (rest ++ left)) [] (sym (append_assoc f.bytes (bytes_of fs) (rest ++ left)) ∙ e))
left_of (f ∷ fs) (h ∷ hs) rest left p q e =
    let one = common_prefix Version2 f h (bytes_of fs ++ (rest ++ left)) (bytes_of hs ++ closing) (All-head (IsFrame Version2) f fs p) (All-head (IsFrame Version2) h hs q)
    (sym (append_assoc f.bytes (bytes_of fs) (rest ++ left)) ∙ e ∙ append_assoc h.bytes (bytes_of hs) closing) in
    let l = left_of fs hs rest left (All-tail (IsFrame Version2) f fs p) (All-tail (IsFrame Version2) h hs q) one.rest in
    record {
      later = l.later;
      are = l.are;
      sent_are = (λ i. sym one.ops i ++ l.sent_are i) ∙ sym (append_assoc f.ops (ops_of fs) (ops_of l.later));
      bytes_are = l.bytes_are;
    }

-- after a proper front of a frame something is left
something_left : (later : List Framed) (rest left : List ℕ) → All (IsFrame Version2) later → IsPartial Version2 rest → rest ++ left ≡ bytes_of later ++ closing → 0 < length left
something_left later rest (byte ∷ left) are p e = omega arith
something_left [] rest [] are p e =
    absurd (frame_not_closing p.framed p.is_frame [] p.more (append-nil p.framed.bytes ∙ p.front ∙ ap (λ (l : List ℕ). l ++ p.more) (sym (append-nil rest) ∙ e)))
something_left (f ∷ later) rest [] are p e =
    absurd (begins_not_partial Version2 rest f (bytes_of later ++ closing)
    (record { is_frame = All-head (IsFrame Version2) f later are; split = sym (append-nil rest) ∙ e ∙ append_assoc f.bytes (bytes_of later) closing }) p)

-- after the closing byte no frame is left, and no byte
none_later : (later : List Framed) (behind left : List ℕ) → All (IsFrame Version2) later → (closing ++ behind) ++ left ≡ bytes_of later ++ closing
    → (ops_of later ≡ []) × (length left ≡ 0)
none_later [] behind left are e = (refl, omega (arith, ap length e, length-append (closing ++ behind) left))
none_later (f ∷ later) behind left are e =
    absurd (frame_not_closing f (All-head (IsFrame Version2) f later are) (bytes_of later ++ closing) (behind ++ left)
    (sym (append_assoc f.bytes (bytes_of later) closing) ∙ sym e))

-- a text says the same operations however it is read
same_said : (fs hs : List Framed) (r s : List ℕ) → All (IsFrame Version2) fs → All (IsFrame Version2) hs → IsPartial Version2 r → IsPartial Version2 s
    → bytes_of fs ++ r ≡ bytes_of hs ++ s → ops_of fs ≡ ops_of hs
same_said [] [] r s p q x y e = refl
same_said [] (h ∷ hs) r s p q x y e =
    absurd (begins_not_partial Version2 r h (bytes_of hs ++ s) (record { is_frame = All-head (IsFrame Version2) h hs q; split = e ∙ append_assoc h.bytes (bytes_of hs) s }) x)
same_said (f ∷ fs) [] r s p q x y e =
    absurd (begins_not_partial Version2 s f (bytes_of fs ++ r) (record { is_frame = All-head (IsFrame Version2) f fs p; split = sym e ∙ append_assoc f.bytes (bytes_of fs) r }) y)
same_said (f ∷ fs) (h ∷ hs) r s p q x y e =
    let one = common_prefix Version2 f h (bytes_of fs ++ r) (bytes_of hs ++ s) (All-head (IsFrame Version2) f fs p) (All-head (IsFrame Version2) h hs q)
    (sym (append_assoc f.bytes (bytes_of fs) r) ∙ e ∙ append_assoc h.bytes (bytes_of hs) s) in
    let behind = same_said fs hs r s (All-tail (IsFrame Version2) f fs p) (All-tail (IsFrame Version2) h hs q) x y one.rest in
    λ i. one.ops i ++ behind i

-- what stands after the same greeting and a number of four bytes
after_number : (n k m l : List ℕ) → length n ≡ 4 → length k ≡ 4 → greeting ∷ (n ++ m) ≡ greeting ∷ (k ++ l) → m ≡ l
after_number n k m l four too e = let tails : n ++ m ≡ k ++ l = cc e in (same_fronts n k m l (four ∙ sym too) tails).1

-- a text with a whole greeting is longer than a front of one
said_long : (text : List ℕ) (cursor : ℕ) (ops : List Op) (rest : List ℕ) → SaysCursor text cursor ops rest → 5 ≤ length text
said_long text cursor ops rest says = omega (arith, ap length says.text_is, says.four_bytes, length-append says.number says.messages)

front_short : (text : List ℕ) → IsGreetingFront text → length text < 5
front_short [] front = omega arith
front_short (first ∷ number) front = omega (arith, front.1)

-- so what an open session said is known from its text
same_come : (text : List ℕ) (a b : List Op) → HasCome text a → HasCome text b → a ≡ b
same_come text a b (inl x) (inl y) = x.1 ∙ sym y.1
same_come text a b (inl x) (inr y) = absurd (omega (arith, said_long text y.0 b y.1 y.2, front_short text x.0))
same_come text a b (inr x) (inl y) = absurd (omega (arith, said_long text x.0 a x.1 x.2, front_short text y.0))
same_come text a b (inr x) (inr y) =
    let s : SaysCursor text x.0 a x.1 = x.2 in
    let t : SaysCursor text y.0 b y.1 = y.2 in
    let same : s.messages ≡ t.messages = after_number s.number t.number s.messages t.messages s.four_bytes t.four_bytes (sym s.text_is ∙ t.text_is) in
    s.starts.ops_are ∙ same_said s.starts.found t.starts.found x.1 y.1 s.starts.are_frames t.starts.are_frames x.3 y.3 (sym s.starts.split ∙ same ∙ t.starts.split)
    ∙ sym t.starts.ops_are

-- a text that begins a request, and what it says
module _ (s : Sending) (honest : IsHonestRequest s) where
  own_request : Asked s.cursor (taker_state s.replica)
  own_request = asked s.cursor (taker_state s.replica) honest.have_frames

  long_request : 6 ≤ length (request_for s.cursor (taker_state s.replica))
  long_request =
      let five : length (hello s.cursor) ≡ 5 = refl in
      omega (
        arith,
        five,
        ap length own_request.bytes_are,
        length-append (hello s.cursor ++ bytes_of own_request.found) closing,
        length-append (hello s.cursor) (bytes_of own_request.found),
      )

  said_of : (text left : List ℕ) (cursor : ℕ) (ops : List Op) (rest : List ℕ) → text ++ left ≡ request_for s.cursor (taker_state s.replica) → SaysCursor text cursor ops rest
      → IsLeft (given_by s.replica) ops rest left
  said_of text left cursor ops rest e says =
      let found : List Framed = own_request.found in
      let four : length (to_be_bytes w32 s.cursor) ≡ 4 = refl in
      let same : greeting ∷ (says.number ++ (says.messages ++ left)) ≡ greeting ∷ (to_be_bytes w32 s.cursor ++ (bytes_of found ++ closing)) =
      ap (λ t. greeting ∷ t) (sym (append_assoc says.number says.messages left)) ∙ ap (λ (t : List ℕ). t ++ left) (sym says.text_is) ∙ e ∙ own_request.bytes_are
      ∙ append_assoc (hello s.cursor) (bytes_of found) closing in
      let messages : says.messages ++ left ≡ bytes_of found ++ closing =
      after_number says.number (to_be_bytes w32 s.cursor) (says.messages ++ left) (bytes_of found ++ closing) says.four_bytes four same in
      let l = left_of says.starts.found found rest left says.starts.are_frames own_request.are_frames
      (sym (append_assoc (bytes_of says.starts.found) rest left) ∙ ap (λ (t : List ℕ). t ++ left) (sym says.starts.split) ∙ messages) in
      record {
        later = l.later;
        are = l.are;
        sent_are = own_request.ops_are ∙ l.sent_are ∙ ap (λ (o : List Op). o ++ ops_of l.later) (sym says.starts.ops_are);
        bytes_are = l.bytes_are;
      }

-- the log has the operation
abbrev pub IsLogged : List (List ℕ) → Op → Type 0
IsLogged log op = is_logged log (frame op) ≡ true

-- a log keeps what it has
logged_then : (log : List (List ℕ)) (op : Op) (own : List ℕ) → is_logged log own ≡ true → is_logged (with_op log op) own ≡ true
logged_then log op own t = elim (is_logged log (frame op)) as (λ b. is_logged (if b then log else log ++ frame op ∷ []) own ≡ true) [
  | true ↦ t
  | false ↦ list_any-append (pointwise nat_eq own) log (frame op ∷ []) ∙ or_left (is_logged log own) (is_logged (frame op ∷ []) own) t
]

logged_later : (log : List (List ℕ)) (ops : List Op) (own : List ℕ) → is_logged log own ≡ true → is_logged (log_with_ops log ops) own ≡ true
logged_later log [] own t = t
logged_later log (op ∷ ops) own t = logged_later (with_op log op) ops own (logged_then log op own t)

-- and has what joined it
own_logged : (log : List (List ℕ)) (op : Op) → IsLogged (with_op log op) op
own_logged log op =
    let own : List ℕ = frame op in
    elim (cases_Bool (is_logged log own)) [
      | inl t ↦ subst (λ b. is_logged (if b then log else log ++ own ∷ []) own ≡ true) (sym t) t
      | inr f ↦ subst (λ b. is_logged (if b then log else log ++ own ∷ []) own ≡ true) (sym f)
          (list_any-append (pointwise nat_eq own) log (own ∷ [])
          ∙ or_right (is_logged log own) (is_logged (own ∷ []) own) (or_left (pointwise nat_eq own own) false (nat_list_eq_equiv.refl own)))
    ]

all_logged : (log : List (List ℕ)) (ops : List Op) → All (IsLogged (log_with_ops log ops)) ops
all_logged log [] = All-nil (IsLogged log)
all_logged log (op ∷ ops) =
    All-cons (IsLogged (log_with_ops (with_op log op) ops)) op ops (logged_later (with_op log op) ops (frame op) (own_logged log op)) (all_logged (with_op log op) ops)

-- the frame is that of an operation that was sent
pub record IsOfSent (sent : List Op) (own : List ℕ) : Type 0 where
  pub op : Op
  pub is_sent : has_op sent op ≡ true
  pub own_is : own ≡ frame op

sent_then : (sent : List Op) (log : List (List ℕ)) (op : Op) → has_op sent op ≡ true → All (IsOfSent sent) log → All (IsOfSent sent) (with_op log op)
sent_then sent log op is all = elim (is_logged log (frame op)) as (λ b. All (IsOfSent sent) (if b then log else log ++ frame op ∷ [])) [
  | true ↦ all
  | false ↦ All-append (IsOfSent sent) log (frame op ∷ []) all (All-cons (IsOfSent sent) (frame op) [] (record { op = op; is_sent = is; own_is = refl }) (All-nil (IsOfSent sent)))
]

sent_later : (sent : List Op) (log : List (List ℕ)) (ops : List Op) → All (λ op. has_op sent op ≡ true) ops → All (IsOfSent sent) log → All (IsOfSent sent) (log_with_ops log ops)
sent_later sent log [] are all = all
sent_later sent log (op ∷ ops) are all =
    sent_later sent (with_op log op) ops (All-tail (λ o. has_op sent o ≡ true) op ops are) (sent_then sent log op (All-head (λ o. has_op sent o ≡ true) op ops are) all)

-- a list has its members
has_own : (ops : List Op) → All (λ op. has_op ops op ≡ true) ops
has_own [] = All-nil (λ op. has_op [] op ≡ true)
has_own (op ∷ ops) =
    All-cons (λ o. has_op (op ∷ ops) o ≡ true) op ops (or_left (op_eq op op) (has_op ops op) (op_eq-refl op))
    (All-weaker (λ o. has_op ops o ≡ true) (λ o. has_op (op ∷ ops) o ≡ true) (λ o t. or_right (op_eq op o) (has_op ops o) t) ops (has_own ops))

-- each of the senders gave operations of the list
abbrev GaveOf : List Op → Sending → Type 0
GaveOf all s = All (λ op. has_op all op ≡ true) (given_by s.replica)

gave_of_more : (front all : List Op) (s : Sending) → GaveOf all s → GaveOf (front ++ all) s
gave_of_more front all s gave =
    All-weaker (λ op. has_op all op ≡ true) (λ op. has_op (front ++ all) op ≡ true) (λ op t. has-append front all op ∙ or_right (has_op front op) (has_op all op) t)
    (given_by s.replica) gave

all_gave : (sendings : List Sending) → All (GaveOf (given_by_all (beginners sendings))) sendings
all_gave [] = All-nil (GaveOf [])
all_gave (s ∷ sendings) =
    let mine : List Op = given_by s.replica in
    let rest : List Op = given_by_all (beginners sendings) in
    All-cons (GaveOf (mine ++ rest)) s sendings
    (All-weaker (λ op. has_op mine op ≡ true) (λ op. has_op (mine ++ rest) op ≡ true) (λ op t. has-append mine rest op ∙ or_left (has_op mine op) (has_op rest op) t) mine
    (has_own mine))
    (All-weaker (GaveOf rest) (GaveOf (mine ++ rest)) (λ x gave. gave_of_more mine rest x gave) sendings (all_gave sendings))

-- all that the sender of a whole session gave is in the log
abbrev pub IsTaken : List (List ℕ) → Sending → Type 0
IsTaken log s = is_whole s ≡ true → All (IsLogged log) (given_by s.replica)

-- a log that has all of another
abbrev HasAll : (log now : List (List ℕ)) → Type 0
HasAll log now = (own : List ℕ) → is_logged log own ≡ true → is_logged now own ≡ true

taken_later : (log now : List (List ℕ)) (s : Sending) → HasAll log now → IsTaken log s → IsTaken now s
taken_later log now s more all whole = All-weaker (IsLogged log) (IsLogged now) (λ op t. more (frame op) t) (given_by s.replica) (all whole)

abbrev pieces_to : ℕ → List (List ℕ) → List Event
pieces_to n pieces = map (λ piece. Piece n piece) pieces

abbrev joined_pieces : List (List ℕ) → List ℕ
joined_pieces pieces = flat_map (λ piece. piece) pieces

-- what is left of a session's request, and of the events of its number
abbrev to_say : List (List ℕ) → Sending → List ℕ
to_say pieces s = joined_pieces pieces ++ s.unsent

abbrev to_come : ℕ → List (List ℕ) → (unsent : List ℕ) → (todo : List Sending) → List Event
to_come n pieces unsent todo = pieces_to n pieces ++ (gone_with n unsent ++ flat_map events_of todo)

-- an event of the session, and how the log and the text of the session go on
module _ (sendings : List Sending) (honest : All IsHonestRequest sendings) where
  abbrev sent : List Op
  sent = given_by_all (beginners sendings)

  abbrev with_number : ℕ → List Sending
  with_number n = filter (λ (s : Sending). nat_eq s.number n) sendings

  -- no session with the number is open: those done are in the log, and what is left of the last one is no more than pieces
  record Idle (n : ℕ) (log : List (List ℕ)) (text : Option (List ℕ)) (mine : List Event) : Type 0 where
    none : text ≡ None
    done : List Sending
    todo : List Sending
    sessions : with_number n ≡ done ++ todo
    pieces : List (List ℕ)
    events_are : mine ≡ pieces_to n pieces ++ flat_map events_of todo
    taken : All (IsTaken log) done

  -- a session is open: the log has the operations that its text says so far, and its request is not over
  record Busy (n : ℕ) (log : List (List ℕ)) (text : Option (List ℕ)) (mine : List Event) : Type 0 where
    so_far : List ℕ
    some : text ≡ Some so_far
    done : List Sending
    now : Sending
    todo : List Sending
    sessions : with_number n ≡ done ++ now ∷ todo
    pieces : List (List ℕ)
    events_are : mine ≡ to_come n pieces now.unsent todo
    request : so_far ++ to_say pieces now ≡ request_for now.cursor (taker_state now.replica)
    more : 0 < length (to_say pieces now)
    come : (ops : List Op) → HasCome so_far ops → All (IsLogged log) ops
    taken : All (IsTaken log) done

  abbrev Along : (n : ℕ) → (log : List (List ℕ)) → (text : Option (List ℕ)) → (mine : List Event) → Type 0
  Along n log text mine = Idle n log text mine ⊎ Busy n log text mine

  -- the log grows by other sessions
  along_later : (n : ℕ) (log now : List (List ℕ)) (text : Option (List ℕ)) (mine : List Event) → HasAll log now → Along n log text mine → Along n now text mine
  along_later n log now text mine more (inl a) = inl (record {
    none = a.none;
    done = a.done;
    todo = a.todo;
    sessions = a.sessions;
    pieces = a.pieces;
    events_are = a.events_are;
    taken = All-weaker (IsTaken log) (IsTaken now) (λ s t. taken_later log now s more t) a.done a.taken;
  })
  along_later n log now text mine more (inr a) = inr (record {
    so_far = a.so_far;
    some = a.some;
    done = a.done;
    now = a.now;
    todo = a.todo;
    sessions = a.sessions;
    pieces = a.pieces;
    events_are = a.events_are;
    request = a.request;
    more = a.more;
    come = λ ops c. All-weaker (IsLogged log) (IsLogged now) (λ op t. more (frame op) t) ops (a.come ops c);
    taken = All-weaker (IsTaken log) (IsTaken now) (λ s t. taken_later log now s more t) a.done a.taken;
  })

  -- the session after those that are done is one of all
  now_among : (n : ℕ) (done : List Sending) (now : Sending) (todo : List Sending) → with_number n ≡ done ++ now ∷ todo → (P : Sending → Type 0) → All P sendings → P now
  now_among n done now todo is P all =
      All-head P now todo (all_after P done (now ∷ todo) (subst (All P) is (All-filter (λ (s : Sending). nat_eq s.number n) P sendings all)))

  -- a session is opened
  opened_along : (n : ℕ) (log : List (List ℕ)) (text : Option (List ℕ)) (mine : List Event) → Along n log text (Opened n ∷ mine) → (text ≡ None) × Along n log (Some []) mine
  opened_along n log text mine (inl a) = by a.pieces a.todo a.sessions a.events_are
    where
      by : (pieces : List (List ℕ)) (todo : List Sending) → with_number n ≡ a.done ++ todo → Opened n ∷ mine ≡ pieces_to n pieces ++ flat_map events_of todo
          → (text ≡ None) × Along n log (Some []) mine
      by [] [] is e = cc e
      by (piece ∷ pieces) todo is e = cc e
      by [] (s ∷ todo) is e =
          let first : Opened n ≡ Opened s.number = cc e in
          let same : n ≡ s.number = cc first in
          let rest : mine ≡ (pieces_to s.number s.pieces ++ gone_with s.number s.unsent) ++ flat_map events_of todo = cc e in
          let w : IsHonestRequest s = now_among n a.done s todo is IsHonestRequest honest in (
            a.none,
            inr (record {
              so_far = [];
              some = refl;
              done = a.done;
              now = s;
              todo = todo;
              sessions = is;
              pieces = s.pieces;
              events_are = rest ∙ ap (λ m. (pieces_to m s.pieces ++ gone_with m s.unsent) ++ flat_map events_of todo) (sym same)
                  ∙ append_assoc (pieces_to n s.pieces) (gone_with n s.unsent) (flat_map events_of todo);
              request = w.joined;
              more = omega (arith, ap length w.joined, long_request s w);
              come = λ ops c. subst (All (IsLogged log)) (sym (same_come [] ops [] c (inl (tt, refl)))) (All-nil (IsLogged log));
              taken = a.taken;
            }),
          )
  opened_along n log text mine (inr a) = by a.pieces a.now.unsent a.more a.events_are
    where
      by : (pieces : List (List ℕ)) (unsent : List ℕ) → 0 < length (joined_pieces pieces ++ unsent) → Opened n ∷ mine ≡ to_come n pieces unsent a.todo
          → (text ≡ None) × Along n log (Some []) mine
      by [] [] more e = absurd (omega (arith, more))
      by [] (byte ∷ unsent) more e = cc e
      by (piece ∷ pieces) unsent more e = cc e

  -- a piece of a session that is not open
  idle_piece : (n : ℕ) (bytes : List ℕ) (log : List (List ℕ)) (mine : List Event) → Idle n log None (Piece n bytes ∷ mine) → Idle n log None mine
  idle_piece n bytes log mine a = by a.pieces a.todo a.sessions a.events_are
    where
      by : (pieces : List (List ℕ)) (todo : List Sending) → with_number n ≡ a.done ++ todo → Piece n bytes ∷ mine ≡ pieces_to n pieces ++ flat_map events_of todo
          → Idle n log None mine
      by [] [] is e = cc e
      by [] (s ∷ todo) is e = cc e
      by (piece ∷ pieces) todo is e = record { none = refl; done = a.done; todo = todo; sessions = is; pieces = pieces; events_are = cc e; taken = a.taken }

  -- the text of the session that a piece leaves
  abbrev text_left : List ℕ → Option (List ℕ) → Option (List ℕ)
  text_left text None = Some text
  text_left text (Some answer) = None

  -- a reply is no refusal
  abbrev IsNoRefusal : Option Reply → Type 0
  IsNoRefusal o = IfSome o (λ (reply : Reply). (code : ℕ) → reply.bytes ≢ refusal_message code)

  -- what a piece of an open session does
  record Comes (n : ℕ) (log : List (List ℕ)) (text : List ℕ) (mine : List Event) (now : List (List ℕ)) (answer : Option (List ℕ)) : Type 0 where
    along : Along n now (text_left text answer) mine
    more : HasAll log now
    within : All (IsOfSent sent) log → All (IsOfSent sent) now

  module _ (n : ℕ) (log : List (List ℕ)) (old : List ℕ) (mine : List Event) (done : List Sending) (now : Sending) (todo : List Sending) (is : with_number n ≡ done ++ now ∷ todo)
      (piece : List ℕ) (pieces : List (List ℕ))
      (events_are : mine ≡ to_come n pieces now.unsent todo) (request : (old ++ piece) ++ to_say pieces now ≡ request_for now.cursor (taker_state now.replica))
      (taken : All (IsTaken log) done)
      (before : List Op) (logged : All (IsLogged log) before) where
    abbrev text : List ℕ
    text = old ++ piece

    w : IsHonestRequest now
    w = now_among n done now todo is IsHonestRequest honest

    -- the text goes on
    goes_on : (log_now : List (List ℕ)) → HasAll log log_now → 0 < length (to_say pieces now) → ((ops : List Op) → HasCome text ops → All (IsLogged log_now) ops)
        → Along n log_now (Some text) mine
    goes_on log_now more some come = inr (record {
      so_far = text;
      some = refl;
      done = done;
      now = now;
      todo = todo;
      sessions = is;
      pieces = pieces;
      events_are = events_are;
      request = request;
      more = some;
      come = come;
      taken = All-weaker (IsTaken log) (IsTaken log_now) (λ s t. taken_later log log_now s more t) done taken;
    })

    outcome_comes : (outcome : SessionText) (limit : ℕ) → IsSessionText outcome limit log before text → IsNoRefusal (reply_with n (reply_to_text outcome log))
        → Comes n log text mine (log_after outcome log) (reply_to_text outcome log)
    outcome_comes Greets limit front good = record {
      along = goes_on log (λ own t. t) (omega (arith, ap length request, length-append text (to_say pieces now), long_request now w, front_short text front))
          (λ ops c. subst (All (IsLogged log)) (sym (same_come text ops [] c (inl (front, refl)))) (All-nil (IsLogged log)));
      more = λ own t. t;
      within = λ all. all;
    }
    outcome_comes NoGreeting limit c good = absurd (good 1 refl)
    outcome_comes Beyond limit c good = absurd (good 3 refl)
    outcome_comes (Speaks cursor new rest follows) limit c good = by follows c.3 good
      where
        l : IsLeft (given_by now.replica) (before ++ new) rest (to_say pieces now)
        l = said_of now w text (to_say pieces now) cursor (before ++ new) rest request c.0

        log_now : List (List ℕ)
        log_now = log_with_ops log new

        more : HasAll log log_now
        more own t = logged_later log new own t

        said_logged : All (IsLogged log_now) (before ++ new)
        said_logged = All-append (IsLogged log_now) before new (All-weaker (IsLogged log) (IsLogged log_now) (λ op t. more (frame op) t) before logged) (all_logged log new)

        new_sent : All (λ op. has_op sent op ≡ true) new
        new_sent =
            all_after (λ op. has_op sent op ≡ true) before new
            (all_before (λ op. has_op sent op ≡ true) (before ++ new) (ops_of l.later)
            (subst (All (λ op. has_op sent op ≡ true)) l.sent_are (now_among n done now todo is (GaveOf sent) (all_gave sendings))))

        by : (follows : FollowsFrames) → StandsInText follows limit log_now rest → IsNoRefusal (reply_with n (reply_to_text (Speaks cursor new rest follows) log))
            → Comes n log text mine (log_after (Speaks cursor new rest follows) log) (reply_to_text (Speaks cursor new rest follows) log)
        by Unfinished partial good = record {
          along = goes_on log_now more (something_left l.later rest (to_say pieces now) l.are partial l.bytes_are)
              (λ ops come. subst (All (IsLogged log_now)) (sym (same_come text ops (before ++ new) come (inr (cursor, rest, c.0, partial)))) said_logged);
          more = more;
          within = λ all. sent_later sent log new new_sent all;
        }
        by Closed ends good =
            let ended = none_later l.later ends.0 (to_say pieces now) l.are (ap (λ (t : List ℕ). t ++ to_say pieces now) (sym ends.1) ∙ l.bytes_are) in
            let given : given_by now.replica ≡ before ++ new = l.sent_are ∙ ap (λ (o : List Op). (before ++ new) ++ o) ended.0 ∙ append-nil (before ++ new) in
            let all_sent : now.unsent ≡ [] = nil_from_length now.unsent (omega (arith, ended.1, length-append (joined_pieces pieces) now.unsent)) in
            record {
              along = inl (record {
                none = refl;
                done = done ++ now ∷ [];
                todo = todo;
                sessions = is ∙ sym (append_assoc done (now ∷ []) todo);
                pieces = pieces;
                events_are = events_are ∙ ap (λ unsent. to_come n pieces unsent todo) all_sent;
                taken = All-append (IsTaken log_now) done (now ∷ []) (All-weaker (IsTaken log) (IsTaken log_now) (λ s t. taken_later log log_now s more t) done taken)
                    (All-cons (IsTaken log_now) now [] (λ _. subst (All (IsLogged log_now)) (sym given) said_logged) (All-nil (IsTaken log_now)));
              });
              more = more;
              within = λ all. sent_later sent log new new_sent all;
            }
        by Foreign stands good = absurd (good 1 refl)
        by (OneTooMany joined) stands good = absurd (good 2 refl)

  -- of a list of events, those of one session
  abbrev of_session : ℕ → List Event → List Event
  of_session n events = filter (λ event. nat_eq (session_of event) n) events

  -- where a relay stands, with the events that are left
  record IsOn (reported : LogWithTexts) (events : List Event) : Type 0 where
    along : (n : ℕ) → Along n reported.log (finite.get reported.texts n) (of_session n events)
    within : All (IsOfSent sent) reported.log

  -- only one session goes on
  module _ (old new : LogWithTexts) (event : Event) (events : List Event) (on : IsOn old (event ∷ events)) where
    abbrev at : ℕ
    at = session_of event

    here : Along at old.log (finite.get old.texts at) (event ∷ of_session at events)
    here = subst (λ b. Along at old.log (finite.get old.texts at) (cond b (event ∷ of_session at events) (of_session at events))) (eq-eqb at at refl) (on.along at)

    others_on : HasAll old.log new.log → All (IsOfSent sent) new.log → ((n : ℕ) → at ≢ n → finite.get new.texts n ≡ finite.get old.texts n)
        → Along at new.log (finite.get new.texts at) (of_session at events) → IsOn new events
    others_on more within others mine = record { along = λ n. by n (nat_eq at n) refl; within = within }
      where
        by : (n : ℕ) (b : Bool) → nat_eq at n ≡ b → Along n new.log (finite.get new.texts n) (of_session n events)
        by n true t = subst (λ k. Along k new.log (finite.get new.texts k) (of_session k events)) (eqb-true at n t) mine
        by n false f =
            let other : at ≢ n = λ e. true≢false (sym (eq-eqb at n e) ∙ f) in
            let past : Along n old.log (finite.get old.texts n) (of_session n events) =
            subst (λ b. Along n old.log (finite.get old.texts n) (cond b (event ∷ of_session n events) (of_session n events))) f (on.along n) in
            along_later n old.log new.log (finite.get new.texts n) (of_session n events) more
            (subst (λ (t : Option (List ℕ)). Along n old.log t (of_session n events)) (sym (others n other)) past)

  inserted_here : (texts : OpenTexts) (n : ℕ) (text : List ℕ) → finite.get (finite.insert texts n text) n ≡ Some text
  inserted_here texts n text = get-insert nat_cmp_total texts n text n ∙ ap (λ b. cond b (Some text) (finite.get texts n)) (nat_at-same n)

  inserted_other : (texts : OpenTexts) (k : ℕ) (text : List ℕ) (n : ℕ) → k ≢ n → finite.get (finite.insert texts k text) n ≡ finite.get texts n
  inserted_other texts k text n other = get-insert nat_cmp_total texts k text n ∙ ap (λ b. cond b (Some text) (finite.get texts n)) (nat_at-other n k other)

  after_here : (texts : OpenTexts) (n : ℕ) (text : List ℕ) (answer : Option (List ℕ)) → finite.get (texts_after n texts text answer) n ≡ text_left text answer
  after_here texts n whole None = inserted_here texts n whole
  after_here texts n whole (Some bytes) = get-remove nat_cmp_total texts n n ∙ ap (λ b. cond b None (finite.get texts n)) (nat_at-same n)

  after_other : (texts : OpenTexts) (k : ℕ) (text : List ℕ) (answer : Option (List ℕ)) (n : ℕ) → k ≢ n → finite.get (texts_after k texts text answer) n ≡ finite.get texts n
  after_other texts k whole None n other = inserted_other texts k whole n other
  after_other texts k whole (Some bytes) n other = get-remove nat_cmp_total texts k n ∙ ap (λ b. cond b None (finite.get texts n)) (nat_at-other n k other)

  -- an event goes on so
  step_on : (limit : ℕ) (old new : LogWithTexts) (event : Event) (events : List Event) (reply : Option Reply) → Tells limit old event new reply → IsNoRefusal reply
      → IsOn old (event ∷ events) → IsOn new events
  step_on limit old new (Opened n) events reply t good on =
      let begun = opened_along n old.log (finite.get old.texts n) (of_session n events) (here old new (Opened n) events on) in
      let texts_are : new.texts ≡ finite.insert old.texts n [] =
      ap (λ (u : LogWithTexts). u.texts) t.0 ∙ ap (λ o. if is_some o then old.texts else finite.insert old.texts n []) begun.0 in
      let log_is : new.log ≡ old.log = ap (λ (u : LogWithTexts). u.log) t.0 in
      others_on old new (Opened n) events on (λ own l. ap (λ k. is_logged k own) log_is ∙ l) (subst (All (IsOfSent sent)) (sym log_is) on.within)
      (λ k other. ap (λ u. finite.get u k) texts_are ∙ inserted_other old.texts n [] k other)
      (subst (λ l. Along n l (finite.get new.texts n) (of_session n events)) (sym log_is)
      (subst (λ (o : Option (List ℕ)). Along n old.log o (of_session n events)) (sym (ap (λ u. finite.get u n) texts_are ∙ inserted_here old.texts n [])) begun.1))
  step_on limit old new (Piece n bytes) events reply t good on = by (finite.get old.texts n) refl (here old new (Piece n bytes) events on) t
    where
      mine : List Event
      mine = of_session n events

      open_on : (text : List ℕ) → finite.get old.texts n ≡ Some text → Busy n old.log (Some text) (Piece n bytes ∷ mine) → TellsPiece limit old n text bytes new reply
          → IsOn new events
      open_on text is b h = by_pieces b.pieces b.more b.events_are b.request
        where
          same : text ≡ b.so_far
          same = cc b.some

          no_piece : (unsent : List ℕ) → 0 < length unsent → Piece n bytes ∷ mine ≡ to_come n [] unsent b.todo → IsOn new events
          no_piece [] more e = absurd (omega (arith, more))
          no_piece (byte ∷ unsent) more e = cc e

          by_pieces : (pieces : List (List ℕ)) → 0 < length (to_say pieces b.now) → Piece n bytes ∷ mine ≡ to_come n pieces b.now.unsent b.todo
              → b.so_far ++ to_say pieces b.now ≡ request_for b.now.cursor (taker_state b.now.replica) → IsOn new events
          by_pieces [] more e r = no_piece b.now.unsent more e
          by_pieces (piece ∷ pieces) more e r =
              let one : Piece n bytes ≡ Piece n piece = cc e in
              let piece_is : bytes ≡ piece = cc one in
              let rest : mine ≡ to_come n pieces b.now.unsent b.todo = cc e in
              let asks : (text ++ bytes) ++ to_say pieces b.now ≡ request_for b.now.cursor (taker_state b.now.replica) =
              (λ i. (same i ++ piece_is i) ++ to_say pieces b.now) ∙ append_assoc b.so_far piece (to_say pieces b.now)
              ∙ ap (λ t. b.so_far ++ t) (sym (append_assoc piece (joined_pieces pieces) b.now.unsent)) ∙ r in
              let logged : All (IsLogged old.log) h.comes.before = b.come h.comes.before (subst (λ t. HasCome t h.comes.before) same h.comes.has_come) in
              let allowed : IsNoRefusal (reply_with n (reply_to_text h.comes.session_text old.log)) = subst IsNoRefusal (h.reply_is ∙ ap (reply_with n) h.comes.answer_is) good in
              let c = outcome_comes n old.log text mine b.done b.now b.todo b.sessions bytes pieces rest asks b.taken h.comes.before logged h.comes.session_text
              limit h.comes.is_session_text
              allowed in
              let log_is : log_after h.comes.session_text old.log ≡ new.log = sym h.comes.log_is in
              let left : finite.get new.texts n ≡ text_left (text ++ bytes) (reply_to_text h.comes.session_text old.log) =
              ap (λ u. finite.get u n) h.texts_are ∙ after_here old.texts n (text ++ bytes) h.answer ∙ ap (text_left (text ++ bytes)) h.comes.answer_is in
              others_on old new (Piece n bytes) events on (λ own l. ap (λ k. is_logged k own) (sym log_is) ∙ c.more own l) (subst (All (IsOfSent sent)) log_is (c.within on.within))
              (λ k other. ap (λ u. finite.get u k) h.texts_are ∙ after_other old.texts n (text ++ bytes) h.answer k other)
              (subst (λ l. Along n l (finite.get new.texts n) mine) log_is
              (subst (λ (o : Option (List ℕ)). Along n (log_after h.comes.session_text old.log) o mine) (sym left) c.along))

      by : (text : Option (List ℕ)) → finite.get old.texts n ≡ text → Along n old.log text (Piece n bytes ∷ mine) → TellsTo limit old n text bytes new reply → IsOn new events
      by None is (inl a) h =
          let same : old ≡ new = sym h.0 in
          subst (λ (u : LogWithTexts). IsOn u events) same
          (others_on old old (Piece n bytes) events on (λ own l. l) on.within (λ k other. refl)
          (subst (λ (o : Option (List ℕ)). Along n old.log o mine) (sym is) (inl (idle_piece n bytes old.log mine a))))
      by None is (inr b) h = cc b.some
      by (Some text) is (inl a) h = cc a.none
      by (Some text) is (inr b) h = open_on text is b h
  step_on limit old new (Gone n) events reply t good on = by (here old new (Gone n) events on)
    where
      mine : List Event
      mine = of_session n events

      texts_are : new.texts ≡ finite.remove old.texts n
      texts_are = ap (λ (u : LogWithTexts). u.texts) t.0

      log_is : new.log ≡ old.log
      log_is = ap (λ (u : LogWithTexts). u.log) t.0

      closed_on : Along n old.log None mine → IsOn new events
      closed_on a =
          others_on old new (Gone n) events on (λ own l. ap (λ k. is_logged k own) log_is ∙ l) (subst (All (IsOfSent sent)) (sym log_is) on.within)
          (λ k other. ap (λ u. finite.get u k) texts_are ∙ after_other old.texts n [] (Some []) k other)
          (subst (λ l. Along n l (finite.get new.texts n) mine) (sym log_is)
          (subst (λ (o : Option (List ℕ)). Along n old.log o mine) (sym (ap (λ u. finite.get u n) texts_are ∙ after_here old.texts n [] (Some []))) a))

      not_gone : (pieces : List (List ℕ)) (todo : List Sending) → Gone n ∷ mine ≡ pieces_to n pieces ++ flat_map events_of todo → IsOn new events
      not_gone [] [] e = cc e
      not_gone [] (s ∷ todo) e = cc e
      not_gone (piece ∷ pieces) todo e = cc e

      broken_off : (text : Option (List ℕ)) → (b : Busy n old.log text (Gone n ∷ mine)) → (pieces : List (List ℕ)) (unsent : List ℕ) → b.now.unsent ≡ unsent
          → 0 < length (joined_pieces pieces ++ unsent)
          → Gone n ∷ mine ≡ to_come n pieces unsent b.todo → IsOn new events
      broken_off text b [] [] is more e = absurd (omega (arith, more))
      broken_off text b (piece ∷ pieces) unsent is more e = cc e
      broken_off text b [] (byte ∷ unsent) is more e =
          closed_on (inl (record {
            none = refl;
            done = b.done ++ b.now ∷ [];
            todo = b.todo;
            sessions = b.sessions ∙ sym (append_assoc b.done (b.now ∷ []) b.todo);
            pieces = [];
            events_are = cc e;
            taken = All-append (IsTaken old.log) b.done (b.now ∷ []) b.taken
                (All-cons (IsTaken old.log) b.now [] (λ whole. absurd (omega (arith, ap length is, eqb-true (length b.now.unsent) 0 whole))) (All-nil (IsTaken old.log)));
          }))

      by : Along n old.log (finite.get old.texts n) (Gone n ∷ mine) → IsOn new events
      by (inl a) = not_gone a.pieces a.todo a.events_are
      by (inr b) = broken_off (finite.get old.texts n) b b.pieces b.now.unsent refl b.more b.events_are

  -- and so to the end
  run_on : (limit : ℕ) (old new : LogWithTexts) (events : List Event) (replies : List (Option Reply)) → TellsAll limit old events new replies → NoneRefused replies
      → IsOn old events → IsOn new []
  run_on limit old new [] replies t good on = subst (λ (u : LogWithTexts). IsOn u []) (sym t.0) on
  run_on limit old new (event ∷ events) replies t good on =
      let goods : NoneRefused (t.1 ∷ t.2) = subst NoneRefused t.5 good in
      run_on limit t.0 new events t.2 t.4 (All-tail IsNoRefusal t.1 t.2 goods) (step_on limit old t.0 event events t.1 t.3 (All-head IsNoRefusal t.1 t.2 goods) on)

  -- before any event
  begun_on : (events : List Event) → AreInterleaved sendings events → IsOn no_log_texts events
  begun_on events each = record {
    along = λ n. inl (record { none = get-empty nat_cmp n; done = []; todo = with_number n; sessions = refl; pieces = []; events_are = each n; taken = All-nil (IsTaken []) });
    within = All-nil (IsOfSent sent);
  }

  -- after all of them
  all_done : (n : ℕ) (log : List (List ℕ)) (text : Option (List ℕ)) → Along n log text [] → All (IsTaken log) (with_number n)
  all_done n log text (inl a) = by a.pieces a.todo a.sessions a.events_are
    where
      by : (pieces : List (List ℕ)) (todo : List Sending) → with_number n ≡ a.done ++ todo → [] ≡ pieces_to n pieces ++ flat_map events_of todo → All (IsTaken log) (with_number n)
      by [] [] is e = subst (All (IsTaken log)) (sym (is ∙ append-nil a.done)) a.taken
      by [] (s ∷ todo) is e = cc e
      by (piece ∷ pieces) todo is e = cc e
  all_done n log text (inr a) = by a.pieces a.now.unsent a.more a.events_are
    where
      by : (pieces : List (List ℕ)) (unsent : List ℕ) → 0 < length (joined_pieces pieces ++ unsent) → [] ≡ to_come n pieces unsent a.todo → All (IsTaken log) (with_number n)
      by [] [] more e = absurd (omega (arith, more))
      by [] (byte ∷ unsent) more e = cc e
      by (piece ∷ pieces) unsent more e = cc e

  -- the log has all that was given in whole sessions, and nothing but what the senders gave
  pub record IsGathered (log : List (List ℕ)) : Type 0 where
    pub taken : All (IsTaken log) sendings
    pub within : All (IsOfSent (given_by_all (beginners sendings))) log

  pub gathered : (limit : ℕ) (events : List Event) (relay : Relay) (replies : List (Option Reply)) → AreInterleaved sendings events
      → RelayRuns (new_relay limit) events relay replies → NoneRefused replies → IsGathered relay.log
  gathered limit events relay replies each runs good =
      let reported = (sessions_by_whole_texts.exactly limit events relay.log replies).0 (relay, runs, refl) in
      let on : IsOn reported.0 [] = run_on limit no_log_texts reported.0 events replies reported.1 good (begun_on events each) in
      let own : All (λ (s : Sending). IsTaken reported.0.log s) sendings =
      all_weaker_at IsHonestRequest (IsTaken reported.0.log) sendings (λ s among w.
      All-contains (λ (x : Sending). nat_eq x.number s.number ≡ true → IsTaken reported.0.log x) sendings s
      (all_from_filter (λ (x : Sending). nat_eq x.number s.number) (IsTaken reported.0.log) sendings
      (all_done s.number reported.0.log (finite.get reported.0.texts s.number) (on.along s.number)))
      among (eq-eqb s.number s.number refl)) honest in
      record { taken = subst (λ l. All (IsTaken l) sendings) reported.2 own; within = subst (All (IsOfSent sent)) reported.2 on.within }
