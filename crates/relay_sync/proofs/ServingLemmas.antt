-- Turns of serving one after the other, whole and up to a fault.
use Rattle.std.proofs.Common.{[], List, ap, append_assoc, arith, length, inl, inr, length-append, refl, subst, sym, take, ℕ, ◌+◌, ◌++◌, ◌<◌, ◌≤◌, ◌∙◌, ◌∷◌, ◌-◌, ◌≡◌, ◌≢◌, ◌⊎◌}
use Rattle.std.specs.Prelude.{IfSome, None, Option, Some, map, option_map}
use Rattle.std.specs.Io.KnownBytes.{append_known}
use Rattle.std.proofs.str.Laws.{order}
use Rattle.std.proofs.Math.Seq.{take-append-add, take-append_seam}
use Rattle.std.proofs.lemmas.List.{append-nil, map-append, take-append-le, take_all}
use Rattle.std.proofs.lemmas.List.Concat.{flat_map-append}
use Rattle.fugue_ids.specs.Outs.{OutView, room_after, Took, TookFront}
use Rattle.fugue_ids.proofs.JoinLemmas.{append_known-twice, took_joins, took_none}
use Rattle.origin_model.specs.declared.relay.Reply.{Reply}
use Rattle.origin_model.specs.relay.Relay.{Relay, RelayRuns, RelaySteps}
use Rattle.origin_model.proofs.SharedLemmas.{runs-append, step_runs}
use Rattle.outer_ports.specs.dock.Docks.{DockView, SendsNothing, TakesNothing, out_to}
use Rattle.outer_ports.specs.declared.dock.MemStep.{MemStep}
use Rattle.relay_sync.specs.Sending.{GivesSteps, LastsFor, Replied, RepliedPartly}
use Rattle.relay_sync.specs.Serving.{HaveCome, ended_in, ended_with, GaveSteps, HasRoomFor, Lasts, NoneAfter, Serves, ServesPartly, ServingStops, Spends, ends_after, ServedStep}
use Rattle.relay_sync.specs.Serving.{TurnStops, bytes_to, closed_by, closed_in, count_over, event_of, over_after, replies_of, sent_to, steps_of}
use Rattle.relay_sync.specs.declared.serving.ServeFault.{ServeFault}
use Rattle.relay_sync.specs.declared.serving.ServeFault.TheVariants.{DockFault, NoMemory, TooLong}
use Rattle.relay_sync.proofs.SendingLemmas.{ends_none, grows_none, sure_is}

-- a known list that grows twice
grows_twice : {T : Type 0} (known : Option (List T)) (a b : List T) → option_map (λ xs. xs ++ b) (option_map (λ xs. xs ++ a) known) ≡ option_map (λ xs. xs ++ (a ++ b)) known
grows_twice None a b = refl
grows_twice (Some xs) a b = ap Some (append_assoc xs a b)

comes-append : (a b c : Option (List MemStep)) (xs ys : List MemStep) → HaveCome a xs b → HaveCome b ys c → HaveCome a (xs ++ ys) c
comes-append a b c [] ys h i = subst (λ s. HaveCome s ys c) h i
comes-append a b c (x ∷ xs) ys h i = (h.0, h.1, comes-append h.0 b c xs ys h.2 i)

-- a front after a whole part
front_after : (u v w : OutView) (a b : List ℕ) → Took u v a → TookFront v w b → TookFront u w (a ++ b)
front_after u v w a b s t = record {
  count = length a + t.count;
  within = omega (arith, t.within, length-append a b);
  took = subst (Took u w) (sym (take-append-add a b t.count)) (took_joins u v w a (take t.count b) s t.took);
}

-- steps one after the other
pub gave-append : (a b c : DockView) (xs ys : List MemStep) → GaveSteps a b xs → GaveSteps b c ys → GaveSteps a c (xs ++ ys)
gave-append a b c xs ys h i =
    record { taken = i.taken ∙ ap (option_map (λ steps. steps ++ ys)) h.taken ∙ grows_twice a.taken xs ys; comes = comes-append a.coming b.coming c.coming xs ys h.comes i.comes }

gave_none : (a b : DockView) → TakesNothing a b → GaveSteps a b []
gave_none a b h = record { taken = h.taken ∙ grows_none a.taken; comes = h.coming }

-- a view in the place of one with the same content
sent_after : (a b : DockView) → SendsNothing a b → (session : ℕ) → Took (out_to session a) (out_to session b) []
sent_after a b h session = took_none (out_to session a) (out_to session b) (h.sent session) (h.room session)

turns-append : (xs ys : List ServedStep) → steps_of (xs ++ ys) ≡ steps_of xs ++ steps_of ys
turns-append xs ys = map-append (λ (t : ServedStep). t.step) xs ys

runs-turns : (a b c : Relay) (xs ys : List ServedStep) → RelayRuns a (map event_of (steps_of xs)) b (replies_of xs) → RelayRuns b (map event_of (steps_of ys)) c (replies_of ys)
    → RelayRuns a (map event_of (steps_of (xs ++ ys))) c (replies_of (xs ++ ys))
runs-turns a b c xs ys h i =
    rw (turns-append xs ys, map-append event_of (steps_of xs) (steps_of ys), map-append (λ (t : ServedStep). t.reply) xs ys)
    (runs-append (map event_of (steps_of xs)) (map event_of (steps_of ys)) a b c (replies_of xs) (replies_of ys) h i)

sent-append : (session : ℕ) (xs ys : List ServedStep) → sent_to session (xs ++ ys) ≡ sent_to session xs ++ sent_to session ys
sent-append session xs ys = flat_map-append (λ (t : ServedStep). bytes_to session t.reply) xs ys

closed-append : (xs ys : List ServedStep) → closed_in (xs ++ ys) ≡ closed_in xs ++ closed_in ys
closed-append xs ys = flat_map-append (λ (t : ServedStep). closed_by t.reply) xs ys

ends_twice : (ends : Option ℕ) (a b : List ℕ) → ends_after b (ends_after a ends) ≡ ends_after (a ++ b) ends
ends_twice None a b = refl
ends_twice (Some n) a b = ap Some (omega (arith, length-append a b))

-- room for two parts: for the first, and then for the second
module _ (x : DockView) (all a b : ℕ → List ℕ) (closed c d : List ℕ) (parts : (session : ℕ) → all session ≡ a session ++ b session) (ends_are : closed ≡ c ++ d)
    (h : HasRoomFor x all closed) where
  pub room_first : HasRoomFor x a c
  room_first = record {
    room = λ session.
        let r = h.room session in
        (r.0, r.1, omega (arith, r.2, ap length (parts session), length-append (a session) (b session)));
    ends = (h.ends.0, h.ends.1, omega (arith, h.ends.2, ap length ends_are, length-append c d));
  }

  room_then : (y : DockView) → ((session : ℕ) → y.room session ≡ room_after (length (a session)) (x.room session)) → y.ends ≡ ends_after c x.ends → HasRoomFor y b d
  room_then y rooms ends = record {
    room = λ session.
        let r = h.room session in (
          r.0 - length (a session),
          rooms session ∙ ap (room_after (length (a session))) r.1,
          omega (arith, r.2, ap length (parts session), length-append (a session) (b session)),
        );
    ends = (h.ends.0 - length c, ends ∙ ap (ends_after c) h.ends.1, omega (arith, h.ends.2, ap length ends_are, length-append c d));
  }

lasts_first : (x : DockView) (us vs : List ServedStep) → Lasts x (us ++ vs) → Lasts x us
lasts_first x us vs lasts =
    room_first x (λ session. sent_to session (us ++ vs)) (λ session. sent_to session us) (λ session. sent_to session vs) (closed_in (us ++ vs)) (closed_in us) (closed_in vs)
    (λ session. sent-append session us vs) (closed-append us vs) lasts

lasts_then : (a b : Relay) (x y : DockView) (us vs : List ServedStep) → Serves a b x y us → Lasts x (us ++ vs) → Lasts y vs
lasts_then a b x y us vs h lasts =
    room_then x (λ session. sent_to session (us ++ vs)) (λ session. sent_to session us) (λ session. sent_to session vs) (closed_in (us ++ vs)) (closed_in us) (closed_in vs)
    (λ session. sent-append session us vs) (closed-append us vs) lasts y (λ session. (h.sent session).room) h.ends

lasts_reply : (x y : DockView) (step : MemStep) (reply : Option Reply) → GivesSteps x y (step ∷ []) → Lasts x (record { step = step; reply = reply } ∷ []) → LastsFor y reply
lasts_reply x y step reply g lasts =
    room_then x (λ session. bytes_to session reply ++ []) (λ session. []) (λ session. bytes_to session reply) (closed_by reply ++ []) [] (closed_by reply)
    (λ session. append-nil (bytes_to session reply)) (append-nil (closed_by reply)) lasts y (λ session. (sent_after x y g.nothing_sent session).room) (g.ends ∙ ends_none x.ends)

-- calls before which no fault was counted
spends_after : (fault : ServeFault) (more : List MemStep) (x y z : DockView) → y.faults ≡ x.faults → Spends fault more y z → Spends fault more x z
spends_after DockFault more x y z same s = s
spends_after TooLong more x y z same s = s ∙ same
spends_after NoMemory more x y z same s = s ∙ same

spends_none : (fault : ServeFault) (more : List MemStep) (x y : DockView) → fault ≢ DockFault → y.faults ≡ x.faults → Spends fault more x y
spends_none DockFault more x y other same = absurd (other refl)
spends_none TooLong more x y other same = same
spends_none NoMemory more x y other same = same

known_none : (known : Option (List ℕ)) → known ≡ append_known known []
known_none None = refl
known_none (Some xs) = ap Some (sym (append-nil xs))

-- turns after turns, by what was sent in those before
ended-append : (sent : ℕ → Option (List ℕ)) (counts : Option (List ℕ)) (us vs : List ServedStep)
    → ended_in sent counts (us ++ vs) ≡ ended_in (λ session. append_known (sent session) (sent_to session us)) (ended_in sent counts us) vs
ended-append sent counts [] vs = λ i. ended_in (λ session. known_none (sent session) i) counts vs
ended-append sent counts (u ∷ us) vs =
    let now : ℕ → Option (List ℕ) = λ session. append_known (sent session) (bytes_to session u.reply) in
    let behind : Option (List ℕ) = ended_with now u.reply counts in
    ended-append now behind us vs ∙ (λ i. ended_in (λ session. append_known-twice (sent session) (bytes_to session u.reply) (sent_to session us) i) (ended_in now behind us) vs)

-- nothing was served yet
pub serves_none : (relay : Relay) (dock : DockView) → Serves relay relay dock dock []
serves_none relay dock = record {
  runs = (refl, refl);
  gave = gave_none dock dock (record { taken = refl; coming = refl });
  sent = λ session. took_none (out_to session dock) (out_to session dock) refl refl;
  ended = grows_none dock.ended;
  ended_at = refl;
  ends = ends_none dock.ends;
  listens = refl;
  later = omega arith;
  counts_no_fault = λ h. refl;
}

-- turns after turns
pub serves-append : (a b c : Relay) (x y z : DockView) (us vs : List ServedStep) → Serves a b x y us → Serves b c y z vs → Serves a c x z (us ++ vs)
serves-append a b c x y z us vs h i = record {
  runs = runs-turns a b c us vs h.runs i.runs;
  gave = rw (turns-append us vs) (gave-append x y z (steps_of us) (steps_of vs) h.gave i.gave);
  sent = λ session. rw (sent-append session us vs)
      (took_joins (out_to session x) (out_to session y) (out_to session z) (sent_to session us) (sent_to session vs) (h.sent session) (i.sent session));
  ended = rw (closed-append us vs) (i.ended ∙ ap (option_map (λ ended. ended ++ closed_in vs)) h.ended ∙ grows_twice x.ended (closed_in us) (closed_in vs));
  ended_at = i.ended_at ∙ (λ j. ended_in (λ session. (h.sent session).written j) (h.ended_at j) vs) ∙ sym (ended-append x.sent x.ended_at us vs);
  ends = rw (closed-append us vs) (i.ends ∙ ap (ends_after (closed_in vs)) h.ends ∙ ends_twice x.ends (closed_in us) (closed_in vs));
  listens = i.listens ∙ h.listens;
  later = omega (arith, h.later, i.later);
  counts_no_fault = λ lasts. i.counts_no_fault (lasts_then a b x y us vs h lasts) ∙ h.counts_no_fault (lasts_first x us vs lasts);
}

-- turns, and then a fault
abbrev partly-append : (fault : ServeFault) (a b c : Relay) (x y z : DockView) (us vs : List ServedStep) → Serves a b x y us → ServesPartly fault b c y z vs
    → ServesPartly fault a c x z (us ++ vs)
partly-append fault a b c x y z us vs h i = record {
  more = i.more;
  few = i.few;
  runs = runs-turns a b c us vs h.runs i.runs;
  gave = rw (turns-append us vs, append_assoc (steps_of us) (steps_of vs) i.more) (gave-append x y z (steps_of us) (steps_of vs ++ i.more) h.gave i.gave);
  sent = λ session.
      rw (sent-append session us vs)
      (front_after (out_to session x) (out_to session y) (out_to session z) (sent_to session us) (sent_to session vs) (h.sent session) (i.sent session));
  ended = record {
    count = length (closed_in us) + i.ended.count;
    ended = rw (closed-append us vs, take-append-add (closed_in us) (closed_in vs) i.ended.count)
        (i.ended.ended ∙ ap (option_map (λ ended. ended ++ take i.ended.count (closed_in vs))) h.ended ∙ grows_twice x.ended (closed_in us) (take i.ended.count (closed_in vs)));
  };
  listens = i.listens ∙ h.listens;
  later = omega (arith, h.later, i.later);
  counts_no_fault = λ lasts. spends_after fault i.more x y z (h.counts_no_fault (lasts_first x us vs lasts)) (i.counts_no_fault (lasts_then a b x y us vs h lasts));
}

front_all : (v w : OutView) (bytes : List ℕ) → Took v w bytes → TookFront v w bytes
front_all v w bytes t = record { count = length bytes; within = omega arith; took = subst (Took v w) (sym (take_all (length bytes) bytes (omega arith))) t }

-- whole turns, seen as up to a fault
abbrev whole_partly : (fault : ServeFault) (a b : Relay) (x y : DockView) (turns : List ServedStep) → fault ≢ DockFault → Serves a b x y turns → ServesPartly fault a b x y turns
whole_partly fault a b x y turns other h = record {
  more = [];
  few = omega arith;
  runs = h.runs;
  gave = rw (append-nil (steps_of turns)) h.gave;
  sent = λ session. front_all (out_to session x) (out_to session y) (sent_to session turns) (h.sent session);
  ended = record { count = length (closed_in turns); ended = rw (take_all (length (closed_in turns)) (closed_in turns) (omega arith)) h.ended };
  listens = h.listens;
  later = h.later;
  counts_no_fault = λ lasts. spends_none fault [] x y other (h.counts_no_fault lasts);
}

-- steps of which the relay heard none
abbrev unheard_partly : (fault : ServeFault) (a b : Relay) (x y : DockView) (steps : List MemStep) → b ≡ a → GivesSteps x y steps → length steps ≤ 1
    → IfSome x.ends (λ ends. Spends fault steps x y)
    → ServesPartly fault a b x y []
unheard_partly fault a b x y steps same h few spent = record {
  more = steps;
  few = few;
  runs = (same, refl);
  gave = h.gave;
  sent = λ session. front_all (out_to session x) (out_to session y) [] (sent_after x y h.nothing_sent session);
  ended = record { count = 0; ended = h.ended ∙ grows_none x.ended };
  listens = h.listens;
  later = h.later;
  counts_no_fault = λ lasts. sure_is (λ ends. Spends fault steps x y) x.ends lasts.ends.0 lasts.ends.1 spent;
}

-- a step whose reply was sent
pub turn_serves : (a b : Relay) (x y z : DockView) (step : MemStep) (reply : Option Reply) → GivesSteps x y (step ∷ []) → IfSome x.ends (λ ends. y.faults ≡ x.faults)
    → RelaySteps a (event_of step) b reply → Replied y z reply
    → Serves a b x z (record { step = step; reply = reply } ∷ [])
turn_serves a b x y z step reply g sure s r = record {
  runs = step_runs (event_of step) a b reply s;
  gave = subst (GaveSteps x z) (append-nil (step ∷ [])) (gave-append x y z (step ∷ []) [] g.gave (gave_none y z r.nothing_taken));
  sent = λ session.
      rw (append-nil (bytes_to session reply))
      (took_joins (out_to session x) (out_to session y) (out_to session z) [] (bytes_to session reply) (sent_after x y g.nothing_sent session) (r.sent session));
  ended = rw (append-nil (closed_by reply)) (r.ended ∙ ap (option_map (λ ended. ended ++ closed_by reply)) g.ended);
  ended_at = r.ended_at ∙ (λ j. ended_with
      (λ session. ((r.sent session).written ∙ ap (λ (known : Option (List ℕ)). append_known known (bytes_to session reply)) (g.nothing_sent.sent session)) j) reply (g.ended_at j));
  ends = rw (append-nil (closed_by reply)) (r.ends ∙ ap (ends_after (closed_by reply)) g.ends);
  listens = r.listens ∙ g.listens;
  later = omega (arith, g.later, r.later);
  counts_no_fault = λ lasts. r.counts_no_fault (lasts_reply x y step reply g lasts) ∙ sure_is (λ ends. y.faults ≡ x.faults) x.ends lasts.ends.0 lasts.ends.1 sure;
}

-- or up to a fault
abbrev turn_partly : (fault : ServeFault) (a b : Relay) (x y z : DockView) (step : MemStep) (reply : Option Reply) → GivesSteps x y (step ∷ [])
    → IfSome x.ends (λ ends. y.faults ≡ x.faults)
    → RelaySteps a (event_of step) b reply → RepliedPartly fault y z reply → ServesPartly fault a b x z (record { step = step; reply = reply } ∷ [])
turn_partly fault a b x y z step reply g sure s r = record {
  more = [];
  few = omega arith;
  runs = step_runs (event_of step) a b reply s;
  gave = gave-append x y z (step ∷ []) [] g.gave (gave_none y z r.nothing_taken);
  sent = λ session.
      rw (append-nil (bytes_to session reply))
      (front_after (out_to session x) (out_to session y) (out_to session z) [] (bytes_to session reply) (sent_after x y g.nothing_sent session) (r.sent session));
  ended = record {
    count = r.ended.count;
    ended = rw (append-nil (closed_by reply))
        (r.ended.ended ∙ ap (option_map (λ ended. ended ++ take r.ended.count (closed_by reply))) g.ended);
  };
  listens = r.listens ∙ g.listens;
  later = omega (arith, g.later, r.later);
  counts_no_fault = λ lasts.
      let for = lasts_reply x y step reply g lasts in
      spends_none fault [] x z (r.sure for) (r.counts_no_fault for ∙ sure_is (λ ends. y.faults ≡ x.faults) x.ends lasts.ends.0 lasts.ends.1 sure);
}

-- a turn that stopped before the relay heard a step
pub unheard_stops : (fault : ServeFault) (a b : Relay) (x y : DockView) (steps : List MemStep) → b ≡ a → GivesSteps x y steps → length steps ≤ 1
    → IfSome x.ends (λ ends. Spends fault steps x y) → TurnStops fault a b x y
unheard_stops fault a b x y steps same h few spent =
    record {
      turns = [];
      partly = unheard_partly fault a b x y steps same h few spent;
      few = (let f : 0 + length steps ≤ 1 = omega (arith, few) in f);
      none_begun = λ lasts is. refl;
    }

-- as the reply was sent
pub reply_stops : (fault : ServeFault) (a b : Relay) (x y z : DockView) (step : MemStep) (reply : Option Reply) → GivesSteps x y (step ∷ [])
    → IfSome x.ends (λ ends. y.faults ≡ x.faults)
    → RelaySteps a (event_of step) b reply → RepliedPartly fault y z reply → TurnStops fault a b x z
reply_stops fault a b x y z step reply g sure s r = record {
  turns = record { step = step; reply = reply } ∷ [];
  partly = turn_partly fault a b x y z step reply g sure s r;
  few = let f : 1 + 0 ≤ 1 = omega arith in f;
  none_begun = λ lasts is. absurd (r.sure (lasts_reply x y step reply g lasts) is);
}

-- or after it
pub turn_stops : (fault : ServeFault) (a b : Relay) (x y : DockView) (turn : ServedStep) → fault ≢ DockFault → Serves a b x y (turn ∷ []) → TurnStops fault a b x y
turn_stops fault a b x y turn other h =
    record { turns = turn ∷ []; partly = whole_partly fault a b x y (turn ∷ []) other h; few = (let f : 1 + 0 ≤ 1 = omega arith in f); none_begun = λ lasts is. absurd (other is) }

-- or before the next one
abbrev none_stops : (relay : Relay) (dock : DockView) → TurnStops TooLong relay relay dock dock
none_stops relay dock = record {
  turns = [];
  partly = whole_partly TooLong relay relay dock dock [] (λ is. cc is) (serves_none relay dock);
  few = let f : 0 + 0 ≤ 1 = omega arith in f;
  none_begun = λ lasts is. refl;
}

pub over-append : (us vs : List ServedStep) (over : List ℕ) → over_after over (us ++ vs) ≡ over_after (over_after over us) vs
over-append [] vs over = refl
over-append (u ∷ us) vs over = over-append us vs (over_after over (u ∷ []))

-- no turn yet
pub none_before : (sessions : ℕ) → (count : ℕ) → count < 0 → count_over (take count []) < sessions
none_before sessions count below = absurd (omega (arith, below))

-- the front of a list with one more
take-more : (turns : List ServedStep) (turn : ServedStep) (count : ℕ) → count < length (turns ++ turn ∷ []) → (count < length turns) ⊎ (take count (turns ++ turn ∷ []) ≡ turns)
take-more turns turn count below = by (order count (length turns))
  where
    by : (count < length turns) ⊎ (length turns ≤ count) → (count < length turns) ⊎ (take count (turns ++ turn ∷ []) ≡ turns)
    by (inl p) = inl p
    by (inr p) =
        let same : count ≡ length turns = omega (arith, p, below, length-append turns (turn ∷ [])) in
        inr (ap (λ n. take n (turns ++ turn ∷ [])) same ∙ take-append_seam turns (turn ∷ []))

-- one turn more, where fewer sessions were over before it
pub none_after : (sessions : ℕ) (turns : List ServedStep) (turn : ServedStep) → NoneAfter sessions turns → count_over turns < sessions → NoneAfter sessions (turns ++ turn ∷ [])
none_after sessions turns turn none fewer count below = by (take-more turns turn count below)
  where
    by : (count < length turns) ⊎ (take count (turns ++ turn ∷ []) ≡ turns) → count_over (take count (turns ++ turn ∷ [])) < sessions
    by (inl p) = rw (take-append-le count turns (turn ∷ []) (omega (arith, p))) (none count p)
    by (inr e) = rw e fewer

-- turns, and then one that stopped
pub stops_behind : (sessions steps : ℕ) (fault : ServeFault) (a b c : Relay) (x y z : DockView) (us : List ServedStep) → Serves a b x y us → NoneAfter sessions us
    → count_over us < sessions → length us < steps
    → TurnStops fault b c y z → ServingStops sessions steps fault a c x z
stops_behind sessions steps fault a b c x y z us h none fewer below i = record {
  turns = us ++ i.turns;
  partly = partly-append fault a b c x y z us i.turns h i.partly;
  few = let f : length (us ++ i.turns) + length i.partly.more ≤ steps = omega (arith, below, i.few, length-append us i.turns) in f;
  in_turn = record { served = us; between = b; middle = y; serves = h; stops = i; turns_are = refl };
  allowed = λ other. omega (arith, below);
  none_after = few_after i.turns (omega (arith, i.few));
  asked = λ more.
      let some : 0 < length i.partly.more = more in
      let begun : i.turns ≡ [] = none_begun i.turns (omega (arith, some, i.few)) in
      rw (begun, append-nil us) fewer;
  not_over = λ lasts is.
      let begun : i.turns ≡ [] = i.none_begun (lasts_then a b x y us i.turns h lasts) is in
      rw (begun, append-nil us) fewer;
}
  where
    few_after : (vs : List ServedStep) → length vs ≤ 1 → NoneAfter sessions (us ++ vs)
    few_after [] few = rw (append-nil us) none
    few_after (v ∷ []) few = none_after sessions us v none fewer
    few_after (v ∷ w ∷ vs) few = absurd (omega (arith, few))

    none_begun : (vs : List ServedStep) → length vs ≤ 0 → vs ≡ []
    none_begun [] few = refl
    none_begun (v ∷ vs) few = absurd (omega (arith, few))

-- all steps that are allowed were taken
pub long_stops : (sessions steps : ℕ) (a b : Relay) (x y : DockView) (us : List ServedStep) → Serves a b x y us → NoneAfter sessions us → count_over us < sessions
    → length us ≤ steps → ServingStops sessions steps TooLong a b x y
long_stops sessions steps a b x y us h none fewer within = record {
  turns = us;
  partly = whole_partly TooLong a b x y us (λ is. cc is) h;
  few = let f : length us + 0 ≤ steps = omega (arith, within) in f;
  in_turn = record { served = us; between = b; middle = y; serves = h; stops = none_stops b y; turns_are = sym (append-nil us) };
  allowed = λ other. absurd (other refl);
  none_after = none;
  asked = λ more. fewer;
  not_over = λ lasts is. fewer;
}
