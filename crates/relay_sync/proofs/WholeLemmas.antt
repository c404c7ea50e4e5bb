-- What is served of steps that come in parts, beside what would be served of the steps as they stand: the same replies,
-- and the same sessions over.
use Rattle.std.proofs.Common.{[], List, ap, append_assoc, arith, drop, false, inl, inr, length, refl, subst, suc, sym, take, true, ℕ, Bool, ◌++◌, ◌<◌, ◌≤◌, ◌∙◌, ◌∷◌, ◌≡◌, ◌≢◌, ◌⊎◌}
use Rattle.std.specs.Prelude.{Err, IfSome, None, Ok, Option, Some, if◌then◌else◌, map, nat_lt}
use Rattle.std.proofs.lemmas.List.{append-nil, take-append-drop, take_all}
use Rattle.std.proofs.lemmas.Bool.{ltb-false}
use Rattle.origin_model.specs.declared.relay.Event.TheVariants.{Piece}
use Rattle.origin_model.specs.declared.relay.Reply.{Reply}
use Rattle.origin_model.specs.relay.Relay.{Relay, RelayRuns, RelaySteps}
use Rattle.origin_model.proofs.SharedLemmas.{InParts, in_parts, step_once}
use Rattle.op_frame.proofs.ReadingLemmas.{frames_once}
use Rattle.outer_ports.specs.dock.Docks.{DockView}
use Rattle.outer_ports.specs.dock.Steps.{Gives, GivesSome, given_part, rest_after}
use Rattle.outer_ports.specs.declared.dock.MemStep.{MemStep}
use Rattle.outer_ports.specs.declared.dock.MemStep.TheVariants.{Opened, Bytes, Gone}
use Rattle.relay_sync.specs.Serving.{BlamesDock, HaveCome, Lasts, NoneAfter, Serves, SameTurns, ServingStops, Spends, DockSuffices, ServedStep, bytes_to, closed_by, closed_in}
use Rattle.relay_sync.specs.Serving.{count_over, event_of, over_after, replies_of, sent_to, steps_of, with_closed}
use Rattle.relay_sync.specs.declared.serving.ServeFault.{ServeFault}
use Rattle.relay_sync.specs.declared.serving.ServeFault.TheVariants.{DockFault, NoMemory, TooLong}
use Rattle.relay_sync.proofs.ServingLemmas.{room_first}

-- a turn, and the relay after it
record Begun (old last : Relay) (turn : ServedStep) (turns : List ServedStep) : Type 0 where
  middle : Relay
  steps : RelaySteps old (event_of turn.step) middle turn.reply
  runs : RelayRuns middle (map event_of (steps_of turns)) last (replies_of turns)

begun : (old last : Relay) (turn : ServedStep) (turns : List ServedStep) → RelayRuns old (map event_of (steps_of (turn ∷ turns))) last (replies_of (turn ∷ turns))
    → Begun old last turn turns
begun old last turn turns h =
    let reply : h.1 ≡ turn.reply = cc (h.5) in
    let rest : h.2 ≡ replies_of turns = cc (h.5) in
    record {
      middle = h.0;
      steps = subst (λ (r : Option Reply). RelaySteps old (event_of turn.step) h.0 r) reply h.3;
      runs = subst (λ rs. RelayRuns h.0 (map event_of (steps_of turns)) last rs) rest h.4;
    }

-- turns over the steps as they stand, one of which was given, or a part of it: those that are left, with the same replies
record Left (relay last : Relay) (turn : ServedStep) (whole : List ServedStep) (left behind : List MemStep) : Type 0 where
  rest : List ServedStep
  left_is : left ≡ steps_of rest ++ behind
  runs : RelayRuns relay (map event_of (steps_of rest)) last (replies_of rest)
  sent : (session : ℕ) → sent_to session whole ≡ sent_to session (turn ∷ rest)
  closed : closed_in whole ≡ closed_in (turn ∷ rest)
  over : (over : List ℕ) → over_after over whole ≡ over_after over (turn ∷ rest)

-- the step was given whole
gives_whole : (old new last : Relay) (turn first : ServedStep) (whole : List ServedStep) (left behind : List MemStep) → turn.step ≡ first.step → left ≡ steps_of whole ++ behind
    → RelaySteps old (event_of turn.step) new turn.reply → Begun old last first whole → Left new last turn (first ∷ whole) left behind
gives_whole old new last turn first whole left behind same is steps h =
    let once = step_once frames_once old (event_of first.step) new h.middle turn.reply first.reply (subst (λ s. RelaySteps old (event_of s) new turn.reply) same steps) h.steps in
    let turns : first ≡ turn = λ i. record { step = sym same i; reply = sym once.1 i } in
    record {
      rest = whole;
      left_is = is;
      runs = subst (λ (r : Relay). RelayRuns r (map event_of (steps_of whole)) last (replies_of whole)) (sym once.0) h.runs;
      sent = λ session. ap (λ (t : ServedStep). sent_to session (t ∷ whole)) turns;
      closed = ap (λ (t : ServedStep). closed_in (t ∷ whole)) turns;
      over = λ over. ap (λ (t : ServedStep). over_after over (t ∷ whole)) turns;
    }

-- the reply to a piece comes with one of its parts
one_reply : {T : Type 0} (bring : Option Reply → List T) (more : List T) (reply first second : Option Reply) → bring None ≡ []
    → ((first ≡ reply) × (second ≡ None)) ⊎ ((first ≡ None) × (second ≡ reply))
    → bring reply ++ more ≡ bring first ++ (bring second ++ more)
one_reply bring more reply first second none (inl p) = rw (p.0, p.1, none) refl
one_reply bring more reply first second none (inr p) = rw (p.0, p.1, none) refl

one_closed : (over : List ℕ) (reply first second : Option Reply) → ((first ≡ reply) × (second ≡ None)) ⊎ ((first ≡ None) × (second ≡ reply))
    → with_closed over reply ≡ with_closed (with_closed over first) second
one_closed over reply first second (inl p) = rw (p.0, p.1) refl
one_closed over reply first second (inr p) = rw (p.0, p.1) refl

-- so many bytes of a step were given
gives_part : (old new last : Relay) (n count : ℕ) (bytes : List ℕ) (reply given : Option Reply) (whole : List ServedStep) (left behind : List MemStep)
    → left ≡ Bytes n (drop count bytes) ∷ (steps_of whole ++ behind) → RelaySteps old (Piece n (take count bytes)) new given
    → Begun old last (record { step = Bytes n bytes; reply = reply }) whole
    → Left new last (record { step = Bytes n (take count bytes); reply = given }) (record { step = Bytes n bytes; reply = reply } ∷ whole) left behind
gives_part old new last n count bytes reply given whole left behind is steps h =
    let parts : InParts old n (take count bytes) (drop count bytes) h.middle reply
    = in_parts old n (take count bytes) (drop count bytes) h.middle reply (subst (λ b. RelaySteps old (Piece n b) h.middle reply) (sym (take-append-drop count bytes)) h.steps) in
    let once = step_once frames_once old (Piece n (take count bytes)) new parts.middle given parts.first steps parts.begins in
    record {
      rest = record { step = Bytes n (drop count bytes); reply = parts.second } ∷ whole;
      left_is = is;
      runs = (
        h.middle,
        parts.second,
        replies_of whole,
        subst (λ (r : Relay). RelaySteps r (Piece n (drop count bytes)) h.middle parts.second) (sym once.0) parts.goes_on,
        h.runs,
        refl,
      );
      sent = λ session. rw (once.1) (one_reply (bytes_to session) (sent_to session whole) reply parts.first parts.second refl parts.one);
      closed = rw (once.1) (one_reply closed_by (closed_in whole) reply parts.first parts.second refl parts.one);
      over = λ over. rw (once.1) (ap (λ o. over_after o whole) (one_closed over reply parts.first parts.second parts.one));
    }

-- a step was given, whole or in part
gives_some : (old new last : Relay) (most : ℕ) (step given : MemStep) (reply answer : Option Reply) (whole : List ServedStep) (left behind : List MemStep)
    → given ≡ given_part most step
    → left ≡ rest_after most step ++ (steps_of whole ++ behind) → RelaySteps old (event_of given) new answer → Begun old last (record { step = step; reply = reply }) whole
    → Left new last (record { step = given; reply = answer }) (record { step = step; reply = reply } ∷ whole) left behind
gives_some old new last most (Opened n) given reply answer whole left behind part is steps h =
    gives_whole old new last (record { step = given; reply = answer }) (record { step = Opened n; reply = reply }) whole left behind part is steps h
gives_some old new last most (Gone n) given reply answer whole left behind part is steps h =
    gives_whole old new last (record { step = given; reply = answer }) (record { step = Gone n; reply = reply }) whole left behind part is steps h
gives_some old new last most (Bytes n bytes) given reply answer whole left behind part is steps h = by (nat_lt most (length bytes)) refl is
  where
    Goal : Type 0
    Goal = Left new last (record { step = given; reply = answer }) (record { step = Bytes n bytes; reply = reply } ∷ whole) left behind

    by : (test : Bool) → nat_lt most (length bytes) ≡ test → left ≡ (if test then Bytes n (drop most bytes) ∷ [] else []) ++ (steps_of whole ++ behind) → Goal
    by true passes is =
        subst (λ (s : MemStep). Left new last (record { step = s; reply = answer }) (record { step = Bytes n bytes; reply = reply } ∷ whole) left behind) (sym part)
        (gives_part old new last n most bytes reply answer whole left behind is (subst (λ (s : MemStep). RelaySteps old (event_of s) new answer) part steps) h)
    by false fails is =
        gives_whole old new last (record { step = given; reply = answer }) (record { step = Bytes n bytes; reply = reply }) whole left behind
        (part ∙ ap (Bytes n) (take_all most bytes (ltb-false most (length bytes) fails))) is steps h

-- the same of the steps to come
takes_turn : (old new last : Relay) (turn first : ServedStep) (whole : List ServedStep) (coming left behind : List MemStep) → GivesSome (Some coming) (Some left) turn.step
    → coming ≡ steps_of (first ∷ whole) ++ behind
    → RelaySteps old (event_of turn.step) new turn.reply → RelayRuns old (map event_of (steps_of (first ∷ whole))) last (replies_of (first ∷ whole))
    → Left new last turn (first ∷ whole) left behind
takes_turn old new last turn first whole coming left behind some is steps runs =
    let gives : Gives some.0 coming left turn.step = some.2 in
    let same : gives.first ≡ first.step = cc (gives.came, is) in
    let others : gives.others ≡ steps_of whole ++ behind = cc (gives.came, is) in
    gives_some old new last some.0 first.step turn.step first.reply turn.reply whole left behind (gives.given ∙ ap (given_part some.0) same)
    (gives.left ∙ (λ i. rest_after some.0 (same i) ++ others i)) steps (begun old last first whole runs)

-- Turns of steps that came in parts, beside turns of the steps as they stand: what is left of these.
record Behind (relay last : Relay) (taken whole : List ServedStep) (left behind : List MemStep) : Type 0 where
  rest : List ServedStep
  left_is : left ≡ steps_of rest ++ behind
  runs : RelayRuns relay (map event_of (steps_of rest)) last (replies_of rest)
  sent : (session : ℕ) → sent_to session whole ≡ sent_to session taken ++ sent_to session rest
  closed : closed_in whole ≡ closed_in taken ++ closed_in rest
  over : (over : List ℕ) → over_after over whole ≡ over_after over (taken ++ rest)

-- or nothing was left of them, and a step was taken of those after them
record UsedUp (taken whole : List ServedStep) (behind : List MemStep) : Type 0 where
  count : ℕ
  below : count < length taken
  over : (over : List ℕ) → over_after over whole ≡ over_after over (take count taken)
  some : behind ≢ []

-- with one more in front
with_turn : (relay end last : Relay) (turn : ServedStep) (taken whole : List ServedStep) (coming left behind : List MemStep) → (l : Left relay last turn whole coming behind)
    → Behind end last taken l.rest left behind ⊎ UsedUp taken l.rest behind → Behind end last (turn ∷ taken) whole left behind ⊎ UsedUp (turn ∷ taken) whole behind
with_turn relay end last turn taken whole coming left behind l (inl more) =
    inl (record {
      rest = more.rest;
      left_is = more.left_is;
      runs = more.runs;
      sent = λ session. l.sent session ∙ ap (λ b. bytes_to session turn.reply ++ b) (more.sent session)
          ∙ sym (append_assoc (bytes_to session turn.reply) (sent_to session taken) (sent_to session more.rest));
      closed = l.closed ∙ ap (λ b. closed_by turn.reply ++ b) more.closed ∙ sym (append_assoc (closed_by turn.reply) (closed_in taken) (closed_in more.rest));
      over = λ over. l.over over ∙ more.over (over_after over (turn ∷ []));
    })
with_turn relay end last turn taken whole coming left behind l (inr used) =
    inr (record { count = suc used.count; below = omega (arith, used.below); over = λ over. l.over over ∙ used.over (over_after over (turn ∷ [])); some = used.some })

-- no step is given of none
gives_of_none : (coming : List MemStep) (after : Option (List MemStep)) (step : MemStep) → GivesSome (Some coming) after step → coming ≢ []
gives_of_none coming None step some none = some
gives_of_none coming (Some left) step some none = let gives : Gives some.0 coming left step = some.2 in cc (gives.came, none)

takes_turns : (last end : Relay) (behind : List MemStep) (taken : List ServedStep) (old : Relay) (whole : List ServedStep) (coming left : List MemStep)
    → RelayRuns old (map event_of (steps_of whole)) last (replies_of whole)
    → coming ≡ steps_of whole ++ behind → HaveCome (Some coming) (steps_of taken) (Some left) → RelayRuns old (map event_of (steps_of taken)) end (replies_of taken)
    → Behind end last taken whole left behind ⊎ UsedUp taken whole behind
takes_turns last end behind [] old whole coming left runs is comes given =
    let same : left ≡ coming = cc comes in
    inl (record {
      rest = whole;
      left_is = same ∙ is;
      runs = subst (λ (r : Relay). RelayRuns r (map event_of (steps_of whole)) last (replies_of whole)) (sym given.0) runs;
      sent = λ session. refl;
      closed = refl;
      over = λ over. refl;
    })
takes_turns last end behind (x ∷ xs) old [] coming left runs is comes given =
    inr (record { count = 0; below = omega arith; over = λ over. refl; some = λ none. gives_of_none coming comes.0 x.step comes.1 (is ∙ none) })
takes_turns last end behind (x ∷ xs) old (t ∷ ts) coming left runs is comes given =
    let b = begun old end x xs given in
    by comes.0 comes.1 comes.2 b (λ m l rest. takes_turns last end behind xs b.middle l.rest m left l.runs l.left_is rest b.runs)
  where
    by : (middle : Option (List MemStep)) → GivesSome (Some coming) middle x.step → HaveCome middle (steps_of xs) (Some left) → (b : Begun old end x xs)
        → ((m : List MemStep) (l : Left b.middle last x (t ∷ ts) m behind) → HaveCome (Some m) (steps_of xs) (Some left)
        → Behind end last xs l.rest left behind ⊎ UsedUp xs l.rest behind)
        → Behind end last (x ∷ xs) (t ∷ ts) left behind ⊎ UsedUp (x ∷ xs) (t ∷ ts) behind
    by None some comes b rest = absurd some
    by (Some m) some comes b rest =
        let l = takes_turn old b.middle last x t ts coming m behind some is b.steps runs in
        with_turn b.middle end last x xs (t ∷ ts) m left behind l (rest m l comes)

-- turns after which no step stands are no turns
no_turns : (turns : List ServedStep) (more : List MemStep) → steps_of turns ++ more ≡ [] → turns ≡ []
no_turns [] more e = refl
no_turns (turn ∷ turns) more e = absurd (cc e)

-- steps that are given in parts, to the last, are served as the steps whole
pub parts_joined : (start one other : Relay) (whole parts : List ServedStep) → HaveCome (Some (steps_of whole)) (steps_of parts) (Some [])
    → RelayRuns start (map event_of (steps_of whole)) one (replies_of whole)
    → RelayRuns start (map event_of (steps_of parts)) other (replies_of parts) → (one ≡ other) × SameTurns whole parts
parts_joined start one other whole parts comes runs given =
    by (takes_turns one other [] parts start whole (steps_of whole) [] runs (sym (append-nil (steps_of whole))) comes given)
  where
    by : Behind other one parts whole [] [] ⊎ UsedUp parts whole [] → (one ≡ other) × SameTurns whole parts
    by (inl b) =
        let none : b.rest ≡ [] = no_turns b.rest [] (sym b.left_is) in
        let at_end = subst (λ rest. RelayRuns other (map event_of (steps_of rest)) one (replies_of rest)) none b.runs in (
          at_end.0,
          record {
            sent = λ session. b.sent session ∙ ap (λ rest. sent_to session parts ++ sent_to session rest) none ∙ append-nil (sent_to session parts);
            closed = b.closed ∙ ap (λ rest. closed_in parts ++ closed_in rest) none ∙ append-nil (closed_in parts);
            over = b.over [] ∙ ap (λ rest. over_after [] (parts ++ rest)) none ∙ ap (over_after []) (append-nil parts);
          },
        )
    by (inr used) = absurd (used.some refl)

-- steps that come one after the other, and that steps stay specified
comes_split : (xs ys : List MemStep) (a c : Option (List MemStep)) → HaveCome a (xs ++ ys) c → (b : Option (List MemStep)) × HaveCome a xs b × HaveCome b ys c
comes_split [] ys a c h = (a, refl, h)
comes_split (x ∷ xs) ys a c h = let rest = comes_split xs ys h.0 c h.2 in (rest.0, (h.0, h.1, rest.1), rest.2)

stays_reported : (coming : List MemStep) (steps : List MemStep) (after : Option (List MemStep)) → HaveCome (Some coming) steps after → (left : List MemStep) × (after ≡ Some left)
stays_reported coming [] after h = (coming, h)
stays_reported coming (step ∷ steps) after h = by h.0 h.1 h.2 (λ m. stays_reported m steps after)
  where
    by : (middle : Option (List MemStep)) → GivesSome (Some coming) middle step → HaveCome middle steps after
        → ((m : List MemStep) → HaveCome (Some m) steps after → (left : List MemStep) × (after ≡ Some left))
        → (left : List MemStep) × (after ≡ Some left)
    by None some comes rest = absurd some
    by (Some m) some comes rest = rest m comes

-- turns at a dock that suffices, and what is left of the steps to come
module _ (sessions : ℕ) (a : Relay) (x : DockView) (s : DockSuffices sessions a x) (b : Relay) (turns : List ServedStep) (after : Option (List MemStep))
    (comes : HaveCome x.coming (steps_of turns) after)
    (runs : RelayRuns a (map event_of (steps_of turns)) b (replies_of turns)) (none : NoneAfter sessions turns) where
  abbrev coming : List MemStep
  coming = steps_of s.turns ++ s.behind

  reported : (left : List MemStep) × (after ≡ Some left)
  reported = stays_reported coming (steps_of turns) after (subst (λ c. HaveCome c (steps_of turns) after) s.coming comes)

  left_after : Behind b s.last turns s.turns reported.0 s.behind
  left_after =
      by (takes_turns s.last b s.behind turns a s.turns coming reported.0 s.runs refl
      (subst (λ c. HaveCome (Some coming) (steps_of turns) c) reported.1 (subst (λ c. HaveCome c (steps_of turns) after) s.coming comes)) runs)
    where
      by : Behind b s.last turns s.turns reported.0 s.behind ⊎ UsedUp turns s.turns s.behind → Behind b s.last turns s.turns reported.0 s.behind
      by (inl behind) = behind
      by (inr used) = absurd (omega (arith, s.over, none used.count used.below, ap length (used.over [])))

  -- it lasts for them
  lasts_so : Lasts x turns
  lasts_so =
      let l = left_after in
      room_first x (λ session. sent_to session s.turns) (λ session. sent_to session turns) (λ session. sent_to session l.rest) (closed_in s.turns) (closed_in turns)
      (closed_in l.rest) l.sent l.closed
      s.lasts

  -- where no step is left, enough sessions are over
  all_over : after ≡ Some [] → sessions ≤ count_over turns
  all_over is =
      let l = left_after in
      let none_left : steps_of l.rest ++ s.behind ≡ [] = cc (reported.1, is, l.left_is) in
      subst (λ o. sessions ≤ length o) (l.over [] ∙ ap (λ rest. over_after [] (turns ++ rest)) (no_turns l.rest s.behind none_left) ∙ ap (over_after []) (append-nil turns)) s.over

-- what was served at a dock that suffices
served_no_fault : (sessions : ℕ) (a b : Relay) (x y : DockView) (turns : List ServedStep) → Serves a b x y turns → NoneAfter sessions turns → DockSuffices sessions a x
    → y.faults ≡ x.faults
served_no_fault sessions a b x y turns h none s = h.counts_no_fault (lasts_so sessions a x s b turns y.coming h.gave.comes h.runs none)

-- and up to a fault, which is none of the dock
module _ (sessions steps : ℕ) (a b : Relay) (x y : DockView) where
  lasts_until : (fault : ServeFault) → (h : ServingStops sessions steps fault a b x y) → DockSuffices sessions a x → Lasts x h.turns
  lasts_until fault h s =
      let split = comes_split (steps_of h.turns) h.partly.more x.coming y.coming h.partly.gave.comes in
      lasts_so sessions a x s b h.turns split.0 split.1 h.partly.runs h.none_after

  no_dock_fault : ServingStops sessions steps DockFault a b x y → DockSuffices sessions a x → ⊥
  no_dock_fault h s =
      let split = comes_split (steps_of h.turns) h.partly.more x.coming y.coming h.partly.gave.comes in
      let lasts = lasts_until DockFault h s in
      let spent : Spends DockFault h.partly.more x y = h.partly.counts_no_fault lasts in
      let same : y.coming ≡ split.0 = subst (λ more. HaveCome split.0 more y.coming) spent.0 split.2 in
      let left = reported sessions a x s b h.turns split.0 split.1 h.partly.runs h.none_after in
      let none : left.0 ≡ [] = subst (λ c. IfSome c (λ coming. coming ≡ [])) (same ∙ left.1) spent.1 in
      let enough = all_over sessions a x s b h.turns split.0 split.1 h.partly.runs h.none_after (left.1 ∙ ap Some none) in
      omega (arith, enough, h.not_over lasts refl)

  stopped_no_fault : (fault : ServeFault) → ServingStops sessions steps fault a b x y → DockSuffices sessions a x → y.faults ≡ x.faults
  stopped_no_fault DockFault h s = absurd (no_dock_fault h s)
  stopped_no_fault TooLong h s = h.partly.counts_no_fault (lasts_until TooLong h s)
  stopped_no_fault NoMemory h s = h.partly.counts_no_fault (lasts_until NoMemory h s)

  sure_stopped : (fault : ServeFault) → ServingStops sessions steps fault a b x y → DockSuffices sessions a x → fault ≢ DockFault
  sure_stopped DockFault h s is = no_dock_fault h s
  sure_stopped TooLong h s is = cc is
  sure_stopped NoMemory h s is = cc is

pub served_blames : {T : Type 0} (result : T) (sessions : ℕ) (a b : Relay) (x y : DockView) (turns : List ServedStep) → Serves a b x y turns → NoneAfter sessions turns
    → BlamesDock sessions a x y (Ok result)
served_blames result sessions a b x y turns h none = record { counts_no_fault = served_no_fault sessions a b x y turns h none; sure = λ s is. cc is }

pub stopped_blames : {T : Type 0} (sessions steps : ℕ) (a b : Relay) (x y : DockView) (fault : ServeFault) → ServingStops sessions steps fault a b x y
    → BlamesDock {T = T} sessions a x y (Err fault)
stopped_blames sessions steps a b x y fault h =
    record { counts_no_fault = stopped_no_fault sessions steps a b x y fault h; sure = λ s is. sure_stopped sessions steps a b x y fault h s (cc is) }
