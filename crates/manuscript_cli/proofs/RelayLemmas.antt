-- What `relay` does, by what listening, serving and noting do.
use Rattle.std.proofs.Common.{◌≡◌, refl, ℕ, ◌<◌, ◌≤◌, List, length, ◌++◌, ap, sym, subst, ◌∙◌, inl, inr, arith}
use Rattle.std.specs.Prelude.{IsSome, Option, None, Some, Result, Ok, Err, is_some, option_map}
use Rattle.std.specs.Io.KnownBytes.{append_known}
use Rattle.fugue_ids.specs.Causes.{Faulted}
use Rattle.fugue_ids.specs.Outs.{OutView, Took, room_after}
use Rattle.origin_model.specs.relay.Relay.{Relay, new_relay}
use Rattle.outer_ports.specs.Latest.{once_more}
use Rattle.outer_ports.specs.dock.Docks.{DockIsSpecified, DockView, listening_of, out_to}
use Rattle.outer_ports.specs.declared.dock.Listening.{Listening}
use Rattle.outer_ports.specs.declared.latest.Latest.{Latest}
use Rattle.outer_ports.specs.declared.dock.MemStep.{MemStep}
use Rattle.relay_core.specs.declared.relay.TheConstants.{MOST_LOGGED}
use Rattle.relay_sync.specs.Sending.{DockRisesFor}
use Rattle.relay_sync.specs.Serving.{BlamesDock, HaveCome, GaveSteps, Lasts, NoneAfter, Serves, ServesPartly, ServingStops, Spends, StopsInTurn, DockSuffices, ServedStep}
use Rattle.relay_sync.specs.Serving.{closed_in, count_over, ended_in, ends_after, sent_to, steps_of}
use Rattle.relay_sync.specs.declared.serving.ServeFault.{ServeFault}
use Rattle.relay_sync.specs.declared.serving.ServeFault.TheVariants as serve_fault
use Rattle.command_kinds.proofs.ActLemmas.{inside_result, performs_inside}
use Rattle.command_kinds.specs.Acts.{Performs, ReportsResult}
use Rattle.command_kinds.specs.Refusal.{serve_refusal}
use Rattle.manuscript_cli.specs.Relay.{CallsAreSure, IsEnough, IsIdle, NeverBlamed, Relays, RiseOutside, ServingMeets, listening, most_steps, ready_line, serving}
use Rattle.command_kinds.specs.Changes.{Change, CountsNoFault, change}
use Rattle.command_kinds.specs.declared.refusal.Refusal.{Refusal}
use Rattle.command_kinds.specs.declared.refusal.Refusal.TheVariants as refusal
use Rattle.command_kinds.specs.declared.status.Status.{Status}

-- from one dock to another nothing was taken, sent or ended: what is done from the second on is done from the first on
module _ (first second last : DockView) (idle : IsIdle first second) (later : first.faults ≤ second.faults) where
  took_from : (session : ℕ) (bytes : List ℕ) → Took (out_to session second) (out_to session last) bytes → Took (out_to session first) (out_to session last) bytes
  took_from session bytes took = record {
    written = took.written ∙ ap (λ w. append_known w bytes) (idle.nothing_sent.sent session);
    room = took.room ∙ ap (room_after (length bytes)) (idle.nothing_sent.room session);
  }

  gave_from : (steps : List MemStep) → GaveSteps second last steps → GaveSteps first last steps
  gave_from steps gave = record {
    taken = gave.taken ∙ ap (option_map (λ taken. taken ++ steps)) idle.nothing_taken.taken;
    comes = subst (λ c. HaveCome c steps last.coming) idle.nothing_taken.coming gave.comes;
  }

  lasts_on : (turns : List ServedStep) → Lasts first turns → Lasts second turns
  lasts_on turns lasts = record {
    room = λ session. let has = lasts.room session in (has.0, idle.nothing_sent.room session ∙ has.1, has.2);
    ends = (lasts.ends.0, idle.ends ∙ lasts.ends.1, lasts.ends.2);
  }

  -- a dock that lasts is sure
  still_no_fault : (turns : List ServedStep) → Lasts first turns → second.faults ≡ first.faults
  still_no_fault turns lasts = idle.counts_no_fault (ap is_some lasts.ends.1)

  spends_from : (fault : ServeFault) (more : List MemStep) (turns : List ServedStep) → Lasts first turns → Spends fault more second last → Spends fault more first last
  spends_from serve_fault.DockFault more turns lasts spends = spends
  spends_from serve_fault.TooLong more turns lasts spends = spends ∙ still_no_fault turns lasts
  spends_from serve_fault.NoMemory more turns lasts spends = spends ∙ still_no_fault turns lasts

  serves_from : (old new : Relay) (turns : List ServedStep) → Serves old new second last turns → Serves old new first last turns
  serves_from old new turns serves = record {
    runs = serves.runs;
    gave = gave_from (steps_of turns) serves.gave;
    sent = λ session. took_from session (sent_to session turns) (serves.sent session);
    ended = serves.ended ∙ ap (option_map (λ ended. ended ++ closed_in turns)) idle.ended;
    ended_at = serves.ended_at ∙ (λ i. ended_in (λ session. idle.nothing_sent.sent session i) (idle.ended_at i) turns);
    ends = serves.ends ∙ ap (ends_after (closed_in turns)) idle.ends;
    listens = serves.listens ∙ idle.listens;
    later = omega (arith, later, serves.later);
    counts_no_fault = λ lasts. serves.counts_no_fault (lasts_on turns lasts) ∙ still_no_fault turns lasts;
  }

  serves_partly_from : (fault : ServeFault) (old new : Relay) (turns : List ServedStep) → ServesPartly fault old new second last turns → ServesPartly fault old new first last turns
  serves_partly_from fault old new turns partly = record {
    more = partly.more;
    few = partly.few;
    runs = partly.runs;
    gave = gave_from (steps_of turns ++ partly.more) partly.gave;
    sent = λ session. let front = partly.sent session in record { count = front.count; within = front.within; took = took_from session _ front.took };
    ended = record { count = partly.ended.count; ended = partly.ended.ended ∙ ap (option_map (λ ended. ended ++ _)) idle.ended };
    listens = partly.listens ∙ idle.listens;
    later = omega (arith, later, partly.later);
    counts_no_fault = λ lasts. spends_from fault partly.more turns lasts (partly.counts_no_fault (lasts_on turns lasts));
  }

  -- what suffices still does
  suffices_on : (sessions : ℕ) (relay : Relay) → DockSuffices sessions relay first → DockSuffices sessions relay second
  suffices_on sessions relay s = record {
    turns = s.turns;
    behind = s.behind;
    coming = idle.nothing_taken.coming ∙ s.coming;
    last = s.last;
    runs = s.runs;
    over = s.over;
    lasts = lasts_on s.turns s.lasts;
  }

module _ (first second last : DockView) (idle : IsIdle first second) (later : first.faults ≤ second.faults) where
  in_turn_from : (fault : ServeFault) (old new : Relay) (turns : List ServedStep) → StopsInTurn fault old new second last turns → StopsInTurn fault old new first last turns
  in_turn_from fault old new turns so = record {
    served = so.served;
    between = so.between;
    middle = so.middle;
    serves = serves_from first second so.middle idle later old so.between so.served so.serves;
    stops = so.stops;
    turns_are = so.turns_are;
  }

  stops_from : (sessions steps : ℕ) (fault : ServeFault) (old new : Relay) → ServingStops sessions steps fault old new second last
      → ServingStops sessions steps fault old new first last
  unfolding serves_partly_from in_turn_from
  stops_from sessions steps fault old new stops = record {
    turns = stops.turns;
    partly = serves_partly_from first second last idle later fault old new stops.turns stops.partly;
    few = stops.few;
    in_turn = in_turn_from fault old new stops.turns stops.in_turn;
    allowed = stops.allowed;
    none_after = stops.none_after;
    asked = stops.asked;
    not_over = λ lasts is. stops.not_over (lasts_on first second last idle later stops.turns lasts) is;
  }

-- a dock that is listening suffices as before
as_listening : (sessions port : ℕ) (dock : DockView) → IsEnough sessions dock → IsEnough sessions (listening port dock)
as_listening sessions port dock s =
    record { turns = s.turns; behind = s.behind; coming = s.coming; last = s.last; runs = s.runs; over = s.over; lasts = record { room = s.lasts.room; ends = s.lasts.ends } }

is_sure : (sessions : ℕ) (dock : DockView) → IsEnough sessions dock → CallsAreSure dock
is_sure sessions dock s = ap is_some s.lasts.ends.1

-- the port was listened on, and what serving did then
module _ (port sessions : ℕ) (output : Change OutView) (dock : Change DockView) (second : DockView) (ready : Took output.old output.new ready_line)
    (idle : IsIdle (listening port dock.old) second) (later : dock.old.faults ≤ second.faults) (relay : Relay) where
  pub all_served : (logged : ℕ) → logged ≡ length relay.log
      → (turns : List ServedStep) × Serves (new_relay MOST_LOGGED) relay second dock.new turns × (sessions ≤ count_over turns) × NoneAfter sessions turns
      × (length turns ≤ most_steps)
      → ServingMeets port sessions output dock (Ok logged)
  all_served logged is served = (
    ready,
    record {
      turns = served.0;
      relay = relay;
      serves = serves_from (listening port dock.old) second dock.new idle later (new_relay MOST_LOGGED) relay served.0 served.1;
      over = served.2;
      none_after = served.3;
      few = served.4;
      logged_is = is;
    },
  )

  pub not_all_served : (fault : ServeFault) (result : Result (Unit {0}) ServeFault) → result ≡ Err fault
      → (result ≡ Err serve_fault.TooLong → (turns : List ServedStep) × Serves (new_relay MOST_LOGGED) relay second dock.new turns × (count_over turns < sessions)
      × NoneAfter sessions turns × (length turns ≡ most_steps))
      → ServingStops sessions most_steps fault (new_relay MOST_LOGGED) relay second dock.new → (result ≡ Err serve_fault.DockFault → Faulted second.faults dock.new.faults)
      → ServingMeets port sessions output dock (Err (serve_refusal fault))
  not_all_served serve_fault.DockFault result is long partly faulted =
      inr (inr (record {
        ready = ready;
        partly = record {
          relay = relay;
          stops = stops_from (listening port dock.old) second dock.new idle later sessions most_steps serve_fault.DockFault
              (new_relay MOST_LOGGED) relay partly;
        };
        faulted = omega (arith, faulted is, later);
      }))
  not_all_served serve_fault.NoMemory result is long partly faulted = (
    ready,
    record {
      relay = relay;
      stops = stops_from (listening port dock.old) second dock.new idle later sessions most_steps serve_fault.NoMemory
          (new_relay MOST_LOGGED) relay partly;
    },
  )
  not_all_served serve_fault.TooLong result is long partly faulted =
      let so = long is in (
        ready,
        record {
          turns = so.0;
          relay = relay;
          serves = serves_from (listening port dock.old) second dock.new idle later (new_relay MOST_LOGGED) relay so.0 so.1;
          not_over = so.2;
          none_after = so.3;
          all = so.4;
        },
      )

  -- where the steps at entry are enough
  never_faulted : (result : Result (Unit {0}) ServeFault) → BlamesDock sessions (new_relay MOST_LOGGED) second dock.new result → IsEnough sessions dock.old
      → dock.new.faults ≡ dock.old.faults
  never_faulted result blames s =
      blames.counts_no_fault (suffices_on (listening port dock.old) second dock.new idle later sessions (new_relay MOST_LOGGED) (as_listening sessions port dock.old s))
      ∙ idle.counts_no_fault (is_sure sessions dock.old s)

  pub served_blameless : {T : Type 0} (logged : T) (result : Result (Unit {0}) ServeFault) → BlamesDock sessions (new_relay MOST_LOGGED) second dock.new result
      → NeverBlamed sessions output dock (Ok logged)
  served_blameless logged result blames = record { counts_no_fault = never_faulted result blames; sure = λ s has is. cc is }

  pub stopped_blameless : {T : Type 0} (fault : ServeFault) → BlamesDock {T = Unit {0}} sessions (new_relay MOST_LOGGED) second dock.new (Err fault)
      → NeverBlamed {T = T} sessions output dock (Err (serve_refusal fault))
  stopped_blameless fault blames = record {
    counts_no_fault = never_faulted (Err fault) blames;
    sure = λ s has is.
        blames.sure (suffices_on (listening port dock.old) second dock.new idle later sessions (new_relay MOST_LOGGED) (as_listening sessions port dock.old s))
        (ap Err (dock_fault fault (cc is)));
  }
    where
      dock_fault : (fault : ServeFault) → serve_refusal fault ≡ refusal.Outside → fault ≡ serve_fault.DockFault
      dock_fault serve_fault.DockFault is = refl
      dock_fault serve_fault.TooLong is = absurd (cc is)
      dock_fault serve_fault.NoMemory is = absurd (cc is)

-- a dock that is specified is so once it listens
still_tells : (port : ℕ) (old new : DockView) → IsIdle (listening port old) new → DockIsSpecified old → DockIsSpecified new
still_tells port old new idle tells = record {
  listens = subst IsSome (sym idle.listens) (some_listens old.listens tells.listens);
  taken = subst IsSome (sym idle.nothing_taken.taken) tells.taken;
  coming = subst IsSome (sym idle.nothing_taken.coming) tells.coming;
  sent = λ session. subst IsSome (sym (idle.nothing_sent.sent session)) (tells.sent session);
  ended = subst IsSome (sym idle.ended) tells.ended;
  ended_at = subst IsSome (sym idle.ended_at) tells.ended_at;
}
  where
    some_listens : (before : Option (Latest Listening)) → IsSome before → IsSome (option_map (once_more (listening_of port old)) before)
    some_listens None some = some
    some_listens (Some b) some = some

-- what rose while a port was listened on and served
module _ (port : ℕ) (output : Change OutView) (dock : Change DockView) (second : DockView) (idle : IsIdle (listening port dock.old) second)
    (opened : RiseOutside {T = Unit {0}} output (change dock.old second) (Ok tt)) where
  pub stopped_reported : (fault : ServeFault) → DockRisesFor (fault ≡ serve_fault.DockFault) second dock.new → RiseOutside {T = ℕ} output dock (Err (serve_refusal fault))
  stopped_reported fault rises = record {
    of_output = λ tells not. opened.of_output tells (λ is. cc is);
    of_dock = λ tells not. rises.specified_no_fault (still_tells port dock.old second idle tells) (λ blamed. not (ap (λ f. Err (serve_refusal f)) blamed))
        ∙ opened.of_dock tells (λ is. cc is);
  }

-- from what was served to the ends of the command
pub relay_ends : (port sessions : ℕ) (output notes : Change OutView) (dock : Change DockView) (end : Status) (result : Result ℕ Refusal)
    → CountsNoFault (length ready_line) output.old output.new → ServingMeets port sessions output dock result → NeverBlamed sessions output dock result
    → RiseOutside output dock result → (let act = serving port sessions output dock in ReportsResult act.line act.status result notes end)
    → Relays port sessions output notes dock end
relay_ends port sessions output notes dock end result output_no_fault served blameless rise reported =
    let act = serving port sessions output dock in
    let performs : Performs act notes end = record { result = result; did = served; reported = reported } in
    record {
      performs = performs;
      output_no_fault = output_no_fault;
      dock_no_fault = blameless.counts_no_fault;
      never_outside = λ enough has room. performs_inside act notes end performs (λ logged did. inl refl) (λ logged did some. room) (blameless.sure enough has);
      output_blameless = λ tells not. rise.of_output tells (inside_result act.line act.status result notes end reported.noted not);
      dock_blameless = λ tells not. rise.of_dock tells (inside_result act.line act.status result notes end reported.noted not);
    }
