-- The command `relay`: it listens on a port, and serves the sessions of others with a relay that is new.
use Rattle.std.specs.Prelude.{◌≡◌, ◌≢◌, ◌⊎◌, ℕ, ◌<◌, ◌≤◌, List, [], ◌∷◌, ◌++◌, length, Result, Ok, Err, is_some, true, codes, decimal, Some}
use Rattle.std.specs.Prelude.{option_map}
use Rattle.fugue_ids.specs.Causes.{Faulted}
use Rattle.fugue_ids.specs.Outs.{OutIsSpecified, OutView, Took}
use Rattle.origin_model.specs.relay.Relay.{Relay, new_relay}
use Rattle.outer_ports.specs.Latest.{once_more}
use Rattle.outer_ports.specs.dock.Docks.{DockIsSpecified, DockView, SendsNothing, TakesNothing, listening_of}
use Rattle.relay_core.specs.declared.relay.TheConstants.{MOST_LOGGED}
use Rattle.relay_sync.specs.Serving.{NoneAfter, Serves, ServingStops, DockSuffices, ServedStep, count_over}
use Rattle.relay_sync.specs.declared.serving.ServeFault.{ServeFault}
use Rattle.relay_sync.specs.declared.serving.ServeFault.TheVariants as serve_fault
use Rattle.command_kinds.specs.Printing.{WroteFront}
use Rattle.command_kinds.specs.Changes.{Change, HasRoom, OutBlameless, CountsNoFault, notes_room}
use Rattle.command_kinds.specs.declared.refusal.Refusal.{Refusal}
use Rattle.command_kinds.specs.declared.refusal.Refusal.TheVariants as refusal
use Rattle.command_kinds.specs.declared.status.Status.{Status}
use Rattle.command_kinds.specs.declared.status.Status.TheVariants as status
use Rattle.command_kinds.specs.Acts.{Act, Performs}

-- what goes out once the port is listened on
abbrev pub ready_line : List ℕ
ready_line = codes "ready" ++ 10 ∷ []

-- the line of the notes that says how many frames the log has at the end
abbrev pub log_line : ℕ → List ℕ
log_line count = codes "log " ++ decimal count ++ 10 ∷ []

-- how many steps a run takes at most
abbrev pub most_steps : ℕ
most_steps = 18446744073709551615

-- the dock, which listened on the port once, where it stands
abbrev pub listening : (port : ℕ) → DockView → DockView
listening port dock = record dock { listens = option_map (once_more (listening_of port dock)) dock.listens }

-- calls on the dock are sure
abbrev pub CallsAreSure : DockView → Type 0
CallsAreSure dock = is_some dock.ends ≡ true

-- nothing was taken, sent or ended, and a sure dock counts no fault
pub record IsIdle (old new : DockView) : Type 0 where
  pub listens : new.listens ≡ old.listens
  pub nothing_taken : TakesNothing old new
  pub nothing_sent : SendsNothing old new
  pub ended : new.ended ≡ old.ended
  pub ended_at : new.ended_at ≡ old.ended_at
  pub ends : new.ends ≡ old.ends
  pub counts_no_fault : CallsAreSure old → new.faults ≡ old.faults

-- A new relay was given the dock's steps, and served so many sessions: the last step brought the last of them to its
-- end, and none was asked for after it.
pub record ServedAll (port sessions : ℕ) (dock : Change DockView) (logged : ℕ) : Type 0 where
  pub turns : List ServedStep
  pub relay : Relay
  pub serves : Serves (new_relay MOST_LOGGED) relay (listening port dock.old) dock.new turns
  pub over : sessions ≤ count_over turns
  pub none_after : NoneAfter sessions turns
  pub few : length turns ≤ most_steps
  -- so many frames are in its log
  pub logged_is : logged ≡ length relay.log

-- all steps that a run may take were taken, and fewer sessions are over
pub record TookAllSteps (port sessions : ℕ) (dock : Change DockView) : Type 0 where
  pub turns : List ServedStep
  pub relay : Relay
  pub serves : Serves (new_relay MOST_LOGGED) relay (listening port dock.old) dock.new turns
  pub not_over : count_over turns < sessions
  pub none_after : NoneAfter sessions turns
  pub all : length turns ≡ most_steps

-- a front of the steps was served, up to this fault
pub record ServedPartly (fault : ServeFault) (port sessions : ℕ) (dock : Change DockView) : Type 0 where
  pub relay : Relay
  pub stops : ServingStops sessions most_steps fault (new_relay MOST_LOGGED) relay (listening port dock.old) dock.new

-- the port was not listened on
pub record ListeningFailed (output : Change OutView) (dock : Change DockView) : Type 0 where
  pub output_kept : output.new ≡ output.old
  pub idle : IsIdle dock.old dock.new
  pub faulted : Faulted dock.old.faults dock.new.faults
  pub not_sure : CallsAreSure dock.old → ⊥

-- the port was listened on, and a front of the line went out
pub record ReadyFailed (port : ℕ) (output : Change OutView) (dock : Change DockView) : Type 0 where
  pub front : WroteFront ready_line output
  pub idle : IsIdle (listening port dock.old) dock.new

-- a call on the dock failed after it
pub record ServingFailed (port sessions : ℕ) (output : Change OutView) (dock : Change DockView) : Type 0 where
  pub ready : Took output.old output.new ready_line
  pub partly : ServedPartly serve_fault.DockFault port sessions dock
  pub faulted : Faulted dock.old.faults dock.new.faults

-- the port is listened on, and that was said, or why not
abbrev pub OpeningMeets : (port : ℕ) → (output : Change OutView) → Change DockView → Result (Unit {0}) Refusal → Type 0
OpeningMeets port output dock (Ok done) =
    Took output.old output.new ready_line × IsIdle (listening port dock.old) dock.new × (dock.old.faults ≤ dock.new.faults)
OpeningMeets port output dock (Err refusal.Outside) = ListeningFailed output dock ⊎ ReadyFailed port output dock
OpeningMeets port output dock (Err _) = ⊥

-- what was served, and how many frames the log has; or why not all
abbrev pub ServingMeets : (port sessions : ℕ) → (output : Change OutView) → Change DockView → Result ℕ Refusal → Type 0
ServingMeets port sessions output dock (Ok logged) = Took output.old output.new ready_line × ServedAll port sessions dock logged
ServingMeets port sessions output dock (Err refusal.Outside) =
    ListeningFailed output dock ⊎ ReadyFailed port output dock ⊎ ServingFailed port sessions output dock
ServingMeets port sessions output dock (Err refusal.TooLong) = Took output.old output.new ready_line × TookAllSteps port sessions dock
ServingMeets port sessions output dock (Err refusal.NoMemory) =
    Took output.old output.new ready_line × ServedPartly serve_fault.NoMemory port sessions dock
ServingMeets port sessions output dock (Err _) = ⊥

-- the steps that a dock gives a new relay are enough, and there is room for what they ask for
abbrev pub IsEnough : (sessions : ℕ) → DockView → Type 0
IsEnough sessions dock = DockSuffices sessions (new_relay MOST_LOGGED) dock

-- where they are enough no fault of the dock is counted, and none is reported where the output has room
pub record NeverBlamed {T : Type 0} (sessions : ℕ) (output : Change OutView) (dock : Change DockView)
    (result : Result T Refusal) : Type 0 where
  pub counts_no_fault : IsEnough sessions dock.old → dock.new.faults ≡ dock.old.faults
  pub sure : IsEnough sessions dock.old → HasRoom (length ready_line) output.old → result ≢ Err refusal.Outside

-- of an output and a dock that are specified, the counts rise with an outside fault alone
pub record RiseOutside {T : Type 0} (output : Change OutView) (dock : Change DockView) (result : Result T Refusal) : Type 0 where
  pub of_output : OutIsSpecified output.old → result ≢ Err refusal.Outside → output.new.faults ≡ output.old.faults
  pub of_dock : DockIsSpecified dock.old → result ≢ Err refusal.Outside → dock.new.faults ≡ dock.old.faults

-- the act of `relay`: how many frames its log has is noted
abbrev pub serving : (port sessions : ℕ) → (output : Change OutView) → Change DockView → Act ℕ
serving port sessions output dock = record {
  Comes = ServingMeets port sessions output dock;
  line = λ logged. Some (log_line logged);
  status = λ logged. status.Done;
}

-- where the dock is specified, its count of faults rises with an outside fault alone
abbrev pub DockBlameless : Change DockView → Status → Type 0
DockBlameless dock end = DockIsSpecified dock.old → end ≢ status.OutsideFault → dock.new.faults ≡ dock.old.faults

-- the command `relay`
pub record Relays (port sessions : ℕ) (output notes : Change OutView) (dock : Change DockView) (end : Status) : Type 0 where
  pub performs : Performs (serving port sessions output dock) notes end
  -- sure objects with room count no fault
  pub output_no_fault : CountsNoFault (length ready_line) output.old output.new
  pub dock_no_fault : IsEnough sessions dock.old → dock.new.faults ≡ dock.old.faults
  -- and where all are, no outside fault comes
  pub never_outside : IsEnough sessions dock.old → HasRoom (length ready_line) output.old → HasRoom notes_room notes.old
      → end ≢ status.OutsideFault
  pub output_blameless : OutBlameless output end
  pub dock_blameless : DockBlameless dock end
