-- Strong eventual consistency (Shapiro and others, "Conflict-free Replicated Data Types"): replicas that got the same
-- operations agree. The strong list specification says that nothing wrong is ever shown; this says that all is shown
-- where all has come.
use Rattle.std.specs.Prelude.{ℕ, Bool, nat_eq, if◌then◌else◌, List, [], ◌∷◌, ◌++◌, flat_map, All}
use Rattle.fugue_ids.specs.declared.op.Op.{Op}
use Rattle.origin_model.specs.operations.History.{has_op}
use Rattle.origin_model.specs.order.Laws.{IsPartOf, IsSameText, SameOps}
use Rattle.origin_model.specs.taking.Closure.{WithinLimits}
use Rattle.origin_model.specs.taking.Taking.{Answer, answer}
use Rattle.origin_model.specs.edits.State.{State}
use Rattle.list_spec.specs.Worlds.{AreNew, Deliver, Edit, Event, Noting, World, after_event, effect, made_at, note_effect, world}

-- the members where the test holds, and else none
abbrev pub where_true : {A : Type 0} → Bool → List A → List A
where_true b xs = if b then xs else []

-- the operations that an event brings to the replica with the number n: those that are made there, or the one that is delivered
abbrev pub brought_by : ℕ → World → Event → List Op
brought_by n w (Edit number command) = where_true (nat_eq number n) (made_at number (λ (s : State). effect s command) w.replicas)
brought_by n w (Noting number named code body) =
    where_true (nat_eq number n) (made_at number (λ (s : State). note_effect s named code body) w.replicas)
brought_by n w (Deliver number op) = where_true (nat_eq number n) (where_true (has_op w.pool op) (op ∷ []))

-- the answer of the replica with this number to an operation
abbrev pub answer_at : ℕ → Op → List State → List Answer
answer_at number op replicas = flat_map (λ (s : State). where_true (nat_eq s.number number) (answer s.hold s.most s.held op ∷ [])) replicas

-- the answer of the replica with the number n to what an event delivers there
abbrev pub answers_to : ℕ → World → Event → List Answer
answers_to n w (Deliver number op) = where_true (nat_eq number n) (where_true (has_op w.pool op) (answer_at number op w.replicas))
answers_to n w event = []

-- the operations that events bring to a replica, and its answers
abbrev pub brought : ℕ → World → List Event → List Op
brought n w [] = []
brought n w (event ∷ events) = brought_by n w event ++ brought n (after_event w event) events

-- the answers of the replica n to all that events bring it
abbrev pub all_answers : ℕ → World → List Event → List Answer
all_answers n w [] = []
all_answers n w (event ∷ events) = answers_to n w event ++ all_answers n (after_event w event) events

-- where replicas begin
abbrev pub begun : List State → World
begun replicas = record { replicas = replicas; pool = [] }

-- every operation that was ever made was made at the replica or delivered to it, and it met no limit
pub record GotEverything (replicas : List State) (events : List Event) (n : ℕ) : Type 0 where
  pub all : IsPartOf (world replicas events).pool (brought n (begun replicas) events)
  pub within_limits : WithinLimits (all_answers n (begun replicas) events)

-- a replica that got everything has accepted everything that was ever made
abbrev pub HasEverything : Type 0
HasEverything =
    (replicas : List State) (events : List Event) → AreNew replicas
    → let w = world replicas events in
    All (λ (s : State). GotEverything replicas events s.number → SameOps s.held.history w.pool) w.replicas

-- any two that got everything have the same order, and show and print the same
abbrev pub AllAgree : Type 0
AllAgree =
    (replicas : List State) (events : List Event) → AreNew replicas
    → let all = (world replicas events).replicas in
    All (λ (s : State). All (λ (t : State). GotEverything replicas events s.number → GotEverything replicas events t.number
    → IsSameText s.held.history t.held.history) all) all
