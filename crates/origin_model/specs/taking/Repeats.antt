-- The closure as the greatest lawful part of a list, what is accepted whatever the limits, and operations that are taken in again.
use Rattle.std.specs.Prelude.{◌≡◌, All, true, List, ◌++◌, ℕ, ◌≤◌}
use Rattle.fugue_ids.specs.declared.op.Op.{Op}
use Rattle.origin_model.specs.edits.State.{State, IsSound}
use Rattle.origin_model.specs.operations.History.{accepted}
use Rattle.origin_model.specs.operations.Verdict.{Lawful}
use Rattle.origin_model.specs.order.Laws.{IsPartOf, SameOps}
use Rattle.origin_model.specs.taking.Closure.{Consistent}
use Rattle.origin_model.specs.taking.Taking.{MeetsNoLimit, Held, IsSettled, closure, held, held_from, is_again}

-- the closure of a list has each lawful part of it
abbrev pub ClosureIsGreatest : Type 0
ClosureIsGreatest = (ops part : List Op) → Consistent ops → Lawful part → IsPartOf part ops → IsPartOf part (closure ops)

-- the closure of a part of a list is part of the closure of the list
abbrev pub ClosureIsMonotone : Type 0
ClosureIsMonotone = (a b : List Op) → Consistent b → IsPartOf a b → IsPartOf (closure a) (closure b)

-- whatever the limits, what is accepted of a list is part of its closure
abbrev pub AcceptedIsInClosure : Type 0
AcceptedIsInClosure = (hold most : ℕ) (ops : List Op) → Consistent ops → IsPartOf (held hold most ops).history (closure ops)

-- a list is taken in after operations of which each is one of the list. Where no answer is TooMany, and nothing is
-- accepted, all of the closure had been accepted
abbrev pub QuietPassIsLast : Type 0
QuietPassIsLast =
    (hold most : ℕ) (before ops : List Op) → Consistent ops → IsPartOf before ops → MeetsNoLimit hold most (held hold most before) ops
    → (held_from hold most (held hold most before) ops).history ≡ (held hold most before).history
    → SameOps (held hold most before).history (closure ops)

-- operations that are accepted already, or wait, change nothing when they are taken in again
abbrev pub RepeatsChangeNothing : Type 0
RepeatsChangeNothing = (hold most : ℕ) (s : Held) (ops : List Op) → IsSettled s → All (λ op. is_again s op ≡ true) ops
    → held_from hold most s ops ≡ s

-- what a settled replica gives, its accepted operations and then those that wait, each in their order, leads from
-- nothing to what it holds, where the limits are no less than its own
abbrev pub ReplicaIsRebuilt : Type 0
ReplicaIsRebuilt =
    (s : State) (hold most : ℕ) → IsSound s → IsSettled s.held → s.hold ≤ hold → s.most ≤ most
    → held hold most (accepted s.held.history ++ s.held.waiting) ≡ s.held
