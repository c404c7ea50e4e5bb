-- The accepted set does not depend on the order of arrival, and what was kept stands for all that was taken in.
use Rattle.std.specs.Prelude.{◌≡◌, ◌≢◌, All, Contains, Some, true, false, List, ◌++◌, ℕ, flat_map, map}
use Rattle.fugue_ids.specs.Identifiers.{Identifier}
use Rattle.fugue_ids.specs.Ops.{id_of}
use Rattle.fugue_ids.specs.declared.op.Op.{Op}
use Rattle.origin_model.specs.operations.History.{has_op, accepted}
use Rattle.origin_model.specs.order.Laws.{IsPartOf, SameOps, IsSameText}
use Rattle.origin_model.specs.taking.Taking.{Held, MeetsNoLimit, nothing_held, Answer, TooMany, Full, held, held_from, kept, kept_from}
use Rattle.origin_model.specs.taking.Taking.{answers_from, is_kept, IsSettled, settle, closure}
use Rattle.origin_model.specs.operations.Verdict.{names, verdict, Lawful}
use Rattle.origin_model.specs.declared.operations.Verdict.TheVariants.{Ready}

-- no two different operations have one identifier
abbrev pub Consistent : List Op → Type 0
Consistent ops = (a b : Op) (i : Identifier) → has_op ops a ≡ true → has_op ops b ≡ true → id_of a ≡ Some i → id_of b ≡ Some i → a ≡ b

-- the answers to operations taken in one after another from nothing
abbrev pub answers : (hold most : ℕ) → List Op → List Answer
answers hold most ops = answers_from hold most nothing_held ops

-- no limit was met: no answer is Full or TooMany
abbrev pub WithinLimits : List Answer → Type 0
WithinLimits answers = All (λ a. (a ≢ Full) × (a ≢ TooMany)) answers

-- no operation of the list can be added to the history
abbrev pub Saturated : List Op → List Op → Type 0
Saturated history ops = (op : Op) → has_op ops op ≡ true → has_op history op ≡ false → verdict history op ≡ Ready → ⊥

-- a lawful part of a list to which no more of it can be added
pub record IsClosed (ops history : List Op) : Type 0 where
  pub lawful : Lawful history
  pub part : IsPartOf history ops
  pub saturated : Saturated history ops

-- the closure is one
abbrev pub ClosureIsClosed : Type 0
ClosureIsClosed = (ops : List Op) → IsClosed ops (closure ops)

-- in any order, with any repeats and within the limits, the accepted operations are those of the closure
abbrev pub ClosureOfSet : Type 0
ClosureOfSet =
    (hold most : ℕ) (ops : List Op) → Consistent ops → WithinLimits (answers hold most ops)
    → SameOps (held hold most ops).history (closure ops)

-- lists with the same operations have the same closure
abbrev pub ClosureBySet : Type 0
ClosureBySet = (a b : List Op) → Consistent a → SameOps a b → SameOps (closure a) (closure b)

-- two replicas accepted the same operations, and print the same
pub record Converged (a b : Held) : Type 0 where
  pub same_ops : SameOps a.history b.history
  pub same_text : IsSameText a.history b.history

-- two replicas that took in the same set converge, whatever the order and the repeats, and whatever their limits
abbrev pub SameSetConverges : Type 0
SameSetConverges =
    (hold most hold' most' : ℕ) (a b : List Op) → Consistent a → SameOps a b
    → WithinLimits (answers hold most a) → WithinLimits (answers hold' most' b)
    → Converged (held hold most a) (held hold' most' b)

-- a replica's limits and what it took in
pub record Taker : Type 0 where
  pub hold : ℕ
  pub most : ℕ
  pub ops : List Op

-- what a replica holds after it took its operations in
abbrev pub taker_state : Taker → Held
taker_state r = held r.hold r.most r.ops

-- the operations that the replica accepted or that wait
abbrev pub kept_by : Taker → List Op
kept_by r = kept r.hold r.most r.ops

-- what a replica gives to others: its accepted operations, and then those that wait
abbrev pub given_by : Taker → List Op
given_by r = accepted (taker_state r).history ++ (taker_state r).waiting

-- the operations that each of the replicas kept
abbrev pub kept_by_all : List Taker → List Op
kept_by_all replicas = flat_map kept_by replicas

-- the operations that were given to the replicas
abbrev pub given_by_all : List Taker → List Op
given_by_all replicas = flat_map given_by replicas

-- a replica that takes in all that others give, and besides it only what they kept, in any order, grouping and
-- repetition, accepts the closure of the union of what all of them kept
abbrev pub ClosureOfUnion : Type 0
ClosureOfUnion =
    (r : Taker) (others : List Taker) (ops : List Op) → IsPartOf (given_by_all others) ops → IsPartOf ops (kept_by_all others)
    → Consistent (kept_by r ++ kept_by_all others) → WithinLimits (answers_from r.hold r.most (taker_state r) ops)
    → SameOps (held_from r.hold r.most (taker_state r) ops).history (closure (kept_by r ++ kept_by_all others))

-- so does one that takes in what one other gives, as it stands
abbrev pub ClosureOfMerge : Type 0
ClosureOfMerge =
    (r other : Taker) → Consistent (kept_by r ++ kept_by other) → WithinLimits (answers_from r.hold r.most (taker_state r) (given_by other))
    → SameOps (held_from r.hold r.most (taker_state r) (given_by other)).history (closure (kept_by r ++ kept_by other))

-- parts that are taken in one after the other are taken in as one list
abbrev pub PartsAsOne : Type 0
PartsAsOne =
    (hold most : ℕ) (s : Held) (a b : List Op)
    → (held_from hold most (held_from hold most s a) b ≡ held_from hold most s (a ++ b))
    × (kept_from hold most s a ++ kept_from hold most (held_from hold most s a) b ≡ kept_from hold most s (a ++ b))

-- the kept ones of a list, taken in alone: the state is the same, and each of them is kept again, so that no limit is met
pub record KeptStand (hold most : ℕ) (s : Held) (ops : List Op) : Type 0 where
  pub same_state : held_from hold most s (kept_from hold most s ops) ≡ held_from hold most s ops
  pub kept_again : All (λ a. is_kept a ≡ true) (answers_from hold most s (kept_from hold most s ops))
  pub within_limits : WithinLimits (answers_from hold most s (kept_from hold most s ops))

-- from any settled state the kept operations of a list stand for all of it
abbrev pub KeptSuffice : Type 0
KeptSuffice = (hold most : ℕ) (s : Held) (ops : List Op) → IsSettled s → KeptStand hold most s ops

-- settling goes on until nothing that waits is Ready or Stray
abbrev pub SettlingEnds : Type 0
SettlingEnds = (s : Held) → IsSettled (settle s)

-- what is taken in leaves a settled state settled
abbrev pub StaysSettled : Type 0
StaysSettled = (hold most : ℕ) (s : Held) (ops : List Op) → IsSettled s → IsSettled (held_from hold most s ops)

-- a file's operations, with those after them that a replica of that file kept of a list
pub record IsSaved (hold most : ℕ) (file ops : List Op) : Type 0 where
  pub same_state : held hold most (file ++ kept_from hold most (held hold most file) ops) ≡ held_from hold most (held hold most file) ops
  pub within_limits : WithinLimits (answers hold most file)
      → WithinLimits (answers hold most (file ++ kept_from hold most (held hold most file) ops))
  pub has_place : MeetsNoLimit hold most nothing_held file
      → MeetsNoLimit hold most nothing_held (file ++ kept_from hold most (held hold most file) ops)

-- saving the kept operations after those of the file saves the state, and the file meets no limit that it did not meet before;
-- where nothing was refused for want of a place, nothing is, even if something was Full
abbrev pub SavedSuffice : Type 0
SavedSuffice = (hold most : ℕ) (file ops : List Op) → IsSaved hold most file ops

-- the operation names its own identifier
pub record NamesItself (op : Op) : Type 0 where
  pub id : Identifier
  pub own : id_of op ≡ Some id
  pub named : Contains (map (λ n. n.0) (names op)) id

-- it is Ready on no history, and no lawful history has it
pub record IsNeverAccepted (op : Op) : Type 0 where
  pub never_ready : (history : List Op) → verdict history op ≢ Ready
  pub in_none : (history : List Op) → Lawful history → has_op history op ≡ false

-- an operation that names its own identifier is never accepted
abbrev pub SelfNamedNeverAccepted : Type 0
SelfNamedNeverAccepted = (op : Op) → NamesItself op → IsNeverAccepted op
