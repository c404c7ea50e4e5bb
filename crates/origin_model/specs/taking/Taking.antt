-- Taking operations in. A history is newest first; what waits stands in order of arrival.
use Rattle.std.specs.Prelude.{◌≡◌, ◌≢◌, All, Option, Some, None, Bool, true, false, if◌then◌else◌, ◌||◌, List, [], ◌∷◌, ◌++◌, ℕ, ◌+◌, ◌-◌}
use Rattle.std.specs.Prelude.{nat_eq, length}
use Rattle.fugue_ids.specs.Identifiers.{Identifier}
use Rattle.fugue_ids.specs.Ops.{id_of}
use Rattle.fugue_ids.specs.declared.op.Op.{Op}
use Rattle.origin_model.specs.operations.History.{has_op}
use Rattle.origin_model.specs.operations.Verdict.{verdict, id_held}
use Rattle.origin_model.specs.declared.taking.Tally.{Tally}
use Rattle.origin_model.specs.declared.operations.Verdict.{Verdict}
use Rattle.origin_model.specs.declared.operations.Verdict.TheVariants.{Stray as StrayOnHistory, Ready}

-- the accepted and the waiting operations
pub record Held : Type 0 where
  pub history : List Op
  pub waiting : List Op

-- nothing was accepted, and nothing waits
abbrev pub nothing_held : Held
nothing_held = record { history = []; waiting = [] }

-- the answer to an operation that is taken in
pub data Answer : Type 0 where
  Again : Answer
  Conflict : Answer
  Stray : Identifier → Answer
  TooMany : Answer
  Accepted : Answer
  Full : Answer
  Waits : Answer

-- what is decided where nothing of the operation is held yet: by the verdict and the two limits
abbrev pub answer_by : (at_most at_hold : Bool) → Verdict → Answer
answer_by at_most at_hold (StrayOnHistory i) = Stray i
answer_by true at_hold v = TooMany
answer_by false at_hold Ready = Accepted
answer_by false true v = Full
answer_by false false v = Waits

-- an equal operation is accepted or waits
abbrev pub is_again : Held → Op → Bool
is_again s op = has_op s.history op || has_op s.waiting op

-- an accepted or waiting operation has the operation's own identifier
abbrev pub is_taken : Held → Op → Bool
is_taken s op = id_held s.history (id_of op) || id_held s.waiting (id_of op)

-- the answer to one operation: the first line that applies
abbrev pub answer : (hold most : ℕ) → Held → Op → Answer
answer hold most s op =
    if is_again s op then Again
    else if is_taken s op then Conflict
    else answer_by (nat_eq (length s.history + length s.waiting) most) (nat_eq (length s.waiting) hold) (verdict s.history op)

-- what an answer changes
abbrev pub held_after : Answer → Held → Op → Held
held_after Accepted s op = record { history = op ∷ s.history; waiting = s.waiting }
held_after Waits s op = record { history = s.history; waiting = s.waiting ++ op ∷ [] }
held_after _ s op = s

-- a waiting operation is decided where it is Ready or Stray
abbrev pub is_decided : Verdict → Bool
is_decided Ready = true
is_decided (StrayOnHistory i) = true
is_decided _ = false

-- the operation is Ready or Stray on the history
abbrev pub decided_on : List Op → Op → Bool
decided_on history op = is_decided (verdict history op)

-- nothing that waits is Ready or Stray
abbrev pub IsSettled : Held → Type 0
IsSettled s = All (λ op. decided_on s.history op ≡ false) s.waiting

-- the earliest decided operation, and the others
abbrev pub earliest : List Op → List Op → Option (Op × List Op)
earliest history [] = None
earliest history (op ∷ ops) =
    if decided_on history op then Some (op, ops) else elim (earliest history ops) [ None ↦ None | Some r ↦ Some (r.0, op ∷ r.1) ]

-- a Ready operation joins the history
abbrev pub joined : Verdict → Op → List Op → List Op
joined Ready op history = op ∷ history
joined _ op history = history

-- one step: the earliest decided one leaves; a Ready one joins the history, a Stray one is dropped
abbrev pub settle_step : Held → Option Held
settle_step s =
    elim (earliest s.history s.waiting) [
      | None ↦ None
      | Some r ↦ Some (record { history = joined (verdict s.history r.0) r.0 s.history; waiting = r.1 })
    ]

-- steps as long as there is one; each takes one from those that wait, so the list `room` bounds their number
abbrev pub settled_within : List Op → Held → Held
settled_within [] s = s
settled_within (op ∷ room) s = elim (settle_step s) [ None ↦ s | Some t ↦ settled_within room t ]

-- what is held once all that became Ready or Stray has left the waiting operations
unfoldable pub settle : Held → Held
settle s = settled_within s.waiting s

-- taking in one operation: the answer's change, and then settling
abbrev pub intake : (hold most : ℕ) → Held → Op → Held
intake hold most s op = settle (held_after (answer hold most s op) s op)

-- taking in operations one after another, from a given state and from nothing
abbrev pub held_from : (hold most : ℕ) → Held → List Op → Held
held_from hold most s [] = s
held_from hold most s (op ∷ ops) = held_from hold most (intake hold most s op) ops

-- what a replica holds that took these operations in
abbrev pub held : (hold most : ℕ) → List Op → Held
held hold most ops = held_from hold most nothing_held ops

-- the answers, in order
abbrev pub answers_from : (hold most : ℕ) → Held → List Op → List Answer
answers_from hold most s [] = []
answers_from hold most s (op ∷ ops) = answer hold most s op ∷ answers_from hold most (intake hold most s op) ops

-- all of the operations can be taken in: no answer is that there are too many
abbrev pub MeetsNoLimit : (hold most : ℕ) (start : Held) → List Op → Type 0
MeetsNoLimit hold most start ops = All (λ a. a ≢ TooMany) (answers_from hold most start ops)

-- the answer keeps the operation
abbrev pub is_kept : Answer → Bool
is_kept Accepted = true
is_kept Waits = true
is_kept _ = false

-- those whose answer was Accepted or Waits
abbrev pub kept_from : (hold most : ℕ) → Held → List Op → List Op
kept_from hold most s [] = []
kept_from hold most s (op ∷ ops) =
    let rest = kept_from hold most (intake hold most s op) ops in
    if is_kept (answer hold most s op) then op ∷ rest else rest

-- those of the operations that a new replica keeps
abbrev pub kept : (hold most : ℕ) → List Op → List Op
kept hold most ops = kept_from hold most nothing_held ops

-- how many operations joined the history between two states
abbrev pub count_joined : Held → Held → ℕ
count_joined old new = length new.history - length old.history

-- how many that waited left without joining the history, between two states of settling
abbrev pub count_dropped : Held → Held → ℕ
count_dropped old new = length old.waiting - (length new.waiting + count_joined old new)

-- an answer counted
abbrev pub answer_counted : Answer → Tally → Tally
answer_counted Again t = record t { repeated = t.repeated + 1 }
answer_counted Conflict t = record t { conflict = t.conflict + 1 }
answer_counted (Stray i) t = record t { stray = t.stray + 1 }
answer_counted Full t = record t { full = t.full + 1 }
answer_counted Accepted t = record t { accepted = t.accepted + 1 }
answer_counted _ t = t

-- what settling did from one state to another, counted
abbrev pub settling_counted : Held → Held → Tally → Tally
settling_counted old new t = record t { accepted = t.accepted + count_joined old new; stray = t.stray + count_dropped old new }

-- taking in one operation, counted
abbrev pub intake_counted : (hold most : ℕ) → Held → Op → Tally → Tally
intake_counted hold most s op t =
    let a = answer hold most s op in
    settling_counted (held_after a s op) (intake hold most s op) (answer_counted a t)

-- taking in operations one after another, counted
abbrev pub tally_from : (hold most : ℕ) → Held → List Op → Tally → Tally
tally_from hold most s [] t = t
tally_from hold most s (op ∷ ops) t = tally_from hold most (intake hold most s op) ops (intake_counted hold most s op t)

-- nothing was counted
abbrev pub no_counts : Tally
no_counts = record { accepted = 0; repeated = 0; conflict = 0; stray = 0; full = 0 }

-- the counts of taking these operations in
abbrev pub tally : (hold most : ℕ) → List Op → Tally
tally hold most ops = tally_from hold most nothing_held ops no_counts

-- the earliest Ready operation
abbrev pub first_ready : List Op → List Op → Option Op
first_ready history [] = None
first_ready history (op ∷ ops) = elim (verdict history op) [ Ready ↦ Some op | _ ↦ first_ready history ops ]

-- the history closed under what is Ready of the operations, in so many steps
abbrev pub closed_within : List Op → List Op → List Op → List Op
closed_within [] ops history = history
closed_within (o ∷ room) ops history = elim (first_ready history ops) [ None ↦ history | Some op ↦ closed_within room ops (op ∷ history) ]

-- all that comes to be Ready: as long as some operation is Ready on the list so far, the earliest such joins it
unfoldable pub closure : List Op → List Op
closure ops = closed_within ops ops []
