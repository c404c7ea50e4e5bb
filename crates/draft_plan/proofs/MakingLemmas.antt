-- Operations that were made by changes, and how changes stop at a limit.
use Rattle.std.proofs.Common.{List, [], ap, arith, length, length-append, refl, sym, ℕ, ◌+◌, ◌++◌, ◌∙◌, ◌∷◌, ◌≡◌, ◌≤◌}
use Rattle.std.specs.List.{All}
use Rattle.std.proofs.lemmas.List.{length-reverse}
use Rattle.fugue_ids.specs.declared.limits.TheConstants.{MOST_OPERATIONS}
use Rattle.fugue_ids.specs.declared.op.Op.{Op}
use Rattle.origin_model.specs.edits.State.{IsSound, State}
use Rattle.origin_model.specs.operations.History.{accepted}
use Rattle.draft_plan.specs.Changes.{PlanChange, MakesChanges, all_made, made_of}
use Rattle.draft_plan.specs.Revision.{Makes, StopsAtLimit}
use Rattle.draft_plan.specs.declared.fault.ReviseFault.{ReviseFault}
use Rattle.draft_plan.proofs.ChangeLemmas.{changed_join, changed_none, count_join, count_one, stops_after}

-- nothing was made yet
pub makes_none : (s : State) → Makes s s 0
makes_none s = record { changes = []; changed = changed_none s; count = refl }

pub makes_one : (old new : State) (c : PlanChange) (n : ℕ) → MakesChanges old new (c ∷ []) → n ≡ length (made_of old c) → Makes old new n
makes_one old new c n changed count = record { changes = c ∷ []; changed = changed; count = count ∙ sym (count_one old c) }

pub makes_join : (old mid new : State) (n m : ℕ) → Makes old mid n → Makes mid new m → Makes old new (n + m)
makes_join old mid new n m first next = record {
  changes = first.changes ++ next.changes;
  changed = changed_join old mid new first.changes next.changes first.changed next.changed;
  count = omega (arith, first.count, next.count, count_join old mid first.changes next.changes first.changed);
}

-- so many operations there are
pub makes_few : (old new : State) (n : ℕ) → Makes old new n → IsSound new → n ≤ MOST_OPERATIONS
makes_few old new n m st =
    let ops : List Op = all_made old m.changes in
    let long : length (accepted new.held.history) ≡ length (accepted old.held.history) + length ops =
    ap length m.changed.gained.accepted_are ∙ length-append (accepted old.held.history) ops in
    omega (arith, long, m.count, length-reverse new.held.history, st.few, st.most_within.1)

-- changes of any kind
abbrev pub AnyChange : PlanChange → Type 0
AnyChange c = Unit {0}

any_changes : (cs : List PlanChange) → All AnyChange cs
any_changes cs = λ k d within. tt

-- changes were made, and then one stopped
pub stops_behind : (old mid new : State) (n : ℕ) (why : ReviseFault) → Makes old mid n → StopsAtLimit mid new why → StopsAtLimit old new why
stops_behind old mid new n why made s = record {
  limit = s.limit;
  stops = stops_after AnyChange old mid new made.changes why (any_changes made.changes) made.changed s.stops;
}
