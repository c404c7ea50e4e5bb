-- What `changes` tells, by how many operations there are.
use Rattle.std.proofs.Common.{◌≡◌, ℕ, ◌≤◌, ◌<◌, ◌-◌, ◌++◌, ◌∙◌, List, ap, length, refl, sym, take}
use Rattle.std.proofs.lemmas.Bool.{le-ltb, lt-ltb}
use Rattle.fugue_ids.specs.declared.op.Op.{Op}
use Rattle.origin_model.specs.edits.State.{State}
use Rattle.version_views.specs.Fronts.{replica_at}
use Rattle.version_views.specs.Views.{first_ops}
use Rattle.version_views.proofs.ViewLemmas.{parts}
use Rattle.change_marks.specs.Changes.{IsLater, changes_text}
use Rattle.command_kinds.specs.Findings.{Does, Refuses}
use Rattle.command_kinds.specs.declared.refusal.Refusal.TheVariants.{NoMoment}
use Rattle.manuscript_cli.specs.Changed.{changes_of}

pub changes_within : (n : ℕ) (h : List Op) → n ≤ length h → changes_of n h ≡ Does (changes_text (first_ops n h) h)
changes_within n h l = rw (le-ltb (length h) n l) refl

pub changes_beyond : (n : ℕ) (h : List Op) → length h < n → changes_of n h ≡ Refuses (NoMoment n)
changes_beyond n h l = rw (lt-ltb (length h) n l) refl

-- a front of a replica is an older part of it
pub front_is_earlier : (n : ℕ) (s front : State) → front ≡ replica_at n s → IsLater front.held.history s.held.history
front_is_earlier n s front is = record {
  newer = take (length s.held.history - n) s.held.history;
  whole = sym (parts n s.held.history) ∙ ap (λ (t : State). take (length s.held.history - n) s.held.history ++ t.held.history) (sym is);
}
