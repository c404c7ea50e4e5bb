-- What the call comes to that names a version.
use Rattle.std.proofs.Common.{◌≡◌, ap, refl, ℕ, ◌+◌, ◌-◌, ◌^◌, List, [], Bool, true, false, ◌&&◌}
use Rattle.std.specs.Prelude.{Option, None, Some, Ok, Err, nat_lt, option_map, if◌then◌else◌}
use Rattle.std.proofs.lemmas.List.Elements.{All-nil}
use Rattle.fugue_ids.specs.declared.op.Op.{Op}
use Rattle.origin_model.specs.operations.History.{holds}
use Rattle.origin_model.specs.declared.edit_fault.EditFault.{EditFault}
use Rattle.origin_model.specs.declared.edit_fault.EditFault.TheVariants as note_fault
use Rattle.origin_model.specs.edits.Noting.{IsNoted, note_by, note_refusal}
use Rattle.origin_model.specs.edits.Refusal.{held_count, next_of_own}
use Rattle.origin_model.specs.edits.State.{State as Replica}
use Rattle.origin_model.specs.operations.Verdict.{Lawful}
use Rattle.origin_model.proofs.edits.NotedLemmas.{note_without_position, noted_ready}
use Rattle.version_views.specs.Naming.{RefusesVersion}
use Rattle.version_views.specs.declared.limits.TheConstants.{VERSION_CODE}
use Rattle.version_views.specs.declared.naming.VersionFault.{VersionFault}
use Rattle.version_views.specs.declared.naming.VersionFault.TheVariants as fault
use Rattle.manuscript_cli.specs.NamedVersions.{note_refused, version_on, version_refused}
use Rattle.command_kinds.specs.Notes.{NoteComes, unless_refused}

-- a note is not refused for lack of memory
by_tests : (b c : Bool) (greatest held : ℕ) → (if b then Some (note_fault.IdsSpent greatest) else (if c then Some (note_fault.TooMany held) else None)) ≡ Some note_fault.NoMemory
    → ⊥
by_tests true c greatest held e = cc e
by_tests false true greatest held e = cc e
by_tests false false greatest held e = cc e

pub never_for_memory : (s : Replica) → note_refusal s ≡ Some note_fault.NoMemory → ⊥
never_for_memory s e =
    by_tests (nat_lt 0 1 && nat_lt (2 ^ 32) (next_of_own s + 1)) (nat_lt s.most (held_count s + 1)) (next_of_own s - 1) (held_count s) e

-- what was named was not refused
module _ (s : Replica) (n : ℕ) (refuses : RefusesVersion s (Ok n)) where
  by_cause : (o : Option EditFault) → note_refusal s ≡ o → o ≡ None
  by_cause None e = refl
  by_cause (Some (note_fault.IdsSpent counter)) e = cc ((refuses (fault.IdsSpent counter) (λ k. cc k)).1 e)
  by_cause (Some (note_fault.TooMany held)) e = cc ((refuses (fault.TooMany held) (λ k. cc k)).1 e)
  by_cause (Some note_fault.NoSection) e = absurd ((note_without_position s note_fault.NoSection e).0 refl)
  by_cause (Some note_fault.OutOfRange) e = absurd ((note_without_position s note_fault.OutOfRange e).1 refl)
  by_cause (Some note_fault.NoMemory) e = absurd (never_for_memory s e)

  pub version_allowed : note_refusal s ≡ None
  version_allowed = by_cause (note_refusal s) refl

module _ (name : List ℕ) (old new : Replica) where
  abbrev version_note : Op
  version_note = note_by old [] VERSION_CODE name

  -- a version that was named
  pub version_comes : (n : ℕ) → Lawful old.held.history → IsNoted old new [] VERSION_CODE name n → RefusesVersion old (Ok n) → NoteComes (version_on name old) old new (Ok tt)
  version_comes n lawful noted refuses =
      let allowed = version_allowed old n refuses in
      record {
        named = [];
        code = VERSION_CODE;
        body = name;
        found_is = ap (λ o. unless_refused (option_map note_refused o) version_note) allowed;
        ready = noted_ready old.number old.held.history old.held.waiting [] VERSION_CODE name lawful (All-nil (λ i. holds old.held.history i ≡ true));
        allowed = allowed;
        gained = noted.gained;
      }

  -- one that was not
  pub version_stops : (f : VersionFault) → RefusesVersion old (Err f) → NoteComes (version_on name old) old new (Err (version_refused f))
  version_stops fault.NoMemory refuses = tt
  version_stops (fault.IdsSpent counter) refuses = ap (λ o. unless_refused (option_map note_refused o) version_note) ((refuses (fault.IdsSpent counter) (λ k. cc k)).0 refl)
  version_stops (fault.TooMany held) refuses = ap (λ o. unless_refused (option_map note_refused o) version_note) ((refuses (fault.TooMany held) (λ k. cc k)).0 refl)
