-- An edit that was made was not refused, and none is refused for an allocation failure.
use Rattle.std.proofs.Common.{Bool, cond, false, length, refl, true, ℕ, ◌≡◌}
use Rattle.std.specs.Prelude.{Err, None, Ok, Option, Result, Some}
use Rattle.fugue_ids.specs.Identifiers.{Identifier}
use Rattle.origin_model.specs.declared.edit_fault.EditFault.{EditFault}
use Rattle.origin_model.specs.declared.edit_fault.EditFault.TheVariants.{IdsSpent, NoMemory, NoSection, OutOfRange, TooMany}
use Rattle.origin_model.specs.edits.Edits.{Add, Command, Cut, DropSection, Put}
use Rattle.origin_model.specs.edits.Refusal.{RefusesExactly, in_section, refusal_message, refused_elements, refused_ops, section_shown}
use Rattle.origin_model.specs.edits.State.{State}

-- no edit is refused for an allocation failure
never_ops : (b : Bool) (held : ℕ) → cond b (Some (TooMany held)) None ≡ Some NoMemory → ⊥
never_ops true held e = cc
never_ops false held e = cc

never_elements : (b : Bool) (n : ℕ) (other : Option EditFault) → (other ≡ Some NoMemory → ⊥) → cond b (Some (IdsSpent n)) other ≡ Some NoMemory → ⊥
never_elements true n other never e = cc
never_elements false n other never e = never e

never_range : (b : Bool) (other : Option EditFault) → (other ≡ Some NoMemory → ⊥) → cond b (Some OutOfRange) other ≡ Some NoMemory → ⊥
never_range true other never e = cc
never_range false other never e = never e

never_section : (found : Option Identifier) (cause : Identifier → Option EditFault) → ((x : Identifier) → cause x ≡ Some NoMemory → ⊥) → in_section found cause ≡ Some NoMemory → ⊥
never_section None cause never e = cc
never_section (Some x) cause never e = never x e

pub never_more : (s : State) (n : ℕ) → refused_elements s n ≡ Some NoMemory → ⊥
never_more s n = never_elements _ _ (refused_ops s n) (never_ops _ _)

pub never_memory : (s : State) (command : Command) → refusal_message s command ≡ Some NoMemory → ⊥
never_memory s (Put k at new) = never_section (section_shown s k) _ (λ x. never_range _ (refused_elements s (length new)) (never_more s (length new)))
never_memory s (Cut k at n) = never_section (section_shown s k) _ (λ x. never_range _ (refused_ops s n) (never_ops _ _))
never_memory s (Add at title) = never_range _ (refused_elements s 1) (never_more s 1)
never_memory s (DropSection k) = never_section (section_shown s k) _ (λ x. never_ops _ _)

ok_is_no_err : (n : ℕ) (fault : EditFault) → ◌≡◌ {A = Result ℕ EditFault} (Ok n) (Err fault) → ⊥
ok_is_no_err n fault e = cc

pub allowed : (s : State) (command : Command) (n : ℕ) → RefusesExactly s command (Ok n) → refusal_message s command ≡ None
allowed s command n exact = of (refusal_message s command) refl
  where
    of : (cause : Option EditFault) → refusal_message s command ≡ cause → cause ≡ None
    of None e = refl
    of (Some NoSection) e = absurd (ok_is_no_err n NoSection ((exact NoSection (λ same. cc)).1 e))
    of (Some OutOfRange) e = absurd (ok_is_no_err n OutOfRange ((exact OutOfRange (λ same. cc)).1 e))
    of (Some (IdsSpent c)) e = absurd (ok_is_no_err n (IdsSpent c) ((exact (IdsSpent c) (λ same. cc)).1 e))
    of (Some (TooMany c)) e = absurd (ok_is_no_err n (TooMany c) ((exact (TooMany c) (λ same. cc)).1 e))
    of (Some NoMemory) e = absurd (never_memory s command e)
