-- A count of faults that rises is reported as an outside fault, where the object is specified: what a source's answer leads to.
use Rattle.std.proofs.Common.{◌≡◌, ◌≢◌, [], ap, ◌∙◌}
use Rattle.std.specs.Prelude.{Err, IfSome, IsErrOf, Result}
use Rattle.outer_ports.specs.Sources.{KeepsCount, SourceView}
use Rattle.command_kinds.specs.Crashes.{IsFinished}
use Rattle.command_kinds.specs.Giving.{MayEnd}
use Rattle.command_kinds.specs.Refusal.{status_of}
use Rattle.command_kinds.specs.Saving.{ReadsInput}
use Rattle.command_kinds.specs.Changes.{Change}
use Rattle.command_kinds.specs.declared.counts.Note.{Note}
use Rattle.command_kinds.specs.declared.refusal.Refusal.{Refusal}
use Rattle.command_kinds.specs.declared.refusal.Refusal.TheVariants as refusal
use Rattle.command_kinds.specs.declared.status.Status.{Status}
use Rattle.command_kinds.specs.declared.status.Status.TheVariants as status

-- a refusal that ends otherwise blames nothing outside
pub not_blamed : {T : Type 0} (why : Refusal) → status_of why ≢ status.OutsideFault → IsErrOf {T = T} (Err why) refusal.Outside → ⊥
not_blamed why inside is = let outside : why ≡ refusal.Outside = cc is in inside (ap status_of outside)

-- a command whose source blamed the outside ends with an outside fault
pub ends_outside : (answer : Result Note Refusal) (given why : Refusal) (end : Status) → answer ≡ Err given → given ≡ why → MayEnd answer end → why ≡ refusal.Outside
    → end ≡ status.OutsideFault
ends_outside answer given why end is from may outside = may.blames (is ∙ ap Err (from ∙ outside))

-- an input that something was taken from
pub input_read : (input : Change SourceView) (end : Status) (failed : Type 0) → KeepsCount input.old input.new failed
    → (IsFinished end → IfSome input.new.left (λ bytes. bytes ≡ []))
    → (failed → end ≡ status.OutsideFault) → ReadsInput input.old input.new end
input_read input end failed count ended blamed =
    record { read = ended; counts_no_fault = count.counts_no_fault; blameless = λ tells inside. count.specified_no_fault tells (λ f. inside (blamed f)) }
