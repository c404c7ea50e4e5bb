-- `why`: why one scalar that a section shows stands before another.
use Rattle.std.specs.Prelude.{◌≡◌, ◌<◌, ℕ, List, Option, Some, option_and_then, slice_get}
use Rattle.fugue_ids.specs.Identifiers.{Identifier}
use Rattle.fugue_ids.specs.declared.op.Op.{Op}
use Rattle.origin_model.specs.order.Printed.{shown}
use Rattle.origin_model.specs.declared.operations.Place.TheVariants.{Catalogue as catalogue, Section as within}
use Rattle.order_proof.specs.Certificates.{Certificate, Claims, IsValid}
use Rattle.order_proof.specs.Texts.{proof_text}
use Rattle.command_kinds.specs.Findings.{Refuses, Does}
use Rattle.command_kinds.specs.Report.{ReportText}
use Rattle.command_kinds.specs.declared.refusal.Refusal.TheVariants.{NoSuchPlaces}

-- the element of the scalar with p shown ones before it, in the section with k shown ones before it
abbrev pub scalar_shown : List Op → (k p : ℕ) → Option Identifier
scalar_shown history k p = option_and_then (λ s. slice_get (shown (within s) history) p) (slice_get (shown catalogue history) k)

-- x and y are the elements of the scalars at p and at q, which stand in this order
pub record HasPlaces (history : List Op) (k p q : ℕ) (x y : Identifier) : Type 0 where
  pub in_order : p < q
  pub first : scalar_shown history k p ≡ Some x
  pub second : scalar_shown history k q ≡ Some y

-- the text is that of a valid certificate that x stands before y
pub record IsWhy (history : List Op) (x y : Identifier) (bytes : List ℕ) : Type 0 where
  pub proof : Certificate
  pub valid : IsValid history proof
  pub claims : Claims x y proof
  pub text_is : bytes ≡ proof_text proof

-- what `why` tells of the scalars at p and at q of a section: the certificate of their elements, or that there are none in this order
abbrev pub why_reports : (k p q : ℕ) → ReportText
why_reports k p q replica (Does bytes) =
    (x : Identifier) × (y : Identifier) × HasPlaces replica.held.history k p q x y × IsWhy replica.held.history x y bytes
why_reports k p q replica (Refuses why) = (why ≡ NoSuchPlaces) × ((x y : Identifier) → ¬ (HasPlaces replica.held.history k p q x y))
