-- The text of a valid certificate is read as that certificate.
use Rattle.std.proofs.Common.{Bool, List, false, map, subst, sym, true, ℕ, ◌∙◌, ◌≡◌, ◌↔◌}
use Rattle.std.specs.Prelude.{None, Some}
use Rattle.std.proofs.lemmas.Bool.{false≢true}
use Rattle.std.proofs.lemmas.Option.{none-some, same_Some}
use Rattle.fugue_ids.specs.declared.op.Op.{Op}
use Rattle.order_proof.specs.Certificates.{Certificate, IsValid}
use Rattle.order_proof.specs.Readings.{IsProofText, IsValidText}
use Rattle.order_proof.specs.Texts.{written_step}
use Rattle.order_proof.proofs.TextLemmas.{written-valid}

-- a certificate was read
pub valid_text : (h : List Op) (text : List ℕ) (p : Certificate) (b : Bool) → IsProofText text p → ((c : Certificate) → IsProofText text c → Some p ≡ Some (map written_step c))
    → ((b ≡ true) ↔ IsValid h p) → (b ≡ true) ↔ IsValidText h text
valid_text h text p b is every v = (
  (λ e. (p, is, v.0 e)),
  λ t. v.1 (subst (IsValid h) (sym (same_Some p (map written_step t.0) (every t.0 t.1) ∙ written-valid h t.0 t.2)) t.2),
)

-- none was
pub no_valid_text : (h : List Op) (text : List ℕ) → ((c : Certificate) → IsProofText text c → None ≡ Some (map written_step c)) → (false ≡ true) ↔ IsValidText h text
no_valid_text h text every = ((λ e. absurd (false≢true e)), λ t. absurd (none-some (map written_step t.0) (every t.0 t.1)))
