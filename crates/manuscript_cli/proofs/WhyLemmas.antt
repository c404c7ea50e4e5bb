-- Two scalars that a section shows stand in the order of their elements, and there is one certificate of it.
use Rattle.std.proofs.Common.{List, ap, subst, sym, ℕ, ◌∙◌, ◌≡◌}
use Rattle.std.specs.Prelude.{None, Option, Some, option_and_then, slice_get}
use Rattle.std.proofs.lemmas.Option.{none-some, same_Some}
use Rattle.fugue_ids.specs.Identifiers.{Identifier}
use Rattle.fugue_ids.specs.declared.op.Op.{Op}
use Rattle.origin_model.specs.operations.Verdict.{Lawful}
use Rattle.origin_model.specs.order.Printed.{shown}
use Rattle.origin_model.specs.edits.State.{State as Replica}
use Rattle.origin_model.specs.declared.operations.Place.TheVariants.{Catalogue as catalogue, Section as within}
use Rattle.order_proof.specs.Certificates.{IsOrderedBefore}
use Rattle.order_proof.specs.Texts.{proof_text}
use Rattle.order_proof.proofs.OnceLemmas.{has_one_certificate}
use Rattle.order_proof.proofs.ShownLemmas.{shown_before}
use Rattle.command_kinds.specs.Findings.{Finding, Refuses, Does}
use Rattle.manuscript_cli.specs.Why.{HasPlaces, IsWhy, why_reports}

module _ (h : List Op) (p q : ℕ) (x y : Identifier) where
  -- both are in one section
  in_one_section : (o : Option Identifier) → option_and_then (λ s. slice_get (shown (within s) h) p) o ≡ Some x → option_and_then (λ s. slice_get (shown (within s) h) q) o ≡ Some y
      → (s : Identifier) × (slice_get (shown (within s) h) p ≡ Some x) × (slice_get (shown (within s) h) q ≡ Some y)
  in_one_section None e f = absurd (none-some x e)
  in_one_section (Some s) e f = (s, e, f)

  pub places_stand : Lawful h → (k : ℕ) → HasPlaces h k p q x y → IsOrderedBefore h x y
  places_stand w k there =
      let s = in_one_section (slice_get (shown catalogue h) k) there.first there.second in
      shown_before (within s.0) h w p q x y there.in_order s.1 s.2

-- the text of the one certificate
text_once : (h : List Op) → Lawful h → (x y : Identifier) → IsOrderedBefore h x y → (a b : List ℕ) → IsWhy h x y a → IsWhy h x y b → a ≡ b
text_once h w x y before a b one two =
    let only = has_one_certificate before.0 h w x y before.1 before.2 before.3 in
    one.text_is ∙ ap proof_text (only.only one.proof one.valid one.claims ∙ sym (only.only two.proof two.valid two.claims)) ∙ sym two.text_is

same_places : (h : List Op) (k p q : ℕ) (x y u v : Identifier) → HasPlaces h k p q x y → HasPlaces h k p q u v → (u ≡ x) × (v ≡ y)
same_places h k p q x y u v one two = (same_Some u x (sym two.first ∙ one.first), same_Some v y (sym two.second ∙ one.second))

-- one thing is reported
pub why_once : (k p q : ℕ) (replica : Replica) → Lawful replica.held.history → (a b : Finding (List ℕ)) → why_reports k p q replica a → why_reports k p q replica b → a ≡ b
why_once k p q replica w (Does a) (Does b) one two =
    let h = replica.held.history in
    let same = same_places h k p q one.0 one.1 two.0 two.1 one.2 two.2 in
    ap Does (text_once h w one.0 one.1 (places_stand h p q one.0 one.1 w k one.2) a b one.3 (subst (λ z. IsWhy h z one.1 b) same.0 (subst (λ z. IsWhy h two.0 z b) same.1 two.3)))
why_once k p q replica w (Does a) (Refuses why) one two = absurd (two.1 one.0 one.1 one.2)
why_once k p q replica w (Refuses why) (Does b) one two = absurd (one.1 two.0 two.1 two.2)
why_once k p q replica w (Refuses why) (Refuses other) one two = ap Refuses (one.0 ∙ sym two.0)
