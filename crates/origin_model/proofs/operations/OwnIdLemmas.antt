-- No two operations of a lawful history have one identifier.
use Rattle.origin_model.proofs.Words.{All, All-cons, All-nil, AllPairs, Identifier, Lawful, List, None, Op, Option, Some, [], all_pairs_nil, ap, holds, id_eq-refl, id_held, id_of}
use Rattle.origin_model.proofs.Words.{is_own, or_parts, origin_eq, refl, sym, true≢false, ◌∙◌, ◌∷◌, ◌≡◌, ◌≢◌, false}
use Rattle.std.proofs.lemmas.List.Kept.{AllPairs-cons}
use Rattle.origin_model.specs.operations.History.{HaveOtherIds}
use Rattle.origin_model.proofs.operations.LookupLemmas.{holds-cons, when_ready}
use Rattle.fugue_ids.proofs.IdentifierLemmas.{not_some}

-- an identifier that is not held is no member's
not_own : (i : Identifier) (ops : List Op) → holds ops i ≡ false → All (λ x. id_of x ≢ Some i) ops
not_own i [] e = All-nil (λ x. id_of x ≢ Some i)
not_own i (o ∷ ops) e =
    let p = or_parts (is_own i o) (holds ops i) (sym (holds-cons o ops i) ∙ e) in
    All-cons (λ x. id_of x ≢ Some i) o ops (λ own. true≢false (sym (ap (λ a. origin_eq a (Some i)) own ∙ id_eq-refl i) ∙ p.0)) (not_own i ops p.1)

other_ids_at : (o : Option Identifier) (op : Op) (ops : List Op) → id_of op ≡ o → id_held ops o ≡ false → All (HaveOtherIds op) ops
other_ids_at None op ops is e = λ k d below i own. absurd (not_some i (sym own ∙ is))
other_ids_at (Some i) op ops is e = λ k d below j own other. not_own i ops e k d below (other ∙ sym own ∙ is)

-- an operation whose identifier is not held shares none with the members
pub other_ids : (ops : List Op) (op : Op) → id_held ops (id_of op) ≡ false → All (HaveOtherIds op) ops
other_ids ops op e = other_ids_at (id_of op) op ops refl e

-- in a lawful history
pub lawful_own : (h : List Op) → Lawful h → AllPairs HaveOtherIds h
lawful_own [] w = all_pairs_nil HaveOtherIds
lawful_own (op ∷ h) w = AllPairs-cons HaveOtherIds op h (other_ids h op (when_ready h op w.0).fresh) (lawful_own h w.1)
