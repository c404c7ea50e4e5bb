-- Operations of a history and of a part of it.
use Rattle.std.proofs.Common.{List, [], ap, false, inl, inr, subst, sym, true, ◌∙◌, ◌∷◌, ◌≡◌, ◌++◌}
use Rattle.std.specs.Prelude.{◌||◌}
use Rattle.std.specs.List.{Contains}
use Rattle.std.proofs.lemmas.Bool.{false_from_ne_true, false≢true, or_cases, or_right, true≢false}
use Rattle.fugue_ids.specs.Identifiers.{Identifier}
use Rattle.fugue_ids.specs.Ops.{op_eq}
use Rattle.fugue_ids.specs.declared.op.Op.{Op}
use Rattle.fugue_ids.specs.declared.op.Op.TheVariants.{Delete}
use Rattle.fugue_ids.proofs.ListLemmas.{contains_cases, contains_here, contains_none, contains_there}
use Rattle.fugue_ids.proofs.OpLemmas.{op_eq-refl, op_eq-true}
use Rattle.origin_model.specs.operations.History.{has_op, holder}
use Rattle.origin_model.specs.operations.Verdict.{Lawful}
use Rattle.origin_model.specs.order.Laws.{IsPartOf, SameOps}
use Rattle.origin_model.specs.order.Printed.{is_withdrawn}
use Rattle.origin_model.proofs.SharedLemmas.{has-append, hidden-has, same-part, Within-part}
use Rattle.catalogue_notes.proofs.HolderLemmas.{cases_option, not_both}

pub member_has : (h : List Op) (op : Op) → has_op h op ≡ true → Contains h op
member_has [] op e = absurd (false≢true e)
member_has (o ∷ h) op e =
    elim (or_cases (op_eq o op) (has_op h op) e) [
      | inl t ↦ subst (Contains (o ∷ h)) (op_eq-true o op t) (contains_here o h)
      | inr t ↦ contains_there o h op (member_has h op t)
    ]

-- what the whole does not withdraw, no part withdraws
pub stands_in_part : (part whole : List Op) (x : Identifier) → IsPartOf part whole → is_withdrawn whole x ≡ false → is_withdrawn part x ≡ false
stands_in_part part whole x f n =
    false_from_ne_true (is_withdrawn part x) (λ t. true≢false (sym (hidden-has whole x ∙ f (Delete x) (sym (hidden-has part x) ∙ t)) ∙ n))

-- and find and withdraw the same
pub same_holder : (a b : List Op) → Lawful a → Lawful b → SameOps a b → (x : Identifier) → holder a x ≡ holder b x
same_holder a b v w same x =
    let into = Within-part a b w (same-part a b same) in
    let back = Within-part b a v (same-part b a (λ op. sym (same op))) in
    elim (cases_option (holder a x)) [
      | inl n ↦ elim (cases_option (holder b x)) [
        | inl m ↦ n ∙ sym m
        | inr o ↦ absurd (not_both (holder a x) o.0 n (back x o.0 o.1))
      ]
      | inr o ↦ o.1 ∙ sym (into x o.0 o.1)
    ]

pub same_withdrawn : (a b : List Op) → SameOps a b → (x : Identifier) → is_withdrawn a x ≡ is_withdrawn b x
same_withdrawn a b same x = hidden-has a x ∙ same (Delete x) ∙ sym (hidden-has b x)
