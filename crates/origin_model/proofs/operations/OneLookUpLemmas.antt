-- What the holder of an operation's identifier tells of the operation, in a lawful history.
use Rattle.origin_model.proofs.Words.{Bool, Identifier, Lawful, List, None, Op, Option, Some, ap, false, false_from_ne_true, has_op, holder, id_eq-refl, id_held, id_of, is_own}
use Rattle.origin_model.proofs.Words.{is_some, op_eq, op_eq-refl, op_eq-true, origin_eq, refl, subst, sym, true, ◌∙◌, ◌≡◌}
use Rattle.std.proofs.lemmas.Option.{none-some, same_Some}
use Rattle.std.specs.Prelude.{option_map}
use Rattle.origin_model.specs.declared.operations.named.Found.{Found}
use Rattle.origin_model.specs.declared.operations.named.Found.TheVariants.{Absent}
use Rattle.origin_model.specs.operations.Verdict.{found_as}
use Rattle.origin_model.proofs.operations.LookupLemmas.{has-holder, holder-has}
use Rattle.std.specs.Cmp.{both_ways}

-- an operation has its identifier as its own
pub is_own-id : (op : Op) (i : Identifier) → id_of op ≡ Some i → is_own i op ≡ true
is_own-id op i is = ap (λ o. origin_eq o (Some i)) is ∙ id_eq-refl i

-- what is found where the holder is equal, where it is not, and where there is none
abbrev pub answer_of : Option Bool → Found
answer_of None = Absent
answer_of (Some same) = found_as same true

module _ (h : List Op) (op : Op) (i : Identifier) (lawful : Lawful h) (is : id_of op ≡ Some i) where
  -- the holder decides whether the operation is there
  has_held : (o : Op) → Some o ≡ holder h i → op_eq o op ≡ has_op h op
  has_held o e =
      both_ways (op_eq o op) (has_op h op)
      (λ same. subst (λ x. has_op h x ≡ true) (op_eq-true o op same) (holder-has h i o (sym e)))
      (λ there. subst (λ x. op_eq o x ≡ true) (same_Some o op (e ∙ has-holder h i op lawful there (is_own-id op i is))) (op_eq-refl o))

  -- without one it is not there
  has_free : None ≡ holder h i → has_op h op ≡ false
  has_free e = false_from_ne_true (has_op h op) (λ there. none-some op (e ∙ has-holder h i op lawful there (is_own-id op i is)))

  -- the identifier is held where it has a holder
  held_by : (o : Option Op) → o ≡ holder h i → id_held h (id_of op) ≡ is_some o
  held_by o e = ap (id_held h) is ∙ ap is_some (sym e)

  -- so one look-up finds the same operation, another one, or neither
  found_held : (o : Op) → Some o ≡ holder h i → found_as (op_eq o op) true ≡ found_as (has_op h op) (id_held h (id_of op))
  found_held o e = ap (λ b. found_as b true) (has_held o e) ∙ ap (found_as (has_op h op)) (sym (held_by (Some o) e))

  found_free : None ≡ holder h i → Absent ≡ found_as (has_op h op) (id_held h (id_of op))
  found_free e = sym (ap (λ b. found_as b (id_held h (id_of op))) (has_free e) ∙ ap (found_as false) (held_by None e))

  found_by : (o : Option Op) → o ≡ holder h i → answer_of (option_map (λ holder. op_eq holder op) o) ≡ found_as (has_op h op) (id_held h (id_of op))
  found_by None e = found_free e
  found_by (Some o) e = found_held o e

  pub found_once : (same : Option Bool) → same ≡ option_map (λ holder. op_eq holder op) (holder h i) → answer_of same ≡ found_as (has_op h op) (id_held h (id_of op))
  found_once same e = ap answer_of e ∙ found_by (holder h i) refl
