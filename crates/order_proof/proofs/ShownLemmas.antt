-- Of two elements that a place shows, the first stands before the second.
use Rattle.std.proofs.Common.{List, get_or, not, subst, true, ℕ, ◌<◌, ◌≡◌}
use Rattle.std.specs.Prelude.{Some, slice_get}
use Rattle.std.proofs.lemmas.List.Kept.{AllPairs-filter}
use Rattle.std.proofs.lemmas.Option.{get_or_from_slice_get, slice_get_within}
use Rattle.fugue_ids.specs.Identifiers.{Identifier}
use Rattle.fugue_ids.specs.declared.op.Op.{Op}
use Rattle.fugue_ids.proofs.ListLemmas.{contains_filter_from}
use Rattle.origin_model.specs.declared.operations.Place.{Place}
use Rattle.origin_model.specs.operations.Verdict.{Lawful}
use Rattle.origin_model.specs.order.Laws.{IsIn}
use Rattle.origin_model.specs.order.Order.{before, order}
use Rattle.origin_model.specs.order.Printed.{is_hidden, shown}
use Rattle.origin_model.proofs.SharedLemmas.{order_total}
use Rattle.order_proof.specs.Certificates.{IsOrderedBefore}

module _ (p : Place) (h : List Op) (w : Lawful h) where
  shown_in : (k : ℕ) (x : Identifier) → slice_get (shown p h) k ≡ Some x → IsIn p h x
  shown_in k x e =
      ((order_total p h w).lists x).1
      ((contains_filter_from (λ z. not (is_hidden h z)) (order p h) x (k, slice_get_within (shown p h) k x e, get_or_from_slice_get (shown p h) k x x e)).0)

  pub shown_before : (i j : ℕ) (x y : Identifier) → i < j → slice_get (shown p h) i ≡ Some x → slice_get (shown p h) j ≡ Some y → IsOrderedBefore h x y
  shown_before i j x y l e f =
      let pairs = AllPairs-filter (λ a b. before p h a b ≡ true) (λ z. not (is_hidden h z)) (order p h) (order_total p h w).agrees in
      let at : before p h (get_or (shown p h) i x) (get_or (shown p h) j x) ≡ true = pairs i j x l (slice_get_within (shown p h) j y f) in (
        p,
        shown_in i x e,
        shown_in j y f,
        subst (λ z. before p h x z ≡ true) (get_or_from_slice_get (shown p h) j y x f)
            (subst (λ z. before p h z (get_or (shown p h) j x) ≡ true) (get_or_from_slice_get (shown p h) i x x e) at),
      )
