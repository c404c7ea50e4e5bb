-- Elements that stand one before the other in the order of a place.
use Rattle.std.proofs.Common.{List, arith, get_or, length, ℕ, ◌<◌}
use Rattle.std.proofs.lemmas.List.Elements.{Contains-get_or}
use Rattle.fugue_ids.specs.Identifiers.{Identifier}
use Rattle.fugue_ids.specs.declared.op.Op.{Op}
use Rattle.origin_model.specs.declared.operations.Place.{Place}
use Rattle.origin_model.specs.operations.Verdict.{Lawful}
use Rattle.origin_model.specs.order.Order.{order}
use Rattle.origin_model.proofs.SharedLemmas.{order_total}
use Rattle.order_proof.specs.Certificates.{IsOrderedBefore}

pub ordered : (p : Place) (h : List Op) (i j : ℕ) (d : Identifier) → Lawful h → i < j → j < length (order p h)
    → IsOrderedBefore h (get_or (order p h) i d) (get_or (order p h) j d)
ordered p h i j d w first within =
    let t = order_total p h w in (
      p,
      (t.lists (get_or (order p h) i d)).1 (Contains-get_or (order p h) i d (omega (arith, first, within))),
      (t.lists (get_or (order p h) j d)).1 (Contains-get_or (order p h) j d within),
      t.agrees i j d first within,
    )
