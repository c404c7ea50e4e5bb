-- The four sentences by chains of origins, as the laws on passages have them.
use Rattle.std.specs.Prelude.{◌≡◌, ◌↔◌, true, List}
use Rattle.fugue_ids.specs.Identifiers.{Identifier, id_lt}
use Rattle.fugue_ids.specs.declared.op.Op.{Op}
use Rattle.origin_model.specs.declared.operations.Place.{Place}
use Rattle.origin_model.specs.operations.Verdict.{Lawful}
use Rattle.origin_model.specs.order.Laws.{IsIn}
use Rattle.origin_model.specs.edits.Passages.{GoBefore, GoTogether, IsTie, Relation}
use Rattle.only_order.specs.TextOrder.{HasLaterRight, IsStrictOrder, IsTextOrder}

-- a strict total order that meets the sentences by chains
pub record IsOrderByChains (p : Place) (h : List Op) (R : Relation) : Type 0 where
  pub strict : IsStrictOrder p h R
  pub together : (x : Identifier) → IsIn p h x → GoTogether p h R x
  pub before_right : (r : Identifier) → IsIn p h r → GoBefore p h R r
  pub by_identifier : (x y : Identifier) → IsTie p h x y → R x y ≡ id_lt x y
  pub later_right_first : (x y : Identifier) → HasLaterRight p h R x y → R x y ≡ true

-- those by origins alone say the same
abbrev pub ByChains : Type 0
ByChains = (p : Place) (h : List Op) (R : Relation) → Lawful h → IsTextOrder p h R ↔ IsOrderByChains p h R
