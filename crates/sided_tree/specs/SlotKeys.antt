-- The key of the element of a slot in an order.
use Rattle.std.specs.Prelude.{◌≡◌, Some, None, List}
use Rattle.fugue_ids.specs.Keys.{HasKey, Keyed}
use Rattle.fugue_ids.specs.declared.key.Key.{Key}
use Rattle.origin_model.specs.declared.sides.Slot.{Slot}
use Rattle.origin_model.specs.declared.sides.Slot.TheVariants.{LeftOf, RightOf}

-- the element of the slot has the key; the start has the least one
abbrev pub IsSlotKey : List Keyed → Slot → Key → Type 0
IsSlotKey es (RightOf None) k = k ≡ record { depth = 0; forest = 0 }
IsSlotKey es (RightOf (Some l)) k = HasKey es l k
IsSlotKey es (LeftOf q) k = HasKey es q k
