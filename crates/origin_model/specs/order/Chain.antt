-- What a chain of origins goes on with.
use Rattle.std.specs.Prelude.{Option, List}
use Rattle.fugue_ids.specs.Identifiers.{Identifier}
use Rattle.fugue_ids.specs.declared.op.Op.{Op}
use Rattle.origin_model.specs.declared.order.comparison.Chain.{Chain}
use Rattle.origin_model.specs.declared.order.comparison.Chain.TheVariants.{Lefts, Rights}
use Rattle.origin_model.specs.order.Order.{next_left, next_right}

-- the next element on a chain
abbrev pub next_of : Chain → List Op → Op → Option Identifier
next_of Lefts history op = next_left history op
next_of Rights history op = next_right history op
