-- A link in parts.
use Rattle.std.specs.Prelude.{ℕ, Bool, true, false, Option, None, Some}
use Rattle.node_rope.specs.declared.cells.Link.{Link}
use Rattle.node_rope.specs.declared.pile.Spot.{Spot}

-- the link of these parts, if there is one
abbrev pub link_if : Bool → Spot → ℕ → Option Link
link_if false spot number = None
link_if true spot number = Some (record { spot = spot; number = number })
