use Rattle.std.specs.Prelude.{ℕ, ◌<◌, ◌≢◌, slice_index}
use Rattle.section_plan.proofs.orders.place_of.Given as goal

abbrev pub invariant-places : goal.invariant-places
invariant-places l = (a : ℕ) → a < l.place → slice_index l.order a ≢ l.part
