use Rattle.std.proofs.Common.{arith, rules}
use Rattle.section_plan.proofs.completing.find_free.Goals as goal

pub returns-then-has_same-clause-found : goal.returns-then-has_same-clause-found
returns-then-has_same-clause-found c = record { within = omega arith; free = search rules; same = search rules }
