use Rattle.std.proofs.Common.{arith, sym, ◌∙◌, ◌≡◌, Bool, List, false}
use Rattle.std.specs.Prelude.{Some, position}
use Rattle.std.proofs.lemmas.List.Quantifiers.{position-Some}
use Rattle.replica_core.proofs.PositionLemmas.{none_found}
use Rattle.replica_core.proofs.due.Due.first.Goals as goal

pub returns-then-is_clear-clause-first : goal.returns-then-is_clear-clause-first
returns-then-is_clear-clause-first c = sym (none_found (λ mark. mark) c.args.self.now (c.is_clear.ensures.0 c.if-is_clear.true))

pub invariant_of-self : goal.invariant_of-self
invariant_of-self c =
    let marks : List Bool = c.self.inside.marks.items in
    let found : position (λ mark. mark) marks ≡ Some c.in_ok-position.position =
    sym c.first_after.ensures ∙ c.in_ok-position.was in
    let first = position-Some (λ mark. mark) marks c.in_ok-position.position false found in
    record { counted = c.self.invariant.counted; front = first.2; within = omega (arith, first.0) }
