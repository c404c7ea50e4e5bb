use Rattle.std.proofs.Common.{ap, subst, sym, ◌∙◌, ◌≡◌, ◌∷◌}
use Rattle.std.specs.Prelude.{reverse, slice_get}
use Rattle.origin_model.specs.operations.Verdict.{Lawful}
use Rattle.replica_core.specs.Index.{ArePositions, sections_and_notes}
use Rattle.replica_core.proofs.NotingLemmas.{last_found, newest_after}
use Rattle.replica_core.proofs.history.History.take_newest.Goals as goal

pub invariant_of-self-2 : goal.invariant_of-self-2
invariant_of-self-2 c =
    let i = c.self.inside in
    let op = c.in-Some.op in
    let apart : reverse i.ops ≡ op ∷ reverse c.take_last.new.self = newest_after i.ops c.take_last.new.self op c.in-Some.ensures.some in
    let lawful : Lawful (op ∷ reverse c.take_last.new.self) = subst Lawful apart c.self.invariant.lawful in
    record {
      lawful = lawful.1;
      indexed = c.forget.ensures.found (reverse c.take_last.new.self)
          (subst (ArePositions i.index.positions.values) apart c.self.invariant.indexed) lawful.0;
      listed = c.forget.ensures.listed (reverse c.take_last.new.self) (c.self.invariant.listed ∙ ap sections_and_notes apart);
    }

pub returns-clause-some : goal.returns-clause-some
returns-clause-some c = sym c.self.view_is ∙ newest_after c.self.inside.ops c.take_last.new.self c.in-Some.op c.in-Some.ensures.some

pub returns-in_default-clause-other : goal.returns-in_default-clause-other
returns-in_default-clause-other c op e other =
    c.in_default.ensures.other op (last_found c.self.inside.ops op (e ∙ ap (λ h. slice_get h 0) (sym c.self.view_is))) other
