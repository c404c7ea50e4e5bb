use Rattle.std.proofs.Common.{◌∙◌, ◌≡◌, ◌∷◌, ap, drop, subst, sym}
use Rattle.std.specs.Prelude.{reverse}
use Rattle.op_runs.specs.Finding.{op_of}
use Rattle.origin_model.specs.operations.Verdict.{Lawful}
use Rattle.replica_core.specs.Index.{ArePositions, sections_and_notes}
use Rattle.replica_core.proofs.NotingLemmas.{newest_apart}
use Rattle.replica_core.proofs.history.History.pop.Goals as goal

pub invariant_of-self : goal.invariant_of-self
invariant_of-self c =
    let i = c.self.inside in
    let apart : reverse i.ops ≡ op_of c.in-Some.newest ∷ reverse c.pop.new.self = newest_apart i.ops c.pop.new.self (op_of c.in-Some.newest) c.in-Some.ensures c.pop.ensures in
    let lawful : Lawful (op_of c.in-Some.newest ∷ reverse c.pop.new.self) = subst Lawful apart c.self.invariant.lawful in
    record {
      lawful = lawful.1;
      indexed = c.forget_found.ensures.found (reverse c.pop.new.self)
          (subst (ArePositions i.index.positions.values) apart c.self.invariant.indexed) lawful.0;
      listed = c.forget_found.ensures.listed (reverse c.pop.new.self) (c.self.invariant.listed ∙ ap sections_and_notes apart);
    }

pub returns : goal.returns
returns c =
    let i = c.self.inside in
    sym (ap (drop 1) (sym c.self.view_is ∙ newest_apart i.ops c.pop.new.self (op_of c.in-Some.newest) c.in-Some.ensures c.pop.ensures))
