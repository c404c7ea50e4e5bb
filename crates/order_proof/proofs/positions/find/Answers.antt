use Rattle.std.proofs.Common.{IfSome, arith, length, reverse, slice_get, subst, sym, ◌<◌, ◌≤◌, ◌∙◌, ◌≡◌}
use Rattle.std.specs.Prelude.{None, Some}
use Rattle.std.proofs.lemmas.Option.{get_or_from_slice_get}
use Rattle.order_proof.specs.Positions.{IsAtPosition, position_of}
use Rattle.op_runs.specs.Finding.{op_of}
use Rattle.order_proof.proofs.PositionLemmas.{found_at, found_later, found_nowhere, position_within}
use Rattle.order_proof.proofs.positions.find.Goals as goal

pub returns-then-at-end-clause-some : goal.returns-then-at-end-clause-some
returns-then-at-end-clause-some g c =
    let ops = g.P.Positions.operations c.args.held.now in
    let at = c.in-Some.at in
    let there : position_of c.args.x (reverse ops) ≡ Some at = sym c.position.ensures ∙ c.in-Some.is in
    elim c.op_at.result as
    (λ r. IfSome r (λ z. (z.0 ≡ at) × (slice_get ops at ≡ Some (op_of z.1))) → IfSome r (λ z. IsAtPosition ops c.args.end c.args.x z.0 (op_of z.1))) [
      | None ↦ λ e. tt
      | Some z ↦ λ e.
          subst (λ k. IsAtPosition ops c.args.end c.args.x k (op_of z.1)) (sym e.0)
          (found_at ops c.args.x c.args.end at (op_of z.1) there c.if-at-end.true
          (sym (get_or_from_slice_get ops at (op_of z.1) (op_of z.1) e.1)))
    ] c.op_at.ensures.some

pub returns-then-at-end-clause-none : goal.returns-then-at-end-clause-none
returns-then-at-end-clause-none g c = λ e.
    let ops = g.P.Positions.operations c.args.held.now in
    let within : c.in-Some.at < length ops = position_within ops c.args.x c.in-Some.at (sym c.position.ensures ∙ c.in-Some.is) in
    let beyond : length ops ≤ c.in-Some.at = c.op_at.ensures.none e in
    absurd (omega (arith, within, beyond))

pub returns-else-at-end-clause-none : goal.returns-else-at-end-clause-none
returns-else-at-end-clause-none g c = λ e.
    found_later (g.P.Positions.operations c.args.held.now) c.args.x c.count-count.ensures.lawful c.args.end c.in-Some.at (sym c.position.ensures ∙ c.in-Some.is)
    (omega (arith, c.if-at-end.false))

pub returns-in-None-clause-none : goal.returns-in-None-clause-none
returns-in-None-clause-none g c = λ e. found_nowhere (g.P.Positions.operations c.args.held.now) c.args.x c.args.end (sym c.position.ensures ∙ c.in-None.is)
