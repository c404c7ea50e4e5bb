use Rattle.std.proofs.Common.{ap, arith, sym, ◌∙◌, Bool, length}
use Rattle.std.specs.Prelude.{slice_get}
use Rattle.fugue_ids.specs.declared.op.Op.{Op}
use Rattle.origin_model.specs.operations.Verdict.{verdict}
use Rattle.origin_model.specs.taking.Taking.{is_decided as decides}
use Rattle.causal_inbox.proofs.InboxLemmas.{first_found, none_found, one_more_fails}
use Rattle.causal_inbox.proofs.inbox.Inbox.next_decidable.Goals as goal

pub returns-then-is_decided : goal.returns-then-is_decided
returns-then-is_decided g c =
    let test : Op → Bool = λ op. decides (verdict (g.F.Facts.history c.args.facts.now) op) in
    first_found test c.args.self.now.ops c.ops.position c.op_at.result.now (ap (λ w. slice_get w.ops c.ops.position) (sym c.self.view_is) ∙ c.op_at.ensures) c.ops.invariant
    (ap decides (sym c.verdict.ensures) ∙ sym c.is_decided.ensures ∙ c.if-is_decided.true)

pub ops-preserved : goal.ops-preserved
ops-preserved g c =
    let test : Op → Bool = λ op. decides (verdict (g.F.Facts.history c.args.facts.now) op) in
    one_more_fails test c.args.self.now.ops c.ops.position c.op_at.result.now (ap (λ w. slice_get w.ops c.ops.position) (sym c.self.view_is) ∙ c.op_at.ensures) c.ops.invariant
    (ap decides (sym c.verdict.ensures) ∙ sym c.is_decided.ensures ∙ c.if-is_decided.false)

pub returns : goal.returns
returns g c =
    let test : Op → Bool = λ op. decides (verdict (g.F.Facts.history c.args.facts.now) op) in
    none_found test c.args.self.now.ops c.ops.position (omega (arith, c.ops-test.false, c.len-position-end.ensures, ap (λ w. length w.ops) c.self.view_is)) c.ops.invariant
