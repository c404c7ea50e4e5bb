use Rattle.std.proofs.Common.{arith, length, sym, ◌-◌, ◌∙◌}
use Rattle.std.proofs.lemmas.List.{get_or_read}
use Rattle.section_plan.proofs.LikenessLemmas.{end_all, end_more, end_until}
use Rattle.section_plan.proofs.likeness.common_end.Goals as goal

pub returns-then-old-end : goal.returns-then-old-end
returns-then-old-end c =
    let x = get_or_read c.args.old.now (length c.args.old.now - 1 - c.end.end) c.index-old-old.result (omega arith) c.index-old-old.is 0 in
    let y = get_or_read c.args.new.now (length c.args.new.now - 1 - c.end.end) c.index-new-new.result (omega arith) c.index-new-new.is 0 in
    end_until c.args.old.now c.args.new.now c.end.end (omega arith) (omega arith) (λ e. c.if-old-end.true (x ∙ (e ∙ sym y))) c.end.invariant.common

pub end-preserved : goal.end-preserved
end-preserved c =
    let x = get_or_read c.args.old.now (length c.args.old.now - 1 - c.end.end) c.index-old-old.result (omega arith) c.index-old-old.is 0 in
    let y = get_or_read c.args.new.now (length c.args.new.now - 1 - c.end.end) c.index-new-new.result (omega arith) c.index-new-new.is 0 in
    record {
      old = omega arith;
      new = omega arith;
      common = end_more c.args.old.now c.args.new.now c.end.end (omega arith) (omega arith) (sym x ∙ (c.if-old-end.false ∙ y)) c.end.invariant.common;
    }

pub returns-else-end-new : goal.returns-else-end-new
returns-else-end-new c = end_all c.args.old.now c.args.new.now c.end.end c.end.invariant.old c.end.invariant.new (λ x y. absurd (omega arith)) c.end.invariant.common
