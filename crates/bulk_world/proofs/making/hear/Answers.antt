use Rattle.std.proofs.Common.{List, ap, arith, suc, sym, take, ℕ, ◌-◌, ◌<◌, ◌∙◌, ◌∷◌, ◌≡◌}
use Rattle.fugue_ids.specs.declared.op.Op.{Op}
use Rattle.origin_model.specs.edits.State.{State}
use Rattle.origin_model.specs.taking.Taking.{Held, held_from, intake}
use Rattle.op_runs.specs.Finding.{op_of}
use Rattle.bulk_world.proofs.making.hear.Goals as goal

-- the first of those that are left was heard
hears_next : (hold most : ℕ) (s : Held) (op : Op) (rest behind : List Op) (left : ℕ) → 0 < left → rest ≡ op ∷ behind
    → held_from hold most (intake hold most s op) (take (left - 1) behind) ≡ held_from hold most s (take left rest)
hears_next hold most s op rest behind left some is =
    let e : left ≡ suc (left - 1) = omega (arith, some) in
    sym (λ i. held_from hold most s (take (e i) (is i)))

pub heard-preserved : goal.heard-preserved
heard-preserved c =
    let inv = c.heard.invariant in
    let one = c.in_ok-hear_one.ensures in
    let start : State = c.args.replica.now in
    let op : Op = op_of c.in-Some.op in
    record {
      others = one.heard ∙ (λ i. record {
        number = ap (λ (r : State). r.number) inv.others i;
        hold = ap (λ (r : State). r.hold) inv.others i;
        most = ap (λ (r : State). r.most) inv.others i;
        held = sym (ap (λ (r : State). r.held) one.heard) i;
      });
      leads = (λ i. held_from start.hold start.most (ap (λ (r : State). r.held) one.heard i) (take (c.heard.left - 1) c.next_op.new.self))
          ∙ (λ i. held_from start.hold start.most (intake (ap (λ (r : State). r.hold) inv.others i) (ap (λ (r : State). r.most) inv.others i) c.heard.replica.held op)
          (take (c.heard.left - 1) c.next_op.new.self))
          ∙ hears_next start.hold start.most c.heard.replica.held op c.heard.rest c.next_op.new.self c.heard.left c.heard-test.true c.in-Some.ensures.taken
          ∙ inv.leads;
      settled = one.settled;
    }
