use Rattle.origin_model.proofs.Words.{Bool, ap, lefts, reverse, sibling, subst, true, ◌∙◌, ◌≡◌}
use Rattle.std.proofs.Common.{IfOk}
use Rattle.origin_model.specs.order.Fork.{fork_of, by_fork}
use Rattle.origin_model.proofs.order.ForkLemmas.{chain_before-fork_of}
use Rattle.origin_model.proofs.order.comparison.is_before.Goals as goal

pub returns : goal.returns
returns c =
    let h = reverse c.args.ops.now in
    let R = sibling c.args.finished.now h in
    let own = c.as_slice.ensures.value ∙ c.in_ok-own.ensures in
    let e = ap (by_fork true R) (c.first_fork.ensures ∙ (λ i. fork_of (own i) c.args.chain.now))
    ∙ chain_before-fork_of true R (lefts h c.args.x) c.args.chain.now in
    subst (λ (b : Bool). IfOk c.before_at.result (λ (r : Bool). r ≡ b)) e c.before_at.ensures
