use Rattle.origin_model.proofs.Words.{ap, false, fork_before, reverse, rights, ◌∙◌}
use Rattle.origin_model.specs.order.Fork.{fork_of, by_fork}
use Rattle.origin_model.proofs.order.ForkLemmas.{chain_before-fork_of}
use Rattle.origin_model.proofs.order.comparison.is_earlier_sibling.Goals as goal

pub returns : goal.returns
returns c =
    let h = reverse c.args.ops.now in
    let R = fork_before c.args.finished.now h in
    let first = c.as_slice.ensures.value ∙ c.in_ok-first.ensures in
    let second = c.as_slice-2.ensures.value ∙ c.in_ok-second.ensures in
    c.earlier_at.ensures
    ∙ ap (by_fork false R) (c.first_fork-fork.ensures ∙ (λ i. fork_of (first i) (second i)))
    ∙ chain_before-fork_of false R (rights h c.args.u) (rights h c.args.v)
