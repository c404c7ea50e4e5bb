use Rattle.std.proofs.Common.{ap, arith, length, subst, take, ◌-◌, ◌∙◌, ◌≡◌}
use Rattle.std.specs.Prelude.{IfOk}
use Rattle.origin_model.specs.operations.History.{accepted}
use Rattle.bulk_world.proofs.BulkLemmas.{are_begun, heard_by, summary_is}
use Rattle.bulk_world.proofs.making.bulk_among.Goals as goal

pub overflow_sub-others : goal.overflow_sub-others
overflow_sub-others c =
    let begun = are_begun c.args.seed c.args.count _ _ _ _ c.in_ok-open.ensures.first c.in_ok-open.ensures.second c.in_ok-take_turns.ensures.leads in
    omega (arith, begun.0, c.len-others.ensures, ap length c.accepted-2.ensures.accepted)

pub overflow_sub-made : goal.overflow_sub-made
overflow_sub-made c =
    let begun = are_begun c.args.seed c.args.count _ _ _ _ c.in_ok-open.ensures.first c.in_ok-open.ensures.second c.in_ok-take_turns.ensures.leads in
    omega (arith, begun.1, c.len-made.ensures, ap length c.accepted.ensures.accepted)

pub returns : goal.returns
returns c =
    let one = c.take_turns.new.first in
    let two = c.take_turns.new.second in
    let others : c.len-others.result ≡ length (accepted one.held.history) = c.len-others.ensures ∙ ap length c.accepted-2.ensures.accepted in
    let made : c.len-made.result ≡ length (accepted two.held.history) = c.len-made.ensures ∙ ap length c.accepted.ensures.accepted in
    let two_hears = c.in_ok-hear.ensures.heard ∙ (λ i. heard_by two (take (others i - 1) (c.accepted_from.ensures.operations i))) in
    let one_hears = c.in_ok-hear-2.ensures.heard ∙ (λ i. heard_by one (take (made i - 1) (c.accepted_from-2.ensures.operations i))) in
    subst (λ t. IfOk c.summarize.result (λ reported. reported ≡ t))
    (summary_is c.args.seed c.args.count _ _ one two _ _ c.in_ok-open.ensures.first c.in_ok-open.ensures.second c.in_ok-take_turns.ensures.leads two_hears
    one_hears) c.summarize.ensures
