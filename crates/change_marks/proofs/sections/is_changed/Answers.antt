use Rattle.std.proofs.Common.{ap, length, subst, sym, ◌∙◌}
use Rattle.std.specs.Prelude.{◌≢◌}
use Rattle.std.specs.List.{AllPairs}
use Rattle.origin_model.specs.declared.operations.Place.TheVariants.{Section as within}
use Rattle.origin_model.proofs.SharedLemmas.{order_total}
use Rattle.change_marks.proofs.CountLemmas.{counted_same}
use Rattle.change_marks.proofs.sections.is_changed.Goals as goal

pub has_marks-requires : goal.has_marks-requires
has_marks-requires c = record {
  once = subst (AllPairs (λ x y. x ≢ y)) (sym c.elements_of-list.ensures.elements)
      (order_total (within c.args.section) c.replica-replica.result.now.held.history c.elements_of-list.ensures.sound.lawful).once;
}

pub returns-then-has_same_counts : goal.returns-then-has_same_counts
returns-then-has_same_counts c =
    let marked = sym c.head_is_marked.ensures ∙ c.if-head_is_marked.false in
    sym (counted_same c.args.then.now c.args.now.now c.args.section c.replica-front.ensures c.replica-replica.ensures c.elements_of-list.ensures.sound.lawful c.requires.later
    marked
    (c.has_same_counts.ensures.all c.if-has_same_counts.true ∙ ap length c.elements_of-list.ensures.elements)
    (c.has_same_counts.ensures.some c.if-has_same_counts.true ∙ ap length c.elements_of-list.ensures.shown))
