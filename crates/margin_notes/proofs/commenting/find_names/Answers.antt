use Rattle.std.proofs.Common.{[], arith, subst, ◌+◌, ◌-◌, ◌≡◌, ◌∷◌}
use Rattle.std.specs.Prelude.{IfSome}
use Rattle.origin_model.specs.declared.operations.Place.TheVariants.{Section as within}
use Rattle.margin_notes.proofs.CommentedLemmas.{passage_found, scalar_there}
use Rattle.margin_notes.proofs.PlaceLemmas.{shown_bounded}
use Rattle.margin_notes.proofs.commenting.find_names.Goals as goal

pub overflow_add-start : goal.overflow_add-start
overflow_add-start c =
    let r = c.in_ok-start.ensures.found in
    let s = c.in_ok-start.ensures.sound in
    omega (arith, r.inside, shown_bounded (within r.section) c.args.replica.now.held.history, s.few, s.most_within.1)

pub scalar_at-last-requires : goal.scalar_at-last-requires
scalar_at-last-requires c =
    let r = c.in_ok-start.ensures.found in
    scalar_there c.args.replica.now c.args.section c.args.at c.args.n (c.in_ok-start.start, c.in_ok-start.count) (c.in_ok-start.start + c.in_ok-start.count - 1) r
    (omega (arith, r.some c.requires))

pub returns-clause-found : goal.returns-clause-found
returns-clause-found c =
    passage_found c.args.replica.now c.args.section c.args.at c.args.n
    (c.in_ok-start.start, c.in_ok-start.count) c.scalar_at-first.result c.scalar_at-last.result c.unwrap-names.result
    c.in_ok-start.ensures.found c.requires c.scalar_at-first.ensures c.scalar_at-last.ensures
    (subst (λ o. IfSome o (λ ns. ns ≡ c.scalar_at-first.result ∷ c.scalar_at-last.result ∷ [])) c.unwrap-names.ensures c.read.ensures.some)
