use Rattle.std.proofs.Common.{◌≤◌, ◌+◌, length, refl, sym, ap, arith}
use Rattle.std.proofs.lemmas.Bool.{false≢true}
use Rattle.std.specs.Option.{is_some}
use Rattle.cluster_text.specs.Clusters.{clusters}
use Rattle.cluster_text.proofs.IndexLemmas.{not_less, seen_count, seen_len, seen_utf8, span_in_order, span_is}
use Rattle.cluster_text.proofs.index.ClusterIndex.span.Goals as goal

pub find_place-requires : goal.find_place-requires
find_place-requires c = omega (arith, seen_count _ _ _ _ c.self.invariant c.self.view_is refl)

pub returns-in_err-start-clause-none : goal.returns-in_err-start-clause-none
returns-in_err-start-clause-none c =
    let few = c.in_err-start.ensures.none.0 refl in
    let len = seen_len _ _ _ _ c.self.invariant c.self.view_is refl in
    (λ none. omega (arith, few, len), λ less. ap (λ o. is_some o) c.from_residual.ensures)

pub returns-in_err-start-clause-utf8 : goal.returns-in_err-start-clause-utf8
returns-in_err-start-clause-utf8 c = seen_utf8 _ _ _ _ c.self.invariant c.self.view_is refl

pub find_place-requires-2 : goal.find_place-requires-2
find_place-requires-2 c = omega (arith, seen_count _ _ _ _ c.self.invariant c.self.view_is refl)

pub returns-in_err-end-clause-none : goal.returns-in_err-end-clause-none
returns-in_err-end-clause-none c =
    let few = c.in_err-end.ensures.none.0 refl in
    let len = seen_len _ _ _ _ c.self.invariant c.self.view_is refl in
    (λ none. omega (arith, few, len), λ less. ap (λ o. is_some o) c.from_residual-in_err-end.ensures)

pub returns-in_err-end-clause-utf8 : goal.returns-in_err-end-clause-utf8
returns-in_err-end-clause-utf8 c = seen_utf8 _ _ _ _ c.self.invariant c.self.view_is refl

pub overflow_sub-result : goal.overflow_sub-result
overflow_sub-result c =
    let more = not_less _ _ c.in_ok-end.ensures.none.1 in
    let len = seen_len _ _ _ _ c.self.invariant c.self.view_is refl in
    let fits : c.args.at + c.args.n ≤ length (clusters c.args.self.now) = omega (arith, more, len) in
    (span_in_order _ _ _ _ c.self.invariant c.self.view_is refl _ _ c.args.at c.args.n c.in_ok-start.ensures.some c.in_ok-end.ensures.some fits).0

pub overflow_sub-result-2 : goal.overflow_sub-result-2
overflow_sub-result-2 c =
    let more = not_less _ _ c.in_ok-end.ensures.none.1 in
    let len = seen_len _ _ _ _ c.self.invariant c.self.view_is refl in
    let fits : c.args.at + c.args.n ≤ length (clusters c.args.self.now) = omega (arith, more, len) in
    (span_in_order _ _ _ _ c.self.invariant c.self.view_is refl _ _ c.args.at c.args.n c.in_ok-start.ensures.some c.in_ok-end.ensures.some fits).1

pub returns-clause-span : goal.returns-clause-span
returns-clause-span c =
    let more = not_less _ _ c.in_ok-end.ensures.none.1 in
    let len = seen_len _ _ _ _ c.self.invariant c.self.view_is refl in
    let fits : c.args.at + c.args.n ≤ length (clusters c.args.self.now) = omega (arith, more, len) in
    span_is _ _ _ _ c.self.invariant c.self.view_is refl _ _ c.args.at c.args.n c.in_ok-start.ensures.some c.in_ok-end.ensures.some fits

pub returns-clause-within : goal.returns-clause-within
returns-clause-within c =
    let more = not_less _ _ c.in_ok-end.ensures.none.1 in
    let len = seen_len _ _ _ _ c.self.invariant c.self.view_is refl in
    let fits : c.args.at + c.args.n ≤ length (clusters c.args.self.now) = omega (arith, more, len) in
    (span_in_order _ _ _ _ c.self.invariant c.self.view_is refl _ _ c.args.at c.args.n c.in_ok-start.ensures.some c.in_ok-end.ensures.some fits).2

pub returns-clause-none : goal.returns-clause-none
returns-clause-none c =
    let more = not_less _ _ c.in_ok-end.ensures.none.1 in
    let len = seen_len _ _ _ _ c.self.invariant c.self.view_is refl in
    (λ none. absurd (false≢true (sym none)), λ less. absurd (omega (arith, more, len, less)))

pub returns-clause-utf8 : goal.returns-clause-utf8
returns-clause-utf8 c = seen_utf8 _ _ _ _ c.self.invariant c.self.view_is refl
