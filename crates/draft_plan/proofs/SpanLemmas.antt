-- Passages and the spans of comments.
use Rattle.std.proofs.Common.{List, ap, ap₂, arith, drop, not, suc, sym, take, true, ℕ, ◌+◌, ◌-◌, ◌∙◌, ◌≡◌}
use Rattle.std.specs.Prelude.{AllPairs}
use Rattle.std.proofs.lemmas.List.Kept.{AllPairs-filter}
use Rattle.fugue_ids.specs.Identifiers.{Identifier}
use Rattle.margin_notes.specs.Margins.{margin_span}
use Rattle.margin_notes.proofs.CountLemmas.{count_at, up_to}
use Rattle.origin_model.specs.declared.operations.Place.TheVariants.{Section as within}
use Rattle.origin_model.specs.order.Order.{before, order}
use Rattle.origin_model.specs.order.Printed.{is_hidden, shown}
use Rattle.origin_model.proofs.SharedLemmas.{order_total}
use Rattle.origin_model.proofs.edits.SplitLemmas.{get_in}
use Rattle.draft_plan.specs.Passages.{PassagesAreSpans}

pub passages_are_spans : PassagesAreSpans
passages_are_spans history section first last elements w p =
    let total = order_total (within section) history w in
    let listing : List Identifier = shown (within section) history in
    let in_order : AllPairs (λ x y. before (within section) history x y ≡ true) listing =
    AllPairs-filter (λ x y. before (within section) history x y ≡ true) (λ x. not (is_hidden history x)) (order (within section) history) total.agrees in
    let begins : (margin_span history section first last).from ≡ p.from =
    count_at (before (within section) history) total.irreflexive total.transitive listing p.from first in_order p.begins in
    let one_more : suc p.to ≡ p.to + 1 = omega arith in
    let ends : (margin_span history section first last).to ≡ p.to + 1 =
    up_to (before (within section) history) total.irreflexive total.transitive last listing in_order (get_in listing p.to last p.ends)
    ∙ ap suc (count_at (before (within section) history) total.irreflexive total.transitive listing p.to last in_order p.ends) ∙ one_more in
    record { begins = begins; ends = ends; reads = ap₂ (λ (a b : ℕ). take (b - a) (drop a listing)) begins ends ∙ sym p.all }
