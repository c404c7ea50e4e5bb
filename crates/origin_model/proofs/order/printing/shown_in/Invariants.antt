use Rattle.origin_model.proofs.Words.{drop, filter, is_hidden, not, reverse, ◌++◌, ◌≡◌}
use Rattle.origin_model.specs.order.Listed.{elements_at}
use Rattle.origin_model.proofs.order.printing.shown_in.Given as goal

abbrev pub invariant-scan : goal.invariant-scan
invariant-scan l =
    l.found.items ++ filter (λ x. not (is_hidden (reverse l.ops) x)) (elements_at l.place (drop l.e-index l.listed))
    ≡ filter (λ x. not (is_hidden (reverse l.ops) x)) (elements_at l.place l.listed)
