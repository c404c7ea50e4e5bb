use Rattle.std.proofs.Common.{ap, sym, refl, List, ℕ, ◌∙◌, ◌≡◌}
use Rattle.std.specs.Prelude.{Result, Ok, Err}
use Rattle.std.specs.List.{remove}
use Rattle.causal_inbox.specs.Index.{without_age}
use Rattle.causal_inbox.specs.Lists.{ages_under}
use Rattle.causal_inbox.proofs.AgeLemmas.{dropped_searched}
use Rattle.causal_inbox.proofs.KeyOrderLemmas.{replaced_by}
use Rattle.causal_inbox.proofs.lists.drop_under.Goals as goal

pub returns-in-Ok-clause-dropped : goal.returns-in-Ok-clause-dropped
returns-in-Ok-clause-dropped c =
    let ages : List ℕ = ages_under c.args.lists.now c.args.key in
    let there : without_age ages c.args.age ≡ remove ages c.in-Ok.at =
    dropped_searched ages c.list_under.result.now c.args.age c.binary_search.result c.list_under.ensures c.requires c.binary_search.ensures.position
    ∙ ap (λ (r : Result ℕ ℕ). elim r [ Ok p ↦ remove ages p | Err p ↦ ages ]) c.in-Ok.is in
    replaced_by c.args.key _ _ _ _ (sym there) c.remove_under.ensures.taken

pub returns-in_default-clause-dropped : goal.returns-in_default-clause-dropped
returns-in_default-clause-dropped c =
    let ages : List ℕ = ages_under c.args.lists.now c.args.key in
    let absent : without_age ages c.args.age ≡ ages =
    dropped_searched ages c.list_under.result.now c.args.age c.binary_search.result c.list_under.ensures c.requires c.binary_search.ensures.position
    ∙ ap (λ (r : Result ℕ ℕ). elim r [ Ok p ↦ remove ages p | Err p ↦ ages ]) c.in_default.is in
    record { here = sym absent; others = λ k n. refl }
