use Rattle.std.proofs.Common.{◌≡◌, sym, ◌∙◌, ap, Bool, List}
use Rattle.std.specs.Prelude.{count_by}
use Rattle.std.proofs.lemmas.Bool.{eqb-true, eq-eqb}
use Rattle.replica_core.proofs.MarkLemmas.{clear_if, none_counted}
use Rattle.replica_core.proofs.due.Due.is_clear.Goals as goal

pub returns : goal.returns
returns c =
    let counted : c.self.inside.count ≡ count_by (λ mark. mark) c.args.self.now =
    c.self.invariant.counted ∙ ap (λ (marks : List Bool). count_by (λ mark. mark) marks) c.self.view_is in (
      λ clear. clear_if c.args.self.now (sym counted ∙ eqb-true c.self.inside.count 0 clear),
      λ clear. eq-eqb c.self.inside.count 0 (counted ∙ none_counted c.args.self.now clear),
    )
