use Rattle.std.proofs.Common.{subst, sym}
use Rattle.std.specs.Prelude.{reverse}
use Rattle.replica_core.specs.Feeding.{AreUnheld}
use Rattle.replica_core.proofs.IndexLemmas.{free_unheld, unheld_free}
use Rattle.replica_core.proofs.history.History.is_free.Goals as goal

pub returns : goal.returns
returns c =
    let i = c.self.inside in
    let first = c.args.first in
    let n = c.args.count in (
      λ yes. subst (λ h. AreUnheld h first n) c.self.view_is
          (free_unheld i.index.positions.values (reverse i.ops) first n c.self.invariant.indexed (c.is_free.ensures.0 yes)),
      λ unheld. c.is_free.ensures.1
          (unheld_free i.index.positions.values (reverse i.ops) first n c.self.invariant.indexed
          (subst (λ h. AreUnheld h first n) (sym c.self.view_is) unheld)),
    )
