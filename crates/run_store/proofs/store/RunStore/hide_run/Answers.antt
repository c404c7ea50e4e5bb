use Rattle.std.proofs.Common.{subst, sym}
use Rattle.run_store.specs.Hiding.{HaveCells}
use Rattle.run_store.specs.Stored.{Stored}
use Rattle.run_store.proofs.store.RunStore.hide_run.Goals as goal

pub hide_run-requires-clause-held : goal.hide_run-requires-clause-held
hide_run-requires-clause-held c = subst (λ (s : Stored). HaveCells s.cells c.args.first c.args.count) (sym c.self.view_is) c.requires.held
