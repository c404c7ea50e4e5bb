use Rattle.std.proofs.Common.{◌∙◌}
use Rattle.run_store.proofs.CellLemmas.{follows}
use Rattle.run_store.proofs.store.RunStore.after.Goals as goal

pub returns : goal.returns
returns c = c.behind.ensures ∙ follows c.args.self.now.cells c.args.id
