use Rattle.std.proofs.Common.{subst, sym}
use Rattle.fugue_ids.specs.Listed.{HoldsOrigin}
use Rattle.run_store.specs.Cells.{cell_ids}
use Rattle.run_store.specs.Stored.{Stored}
use Rattle.run_store.proofs.KeyLemmas.{keyed-ids}
use Rattle.run_store.proofs.store.RunStoreOrderOf.first_low.Goals as goal

pub first_low-requires : goal.first_low-requires
first_low-requires c =
    subst (λ (s : Stored). HoldsOrigin (cell_ids s.cells) c.args.id) (sym c.self.view_is) (subst (λ is. HoldsOrigin is c.args.id) (keyed-ids c.args.self.now.cells) c.requires.held)
