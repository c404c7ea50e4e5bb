use Rattle.std.proofs.Common.{false, nat_lt, subst, ◌≡◌, ◌⊎◌}
use Rattle.std.specs.List.{Contains}
use Rattle.fugue_ids.specs.Listed.{index_of}
use Rattle.run_store.specs.Cells.{cell_ids}
use Rattle.run_store.specs.Stored.{Stored}
use Rattle.run_store.proofs.store.RunStore.is_before.Goals as goal

pub returns-clause-both : goal.returns-clause-both
returns-clause-both c =
    let a = c.args.a in
    let b = c.args.b in
    subst (λ (s : Stored). Contains (cell_ids s.cells) a → Contains (cell_ids s.cells) b
    → c.is_before.result ≡ nat_lt (index_of (cell_ids s.cells) a) (index_of (cell_ids s.cells) b)) c.self.view_is
    c.is_before.ensures.both

pub returns-clause-none : goal.returns-clause-none
returns-clause-none c =
    subst (λ (s : Stored). (Contains (cell_ids s.cells) c.args.a → ⊥) ⊎ (Contains (cell_ids s.cells) c.args.b → ⊥) → c.is_before.result ≡ false) c.self.view_is
    c.is_before.ensures.none
