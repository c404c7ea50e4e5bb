use Rattle.std.proofs.Common.{ap, nat_lt, subst, sym, ◌∙◌}
use Rattle.std.specs.List.{Contains}
use Rattle.fugue_ids.specs.Identifiers.{Identifier}
use Rattle.fugue_ids.specs.Keys.{ids}
use Rattle.fugue_ids.specs.Listed.{index_of}
use Rattle.run_store.specs.Cells.{cell_ids, keyed_cells}
use Rattle.run_store.specs.Stored.{Stored}
use Rattle.run_store.proofs.KeyLemmas.{keyed-ids}
use Rattle.run_store.proofs.store.RunStoreOrderOf.earlier.Goals as goal

pub returns : goal.returns
returns c =
    let held = λ (x : Identifier) (h : Contains (ids (keyed_cells c.args.self.now.cells)) x).
    subst (λ (s : Stored). Contains (cell_ids s.cells) x) (sym c.self.view_is) (subst (λ is. Contains is x) (keyed-ids c.args.self.now.cells) h) in
    c.is_before.ensures.both (held c.args.a c.requires.first) (held c.args.b c.requires.second)
    ∙ ap (λ (s : Stored). nat_lt (index_of (cell_ids s.cells) c.args.a) (index_of (cell_ids s.cells) c.args.b)) c.self.view_is
    ∙ ap (λ is. nat_lt (index_of is c.args.a) (index_of is c.args.b)) (sym (keyed-ids c.args.self.now.cells))
