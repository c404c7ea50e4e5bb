use Rattle.std.proofs.Common.{subst, sym}
use Rattle.std.specs.List.{Contains}
use Rattle.fugue_ids.specs.Keys.{ids}
use Rattle.fugue_ids.specs.Listed.{HoldsOrigin}
use Rattle.run_store.specs.Cells.{keyed_cells}
use Rattle.run_store.proofs.KeyLemmas.{keyed-ids}
use Rattle.library_tests.proofs.runs.plain.is_listed.Goals as goal

pub returns-in-Some : goal.returns-in-Some
returns-in-Some c = λ t.
    let cells = c.args.store.now.cells in
    subst (HoldsOrigin (ids (keyed_cells cells))) (sym c.in-Some.is) (subst (λ is. Contains is c.in-Some.id) (sym (keyed-ids cells)) (c.holds.ensures.0 t))
