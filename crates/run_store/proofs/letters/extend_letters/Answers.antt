use Rattle.std.proofs.Common.{Global, List, Vec, [], ap, map, sym, ℕ, ◌++◌, ◌∙◌, ◌≡◌}
use Rattle.std.specs.Prelude.{slice_set}
use Rattle.node_rope.proofs.ListedLemmas.{got-mapped, map-same, map-set}
use Rattle.run_store.proofs.EitherLemmas.{any-err}
use Rattle.run_store.proofs.letters.extend_letters.Goals as goal

abbrev items : Vec ℕ Global → List ℕ
items v = v.items

pub returns-clause-ok : goal.returns-clause-ok
returns-clause-ok c =
    let xs = c.args.stretches.now in
    let i = c.args.stretch in
    map-set items xs i c.extend_from_slice.new.self
    ∙ ap (slice_set (map items xs) i) (c.in_ok-extend_from_slice.ensures.items
    ∙ ap (λ l. l ++ c.args.text.now) (ap items (sym c.index-stretches-stretch.is)
    ∙ got-mapped items xs i c.index-stretches-stretch.result [] c.index-stretches-stretch.is c.requires))

pub returns-in_err-extend_from_slice-clause-err : goal.returns-in_err-extend_from_slice-clause-err
returns-in_err-extend_from_slice-clause-err c =
    let xs = c.args.stretches.now in
    any-err c.from_residual.result (map items (slice_set xs c.args.stretch c.extend_from_slice.new.self) ≡ map items xs)
    (map-same items xs c.args.stretch c.extend_from_slice.new.self c.index-stretches-stretch.result c.index-stretches-stretch.is
    (c.in_err-extend_from_slice.ensures.items ∙ ap items (sym c.index-stretches-stretch.is)))
