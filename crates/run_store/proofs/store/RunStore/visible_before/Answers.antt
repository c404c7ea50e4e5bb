use Rattle.std.proofs.Common.{refl, subst, ◌≡◌}
use Rattle.std.specs.Prelude.{IsNone, IfNone, IfSome, None, Option, Some, ℕ}
use Rattle.std.specs.List.{Contains}
use Rattle.run_store.specs.Cells.{cell_ids, shown_before}
use Rattle.run_store.specs.Stored.{Stored}
use Rattle.run_store.proofs.store.RunStore.visible_before.Goals as goal

none_by : {P : Type 0} (o : Option ℕ) → IfSome o (λ n. P) → IfNone o (P → ⊥) → (IsNone o → P → ⊥) × ((P → ⊥) → IsNone o)
none_by None some none = (λ is. none, λ not. refl)
none_by (Some n) some none = (λ is. absurd (cc is), λ not. absurd (not some))

pub returns-clause-some : goal.returns-clause-some
returns-clause-some c = subst (λ (s : Stored). IfSome c.visible_before.result (λ n. n ≡ shown_before s.cells c.args.id)) c.self.view_is c.visible_before.ensures.some

pub returns-clause-none : goal.returns-clause-none
returns-clause-none c =
    subst (λ (s : Stored). (IsNone c.visible_before.result → Contains (cell_ids s.cells) c.args.id → ⊥)
    × ((Contains (cell_ids s.cells) c.args.id → ⊥) → IsNone c.visible_before.result)) c.self.view_is
    (none_by _ c.visible_before.ensures.held c.visible_before.ensures.none)
