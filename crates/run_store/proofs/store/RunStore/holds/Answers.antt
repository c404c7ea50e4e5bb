use Rattle.std.proofs.Common.{refl, subst, sym}
use Rattle.std.specs.List.{Contains}
use Rattle.std.proofs.lemmas.Bool.{false≢true}
use Rattle.run_store.specs.Cells.{cell_ids}
use Rattle.run_store.specs.Stored.{Stored}
use Rattle.run_store.proofs.FindLemmas.{spot-held}
use Rattle.run_store.proofs.store.RunStore.holds.Goals as goal

pub returns-in-Some : goal.returns-in-Some
returns-in-Some c =
    let held = spot-held c.self.inside.runs c.sound.ensures c.args.id c.in-Some.field-0.run c.in-Some.field-0.offset c.in-Some.ensures.some in
    ((λ t. subst (λ (s : Stored). Contains (cell_ids s.cells) c.args.id) c.self.view_is held), (λ h. refl))

pub returns-in-None : goal.returns-in-None
returns-in-None c =
    ((λ t. absurd (false≢true t)), (λ h. absurd (c.in-None.ensures.none (subst (λ (s : Stored). Contains (cell_ids s.cells) c.args.id) (sym c.self.view_is) h))))
