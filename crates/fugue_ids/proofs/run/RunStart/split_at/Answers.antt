use Rattle.std.proofs.Common.{◌≡◌, ◌++◌, ◌<◌, ap, arith, length, ◌∙◌, sym}
use Rattle.std.proofs.lemmas.Bool.{eqb-true}
use Rattle.std.proofs.lemmas.List.{length-drop}
use Rattle.fugue_ids.specs.Runs.{run_from, start_after}
use Rattle.fugue_ids.proofs.RunLemmas.{run_parted}
use Rattle.fugue_ids.proofs.run.RunStart.split_at.Goals.{then-is_empty, else-is_empty}
use Rattle.fugue_ids.proofs.run.RunStart.split_at.Goals as goal

pub returns-clause-whole : goal.returns-clause-whole
returns-clause-whole c =
    let next : c.args.count < length c.args.text.now → c.if-is_empty.next ≡ start_after c.args.self.now c.args.count =
    λ less. elim c.if-is_empty.branch [
      | then-is_empty w ↦ (
          let none : length c.split_at.result.1.now ≡ 0 = eqb-true _ _ (sym c.is_empty.ensures ∙ w.if-is_empty.true) in
          absurd (omega (arith, less, none, ap length c.split_at.ensures.back, length-drop c.args.count c.args.text.now))
          )
      | else-is_empty w ↦ w.next-is ∙ w.nth-next.ensures
    ] in
    run_parted c.args.self.now c.if-is_empty.next c.args.text.now c.args.count c.requires.within next
    ∙ (λ i. run_from c.args.self.now (sym c.split_at.ensures.front i) ++ run_from c.if-is_empty.next (sym c.split_at.ensures.back i))
