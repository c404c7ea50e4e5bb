use Rattle.std.proofs.Common.{ap, arith, length, subst, sym, ◌+◌, ◌∙◌, ◌≡◌}
use Rattle.run_store.specs.Growth.{MayComeTo, cells_inserted_after, last_id_of_run}
use Rattle.run_store.specs.Heads.{typed_cells}
use Rattle.run_store.specs.Runs.{AreRuns, RunsView, cells_in}
use Rattle.run_store.proofs.JoinLemmas.{extended, extended-cells, extended-length, extended-sound}
use Rattle.run_store.proofs.RunsLemmas.{held-in, kept-run}
use Rattle.run_store.proofs.run.Runs.extend.Goals as goal

pub lengthened-requires-clause-some : goal.lengthened-requires-clause-some
lengthened-requires-clause-some c =
    let held = held-in c.self.view_is c.args.run.now c.requires.held in
    (kept-run _ c.self.invariant c.args.run.now.id c.args.run.now held).some

pub lengthened-requires-clause-few : goal.lengthened-requires-clause-few
lengthened-requires-clause-few c =
    let held = held-in c.self.view_is c.args.run.now c.requires.held in
    let new = subst (λ (z : RunsView). MayComeTo (cells_in z) c.args.head.now (length c.args.text.now)) (sym c.self.view_is) c.requires.new in
    omega (arith, (kept-run _ c.self.invariant c.args.run.now.id c.args.run.now held).ends, c.self.invariant.counted, new.room)

pub lengthened-requires-clause-within : goal.lengthened-requires-clause-within
lengthened-requires-clause-within c =
    let held = held-in c.self.view_is c.args.run.now c.requires.held in
    (kept-run _ c.self.invariant c.args.run.now.id c.args.run.now held).within

pub invariant_of-self-2 : goal.invariant_of-self-2
invariant_of-self-2 c =
    let i = c.self.inside in
    let s = c.self.invariant in
    let run = c.args.run.now in
    let held = held-in c.self.view_is run c.requires.held in
    let new = subst (λ (z : RunsView). MayComeTo (cells_in z) c.args.head.now (length c.args.text.now)) (sym c.self.view_is) c.requires.new in
    let M = c.lengthened.new.letters in
    subst (λ xs. AreRuns (record { rope = xs; letters = M; count = i.count + length c.args.text.now })) (sym c.put.ensures.put)
    (extended-sound _ s c.args.head.now c.args.text.now new run held c.requires.next M c.in_ok-longer.longer c.in_ok-longer.ensures.ok)

pub returns : goal.returns
returns c =
    let i = c.self.inside in
    let s = c.self.invariant in
    let h = c.args.head.now in
    let text = c.args.text.now in
    let run = c.args.run.now in
    let held = held-in c.self.view_is run c.requires.held in
    let new = subst (λ (z : RunsView). MayComeTo (cells_in z) h (length text)) (sym c.self.view_is) c.requires.new in
    let M = c.lengthened.new.letters in
    let longer = c.in_ok-longer.longer in
    let now = extended _ s h text new run held c.requires.next M longer c.in_ok-longer.ensures.ok in
    let is : ◌≡◌ {A = RunsView} (record { rope = c.put.new.self; letters = M; count = i.count + length text }) now =
    λ j. record { rope = c.put.ensures.put j; letters = M; count = i.count + length text } in
    record {
      ok = ap cells_in is ∙ extended-cells _ s h text new run held c.requires.next M longer c.in_ok-longer.ensures.ok
          ∙ ap (λ (z : RunsView). cells_inserted_after (last_id_of_run run) (typed_cells h text) (cells_in z)) c.self.view_is;
      kept = ap length c.put.ensures.put ∙ extended-length _ s h text new run held c.requires.next M longer c.in_ok-longer.ensures.ok
          ∙ ap (λ (z : RunsView). length z.rope) c.self.view_is;
      err = tt;
    }
