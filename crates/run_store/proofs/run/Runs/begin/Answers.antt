use Rattle.std.proofs.Common.{[], ap, length, subst, sym, take, ◌+◌, ◌∙◌, ◌≡◌}
use Rattle.std.specs.Prelude.{is_some, slice_index_or, slice_set}
use Rattle.run_store.specs.Beginning.{CanBegin, begun_run}
use Rattle.run_store.specs.Growth.{MayComeTo}
use Rattle.run_store.specs.Heads.{typed_cells}
use Rattle.run_store.specs.Runs.{AreRuns, RunsView, cells_in}
use Rattle.run_store.proofs.BeginLemmas.{begun_runs, is-begun, taken-back}
use Rattle.run_store.proofs.JoinLemmas.{fresh-key, join-room}
use Rattle.run_store.proofs.run.Runs.begin.Goals as goal

pub place-requires-clause-held : goal.place-requires-clause-held
place-requires-clause-held c = subst (λ (z : RunsView). CanBegin c.args.at z.rope) (sym c.self.view_is) c.requires.held

pub place-requires-clause-fresh : goal.place-requires-clause-fresh
place-requires-clause-fresh c =
    let new = subst (λ (z : RunsView). MayComeTo (cells_in z) c.args.head.now (length c.args.text.now)) (sym c.self.view_is) c.requires.new in
    ap is_some (fresh-key _ c.self.invariant c.args.head.now c.args.text.now new)

pub place-requires-clause-room : goal.place-requires-clause-room
place-requires-clause-room c =
    let new = subst (λ (z : RunsView). MayComeTo (cells_in z) c.args.head.now (length c.args.text.now)) (sym c.self.view_is) c.requires.new in
    join-room _ c.self.invariant c.args.head.now c.args.text.now new

pub invariant_of-self-in-Ok : goal.invariant_of-self-in-Ok
invariant_of-self-in-Ok c =
    let i = c.self.inside in
    let s = c.self.invariant in
    let h = c.args.head.now in
    let text = c.args.text.now in
    let new = subst (λ (z : RunsView). MayComeTo (cells_in z) h (length text)) (sym c.self.view_is) c.requires.new in
    let held = subst (λ (z : RunsView). CanBegin c.args.at z.rope) (sym c.self.view_is) c.requires.held in
    let e = c.alone.ensures
    ∙ (λ j. record { id = h.id; left = h.left; right = h.right; hidden = h.hidden; key = h.key; stretch = 0; start = c.in_ok-start.ensures.ok.0 j; len = length text }) in
    let now = begun_runs _ s h text new c.alone.result e c.args.at in
    let begun = is-begun _ s h text new c.alone.result e c.args.at held in
    let placed : c.place.new.rope ≡ now.rope = c.in-Ok.ensures.placed in
    let is : ◌≡◌ {A = RunsView} (record { rope = c.place.new.rope; letters = c.begin.new.self; count = i.count + length text }) now =
    λ j. record { rope = placed j; letters = c.in_ok-start.ensures.ok.1 j; count = i.count + length text } in
    subst AreRuns (sym is) begun.sound

pub returns-in-Ok : goal.returns-in-Ok
returns-in-Ok c =
    let i = c.self.inside in
    let s = c.self.invariant in
    let h = c.args.head.now in
    let text = c.args.text.now in
    let new = subst (λ (z : RunsView). MayComeTo (cells_in z) h (length text)) (sym c.self.view_is) c.requires.new in
    let held = subst (λ (z : RunsView). CanBegin c.args.at z.rope) (sym c.self.view_is) c.requires.held in
    let e = c.alone.ensures
    ∙ (λ j. record { id = h.id; left = h.left; right = h.right; hidden = h.hidden; key = h.key; stretch = 0; start = c.in_ok-start.ensures.ok.0 j; len = length text }) in
    let now = begun_runs _ s h text new c.alone.result e c.args.at in
    let begun = is-begun _ s h text new c.alone.result e c.args.at held in
    let placed : c.place.new.rope ≡ now.rope = c.in-Ok.ensures.placed in
    let is : ◌≡◌ {A = RunsView} (record { rope = c.place.new.rope; letters = c.begin.new.self; count = i.count + length text }) now =
    λ j. record { rope = placed j; letters = c.in_ok-start.ensures.ok.1 j; count = i.count + length text } in
    record {
      ok = ap cells_in is ∙ begun.cells ∙ ap (λ (z : RunsView). begun_run c.args.at (typed_cells h text) (cells_in z)) c.self.view_is;
      raised = ap length placed ∙ begun.longer ∙ ap (λ (z : RunsView). length z.rope + 1) c.self.view_is;
      err = tt;
    }

pub invariant_of-self-in-Err : goal.invariant_of-self-in-Err
invariant_of-self-in-Err c =
    let i = c.self.inside in
    let l : c.take_back.new.self ≡ i.letters =
    c.take_back.ensures ∙ ap (λ L. slice_set L 0 (take c.in_ok-start.start (slice_index_or L 0 []))) c.in_ok-start.ensures.ok.1
    ∙ taken-back i.letters c.args.text.now c.in_ok-start.start c.self.invariant.letters.first c.in_ok-start.ensures.ok.0 in
    let now : RunsView = record { rope = c.place.new.rope; letters = c.take_back.new.self; count = i.count } in
    let is : ◌≡◌ {A = RunsView} now (record { rope = i.rope; letters = i.letters; count = i.count }) =
    λ j. record { rope = c.in-Err.ensures.refused j; letters = l j; count = i.count } in
    subst AreRuns (sym is) c.self.invariant

pub returns-in-Err : goal.returns-in-Err
returns-in-Err c =
    let i = c.self.inside in
    let l : c.take_back.new.self ≡ i.letters =
    c.take_back.ensures ∙ ap (λ L. slice_set L 0 (take c.in_ok-start.start (slice_index_or L 0 []))) c.in_ok-start.ensures.ok.1
    ∙ taken-back i.letters c.args.text.now c.in_ok-start.start c.self.invariant.letters.first c.in_ok-start.ensures.ok.0 in
    let now : RunsView = record { rope = c.place.new.rope; letters = c.take_back.new.self; count = i.count } in
    let is : ◌≡◌ {A = RunsView} now (record { rope = i.rope; letters = i.letters; count = i.count }) =
    λ j. record { rope = c.in-Err.ensures.refused j; letters = l j; count = i.count } in
    record { ok = tt; raised = tt; err = is ∙ c.self.view_is }
