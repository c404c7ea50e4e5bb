use Rattle.std.proofs.Common.{ap, arith, length, subst, sym, true, ◌-◌, ◌∙◌, ◌≡◌}
use Rattle.std.specs.Prelude.{is_some}
use Rattle.node_rope.specs.Beside.{put_under}
use Rattle.node_rope.specs.Items.{value_under}
use Rattle.run_store.specs.Cells.{cells_hiding}
use Rattle.run_store.specs.Changes.{HidesPart}
use Rattle.run_store.specs.Heads.{head_after}
use Rattle.run_store.specs.Runs.{AreRuns, RunsView, cells_in, first_of, parted_as, run_after}
use Rattle.run_store.specs.Stored.{IsRaisedBy}
use Rattle.run_store.specs.declared.run.Run.{Run}
use Rattle.run_store.proofs.CutLemmas.{back-held, cell-fits, cut-room, rest-fresh, rest-marked}
use Rattle.run_store.proofs.EitherLemmas.{kept-raised}
use Rattle.run_store.proofs.HideLemmas.{hidden_runs, hides-part, hides-sound, hiding-cells, hiding-length, hiding-sound}
use Rattle.run_store.proofs.RunsLemmas.{held-in}
use Rattle.run_store.proofs.run.Runs.hide_rest.Goals as goal

pub run_after-requires-clause-counters : goal.run_after-requires-clause-counters
run_after-requires-clause-counters c =
    let held = held-in c.self.view_is c.args.run.now c.requires.held in
    (cell-fits _ c.self.invariant c.args.run.now.id c.args.run.now c.args.offset held c.requires.inside).0

pub run_after-requires-clause-depths : goal.run_after-requires-clause-depths
run_after-requires-clause-depths c =
    let held = held-in c.self.view_is c.args.run.now c.requires.held in
    (cell-fits _ c.self.invariant c.args.run.now.id c.args.run.now c.args.offset held c.requires.inside).1

pub run_after-requires-clause-fits : goal.run_after-requires-clause-fits
run_after-requires-clause-fits c =
    let held = held-in c.self.view_is c.args.run.now c.requires.held in
    (cell-fits _ c.self.invariant c.args.run.now.id c.args.run.now c.args.offset held c.requires.inside).2

pub part-requires-clause-held : goal.part-requires-clause-held
part-requires-clause-held c = held-in c.self.view_is c.args.run.now c.requires.held

pub part-requires-clause-fresh : goal.part-requires-clause-fresh
part-requires-clause-fresh c =
    let held = held-in c.self.view_is c.args.run.now c.requires.held in
    let back = c.hidden.ensures ∙ (λ i. record (c.run_after.ensures i) { hidden = true }) in
    ap (λ (z : Run). is_some (value_under z.id c.self.inside.rope)) back
    ∙ ap is_some (rest-fresh _ c.self.invariant c.args.run.now c.args.offset held c.if-offset-gt0.true c.requires.inside)

pub part-requires-clause-room : goal.part-requires-clause-room
part-requires-clause-room c =
    let held = held-in c.self.view_is c.args.run.now c.requires.held in
    cut-room _ c.self.invariant c.args.run.now c.args.offset held c.if-offset-gt0.true c.requires.inside

pub invariant_of-self : goal.invariant_of-self
invariant_of-self c =
    let s = c.self.invariant in
    let run = c.args.run.now in
    let o = c.args.offset in
    let some = c.if-offset-gt0.true in
    let inside = c.requires.inside in
    let held = held-in c.self.view_is run c.requires.held in
    let back = c.hidden.ensures ∙ (λ i. record (c.run_after.ensures i) { hidden = true }) in
    hides-sound _ s run o held some inside (run_after o run) (back-held _ s run o held some inside) c.part.result c.part.new.rope
    (parted_as run.id c.run_to.result c.hidden.result c.self.inside.rope)
    ((λ i. parted_as run.id (c.run_to.ensures i) (back i) c.self.inside.rope) ∙ rest-marked _ s run o held some inside true) c.part.ensures.ok c.part.ensures.err

pub returns-then-offset-gt0 : goal.returns-then-offset-gt0
returns-then-offset-gt0 c =
    let s = c.self.invariant in
    let run = c.args.run.now in
    let o = c.args.offset in
    let some = c.if-offset-gt0.true in
    let inside = c.requires.inside in
    let held = held-in c.self.view_is run c.requires.held in
    let back = c.hidden.ensures ∙ (λ i. record (c.run_after.ensures i) { hidden = true }) in
    subst (λ (z : RunsView). HidesPart c.part.result z (record { rope = c.part.new.rope; letters = c.self.inside.letters; count = c.self.inside.count }) (run_after o run).id
    (run_after o run).len) c.self.view_is
    (hides-part _ s run o held some inside (run_after o run) (back-held _ s run o held some inside) c.part.result c.part.new.rope
    (parted_as run.id c.run_to.result c.hidden.result c.self.inside.rope)
    ((λ i. parted_as run.id (c.run_to.ensures i) (back i) c.self.inside.rope) ∙ rest-marked _ s run o held some inside true) c.part.ensures.ok c.part.ensures.err)

pub put-requires : goal.put-requires
put-requires c =
    let held = held-in c.self.view_is c.args.run.now c.requires.held in
    ap (λ k. is_some (value_under k c.self.inside.rope)) c.key_of.ensures ∙ ap is_some held

pub invariant_of-self-2 : goal.invariant_of-self-2
invariant_of-self-2 c =
    let i = c.self.inside in
    let run = c.args.run.now in
    let held = held-in c.self.view_is run c.requires.held in
    let put = c.put.ensures.put ∙ (λ j. put_under (c.key_of.ensures j) (c.hidden-2.ensures j) i.rope) in
    subst (λ xs. AreRuns (record { rope = xs; letters = i.letters; count = i.count })) (sym put) (hiding-sound _ c.self.invariant run held)

pub returns : goal.returns
returns c =
    let i = c.self.inside in
    let run = c.args.run.now in
    let s = c.self.invariant in
    let held = held-in c.self.view_is run c.requires.held in
    let z : 0 ≡ c.args.offset = omega (arith, c.if-offset-gt0.false) in
    let all : run.len ≡ run.len - c.args.offset = omega (arith, z) in
    let now = hidden_runs _ s run held in
    let put : c.put.new.self ≡ now.rope = c.put.ensures.put ∙ (λ j. put_under (c.key_of.ensures j) (c.hidden-2.ensures j) i.rope) in
    let is : ◌≡◌ {A = RunsView} (record { rope = c.put.new.self; letters = i.letters; count = i.count }) now = λ j. record { rope = put j; letters = i.letters; count = i.count } in
    record {
      ok = ap cells_in is ∙ hiding-cells _ s run held
          ∙ (λ j. cells_hiding (head_after (z j) (first_of run)).id (all j) (cells_in (c.self.view_is j)));
      raised = subst (λ (r : RunsView). IsRaisedBy 1 (length r.rope) (length c.put.new.self)) c.self.view_is
          (subst (IsRaisedBy 1 (length i.rope)) (sym (ap length put ∙ hiding-length _ s run held)) (kept-raised 1 (length i.rope)));
      err = tt;
    }
