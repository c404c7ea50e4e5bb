use Rattle.std.proofs.Common.{ap, subst, true, ◌∙◌}
use Rattle.std.specs.Prelude.{is_some}
use Rattle.node_rope.specs.Items.{value_under}
use Rattle.run_store.specs.Changes.{HidesPart}
use Rattle.run_store.specs.Runs.{RunsView, parted_as, run_to}
use Rattle.run_store.specs.declared.run.Run.{Run}
use Rattle.run_store.proofs.CutLemmas.{cell-fits, cut-room, front-held, front-marked, rest-fresh}
use Rattle.run_store.proofs.HideLemmas.{hides-part, hides-sound}
use Rattle.run_store.proofs.RunsLemmas.{held-in}
use Rattle.run_store.proofs.run.Runs.hide_front.Goals as goal

pub run_after-requires-clause-counters : goal.run_after-requires-clause-counters
run_after-requires-clause-counters c =
    let held = held-in c.self.view_is c.args.run.now c.requires.held in
    (cell-fits _ c.self.invariant c.args.run.now.id c.args.run.now c.args.n held c.requires.more).0

pub run_after-requires-clause-depths : goal.run_after-requires-clause-depths
run_after-requires-clause-depths c =
    let held = held-in c.self.view_is c.args.run.now c.requires.held in
    (cell-fits _ c.self.invariant c.args.run.now.id c.args.run.now c.args.n held c.requires.more).1

pub run_after-requires-clause-fits : goal.run_after-requires-clause-fits
run_after-requires-clause-fits c =
    let held = held-in c.self.view_is c.args.run.now c.requires.held in
    (cell-fits _ c.self.invariant c.args.run.now.id c.args.run.now c.args.n held c.requires.more).2

pub part-requires-clause-held : goal.part-requires-clause-held
part-requires-clause-held c = held-in c.self.view_is c.args.run.now c.requires.held

pub part-requires-clause-fresh : goal.part-requires-clause-fresh
part-requires-clause-fresh c =
    let held = held-in c.self.view_is c.args.run.now c.requires.held in
    ap (λ (z : Run). is_some (value_under z.id c.self.inside.rope)) c.run_after.ensures
    ∙ ap is_some (rest-fresh _ c.self.invariant c.args.run.now c.args.n held c.requires.some c.requires.more)

pub part-requires-clause-room : goal.part-requires-clause-room
part-requires-clause-room c =
    let held = held-in c.self.view_is c.args.run.now c.requires.held in
    cut-room _ c.self.invariant c.args.run.now c.args.n held c.requires.some c.requires.more

pub invariant_of-self : goal.invariant_of-self
invariant_of-self c =
    let s = c.self.invariant in
    let run = c.args.run.now in
    let n = c.args.n in
    let some = c.requires.some in
    let more = c.requires.more in
    let held = held-in c.self.view_is run c.requires.held in
    let front = c.hidden.ensures ∙ (λ i. record (c.run_to.ensures i) { hidden = true }) in
    hides-sound _ s run n held some more (run_to n run) (front-held _ s run n held some more) c.part.result c.part.new.rope
    (parted_as run.id c.hidden.result c.run_after.result c.self.inside.rope)
    ((λ i. parted_as run.id (front i) (c.run_after.ensures i) c.self.inside.rope) ∙ front-marked _ s run n held some more true) c.part.ensures.ok c.part.ensures.err

pub returns : goal.returns
returns c =
    let s = c.self.invariant in
    let run = c.args.run.now in
    let n = c.args.n in
    let some = c.requires.some in
    let more = c.requires.more in
    let held = held-in c.self.view_is run c.requires.held in
    let front = c.hidden.ensures ∙ (λ i. record (c.run_to.ensures i) { hidden = true }) in
    subst (λ (z : RunsView). HidesPart c.part.result z (record { rope = c.part.new.rope; letters = c.self.inside.letters; count = c.self.inside.count }) run.id n) c.self.view_is
    (hides-part _ s run n held some more (run_to n run) (front-held _ s run n held some more) c.part.result c.part.new.rope
    (parted_as run.id c.hidden.result c.run_after.result c.self.inside.rope)
    ((λ i. parted_as run.id (front i) (c.run_after.ensures i) c.self.inside.rope) ∙ front-marked _ s run n held some more true) c.part.ensures.ok c.part.ensures.err)
