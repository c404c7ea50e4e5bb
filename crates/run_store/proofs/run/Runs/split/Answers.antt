use Rattle.std.proofs.Common.{List, ap, ◌∙◌, ◌≡◌}
use Rattle.std.specs.Prelude.{is_some}
use Rattle.node_rope.specs.Items.{value_under}
use Rattle.run_store.specs.Runs.{RunsView, rope_parted, parted_as}
use Rattle.run_store.specs.declared.run.Run.{Run}
use Rattle.run_store.proofs.CutLemmas.{cell-fits, cut-left, cut-room, rest-fresh}
use Rattle.run_store.proofs.EitherLemmas.{on-err, on-ok}
use Rattle.run_store.proofs.RunsLemmas.{Item, held-in}
use Rattle.run_store.proofs.run.Runs.split.Goals as goal

pub run_after-requires-clause-counters : goal.run_after-requires-clause-counters
run_after-requires-clause-counters c =
    let held = held-in c.self.view_is c.args.run.now c.requires.held in
    (cell-fits _ c.self.invariant c.args.run.now.id c.args.run.now c.args.at held c.requires.before).0

pub run_after-requires-clause-depths : goal.run_after-requires-clause-depths
run_after-requires-clause-depths c =
    let held = held-in c.self.view_is c.args.run.now c.requires.held in
    (cell-fits _ c.self.invariant c.args.run.now.id c.args.run.now c.args.at held c.requires.before).1

pub run_after-requires-clause-fits : goal.run_after-requires-clause-fits
run_after-requires-clause-fits c =
    let held = held-in c.self.view_is c.args.run.now c.requires.held in
    (cell-fits _ c.self.invariant c.args.run.now.id c.args.run.now c.args.at held c.requires.before).2

pub part-requires-clause-held : goal.part-requires-clause-held
part-requires-clause-held c = held-in c.self.view_is c.args.run.now c.requires.held

pub part-requires-clause-fresh : goal.part-requires-clause-fresh
part-requires-clause-fresh c =
    let held = held-in c.self.view_is c.args.run.now c.requires.held in
    ap (λ (z : Run). is_some (value_under z.id c.self.inside.rope)) c.run_after.ensures
    ∙ ap is_some (rest-fresh _ c.self.invariant c.args.run.now c.args.at held c.requires.behind c.requires.before)

pub part-requires-clause-room : goal.part-requires-clause-room
part-requires-clause-room c =
    let held = held-in c.self.view_is c.args.run.now c.requires.held in
    cut-room _ c.self.invariant c.args.run.now c.args.at held c.requires.behind c.requires.before

pub invariant_of-self : goal.invariant_of-self
invariant_of-self c =
    let run = c.args.run.now in
    let rope = c.self.inside.rope in
    let now = c.part.new.rope in
    let held = held-in c.self.view_is run c.requires.held in
    cut-left _ c.self.invariant run c.args.at held c.requires.behind c.requires.before c.part.result now
    (on-ok c.part.result (now ≡ parted_as run.id c.run_to.result c.run_after.result rope) (now ≡ rope_parted c.args.at run rope)
    (λ q. q ∙ (λ j. parted_as run.id (c.run_to.ensures j) (c.run_after.ensures j) rope)) c.part.ensures.ok)
    c.part.ensures.err

pub returns : goal.returns
returns c =
    let run = c.args.run.now in
    let i = c.self.inside in
    let now = c.part.new.rope in
    let with_rope : List Item → RunsView = λ xs. record { rope = xs; letters = i.letters; count = i.count } in
    record {
      ok = on-ok c.part.result (now ≡ parted_as run.id c.run_to.result c.run_after.result i.rope) _
          (λ q. ap with_rope (q ∙ (λ j. parted_as run.id (c.run_to.ensures j) (c.run_after.ensures j) i.rope))
          ∙ ap (λ (z : RunsView). record { rope = rope_parted c.args.at run z.rope; letters = z.letters; count = z.count }) c.self.view_is) c.part.ensures.ok;
      err = on-err c.part.result (now ≡ i.rope) _ (λ q. ap with_rope q ∙ c.self.view_is) c.part.ensures.err;
    }
