use Rattle.std.proofs.Common.{ap, arith, subst, sym, ◌∙◌, ◌≡◌}
use Rattle.std.specs.Prelude.{is_some}
use Rattle.node_rope.specs.Beside.{put_under, items_rekeyed}
use Rattle.node_rope.specs.Items.{value_under}
use Rattle.run_store.specs.Boundaries.{IsHiding, boundary_shifted}
use Rattle.run_store.specs.Runs.{AreRuns, RunsView, run_after, run_to}
use Rattle.run_store.specs.declared.run.Run.{Run}
use Rattle.run_store.proofs.BoundaryLemmas.{back-held, rest-new, still-held, taken-sound, whole-is}
use Rattle.run_store.proofs.run.Runs.shift.Goals as goal

pub together-requires : goal.together-requires
together-requires c = omega (arith, (whole-is c.args.self.now c.sound.ensures c.args.boundary.now.front c.args.boundary.now.back c.requires.2.boundary).depths, c.sound.ensures.few)

pub run_after-rest-requires-clause-counters : goal.run_after-rest-requires-clause-counters
run_after-rest-requires-clause-counters c =
    let w = whole-is c.args.self.now c.sound.ensures c.args.boundary.now.front c.args.boundary.now.back c.requires.2.boundary in
    omega (arith, w.counters, c.requires.2.move.rest, ap (λ (z : Run). z.id.counter) c.together.ensures)

pub run_after-rest-requires-clause-depths : goal.run_after-rest-requires-clause-depths
run_after-rest-requires-clause-depths c =
    let w = whole-is c.args.self.now c.sound.ensures c.args.boundary.now.front c.args.boundary.now.back c.requires.2.boundary in
    omega (arith, w.depths, c.requires.2.move.rest, c.sound.ensures.few, ap (λ (z : Run). z.key.depth) c.together.ensures)

pub run_after-rest-requires-clause-fits : goal.run_after-rest-requires-clause-fits
run_after-rest-requires-clause-fits c =
    let w = whole-is c.args.self.now c.sound.ensures c.args.boundary.now.front c.args.boundary.now.back c.requires.2.boundary in
    omega (arith, w.ends, c.requires.2.move.rest, c.sound.ensures.few, ap (λ (z : Run). z.start) c.together.ensures)

pub rekey-requires-clause-held : goal.rekey-requires-clause-held
rekey-requires-clause-held c =
    let b = c.args.boundary.now in
    let hiding = subst (λ (z : RunsView). IsHiding z.rope c.requires.0 c.requires.1 b.front b.back b.at) (sym c.self.view_is) c.requires.2 in
    ap (λ k. is_some (value_under k c.self.inside.rope)) c.key_of.ensures ∙ ap is_some (back-held _ c.self.invariant b.front b.back hiding.boundary)

pub rekey-requires-clause-fresh : goal.rekey-requires-clause-fresh
rekey-requires-clause-fresh c =
    let b = c.args.boundary.now in
    let hiding = subst (λ (z : RunsView). IsHiding z.rope c.requires.0 c.requires.1 b.front b.back b.at) (sym c.self.view_is) c.requires.2 in
    let rest = c.run_after-rest.ensures ∙ ap (run_after b.at) c.together.ensures in
    ap (λ k. is_some (value_under k c.self.inside.rope)) (c.key_of-2.ensures ∙ ap (λ (z : Run). z.id) rest)
    ∙ ap is_some (rest-new _ c.self.invariant b.front b.back hiding.boundary b.at hiding.move)

pub put-requires : goal.put-requires
put-requires c =
    let b = c.args.boundary.now in
    let hiding = subst (λ (z : RunsView). IsHiding z.rope c.requires.0 c.requires.1 b.front b.back b.at) (sym c.self.view_is) c.requires.2 in
    let rest = c.run_after-rest.ensures ∙ ap (run_after b.at) c.together.ensures in
    let key = c.key_of-2.ensures ∙ ap (λ (z : Run). z.id) rest in
    ap (λ k. is_some (value_under k c.rekey.new.self)) c.key_of-in-Ok.ensures
    ∙ ap (λ xs. is_some (value_under b.front.id xs)) (c.in-Ok.ensures.rekeyed ∙ (λ i. items_rekeyed (c.key_of.ensures i) (key i, rest i) c.self.inside.rope))
    ∙ ap is_some (still-held _ c.self.invariant b.front b.back hiding.boundary b.at hiding.move)

pub invariant_of-self : goal.invariant_of-self
invariant_of-self c =
    let i = c.self.inside in
    let b = c.args.boundary.now in
    let hiding = subst (λ (z : RunsView). IsHiding z.rope c.requires.0 c.requires.1 b.front b.back b.at) (sym c.self.view_is) c.requires.2 in
    let rest = c.run_after-rest.ensures ∙ ap (run_after b.at) c.together.ensures in
    let key = c.key_of-2.ensures ∙ ap (λ (z : Run). z.id) rest in
    let put : c.put.new.self ≡ boundary_shifted b.at b.front b.back i.rope = c.put.ensures.put
    ∙ (λ j. put_under (c.key_of-in-Ok.ensures j) (c.run_to.ensures j) (c.in-Ok.ensures.rekeyed j))
    ∙ (λ j. put_under b.front.id (run_to b.at b.front) (items_rekeyed (c.key_of.ensures j) (key j, rest j) i.rope)) in
    subst (λ xs. AreRuns (record { rope = xs; letters = i.letters; count = i.count })) (sym put)
    (taken-sound _ c.self.invariant b.front b.back hiding.boundary c.requires.0 c.requires.1 b.at hiding.move hiding.taken)

pub returns-in-Ok : goal.returns-in-Ok
returns-in-Ok c =
    let i = c.self.inside in
    let b = c.args.boundary.now in
    let rest = c.run_after-rest.ensures ∙ ap (run_after b.at) c.together.ensures in
    let key = c.key_of-2.ensures ∙ ap (λ (z : Run). z.id) rest in
    let put : c.put.new.self ≡ boundary_shifted b.at b.front b.back i.rope = c.put.ensures.put
    ∙ (λ j. put_under (c.key_of-in-Ok.ensures j) (c.run_to.ensures j) (c.in-Ok.ensures.rekeyed j))
    ∙ (λ j. put_under b.front.id (run_to b.at b.front) (items_rekeyed (c.key_of.ensures j) (key j, rest j) i.rope)) in
    record {
      ok = (λ j. record { rope = put j; letters = i.letters; count = i.count })
          ∙ ap (λ (z : RunsView). record { rope = boundary_shifted b.at b.front b.back z.rope; letters = z.letters; count = z.count }) c.self.view_is;
      err = tt;
    }
