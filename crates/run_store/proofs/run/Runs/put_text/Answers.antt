use Rattle.std.proofs.Common.{[], ap, arith, drop, length, subst, sym, ◌+◌, ◌<◌, ◌≤◌, ◌∙◌}
use Rattle.std.specs.Prelude.{Err, Ok, flat_map, option_copied, slice_index_or}
use Rattle.std.proofs.lemmas.List.{drop-drop, take_all}
use Rattle.std.proofs.lemmas.Option.{get_or_from_slice_get}
use Rattle.std.proofs.lemmas.Result.{err_from_is_err_and}
use Rattle.fugue_ids.specs.Gathers.{GathersText}
use Rattle.fugue_ids.proofs.GatherLemmas.{gathers_none, gathers_parts_grow, gathers_parts_stop}
use Rattle.run_store.specs.Runs.{AreRuns, RunsView}
use Rattle.run_store.proofs.PlaceLemmas.{at-within, run-at}
use Rattle.run_store.proofs.RunsLemmas.{Item}
use Rattle.run_store.proofs.TextLemmas.{fewer-left, next-run, none-left, run_text, text-runs}
use Rattle.run_store.proofs.run.Runs.put_text.Goals as goal

pub runs-init : goal.runs-init
runs-init g c = record { place = 0; left = c.walk-walk.ensures ∙ ap (λ (z : RunsView). z.rope) c.self.view_is; gathered = gathers_none tt _ _ }

pub put_run-requires-clause-few : goal.put_run-requires-clause-few
put_run-requires-clause-few g c =
    let s = subst AreRuns c.self.view_is c.self.invariant in
    let run = c.in-Some.run'.now in
    let n = c.runs.invariant in
    omega (
      arith,
      (run-at c.args.self.now s n.place run.id run
          (next-run c.args.self.now s c.runs.walk n.place n.left run (ap option_copied (sym c.in-Some.is) ∙ c.step.ensures.first))).ends,
      s.few,
    )

pub put_run-requires-clause-within : goal.put_run-requires-clause-within
put_run-requires-clause-within g c =
    let s = subst AreRuns c.self.view_is c.self.invariant in
    let run = c.in-Some.run'.now in
    let n = c.runs.invariant in
    subst (λ (z : RunsView). run.start + run.len ≤ length (slice_index_or z.letters run.stretch [])) (sym c.self.view_is)
    (run-at c.args.self.now s n.place run.id run (next-run c.args.self.now s c.runs.walk n.place n.left run (ap option_copied (sym c.in-Some.is) ∙ c.step.ensures.first))).within

pub runs-preserved : goal.runs-preserved
runs-preserved g c =
    let r = c.args.self.now in
    let run = c.in-Some.run'.now in
    let n = c.runs.invariant in
    let x : Item = (run.id, run) in
    let e = next-run r (subst AreRuns c.self.view_is c.self.invariant) c.runs.walk n.place n.left run (ap option_copied (sym c.in-Some.is) ∙ c.step.ensures.first) in
    record {
      place = n.place + 1;
      left = c.step.ensures.rest ∙ ap (drop 1) n.left ∙ drop-drop 1 n.place r.rope;
      gathered = gathers_parts_grow (run_text r.letters) r.rope n.place x tt tt _ _ _ _ _ _ (at-within r.rope n.place x e) n.gathered
          (subst (λ (z : Item). GathersText {T = Unit {0}} (g.O.Out.seen c.runs.output) (g.O.Out.seen c.put_run.new.output) c.runs.gather c.put_run.new.gather (Ok tt)
          (run_text r.letters z))
          (sym (get_or_from_slice_get r.rope n.place x x e))
          (subst (λ (z : RunsView). GathersText {T = Unit {0}} (g.O.Out.seen c.runs.output) (g.O.Out.seen c.put_run.new.output) c.runs.gather c.put_run.new.gather (Ok tt)
          (run_text z.letters x)) c.self.view_is c.in_ok-put_run.ensures));
    }

pub runs-smaller : goal.runs-smaller
runs-smaller g c =
    subst (λ xs. length xs < length c.runs.walk) (sym c.step.ensures.rest) (fewer-left c.runs.walk c.in-Some.run'.now (ap option_copied (sym c.in-Some.is) ∙ c.step.ensures.first))

pub returns-in_err-put_run : goal.returns-in_err-put_run
returns-in_err-put_run g c =
    let r = c.args.self.now in
    let run = c.in-Some.run'.now in
    let n = c.runs.invariant in
    let x : Item = (run.id, run) in
    let e = next-run r (subst AreRuns c.self.view_is c.self.invariant) c.runs.walk n.place n.left run (ap option_copied (sym c.in-Some.is) ∙ c.step.ensures.first) in
    let p = err_from_is_err_and c.from_residual.result c.from_residual.ensures.1 in
    let failed = subst (λ (z : Item). GathersText {T = Unit {0}} (g.O.Out.seen c.runs.output) (g.O.Out.seen c.put_run.new.output) c.runs.gather c.put_run.new.gather
    (Err (record {})) (run_text r.letters z))
    (sym (get_or_from_slice_get r.rope n.place x x e))
    (subst (λ (z : RunsView). GathersText {T = Unit {0}} (g.O.Out.seen c.runs.output) (g.O.Out.seen c.put_run.new.output) c.runs.gather c.put_run.new.gather (Err (record {}))
    (run_text z.letters x)) c.self.view_is c.in_err-put_run.ensures) in
    let stopped = gathers_parts_stop {T = Unit {0}} {S = Unit {0}} (run_text r.letters) r.rope n.place x tt _ _ _ _ _ _ (at-within r.rope n.place x e) n.gathered failed in
    rw p.1 (subst (λ t. GathersText {T = Unit {0}} (g.O.Out.seen c.args.output.now) (g.O.Out.seen c.put_run.new.output) c.args.gather.now c.put_run.new.gather (Err (record {})) t)
    (text-runs r.letters r.rope) stopped)

pub returns : goal.returns
returns g c =
    let r = c.args.self.now in
    let n = c.runs.invariant in
    let l : length r.rope ≤ n.place = none-left r.rope c.runs.walk n.place n.left (ap option_copied (sym c.in_default.is) ∙ c.step.ensures.first) in
    subst (λ t. GathersText {T = Unit {0}} (g.O.Out.seen c.args.output.now) (g.O.Out.seen c.runs.output) c.args.gather.now c.runs.gather (Ok tt) t)
    (ap (flat_map (run_text r.letters)) (take_all n.place r.rope l) ∙ text-runs r.letters r.rope) n.gathered
