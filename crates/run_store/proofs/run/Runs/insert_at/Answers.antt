use Rattle.std.proofs.Common.{arith, length, refl, subst, sym, ◌-◌, ◌≡◌}
use Rattle.std.specs.Prelude.{OnOk}
use Rattle.run_store.specs.Growth.{cells_inserted_after}
use Rattle.run_store.specs.Heads.{head_after, typed_cells}
use Rattle.run_store.specs.Runs.{RunsView, cells_in, first_of}
use Rattle.run_store.specs.Stored.{IsRaisedBy}
use Rattle.run_store.proofs.ContinueLemmas.{next-by, next-is, next-last}
use Rattle.run_store.proofs.CutLemmas.{cell-fits}
use Rattle.run_store.proofs.EitherLemmas.{kept-raised, on-ok, where-err}
use Rattle.run_store.proofs.run.Runs.insert_at.Goals as goal

pub cell_at-requires-clause-counters : goal.cell_at-requires-clause-counters
cell_at-requires-clause-counters c =
    (cell-fits c.args.self.now c.sound.ensures c.args.spot.now.run.id c.args.spot.now.run c.args.spot.now.offset c.requires.held c.requires.inside).0

pub cell_at-requires-clause-depths : goal.cell_at-requires-clause-depths
cell_at-requires-clause-depths c =
    (cell-fits c.args.self.now c.sound.ensures c.args.spot.now.run.id c.args.spot.now.run c.args.spot.now.offset c.requires.held c.requires.inside).1

pub extend-requires-clause-next : goal.extend-requires-clause-next
extend-requires-clause-next c =
    next-is c.args.self.now c.sound.ensures c.args.spot.now.run c.args.spot.now.offset c.requires.held c.requires.inside c.args.head.now (length c.args.text.now) c.requires.new
    (next-by c.is_continued.result c.cell_at.result
    (head_after c.args.spot.now.offset (first_of c.args.spot.now.run)) c.args.head.now c.is_continued.ensures c.if-is_continued.true c.cell_at.ensures)

pub returns-then-is_continued : goal.returns-then-is_continued
returns-then-is_continued c =
    let r = c.args.self.now in
    let o = c.args.spot.now.offset in
    let run = c.args.spot.now.run in
    let l = next-last r c.sound.ensures run o c.requires.held c.requires.inside c.args.head.now (length c.args.text.now) c.requires.new
    (next-by c.is_continued.result c.cell_at.result
    (head_after c.args.spot.now.offset (first_of c.args.spot.now.run)) c.args.head.now c.is_continued.ensures c.if-is_continued.true c.cell_at.ensures) in
    let e : run.len - 1 ≡ o = omega (arith, l) in
    record {
      makes = record {
        ok = subst (λ n. OnOk c.extend.result
            (cells_in c.extend.new.self ≡ cells_inserted_after (head_after n (first_of run)).id (typed_cells c.args.head.now c.args.text.now) (cells_in r)))
            e c.extend.ensures.ok;
        err = where-err (λ (n : RunsView). cells_in n ≡ cells_in r) c.extend.result r c.extend.new.self c.extend.ensures.err refl;
        raised = on-ok c.extend.result (length c.extend.new.self.rope ≡ length r.rope) (IsRaisedBy 2 (length r.rope) (length c.extend.new.self.rope))
            (λ k. subst (IsRaisedBy 2 (length r.rope)) (sym k) (kept-raised 2 (length r.rope))) c.extend.ensures.kept;
        refused = where-err (λ (n : RunsView). IsRaisedBy 1 (length r.rope) (length n.rope)) c.extend.result r c.extend.new.self c.extend.ensures.err
            (kept-raised 1 (length r.rope));
      };
      continued = on-ok c.extend.result (length c.extend.new.self.rope ≡ length r.rope) _ (λ k t. k) c.extend.ensures.kept;
    }
