use Rattle.std.proofs.Common.{◌≡◌, length, refl, subst, sym}
use Rattle.run_store.specs.Cells.{cells_hiding}
use Rattle.run_store.specs.Heads.{head_after}
use Rattle.run_store.specs.Runs.{RunsView, cells_in, first_of}
use Rattle.run_store.specs.Stored.{IsRaisedBy}
use Rattle.run_store.proofs.BoundaryLemmas.{shifted-length, shifted_runs, taken-cells}
use Rattle.run_store.proofs.EitherLemmas.{kept-raised, where-err, where-ok}
use Rattle.run_store.proofs.run.Runs.hide_at.Goals as goal

pub shift-requires : goal.shift-requires
shift-requires c = ((head_after c.args.spot.now.offset (first_of c.args.spot.now.run)).id, c.args.n, c.in-Some.ensures)

pub returns-in-Some : goal.returns-in-Some
returns-in-Some c =
    let r = c.args.self.now in
    let s = c.sound.ensures in
    let b = c.in-Some.boundary in
    let h = c.in-Some.ensures in
    let x = (head_after c.args.spot.now.offset (first_of c.args.spot.now.run)).id in
    let k = c.args.n in
    let moved = shifted_runs r s b.front b.back h.boundary b.at h.move in
    let new = c.shift.new.self in
    let n = length r.rope in
    record {
      ok = where-ok (λ (a : RunsView). cells_in a ≡ cells_hiding x k (cells_in r)) c.shift.result moved new c.shift.ensures.ok
          (taken-cells r s b.front b.back h.boundary x k b.at h.move h.taken);
      err = where-err (λ (a : RunsView). cells_in a ≡ cells_in r) c.shift.result r new c.shift.ensures.err refl;
      raised = where-ok (λ (a : RunsView). IsRaisedBy 2 n (length a.rope)) c.shift.result moved new c.shift.ensures.ok
          (subst (IsRaisedBy 2 n) (sym (shifted-length r s b.front b.back h.boundary b.at h.move)) (kept-raised 2 n));
      refused = where-err (λ (a : RunsView). IsRaisedBy 1 n (length a.rope)) c.shift.result r new c.shift.ensures.err (kept-raised 1 n);
    }
