use Rattle.std.proofs.Common.{ap, arith, subst, sym, ◌∙◌}
use Rattle.std.specs.Prelude.{IfNone, IfSome, Some, option_map}
use Rattle.std.specs.List.{Contains}
use Rattle.run_store.specs.Cells.{cell_ids}
use Rattle.run_store.specs.Heads.{run_head_of}
use Rattle.run_store.specs.Runs.{IsCellSpot, cells_in}
use Rattle.run_store.specs.declared.cell.Head.{Head}
use Rattle.run_store.proofs.FindLemmas.{cell-found, cell-missing, spot-depth, spot-fits, spot-forest}
use Rattle.run_store.proofs.run.Runs.head_at.Goals as goal

pub cell_at-requires-clause-counters : goal.cell_at-requires-clause-counters
cell_at-requires-clause-counters c =
    let at = subst (λ o. IfSome o (λ s. IsCellSpot c.args.self.now.rope c.args.id s.run s.offset)) c.in-Some.is c.requires.some in
    (spot-fits c.args.self.now c.sound.ensures c.args.id c.in-Some.spot.run c.in-Some.spot.offset at).0

pub cell_at-requires-clause-depths : goal.cell_at-requires-clause-depths
cell_at-requires-clause-depths c =
    let at = subst (λ o. IfSome o (λ s. IsCellSpot c.args.self.now.rope c.args.id s.run s.offset)) c.in-Some.is c.requires.some in
    (spot-fits c.args.self.now c.sound.ensures c.args.id c.in-Some.spot.run c.in-Some.spot.offset at).1

pub returns-in-Some : goal.returns-in-Some
returns-in-Some c =
    let r = c.args.self.now in
    let spot = c.in-Some.spot in
    let at = subst (λ o. IfSome o (λ s. IsCellSpot r.rope c.args.id s.run s.offset)) c.in-Some.is c.requires.some in
    record {
      is = ap Some c.cell_at.ensures ∙ sym (ap (option_map run_head_of) (cell-found r c.sound.ensures c.args.id spot.run spot.offset at));
      depths = omega (arith, ap (λ (h : Head). h.key.depth) c.cell_at.ensures, spot-depth r c.sound.ensures c.args.id spot.run spot.offset at);
      forests = omega (arith, ap (λ (h : Head). h.key.forest) c.cell_at.ensures, spot-forest r c.sound.ensures c.args.id spot.run spot.offset at);
    }

pub returns-in-None : goal.returns-in-None
returns-in-None c =
    let r = c.args.self.now in
    let none = subst (λ o. IfNone o (Contains (cell_ids (cells_in r)) c.args.id → ⊥)) c.in-None.is c.requires.none in
    record { is = sym (ap (option_map run_head_of) (cell-missing r c.sound.ensures c.args.id none)); depths = tt; forests = tt }
