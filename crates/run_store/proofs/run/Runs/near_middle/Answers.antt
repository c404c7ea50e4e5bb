use Rattle.std.proofs.Common.{subst, sym, ◌∙◌}
use Rattle.std.proofs.lemmas.Bool.{true≢false}
use Rattle.std.specs.List.{Contains}
use Rattle.fugue_ids.specs.Keys.{between}
use Rattle.fugue_ids.proofs.ListLemmas.{contains_none}
use Rattle.fugue_ids.proofs.LowLemmas.{low_in}
use Rattle.fugue_ids.proofs.PartLemmas.{around_low, low_member, member_held}
use Rattle.run_store.specs.Cells.{keyed_cells}
use Rattle.run_store.specs.Runs.{cells_in}
use Rattle.run_store.specs.Standings.{low_cells}
use Rattle.run_store.proofs.FoundLemmas.{found-key}
use Rattle.run_store.proofs.KeyLemmas.{keyed-ids}
use Rattle.run_store.proofs.MiddleLemmas.{cells-apart}
use Rattle.run_store.proofs.run.Runs.near_middle.Goals as goal

pub returns-then-is_at_most-clause-some : goal.returns-then-is_at_most-clause-some
returns-then-is_at_most-clause-some c =
    let r = c.args.self.now in
    let es = keyed_cells (cells_in r) in
    let p = c.args.part.now in
    let m = c.in_ok-middle.middle in
    let apart = cells-apart r c.sound.ensures in
    let a = around_low es p.most p.from p.to m.id apart c.requires.from c.requires.to c.in_ok-middle.ensures.some in
    low_member es p.from p.to m.id a p.most apart m.key (found-key r c.sound.ensures m c.in_ok-middle.ensures.found) (sym c.is_at_most.ensures ∙ c.if-is_at_most.true)

pub returns-then-is_at_most-clause-none : goal.returns-then-is_at_most-clause-none
returns-then-is_at_most-clause-none c =
    let found = returns-then-is_at_most-clause-some c in
    let x = c.in_ok-middle.middle.id in
    (λ f. absurd (true≢false f), λ f. absurd (contains_none x (subst (λ l. Contains l x) f found)))

pub found-requires : goal.found-requires
found-requires c =
    let r = c.args.self.now in
    let es = keyed_cells (cells_in r) in
    let p = c.args.part.now in
    let x = c.in_ok-low.low in
    let inside = low_in p.most (between p.from p.to es) x c.in_ok-low.ensures.some in
    subst (λ xs. Contains xs x) (keyed-ids (cells_in r))
    (member_held es p.from p.to x (around_low es p.most p.from p.to x (cells-apart r c.sound.ensures) c.requires.from c.requires.to inside))

pub returns-clause-some : goal.returns-clause-some
returns-clause-some c = subst (Contains (low_cells c.args.self.now c.args.part.now)) (sym c.found.ensures.same) c.in_ok-low.ensures.some

pub returns-clause-none : goal.returns-clause-none
returns-clause-none c =
    let x = c.in_ok-low.low in
    (λ f. absurd (true≢false f), λ f. absurd (contains_none x (subst (λ l. Contains l x) f c.in_ok-low.ensures.some)))
