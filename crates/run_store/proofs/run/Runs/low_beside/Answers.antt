use Rattle.std.proofs.Common.{subst, sym, ◌∙◌}
use Rattle.std.proofs.lemmas.Bool.{true≢false}
use Rattle.std.specs.List.{Contains}
use Rattle.fugue_ids.specs.Keys.{ids, rest_of}
use Rattle.fugue_ids.specs.Listed.{HoldsOrigin}
use Rattle.fugue_ids.proofs.ListLemmas.{contains_none}
use Rattle.fugue_ids.proofs.PartLemmas.{around_low, end_held, found_before, found_after, member_held, next_held}
use Rattle.run_store.specs.Cells.{keyed_cells}
use Rattle.run_store.specs.Runs.{cells_in}
use Rattle.run_store.proofs.MiddleLemmas.{cells-apart}
use Rattle.run_store.proofs.run.Runs.low_beside.Goals as goal

pub last_low_in-requires-clause-to : goal.last_low_in-requires-clause-to
last_low_in-requires-clause-to c =
    let r = c.args.self.now in
    let es = keyed_cells (cells_in r) in
    let p = c.args.part.now in
    let m = c.args.middle in
    let a = around_low es p.most p.from p.to m (cells-apart r c.sound.ensures) c.requires.part.from c.requires.part.to c.requires.inside in
    subst (HoldsOrigin (ids (rest_of p.from es))) (sym c.behind-next.ensures) (next_held es p.from p.to m a)

pub first_low_in-requires-clause-from : goal.first_low_in-requires-clause-from
first_low_in-requires-clause-from c =
    let r = c.args.self.now in
    let es = keyed_cells (cells_in r) in
    let p = c.args.part.now in
    let m = c.args.middle in
    let a = around_low es p.most p.from p.to m (cells-apart r c.sound.ensures) c.requires.part.from c.requires.part.to c.requires.inside in
    member_held es p.from p.to m a

pub first_low_in-requires-clause-to : goal.first_low_in-requires-clause-to
first_low_in-requires-clause-to c =
    let r = c.args.self.now in
    let es = keyed_cells (cells_in r) in
    let p = c.args.part.now in
    let m = c.args.middle in
    let a = around_low es p.most p.from p.to m (cells-apart r c.sound.ensures) c.requires.part.from c.requires.part.to c.requires.inside in
    end_held es p.from p.to m a p.most c.requires.part.to

pub returns-in-Some-clause-some : goal.returns-in-Some-clause-some
returns-in-Some-clause-some c =
    let r = c.args.self.now in
    let es = keyed_cells (cells_in r) in
    let p = c.args.part.now in
    let m = c.args.middle in
    let a = around_low es p.most p.from p.to m (cells-apart r c.sound.ensures) c.requires.part.from c.requires.part.to c.requires.inside in
    found_before es p.from p.to m a p.most c.in-Some.low c.behind-next.result c.behind-next.ensures (sym c.last_low_in.ensures ∙ c.in-Some.is)

pub returns-in-Some-clause-none : goal.returns-in-Some-clause-none
returns-in-Some-clause-none c =
    let found = returns-in-Some-clause-some c in
    (λ f. absurd (true≢false f), λ f. absurd (contains_none c.in-Some.low (subst (λ l. Contains l c.in-Some.low) f found)))

pub returns-in-None : goal.returns-in-None
returns-in-None c =
    let r = c.args.self.now in
    let es = keyed_cells (cells_in r) in
    let p = c.args.part.now in
    let m = c.args.middle in
    let a = around_low es p.most p.from p.to m (cells-apart r c.sound.ensures) c.requires.part.from c.requires.part.to c.requires.inside in
    let found = found_after es p.from p.to m a p.most c.first_low_in.result c.behind-next.result c.behind-next.ensures
    (sym c.last_low_in.ensures ∙ c.in-None.is) c.first_low_in.ensures in
    record { none = found.0; some = found.1 }
