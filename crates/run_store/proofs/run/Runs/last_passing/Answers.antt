use Rattle.std.proofs.Common.{false, subst, sym, true, ◌∙◌}
use Rattle.std.specs.Prelude.{None, Some}
use Rattle.fugue_ids.specs.Keys.{between, low_ids, rest_of}
use Rattle.fugue_ids.specs.Listed.{HoldsOrigin}
use Rattle.fugue_ids.proofs.HalvesLemmas.{halves, last_is_low, last_passes, none_passes, search_before, search_begins}
use Rattle.fugue_ids.proofs.LowLemmas.{low_held}
use Rattle.fugue_ids.proofs.PassingLemmas.{nothing_seen}
use Rattle.run_store.specs.Cells.{keyed_cells}
use Rattle.run_store.specs.Runs.{cells_in}
use Rattle.run_store.proofs.KeyLemmas.{keyed-ids}
use Rattle.run_store.proofs.MiddleLemmas.{cells-apart}
use Rattle.run_store.proofs.run.Runs.last_passing.Goals as goal

pub last_low_in-requires-clause-to : goal.last_low_in-requires-clause-to
last_low_in-requires-clause-to g c = low_held c.args.most (rest_of c.args.from (keyed_cells (cells_in c.args.self.now))) c.args.to c.requires.to

pub returns-in_err-last : goal.returns-in_err-last
returns-in_err-last g c = λ test t f.
    c.from_residual.ensures ∙ sym (none_passes c.args.most (between c.args.from c.args.to (keyed_cells (cells_in c.args.self.now))) test (sym c.in_err-last.ensures))

pub returns-then-test : goal.returns-then-test
returns-then-test g c = λ test t f.
    let x = c.in_ok-last.last in
    let passes = sym (t x true (subst (goal.P-post g c.args.test x) c.if-test.true c.test.ensures)) in
    sym (last_passes c.args.most (between c.args.from c.args.to (keyed_cells (cells_in c.args.self.now))) test x (sym c.in_ok-last.ensures) passes)

pub begin_of-begin-requires : goal.begin_of-begin-requires
begin_of-begin-requires g c =
    let cs = cells_in c.args.self.now in
    subst (λ xs. HoldsOrigin xs c.args.from) (keyed-ids cs) (low_held c.args.most (keyed_cells cs) c.args.from c.requires.from)

pub end_of-end-requires : goal.end_of-end-requires
end_of-end-requires g c =
    let r = c.args.self.now in
    let es = keyed_cells (cells_in r) in
    let x = c.in_ok-last.last in
    let low = last_is_low c.args.most (between c.args.from c.args.to es) x (sym c.in_ok-last.ensures) in
    let h = halves es c.args.most c.args.from c.args.to x (cells-apart r c.sound.ensures) c.requires.from c.requires.to low in
    subst (λ xs. HoldsOrigin xs (Some x)) (keyed-ids (cells_in r)) (low_held c.args.most es (Some x) h.low)

pub passing_by_halves-requires-clause-part : goal.passing_by_halves-requires-clause-part
passing_by_halves-requires-clause-part g c =
    let r = c.args.self.now in
    let es = keyed_cells (cells_in r) in
    let x = c.in_ok-last.last in
    let low = last_is_low c.args.most (between c.args.from c.args.to es) x (sym c.in_ok-last.ensures) in
    let h = halves es c.args.most c.args.from c.args.to x (cells-apart r c.sound.ensures) c.requires.from c.requires.to low in
    record { from = c.requires.from; to = h.low_after; begin = c.begin_of-begin.ensures; end = c.end_of-end.ensures }

pub returns : goal.returns
returns g c = λ test t f.
    let r = c.args.self.now in
    let es = keyed_cells (cells_in r) in
    let x = c.in_ok-last.last in
    let low = last_is_low c.args.most (between c.args.from c.args.to es) x (sym c.in_ok-last.ensures) in
    let h = halves es c.args.most c.args.from c.args.to x (cells-apart r c.sound.ensures) c.requires.from c.requires.to low in
    let fails = sym (t x false (subst (goal.P-post g c.args.test x) c.if-test.false c.test.ensures)) in
    let all = low_ids c.args.most (between c.args.from c.args.to es) in
    let searched = search_before test es c.args.most c.args.from c.args.to all None (search_begins test es c.args.most c.args.from c.args.to f) x h fails in
    c.passing_by_halves.ensures test t searched.falls ∙ nothing_seen test (low_ids c.args.most (between c.args.from (Some x) es)) ∙ sym searched.found
