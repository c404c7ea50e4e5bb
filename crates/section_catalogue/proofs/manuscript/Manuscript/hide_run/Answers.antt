use Rattle.std.proofs.Common.{arith, subst, sym, ℕ, ◌≡◌}
use Rattle.std.specs.Prelude.{Some}
use Rattle.std.proofs.lemmas.Result.{on_ok_weaker}
use Rattle.fugue_ids.specs.Identifiers.{Identifier}
use Rattle.origin_model.specs.declared.operations.Place.TheVariants.{Section as within}
use Rattle.section_catalogue.specs.Changes.{AnswersUpTo, HidesRun}
use Rattle.section_catalogue.specs.Contents.{Contents, contents_of, place_at}
use Rattle.section_catalogue.specs.Manuscript.{HasHistory, HidesAll, each_hidden}
use Rattle.section_catalogue.proofs.HidingRunLemmas.{fewer_placed, however, if_err, run_held, run_hidden}
use Rattle.section_catalogue.proofs.manuscript.Manuscript.hide_run.Goals as goal

placed_here : (old now : Contents) (s x : Identifier) (k : ℕ) → old ≡ now → AnswersUpTo (place_at now) x k (Some (within s)) → AnswersUpTo (place_at old) x k (Some (within s))
placed_here old now s x k v p = subst (λ (m : Contents). AnswersUpTo (place_at m) x k (Some (within s))) (sym v) p

pub hide_run-requires : goal.hide_run-requires
hide_run-requires c =
    let m = contents_of c.self.inside.tables in
    let s = c.args.section.now in
    let placed = placed_here m c.args.self.now s c.args.first c.args.count c.self.view_is c.requires.placed in
    let r = run_held m c.self.invariant.history s c.args.first c.args.count c.self.invariant.represents c.requires.some placed in
    record { counters = c.requires.counters; there = r.there; held = r.held }

pub invariant_of-self : goal.invariant_of-self
invariant_of-self c =
    let m = contents_of c.self.inside.tables in
    let new = contents_of c.hide_run.new.tables in
    let s = c.args.section.now in
    let x = c.args.first in
    let placed = placed_here m c.args.self.now s x c.args.count c.self.view_is c.requires.placed in
    let h = c.self.invariant.history in
    however c.hide_run.result c.args.count (λ e. e.done) (HidesRun m new s x) (HasHistory new) c.hide_run.ensures.ok c.hide_run.ensures.err c.hide_run.ensures.fewer
    (λ k l hides. record { history = each_hidden x k h; represents = run_hidden k m new s x (fewer_placed m s x c.args.count k l placed) hides h c.self.invariant.represents })

pub returns-clause-has_history : goal.returns-clause-has_history
returns-clause-has_history c = invariant_of-self c

pub returns-clause-ok : goal.returns-clause-ok
returns-clause-ok c =
    let m = contents_of c.self.inside.tables in
    let new = contents_of c.hide_run.new.tables in
    let s = c.args.section.now in
    let x = c.args.first in
    let placed = placed_here m c.args.self.now s x c.args.count c.self.view_is c.requires.placed in
    on_ok_weaker c.hide_run.result (λ hides. subst (λ z. HidesAll z new x c.args.count) c.self.view_is (run_hidden c.args.count m new s x placed hides)) c.hide_run.ensures.ok

pub returns-clause-err : goal.returns-clause-err
returns-clause-err c =
    let m = contents_of c.self.inside.tables in
    let new = contents_of c.hide_run.new.tables in
    let s = c.args.section.now in
    let x = c.args.first in
    let placed = placed_here m c.args.self.now s x c.args.count c.self.view_is c.requires.placed in
    if_err c.hide_run.result
    (λ e hides less. subst (λ z. HidesAll z new x e.done) c.self.view_is (run_hidden e.done m new s x (fewer_placed m s x c.args.count e.done (omega (arith, less)) placed) hides))
    c.hide_run.ensures.err c.hide_run.ensures.fewer
