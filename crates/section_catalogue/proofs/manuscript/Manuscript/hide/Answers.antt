use Rattle.std.proofs.Common.{subst, sym, ◌∙◌}
use Rattle.std.proofs.lemmas.Result.{on_err_weaker, on_ok_weaker}
use Rattle.section_catalogue.specs.Changes.{HidesAt, IsUnchanged}
use Rattle.section_catalogue.specs.Contents.{contents_of}
use Rattle.section_catalogue.specs.Manuscript.{HasHistory, Hides, RepresentsSame, once_hidden}
use Rattle.section_catalogue.proofs.ConditionLemmas.{held_at}
use Rattle.section_catalogue.proofs.HidingLemmas.{stands_hidden}
use Rattle.section_catalogue.proofs.UnchangedLemmas.{either, stays, still}
use Rattle.section_catalogue.proofs.manuscript.Manuscript.hide.Goals as goal

pub hide_at-requires : goal.hide_at-requires
hide_at-requires c = held_at (contents_of c.self.inside.tables) c.self.invariant.history c.in-Some.place c.args.id c.self.invariant.represents
    (sym c.home_of.ensures ∙ c.in-Some.is)

pub invariant_of-self : goal.invariant_of-self
invariant_of-self c =
    let old = contents_of c.self.inside.tables in
    let new = contents_of c.hide_at.new.tables in
    let h = c.self.invariant.history in
    either c.hide_at.result (HidesAt old new c.in-Some.place c.args.id) (IsUnchanged old new) (HasHistory new) c.hide_at.ensures.ok c.hide_at.ensures.err
    (λ k. record {
      history = once_hidden c.args.id h;
      represents = stands_hidden old new c.in-Some.place c.args.id (sym c.home_of.ensures ∙ c.in-Some.is) k h c.self.invariant.represents;
    })
    (λ u. record { history = h; represents = still old new u h c.self.invariant.represents })

pub returns-in-Some-clause-has_history : goal.returns-in-Some-clause-has_history
returns-in-Some-clause-has_history c = invariant_of-self c

pub returns-in-Some-clause-ok : goal.returns-in-Some-clause-ok
returns-in-Some-clause-ok c =
    let old = contents_of c.self.inside.tables in
    let new = contents_of c.hide_at.new.tables in
    on_ok_weaker c.hide_at.result
    (λ k. subst (λ m. Hides m new c.args.id) c.self.view_is (stands_hidden old new c.in-Some.place c.args.id (sym c.home_of.ensures ∙ c.in-Some.is) k)) c.hide_at.ensures.ok

pub returns-in-Some-clause-err : goal.returns-in-Some-clause-err
returns-in-Some-clause-err c =
    let new = contents_of c.hide_at.new.tables in
    on_err_weaker c.hide_at.result (λ u. subst (λ m. RepresentsSame m new) c.self.view_is (stays (contents_of c.self.inside.tables) new u)) c.hide_at.ensures.err
