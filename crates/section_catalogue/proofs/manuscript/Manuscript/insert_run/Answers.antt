use Rattle.std.proofs.Common.{arith, length, subst, sym, ◌+◌, ◌≤◌}
use Rattle.std.proofs.lemmas.Result.{on_err_weaker, on_ok_weaker}
use Rattle.fugue_ids.specs.Runs.{run_from}
use Rattle.fugue_ids.specs.declared.limits.TheConstants.{MOST_OPERATIONS}
use Rattle.origin_model.specs.edits.Edits.{history_with}
use Rattle.origin_model.specs.declared.operations.Place.TheVariants.{Section as within}
use Rattle.section_catalogue.specs.Changes.{AddsTyped, IsUnchanged}
use Rattle.section_catalogue.specs.Contents.{Contents, contents_of, section_at, section_count_at}
use Rattle.section_catalogue.specs.Manuscript.{GrowsByAll, HasHistory, RepresentsSame}
use Rattle.section_catalogue.proofs.RunLemmas.{all_ready_here, room_in, run_asks, run_stands}
use Rattle.section_catalogue.proofs.UnchangedLemmas.{either, stays, still}
use Rattle.section_catalogue.proofs.manuscript.Manuscript.insert_run.Goals as goal

pub add_run-requires : goal.add_run-requires
add_run-requires c =
    let m = contents_of c.self.inside.tables in
    let start = c.args.start.now in
    let text = c.args.text.now in
    let r = all_ready_here m c.args.self.now (run_from start text) c.self.view_is c.requires.ready in
    let asks = run_asks m r.history r.represents start.id start.section start.left start.right text c.requires.some r.ready in
    let room : section_count_at m (within start.section) + length text ≤ MOST_OPERATIONS =
    subst (λ (z : Contents). section_count_at z (within start.section) + length text ≤ MOST_OPERATIONS) (sym c.self.view_is) c.requires.room in
    record {
      some = c.requires.some;
      few = omega (arith, room);
      counters = c.requires.counters;
      there = asks.there;
      new = asks.new;
      room = room_in (section_at m start.section) (length text) room;
      unplaced = asks.unplaced;
    }

pub invariant_of-self : goal.invariant_of-self
invariant_of-self c =
    let m = contents_of c.self.inside.tables in
    let start = c.args.start.now in
    let text = c.args.text.now in
    let r = all_ready_here m c.args.self.now (run_from start text) c.self.view_is c.requires.ready in
    let new = contents_of c.add_run.new.tables in
    either c.add_run.result (AddsTyped m new start.section (record { id = start.id; left = start.left; right = start.right }) text) (IsUnchanged m new)
    (HasHistory new) c.add_run.ensures.ok c.add_run.ensures.err
    (λ k. record {
      history = history_with r.history (run_from start text);
      represents = run_stands text m new r.history start.id start.section start.left start.right r.represents r.ready k;
    })
    (λ u. record { history = r.history; represents = still m new u r.history r.represents })

pub returns-clause-has_history : goal.returns-clause-has_history
returns-clause-has_history c = invariant_of-self c

pub returns-clause-ok : goal.returns-clause-ok
returns-clause-ok c =
    let m = contents_of c.self.inside.tables in
    let start = c.args.start.now in
    let text = c.args.text.now in
    let new = contents_of c.add_run.new.tables in
    on_ok_weaker c.add_run.result
    (λ k. subst (λ z. GrowsByAll z new (run_from start text)) c.self.view_is (λ h s r. run_stands text m new h start.id start.section start.left start.right s r k))
    c.add_run.ensures.ok

pub returns-clause-err : goal.returns-clause-err
returns-clause-err c =
    let new = contents_of c.add_run.new.tables in
    on_err_weaker c.add_run.result (λ u. subst (λ z. RepresentsSame z new) c.self.view_is (stays (contents_of c.self.inside.tables) new u)) c.add_run.ensures.err
