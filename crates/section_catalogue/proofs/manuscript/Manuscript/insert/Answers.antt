use Rattle.std.proofs.Common.{[], arith, refl, rules, subst, sym, ◌<◌, ◌∷◌}
use Rattle.std.proofs.lemmas.Result.{on_err_weaker, on_ok_weaker}
use Rattle.fugue_ids.specs.declared.limits.TheConstants.{MOST_OPERATIONS}
use Rattle.fugue_ids.specs.declared.op.Op.TheVariants.{Section, Text}
use Rattle.origin_model.specs.declared.operations.Place.TheVariants.{Catalogue as catalogue}
use Rattle.section_catalogue.specs.Changes.{AddsTyped, AddsSection, IsUnchanged}
use Rattle.section_catalogue.specs.Contents.{contents_of, place_count, section_at}
use Rattle.section_catalogue.specs.Manuscript.{GrowsBy, HasHistory, RepresentsSame}
use Rattle.section_catalogue.proofs.ConditionLemmas.{new_in, no_entry, no_place, ready_here}
use Rattle.section_catalogue.proofs.GrowthLemmas.{section_stands}
use Rattle.section_catalogue.proofs.RunLemmas.{room_in, run_asks, run_stands}
use Rattle.section_catalogue.proofs.UnchangedLemmas.{either, stays, still}
use Rattle.section_catalogue.proofs.manuscript.Manuscript.insert.Goals as goal

pub add_section-requires : goal.add_section-requires
add_section-requires c =
    let m = contents_of c.self.inside.tables in
    let op = Section c.in-Section.id c.in-Section.left c.in-Section.right c.in-Section.title in
    let r = ready_here m c.args.self.now c.args.op.now op c.self.view_is c.in-Section.is c.requires.ready in
    record {
      room = search rules;
      new = new_in m op c.in-Section.id refl r catalogue m.catalogue refl r.represents.sections;
      untitled = no_entry m op c.in-Section.id refl r;
      unplaced = no_place m op c.in-Section.id refl r;
    }

pub invariant_of-self : goal.invariant_of-self
invariant_of-self c =
    let m = contents_of c.self.inside.tables in
    let op = Section c.in-Section.id c.in-Section.left c.in-Section.right c.in-Section.title in
    let r = ready_here m c.args.self.now c.args.op.now op c.self.view_is c.in-Section.is c.requires.ready in
    let new = contents_of c.add_section.new.tables in
    either c.add_section.result (AddsSection m new (record { id = c.in-Section.id; left = c.in-Section.left; right = c.in-Section.right }) c.in-Section.title) (IsUnchanged m new)
    (HasHistory new) c.add_section.ensures.ok c.add_section.ensures.err
    (λ k. record {
      history = op ∷ r.history;
      represents = section_stands m new r.history c.in-Section.id c.in-Section.left c.in-Section.right c.in-Section.title r.represents r.ready k;
    })
    (λ u. record { history = r.history; represents = still m new u r.history r.represents })

pub returns-in-Section-clause-has_history : goal.returns-in-Section-clause-has_history
returns-in-Section-clause-has_history c = invariant_of-self c

pub returns-in-Section-clause-ok : goal.returns-in-Section-clause-ok
returns-in-Section-clause-ok c =
    let m = contents_of c.self.inside.tables in
    let new = contents_of c.add_section.new.tables in
    on_ok_weaker c.add_section.result
    (λ k. subst (λ z. GrowsBy z new c.args.op.now) c.self.view_is
    (subst (GrowsBy m new) (sym c.in-Section.is) (λ h s r. section_stands m new h c.in-Section.id c.in-Section.left c.in-Section.right c.in-Section.title s r k)))
    c.add_section.ensures.ok

pub returns-in-Section-clause-err : goal.returns-in-Section-clause-err
returns-in-Section-clause-err c =
    let new = contents_of c.add_section.new.tables in
    on_err_weaker c.add_section.result (λ u. subst (λ z. RepresentsSame z new) c.self.view_is (stays (contents_of c.self.inside.tables) new u)) c.add_section.ensures.err

pub add_run-requires : goal.add_run-requires
add_run-requires c =
    let m = contents_of c.self.inside.tables in
    let op = Text c.in-Text.id c.in-Text.section c.in-Text.left c.in-Text.right c.in-Text.ch in
    let r = ready_here m c.args.self.now c.args.op.now op c.self.view_is c.in-Text.is c.requires.ready in
    let asks = run_asks m r.history r.represents c.in-Text.id c.in-Text.section c.in-Text.left c.in-Text.right (c.in-Text.ch ∷ []) (omega arith) (r.ready, tt) in
    let counted : place_count m op < MOST_OPERATIONS =
    subst (λ z. place_count z op < MOST_OPERATIONS) (sym c.self.view_is) (subst (λ o. place_count c.args.self.now o < MOST_OPERATIONS) c.in-Text.is c.requires.room) in
    record {
      some = omega arith;
      few = omega arith;
      counters = search rules;
      there = asks.there;
      new = asks.new;
      room = room_in (section_at m c.in-Text.section) 1 (omega (arith, counted));
      unplaced = asks.unplaced;
    }

pub invariant_of-self-in-Text : goal.invariant_of-self-in-Text
invariant_of-self-in-Text c =
    let m = contents_of c.self.inside.tables in
    let op = Text c.in-Text.id c.in-Text.section c.in-Text.left c.in-Text.right c.in-Text.ch in
    let r = ready_here m c.args.self.now c.args.op.now op c.self.view_is c.in-Text.is c.requires.ready in
    let new = contents_of c.add_run.new.tables in
    either c.add_run.result (AddsTyped m new c.in-Text.section (record { id = c.in-Text.id; left = c.in-Text.left; right = c.in-Text.right }) (c.in-Text.ch ∷ []))
    (IsUnchanged m new) (HasHistory new) c.add_run.ensures.ok c.add_run.ensures.err
    (λ k. record {
      history = op ∷ r.history;
      represents = run_stands (c.in-Text.ch ∷ []) m new r.history c.in-Text.id c.in-Text.section c.in-Text.left c.in-Text.right r.represents
          (r.ready, tt) k;
    })
    (λ u. record { history = r.history; represents = still m new u r.history r.represents })

pub returns-in-Text-clause-has_history : goal.returns-in-Text-clause-has_history
returns-in-Text-clause-has_history c = invariant_of-self-in-Text c

pub returns-in-Text-clause-ok : goal.returns-in-Text-clause-ok
returns-in-Text-clause-ok c =
    let m = contents_of c.self.inside.tables in
    let new = contents_of c.add_run.new.tables in
    on_ok_weaker c.add_run.result
    (λ k. subst (λ z. GrowsBy z new c.args.op.now) c.self.view_is
    (subst (GrowsBy m new) (sym c.in-Text.is) (λ h s r. run_stands (c.in-Text.ch ∷ []) m new h c.in-Text.id c.in-Text.section c.in-Text.left c.in-Text.right s (r, tt) k)))
    c.add_run.ensures.ok

pub returns-in-Text-clause-err : goal.returns-in-Text-clause-err
returns-in-Text-clause-err c =
    let new = contents_of c.add_run.new.tables in
    on_err_weaker c.add_run.result (λ u. subst (λ z. RepresentsSame z new) c.self.view_is (stays (contents_of c.self.inside.tables) new u)) c.add_run.ensures.err
