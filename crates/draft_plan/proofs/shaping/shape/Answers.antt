use Rattle.std.proofs.Common.{List, ap, arith, inl, inr, length, refl, subst, sym, ℕ, ◌+◌, ◌∙◌}
use Rattle.draft_plan.specs.Limits.{cost}
use Rattle.draft_plan.specs.Plans.{MovesNoMore, PlansMoves, added_count, dropped_count, shaping}
use Rattle.draft_plan.proofs.EditCostLemmas.{shaping_join, shaping_stop}
use Rattle.draft_plan.proofs.LimitLemmas.{lacks_more, up}
use Rattle.std.specs.Prelude.{slice_get, ◌↔◌}
use Rattle.std.specs.List.{Contains}
use Rattle.std.specs.Str.{encode_utf8_all}
use Rattle.std.proofs.lemmas.List.{length-map}
use Rattle.std.proofs.lemmas.Result.{err_from_is_err_and}
use Rattle.fugue_ids.specs.Identifiers.{Identifier}
use Rattle.origin_model.specs.declared.operations.Place.TheVariants.{Catalogue as catalogue}
use Rattle.origin_model.specs.order.Printed.{shown}
use Rattle.draft_plan.specs.Arranging.{ArrangesFew}
use Rattle.origin_model.proofs.edits.SplitLemmas.{get_in}
use Rattle.draft_plan.specs.Readings.{seen_part}
use Rattle.draft_plan.specs.Resizing.{AreDistinct}
use Rattle.draft_plan.proofs.FewMovesLemmas.{moves_few, plans_moves}
use Rattle.draft_plan.proofs.OutlineLemmas.{outline_long}
use Rattle.draft_plan.proofs.RevisionLemmas.{shown_holds}
use Rattle.draft_plan.proofs.TargetLemmas.{matched_within}
use Rattle.draft_plan.proofs.ShapeLemmas.{reshaped_shaped, stops_reshaped}
use Rattle.draft_plan.proofs.shaping.shape.Goals as goal

pub returns-in_err-resized-clause-shapes : goal.returns-in_err-resized-clause-shapes
returns-in_err-resized-clause-shapes c =
    let p = err_from_is_err_and c.from_residual.result c.from_residual.ensures.1 in
    rw (p.1, p.2) c.in_err-resized.ensures.shapes

pub arrange-requires-clause-shown : goal.arrange-requires-clause-shown
arrange-requires-clause-shown c = λ s.
    subst (λ (l : List Identifier). Contains (shown catalogue c.resize.new.replica.held.history) s ↔ Contains l s) (sym c.as_slice.ensures.value)
    (c.in_ok-resized.ensures.targets.shown_are s)

pub arrange-requires-clause-once : goal.arrange-requires-clause-once
arrange-requires-clause-once c = subst AreDistinct (sym c.as_slice.ensures.value) c.in_ok-resized.ensures.targets.once

pub returns-in_err-moved-clause-shapes : goal.returns-in_err-moved-clause-shapes
returns-in_err-moved-clause-shapes c =
    let p = err_from_is_err_and c.from_residual-in_err-moved.result c.from_residual-in_err-moved.ensures.1 in
    rw (p.1, p.2)
    (stops_reshaped c.args.replica.now c.resize.new.replica c.arrange.new.replica c.in_ok-resized.resized c.in_err-moved.field-0.0 c.in_ok-resized.ensures.shapes
    c.in_err-moved.ensures.shapes)

pub returns-clause-shapes : goal.returns-clause-shapes
returns-clause-shapes c =
    reshaped_shaped c.args.replica.now c.resize.new.replica c.arrange.new.replica c.in_ok-resized.resized c.in_ok-moved.moved c.in_ok-resized.ensures.shapes
    c.in_ok-moved.ensures.shapes

pub returns-clause-stand_as : goal.returns-clause-stand_as
returns-clause-stand_as c =
    let t = c.in_ok-resized.ensures.targets in
    let is = c.in_ok-moved.ensures.arranged ∙ c.as_slice.ensures.value in
    let mid = c.resize.new.replica.held.history in
    let ts = c.resize.new.sections.items in
    record {
      sections = record {
        long = ap length is ∙ t.long;
        kept = λ j i s e f. ap (λ l. slice_get l j) is ∙ t.kept j i s e f;
        fresh = λ j s e f. t.fresh j s e (ap (λ l. slice_get l j) (sym is) ∙ f);
      };
      titled = λ j s p e f g.
          let at = ap (λ l. slice_get l j) (sym is) ∙ f in
          let held = shown_holds mid s c.in_ok-resized.ensures.sound.lawful ((t.shown_are s).1 (get_in ts j s at)) in
          ap encode_utf8_all (c.in_ok-moved.ensures.shapes.keeps.same s held).headed ∙ t.titled j s p e at g;
    }

pub returns-in_err-resized-clause-costs : goal.returns-in_err-resized-clause-costs
returns-in_err-resized-clause-costs c =
    let p = err_from_is_err_and c.from_residual.result c.from_residual.ensures.1 in
    let n = dropped_count c.args.pairs.now (length c.args.entries.now) in
    let m = added_count c.args.pairs.now (length c.args.parts.now) in
    let e = length c.args.entries.now in
    let k = length c.args.parts.now in
    rw (p.1, p.2)
    (inr (
      0,
      inl refl,
      lacks_more c.args.replica.now (cost (n + m) m 0) (shaping c.args.pairs.now 0 e k) c.in_err-resized.field-0.0
          (up (omega arith) (omega arith) (omega arith)) c.in_err-resized.ensures.costs,
    ))

pub returns-in_err-moved-clause-costs : goal.returns-in_err-moved-clause-costs
returns-in_err-moved-clause-costs c =
    let p = err_from_is_err_and c.from_residual-in_err-moved.result c.from_residual-in_err-moved.ensures.1 in
    let n = dropped_count c.args.pairs.now (length c.args.entries.now) in
    let m = added_count c.args.pairs.now (length c.args.parts.now) in
    let e = length c.args.entries.now in
    let k = length c.args.parts.now in
    let t = c.in_ok-resized.ensures.targets in
    let h = c.args.replica.now.held.history in
    let mid = c.resize.new.replica.held.history in
    let ts = c.resize.new.sections.items in
    let plans : (moved : ℕ) → MovesNoMore mid c.args.pairs.now c.as_slice.result.now moved → PlansMoves h c.args.pairs.now k moved = λ moved few.
    inr (
      ts,
      record { long = t.long ∙ length-map c.args.parts.now seen_part; kept = t.kept; fresh = t.fresh },
      plans_moves h mid c.args.pairs.now ts moved c.requires.sound.lawful c.in_ok-resized.ensures.sound.lawful c.in_ok-resized.ensures.places t.shown_are
          (subst (λ l. MovesNoMore mid c.args.pairs.now l moved) c.as_slice.ensures.value few),
    ) in
    let why = c.in_err-moved.field-0.0 in
    rw (p.1, p.2)
    (elim c.in_err-moved.ensures.costs [
      | inl wants ↦ inl wants
      | inr q ↦
          inr (
            q.0,
            plans q.0 q.1,
            shaping_stop c.args.replica.now c.resize.new.replica (cost (n + m) m 0) (cost q.0 q.0 q.0) (shaping c.args.pairs.now q.0 e k) c.in_ok-resized.resized why
                (up (omega arith) (omega arith) (omega arith)) c.in_ok-resized.ensures.costs q.2,
          )
    ])

pub returns-clause-costs : goal.returns-clause-costs
returns-clause-costs c =
    let n = dropped_count c.args.pairs.now (length c.args.entries.now) in
    let m = added_count c.args.pairs.now (length c.args.parts.now) in
    let e = length c.args.entries.now in
    let k = length c.args.parts.now in
    let t = c.in_ok-resized.ensures.targets in
    let h = c.args.replica.now.held.history in
    let mid = c.resize.new.replica.held.history in
    let ts = c.resize.new.sections.items in
    let plans : (moved : ℕ) → MovesNoMore mid c.args.pairs.now c.as_slice.result.now moved → PlansMoves h c.args.pairs.now k moved = λ moved few.
    inr (
      ts,
      record { long = t.long ∙ length-map c.args.parts.now seen_part; kept = t.kept; fresh = t.fresh },
      plans_moves h mid c.args.pairs.now ts moved c.requires.sound.lawful c.in_ok-resized.ensures.sound.lawful c.in_ok-resized.ensures.places t.shown_are
          (subst (λ l. MovesNoMore mid c.args.pairs.now l moved) c.as_slice.ensures.value few),
    ) in
    let q = c.in_ok-moved.ensures.costs in (
      q.0,
      plans q.0 q.1,
      shaping_join c.args.replica.now c.resize.new.replica c.arrange.new.replica (cost (n + m) m 0) (cost q.0 q.0 q.0)
          (shaping c.args.pairs.now q.0 e k) c.in_ok-resized.resized c.in_ok-moved.moved
          (up (omega arith) (omega arith) (omega arith)) c.in_ok-resized.ensures.costs q.2,
    )

pub returns-clause-moves : goal.returns-clause-moves
returns-clause-moves c =
    let h = c.args.replica.now.held.history in
    let mid = c.resize.new.replica.held.history in
    let new = c.arrange.new.replica.held.history in
    let ts = c.resize.new.sections.items in
    let t = c.in_ok-resized.ensures.targets in
    let few = subst (ArrangesFew mid new c.args.pairs.now) c.as_slice.ensures.value c.in_ok-moved.ensures.few in
    let long = outline_long h c.args.entries.now c.requires.outline in
    moves_few h mid new c.args.pairs.now ts c.requires.sound.lawful c.in_ok-resized.ensures.sound.lawful c.in_ok-resized.ensures.places few
    (c.in_ok-moved.ensures.arranged ∙ c.as_slice.ensures.value)
    t.shown_are t.kept t.fresh (λ j i e. let l = matched_within (length c.args.entries.now) (length c.args.parts.now) c.args.pairs.now j i c.requires.matching e in
    omega (arith, l, long))
