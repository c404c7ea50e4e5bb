use Rattle.std.proofs.Common.{ap, inl, inr, refl, ◌*◌}
use Rattle.std.specs.Prelude.{Err, Ok, slice_get}
use Rattle.std.proofs.lemmas.List.{length-map}
use Rattle.catalogue_notes.specs.Arranged.{arranged}
use Rattle.draft_plan.specs.Limits.{Costs, LacksRoom, cost, revision_cost}
use Rattle.draft_plan.specs.Plain.{arranged_part}
use Rattle.draft_plan.specs.Plans.{CostsFilling, PlansMoves, shaping}
use Rattle.draft_plan.specs.Shaping.{AreSectionsOf, StandsAs}
use Rattle.draft_plan.proofs.PlanLemmas.{filling_lacks_plan, filling_within, shaping_lacks_plan, shaping_within}
use Rattle.draft_plan.proofs.TargetLemmas.{matched_within}
use Rattle.draft_plan.proofs.FillCostLemmas.{letters_shaped, revision_costs, revision_lacks, shaping_lacks}
use Rattle.draft_plan.proofs.LimitLemmas.{costs_more, costs_none, lacks_more, wants_room}
use Rattle.draft_plan.proofs.OutlineLemmas.{outline_long}
use Rattle.std.proofs.Common.{List, arith, map, subst, sym, ◌∙◌, ◌+◌, ◌≡◌, length}
use Rattle.std.proofs.lemmas.Result.{err_from_is_err_and}
use Rattle.draft_plan.specs.Drafts.{Part}
use Rattle.draft_plan.specs.Matching.{Matches}
use Rattle.draft_plan.specs.Readings.{seen_part}
use Rattle.draft_plan.specs.Revision.{IsRevision}
use Rattle.draft_plan.proofs.FewMovesLemmas.{few_still, moves_within}
use Rattle.draft_plan.proofs.KeepingLemmas.{kept_sections, keeps_same}
use Rattle.draft_plan.proofs.MakingLemmas.{makes_few, stops_behind}
use Rattle.draft_plan.specs.Needed.{InRevision}
use Rattle.draft_plan.proofs.NeededLemmas.{only_none}
use Rattle.draft_plan.proofs.NeedlessLemmas.{none_needless, touches_shaped}
use Rattle.draft_plan.proofs.RevisionLemmas.{revised_already, revised_shaped}
use Rattle.draft_plan.proofs.ShapeLemmas.{wants_memory}
use Rattle.draft_plan.proofs.revision.revise.Goals as goal

pub returns-in_err-outline-clause-stops : goal.returns-in_err-outline-clause-stops
returns-in_err-outline-clause-stops c =
    let p = err_from_is_err_and c.from_residual.result c.from_residual.ensures.1 in
    rw (p.1, p.2) (wants_memory c.args.replica.now)

pub returns-in_err-pairs-clause-stops : goal.returns-in_err-pairs-clause-stops
returns-in_err-pairs-clause-stops c =
    let p = err_from_is_err_and c.from_residual-in_err-pairs.result c.from_residual-in_err-pairs.ensures.1 in
    rw (p.1, p.2) (wants_memory c.args.replica.now)

pub returns-in_default-clause-revised : goal.returns-in_default-clause-revised
returns-in_default-clause-revised c =
    let h = c.args.replica.now.held.history in
    let same = subst (Matches h c.parts-parts.result.now) c.in_default.is c.in_ok-pairs.ensures in
    revised_already c.args.replica.now c.args.draft.now (same ∙ c.parts-parts.ensures)

pub returns-in_default-clause-keeps : goal.returns-in_default-clause-keeps
returns-in_default-clause-keeps c = keeps_same c.args.replica.now.held.history

pub returns-in_default-clause-same : goal.returns-in_default-clause-same
returns-in_default-clause-same c = λ e. (refl, refl)

pub returns-in_default-clause-costs : goal.returns-in_default-clause-costs
returns-in_default-clause-costs c = costs_none c.args.replica.now (revision_cost c.args.replica.now.held.history c.args.draft.now)

pub returns-in_default-clause-needed : goal.returns-in_default-clause-needed
returns-in_default-clause-needed c =
    let s = c.args.replica.now in
    let w = c.in_ok-outline.ensures.sound.lawful in
    none_needless s s w w (only_none (InRevision s.held.history s.held.history) s)

pub returns-clause-needed : goal.returns-clause-needed
returns-clause-needed c =
    let e = c.in_ok-filled.ensures in
    let w = c.in_ok-outline.ensures.sound.lawful in
    none_needless c.args.replica.now c.fill_shaped.new.replica w e.sound.lawful
    (touches_shaped c.args.replica.now c.shape.new.replica c.fill_shaped.new.replica c.in_ok-shaped.shaped w c.in_ok-shaped.ensures.shapes e.arranged e.touches)

pub returns-in_err-filled-clause-stops : goal.returns-in_err-filled-clause-stops
returns-in_err-filled-clause-stops c =
    let p = err_from_is_err_and c.from_residual-in_err-filled.result c.from_residual-in_err-filled.ensures.1 in
    rw (p.1, p.2)
    (stops_behind c.args.replica.now c.shape.new.replica c.fill_shaped.new.replica c.in_ok-shaped.shaped c.in_err-filled.field-0.0 c.in_ok-shaped.ensures.shapes.makes
    c.in_err-filled.ensures.stops)

pub overflow_add-result : goal.overflow_add-result
overflow_add-result c =
    let made = revised_shaped c.args.replica.now c.shape.new.replica c.fill_shaped.new.replica (map seen_part c.parts-parts.result.now) c.in_ok-shaped.shaped c.in_ok-filled.filled
    c.in_ok-outline.ensures.sound.lawful c.in_ok-shaped.ensures.shapes c.in_ok-filled.ensures.revised in
    omega (arith, makes_few c.args.replica.now c.fill_shaped.new.replica (c.in_ok-shaped.shaped + c.in_ok-filled.filled) made.makes c.in_ok-filled.ensures.sound)

pub returns-clause-revised : goal.returns-clause-revised
returns-clause-revised c =
    subst (λ (ps : List Part). IsRevision c.args.replica.now c.fill_shaped.new.replica ps (c.in_ok-shaped.shaped + c.in_ok-filled.filled)) c.parts-parts.ensures
    (revised_shaped c.args.replica.now c.shape.new.replica c.fill_shaped.new.replica (map seen_part c.parts-parts.result.now) c.in_ok-shaped.shaped c.in_ok-filled.filled
    c.in_ok-outline.ensures.sound.lawful c.in_ok-shaped.ensures.shapes c.in_ok-filled.ensures.revised)

pub returns-clause-keeps : goal.returns-clause-keeps
returns-clause-keeps c =
    let h = c.args.replica.now.held.history in
    let ps = c.parts-parts.result.now in
    let n = c.fill_shaped.new.replica.held.history in
    let matched = (subst (Matches h ps) c.in-Some.is c.in_ok-pairs.ensures).0 in
    let shaped = subst (λ m. AreSectionsOf h c.in-Some.pairs m (arranged c.shape.new.replica.held.history)) (length-map ps seen_part) c.in_ok-shaped.ensures.stand_as.sections in
    let stand = subst (AreSectionsOf h c.in-Some.pairs (length ps)) (sym c.in_ok-filled.ensures.arranged) shaped in
    kept_sections h n ps c.in-Some.pairs matched stand (sym c.in_ok-filled.ensures.revised.reads) c.in_ok-outline.ensures.sound.lawful
    (few_still h c.shape.new.replica.held.history n c.in_ok-filled.ensures.arranged c.in_ok-filled.ensures.moved c.in_ok-shaped.ensures.moves)

pub returns-clause-same : goal.returns-clause-same
returns-clause-same c = λ e.
    let other = (subst (Matches c.args.replica.now.held.history c.parts-parts.result.now) c.in-Some.is c.in_ok-pairs.ensures).1 in
    absurd (other (e ∙ sym c.parts-parts.ensures))

pub returns-in_err-outline-clause-costs : goal.returns-in_err-outline-clause-costs
returns-in_err-outline-clause-costs c =
    let p = err_from_is_err_and c.from_residual.result c.from_residual.ensures.1 in
    rw (p.1, p.2) tt

pub returns-in_err-outline-clause-spared : goal.returns-in_err-outline-clause-spared
returns-in_err-outline-clause-spared c = λ e.
    let p = err_from_is_err_and c.from_residual.result c.from_residual.ensures.1 in
    rw (p.1, p.2) tt

pub returns-in_err-pairs-clause-costs : goal.returns-in_err-pairs-clause-costs
returns-in_err-pairs-clause-costs c =
    let p = err_from_is_err_and c.from_residual-in_err-pairs.result c.from_residual-in_err-pairs.ensures.1 in
    rw (p.1, p.2) tt

pub returns-in_err-pairs-clause-spared : goal.returns-in_err-pairs-clause-spared
returns-in_err-pairs-clause-spared c = λ e.
    let p = err_from_is_err_and c.from_residual-in_err-pairs.result c.from_residual-in_err-pairs.ensures.1 in
    rw (p.1, p.2) tt

pub returns-in_err-shaped-clause-costs : goal.returns-in_err-shaped-clause-costs
returns-in_err-shaped-clause-costs c =
    let s = c.args.replica.now in
    let count = ap length c.entries-entries.ensures ∙ outline_long s.held.history c.in_ok-outline.outline c.in_ok-outline.ensures.outline in
    let parts : length c.args.draft.now ≡ length c.parts-parts.result.now = sym (ap length c.parts-parts.ensures) ∙ length-map c.parts-parts.result.now seen_part in
    let m = length c.parts-parts.result.now in
    let e = length c.entries-entries.result.now in
    let why = c.in_err-shaped.field-0.0 in
    let p = err_from_is_err_and c.from_residual-in_err-shaped.result c.from_residual-in_err-shaped.ensures.1 in
    rw (p.1, p.2)
    (elim c.in_err-shaped.ensures.costs [
      | inl wants ↦ wants_room s (revision_cost s.held.history c.args.draft.now) why wants
      | inr q ↦
          shaping_lacks s c.args.draft.now e why count
          (rw parts (lacks_more s (shaping c.in-Some.pairs q.0 e m) (cost (e + 2 * m) (2 * m) m) why
          (shaping_within c.in-Some.pairs q.0 e m (moves_within s.held.history c.in-Some.pairs m q.0 q.1)) q.2))
    ])

pub returns-in_err-shaped-clause-spared : goal.returns-in_err-shaped-clause-spared
returns-in_err-shaped-clause-spared c = λ e.
    let other = (subst (Matches c.args.replica.now.held.history c.parts-parts.result.now) c.in-Some.is c.in_ok-pairs.ensures).1 in
    absurd (other (e ∙ sym c.parts-parts.ensures))

pub returns-in_err-filled-clause-costs : goal.returns-in_err-filled-clause-costs
returns-in_err-filled-clause-costs c =
    let s = c.args.replica.now in
    let mid = c.shape.new.replica in
    let count = ap length c.entries-entries.ensures ∙ outline_long s.held.history c.in_ok-outline.outline c.in_ok-outline.ensures.outline in
    let parts : length c.args.draft.now ≡ length c.parts-parts.result.now = sym (ap length c.parts-parts.ensures) ∙ length-map c.parts-parts.result.now seen_part in
    let m = length c.parts-parts.result.now in
    let e = length c.entries-entries.result.now in
    let q = c.in_ok-shaped.ensures.costs in
    let coarse = costs_more s mid (shaping c.in-Some.pairs q.0 e m) (cost (e + 2 * m) (2 * m) m) (Ok c.in_ok-shaped.shaped)
    (shaping_within c.in-Some.pairs q.0 e m (moves_within s.held.history c.in-Some.pairs m q.0 q.1)) q.2.0 in
    let fewer = letters_shaped s mid c.in_ok-shaped.shaped c.in_ok-outline.ensures.sound.lawful c.in_ok-shaped.ensures.sound.lawful c.in_ok-shaped.ensures.shapes
    c.in_ok-shaped.ensures.costs.2.1 in
    let p = err_from_is_err_and c.from_residual-in_err-filled.result c.from_residual-in_err-filled.ensures.1 in
    rw (p.1, p.2)
    (revision_lacks s c.args.draft.now mid.held.history (length c.entries-entries.result.now) count fewer mid c.in_ok-shaped.shaped c.in_err-filled.field-0.0 (rw parts coarse)
    (filling_within mid c.fill_shaped.new.replica (arranged mid.held.history) c.args.draft.now (Err c.in_err-filled.field-0.0)
    (subst (λ (ps : List Part). CostsFilling mid c.fill_shaped.new.replica (slice_get (arranged mid.held.history)) ps (Err c.in_err-filled.field-0.0)) c.parts-parts.ensures
    c.in_err-filled.ensures.costs)))

pub returns-in_err-filled-clause-spared : goal.returns-in_err-filled-clause-spared
returns-in_err-filled-clause-spared c = λ e.
    let other = (subst (Matches c.args.replica.now.held.history c.parts-parts.result.now) c.in-Some.is c.in_ok-pairs.ensures).1 in
    absurd (other (e ∙ sym c.parts-parts.ensures))

pub returns-clause-costs : goal.returns-clause-costs
returns-clause-costs c =
    let s = c.args.replica.now in
    let mid = c.shape.new.replica in
    let last = c.fill_shaped.new.replica in
    let count = ap length c.entries-entries.ensures ∙ outline_long s.held.history c.in_ok-outline.outline c.in_ok-outline.ensures.outline in
    let parts : length c.args.draft.now ≡ length c.parts-parts.result.now = sym (ap length c.parts-parts.ensures) ∙ length-map c.parts-parts.result.now seen_part in
    let m = length c.parts-parts.result.now in
    let e = length c.entries-entries.result.now in
    let q = c.in_ok-shaped.ensures.costs in
    let coarse = costs_more s mid (shaping c.in-Some.pairs q.0 e m) (cost (e + 2 * m) (2 * m) m) (Ok c.in_ok-shaped.shaped)
    (shaping_within c.in-Some.pairs q.0 e m (moves_within s.held.history c.in-Some.pairs m q.0 q.1)) q.2.0 in
    let fewer = letters_shaped s mid c.in_ok-shaped.shaped c.in_ok-outline.ensures.sound.lawful c.in_ok-shaped.ensures.sound.lawful c.in_ok-shaped.ensures.shapes
    c.in_ok-shaped.ensures.costs.2.1 in
    revision_costs s c.args.draft.now mid.held.history (length c.entries-entries.result.now) count fewer mid last c.in_ok-shaped.shaped c.in_ok-filled.filled (rw parts coarse)
    (filling_within mid last (arranged mid.held.history) c.args.draft.now (Ok c.in_ok-filled.filled)
    (subst (λ (ps : List Part). CostsFilling mid last (slice_get (arranged mid.held.history)) ps (Ok c.in_ok-filled.filled)) c.parts-parts.ensures c.in_ok-filled.ensures.costs))

pub returns-in_err-outline-clause-planned : goal.returns-in_err-outline-clause-planned
returns-in_err-outline-clause-planned c =
    let p = err_from_is_err_and c.from_residual.result c.from_residual.ensures.1 in
    rw (p.1, p.2) (inl tt)

pub returns-in_err-pairs-clause-planned : goal.returns-in_err-pairs-clause-planned
returns-in_err-pairs-clause-planned c =
    let p = err_from_is_err_and c.from_residual-in_err-pairs.result c.from_residual-in_err-pairs.ensures.1 in
    rw (p.1, p.2) (inl tt)

pub returns-in_err-shaped-clause-planned : goal.returns-in_err-shaped-clause-planned
returns-in_err-shaped-clause-planned c =
    let s = c.args.replica.now in
    let read = c.parts-parts.result.now in
    let count = ap length c.entries-entries.ensures ∙ outline_long s.held.history c.in_ok-outline.outline c.in_ok-outline.ensures.outline in
    let parts : length c.args.draft.now ≡ length read = sym (ap length c.parts-parts.ensures) ∙ length-map read seen_part in
    let matched = (subst (Matches s.held.history read) c.in-Some.is c.in_ok-pairs.ensures).0 in
    let p = err_from_is_err_and c.from_residual-in_err-shaped.result c.from_residual-in_err-shaped.ensures.1 in
    let why = c.in_err-shaped.field-0.0 in
    rw (p.1, p.2)
    (elim c.in_err-shaped.ensures.costs [
      | inl wants ↦ inl wants
      | inr q ↦
          shaping_lacks_plan s c.shape.new.replica 0 read c.args.draft.now c.parts-parts.ensures c.in-Some.pairs matched q.0
          (subst (λ m. PlansMoves s.held.history c.in-Some.pairs m q.0) (sym parts) q.1) why
          (subst (λ m. LacksRoom s (shaping c.in-Some.pairs q.0 (length (arranged s.held.history)) m) why) (sym parts)
          (subst (λ e. LacksRoom s (shaping c.in-Some.pairs q.0 e (length read)) why) count q.2))
    ])

pub returns-in_err-filled-clause-planned : goal.returns-in_err-filled-clause-planned
returns-in_err-filled-clause-planned c =
    let s = c.args.replica.now in
    let mid = c.shape.new.replica in
    let read = c.parts-parts.result.now in
    let pairs = c.in-Some.pairs in
    let why = c.in_err-filled.field-0.0 in
    let count = ap length c.entries-entries.ensures ∙ outline_long s.held.history c.in_ok-outline.outline c.in_ok-outline.ensures.outline in
    let parts : length c.args.draft.now ≡ length read = sym (ap length c.parts-parts.ensures) ∙ length-map read seen_part in
    let matched = (subst (Matches s.held.history read) c.in-Some.is c.in_ok-pairs.ensures).0 in
    let q = c.in_ok-shaped.ensures.costs in
    let first =
    subst (λ m. Costs s mid (shaping pairs q.0 (length (arranged s.held.history)) m) (Ok c.in_ok-shaped.shaped)) (sym parts)
    (subst (λ e. Costs s mid (shaping pairs q.0 e (length read)) (Ok c.in_ok-shaped.shaped)) count q.2.0) in
    let stand = subst (StandsAs s.held.history mid.held.history pairs) c.parts-parts.ensures c.in_ok-shaped.ensures.stand_as in
    let sections : length matched.sections ≡ length (arranged s.held.history) =
    sym (length-map matched.sections seen_part) ∙ (ap length matched.sections_are ∙ length-map (arranged s.held.history) (arranged_part s.held.history)) in
    let p = err_from_is_err_and c.from_residual-in_err-filled.result c.from_residual-in_err-filled.ensures.1 in
    rw (p.1, p.2)
    (filling_lacks_plan s mid c.in_ok-shaped.shaped read c.args.draft.now c.parts-parts.ensures pairs matched q.0
    (subst (λ m. PlansMoves s.held.history pairs m q.0) (sym parts) q.1) c.in_ok-outline.ensures.sound.lawful c.in_ok-shaped.ensures.sound.lawful
    c.in_ok-shaped.ensures.shapes
    q.2.1 stand (λ j i e. let l = matched_within (length matched.sections) (length read) pairs j i matched.matching e in omega (arith, l, sections)) c.fill_shaped.new.replica why
    first
    (subst (λ (ps : List Part). CostsFilling mid c.fill_shaped.new.replica (slice_get (arranged mid.held.history)) ps (Err why)) c.parts-parts.ensures
    c.in_err-filled.ensures.costs))
