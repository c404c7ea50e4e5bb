use Rattle.std.proofs.Common.{[], arith, length, length-append, refl, subst, sym, take, ◌++◌, ◌-◌, ◌<◌, ◌∙◌, ◌∷◌, ◌≡◌}
use Rattle.std.proofs.lemmas.List.{length-take-le, take_more_set}
use Rattle.op_frame.specs.FrameFronts.{Awaits, FrontBytes, IsFrameStage, grown_by}
use Rattle.op_frame.specs.declared.grown.Grown.TheVariants.{Bad, Front}
use Rattle.op_frame.proofs.FrameFrontLemmas.{awaits_next, is_front, is_grown, is_neither, too_long, with_field}
use Rattle.op_frame.proofs.frame_front.FrameFront.push.Goals as goal

pub returns-then-self-eq-LONGEST_FRAME-clause-is : goal.returns-then-self-eq-LONGEST_FRAME-clause-is
returns-then-self-eq-LONGEST_FRAME-clause-is c =
    let f = c.self.inside in
    let full : length (take f.len f.bytes) ≡ f.len = length-take-le f.len f.bytes (omega (arith, c.self.told, c.self.invariant.1)) in
    subst (λ (v : FrontBytes). IsFrameStage Bad v.grammar (v.bytes ++ c.args.byte ∷ [])) c.self.view_is
    (too_long f.grammar (take f.len f.bytes ++ c.args.byte ∷ []) (omega (arith, full, c.if-self-eq-LONGEST_FRAME.true, length-append (take f.len f.bytes) (c.args.byte ∷ []))))

pub invariant_of-self : goal.invariant_of-self
invariant_of-self c =
    let f = c.self.inside in
    let room : f.len < length f.bytes = omega (arith, c.self.told, c.self.invariant.1, c.if-self-eq-LONGEST_FRAME.false) in (
      omega arith,
      omega (arith, room, c.self.told),
      awaits_next f.grammar f.due c.in-Done.due (take f.field f.bytes) _ _ (f.len - f.field) _ c.self.invariant.2 c.in-Done.ensures
          (with_field f.bytes f.len f.field c.args.byte c.self.invariant.0 room ∙ sym (take_more_set f.bytes f.len c.args.byte room)) (omega arith),
    )

pub returns-in-Done-clause-is : goal.returns-in-Done-clause-is
returns-in-Done-clause-is c =
    let f = c.self.inside in
    let room : f.len < length f.bytes = omega (arith, c.self.told, c.self.invariant.1, c.if-self-eq-LONGEST_FRAME.false) in
    let a : Awaits f.grammar c.in-Done.due (take f.len f.bytes ++ c.args.byte ∷ []) 0
    = awaits_next f.grammar f.due c.in-Done.due (take f.field f.bytes) _ _ (f.len - f.field) 0 c.self.invariant.2 c.in-Done.ensures
    (with_field f.bytes f.len f.field c.args.byte c.self.invariant.0 room) refl in
    rw c.grown_by.ensures (subst (λ (v : FrontBytes). IsFrameStage (grown_by c.in-Done.due) v.grammar (v.bytes ++ c.args.byte ∷ [])) c.self.view_is
    (is_grown f.grammar c.in-Done.due _ a.rest (grown_by c.in-Done.due) refl a.sound))

pub returns-in-Front-clause-is : goal.returns-in-Front-clause-is
returns-in-Front-clause-is c =
    let f = c.self.inside in
    let room : f.len < length f.bytes = omega (arith, c.self.told, c.self.invariant.1, c.if-self-eq-LONGEST_FRAME.false) in
    subst (λ (v : FrontBytes). IsFrameStage Front v.grammar (v.bytes ++ c.args.byte ∷ [])) c.self.view_is
    (subst (IsFrameStage Front f.grammar) (with_field f.bytes f.len f.field c.args.byte c.self.invariant.0 room)
    (is_front f.grammar f.due (take f.field f.bytes) c.self.invariant.2.rest _ c.in-Front.ensures.1))

pub returns-in-Bad-clause-is : goal.returns-in-Bad-clause-is
returns-in-Bad-clause-is c =
    let f = c.self.inside in
    let room : f.len < length f.bytes = omega (arith, c.self.told, c.self.invariant.1, c.if-self-eq-LONGEST_FRAME.false) in
    subst (λ (v : FrontBytes). IsFrameStage Bad v.grammar (v.bytes ++ c.args.byte ∷ [])) c.self.view_is
    (subst (IsFrameStage Bad f.grammar) (with_field f.bytes f.len f.field c.args.byte c.self.invariant.0 room)
    (is_neither f.grammar f.due (take f.field f.bytes) c.self.invariant.2.rest _ c.in-Bad.ensures))
