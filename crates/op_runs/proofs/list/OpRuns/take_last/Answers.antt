use Rattle.std.proofs.Common.{◌≡◌, ◌∙◌, ◌-◌, ◌<◌, ◌++◌, ◌∷◌, [], List, Some, ap, arith, get_or, length, subst, sym, take}
use Rattle.std.specs.Prelude.{IfSome, None, Option, is_some, slice_get}
use Rattle.fugue_ids.specs.declared.op.Op.{Op}
use Rattle.op_runs.specs.Growing.{IsLastPart}
use Rattle.op_runs.specs.Parts.{IsOther, ops_of, others_in}
use Rattle.op_runs.specs.declared.part.Part.{Part}
use Rattle.op_runs.specs.declared.part.Part.TheVariants.{Other}
use Rattle.op_runs.proofs.FindLemmas.{last_other}
use Rattle.op_runs.proofs.PartLemmas.{last_short, sound_of}
use Rattle.op_runs.proofs.PopLemmas.{IsTakenOff, is_other, other_gone}
use Rattle.op_runs.proofs.list.OpRuns.take_last.Goals as goal

gone : (c : goal.After-pop-3) → IsTakenOff c.self.inside.letters.items c.pop-3.new.self.items c.pop.new.self.items c.pop-2.new.self.items c.self.inside.count
    (ops_of c.self.inside.letters.items c.self.inside.others.items c.self.inside.parts.items) c.pop-3.result
gone c =
    let i = c.self.inside in
    let some : 0 < others_in c.in-Some.last = omega (arith, c.others_in.ensures, c.if-others_in-eq0.false) in
    let other = is_other c.in-Some.last some in
    let last : IsLastPart i.parts.items c.in-Some.last = subst (λ (ps : List Part). IsLastPart ps c.in-Some.last) c.deref.ensures.value c.in-Some.ensures.some in
    let is : IsLastPart i.parts.items (Other other.0) = subst (λ (p : Part). IsLastPart i.parts.items p) other.1 last in
    let parts : c.pop.new.self.items ≡ take (length i.parts.items - 1) i.parts.items = c.pop.ensures.rest ∙ ap (λ n. take (n - 1) i.parts.items) i.parts.ok.0 in
    let firsts : c.pop-2.new.self.items ≡ take (length i.firsts.items - 1) i.firsts.items = c.pop-2.ensures.rest ∙ ap (λ n. take (n - 1) i.firsts.items) i.firsts.ok.0 in
    let others : c.pop-3.new.self.items ≡ take (length i.others.items - 1) i.others.items = c.pop-3.ensures.rest ∙ ap (λ n. take (n - 1) i.others.items) i.others.ok.0 in
    other_gone i.letters.items i.others.items c.pop-3.new.self.items i.parts.items c.pop.new.self.items i.firsts.items c.pop-2.new.self.items i.count other.0 c.pop-3.result
    c.self.invariant is parts firsts others
    (λ d some. c.pop-3.ensures.value d (subst (λ n. 0 < n) (sym i.others.ok.0) some) ∙ ap (λ n. Some (get_or i.others.items (n - 1) d)) i.others.ok.0)

pub overflow_sub-self : goal.overflow_sub-self
overflow_sub-self c =
    let i = c.self.inside in
    let some : 0 < others_in c.in-Some.last = omega (arith, c.others_in.ensures, c.if-others_in-eq0.false) in
    let other = is_other c.in-Some.last some in
    let last : IsLastPart i.parts.items c.in-Some.last = subst (λ (ps : List Part). IsLastPart ps c.in-Some.last) c.deref.ensures.value c.in-Some.ensures.some in
    let is : IsLastPart i.parts.items (Other other.0) = subst (λ (p : Part). IsLastPart i.parts.items p) other.1 last in
    last_short i.letters.items i.others.items i.parts.items i.firsts.items i.count (Other other.0) c.self.invariant is

pub invariant_of-self : goal.invariant_of-self
invariant_of-self c = (gone c).are

pub returns-clause-some : goal.returns-clause-some
returns-clause-some c =
    subst (λ (r : Option Op). IfSome r (λ op. c.args.self.now ≡ ops_of c.self.inside.letters.items c.pop-3.new.self.items c.pop.new.self.items ++ op ∷ [])) (sym (gone c).is)
    (sym c.self.view_is ∙ (gone c).ops)

pub returns-clause-kind : goal.returns-clause-kind
returns-clause-kind c = subst (λ (r : Option Op). IfSome r IsOther) (sym (gone c).is) (gone c).kind

pub returns-clause-other : goal.returns-clause-other
returns-clause-other c op e other = ap is_some (gone c).is

pub returns-then-others_in-eq0-clause-other : goal.returns-then-others_in-eq0-clause-other
returns-then-others_in-eq0-clause-other c op e other =
    let i = c.self.inside in
    let last : IsLastPart i.parts.items c.in-Some.last = subst (λ (ps : List Part). IsLastPart ps c.in-Some.last) c.deref.ensures.value c.in-Some.ensures.some in
    let at = last_other i.letters.items i.others.items i.parts.items c.in-Some.last op last
    (sound_of i.letters.items i.others.items i.parts.items i.firsts.items i.count c.self.invariant)
    (e ∙ (λ j. slice_get (sym c.self.view_is j) (length (sym c.self.view_is j) - 1))) other in
    absurd (omega (arith, c.others_in.ensures, c.if-others_in-eq0.true, ap others_in at.1))

pub returns-in_default-clause-other : goal.returns-in_default-clause-other
returns-in_default-clause-other c op e other =
    let i = c.self.inside in
    let none : ops_of i.letters.items i.others.items i.parts.items ≡ [] = ap (ops_of i.letters.items i.others.items) (sym c.deref.ensures.value ∙ c.in_default.ensures.none) in
    let is : Some op ≡ None = e ∙ (λ j. slice_get ((sym c.self.view_is ∙ none) j) (length ((sym c.self.view_is ∙ none) j) - 1)) in
    absurd (some_none op is)
  where
    some_none : (op : Op) → Some op ≡ None → ⊥
    some_none op d = cc
