use Rattle.std.proofs.Common.{List, ap, arith, get_or, length, refl, reverse, subst, sym, ℕ, ◌+◌, ◌<◌, ◌∙◌, ◌∷◌, ◌≡◌}
use Rattle.std.proofs.lemmas.List.{reverse-reverse}
use Rattle.fugue_ids.specs.Identifiers.{Identifier}
use Rattle.fugue_ids.specs.declared.op.Op.{Op}
use Rattle.origin_model.specs.operations.Verdict.{Lawful}
use Rattle.replica_core.proofs.WalkLemmas.{StandsAt, Walks, passed_all, passed_step, read_there, walk_begins, walk_comes, walk_ends, walk_goes_on}
use Rattle.catalogue_notes.specs.Lift.{is_section}
use Rattle.catalogue_notes.specs.Lifting.{IsLifting, lift_by}
use Rattle.catalogue_notes.specs.declared.lifting.Lifted.{Lifted}
use Rattle.catalogue_notes.proofs.LiftingLemmas.{Passed, lifting_all, lifting_between, lifting_more, lifting_none, lifting_same, new_at}
use Rattle.catalogue_notes.proofs.lifting.Lifted.of.Goals as goal
use Rattle.catalogue_notes.proofs.lifting.Lifted.of.Goals.{in-Some+in_ok-take, in_default}

-- what was lifted before a place of the list
abbrev P : List Op → Lifted → ℕ → Type 0
P ops lifted i = IsLifting (Passed ops i) lifted.list lifted.moves.items

-- the list is that of the history
record IsOf (h ops : List Op) : Type 0 where
  pub is : reverse ops ≡ h
  pub lawful : Lawful (reverse ops)
  pub tells : (s : Identifier) → is_section h s ≡ is_section (reverse ops) s

list_of : (h ops : List Op) → ops ≡ reverse h → Lawful h → IsOf h ops
list_of h ops e w =
    let is : reverse ops ≡ h = ap reverse e ∙ reverse-reverse h in
    record { is = is; lawful = subst Lawful (sym is) w; tells = λ s. ap (λ z. is_section z s) (sym is) }

next_at : (h ops : List Op) (positions : List ℕ) (lifted : Lifted) (k : ℕ) → IsOf h ops → k < length positions → Walks (P ops lifted) ops positions k
    → StandsAt (P ops lifted) ops positions k (get_or positions k 0)
next_at h ops positions lifted k o = walk_comes (P ops lifted) ops (lifting_between ops (is_section h) lifted.list lifted.moves.items o.lawful o.tells) positions k

pub walk-init : goal.walk-init
walk-init c =
    walk_begins (P (reverse c.args.replica.now.held.history) (record { list = c.new.result; moves = c.new-2.result })) c.args.replica.now.held.history
    (reverse c.args.replica.now.held.history) c.sections_and_notes-at-items.result.now refl c.sections_and_notes-at-items.ensures.positions
    (lifting_none c.new.result c.new-2.result.items c.new.ensures.nothing c.new.ensures.in_order c.new-2.ensures.items)

pub take-requires-clause-new : goal.take-requires-clause-new
take-requires-clause-new c =
    let h : List Op = c.args.replica.now.held.history in
    let ops : List Op = reverse h in
    let o = list_of h ops refl c.sections_and_notes-at-items.ensures.sound.lawful in
    let at = next_at h ops c.sections_and_notes-at-items.result.now c.walk.lifted c.walk.at-index o c.walk-test.true c.walk.invariant in
    new_at ops (get_or c.sections_and_notes-at-items.result.now c.walk.at-index 0) at.op (is_section h) c.walk.lifted.list c.walk.lifted.moves.items c.in-Some.lift o.lawful o.tells
    at.below at.is at.holds
    (read_there (lift_by (is_section h) c.walk.lifted.list.nodes) ops
    (get_or c.sections_and_notes-at-items.result.now c.walk.at-index 0) at.op c.lift_at.result at.there c.lift_at.ensures ∙ c.in-Some.is)

pub walk-preserved : goal.walk-preserved
walk-preserved c =
    let h : List Op = c.args.replica.now.held.history in
    let ops : List Op = reverse h in
    let positions : List ℕ = c.sections_and_notes-at-items.result.now in
    let old : Lifted = c.walk.lifted in
    let k : ℕ = c.walk.at-index in
    let p : ℕ = get_or positions k 0 in
    let o = list_of h ops refl c.sections_and_notes-at-items.ensures.sound.lawful in
    let at = next_at h ops positions old k o c.walk-test.true c.walk.invariant in
    let goes = λ (new : Lifted). λ (holds : IsLifting (at.op ∷ Passed ops p) new.list new.moves.items).
    walk_goes_on (P ops old) (P ops new) ops positions k p at (passed_step (λ z. IsLifting z new.list new.moves.items) ops p at.op at.below at.is holds) in
    let read = read_there (lift_by (is_section h) old.list.nodes) ops p at.op c.lift_at.result at.there c.lift_at.ensures in
    elim c.match-lift_at.branch [
      | in-Some+in_ok-take v ↦
          subst (λ (z : Lifted). Walks (P ops z) ops positions (k + 1)) (sym v.lifted-is)
          (goes v.take.new.self
          (lifting_more ops p at.op (is_section h) old.list v.take.new.self.list old.moves.items v.take.new.self.moves.items v.in-Some.lift o.lawful o.tells
          at.below at.is at.holds (read ∙ v.in-Some.is) v.in_ok-take.ensures.list v.in_ok-take.ensures.in_order v.in_ok-take.ensures.moves))
      | in_default v ↦
          subst (λ (z : Lifted). Walks (P ops z) ops positions (k + 1)) (sym v.lifted-is)
          (goes old (lifting_same ops p at.op (is_section h) old.list old.moves.items o.lawful o.tells at.below at.is at.holds (read ∙ v.in_default.is)))
    ]

pub returns-clause-lifted : goal.returns-clause-lifted
returns-clause-lifted c =
    let h : List Op = c.args.replica.now.held.history in
    let ops : List Op = reverse h in
    let lifted : Lifted = c.walk.lifted in
    let o = list_of h ops refl c.sections_and_notes-at-items.ensures.sound.lawful in
    lifting_all h lifted.list lifted.moves.items c.sections_and_notes-at-items.ensures.sound.lawful
    (subst (λ z. IsLifting z lifted.list lifted.moves.items) (passed_all ops (length ops) (omega arith) ∙ o.is)
    (walk_ends (P ops lifted) ops (lifting_between ops (is_section h) lifted.list lifted.moves.items o.lawful o.tells)
    c.sections_and_notes-at-items.result.now c.walk.at-index (omega (arith, c.walk-test.false)) c.walk.invariant))
