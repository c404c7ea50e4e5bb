-- Edits: which are refused, and how those that are not land.
use Rattle.origin_model.proofs.Words.{Bool, Identifier, Lawful, List, None, Op, Option, Place, Some, [], ap, arith, catalogue, false, if◌then◌else◌, length, order, refl, subst}
use Rattle.origin_model.proofs.Words.{sym, true, within, ℕ, ◌+◌, ◌≡◌, ◌≤◌}
use Rattle.std.specs.Prelude.{nat_lt}
use Rattle.std.proofs.lemmas.Bool.{ltb-false}
use Rattle.origin_model.specs.edits.Edits.{Command, Put, Cut, Add, DropSection, IsEdit, ReadyInTurn, history_with, left_for}
use Rattle.origin_model.specs.edits.Landing.{StandsAfter}
use Rattle.origin_model.specs.edits.Refusal.{added_ids, held_count, in_range, in_section, made_by, put_ids, refusal_message, refused_elements, refused_ops, section_shown}
use Rattle.origin_model.specs.edits.Refusal.{shown_count}
use Rattle.origin_model.specs.edits.Effect.{IsErased, IsInserted, IsSpliced, Lands, with_ops}
use Rattle.origin_model.specs.edits.State.{State}
use Rattle.origin_model.specs.declared.edit_fault.EditFault.{EditFault}
use Rattle.origin_model.specs.declared.edit_fault.EditFault.TheVariants.{NoSection, OutOfRange, TooMany}
use Rattle.origin_model.proofs.edits.CutLemmas.{cut_takes, drop_takes}
use Rattle.origin_model.proofs.edits.MadeLemmas.{cut_counted, drop_made, put_counted}
use Rattle.origin_model.proofs.edits.PutLemmas.{add_lands, put_lands}

-- something is not nothing
not_none : (fault : EditFault) → Some fault ≡ None → ⊥
not_none fault e = cc

-- a choice that refuses nothing
pub if_none : (b : Bool) (fault : EditFault) (cause : Option EditFault) → (if b then Some fault else cause) ≡ None → (b ≡ false) × (cause ≡ None)
if_none true fault cause e = absurd (not_none fault e)
if_none false fault cause e = (refl, e)

-- there is the section, and nothing is refused in it
pub section_there : (o : Option Identifier) (cause : Identifier → Option EditFault) → in_section o cause ≡ None → (x : Identifier) × (o ≡ Some x) × (cause x ≡ None)
section_there None cause e = absurd (not_none NoSection e)
section_there (Some x) cause e = (x, refl, e)

-- the position is within, and nothing is refused besides
pub position_within : (position count : ℕ) (cause : Option EditFault) → in_range position count cause ≡ None → (position ≤ count) × (cause ≡ None)
position_within position count cause e =
    let f = if_none (nat_lt count position) OutOfRange cause e in (ltb-false count position f.0, f.1)

-- the operations are not too many
pub ops_fit : (s : State) (n : ℕ) → refused_ops s n ≡ None → held_count s + n ≤ s.most
ops_fit s n e = ltb-false s.most (held_count s + n) (if_none (nat_lt s.most (held_count s + n)) (TooMany (held_count s)) None e).0

-- nor are those of new elements
pub elements_fit : (s : State) (n : ℕ) → refused_elements s n ≡ None → held_count s + n ≤ s.most
elements_fit s n e = ops_fit s n (if_none _ _ (refused_ops s n) e).1

-- a put that is not refused
record MayPut (s : State) (k at n : ℕ) : Type 0 where
  pub section : Identifier
  pub there : section_shown s k ≡ Some section
  pub within_shown : at ≤ shown_count s (within section)
  pub room : held_count s + n ≤ s.most

may_put : (s : State) (k at : ℕ) (new : List ℕ) → refusal_message s (Put k at new) ≡ None → MayPut s k at (length new)
may_put s k at new e =
    let x = section_there (section_shown s k) (λ x. in_range at (shown_count s (within x)) (refused_elements s (length new))) e in
    let r = position_within at (shown_count s (within x.0)) (refused_elements s (length new)) x.2 in
    record { section = x.0; there = x.1; within_shown = r.0; room = elements_fit s (length new) r.1 }

-- a cut that is not refused
may_cut : (s : State) (k at n : ℕ) → refusal_message s (Cut k at n) ≡ None → MayPut s k (at + n) n
may_cut s k at n e =
    let x = section_there (section_shown s k) (λ x. in_range (at + n) (shown_count s (within x)) (refused_ops s n)) e in
    let r = position_within (at + n) (shown_count s (within x.0)) (refused_ops s n) x.2 in
    record { section = x.0; there = x.1; within_shown = r.0; room = ops_fit s n r.1 }

-- an add that is not refused
may_add : (s : State) (at : ℕ) (title : List ℕ) → refusal_message s (Add at title) ≡ None → (at ≤ shown_count s catalogue) × (held_count s + 1 ≤ s.most)
may_add s at title e = let r = position_within at (shown_count s catalogue) (refused_elements s 1) e in (r.0, elements_fit s 1 r.1)

-- a drop that is not refused
may_drop : (s : State) (k : ℕ) → refusal_message s (DropSection k) ≡ None → (x : Identifier) × (section_shown s k ≡ Some x) × (held_count s + 1 ≤ s.most)
may_drop s k e = let x = section_there (section_shown s k) (λ x. refused_ops s 1) e in (x.0, x.1, ops_fit s 1 x.2)

-- how many operations a put makes
pub put_count : (s : State) (k at : ℕ) (new : List ℕ) → refusal_message s (Put k at new) ≡ None → length (made_by s (Put k at new)) ≡ length new
put_count s k at new e = let m = may_put s k at new e in put_counted s.number s.held.history s.held.waiting k m.section at new m.there

-- how many a cut makes
pub cut_count : (s : State) (k at n : ℕ) → refusal_message s (Cut k at n) ≡ None → length (made_by s (Cut k at n)) ≡ n
cut_count s k at n e = let m = may_cut s k at n e in cut_counted s.number s.held.history s.held.waiting k m.section at n m.there m.within_shown

-- what is shown after an edit
splices : (p : Place) (old new : State) (ops : List Op) (at n : ℕ) (ids : List Identifier) → new ≡ with_ops old ops → IsEdit p old.held.history ops at n ids
    → IsSpliced p old new at n ids
splices p old new ops at n ids is e = subst (λ s. IsSpliced p old s at n ids) (sym is) (record { here = e.here; elsewhere = e.elsewhere })

inserts : (p : Place) (old new : State) (ops : List Op) (at : ℕ) (ids : List Identifier) → new ≡ with_ops old ops
    → IsEdit p old.held.history ops at 0 ids × StandsAfter (left_for p old.held.history at) ids (order p old.held.history) (order p (history_with old.held.history ops))
    → IsInserted p old new at ids
inserts p old new ops at ids is lands =
    record {
      splices = splices p old new ops at 0 ids is lands.0;
      behind = subst (λ (s : State). StandsAfter (left_for p old.held.history at) ids (order p old.held.history) (order p s.held.history)) (sym is) lands.1;
    }

erases : (p : Place) (old new : State) (ops : List Op) (at n : ℕ) → new ≡ with_ops old ops
    → IsEdit p old.held.history ops at n [] × ((q : Place) → order q (history_with old.held.history ops) ≡ order q old.held.history) → IsErased p old new at n
erases p old new ops at n is takes =
    record {
      splices = splices p old new ops at n [] is takes.0;
      orders = subst (λ (s : State). (q : Place) → order q s.held.history ≡ order q old.held.history) (sym is) takes.1;
    }

-- an edit that is not refused lands where it was asked
pub edit_lands : (command : Command) (old new : State) → Lawful old.held.history → refusal_message old command ≡ None → new ≡ with_ops old (made_by old command)
    → Lands old new command
edit_lands (Put k at text) old new w e is =
    let m = may_put old k at text e in (
      m.section,
      m.there,
      inserts (within m.section) old new (made_by old (Put k at text)) at (put_ids old text) is
          (put_lands old.number old.held.history old.held.waiting k at text m.section w m.there m.within_shown),
    )
edit_lands (Cut k at n) old new w e is =
    let m = may_cut old k at n e in (
      m.section,
      m.there,
      erases (within m.section) old new (made_by old (Cut k at n)) at n is
          (cut_takes old.number old.held.history old.held.waiting k at n m.section w m.there),
    )
edit_lands (Add at title) old new w e is =
    inserts catalogue old new (made_by old (Add at title)) at (added_ids old) is
    (add_lands old.number old.held.history old.held.waiting at title w (may_add old at title e).0)
edit_lands (DropSection k) old new w e is =
    let x = may_drop old k e in
    erases catalogue old new (made_by old (DropSection k)) k 1 is (drop_takes old.number old.held.history old.held.waiting k x.0 w x.1)

-- its operations are Ready in turn
pub made_ready : (command : Command) (s : State) → Lawful s.held.history → refusal_message s command ≡ None → ReadyInTurn s.held.history (made_by s command)
made_ready (Put k at text) s w e =
    let m = may_put s k at text e in
    (put_lands s.number s.held.history s.held.waiting k at text m.section w m.there m.within_shown).0.ready
made_ready (Cut k at n) s w e =
    let m = may_cut s k at n e in
    (cut_takes s.number s.held.history s.held.waiting k at n m.section w m.there).0.ready
made_ready (Add at title) s w e = (add_lands s.number s.held.history s.held.waiting at title w (may_add s at title e).0).0.ready
made_ready (DropSection k) s w e =
    let x = may_drop s k e in
    (drop_takes s.number s.held.history s.held.waiting k x.0 w x.1).0.ready

-- they are not too many
pub made_fits : (command : Command) (s : State) → refusal_message s command ≡ None → held_count s + length (made_by s command) ≤ s.most
made_fits (Put k at text) s e = omega (arith, (may_put s k at text e).room, put_count s k at text e)
made_fits (Cut k at n) s e = omega (arith, (may_cut s k at n e).room, cut_count s k at n e)
made_fits (Add at title) s e = (may_add s at title e).1
made_fits (DropSection k) s e =
    let x = may_drop s k e in
    omega (arith, x.2, ap length (drop_made s.number s.held.history s.held.waiting k x.0 x.1))
