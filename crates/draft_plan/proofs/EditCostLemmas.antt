-- What each edit, move and retitle costs.
use Rattle.std.proofs.Common.{Bool, List, [], ap, arith, cond, drop, false, length, max, nat_lt, refl, subst, sym, take, true, ℕ, ◌+◌, ◌≤◌, ◌∙◌, ◌∷◌, ◌≡◌, ◌≢◌}
use Rattle.std.specs.Prelude.{All, Err, None, Ok, Option, Some, map}
use Rattle.std.specs.Option.{option_or}
use Rattle.std.proofs.lemmas.List.Elements.{All-cons, All-nil}
use Rattle.std.proofs.lemmas.Option.{same_Some}
use Rattle.fugue_ids.specs.Identifiers.{Identifier}
use Rattle.fugue_ids.specs.declared.op.Op.{Op}
use Rattle.fugue_ids.specs.declared.op.Op.TheVariants.{Delete}
use Rattle.origin_model.specs.declared.edit_fault.EditFault.{EditFault}
use Rattle.origin_model.specs.declared.edit_fault.EditFault.TheVariants as edit
use Rattle.origin_model.specs.declared.operations.Place.TheVariants.{Catalogue as catalogue, Section as within}
use Rattle.origin_model.specs.declared.operations.Verdict.TheVariants.{Ready}
use Rattle.origin_model.specs.edits.Edits.{Add, Command, Cut, DropSection, Put, history_with, left_for, right_for}
use Rattle.origin_model.specs.edits.Effect.{Gains, IsMade, Lands}
use Rattle.origin_model.specs.edits.Noting.{ShowsAsBefore}
use Rattle.origin_model.specs.edits.Refusal.{RefusesExactly, held_count, in_range, in_section, made_by, next_of_own, refusal_message, refused_elements, refused_ops, section_shown}
use Rattle.origin_model.specs.edits.Refusal.{shown_count}
use Rattle.origin_model.specs.edits.State.{IsSound, State}
use Rattle.origin_model.specs.operations.Verdict.{Lawful, verdict}
use Rattle.origin_model.specs.order.Printed.{shown}
use Rattle.origin_model.proofs.edits.AllowedLemmas.{allowed}
use Rattle.origin_model.proofs.edits.MadeLemmas.{cut_made, drop_made, put_made}
use Rattle.origin_model.proofs.edits.RefusalLemmas.{made_ready, position_within, section_there}
use Rattle.catalogue_notes.specs.Arranged.{arranged}
use Rattle.catalogue_notes.specs.Claims.{Move, Retitle, move_in, retitle_in}
use Rattle.catalogue_notes.specs.Lift.{greatest, is_valid_title, moves, passing, retitles, stamp}
use Rattle.catalogue_notes.specs.Moving.{IsMoveMade, IsRetitleMade, RefusesFor, move_by, move_refusal, note_cause, retitle_by, retitle_refusal}
use Rattle.catalogue_notes.specs.declared.moving.MoveFault.{MoveFault}
use Rattle.catalogue_notes.specs.declared.moving.MoveFault.TheVariants as moving
use Rattle.catalogue_notes.proofs.ArrangedLemmas.{move_test}
use Rattle.catalogue_notes.proofs.ClaimLemmas.{claims-none}
use Rattle.draft_plan.specs.Limits.{Cost, Costs, CostsShaping, LacksRoom, TakesUpTo, cost, plus}
use Rattle.draft_plan.specs.declared.fault.ReviseFault.{ReviseFault}
use Rattle.draft_plan.specs.declared.fault.ReviseFault.TheVariants as fault
use Rattle.draft_plan.proofs.ArrangementLemmas.{cut_keeps, put_keeps}
use Rattle.draft_plan.proofs.LimitLemmas.{IsUpTo, MakesBelow, costs_join, costs_more, costs_none, costs_stop, deletes_below, in_place, joined_take, lacks_elements, lacks_note}
use Rattle.draft_plan.proofs.LimitLemmas.{lacks_ops, note_cost, one_below, typed_below}

-- how many operations an edit asks for, and how many counters
abbrev pub asked : Command → ℕ
asked (Put k at new) = length new
asked (Cut k at n) = n
asked (Add at title) = 1
asked (DropSection k) = 1

abbrev pub minted : Command → ℕ
minted (Put k at new) = length new
minted (Cut k at n) = 0
minted (Add at title) = 1
minted (DropSection k) = 0

-- an operation that says neither a move nor a retitle leaves the stamp
quiet_stamp : (e : Op) (h : List Op) → move_in e ≡ None → retitle_in e ≡ None → stamp (e ∷ h) ≡ stamp h
quiet_stamp e h m r =
    let same_moves : moves (e ∷ h) ≡ moves h = claims-none move_in move_test e h (ap (passing (move_test h)) m) in
    let same_titles : retitles (e ∷ h) ≡ retitles h = claims-none retitle_in is_valid_title e h (ap (passing (is_valid_title h)) r) in
    λ i. max (greatest (map (λ (m : Move). m.stamp) (same_moves i))) (greatest (map (λ (r : Retitle). r.stamp) (same_titles i)))

-- what is known of an edit that is not refused
put_there : (s : State) (k at : ℕ) (new : List ℕ) → refusal_message s (Put k at new) ≡ None
    → (x : Identifier) × (section_shown s k ≡ Some x) × (at ≤ length (shown (within x) s.held.history))
put_there s k at new e =
    let x = section_there (section_shown s k) (λ x. in_range at (shown_count s (within x)) (refused_elements s (length new))) e in
    (x.0, x.1, (position_within at (shown_count s (within x.0)) (refused_elements s (length new)) x.2).0)

cut_there : (s : State) (k at n : ℕ) → refusal_message s (Cut k at n) ≡ None → (x : Identifier) × (section_shown s k ≡ Some x)
cut_there s k at n e =
    let x = section_there (section_shown s k) (λ x. in_range (at + n) (shown_count s (within x)) (refused_ops s n)) e in (x.0, x.1)

drop_there : (s : State) (k : ℕ) → refusal_message s (DropSection k) ≡ None → (x : Identifier) × (section_shown s k ≡ Some x)
drop_there s k e = let x = section_there (section_shown s k) (λ x. refused_ops s 1) e in (x.0, x.1)

-- it makes no counter further on than that
own_below : (command : Command) (s : State) → refusal_message s command ≡ None → All (MakesBelow s.number (next_of_own s + minted command)) (made_by s command)
own_below (Put k at new) s e =
    let x = put_there s k at new e in
    let h : List Op = s.held.history in
    let c : ℕ = next_of_own s in
    subst (All (MakesBelow s.number (c + length new))) (sym (put_made s.number h s.held.waiting k x.0 at new x.1))
    (typed_below new s.number c (c + length new) x.0 (left_for (within x.0) h at) (right_for (within x.0) h at) (omega arith))
own_below (Cut k at n) s e =
    let x = cut_there s k at n e in
    let h : List Op = s.held.history in
    subst (All (MakesBelow s.number (next_of_own s + 0))) (sym (cut_made s.number h s.held.waiting k x.0 at n x.1))
    (deletes_below (take n (drop at (shown (within x.0) h))) s.number (next_of_own s + 0))
own_below (Add at title) s e =
    let c : ℕ = next_of_own s in
    All-cons (MakesBelow s.number (c + 1)) _ [] (one_below s.number c (c + 1) (omega arith)) (All-nil (MakesBelow s.number (c + 1)))
own_below (DropSection k) s e =
    let x = drop_there s k e in
    subst (All (MakesBelow s.number (next_of_own s + 0))) (sym (drop_made s.number s.held.history s.held.waiting k x.0 x.1)) (deletes_below (x.0 ∷ []) s.number (next_of_own s + 0))

-- and leaves the stamp
edit_stamp : (command : Command) (s : State) → Lawful s.held.history → refusal_message s command ≡ None
    → stamp (history_with s.held.history (made_by s command)) ≡ stamp s.held.history
edit_stamp (Put k at new) s w e = let x = put_there s k at new e in (put_keeps s.number s.held.history s.held.waiting k at new x.0 w x.1 x.2).stamps
edit_stamp (Cut k at n) s w e = let x = cut_there s k at n e in (cut_keeps s.number s.held.history s.held.waiting k at n x.0 w x.1).stamps
edit_stamp (Add at title) s w e = quiet_stamp _ s.held.history refl refl
edit_stamp (DropSection k) s w e =
    let x = drop_there s k e in
    ap (λ ops. stamp (history_with s.held.history ops)) (drop_made s.number s.held.history s.held.waiting k x.0 x.1) ∙ quiet_stamp (Delete x.0) s.held.history refl refl

-- an edit that was made
pub edit_costs : (old new : State) (command : Command) (n : ℕ) → Lawful old.held.history → RefusesExactly old command (Ok n) → IsMade old new command n
    → Costs old new (cost n (minted command) 0) (Ok n)
edit_costs old new command n w exact made =
    let free = allowed old command n exact in
    let same : stamp new.held.history ≡ stamp old.held.history = ap (λ (s : State). stamp s.held.history) made.gained.others ∙ edit_stamp command old w free in
    let t = joined_take old new (made_by old command) (minted command) 0 made.gained (made_ready command old w free) (own_below command old free) (omega (arith, same)) in
    (omega arith, subst (λ m. TakesUpTo old new (cost m (minted command) 0)) (sym made.count) t)

-- the cause of one that is refused
cause_lacks : (command : Command) (s : State) (c : Cost) (why : EditFault) → held_count s ≤ s.most → why ≢ edit.NoSection → why ≢ edit.OutOfRange → asked command ≤ c.operations
    → minted command ≤ c.counters
    → refusal_message s command ≡ Some why → LacksRoom s c (fault.Edit why)
cause_lacks (Put k at new) s c why few a b l m e =
    lacks_elements s (length new) c why few l m (in_place (section_shown s k) at (λ x. shown_count s (within x)) (refused_elements s (length new)) why a b e)
cause_lacks (Cut k at n) s c why few a b l m e =
    lacks_ops s n c why few l (in_place (section_shown s k) (at + n) (λ x. shown_count s (within x)) (refused_ops s n) why a b e)
cause_lacks (Add at title) s c why few a b l m e = by (nat_lt (shown_count s catalogue) at) e
  where
    by : (t : Bool) → cond t (Some edit.OutOfRange) (refused_elements s 1) ≡ Some why → LacksRoom s c (fault.Edit why)
    by true e = absurd (b (sym (same_Some edit.OutOfRange why e)))
    by false e = lacks_elements s 1 c why few l m e
cause_lacks (DropSection k) s c why few a b l m e = by (section_shown s k) e
  where
    by : (o : Option Identifier) → in_section o (λ x. refused_ops s 1) ≡ Some why → LacksRoom s c (fault.Edit why)
    by None e = absurd (a (sym (same_Some edit.NoSection why e)))
    by (Some x) e = lacks_ops s 1 c why few l e

pub edit_lacks : (command : Command) (s : State) (c : Cost) (why : EditFault) → IsSound s → asked command ≤ c.operations → minted command ≤ c.counters
    → RefusesExactly s command (Err why) → LacksRoom s c (fault.Edit why)
edit_lacks command s c edit.NoSection st l m exact = tt
edit_lacks command s c edit.OutOfRange st l m exact = tt
edit_lacks command s c edit.NoMemory st l m exact = tt
edit_lacks command s c (edit.IdsSpent n) st l m exact = cause_lacks command s c (edit.IdsSpent n) st.few (λ e. cc e) (λ e. cc e) l m ((exact (edit.IdsSpent n) (λ e. cc e)).0 refl)
edit_lacks command s c (edit.TooMany n) st l m exact = cause_lacks command s c (edit.TooMany n) st.few (λ e. cc e) (λ e. cc e) l m ((exact (edit.TooMany n) (λ e. cc e)).0 refl)

-- a move or a retitle that was made
note_costs : (old new : State) (e : Op) (n : ℕ) → n ≡ 1 → Gains old new (e ∷ []) → verdict old.held.history e ≡ Ready → All (MakesBelow old.number (next_of_own old + 1)) (e ∷ [])
    → stamp (e ∷ old.held.history) ≡ stamp old.held.history + 1 → Costs old new note_cost (Ok n)
note_costs old new e n one g ready own stamped =
    let next : stamp new.held.history ≡ stamp old.held.history + 1 = ap (λ (s : State). stamp s.held.history) g.others ∙ stamped in
    (omega (arith, one), joined_take old new (e ∷ []) 1 1 g (ready, tt) own (omega (arith, next)))

pub move_costs : (old new : State) (k j n : ℕ) → IsMoveMade old new k j n → ShowsAsBefore old new → CostsShaping old new note_cost (Ok n)
move_costs old new k j n made shows =
    let c : ℕ = next_of_own old in (
      note_costs old new (move_by old made.section k j) n made.count made.gained made.moved.ready
          (All-cons (MakesBelow old.number (c + 1)) (move_by old made.section k j) [] (one_below old.number c (c + 1) (omega arith)) (All-nil (MakesBelow old.number (c + 1))))
          made.moved.stamped,
      λ s. shows.lists (within s),
    )

pub retitle_costs : (old new : State) (k n : ℕ) (title : List ℕ) → IsRetitleMade old new k title n → Costs old new note_cost (Ok n)
retitle_costs old new k n title made =
    let c : ℕ = next_of_own old in
    note_costs old new (retitle_by old made.section title) n made.count made.gained made.retitled.ready
    (All-cons (MakesBelow old.number (c + 1)) (retitle_by old made.section title) [] (one_below old.number c (c + 1) (omega arith)) (All-nil (MakesBelow old.number (c + 1))))
    made.retitled.stamped

-- one that is refused, where the section and the place are not the cause
after_absence : (a b : Bool) (rest : Option MoveFault) (why : MoveFault) → why ≢ moving.NoSection → why ≢ moving.NoPlace
    → option_or (option_or (cond a None (Some moving.NoSection)) (cond b None (Some moving.NoPlace))) rest ≡ Some why → rest ≡ Some why
after_absence true true rest why n p e = e
after_absence true false rest why n p e = absurd (p (sym (same_Some moving.NoPlace why e)))
after_absence false b rest why n p e = absurd (n (sym (same_Some moving.NoSection why e)))

move_cause : (s : State) (k j : ℕ) (why : MoveFault) → IsSound s → why ≢ moving.NoSection → why ≢ moving.NoPlace → move_refusal s k j ≡ Some why
    → LacksRoom s note_cost (fault.Move why)
move_cause s k j why st n p e =
    lacks_note s why (after_absence (nat_lt k (length (arranged s.held.history))) (nat_lt j (length (arranged s.held.history))) (note_cause s) why n p e) st.few

pub move_lacks : (s : State) (k j : ℕ) (why : MoveFault) → IsSound s → RefusesFor (move_refusal s k j) (Err why) → LacksRoom s note_cost (fault.Move why)
move_lacks s k j moving.NoSection st r = tt
move_lacks s k j moving.NoPlace st r = tt
move_lacks s k j moving.NoMemory st r = tt
move_lacks s k j moving.StampsSpent st r = move_cause s k j moving.StampsSpent st (λ e. cc e) (λ e. cc e) (r.only moving.StampsSpent (λ e. cc e) refl)
move_lacks s k j (moving.IdsSpent n) st r = move_cause s k j (moving.IdsSpent n) st (λ e. cc e) (λ e. cc e) (r.only (moving.IdsSpent n) (λ e. cc e) refl)
move_lacks s k j (moving.TooMany n) st r = move_cause s k j (moving.TooMany n) st (λ e. cc e) (λ e. cc e) (r.only (moving.TooMany n) (λ e. cc e) refl)

retitle_cause : (s : State) (k : ℕ) (why : MoveFault) → IsSound s → why ≢ moving.NoSection → retitle_refusal s k ≡ Some why → LacksRoom s note_cost (fault.Move why)
retitle_cause s k why st n e = by (nat_lt k (length (arranged s.held.history))) e
  where
    by : (b : Bool) → option_or (cond b None (Some moving.NoSection)) (note_cause s) ≡ Some why → LacksRoom s note_cost (fault.Move why)
    by true e = lacks_note s why e st.few
    by false e = absurd (n (sym (same_Some moving.NoSection why e)))

pub retitle_lacks : (s : State) (k : ℕ) (why : MoveFault) → IsSound s → RefusesFor (retitle_refusal s k) (Err why) → LacksRoom s note_cost (fault.Move why)
retitle_lacks s k moving.NoSection st r = tt
retitle_lacks s k moving.NoPlace st r = tt
retitle_lacks s k moving.NoMemory st r = tt
retitle_lacks s k moving.StampsSpent st r = retitle_cause s k moving.StampsSpent st (λ e. cc e) (r.only moving.StampsSpent (λ e. cc e) refl)
retitle_lacks s k (moving.IdsSpent n) st r = retitle_cause s k (moving.IdsSpent n) st (λ e. cc e) (r.only (moving.IdsSpent n) (λ e. cc e) refl)
retitle_lacks s k (moving.TooMany n) st r = retitle_cause s k (moving.TooMany n) st (λ e. cc e) (r.only (moving.TooMany n) (λ e. cc e) refl)

-- sections that come and go leave the texts
pub drop_costs : (old new : State) (k n : ℕ) → Lawful old.held.history → RefusesExactly old (DropSection k) (Ok n) → IsMade old new (DropSection k) n
    → Lands old new (DropSection k)
    → CostsShaping old new (cost 1 0 0) (Ok n)
drop_costs old new k n w exact made lands =
    let x = drop_there old k (allowed old (DropSection k) n exact) in
    let one : n ≡ 1 = made.count ∙ ap length (drop_made old.number old.held.history old.held.waiting k x.0 x.1) in
    (subst (λ m. Costs old new (cost m 0 0) (Ok n)) one (edit_costs old new (DropSection k) n w exact made), λ s. lands.splices.elsewhere (within s) (λ d. cc d))

pub add_costs : (old new : State) (at n : ℕ) (title : List ℕ) → Lawful old.held.history → RefusesExactly old (Add at title) (Ok n) → IsMade old new (Add at title) n
    → Lands old new (Add at title)
    → CostsShaping old new (cost 1 1 0) (Ok 1)
add_costs old new at n title w exact made lands =
    let c = edit_costs old new (Add at title) n w exact made in
    ((omega arith, subst (λ m. TakesUpTo old new (cost m 1 0)) made.count c.1), λ s. lands.splices.elsewhere (within s) (λ d. cc d))

pub shaping_none : (s : State) (c : Cost) → CostsShaping s s c (Ok 0)
shaping_none s c = (costs_none s c, λ t. refl)

pub shaping_more : (old new : State) (a b : Cost) (n : ℕ) → IsUpTo a b → CostsShaping old new a (Ok n) → CostsShaping old new b (Ok n)
shaping_more old new a b n u c = (costs_more old new a b (Ok n) u c.0, c.1)

pub shaping_join : (old mid new : State) (a b c : Cost) (n m : ℕ) → IsUpTo (plus a b) c → CostsShaping old mid a (Ok n) → CostsShaping mid new b (Ok m)
    → CostsShaping old new c (Ok (n + m))
shaping_join old mid new a b c n m u first next = (costs_join old mid new a b c n m u first.0 next.0, λ s. next.1 s ∙ first.1 s)

pub shaping_stop : (old mid : State) (a b c : Cost) (n : ℕ) (why : ReviseFault) → IsUpTo (plus a b) c → CostsShaping old mid a (Ok n) → LacksRoom mid b why → LacksRoom old c why
shaping_stop old mid a b c n why u first l = costs_stop old mid a b c n why u first.0 l
