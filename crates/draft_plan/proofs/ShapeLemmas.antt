-- Sections added, dropped and moved.
use Rattle.std.proofs.Common.{Bool, List, [], ap, arith, cond, drop, false, get_or, inl, inr, length, length-append, length-drop, nat_lt, refl, subst, suc, sym, take, true, zero}
use Rattle.std.proofs.Common.{ℕ, ◌+◌, ◌++◌, ◌<◌, ◌≤◌, ◌∙◌, ◌∷◌, ◌≡◌, ◌≢◌, ◌⊎◌}
use Rattle.std.specs.Prelude.{Err, None, Ok, Option, Some, slice_get}
use Rattle.std.specs.List.{Contains}
use Rattle.std.specs.Option.{option_or}
use Rattle.std.proofs.lemmas.Bool.{false_from_ne_true, le-ltb, lt-ltb, true≢false}
use Rattle.std.proofs.lemmas.List.{length-take-le}
use Rattle.std.proofs.lemmas.List.Elements.{Contains-append_cases}
use Rattle.fugue_ids.specs.Identifiers.{Identifier}
use Rattle.fugue_ids.specs.declared.op.Op.{Op}
use Rattle.fugue_ids.specs.declared.op.Op.TheVariants.{Delete, Section}
use Rattle.fugue_ids.proofs.ListLemmas.{contains_cases, contains_none}
use Rattle.origin_model.specs.declared.edit_fault.EditFault.{EditFault}
use Rattle.origin_model.specs.declared.edit_fault.EditFault.TheVariants as edit
use Rattle.origin_model.specs.declared.operations.Place.TheVariants.{Catalogue as catalogue, Section as within}
use Rattle.origin_model.specs.declared.operations.Place.{Place}
use Rattle.origin_model.specs.edits.Edits.{Add, DropSection, IsEdit, history_with, id_at, left_for, right_for, splice}
use Rattle.origin_model.specs.edits.Effect.{Gains, IsMade, LeavesUnmade}
use Rattle.origin_model.specs.edits.Noting.{ShowsAsBefore}
use Rattle.origin_model.specs.edits.Refusal.{RefusesExactly, held_count, in_section, made_by, next_of_own, refusal_message, refused_elements, refused_ops, shown_count}
use Rattle.origin_model.specs.edits.State.{State}
use Rattle.origin_model.specs.operations.History.{holds}
use Rattle.origin_model.specs.operations.Verdict.{Lawful}
use Rattle.origin_model.specs.order.Order.{order}
use Rattle.origin_model.specs.order.Printed.{shown}
use Rattle.origin_model.proofs.edits.CutLemmas.{drop_takes}
use Rattle.origin_model.proofs.edits.MadeLemmas.{drop_made}
use Rattle.origin_model.proofs.edits.NotedLemmas.{note_without_position}
use Rattle.origin_model.proofs.edits.PutLemmas.{add_lands}
use Rattle.origin_model.proofs.edits.SplitLemmas.{get_in}
use Rattle.catalogue_notes.specs.Arranged.{arranged}
use Rattle.catalogue_notes.specs.Moving.{IsMoveMade, RefusesFor, TellsAbsence, move_by, move_refusal, place_cause, section_cause}
use Rattle.catalogue_notes.specs.declared.moving.MoveFault.{MoveFault}
use Rattle.catalogue_notes.specs.declared.moving.MoveFault.TheVariants as moving
use Rattle.catalogue_notes.proofs.HolderLemmas.{Joins, joins, not_both}
use Rattle.catalogue_notes.proofs.MovingLemmas.{fresh}
use Rattle.catalogue_notes.proofs.PartLemmas.{get_some}
use Rattle.draft_plan.specs.Changes.{Edit, Move, made_of}
use Rattle.draft_plan.specs.Needed.{InSections, InShape}
use Rattle.draft_plan.specs.Revision.{IsLimit, Makes, StopsAtLimit}
use Rattle.draft_plan.specs.Shaping.{IsReshaped, IsShaped, KeepsHeld, KeepsPlaces, SameSection}
use Rattle.draft_plan.specs.declared.fault.ReviseFault.{ReviseFault}
use Rattle.draft_plan.specs.declared.fault.ReviseFault.TheVariants as fault
use Rattle.draft_plan.proofs.ChangeLemmas.{changed_edit, changed_move, stops_edit, stops_first, stops_note}
use Rattle.draft_plan.proofs.MakingLemmas.{AnyChange, makes_join, makes_none, makes_one, stops_behind}
use Rattle.draft_plan.proofs.NeededLemmas.{in_drop, in_take, only_join, only_none, only_one, only_weaker, touches_weaker}
use Rattle.draft_plan.proofs.SectionLemmas.{IsQuiet, delete_quiet, delete_still, heading_kept, held_kept, places_kept, section_kept}
use Rattle.origin_model.proofs.SharedLemmas.{order-none}

-- a section as it was
pub same_none : (h : List Op) (s : Identifier) → SameSection h h s
same_none h s = record { headed = refl; reads = refl; elements = refl; ordered = refl; retitled = refl }

pub same_join : (a b c : List Op) (s : Identifier) → SameSection a b s → SameSection b c s → SameSection a c s
same_join a b c s first next = record {
  headed = next.headed ∙ first.headed;
  reads = next.reads ∙ first.reads;
  elements = next.elements ∙ first.elements;
  ordered = next.ordered ∙ first.ordered;
  retitled = next.retitled ∙ first.retitled;
}

keeps_none : (h : List Op) → KeepsHeld h h
keeps_none h = record { held = λ s k. k; same = λ s k. same_none h s; lists = λ s. refl; came = λ s m. inl m }

keeps_join : (a b c : List Op) → KeepsHeld a b → KeepsHeld b c → KeepsHeld a c
keeps_join a b c first next = record {
  held = λ s k. next.held s (first.held s k);
  same = λ s k. same_join a b c s (first.same s k) (next.same s (first.held s k));
  lists = λ s. next.lists s ∙ first.lists s;
  came = λ s m.
      elim (next.came s m) [
        | inl k ↦ first.came s k
        | inr k ↦ inr (false_from_ne_true (holds a s) (λ t. true≢false (sym (first.held s t) ∙ k)))
      ];
}

pub places_none : (h : List Op) → KeepsPlaces h h
places_none h = record { part = λ op k. k; moved = refl; positions = λ s. refl }

pub places_join : (a b c : List Op) → KeepsPlaces a b → KeepsPlaces b c → KeepsPlaces a c
places_join a b c first next = record {
  part = λ op k. next.part op (first.part op k);
  moved = next.moved ∙ first.moved;
  positions = λ s. next.positions s ∙ first.positions s;
}

pub shaped_none : (s : State) → IsShaped s s 0
shaped_none s = record { makes = makes_none s; keeps = keeps_none s.held.history; touches = only_none InShape s }

pub shaped_join : (old mid new : State) (n m : ℕ) → IsShaped old mid n → IsShaped mid new m → IsShaped old new (n + m)
shaped_join old mid new n m first next = record {
  makes = makes_join old mid new n m first.makes next.makes;
  keeps = keeps_join old.held.history mid.held.history new.held.history first.keeps next.keeps;
  touches = only_join InShape old mid new first.touches next.touches;
}

-- sections were dropped too
pub reshaped_none : (s : State) → IsReshaped s s 0
reshaped_none s = record { makes = makes_none s; keeps = keeps_none s.held.history; touches = only_none (InSections s.held.history) s }

-- what is dropped then was shown at the start
pub reshaped_join : (old mid new : State) (n m : ℕ) → IsReshaped old mid n → IsReshaped mid new m
    → ((s : Identifier) → Contains (shown catalogue mid.held.history) s → Contains (shown catalogue old.held.history) s) → IsReshaped old new (n + m)
reshaped_join old mid new n m first next was = record {
  makes = makes_join old mid new n m first.makes next.makes;
  keeps = keeps_join old.held.history mid.held.history new.held.history first.keeps next.keeps;
  touches = only_join (InSections old.held.history) old mid new first.touches
      (only_weaker (InSections mid.held.history) (InSections old.held.history) mid new
      (touches_weaker (λ s. ⊥) (Contains (shown catalogue mid.held.history)) (Unit {0}) (λ s. ⊥) (Contains (shown catalogue old.held.history)) (Unit {0}) (λ s b. b) was (λ u. u))
      next.touches);
}

-- nothing is dropped then
pub reshaped_shaped : (old mid new : State) (n m : ℕ) → IsReshaped old mid n → IsShaped mid new m → IsReshaped old new (n + m)
reshaped_shaped old mid new n m first next = record {
  makes = makes_join old mid new n m first.makes next.makes;
  keeps = keeps_join old.held.history mid.held.history new.held.history first.keeps next.keeps;
  touches = only_join (InSections old.held.history) old mid new first.touches
      (only_weaker InShape (InSections old.held.history) mid new
      (touches_weaker (λ s. ⊥) (λ x. ⊥) (Unit {0}) (λ s. ⊥) (Contains (shown catalogue old.held.history)) (Unit {0}) (λ s b. b) (λ x b. absurd b) (λ u. u)) next.touches);
}

pub stops_reshaped : (old mid new : State) (n : ℕ) (why : ReviseFault) → IsReshaped old mid n → StopsAtLimit mid new why → StopsAtLimit old new why
stops_reshaped old mid new n why first s = stops_behind old mid new n why first.makes s

pub stops_shaped : (old mid new : State) (n : ℕ) (why : ReviseFault) → IsShaped old mid n → StopsAtLimit mid new why → StopsAtLimit old new why
stops_shaped old mid new n why first s = stops_behind old mid new n why first.makes s

-- memory ran out before anything was made
pub wants_memory : (s : State) → StopsAtLimit s s (fault.Edit edit.NoMemory)
wants_memory s = record { limit = tt; stops = stops_first AnyChange s }

pub in_spliced : (xs new : List Identifier) (at n : ℕ) (x : Identifier) → Contains (splice xs at n new) x → Contains xs x ⊎ Contains new x
in_spliced xs new at n x m =
    elim (Contains-append_cases (take at xs ++ new) (drop (at + n) xs) x m) [
      | inl k ↦ elim (Contains-append_cases (take at xs) new x k) [ inl q ↦ inl (in_take xs at x q) | inr q ↦ inr q ]
      | inr k ↦ inl (in_drop xs (at + n) x k)
    ]

-- a member is found by its place
pub got : (xs : List Identifier) (k : ℕ) (s : Identifier) → slice_get xs k ≡ Some s → (k < length xs) × (get_or xs k s ≡ s)
got [] k s e = cc
got (x ∷ xs) zero s e = let same : x ≡ s = cc e in (omega arith, same)
got (x ∷ xs) (suc k) s e = let r = got xs k s e in (omega (arith, r.0), r.1)

-- how many are left
pub length-spliced : (xs new : List Identifier) (at n : ℕ) → at + n ≤ length xs → length (splice xs at n new) + n ≡ length xs + length new
length-spliced xs new at n l =
    omega (arith, length-append (take at xs ++ new) (drop (at + n) xs), length-append (take at xs) new, length-take-le at xs (omega (arith, l)), length-drop (at + n) xs, l)

-- one operation that leaves the sections as they are
one_keeps : (h : List Op) (e : Op) → Lawful h → Joins h e → IsQuiet h e → ((t : Identifier) → shown (within t) (e ∷ h) ≡ shown (within t) h)
    → ((t : Identifier) → order (within t) (e ∷ h) ≡ order (within t) h)
    → ((s : Identifier) → Contains (shown catalogue (e ∷ h)) s → Contains (shown catalogue h) s ⊎ (holds h s ≡ false)) → KeepsHeld h (e ∷ h)
one_keeps h e w j q same ordered came = record {
  held = held_kept h e w j;
  same = λ s k. section_kept h e w j q s (heading_kept h e w j q s k) (same s) (ordered s);
  lists = same;
  came = came;
}

one_shaped : (old new : State) (e : Op) (n : ℕ) → new.held.history ≡ e ∷ old.held.history → Makes old new n → KeepsHeld old.held.history (e ∷ old.held.history)
    → Gains old new (e ∷ []) → InShape e → IsShaped old new n
one_shaped old new e n is makes keeps gained k = record { makes = makes; keeps = subst (KeepsHeld old.held.history) (sym is) keeps; touches = only_one InShape old new e gained k }

pub history_is : (old new : State) (ops : List Op) → Gains old new ops → new.held.history ≡ history_with old.held.history ops
history_is old new ops g = ap (λ (s : State). s.held.history) g.others

-- a section was dropped
pub drop_shaped : (old new : State) (k n : ℕ) → Lawful old.held.history → k < length (shown catalogue old.held.history) → RefusesExactly old (DropSection k) (Ok n)
    → IsMade old new (DropSection k) n
    → IsReshaped old new n × (length (shown catalogue new.held.history) + 1 ≡ length (shown catalogue old.held.history)) × KeepsPlaces old.held.history new.held.history
drop_shaped old new k n w l exact made =
    let h : List Op = old.held.history in
    let xs : List Identifier = shown catalogue h in
    let x = get_some xs k l in
    let e : Op = Delete x.0 in
    let ops : made_by old (DropSection k) ≡ e ∷ [] = drop_made old.number h old.held.waiting k x.0 x.1 in
    let edit : IsEdit catalogue h (e ∷ []) k 1 [] = subst (λ o. IsEdit catalogue h o k 1 []) ops (drop_takes old.number h old.held.waiting k x.0 w x.1).0 in
    let is : new.held.history ≡ e ∷ h = history_is old new (made_by old (DropSection k)) made.gained ∙ ap (history_with h) ops in
    let keeps : KeepsHeld h (e ∷ h) =
    one_keeps h e w (joins h e edit.ready.0) (delete_quiet h x.0 w (get_in xs k x.0 x.1)) (λ t. edit.elsewhere (within t) (λ d. cc d)) (λ t. order-none (within t) e h refl)
    (λ s m. elim (in_spliced xs [] k 1 s (subst (λ l. Contains l s) edit.here m)) [ inl q ↦ inl q | inr q ↦ absurd (contains_none s q) ]) in
    let count : length (shown catalogue new.held.history) ≡ length (splice xs k 1 []) = ap (λ g. length (shown catalogue g)) is ∙ ap length edit.here in (
      record {
        makes = makes_one old new (Edit (DropSection k)) n (changed_edit old new (DropSection k) n exact made) made.count;
        keeps = subst (KeepsHeld h) (sym is) keeps;
        touches = only_one (InSections h) old new e (subst (Gains old new) ops made.gained) (get_in xs k x.0 x.1);
      },
      omega (arith, count, length-spliced xs [] k 1 (omega (arith, l))),
      subst (KeepsPlaces h) (sym is) (places_kept h e (delete_still h x.0 w (get_in xs k x.0 x.1))),
    )

-- a section was added
pub add_shaped : (old new : State) (at n : ℕ) (title : List ℕ) → Lawful old.held.history → at ≤ length (shown catalogue old.held.history)
    → RefusesExactly old (Add at title) (Ok n) → IsMade old new (Add at title) n
    → IsShaped old new n × (length (shown catalogue new.held.history) ≡ length (shown catalogue old.held.history) + 1) × KeepsPlaces old.held.history new.held.history
add_shaped old new at n title w l exact made =
    let h : List Op = old.held.history in
    let xs : List Identifier = shown catalogue h in
    let x : Identifier = id_at old.number (next_of_own old) in
    let e : Op = Section x (left_for catalogue h at) (right_for catalogue h at) title in
    let edit : IsEdit catalogue h (e ∷ []) at 0 (x ∷ []) = (add_lands old.number h old.held.waiting at title w l).0 in
    let is : new.held.history ≡ e ∷ h = history_is old new (made_by old (Add at title)) made.gained in
    let keeps : KeepsHeld h (e ∷ h) =
    one_keeps h e w (joins h e edit.ready.0) (record { says = refl; spares = λ c m. refl }) (λ t. edit.elsewhere (within t) (λ d. cc d)) (λ t. order-none (within t) e h refl)
    (λ s m.
    elim (in_spliced xs (x ∷ []) at 0 s (subst (λ l. Contains l s) edit.here m)) [
      | inl q ↦ inl q
      | inr q ↦ elim (contains_cases x [] s q) [ inl d ↦ inr (ap (holds h) (sym d) ∙ fresh old) | inr q ↦ absurd (contains_none s q) ]
    ]) in
    let count : length (shown catalogue new.held.history) ≡ length (splice xs at 0 (x ∷ [])) = ap (λ g. length (shown catalogue g)) is ∙ ap length edit.here in (
      one_shaped old new e n is (makes_one old new (Edit (Add at title)) n (changed_edit old new (Add at title) n exact made) made.count) keeps made.gained tt,
      omega (arith, count, length-spliced xs (x ∷ []) at 0 (omega (arith, l))),
      subst (KeepsPlaces h) (sym is) (places_kept h e (record { says = refl; spares = λ c m. refl })),
    )

-- a section was moved
pub move_shaped : (old new : State) (k j n : ℕ) → Lawful old.held.history → RefusesFor (move_refusal old k j) (Ok n) → IsMoveMade old new k j n → ShowsAsBefore old new
    → IsShaped old new n
move_shaped old new k j n w refuses made shows =
    let h : List Op = old.held.history in
    let e : Op = move_by old made.section k j in
    let is : new.held.history ≡ e ∷ h = history_is old new (e ∷ []) made.gained in
    let same = λ (p : Place). ap (shown p) (sym is) ∙ shows.lists p in
    let keeps : KeepsHeld h (e ∷ h) =
    one_keeps h e w (joins h e made.moved.ready) (record { says = refl; spares = λ c m. refl }) (λ t. same (within t))
    (λ t. ap (order (within t)) (sym is) ∙ shows.orders (within t)) (λ s m. inl (subst (λ l. Contains l s) (same catalogue) m)) in
    let count : n ≡ length (made_of old (Move k j)) =
    made.count ∙ sym (ap (λ o. length (elim o as (λ _. List Op) [ None ↦ [] | Some section ↦ move_by old section k j ∷ [] ])) made.placed) in
    one_shaped old new e n is (makes_one old new (Move k j) n (changed_move old new k j n refuses made) count) keeps made.gained tt

-- a fault that tells neither a section nor a position is a limit
limit_from : (why : EditFault) → why ≢ edit.NoSection → why ≢ edit.OutOfRange → IsLimit (fault.Edit why)
limit_from edit.NoSection a b = absurd (a refl)
limit_from edit.OutOfRange a b = absurd (b refl)
limit_from (edit.IdsSpent n) a b = tt
limit_from (edit.TooMany n) a b = tt
limit_from edit.NoMemory a b = tt

too_many : (b : Bool) (n : ℕ) (why : EditFault) → cond b (Some (edit.TooMany n)) None ≡ Some why → IsLimit (fault.Edit why)
too_many true n why e = let same : edit.TooMany n ≡ why = cc e in limit_from why (λ d. cc (same, d)) (λ d. cc (same, d))
too_many false n why e = cc e

drop_limit : (old : State) (k : ℕ) (why : EditFault) → k < length (shown catalogue old.held.history) → RefusesExactly old (DropSection k) (Err why) → IsLimit (fault.Edit why)
drop_limit old k edit.NoMemory l exact = tt
drop_limit old k why l exact =
    let x = get_some (shown catalogue old.held.history) k l in
    let there : refusal_message old (DropSection k) ≡ refused_ops old 1 = ap (λ o. in_section o (λ x. refused_ops old 1)) x.1 in
    too_many (nat_lt old.most (held_count old + 1)) (held_count old) why (sym there ∙ (exact why (λ e. cc e)).0 refl)

pub drop_stops : (old new : State) (k : ℕ) (why : EditFault) → k < length (shown catalogue old.held.history) → LeavesUnmade old new (DropSection k) why
    → RefusesExactly old (DropSection k) (Err why)
    → StopsAtLimit old new (fault.Edit why)
drop_stops old new k why l left exact = record { limit = drop_limit old k why l exact; stops = stops_edit AnyChange old new (DropSection k) why tt left exact }

add_limit : (old : State) (at : ℕ) (title : List ℕ) (why : EditFault) → at ≤ length (shown catalogue old.held.history) → RefusesExactly old (Add at title) (Err why)
    → IsLimit (fault.Edit why)
add_limit old at title edit.NoMemory l exact = tt
add_limit old at title why l exact =
    let there : refusal_message old (Add at title) ≡ refused_elements old 1 =
    ap (λ b. cond b (Some edit.OutOfRange) (refused_elements old 1)) (le-ltb (shown_count old catalogue) at l) in
    let known = note_without_position old why (sym there ∙ (exact why (λ e. cc e)).0 refl) in
    limit_from why known.0 known.1

pub add_stops : (old new : State) (at : ℕ) (title : List ℕ) (why : EditFault) → at ≤ length (shown catalogue old.held.history) → LeavesUnmade old new (Add at title) why
    → RefusesExactly old (Add at title) (Err why) → StopsAtLimit old new (fault.Edit why)
add_stops old new at title why l left exact = record { limit = add_limit old at title why l exact; stops = stops_edit AnyChange old new (Add at title) why tt left exact }

-- a move or a retitle whose sections and places are there
pub note_limit : (cause : Option MoveFault) (why : MoveFault) → cause ≡ None → TellsAbsence cause (Err why) → IsLimit (fault.Move why)
note_limit cause moving.NoSection none tells = absurd (not_both cause moving.NoSection none ((tells moving.NoSection refl).0 refl))
note_limit cause moving.NoPlace none tells = absurd (not_both cause moving.NoPlace none ((tells moving.NoPlace refl).0 refl))
note_limit cause moving.StampsSpent none tells = tt
note_limit cause (moving.IdsSpent n) none tells = tt
note_limit cause (moving.TooMany n) none tells = tt
note_limit cause moving.NoMemory none tells = tt

pub section_there : (s : State) (k : ℕ) → k < length (arranged s.held.history) → section_cause s k ≡ None
section_there s k l = ap (λ b. cond b None (Some moving.NoSection)) (lt-ltb k (length (arranged s.held.history)) l)

place_there : (s : State) (k j : ℕ) → k < length (arranged s.held.history) → j < length (arranged s.held.history) → place_cause s k j ≡ None
place_there s k j l m =
    (λ i. option_or (section_there s k l i) (cond (lt-ltb j (length (arranged s.held.history)) m i) None (Some moving.NoPlace)))

pub move_stops : (old new : State) (k j : ℕ) (why : MoveFault) → k < length (arranged old.held.history) → j < length (arranged old.held.history) → new ≡ old
    → TellsAbsence (place_cause old k j) (Err why) → RefusesFor (move_refusal old k j) (Err why) → StopsAtLimit old new (fault.Move why)
move_stops old new k j why l m unmade tells refuses = record {
  limit = note_limit (place_cause old k j) why (place_there old k j l m) tells;
  stops = stops_note AnyChange old new (Move k j) (move_refusal old k j) why tt refl unmade refuses;
}
