-- A call that edits a replica is an edit of the world, for lack of memory a smaller one; one that makes a note is a
-- noting, or for lack of memory none.
use Rattle.std.proofs.Common.{List, [], ap, arith, false, inl, inr, length, nat_lt, refl, subst, sym, ◌&&◌, ◌+◌, ◌-◌, ◌<◌, ◌^◌, ◌∙◌, ◌≡◌, ◌≢◌, ◌≤◌, ◌⊎◌, ℕ}
use Rattle.std.specs.Prelude.{Err, None, Ok, Option, Some, if◌then◌else◌, slice_get, take}
use Rattle.std.proofs.lemmas.Bool.{le-ltb, ltb-false}
use Rattle.std.proofs.lemmas.Bool.Decides.{nat_tests}
use Rattle.std.proofs.lemmas.List.{length-take, take_all}
use Rattle.std.proofs.lemmas.List.Sums.{list_all-from_AllPass}
use Rattle.origin_model.specs.operations.History.{holds}
use Rattle.origin_model.specs.declared.operations.Place.TheVariants.{Catalogue as catalogue, Section as within}
use Rattle.origin_model.specs.order.Printed.{shown}
use Rattle.origin_model.specs.edits.Edits.{Add, Command, Cut, DropSection, Put, put_in}
use Rattle.origin_model.proofs.edits.AllowedLemmas.{never_memory, never_more}
use Rattle.origin_model.proofs.edits.MadeLemmas.{cut_front, drop_made, put_front}
use Rattle.origin_model.specs.edits.State.{State}
use Rattle.origin_model.specs.edits.Refusal.{held_count, in_range, in_section, made_by, next_of_own, refusal_message, refused_elements, refused_ops, section_shown, shown_count}
use Rattle.origin_model.specs.edits.Effect.{LeavesUnmade, StopsPartly, with_ops}
use Rattle.origin_model.specs.edits.Noting.{note_refusal}
use Rattle.origin_model.specs.declared.edit_fault.EditFault.{EditFault}
use Rattle.origin_model.specs.declared.edit_fault.EditFault.TheVariants.{IdsSpent, NoMemory, NoSection, OutOfRange, TooMany}
use Rattle.origin_model.proofs.edits.RefusalLemmas.{cut_count, if_none, position_within, section_there}
use Rattle.list_spec.specs.Calls.{CallsAreEdits, CallsAreNotings, IsWorldEdit, IsEditCall}
use Rattle.list_spec.specs.Worlds.{effect}
use Rattle.list_spec.proofs.EffectLemmas.{made_none, made_whole, note_refused, note_whole}

-- fewer operations are not too many, where more are not
fewer_ops : (s : State) (m n : ℕ) → m ≤ n → refused_ops s n ≡ None → refused_ops s m ≡ None
fewer_ops s m n l e =
    let room : held_count s + n ≤ s.most = ltb-false s.most (held_count s + n) (if_none _ (TooMany (held_count s)) None e).0 in
    ap (λ b. if b then Some (TooMany (held_count s)) else None) (le-ltb s.most (held_count s + m) (omega (arith, room, l)))

-- nor do fewer elements need counters past the greatest
fewer_counters : (c m n : ℕ) → m ≤ n → (nat_lt 0 n && nat_lt (2 ^ 32) (c + n)) ≡ false → (nat_lt 0 m && nat_lt (2 ^ 32) (c + m)) ≡ false
fewer_counters c m n l e = grind (arith, nat_tests, l, e)

fewer_elements : (s : State) (m n : ℕ) → m ≤ n → refused_elements s n ≡ None → refused_elements s m ≡ None
fewer_elements s m n l e =
    let parts = if_none _ _ (refused_ops s n) e in
    ap (λ b. if b then Some (IdsSpent (next_of_own s - 1)) else refused_ops s m) (fewer_counters (next_of_own s) m n l parts.0) ∙ fewer_ops s m n l parts.1

-- within the range nothing else is refused
pub range_none : (position count : ℕ) (rest : Option EditFault) → position ≤ count → rest ≡ None → in_range position count rest ≡ None
range_none position count rest l e = ap (λ b. if b then Some OutOfRange else rest) (le-ltb count position l) ∙ e

-- a smaller put, and a smaller cut, are not refused either
smaller_put : (s : State) (k at j : ℕ) (new : List ℕ) → refusal_message s (Put k at new) ≡ None → refusal_message s (Put k at (take j new)) ≡ None
smaller_put s k at j new e =
    let x = section_there (section_shown s k) (λ x. in_range at (shown_count s (within x)) (refused_elements s (length new))) e in
    let r = position_within at (shown_count s (within x.0)) (refused_elements s (length new)) x.2 in
    let n : ℕ = length (take j new) in
    ap (λ o. in_section o (λ x. in_range at (shown_count s (within x)) (refused_elements s n))) x.1
    ∙ range_none at (shown_count s (within x.0)) (refused_elements s n) r.0 (fewer_elements s n (length new) (omega (arith, length-take j new)) r.1)

smaller_cut : (s : State) (k at j n : ℕ) → j ≤ n → refusal_message s (Cut k at n) ≡ None → refusal_message s (Cut k at j) ≡ None
smaller_cut s k at j n l e =
    let x = section_there (section_shown s k) (λ x. in_range (at + n) (shown_count s (within x)) (refused_ops s n)) e in
    let r = position_within (at + n) (shown_count s (within x.0)) (refused_ops s n) x.2 in
    ap (λ o. in_section o (λ x. in_range (at + j) (shown_count s (within x)) (refused_ops s j))) x.1
    ∙ range_none (at + j) (shown_count s (within x.0)) (refused_ops s j) (omega (arith, r.0, l)) (fewer_ops s j n l r.1)

-- an empty put makes nothing
nothing_made : (s : State) → made_by s (Put 0 0 []) ≡ []
nothing_made s =
    elim (slice_get (shown catalogue s.held.history) 0) as (λ z. elim z [ None ↦ [] | Some x ↦ put_in s.number s.held.history s.held.waiting x 0 [] ] ≡ [])
    [ None ↦ refl | Some x ↦ refl ]

makes_nothing : (s : State) → effect s (Put 0 0 []) ≡ []
makes_nothing s = by_refusal (refusal_message s (Put 0 0 [])) refl
  where
    by_refusal : (o : Option EditFault) → refusal_message s (Put 0 0 []) ≡ o → effect s (Put 0 0 []) ≡ []
    by_refusal None e = made_whole (Put 0 0 []) s e ∙ nothing_made s
    by_refusal (Some fault) e = made_none (Put 0 0 []) s fault e

-- the first operations of an edit are those of a smaller one
abbrev IsPart : Command → State → ℕ → Type 0
IsPart command s j = (done : Command) × (effect s done ≡ take j (effect s command))

-- none of the operations
no_part : (command : Command) (s : State) (j : ℕ) → j ≡ 0 → IsPart command s j
no_part command s j e = (Put 0 0 [], makes_nothing s ∙ ap (λ n. take n (effect s command)) (sym e))

-- the first ones, by those of the edit that is not refused
part_by : (command done : Command) (s : State) (j : ℕ) → refusal_message s command ≡ None → refusal_message s done ≡ None → take j (made_by s command) ≡ made_by s done
    → IsPart command s j
part_by command done s j e f is = (done, made_whole done s f ∙ sym is ∙ ap (take j) (sym (made_whole command s e)))

smaller : (command : Command) (s : State) (j : ℕ) → refusal_message s command ≡ None → j < length (made_by s command) → IsPart command s j
smaller (Put k at new) s j e l =
    part_by (Put k at new) (Put k at (take j new)) s j e (smaller_put s k at j new e) (put_front s.number s.held.history s.held.waiting k j at new)
smaller (Cut k at n) s j e l =
    let fewer : j ≤ n = omega (arith, l, cut_count s k at n e) in
    part_by (Cut k at n) (Cut k at j) s j e (smaller_cut s k at j n fewer e) (cut_front s.number s.held.history s.held.waiting k j at n fewer)
smaller (Add at title) s j e l = no_part (Add at title) s j (omega (arith, l))
smaller (DropSection k) s j e l =
    let x = section_there (section_shown s k) (λ x. refused_ops s 1) e in
    no_part (DropSection k) s j (omega (arith, l, ap length (drop_made s.number s.held.history s.held.waiting k x.0 x.1)))

-- an allocation failure, or another cause
which : (fault : EditFault) → (fault ≡ NoMemory) ⊎ (fault ≢ NoMemory)
which NoSection = inr (λ e. cc e)
which OutOfRange = inr (λ e. cc e)
which (IdsSpent n) = inr (λ e. cc e)
which (TooMany n) = inr (λ e. cc e)
which NoMemory = inl refl

-- a refused edit leaves all as it was
same_unmade : (command : Command) (old new : State) (fault : EditFault) → fault ≢ NoMemory → LeavesUnmade old new command fault → new ≡ old
same_unmade command old new NoMemory n l = absurd (n refl)
same_unmade command old new _ n l = l

-- what was not refused for another cause is not refused
not_refused : (command : Command) (old : State) → ((fault : EditFault) → refusal_message old command ≡ Some fault → ⊥) → refusal_message old command ≡ None
not_refused command old f = by_refusal (refusal_message old command) refl
  where
    by_refusal : (o : Option EditFault) → refusal_message old command ≡ o → refusal_message old command ≡ None
    by_refusal None e = e
    by_refusal (Some fault) e = absurd (f fault e)

-- a call that was refused for a named cause
refused_is : (command : Command) (old new : State) (fault : EditFault) → fault ≢ NoMemory → IsEditCall command old new (Err fault) → IsWorldEdit command old new (Err fault)
refused_is command old new fault other call =
    let none : effect old command ≡ [] = made_none command old fault ((call.refused fault other).0 refl) in
    record {
      done = command;
      is = same_unmade command old new fault other call.unmade ∙ sym (ap (with_ops old) none);
      count = 0;
      part = none;
      whole = λ n. refl;
    }

-- one that memory ran out for
stopped_is : (command : Command) (old new : State) → IsEditCall command old new (Err NoMemory) → IsWorldEdit command old new (Err NoMemory)
stopped_is command old new call =
    let e : refusal_message old command ≡ None = not_refused command old other in
    let stop : StopsPartly old new (made_by old command) = call.unmade in
    let part = smaller command old stop.count e stop.fewer in
    record {
      done = part.0;
      is = stop.gained.others ∙ ap (λ ops. with_ops old (take stop.count ops)) (sym (made_whole command old e)) ∙ sym (ap (with_ops old) part.1);
      count = stop.count;
      part = part.1;
      whole = λ n. absurd (n refl);
    }
  where
    other : (fault : EditFault) → refusal_message old command ≡ Some fault → ⊥
    other fault k =
        let named_one : fault ≢ NoMemory = λ d. never_memory old command (k ∙ ap Some d) in
        let same : Err NoMemory ≡ Err fault = (call.refused fault named_one).1 k in
        named_one (cc same)

-- one that made its edit
made_is : (command : Command) (old new : State) (n : ℕ) → IsEditCall command old new (Ok n) → IsWorldEdit command old new (Ok n)
made_is command old new n call =
    let e : refusal_message old command ≡ None = not_refused command old other in
    record {
      done = command;
      is = call.made.gained.others ∙ sym (ap (with_ops old) (made_whole command old e));
      count = length (effect old command);
      part = sym (take_all (length (effect old command)) (effect old command) (omega arith));
      whole = λ m. refl;
    }
  where
    other : (fault : EditFault) → refusal_message old command ≡ Some fault → ⊥
    other fault k = cc ((call.refused fault (λ d. never_memory old command (k ∙ ap Some d))).1 k)

-- every call that edits is an edit of the world
pub calls_are_edits : CallsAreEdits
calls_are_edits command old new (Ok n) call = made_is command old new n call
calls_are_edits command old new (Err fault) call =
    elim (which fault) [
      | inl e ↦ subst (λ f. IsWorldEdit command old new (Err f)) (sym e) (stopped_is command old new (subst (λ f. IsEditCall command old new (Err f)) e call))
      | inr n ↦ refused_is command old new fault n call
    ]

-- an allocation failure does not refuse a note
note_named : (s : State) (fault : EditFault) → note_refusal s ≡ Some fault → fault ≢ NoMemory
note_named s fault k e = never_more s 1 (k ∙ ap Some e)

-- every call that makes a note is a noting of the world, or for lack of memory none
pub calls_are_notings : CallsAreNotings
calls_are_notings named code body old new (Ok n) held call =
    record {
      is = λ m. call.made.gained.others
          ∙ sym (ap (with_ops old) (note_whole named code body old (by_refusal (note_refusal old) refl) (list_all-from_AllPass (holds old.held.history) named held)));
      unmade = λ e. cc e;
    }
  where
    by_refusal : (o : Option EditFault) → note_refusal old ≡ o → note_refusal old ≡ None
    by_refusal None e = e
    by_refusal (Some fault) e = let clash : Ok n ≡ Err fault = (call.refused fault (note_named old fault e)).1 e in cc clash
calls_are_notings named code body old new (Err fault) held call =
    record {
      is = λ m. call.unmade ∙ sym (ap (with_ops old) (note_refused named code body old fault ((call.refused fault (λ e. m (ap Err e))).0 refl)));
      unmade = λ e. call.unmade;
    }
