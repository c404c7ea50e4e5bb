-- Why the premises of the laws of worlds are there: each law is stated without one of them, and a small world or call
-- breaks it. That replicas have distinct numbers is tried in Examples.
use Rattle.std.proofs.Common.{Bool, List, [], ap, false, refl, true, ◌∙◌, ◌∷◌, ◌≡◌, ◌≢◌, ℕ, length}
use Rattle.std.specs.Prelude.{All, AllPairs, Err, IfErr, IfOk, None, Ok, OnErr, Result, Some, codes, nat_eq, slice_get}
use Rattle.std.proofs.lemmas.Bool.{false≢true, true≢false}
use Rattle.std.proofs.lemmas.List.Elements.{All-cons, All-head, All-nil}
use Rattle.std.proofs.lemmas.List.Kept.{AllPairs-cons}
use Rattle.fugue_ids.proofs.ListLemmas.{all_pairs_nil}
use Rattle.fugue_ids.specs.Identifiers.{Identifier, id_eq}
use Rattle.fugue_ids.specs.declared.op.Op.{Op}
use Rattle.fugue_ids.specs.declared.op.Op.TheVariants.{Section}
use Rattle.origin_model.specs.operations.History.{holds}
use Rattle.origin_model.specs.order.Order.{chain, order}
use Rattle.origin_model.specs.taking.Taking.{nothing_held}
use Rattle.origin_model.specs.edits.Edits.{Add, Command, id_at}
use Rattle.origin_model.specs.edits.State.{State}
use Rattle.origin_model.specs.edits.Refusal.{RefusesExactly, refusal_message}
use Rattle.origin_model.specs.edits.Effect.{IsMade, Lands, LeavesUnmade, with_ops}
use Rattle.origin_model.specs.edits.Noting.{AreHeld, IsNoted, RefusesNote, note_by}
use Rattle.origin_model.specs.declared.edit_fault.EditFault.{EditFault}
use Rattle.origin_model.specs.declared.edit_fault.EditFault.TheVariants.{NoMemory, NoSection}
use Rattle.list_spec.specs.Calls.{IsWorldEdit, IsNoteCall, IsNoting}
use Rattle.list_spec.specs.StrongList.{IsOneList, IsView}
use Rattle.list_spec.specs.Worlds.{AreNew, Event, replica_after_edit, numbers, world}

-- replica 1, with room for 10 operations that wait and 100 in all
abbrev with_history : List Op → State
with_history h = record { number = 1; hold = 10; most = 100; held = record { history = h; waiting = [] } }

abbrev new_one : State
new_one = with_history []

-- a replica alone has a number of its own
one_number : (s : State) → AllPairs (λ m n. m ≢ n) (numbers (s ∷ []))
one_number s = AllPairs-cons (λ m n. m ≢ n) s.number [] (All-nil (λ n. s.number ≢ n)) (all_pairs_nil (λ m n. m ≢ n))

alone : AreNew (new_one ∷ [])
alone = record { distinct = one_number new_one; empty = All-cons (λ (s : State). s.held ≡ nothing_held) new_one [] refl (All-nil (λ (s : State). s.held ≡ nothing_held)) }

abbrev the_section : Op
the_section = Section (id_at 1 0) None None (codes "T")

-- a replica that begins with an operation has what the pool lacks
strong_list_empty :
    ((replicas : List State) (earlier : List Event) → AllPairs (λ m n. m ≢ n) (numbers replicas) → IsOneList (world replicas earlier).pool (world replicas earlier).replicas) → ⊥
strong_list_empty law =
    let s : State = with_history (the_section ∷ []) in
    let view : IsView [] (the_section ∷ []) = All-head (λ (t : State). IsView [] t.held.history) s [] (law (s ∷ []) [] (one_number s)).views in
    false≢true (view.part the_section refl)

-- one that begins with an operation twice lists its element twice, and a section that is put after it stands after both
abbrev twice : State
twice = with_history (the_section ∷ the_section ∷ [])

-- the second of a list is the section
abbrev second_is_it : List Identifier → Bool
second_is_it xs = elim (slice_get xs 1) [ None ↦ false | Some x ↦ id_eq x (id_at 1 0) ]

edits_land_empty :
    ((replicas : List State) (events : List Event) (command : Command) → AllPairs (λ m n. m ≢ n) (numbers replicas)
    → All (λ (s : State). refusal_message s command ≡ None → Lands s (replica_after_edit command s) command) (world replicas events).replicas) → ⊥
unfolding order chain
edits_land_empty law =
    let add : Command = Add 1 (codes "U") in
    let lands : Lands twice (replica_after_edit add twice) add =
    All-head (λ (s : State). refusal_message s add ≡ None → Lands s (replica_after_edit add s) add) twice [] (law (twice ∷ []) [] add (one_number twice)) refl in
    true≢false (ap second_is_it lands.splices.here)

-- a refused edit does not land: there is no such position
edits_land_refused :
    ((replicas : List State) (events : List Event) (command : Command) → AreNew replicas
    → All (λ (s : State). Lands s (replica_after_edit command s) command) (world replicas events).replicas) → ⊥
unfolding order chain
edits_land_refused law =
    let add : Command = Add 5 (codes "T") in
    let lands : Lands new_one (replica_after_edit add new_one) add =
    All-head (λ (s : State). Lands s (replica_after_edit add s) add) new_one [] (law (new_one ∷ []) [] add alone) in
    true≢false (ap (λ xs. nat_eq (length xs) 0) lands.splices.here)

-- the edit that is asked for in these calls, which a new replica does not refuse
abbrev adding : Command
adding = Add 0 (codes "T")

-- where it was not made, it is no edit of the world
not_made : (result : Result ℕ EditFault) → result ≢ Err NoMemory → IsWorldEdit adding new_one new_one result → ⊥
unfolding order chain
not_made result n edit =
    true≢false (ap (λ (s : State). nat_eq (length s.held.history) 0) (edit.is ∙ ap (λ command. replica_after_edit command new_one) (edit.whole n)))

-- a call that answers Ok and makes nothing
calls_made :
    ((command : Command) (old new : State) (result : Result ℕ EditFault) → RefusesExactly old command result → IfErr result (λ fault. LeavesUnmade old new command fault)
    → IsWorldEdit command old new result) → ⊥
unfolding order chain
calls_made law =
    not_made (Ok 1) (λ e. cc e) (law adding new_one new_one (Ok 1) (λ fault n. (λ e. cc e, λ e. cc e)) tt)

-- one that refuses an edit for which there is no cause
calls_refused :
    ((command : Command) (old new : State) (result : Result ℕ EditFault) → IfOk result (λ n. IsMade old new command n) → IfErr result (λ fault. LeavesUnmade old new command fault)
    → IsWorldEdit command old new result) → ⊥
calls_refused law = not_made (Err NoSection) (λ e. cc e) (law adding new_one new_one (Err NoSection) tt refl)

-- one that for lack of memory leaves another replica
calls_unmade :
    ((command : Command) (old new : State) (result : Result ℕ EditFault) → IfOk result (λ n. IsMade old new command n) → RefusesExactly old command result
    → IsWorldEdit command old new result) → ⊥
unfolding order chain
calls_unmade law =
    let other : State = record new_one { number = 2 } in
    let edit : IsWorldEdit adding new_one other (Err NoMemory) = law adding new_one other (Err NoMemory) tt (λ fault n. (λ e. absurd (n (cc e)), λ e. cc e)) in
    false≢true (ap (λ (s : State). nat_eq s.number 1) edit.is)

-- a replica with the note that is asked for in these calls
abbrev with_note : State → (named : List Identifier) → State
with_note s named = with_ops s (note_by s named 0 [] ∷ [])

-- none is accepted
abbrev none_held : State → Bool
none_held s = nat_eq (length s.held.history) 0

-- a note that names what is not held
notings_held :
    ((named : List Identifier) (code : ℕ) (body : List ℕ) (old new : State) (result : Result ℕ EditFault)
    → IsNoteCall named code body old new result → IsNoting named code body old new result) → ⊥
notings_held law =
    let named : List Identifier = id_at 2 0 ∷ [] in
    let call : IsNoteCall named 0 [] new_one (with_note new_one named) (Ok 1) = record {
      made = record { count = refl; gained = record { accepted_are = refl; others = refl } };
      refused = λ fault n. (λ e. cc e, λ e. cc e);
      unmade = tt;
    } in
    false≢true (ap none_held ((law named 0 [] new_one (with_note new_one named) (Ok 1) call).is (λ e. cc e)))

-- where no name is asked for, all are held
none_lacks : (s : State) → AreHeld s.held.history []
none_lacks s = All-nil (λ i. holds s.held.history i ≡ true)

-- a new replica where no note was made is not one that made it
not_noted : (result : Result ℕ EditFault) → result ≢ Err NoMemory → IsNoting [] 0 [] new_one new_one result → ⊥
not_noted result n noting = true≢false (ap none_held (noting.is n))

-- a call that answers Ok and makes none
notings_made :
    ((named : List Identifier) (code : ℕ) (body : List ℕ) (old new : State) (result : Result ℕ EditFault) → AreHeld old.held.history named
    → RefusesNote old result → OnErr result (new ≡ old) → IsNoting named code body old new result) → ⊥
notings_made law = not_noted (Ok 1) (λ e. cc e) (law [] 0 [] new_one new_one (Ok 1) (none_lacks new_one) (λ fault n. (λ e. cc e, λ e. cc e)) tt)

-- one that refuses a note for which there is no cause
notings_refused :
    ((named : List Identifier) (code : ℕ) (body : List ℕ) (old new : State) (result : Result ℕ EditFault) → AreHeld old.held.history named
    → IfOk result (λ n. IsNoted old new named code body n) → OnErr result (new ≡ old) → IsNoting named code body old new result) → ⊥
notings_refused law = not_noted (Err NoSection) (λ e. cc e) (law [] 0 [] new_one new_one (Err NoSection) (none_lacks new_one) tt refl)

-- one that for lack of memory leaves another replica
notings_unmade :
    ((named : List Identifier) (code : ℕ) (body : List ℕ) (old new : State) (result : Result ℕ EditFault) → AreHeld old.held.history named
    → IfOk result (λ n. IsNoted old new named code body n)
    → RefusesNote old result → IsNoting named code body old new result) → ⊥
notings_unmade law =
    let other : State = record new_one { number = 2 } in
    let noting : IsNoting [] 0 [] new_one other (Err NoMemory) =
    law [] 0 [] new_one other (Err NoMemory) (none_lacks new_one) tt (λ fault n. (λ e. absurd (n (cc e)), λ e. cc e)) in
    false≢true (ap (λ (s : State). nat_eq s.number 1) (noting.unmade refl))
