-- What both authors begin with.
use Rattle.std.proofs.Common.{List, ap, refl, ◌∙◌, ◌≡◌, ◌≢◌, ℕ}
use Rattle.std.specs.Prelude.{Err, Ok, OnOk, Result, codes}
use Rattle.std.specs.Str.{encode_utf8_all}
use Rattle.std.proofs.lemmas.Str.{encodes_same}
use lib.Utf8.{encode}
use Rattle.fugue_ids.specs.declared.no_memory.NoMemory.{NoMemory}
use Rattle.fugue_ids.specs.declared.op.Op.{Op}
use Rattle.origin_model.specs.operations.History.{accepted}
use Rattle.origin_model.specs.operations.Verdict.{verdict}
use Rattle.origin_model.specs.order.Order.{order}
use Rattle.origin_model.specs.taking.Taking.{held_from, settle}
use Rattle.origin_model.specs.edits.Edits.{Add}
use Rattle.origin_model.specs.edits.State.{State}
use Rattle.origin_model.specs.declared.edit_fault.EditFault.{EditFault}
use Rattle.origin_model.specs.declared.edit_fault.EditFault.TheVariants.{NoMemory as no_memory}
use Rattle.list_spec.specs.Calls.{IsEditCall}
use Rattle.list_spec.specs.Worlds.{replica_after_edit}
use Rattle.bulk_world.proofs.TurnLemmas.{turn_is}
use Rattle.bulk_world.specs.declared.making.TheConstants.{HOLD}
use Rattle.fugue_ids.specs.declared.limits.TheConstants.{MOST_OPERATIONS}
use Rattle.bulk_world.specs.Turns.{author, two_begin}

-- the title is the one that was read
pub title_is : (title : List ℕ) → encode_utf8_all title ≡ codes "B" → title ≡ codes "B"
unfolding encode
title_is title e = encodes_same title (codes "B") e

-- the section that the title makes
added_one : replica_after_edit (Add 0 (codes "B")) (author 1) ≡ two_begin 1
unfolding order
added_one = refl

-- the first author has the section
pub first_opens : (old new : State) (title : List ℕ) (made : Result ℕ EditFault) (answer : Result (Unit {0}) NoMemory) → old ≡ author 1 → title ≡ codes "B"
    → OnOk answer (made ≢ Err no_memory) → IsEditCall (Add 0 title) old new made → OnOk answer (new ≡ two_begin 1)
first_opens old new title made (Ok done) o t enough call =
    turn_is (Add 0 title) old new made (Ok done) enough call ∙ (λ i. replica_after_edit (Add 0 (t i)) (o i)) ∙ added_one
first_opens old new title made (Err fault) o t enough call = tt

-- the second author hears of it
hears_one : record (author 2) { held = held_from HOLD MOST_OPERATIONS (author 2).held (accepted (two_begin 1).held.history) } ≡ two_begin 2
unfolding verdict settle
hears_one = refl

pub second_opens : (first second new : State) (ops : List Op) (result : Result (Unit {0}) NoMemory) → first ≡ two_begin 1 → second ≡ author 2 → ops ≡ accepted first.held.history
    → OnOk result (new ≡ record second { held = held_from second.hold second.most second.held ops }) → OnOk result (new ≡ two_begin 2)
second_opens first second new ops (Ok done) f s o e =
    e ∙ (λ i. record (s i) { held = held_from (s i).hold (s i).most (s i).held (o i) })
    ∙ ap (λ (x : State). record (author 2) { held = held_from HOLD MOST_OPERATIONS (author 2).held (accepted x.held.history) }) f
    ∙ hears_one
second_opens first second new ops (Err fault) f s o e = tt
