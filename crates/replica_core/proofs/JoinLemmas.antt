-- What an operation of an edit leaves as it was, and operations that join one after another.
use Rattle.std.proofs.Common.{◌≡◌, refl, sym, ◌∙◌, ap, suc, ◌+◌, ◌++◌, ◌∷◌, ◌<◌, List, [], length, false, arith, length-append, take}
use Rattle.std.specs.Prelude.{All}
use Rattle.std.proofs.lemmas.Bool.{ne_eqb}
use Rattle.std.proofs.lemmas.List.{append-nil}
use Rattle.std.proofs.lemmas.List.Elements.{All-head, All-tail}
use Rattle.fugue_ids.specs.declared.op.Op.{Op}
use Rattle.origin_model.specs.operations.History.{accepted}
use Rattle.origin_model.specs.taking.Taking.{Accepted, answer, decided_on}
use Rattle.origin_model.proofs.edits.MadeLemmas.{join_at_end}
use Rattle.replica_core.specs.Due.{due_marks}
use Rattle.origin_model.specs.edits.Effect.{Gains, StopsPartly, with_ops}
use Rattle.replica_core.specs.Edits.{CanJoin}
use Rattle.origin_model.specs.edits.State.{State, IsSound}
use Rattle.origin_model.proofs.edits.EditIntakeLemmas.{accepts}
use Rattle.replica_core.proofs.StandingLemmas.{stands_by_accept}

-- what can join is answered Accepted
pub can_be_accepted : (s : State) (op : Op) → CanJoin s (op ∷ []) → answer s.hold s.most s.held op ≡ Accepted
can_be_accepted s op can =
    accepts s.hold s.most s.held.history s.held.waiting op can.settled can.in_turn.0 can.in_turn.1
    (ne_eqb (length s.held.history + length s.held.waiting) s.most (λ full. absurd (omega (arith, full, can.room))))

-- so the replica stands with it
pub joined_stands : (s : State) (op : Op) (new : List Op) → CanJoin s (op ∷ []) → IsSound s → new ≡ op ∷ s.held.history
    → IsSound (record s { held = record { history = new; waiting = s.held.waiting } })
joined_stands s op new can sound is = stands_by_accept s new op (can_be_accepted s op can) is sound

-- nothing that waits is marked on either history
same_marks : (h new w : List Op) → All (λ op. decided_on h op ≡ false) w → All (λ op. decided_on new op ≡ false) w → due_marks h w ≡ due_marks new w
same_marks h new [] was is = refl
same_marks h new (o ∷ w) was is =
    let here : decided_on h o ≡ decided_on new o = All-head (λ op. decided_on h op ≡ false) o w was ∙ sym (All-head (λ op. decided_on new op ≡ false) o w is) in
    λ i. here i ∷ same_marks h new w (All-tail (λ op. decided_on h op ≡ false) o w was) (All-tail (λ op. decided_on new op ≡ false) o w is) i

-- and the marks stay
pub joined_marks : (s : State) (op : Op) (new : List Op) → CanJoin s (op ∷ []) → new ≡ op ∷ s.held.history → due_marks s.held.history s.held.waiting ≡ due_marks new s.held.waiting
joined_marks s op new can is =
    same_marks s.held.history (op ∷ s.held.history) s.held.waiting can.settled can.in_turn.2 ∙ ap (λ h. due_marks h s.held.waiting) (sym is)

-- on the way from one state to another: the first operations have joined, and the rest can
pub record IsJoining (old now : State) (ops rest : List Op) : Type 0 where
  pub done : List Op
  pub split : ops ≡ done ++ rest
  pub others : now ≡ with_ops old done
  pub can : CanJoin now rest
  pub sound : IsSound now

pub begins : (s : State) (ops : List Op) → CanJoin s ops → IsSound s → IsJoining s s ops ops
begins s ops can sound = record { done = []; split = refl; others = refl; can = can; sound = sound }

-- the first one can join alone
pub first_can : (s : State) (op : Op) (rest : List Op) → CanJoin s (op ∷ rest) → CanJoin s (op ∷ [])
first_can s op rest can =
    record { settled = can.settled; in_turn = (can.in_turn.0, can.in_turn.1, can.in_turn.2, tt); room = omega (arith, can.room) }

-- the operations of a state stand after the accepted ones
pub gains : (old new : State) (ops : List Op) → new ≡ with_ops old ops → Gains old new ops
gains old new ops is = record { accepted_are = ap (λ s. accepted s.held.history) is ∙ join_at_end old.held.history ops; others = is }

-- all joined
pub ends : (old now : State) (ops : List Op) → IsJoining old now ops [] → Gains old now ops
ends old now ops j = gains old now ops (j.others ∙ ap (with_ops old) (sym (j.split ∙ append-nil j.done)))

take_front : (xs ys : List Op) → take (length xs) (xs ++ ys) ≡ xs
take_front [] ys = refl
take_front (x ∷ xs) ys = ap (λ l. x ∷ l) (take_front xs ys)

-- not all
pub stops : (old now : State) (ops rest : List Op) (op : Op) → IsJoining old now ops (op ∷ rest) → StopsPartly old now ops
stops old now ops rest op j =
    let part : take (length j.done) ops ≡ j.done = ap (take (length j.done)) j.split ∙ take_front j.done (op ∷ rest) in
    let longer : length ops ≡ length j.done + suc (length rest) = ap length j.split ∙ length-append j.done (op ∷ rest) in
    record {
      count = length j.done;
      fewer = omega (arith, longer);
      gained = gains old now (take (length j.done) ops) (j.others ∙ ap (with_ops old) (sym part));
    }

-- none
pub stops_at_once : (s : State) (ops : List Op) → 0 < length ops → StopsPartly s s ops
stops_at_once s ops some = record { count = 0; fewer = some; gained = gains s s [] refl }
