-- A run that joins a history, and operations that are taken back.
use Rattle.std.proofs.Common.{◌≡◌, ◌∙◌, ap, arith, drop, length, refl, suc, sym, zero, ℕ, ◌+◌, ◌-◌, ◌<◌, ◌≤◌, ◌∷◌, List, []}
use Rattle.fugue_ids.specs.Identifiers.{Identifier}
use Rattle.fugue_ids.specs.Runs.{in_a_row, run_from}
use Rattle.fugue_ids.specs.declared.op.Op.{Op}
use Rattle.origin_model.specs.edits.Edits.{ReadyInTurn, history_with, id_at}
use Rattle.origin_model.specs.edits.Effect.{Gains, with_ops}
use Rattle.origin_model.proofs.edits.RunLemmas.{typed_is_run}
use Rattle.origin_model.specs.edits.State.{State, IsSound}
use Rattle.origin_model.specs.taking.Taking.{IsSettled}
use Rattle.replica_core.specs.Due.{due_marks}
use Rattle.replica_core.specs.Edits.{CanJoin, ComeInTurn, typed_at}
use Rattle.replica_core.specs.declared.edits.planning.TextSpot.{TextSpot}
use Rattle.replica_core.proofs.JoinLemmas.{first_can, gains, joined_marks, joined_stands}

-- the newest operations are taken back: so many are left to go
pub record IsPopping (old now : List Op) (count left : ℕ) : Type 0 where
  pub within : left ≤ length now
  pub same : drop left now ≡ drop count old

-- one went
pub popped_on : (old now new : List Op) (op : Op) (count left : ℕ) → 0 < left → IsPopping old now count left → now ≡ op ∷ new → IsPopping old new count (left - 1)
popped_on old now new op count zero some p is = absurd (omega (arith, some))
popped_on old now new op count (suc left) some p is =
    let one : suc left - 1 ≡ left = omega arith in
    let within : suc left ≤ length now = p.within in
    record {
      within = omega (arith, within, ap length is);
      same = ap (λ n. drop n new) one ∙ sym (ap (drop (suc left)) is) ∙ p.same;
    }

-- an operation more in a history that has some to go
pub not_empty : (old now : List Op) (count left : ℕ) → 0 < left → IsPopping old now count left → now ≡ [] → ⊥
not_empty old now count left some p none = let within : left ≤ length now = p.within in omega (arith, some, within, ap length none)

-- as many as came are taken back
drop_more : (n : ℕ) (xs : List Op) (x : Op) (h : List Op) → drop n xs ≡ x ∷ h → drop (suc n) xs ≡ h
drop_more zero [] x h e = cc
drop_more zero (y ∷ ys) x h e = ap (drop 1) e
drop_more (suc n) [] x h e = cc
drop_more (suc n) (y ∷ ys) x h e = drop_more n ys x h e

pub taken_back : (ops h : List Op) → drop (length ops) (history_with h ops) ≡ h
taken_back [] h = refl
taken_back (op ∷ ops) h = drop_more (length ops) (history_with (op ∷ h) ops) op h (taken_back ops (op ∷ h))

pub length-extended : (ops h : List Op) → length (history_with h ops) ≡ length h + length ops
length-extended [] h = omega arith
length-extended (op ∷ ops) h = let rest : length (history_with (op ∷ h) ops) ≡ suc (length h) + length ops = length-extended ops (op ∷ h) in omega (arith, rest)

-- operations that can join are Ready in their turn
pub ready_in_turn : (ops h w : List Op) → ComeInTurn w h ops → ReadyInTurn h ops
ready_in_turn [] h w c = tt
ready_in_turn (op ∷ ops) h w c = (c.0, ready_in_turn ops (op ∷ h) w c.3)

-- what a replica is with all of them
pub record AllJoined (s : State) (ops : List Op) : Type 0 where
  pub sound : IsSound (with_ops s ops)
  pub settled : IsSettled (with_ops s ops).held
  pub marks : due_marks s.held.history s.held.waiting ≡ due_marks (history_with s.held.history ops) s.held.waiting

pub all_joined : (ops : List Op) (s : State) → CanJoin s ops → IsSound s → AllJoined s ops
all_joined [] s can sound = record { sound = sound; settled = can.settled; marks = refl }
all_joined (op ∷ ops) s can sound =
    let one : CanJoin s (op ∷ []) = first_can s op ops can in
    let mid : State = with_ops s (op ∷ []) in
    let room : length s.held.history + length s.held.waiting + length (op ∷ ops) ≤ s.most = can.room in
    let rest : AllJoined mid ops =
    all_joined ops mid (record { settled = can.in_turn.2; in_turn = can.in_turn.3; room = omega (arith, room) }) (joined_stands s op (op ∷ s.held.history) one sound refl) in
    record { sound = rest.sound; settled = rest.settled; marks = joined_marks s op (op ∷ s.held.history) one refl ∙ rest.marks }

-- a text that is typed is a run
pub typed_run : (number : ℕ) (spot : TextSpot) (id : Identifier) (cs letters : List ℕ) → id ≡ id_at number spot.counter → letters ≡ cs
    → run_from (record { id = id; section = spot.section; left = spot.left; right = spot.right }) letters ≡ typed_at number spot cs
typed_run number spot id cs letters own same =
    (λ i. in_a_row (own i) spot.section spot.left spot.right (same i)) ∙ sym (typed_is_run number spot.counter spot.section spot.left spot.right cs)

-- no text changes nothing
pub none_typed : (s : State) (spot : TextSpot) (cs : List ℕ) → length cs ≡ 0 → Gains s s (typed_at s.number spot cs)
none_typed s spot [] none = gains s s [] refl
none_typed s spot (c ∷ cs) none = absurd (omega (arith, none))

-- as many operations as letters
pub typed_some : (number : ℕ) (spot : TextSpot) (cs : List ℕ) → 0 < length cs → 0 < length (typed_at number spot cs)
typed_some number spot [] some = absurd (omega (arith, some))
typed_some number spot (c ∷ cs) some = omega arith
