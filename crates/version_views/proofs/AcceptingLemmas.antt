-- Operations that are Ready in their turn are accepted in order by a replica at which nothing waits.
use Rattle.version_views.proofs.Words.{Bool, Delete, Identifier, Lawful, List, Op, Option, Some, Text, [], ap, arith, id_of, length, ne_eqb, refl, subst, suc, sym, take, verdict}
use Rattle.version_views.proofs.Words.{ℕ, ◌++◌, ◌+◌, ◌-◌, ◌<◌, ◌∙◌, ◌∷◌, ◌≡◌, ◌≤◌}
use Rattle.std.proofs.Common.{append_assoc, length-append, min, reverse, zero}
use Rattle.std.proofs.lemmas.List.{append-nil, reverse-append, take_min}
use Rattle.std.proofs.Math.Seq.{take-append_seam}
use Rattle.std.proofs.lemmas.List.Elements.{All-nil}
use Rattle.origin_model.specs.declared.operations.Verdict.TheVariants.{Ready}
use Rattle.origin_model.specs.edits.Edits.{ReadyInTurn, history_with}
use Rattle.origin_model.specs.edits.Effect.{with_ops}
use Rattle.origin_model.specs.edits.State.{State, IsSound}
use Rattle.origin_model.specs.taking.Taking.{Accepted, Held, IsSettled, answer, held_from, held_after}
use Rattle.origin_model.proofs.edits.EditIntakeLemmas.{Comes, accepts, state_of, takes}
use Rattle.origin_model.proofs.edits.MadeLemmas.{extended-append, extended_length, lawful_front, ready_front}
use Rattle.fugue_ids.specs.Runs.{in_a_row, next_id, run_from}
use Rattle.fugue_ids.specs.declared.run.RunStart.{RunStart}
use Rattle.op_runs.specs.Deletions.{deletes_by, target_by}
use Rattle.op_runs.proofs.DeletionLemmas.{deletes-append, deletes_more, length-deletes}
use Rattle.version_views.specs.Accepting.{CanAccept, IsAccepting}
use Rattle.origin_model.proofs.SharedLemmas.{id_held-nil}

-- operations that make a history lawful were Ready in their turn
pub ready_of : (h ops : List Op) → Lawful (history_with h ops) → ReadyInTurn h ops
ready_of h [] w = tt
ready_of h (op ∷ ops) w = ((lawful_front ops (op ∷ h) w).0, ready_of (op ∷ h) ops w)

ready_after : (h xs ys : List Op) → ReadyInTurn h (xs ++ ys) → ReadyInTurn (history_with h xs) ys
ready_after h [] ys r = r
ready_after h (op ∷ xs) ys r = ready_after (op ∷ h) xs ys r.1

-- the newest one is the last of them
extended_is : (h ops : List Op) → history_with h ops ≡ reverse ops ++ h
extended_is h [] = refl
extended_is h (op ∷ ops) =
    extended_is (op ∷ h) ops ∙ sym (append_assoc (reverse ops) (op ∷ []) h) ∙ ap (λ z. z ++ h) (sym (reverse-append (op ∷ []) ops))

pub from_nothing : (ops : List Op) → history_with [] ops ≡ reverse ops
from_nothing ops = extended_is [] ops ∙ append-nil (reverse ops)

-- ---- accepted where nothing waits
settled_alone : (h : List Op) → IsSettled (state_of h [])
settled_alone h = All-nil _

pub quiet_settled : (s : Held) → s.waiting ≡ [] → IsSettled s
quiet_settled s e = subst (λ w. IsSettled (state_of s.history w)) (sym e) (settled_alone s.history)

come_alone : (h ops : List Op) → ReadyInTurn h ops → Comes [] h ops
come_alone h [] r = tt
come_alone h (op ∷ ops) r = (r.0, id_held-nil (id_of op), settled_alone (op ∷ h), come_alone (op ∷ h) ops r.1)

-- a Ready one is accepted where there is room
accepted_alone : (hold most : ℕ) (h : List Op) (op : Op) → verdict h op ≡ Ready → length h < most → answer hold most (state_of h []) op ≡ Accepted
accepted_alone hold most h op r l = accepts hold most h [] op (settled_alone h) r (id_held-nil (id_of op)) (ne_eqb (length h + 0) most (λ e. omega (arith, e, l)))

pub next_is : (s new : State) (op : Op) → CanAccept s (op ∷ []) → new ≡ record s { held = held_after (answer s.hold s.most s.held op) s.held op } → new ≡ with_ops s (op ∷ [])
next_is s new op can is =
    let alone : answer s.hold s.most (state_of s.held.history []) op ≡ Accepted = accepted_alone s.hold s.most s.held.history op can.ready.0 (omega (arith, can.room)) in
    let a : answer s.hold s.most s.held op ≡ Accepted = (λ i. answer s.hold s.most (state_of s.held.history (can.quiet i)) op) ∙ alone in
    is ∙ ap (λ z. record s { held = held_after z s.held op }) a

-- and so are all, one after another
pub all_are : (s new : State) (ops : List Op) → CanAccept s ops → new ≡ record s { held = held_from s.hold s.most s.held ops } → new ≡ with_ops s ops
all_are s new ops can is =
    let room : length s.held.history + 0 + length ops ≤ s.most = omega (arith, can.room) in
    let alone : held_from s.hold s.most (state_of s.held.history []) ops ≡ state_of (history_with s.held.history ops) [] =
    (takes s.hold s.most ops s.held.history [] (settled_alone s.held.history) (come_alone s.held.history ops can.ready) room).state in
    is ∙ ap (λ z. record s { held = z })
    ((λ i. held_from s.hold s.most (state_of s.held.history (can.quiet i)) ops) ∙ alone ∙ (λ i. state_of (history_with s.held.history ops) (sym can.quiet i)))

-- ---- part by part
pub with_more : (s now new : State) (done more : List Op) → now ≡ with_ops s done → new ≡ with_ops now more → new ≡ with_ops s (done ++ more)
with_more s now new done more was is =
    is ∙ ap (λ (t : State). with_ops t more) was ∙ ap (λ h. record s { held = record { history = h; waiting = s.held.waiting } }) (sym (extended-append s.held.history done more))

pub next_can : (s now : State) (ops done more rest : List Op) → CanAccept s ops → ops ≡ done ++ (more ++ rest) → now ≡ with_ops s done → IsSound now → CanAccept now more
next_can s now ops done more rest can parts was sound =
    let h : List Op = s.held.history in
    let ready : ReadyInTurn h (done ++ (more ++ rest)) = subst (ReadyInTurn h) parts can.ready in
    let here : ReadyInTurn (history_with h done) more = ready_front (history_with h done) more rest (ready_after h done (more ++ rest) ready) in
    let long : length ops ≡ length done + (length more + length rest) = ap length parts ∙ length-append done (more ++ rest) ∙ ap (λ k. length done + k) (length-append more rest) in
    record {
      sound = sound;
      quiet = ap (λ (t : State). t.held.waiting) was ∙ can.quiet;
      ready = subst (λ (t : State). ReadyInTurn t.held.history more) (sym was) here;
      room = omega (arith, can.room, long, ap (λ (t : State). length t.held.history) was, ap (λ (t : State). t.most) was, extended_length h done);
    }

-- the first operations of two parts
pub take-parts : (n : ℕ) (xs ys : List Op) → take n (xs ++ ys) ≡ take n xs ++ take (n - length xs) ys
take-parts zero xs ys = let e : zero - length xs ≡ zero = omega arith in ap (λ k. take k ys) (sym e)
take-parts (suc n) [] ys = let e : suc n ≡ suc n - 0 = omega arith in ap (λ k. take k ys) e
take-parts (suc n) (x ∷ xs) ys = let e : n - length xs ≡ suc n - length (x ∷ xs) = omega arith in ap (λ z. x ∷ z) (take-parts n xs ys ∙ ap (λ k. take n xs ++ take k ys) e)

pub begins : (s : State) (ops : List Op) (count : ℕ) → CanAccept s (take count ops) → IsAccepting s s (take count ops) ops count
begins s ops count can = record { done = []; parts = refl; accepted = refl; sound = can.sound }

module _ (s now : State) (ops rest mid next : List Op) (left : ℕ) (can : CanAccept s ops) (at : IsAccepting s now ops rest left) (is : rest ≡ mid ++ next) where
  here : ops ≡ at.done ++ (take left mid ++ take (left - length mid) next)
  here = at.parts ∙ ap (λ z. at.done ++ z) (ap (take left) is ∙ take-parts left mid next)

  pub some_can : CanAccept now (take left mid)
  some_can = next_can s now ops at.done (take left mid) (take (left - length mid) next) can here at.accepted at.sound

  pub goes_on : (new : State) (count : ℕ) → count ≡ min (length mid) left → new ≡ with_ops now (take left mid) → IsSound new → IsAccepting s new ops next (left - count)
  goes_on new count counted accepted sound =
      let e : left - length mid ≡ left - count = omega (arith, counted) in
      record {
        done = at.done ++ take left mid;
        parts = here ∙ sym (append_assoc at.done (take left mid) (take (left - length mid) next)) ∙ ap (λ k. (at.done ++ take left mid) ++ take k next) e;
        accepted = with_more s now new at.done (take left mid) at.accepted accepted;
        sound = sound;
      }

-- where none is left, or no operation is there, all are accepted
pub ends : (s now : State) (ops rest : List Op) (left : ℕ) → IsAccepting s now ops rest left → take left rest ≡ [] → now ≡ with_ops s ops
ends s now ops rest left at none = at.accepted ∙ ap (with_ops s) (sym (at.parts ∙ ap (λ z. at.done ++ z) none ∙ append-nil at.done))

-- ---- the first operations of a stretch
typed_front : (id s : Identifier) (l r : Option Identifier) (text : List ℕ) (n : ℕ) → in_a_row id s l r (take n text) ≡ take n (in_a_row id s l r text)
typed_front id s l r text zero = refl
typed_front id s l r [] (suc n) = refl
typed_front id s l r (c ∷ text) (suc n) = ap (λ z. Text id s l r c ∷ z) (typed_front (next_id id) s (Some id) r text n)

-- all of a list, or so many
counted : {X : Type 0} → (xs : List X) (count n most : ℕ) → n ≡ length xs → count ≡ min n most → take count xs ≡ take most xs
counted xs count n most long is = let e : count ≡ min most (length xs) = omega (arith, is, long) in ap (λ k. take k xs) e ∙ take_min most xs

pub run_front : (start : RunStart) (text : List ℕ) (count most : ℕ) → count ≡ min (length text) most → run_from start (take count text) ≡ take most (run_from start text)
run_front start text count most is =
    ap (run_from start) (counted text count (length text) most refl is) ∙ typed_front start.id start.section start.left start.right text most

pub deletes_front : (down : Bool) (target : Identifier) (n count most : ℕ) → count ≡ min n most → deletes_by down target count ≡ take most (deletes_by down target n)
deletes_front down target n count most is =
    let parts : count + (n - count) ≡ n = omega (arith, is) in
    let front : List Op = deletes_by down target count in
    let long : length front ≡ count = length-deletes down target count in
    let whole : deletes_by down target n ≡ front ++ deletes_by down (target_by down target count) (n - count) =
    ap (deletes_by down target) (sym parts) ∙ deletes-append down target count (n - count) in
    sym (take-append_seam front (deletes_by down (target_by down target count) (n - count)))
    ∙ (λ i. take (long i) (sym whole i))
    ∙ counted (deletes_by down target n) count n most (sym (length-deletes down target n)) is

-- the next one and those after it
pub next_delete : (down : Bool) (target : Identifier) (n count : ℕ) → n < count
    → deletes_by down target count ≡ deletes_by down target n ++ (Delete (target_by down target n) ∷ [] ++ deletes_by down (target_by down target (n + 1)) (count - (n + 1)))
next_delete down target n count less =
    let parts : n + 1 + (count - (n + 1)) ≡ count = omega (arith, less) in
    ap (deletes_by down target) (sym parts) ∙ deletes-append down target (n + 1) (count - (n + 1))
    ∙ ap (λ z. z ++ deletes_by down (target_by down target (n + 1)) (count - (n + 1))) (deletes_more down target n)
    ∙ append_assoc (deletes_by down target n) (Delete (target_by down target n) ∷ []) (deletes_by down (target_by down target (n + 1)) (count - (n + 1)))
