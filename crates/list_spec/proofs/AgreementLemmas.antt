-- A replica to which everything came has accepted everything, and any two such replicas agree.
use Rattle.std.proofs.Common.{Bool, List, [], ap, false, inl, inr, nat_eq, refl, subst, sym, true, ◌++◌, ◌∙◌, ◌∷◌, ◌≡◌, ◌≢◌, ◌⊎◌, ◌||◌, ℕ}
use Rattle.std.specs.Prelude.{All, flat_map, if◌then◌else◌}
use Rattle.std.specs.List.{Contains}
use Rattle.std.proofs.lemmas.Bool.{cases_Bool, eq-eqb, eqb-false, eqb-true, false≢true, ne_eqb, or_cases, or_left, true≢false}
use Rattle.std.proofs.lemmas.Grind.{flat_map-append}
use Rattle.std.proofs.lemmas.List.Elements.{All-append, All-cons, All-contains, All-head, All-nil, All-tail, All-weaker}
use Rattle.fugue_ids.specs.Ops.{op_eq}
use Rattle.fugue_ids.specs.declared.op.Op.{Op}
use Rattle.fugue_ids.proofs.ListLemmas.{all_before, all_after, all_from_contains}
use Rattle.fugue_ids.proofs.OpLemmas.{op_eq-refl, op_eq-true}
use Rattle.origin_model.specs.operations.History.{has_op}
use Rattle.origin_model.specs.operations.Verdict.{Lawful}
use Rattle.origin_model.specs.order.Laws.{IsPartOf, IsSameText, SameOps}
use Rattle.origin_model.specs.taking.Closure.{Consistent, IsClosed, WithinLimits}
use Rattle.origin_model.specs.taking.Taking.{Answer, Full, Held, IsSettled, TooMany, answer, nothing_held, held_after}
use Rattle.origin_model.specs.edits.Edits.{ReadyInTurn, history_with}
use Rattle.origin_model.specs.edits.State.{State}
use Rattle.origin_model.specs.edits.Effect.{with_ops}
use Rattle.origin_model.proofs.SharedLemmas.{accept_covers, covered_closed, Covers, Covers-same, fold_covers, has-append, has-holder, has-moved, is_own-id, nothing_covers}
use Rattle.origin_model.proofs.SharedLemmas.{nothing_settled, order_by_set, parts_join, same_closed, settles}
use Rattle.origin_model.proofs.edits.UndecidedLemmas.{all_stay}
use Rattle.list_spec.specs.Agreement.{AllAgree, GotEverything, HasEverything, all_answers, answer_at, answers_to, begun, brought, brought_by, where_true}
use Rattle.list_spec.specs.Worlds.{Deliver, Edit, Event, Noting, World, after_event, after_events, after_making, changed_replicas, replica_after_delivery, effect, made_at}
use Rattle.list_spec.specs.Worlds.{note_effect, pool_with, world}
use Rattle.list_spec.proofs.EffectLemmas.{IsEffect, effect_is, note_effect_is}
use Rattle.list_spec.proofs.PoolLemmas.{pool_keeps}
use Rattle.list_spec.proofs.WorldLemmas.{HasOther, IsAt, IsMember, IsSound, event_keeps, event_sound, find_at, none_changes, one_changes, one_makes, world_sound}

-- what came to a replica is accepted, waits, or can never be accepted; and the replica is settled
record Has (came : List Op) (s : Held) : Type 0 where
  covers : Covers came s
  settled : IsSettled s

-- in a lawful history an identifier is that of one operation
lawful_consistent : (h : List Op) → Lawful h → Consistent h
lawful_consistent h w a b i m n e f =
    let q = sym (has-holder h i a w m (is_own-id a i e)) ∙ has-holder h i b w n (is_own-id b i f) in cc q

-- operations that are Ready in turn come to those that came before
makes_covers : (came ops : List Op) (h w : List Op) → Covers came (record { history = h; waiting = w }) → ReadyInTurn h ops
    → Covers (ops ++ came) (record { history = history_with h ops; waiting = w })
makes_covers came [] h w c r = c
makes_covers came (op ∷ ops) h w c r =
    let s : Held = record { history = h; waiting = w } in
    let end : Held = record { history = history_with (op ∷ h) ops; waiting = w } in
    Covers-same (ops ++ op ∷ came) (op ∷ (ops ++ came)) end (has-moved op ops came) (makes_covers (op ∷ came) ops (op ∷ h) w (accept_covers came s op c r.0) r.1)

-- a replica makes operations
makes_has : (came ops : List Op) (s : State) → Has came s.held → IsEffect s ops → Has (ops ++ came) (with_ops s ops).held
makes_has came ops s has e =
    record {
      covers = makes_covers came ops s.held.history s.held.waiting has.covers e.ready;
      settled = all_stay ops s.held.history s.held.waiting e.unknown has.settled;
    }

-- an operation of a lawful pool is delivered to a replica, and meets no limit
delivery_has : (pool came : List Op) (op : Op) (s : State) → Lawful pool → has_op pool op ≡ true → IsPartOf came pool → Has came s.held
    → WithinLimits (answer s.hold s.most s.held op ∷ [])
    → Has (op ∷ came) (replica_after_delivery op s).held
delivery_has pool came op s w m f has l =
    record {
      covers = fold_covers s.hold s.most pool (op ∷ []) came s.held (lawful_consistent pool w)
          (λ x k. elim (or_cases (op_eq op x) (has_op came x) k) [ inl q ↦ subst (λ y. has_op pool y ≡ true) (op_eq-true op x q) m | inr j ↦ f x j ])
          has.covers l;
      settled = settles (held_after (answer s.hold s.most s.held op) s.held op);
    }

-- the replica with the number n has what came
abbrev HasAt : ℕ → List Op → State → Type 0
HasAt n came s = s.number ≡ n → Has came s.held

-- another replica has nothing to have
others_have : (n : ℕ) (came : List Op) (ss : List State) → All (HasOther n) ss → All (HasAt n came) ss
others_have n came ss other = All-weaker (HasOther n) (HasAt n came) (λ s o e. absurd (o e)) ss other

-- the replica with the number n, among the others, has what came
one_has : (n : ℕ) (came : List Op) (front : List State) (s : State) (back : List State) → All (HasOther n) front → All (HasOther n) back → Has came s.held
    → All (HasAt n came) (front ++ s ∷ back)
one_has n came front s back before behind has =
    All-append (HasAt n came) front (s ∷ back) (others_have n came front before) (All-cons (HasAt n came) s back (λ e. has) (others_have n came back behind))

-- the one with the number n among replicas that have what came
had_by : (n : ℕ) (came : List Op) (ss : List State) (k : IsAt n ss) → All (HasAt n came) ss → Has came k.it.held
had_by n came ss k has =
    All-head (HasAt n came) k.it k.back (all_after (HasAt n came) k.front (k.it ∷ k.back) (subst (All (HasAt n came)) k.whole has)) k.number

-- a change of another replica leaves what the one with the number n has
other_changes : (n number : ℕ) (f : State → State) (came : List Op) (ss : List State) → ((s : State) → (f s).number ≡ s.number) → (number ≡ n → ⊥) → All (HasAt n came) ss
    → All (HasAt n came) (changed_replicas number f ss)
other_changes n number f came [] stays other has = All-nil (HasAt n came)
other_changes n number f came (s ∷ ss) stays other has =
    All-cons (HasAt n came) (if nat_eq s.number number then f s else s) (changed_replicas number f ss)
    (elim (cases_Bool (nat_eq s.number number)) [
      | inl t ↦ subst (λ b. HasAt n came (if b then f s else s)) (sym t) (λ e. absurd (other (sym (eqb-true s.number number t) ∙ sym (stays s) ∙ e)))
      | inr t ↦ subst (λ b. HasAt n came (if b then f s else s)) (sym t) (All-head (HasAt n came) s ss has)
    ])
    (other_changes n number f came ss stays other (All-tail (HasAt n came) s ss has))

-- what a replica makes comes to it
making_has : (n : ℕ) (came : List Op) (w : World) (makes : State → List Op) → ((s : State) → Lawful s.held.history → IsEffect s (makes s)) → IsSound w
    → All (HasAt n came) w.replicas
    → All (HasAt n (made_at n makes w.replicas ++ came)) (changed_replicas n (λ (s : State). with_ops s (makes s)) w.replicas)
making_has n came w makes own sound has =
    let made : State → State = λ s. with_ops s (makes s) in
    elim (find_at n w.replicas sound.distinct) [
      | inl a ↦ subst (All (HasAt n (made_at n makes w.replicas ++ came))) (sym (none_changes n made w.replicas a))
          (others_have n (made_at n makes w.replicas ++ came) w.replicas a)
      | inr k ↦
          let all : All (IsMember w.pool) (k.front ++ k.it ∷ k.back) = subst (All (IsMember w.pool)) k.whole sound.members in
          let it : IsMember w.pool k.it = All-head (IsMember w.pool) k.it k.back (all_after (IsMember w.pool) k.front (k.it ∷ k.back) all) in
          let new = makes_has came (makes k.it) k.it (had_by n came w.replicas k has) (own k.it it.lawful) in
          subst (λ ops. All (HasAt n (ops ++ came)) (changed_replicas n made w.replicas)) (sym (one_makes n makes w.replicas k))
          (subst (All (HasAt n (makes k.it ++ came))) (sym (one_changes n made w.replicas k)) (one_has n (makes k.it ++ came) k.front (made k.it) k.back k.before k.behind new))
    ]

-- the answers of the others to a delivery are none
none_answers : (n : ℕ) (op : Op) (ss : List State) → All (HasOther n) ss → answer_at n op ss ≡ []
none_answers n op [] a = refl
none_answers n op (s ∷ ss) a =
    λ i. where_true (ne_eqb s.number n (All-head (HasOther n) s ss a) i) (answer s.hold s.most s.held op ∷ []) ++ none_answers n op ss (All-tail (HasOther n) s ss a) i

-- so the answer is that of the one with the number
one_answers : (n : ℕ) (op : Op) (ss : List State) (k : IsAt n ss) → answer_at n op ss ≡ answer k.it.hold k.it.most k.it.held op ∷ []
one_answers n op ss k =
    let its : List Answer = answer k.it.hold k.it.most k.it.held op ∷ [] in
    let g : State → List Answer = λ s. where_true (nat_eq s.number n) (answer s.hold s.most s.held op ∷ []) in
    ap (flat_map g) k.whole ∙ flat_map-append g k.front (k.it ∷ k.back)
    ∙ (λ i. none_answers n op k.front k.before i ++ (where_true (eq-eqb k.it.number n k.number i) its ++ none_answers n op k.back k.behind i))

-- what is delivered to a replica comes to it
receiving_has : (n : ℕ) (came : List Op) (op : Op) (w : World) → has_op w.pool op ≡ true → IsPartOf came w.pool → IsSound w → WithinLimits (answer_at n op w.replicas)
    → All (HasAt n came) w.replicas
    → All (HasAt n (op ∷ came)) (changed_replicas n (replica_after_delivery op) w.replicas)
receiving_has n came op w m f sound l has =
    elim (find_at n w.replicas sound.distinct) [
      | inl a ↦ subst (All (HasAt n (op ∷ came))) (sym (none_changes n (replica_after_delivery op) w.replicas a)) (others_have n (op ∷ came) w.replicas a)
      | inr k ↦
          let new = delivery_has w.pool came op k.it sound.lawful m f (had_by n came w.replicas k has) (subst WithinLimits (one_answers n op w.replicas k) l) in
          subst (All (HasAt n (op ∷ came))) (sym (one_changes n (replica_after_delivery op) w.replicas k))
          (one_has n (op ∷ came) k.front (replica_after_delivery op k.it) k.back k.before k.behind new)
    ]

-- what a pool takes in it has
pooled_all : (ops pool : List Op) → IsPartOf ops (pool_with pool ops)
pooled_all [] pool x m = absurd (false≢true m)
pooled_all (op ∷ ops) pool x m =
    let more : List Op = if has_op pool op then pool else op ∷ pool in
    elim (or_cases (op_eq op x) (has_op ops x) m) [
      | inl q ↦ pool_keeps more ops x (subst (λ y. has_op more y ≡ true) (op_eq-true op x q) (there (cases_Bool (has_op pool op))))
      | inr j ↦ pooled_all ops more x j
    ]
  where
    there : (has_op pool op ≡ true) ⊎ (has_op pool op ≡ false) → has_op (if has_op pool op then pool else op ∷ pool) op ≡ true
    there (inl t) = subst (λ b. has_op (if b then pool else op ∷ pool) op ≡ true) (sym t) t
    there (inr f) = subst (λ b. has_op (if b then pool else op ∷ pool) op ≡ true) (sym f) (or_left (op_eq op op) (has_op pool op) (op_eq-refl op))

-- what is there where a test holds
part_where : (b : Bool) (xs ys : List Op) → (b ≡ true → IsPartOf xs ys) → IsPartOf (where_true b xs) ys
part_where true xs ys f x m = f refl x m
part_where false xs ys f x m = absurd (false≢true m)

-- what an event brings is in the pool
brought_part : (n : ℕ) (w : World) (event : Event) → IsPartOf (brought_by n w event) (after_event w event).pool
brought_part n w (Edit number command) =
    let ops : List Op = made_at number (λ (s : State). effect s command) w.replicas in part_where (nat_eq number n) ops (pool_with w.pool ops) (λ t. pooled_all ops w.pool)
brought_part n w (Noting number named code body) =
    let ops : List Op = made_at number (λ (s : State). note_effect s named code body) w.replicas in
    part_where (nat_eq number n) ops (pool_with w.pool ops) (λ t. pooled_all ops w.pool)
brought_part n w (Deliver number op) =
    let new : World = record { replicas = changed_replicas number (replica_after_delivery op) w.replicas; pool = w.pool } in
    let after : World = if has_op w.pool op then new else w in
    let same : after.pool ≡ w.pool = elim (has_op w.pool op) as (λ b. (if b then new else w).pool ≡ w.pool) [ true ↦ refl | false ↦ refl ] in
    part_where (nat_eq number n) (where_true (has_op w.pool op) (op ∷ [])) after.pool (λ t.
    part_where (has_op w.pool op) (op ∷ []) after.pool (λ m x k.
    ap (λ l. has_op l x) same ∙ (elim (or_cases (op_eq op x) false k) [ inl q ↦ subst (λ y. has_op w.pool y ≡ true) (op_eq-true op x q) m | inr f ↦ absurd (false≢true f) ])))

-- what an event makes at one replica comes to it, and the others have what they had
event_makes : (n number : ℕ) (came : List Op) (w : World) (makes : State → List Op) → ((s : State) → Lawful s.held.history → IsEffect s (makes s)) → IsSound w
    → All (HasAt n came) w.replicas
    → All (HasAt n (where_true (nat_eq number n) (made_at number makes w.replicas) ++ came)) (after_making w number makes).replicas
event_makes n number came w makes own sound has =
    let made : State → State = λ s. with_ops s (makes s) in
    let Goal : Bool → Type 0 = λ b. All (HasAt n (where_true b (made_at number makes w.replicas) ++ came)) (changed_replicas number made w.replicas) in
    elim (cases_Bool (nat_eq number n)) [
      | inl t ↦ subst Goal (sym t)
          (subst (λ k. All (HasAt n (made_at k makes w.replicas ++ came)) (changed_replicas k made w.replicas)) (sym (eqb-true number n t))
          (making_has n came w makes own sound has))
      | inr f ↦ subst Goal (sym f) (other_changes n number made came w.replicas (λ s. refl) (eqb-false number n f) has)
    ]

-- what an event brings comes to its replica
event_has : (n : ℕ) (came : List Op) (w : World) (event : Event) → IsSound w → IsPartOf came w.pool → WithinLimits (answers_to n w event) → All (HasAt n came) w.replicas
    → All (HasAt n (brought_by n w event ++ came)) (after_event w event).replicas
event_has n came w (Edit number command) sound f l has = event_makes n number came w (λ (s : State). effect s command) (effect_is command) sound has
event_has n came w (Noting number named code body) sound f l has =
    event_makes n number came w (λ (s : State). note_effect s named code body) (note_effect_is named code body) sound has
event_has n came w (Deliver number op) sound f l has =
    let new : World = record { replicas = changed_replicas number (replica_after_delivery op) w.replicas; pool = w.pool } in
    let Goal : Bool → Bool → Type 0 = λ b c. All (HasAt n (where_true b (where_true c (op ∷ [])) ++ came)) (if c then new else w).replicas in
    let Answered : Bool → Bool → Type 0 = λ b c. WithinLimits (where_true b (where_true c (answer_at number op w.replicas))) in
    let unchanged : (b : Bool) → Goal b false = λ b. elim b as (λ b. Goal b false) [ true ↦ has | false ↦ has ] in
    elim (cases_Bool (has_op w.pool op)) [
      | inr g ↦ subst (Goal (nat_eq number n)) (sym g) (unchanged (nat_eq number n))
      | inl m ↦ subst (Goal (nat_eq number n)) (sym m) (elim (cases_Bool (nat_eq number n)) [
        | inl t ↦
            let e : number ≡ n = eqb-true number n t in
            let within : WithinLimits (answer_at number op w.replicas) = subst (λ b. Answered b true) t (subst (Answered (nat_eq number n)) m l) in
            subst (λ b. Goal b true) (sym t)
            (subst (λ k. All (HasAt n (op ∷ came)) (changed_replicas k (replica_after_delivery op) w.replicas)) (sym e)
            (receiving_has n came op w m f sound (subst (λ k. WithinLimits (answer_at k op w.replicas)) e within) has))
        | inr g ↦ subst (λ b. Goal b true) (sym g) (other_changes n number (replica_after_delivery op) came w.replicas (λ s. refl) (eqb-false number n g) has)
      ])
    ]

-- three tests in another order
turned : (a b c : Bool) → (a || (b || c)) ≡ ((b || a) || c)
turned true true c = refl
turned true false c = refl
turned false true c = refl
turned false false c = refl

-- three lists in another order
same_turned : (xs ys zs : List Op) → SameOps (xs ++ (ys ++ zs)) ((ys ++ xs) ++ zs)
same_turned xs ys zs x =
    has-append xs (ys ++ zs) x ∙ ap (λ b. has_op xs x || b) (has-append ys zs x) ∙ turned (has_op xs x) (has_op ys x) (has_op zs x)
    ∙ ap (λ b. b || has_op zs x) (sym (has-append ys xs x)) ∙ sym (has-append (ys ++ xs) zs x)

-- what events bring comes to its replica
events_have : (n : ℕ) (came : List Op) (w : World) (events : List Event) → IsSound w → IsPartOf came w.pool → WithinLimits (all_answers n w events) → All (HasAt n came) w.replicas
    → All (HasAt n (brought n w events ++ came)) (after_events w events).replicas
events_have n came w [] sound f l has = has
events_have n came w (event ∷ events) sound f l has =
    let next : World = after_event w event in
    let P : Answer → Type 0 = λ a. (a ≢ Full) × (a ≢ TooMany) in
    let now : List Op = brought_by n w event in
    let later : List Op = brought n next events in
    let part : IsPartOf (now ++ came) next.pool = parts_join now came next.pool (brought_part n w event) (λ x k. event_keeps w event x (f x k)) in
    let rest : All (HasAt n (later ++ (now ++ came))) (after_events next events).replicas =
    events_have n (now ++ came) next events (event_sound w event sound) part (all_after P (answers_to n w event) (all_answers n next events) l)
    (event_has n came w event sound f (all_before P (answers_to n w event) (all_answers n next events) l) has) in
    All-weaker (HasAt n (later ++ (now ++ came))) (HasAt n ((now ++ later) ++ came)) (λ s h e.
    let k = h e in
    record { covers = Covers-same (later ++ (now ++ came)) ((now ++ later) ++ came) s.held (same_turned later now came) k.covers; settled = k.settled })
    (after_events next events).replicas rest

-- at first nothing came
begun_has : (n : ℕ) (replicas : List State) → All (λ (s : State). s.held ≡ nothing_held) replicas → All (HasAt n []) replicas
begun_has n replicas empty =
    All-weaker (λ (s : State). s.held ≡ nothing_held) (HasAt n []) (λ s e i. subst (Has []) (sym e) (record { covers = nothing_covers; settled = nothing_settled })) replicas empty

-- a replica that got everything has accepted everything
pub has_everything : HasEverything
has_everything replicas events new =
    let w : World = world replicas events in
    let sound : IsSound w = world_sound replicas events new in
    let start : World = begun replicas in
    all_from_contains (λ (s : State). GotEverything replicas events s.number → SameOps s.held.history w.pool) w.replicas (λ s m got.
    let n : ℕ = s.number in
    let came : List Op = brought n start events ++ [] in
    let begins : IsSound start = world_sound replicas [] new in
    let have : All (HasAt n came) w.replicas = events_have n [] start events begins (λ x k. absurd (false≢true k)) got.within_limits (begun_has n replicas new.empty) in
    let has : Has came s.held = All-contains (HasAt n came) w.replicas s have m refl in
    let member : IsMember w.pool s = All-contains (IsMember w.pool) w.replicas s sound.members m in
    let closed : IsClosed came s.held.history = covered_closed came s.held has.covers has.settled in
    same_closed w.pool s.held.history w.pool (lawful_consistent w.pool sound.lawful)
    (record {
      lawful = member.lawful;
      part = member.history_part;
      saturated = λ x k gone v. closed.saturated x (has-append (brought n start events) [] x ∙ or_left (has_op (brought n start events) x) false (got.all x k)) gone v;
    })
    (record { lawful = sound.lawful; part = λ x k. k; saturated = λ x k gone v. true≢false (sym k ∙ gone) }))

-- any two that got everything agree
pub all_agree : AllAgree
all_agree replicas events new =
    let w : World = world replicas events in
    let sound : IsSound w = world_sound replicas events new in
    let Whole : State → Type 0 = λ s. GotEverything replicas events s.number → SameOps s.held.history w.pool in
    let whole : All Whole w.replicas = has_everything replicas events new in
    let lawful : (s : State) → Contains w.replicas s → Lawful s.held.history = λ s m. (All-contains (IsMember w.pool) w.replicas s sound.members m).lawful in
    all_from_contains (λ (s : State). All (λ (t : State). GotEverything replicas events s.number → GotEverything replicas events t.number
    → IsSameText s.held.history t.held.history) w.replicas) w.replicas (λ s m.
    all_from_contains (λ (t : State). GotEverything replicas events s.number → GotEverything replicas events t.number → IsSameText s.held.history t.held.history) w.replicas
    (λ t k g h.
    order_by_set s.held.history t.held.history (lawful s m) (lawful t k) (λ x. All-contains Whole w.replicas s whole m g x ∙ sym (All-contains Whole w.replicas t whole k h x))))
