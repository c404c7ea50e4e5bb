-- What is so of every world: the pool is lawful, and each replica's history is a lawful part of it that has all
-- identifiers which the replica made.
use Rattle.std.proofs.Common.{Bool, List, [], ap, append-nil, false, inl, inr, nat_eq, refl, subst, sym, true, ◌++◌, ◌∙◌, ◌∷◌, ◌≡◌, ◌≢◌, ◌⊎◌, ℕ}
use Rattle.std.specs.Prelude.{All, AllPairs, flat_map, if◌then◌else◌, map}
use Rattle.std.proofs.lemmas.Bool.{cases_Bool, eq-eqb, eqb-true, eqb-false, false≢true, ne_eqb}
use Rattle.std.proofs.lemmas.Grind.{flat_map-append}
use Rattle.std.proofs.lemmas.List.{map-append}
use Rattle.std.proofs.lemmas.List.Elements.{All-append, All-cons, All-head, All-map, All-nil, All-tail, All-weaker}
use Rattle.fugue_ids.specs.declared.op.Op.{Op}
use Rattle.fugue_ids.proofs.ListLemmas.{all_before, all_after, all_from_map, all_pairs_head, all_pairs_tail}
use Rattle.origin_model.specs.operations.History.{has_op}
use Rattle.origin_model.specs.operations.Verdict.{Lawful}
use Rattle.origin_model.specs.order.Laws.{IsPartOf}
use Rattle.origin_model.specs.taking.Taking.{Held, nothing_held}
use Rattle.origin_model.specs.edits.Edits.{id_at}
use Rattle.origin_model.proofs.edits.MadeLemmas.{ready_lawful}
use Rattle.origin_model.specs.edits.State.{State}
use Rattle.origin_model.specs.edits.Effect.{with_ops}
use Rattle.list_spec.specs.Worlds.{AreNew, Deliver, Edit, Event, Noting, World, after_event, after_events, after_making, changed_replicas, replica_after_delivery, effect, made_at}
use Rattle.list_spec.specs.Worlds.{note_effect, numbers, pool_with, world}
use Rattle.list_spec.proofs.DeliveryLemmas.{taking_in}
use Rattle.list_spec.proofs.EffectLemmas.{IsEffect, effect_is, note_effect_is}
use Rattle.list_spec.proofs.PoolLemmas.{HoldsOwn, IsBy, pool_adds, pool_all, pool_keeps}

-- what is so of a replica beside the pool
pub record IsMember (pool : List Op) (s : State) : Type 0 where
  pub lawful : Lawful s.held.history
  pub history_part : IsPartOf s.held.history pool
  pub waiting_part : IsPartOf s.held.waiting pool
  pub own : HoldsOwn s.number s.held.history pool

-- the number is another one
abbrev pub HasOther : ℕ → State → Type 0
HasOther n s = s.number ≢ n

abbrev AreDistinct : List State → Type 0
AreDistinct replicas = AllPairs (λ m n. m ≢ n) (numbers replicas)

-- the replica with the number, among the others
pub record IsAt (n : ℕ) (replicas : List State) : Type 0 where
  pub front : List State
  pub it : State
  pub back : List State
  pub whole : replicas ≡ front ++ it ∷ back
  pub number : it.number ≡ n
  pub before : All (HasOther n) front
  pub behind : All (HasOther n) back

-- there is one at most
pub find_at : (n : ℕ) (replicas : List State) → AreDistinct replicas → All (HasOther n) replicas ⊎ IsAt n replicas
find_at n [] d = inl (All-nil (HasOther n))
find_at n (s ∷ ss) d =
    elim (cases_Bool (nat_eq s.number n)) [
      | inl t ↦
          let e : s.number ≡ n = eqb-true s.number n t in
          let others : All (λ (x : State). s.number ≢ x.number) ss =
          all_from_map (λ (x : State). x.number) (λ m. s.number ≢ m) ss (all_pairs_head (λ m k. m ≢ k) s.number (numbers ss) d) in
          inr (record {
            front = [];
            it = s;
            back = ss;
            whole = refl;
            number = e;
            before = All-nil (HasOther n);
            behind = All-weaker (λ (x : State). s.number ≢ x.number) (HasOther n) (λ x a b. a (e ∙ sym b)) ss others;
          })
      | inr t ↦ elim (find_at n ss (all_pairs_tail (λ m k. m ≢ k) s.number (numbers ss) d)) [
        | inl a ↦ inl (All-cons (HasOther n) s ss (eqb-false s.number n t) a)
        | inr k ↦ inr (record {
          front = s ∷ k.front;
          it = k.it;
          back = k.back;
          whole = ap (λ l. s ∷ l) k.whole;
          number = k.number;
          before = All-cons (HasOther n) s k.front (eqb-false s.number n t) k.before;
          behind = k.behind;
        })
      ]
    ]

-- where no replica has the number, none changes and nothing is made
pub none_changes : (n : ℕ) (f : State → State) (ss : List State) → All (HasOther n) ss → changed_replicas n f ss ≡ ss
none_changes n f [] a = refl
none_changes n f (s ∷ ss) a = λ i. (if ne_eqb s.number n (All-head (HasOther n) s ss a) i then f s else s) ∷ none_changes n f ss (All-tail (HasOther n) s ss a) i

pub none_makes : (n : ℕ) (makes : State → List Op) (ss : List State) → All (HasOther n) ss → made_at n makes ss ≡ []
none_makes n makes [] a = refl
none_makes n makes (s ∷ ss) a = λ i. (if ne_eqb s.number n (All-head (HasOther n) s ss a) i then makes s else []) ++ none_makes n makes ss (All-tail (HasOther n) s ss a) i

-- otherwise that one changes
pub one_changes : (n : ℕ) (f : State → State) (ss : List State) (k : IsAt n ss) → changed_replicas n f ss ≡ k.front ++ f k.it ∷ k.back
one_changes n f ss k =
    let g : State → State = λ s. if nat_eq s.number n then f s else s in
    ap (map g) k.whole ∙ map-append g k.front (k.it ∷ k.back)
    ∙ (λ i. none_changes n f k.front k.before i ++ (if eq-eqb k.it.number n k.number i then f k.it else k.it) ∷ none_changes n f k.back k.behind i)

pub one_makes : (n : ℕ) (makes : State → List Op) (ss : List State) (k : IsAt n ss) → made_at n makes ss ≡ makes k.it
one_makes n makes ss k =
    let g : State → List Op = λ s. if nat_eq s.number n then makes s else [] in
    let at : flat_map g (k.it ∷ k.back) ≡ makes k.it =
    (λ i. (if eq-eqb k.it.number n k.number i then makes k.it else []) ++ none_makes n makes k.back k.behind i) ∙ append-nil (makes k.it) in
    ap (flat_map g) k.whole ∙ flat_map-append g k.front (k.it ∷ k.back) ∙ (λ i. none_makes n makes k.front k.before i ++ at i)

-- a change that keeps numbers keeps those of all
numbers_stay : (n : ℕ) (f : State → State) (ss : List State) → ((s : State) → (f s).number ≡ s.number) → numbers (changed_replicas n f ss) ≡ numbers ss
numbers_stay n f [] e = refl
numbers_stay n f (s ∷ ss) e =
    let here : (b : Bool) → (if b then f s else s).number ≡ s.number = λ b. elim b as (λ b. (if b then f s else s).number ≡ s.number) [ true ↦ e s | false ↦ refl ] in
    λ i. here (nat_eq s.number n) i ∷ numbers_stay n f ss e i

-- what a replica with a lawful history makes is Ready in turn, and its own
abbrev MakesOwn : (State → List Op) → Type 0
MakesOwn makes = (s : State) → Lawful s.held.history → IsEffect s (makes s)

-- the replica that makes operations, and the pool, after them
record IsAfter (pool : List Op) (s : State) : Type 0 where
  lawful : Lawful pool
  member : IsMember pool s

gains : (pool ops : List Op) (s : State) → Lawful pool → IsMember pool s → IsEffect s ops → IsAfter (pool_with pool ops) (with_ops s ops)
gains pool ops s w m e =
    let p = pool_all s.number s.held.history pool ops (record { lawful = w; part = m.history_part; own = m.own }) e.by e.ready in
    record {
      lawful = p.lawful;
      member = record {
        lawful = ready_lawful s.held.history ops m.lawful e.ready;
        history_part = p.part;
        waiting_part = λ x k. pool_keeps pool ops x (m.waiting_part x k);
        own = p.own;
      };
    }

-- another replica
stays : (pool ops : List Op) (n : ℕ) (s : State) → All (IsBy n) ops → HasOther n s → IsMember pool s → IsMember (pool_with pool ops) s
stays pool ops n s by other m =
    record {
      lawful = m.lawful;
      history_part = λ x k. pool_keeps pool ops x (m.history_part x k);
      waiting_part = λ x k. pool_keeps pool ops x (m.waiting_part x k);
      own = λ c k. m.own c (pool_adds n pool ops (id_at s.number c) other by k);
    }

others_stay : (pool ops : List Op) (n : ℕ) (ss : List State) → All (IsBy n) ops → All (HasOther n) ss → All (IsMember pool) ss → All (IsMember (pool_with pool ops)) ss
others_stay pool ops n [] by other m = All-nil (IsMember (pool_with pool ops))
others_stay pool ops n (s ∷ ss) by other m =
    All-cons (IsMember (pool_with pool ops)) s ss (stays pool ops n s by (All-head (HasOther n) s ss other) (All-head (IsMember pool) s ss m))
    (others_stay pool ops n ss by (All-tail (HasOther n) s ss other) (All-tail (IsMember pool) s ss m))

-- what is so of every world
pub record IsSound (w : World) : Type 0 where
  pub lawful : Lawful w.pool
  pub distinct : AllPairs (λ m n. m ≢ n) (numbers w.replicas)
  pub members : All (IsMember w.pool) w.replicas

-- the pool and the members after operations that one replica makes
abbrev Goes : List Op → List State → Type 0
Goes pool replicas = Lawful pool × All (IsMember pool) replicas

making_goes : (w : World) (n : ℕ) (makes : State → List Op) → MakesOwn makes → IsSound w → Goes (after_making w n makes).pool (after_making w n makes).replicas
making_goes w n makes own g =
    let made : State → State = λ s. with_ops s (makes s) in
    elim (find_at n w.replicas g.distinct) [
      | inl a ↦ subst (λ (x : World). Goes x.pool x.replicas)
          (λ i. record { replicas = sym (none_changes n made w.replicas a) i; pool = pool_with w.pool (sym (none_makes n makes w.replicas a) i) })
          (g.lawful, g.members)
      | inr k ↦
          let ops : List Op = makes k.it in
          let all : All (IsMember w.pool) (k.front ++ k.it ∷ k.back) = subst (All (IsMember w.pool)) k.whole g.members in
          let rest : All (IsMember w.pool) (k.it ∷ k.back) = all_after (IsMember w.pool) k.front (k.it ∷ k.back) all in
          let it : IsMember w.pool k.it = All-head (IsMember w.pool) k.it k.back rest in
          let its : IsEffect k.it ops = own k.it it.lawful in
          let by : All (IsBy n) ops = subst (λ m. All (IsBy m) ops) k.number its.by in
          let new = gains w.pool ops k.it g.lawful it its in
          let M : State → Type 0 = IsMember (pool_with w.pool ops) in
          subst (λ (x : World). Goes x.pool x.replicas)
          (λ i. record { replicas = sym (one_changes n made w.replicas k) i; pool = pool_with w.pool (sym (one_makes n makes w.replicas k) i) }) (
            new.lawful,
            All-append M k.front (made k.it ∷ k.back)
                (others_stay w.pool ops n k.front by k.before (all_before (IsMember w.pool) k.front (k.it ∷ k.back) all))
                (All-cons M (made k.it) k.back new.member (others_stay w.pool ops n k.back by k.behind (All-tail (IsMember w.pool) k.it k.back rest))),
          )
    ]

-- a replica after a delivery
receives : (pool : List Op) (op : Op) (s : State) → has_op pool op ≡ true → IsMember pool s → IsMember pool (replica_after_delivery op s)
receives pool op s k m =
    let g = taking_in s.hold s.most pool s.held.history s.held op k
    (record { lawful = m.lawful; history_part = m.history_part; waiting_part = m.waiting_part; keeps = λ i h. h }) in
    record { lawful = g.lawful; history_part = g.history_part; waiting_part = g.waiting_part; own = λ c h. g.keeps (id_at s.number c) (m.own c h) }

receive_all : (pool : List Op) (op : Op) (n : ℕ) (ss : List State) → has_op pool op ≡ true → All (IsMember pool) ss
    → All (IsMember pool) (changed_replicas n (replica_after_delivery op) ss)
receive_all pool op n ss k m =
    All-map (IsMember pool) (λ (s : State). if nat_eq s.number n then replica_after_delivery op s else s) ss
    (All-weaker (IsMember pool) (λ (s : State). IsMember pool (if nat_eq s.number n then replica_after_delivery op s else s))
    (λ s x. elim (nat_eq s.number n) as (λ b. IsMember pool (if b then replica_after_delivery op s else s)) [ true ↦ receives pool op s k x | false ↦ x ]) ss m)

-- what a replica makes keeps a world sound
making_sound : (w : World) (n : ℕ) (makes : State → List Op) → MakesOwn makes → IsSound w → IsSound (after_making w n makes)
making_sound w n makes own g =
    let new = making_goes w n makes own g in
    record {
      lawful = new.0;
      distinct = subst (AllPairs (λ m k. m ≢ k)) (sym (numbers_stay n (λ (s : State). with_ops s (makes s)) w.replicas (λ s. refl))) g.distinct;
      members = new.1;
    }

-- every event keeps a world sound
pub event_sound : (w : World) (event : Event) → IsSound w → IsSound (after_event w event)
event_sound w (Edit n command) g = making_sound w n (λ (s : State). effect s command) (effect_is command) g
event_sound w (Noting n named code body) g = making_sound w n (λ (s : State). note_effect s named code body) (note_effect_is named code body) g
event_sound w (Deliver n op) g =
    let new : World = record { replicas = changed_replicas n (replica_after_delivery op) w.replicas; pool = w.pool } in
    elim (cases_Bool (has_op w.pool op)) [
      | inl t ↦ subst IsSound (sym (ap (λ b. if b then new else w) t))
          (record {
            lawful = g.lawful;
            distinct = subst (AllPairs (λ m k. m ≢ k)) (sym (numbers_stay n (replica_after_delivery op) w.replicas (λ s. refl))) g.distinct;
            members = receive_all w.pool op n w.replicas t g.members;
          })
      | inr t ↦ subst IsSound (sym (ap (λ b. if b then new else w) t)) g
    ]

pub events_sound : (w : World) (events : List Event) → IsSound w → IsSound (after_events w events)
events_sound w [] g = g
events_sound w (event ∷ events) g = events_sound (after_event w event) events (event_sound w event g)

-- a replica that holds nothing
empty_member : (s : State) → s.held ≡ nothing_held → IsMember [] s
empty_member s e =
    subst (λ (x : Held). IsMember [] (record s { held = x })) (sym e)
    (record { lawful = tt; history_part = λ x k. k; waiting_part = λ x k. k; own = λ c k. absurd (false≢true k) })

-- so every world is sound
pub world_sound : (replicas : List State) (events : List Event) → AreNew replicas → IsSound (world replicas events)
world_sound replicas events new =
    events_sound (record { replicas = replicas; pool = [] }) events
    (record { lawful = tt; distinct = new.distinct; members = All-weaker (λ (s : State). s.held ≡ nothing_held) (IsMember []) (λ s e. empty_member s e) replicas new.empty })

-- no event takes from the pool
pub event_keeps : (w : World) (event : Event) → IsPartOf w.pool (after_event w event).pool
event_keeps w (Edit n command) x k = pool_keeps w.pool (made_at n (λ (s : State). effect s command) w.replicas) x k
event_keeps w (Noting n named code body) x k = pool_keeps w.pool (made_at n (λ (s : State). note_effect s named code body) w.replicas) x k
event_keeps w (Deliver n op) x k =
    let new : World = record { replicas = changed_replicas n (replica_after_delivery op) w.replicas; pool = w.pool } in
    elim (has_op w.pool op) as (λ b. has_op (if b then new else w).pool x ≡ true) [ true ↦ k | false ↦ k ]

pub events_keep : (w : World) (events : List Event) → IsPartOf w.pool (after_events w events).pool
events_keep w [] x k = k
events_keep w (event ∷ events) x k = events_keep (after_event w event) events x (event_keeps w event x k)

-- events, and then others
pub events_further : (w : World) (earlier later : List Event) → after_events w (earlier ++ later) ≡ after_events (after_events w earlier) later
events_further w [] later = refl
events_further w (event ∷ earlier) later = events_further (after_event w event) earlier later
