-- Operations that are taken in one after another by one call.
use Rattle.std.proofs.Common.{List, [], ap, append-nil, append_assoc, arith, drop, false, get_or, inl, length, length-append, refl, subst, suc, sym, take, true, zero, ℕ, ◌++◌, ◌+◌}
use Rattle.std.proofs.Common.{◌<◌, ◌^◌, ◌∙◌, ◌∷◌, ◌≡◌, ◌≢◌, ◌≤◌}
use Rattle.std.specs.Prelude.{◌↔◌, All, Contains, Option, Some, flat_map, map, option_to_list}
use Rattle.std.proofs.lemmas.Bool.{false_from_ne_true, true≢false}
use Rattle.std.proofs.lemmas.List.Elements.{All-cons, All-head, All-nil, All-tail, All-weaker}
use Rattle.fugue_ids.specs.Identifiers.{Identifier, id_eq}
use Rattle.fugue_ids.specs.Runs.{id_after, ids_in_a_row, in_a_row, next_id, run_from, start_after, text_by}
use Rattle.fugue_ids.specs.declared.op.Op.{Op}
use Rattle.fugue_ids.specs.declared.op.Op.TheVariants.{Text}
use Rattle.fugue_ids.specs.declared.run.RunStart.{RunStart}
use Rattle.fugue_ids.proofs.IdentifierLemmas.{id_eq-refl, ne-id_eq}
use Rattle.fugue_ids.proofs.ListLemmas.{all_before, all_after, all_from_contains}
use Rattle.fugue_ids.proofs.RunLemmas.{length-typed, none_after, one_after}
use Rattle.origin_model.specs.declared.taking.Tally.{Tally}
use Rattle.origin_model.specs.edits.Effect.{with_ops}
use Rattle.origin_model.specs.edits.RunLaws.{GoesIn}
use Rattle.origin_model.specs.edits.State.{State, IsSound}
use Rattle.origin_model.specs.operations.Counters.{mentioned_ids}
use Rattle.origin_model.specs.operations.History.{has_op, holds, is_own}
use Rattle.origin_model.specs.operations.Verdict.{names, verdict}
use Rattle.origin_model.specs.declared.operations.Verdict.TheVariants.{Ready}
use Rattle.origin_model.specs.taking.Taking.{Accepted, Again, Answer, Full, MeetsNoLimit, Held, IsSettled, TooMany, answer, answers_from, held_from, intake, intake_counted}
use Rattle.origin_model.specs.taking.Taking.{is_kept, kept_from, no_counts, tally_from}
use Rattle.origin_model.proofs.SharedLemmas.{held-append, holds-other, kept-append, kept-no, kept_suffice, own_id, places-append, places-none, places-one, tally-append}
use Rattle.origin_model.proofs.edits.EditIntakeLemmas.{comes}
use Rattle.origin_model.proofs.edits.FreshIdLemmas.{IsUnknown}
use Rattle.origin_model.proofs.edits.RunLemmas.{runs_go_in_whole}
use Rattle.replica_core.specs.Edits.{CanJoin}
use Rattle.replica_core.specs.Feeding.{AreUntouched, GoesAtOnce, StopsFeeding, StopsKeeping, TakesInAll, TakesInSome}
use Rattle.replica_core.specs.Keeping.{LeavesUnkept}
use Rattle.replica_core.specs.Answering.{LeavesAfterFault, total}
use Rattle.replica_core.specs.declared.keeping.FeedFault.{FeedFault}
use Rattle.replica_core.specs.declared.keeping.FeedFault.TheVariants.{NoMemory as FedNoMemory, TooMany as FedTooMany}
use Rattle.replica_core.proofs.FeedLemmas.{fed_quietly}
use Rattle.replica_core.proofs.JoinLemmas.{can_be_accepted, first_can}

-- One list after another

-- none yet
pub takes_none_in : (s : State) (t : Tally) → IsSettled s.held → TakesInAll s s [] t t
takes_none_in s t settled = record {
  has_place = places-none s.hold s.most s.held;
  replica = refl;
  counts = refl;
  settled = settled;
  once = omega arith;
}

-- what was kept of a list after another
pub kept_after : (s mid : State) (a b : List Op) → mid ≡ record s { held = held_from s.hold s.most s.held a }
    → kept_from s.hold s.most s.held a ++ kept_from mid.hold mid.most mid.held b ≡ kept_from s.hold s.most s.held (a ++ b)
kept_after s mid a b is =
    ap (λ (m : State). kept_from s.hold s.most s.held a ++ kept_from m.hold m.most m.held b) is ∙ kept-append s.hold s.most s.held a b

-- one list and then another
pub takes_on : (s mid new : State) (a b : List Op) (t u v : Tally) → TakesInAll s mid a t u → TakesInAll mid new b u v → TakesInAll s new (a ++ b) t v
takes_on s mid new a b t u v first then =
    let held : Held = held_from s.hold s.most s.held a in
    let reached : State = record s { held = held } in
    let next : TakesInAll reached new b u v = subst (λ (m : State). TakesInAll m new b u v) first.replica then in
    let waiting : length mid.held.waiting ≡ length held.waiting = ap (λ (m : State). length m.held.waiting) first.replica in
    record {
      has_place = places-append s.hold s.most s.held a b first.has_place next.has_place;
      replica = next.replica ∙ ap (λ (h : Held). record s { held = h }) (held-append s.hold s.most s.held a b);
      counts = next.counts ∙ ap (tally_from s.hold s.most held b) first.counts ∙ tally-append s.hold s.most s.held a b t;
      settled = next.settled;
      once = let o : total u + length mid.held.waiting ≡ total t + length s.held.waiting + length a = first.once in
          let p : total v + length new.held.waiting ≡ total u + length held.waiting + length b = next.once in
          omega (arith, o, p, waiting, length-append a b);
    }

-- one operation
pub takes_one : (s new : State) (op : Op) (t u : Tally) → answer s.hold s.most s.held op ≢ TooMany → new ≡ record s { held = intake s.hold s.most s.held op }
    → u ≡ intake_counted s.hold s.most s.held op t → IsSettled new.held → total u + length new.held.waiting ≡ total t + length s.held.waiting + 1 → TakesInAll s new (op ∷ []) t u
takes_one s new op t u place is counted settled once = record {
  has_place = places-one s.hold s.most s.held op place;
  replica = is;
  counts = counted;
  settled = settled;
  once = omega (arith, once);
}

-- A fault after operations that were taken in

-- at the first one
pub stops_some : (s : State) (op : Op) (more : List Op) (t : Tally) (fault : FeedFault) → IsSettled s.held
    → (fault ≡ FedTooMany s.most) ↔ (answer s.hold s.most s.held op ≡ TooMany)
    → TakesInSome (op ∷ more) s t fault
stops_some s op more t fault settled many =
    record { front = []; op = op; more = more; parts = refl; reached = s; counts = t; taken = takes_none_in s t settled; too_many = many }

-- further on
pub some_after : (s mid : State) (a b : List Op) (t u : Tally) (fault : FeedFault) → TakesInAll s mid a t u → TakesInSome b mid u fault → TakesInSome (a ++ b) s t fault
some_after s mid a b t u fault first some =
    let most : mid.most ≡ s.most = ap (λ (m : State). m.most) first.replica in
    record {
      front = a ++ some.front;
      op = some.op;
      more = some.more;
      parts = ap (λ (z : List Op). a ++ z) some.parts ∙ sym (append_assoc a some.front (some.op ∷ some.more));
      reached = some.reached;
      counts = some.counts;
      taken = takes_on s mid some.reached a some.front t u some.counts first some.taken;
      too_many = subst (λ (n : ℕ). (fault ≡ FedTooMany n) ↔ (answer some.reached.hold some.reached.most some.reached.held some.op ≡ TooMany)) most some.too_many;
    }

-- the first one
pub first_stops : (s new : State) (op : Op) (more : List Op) (t u : Tally) (fault : FeedFault) → IsSettled s.held
    → (fault ≡ FedTooMany s.most) ↔ (answer s.hold s.most s.held op ≡ TooMany) → LeavesAfterFault s new op t u fault
    → StopsFeeding (op ∷ more) s new t u fault
unfolding stops_some
first_stops s new op more t u fault settled many leaves = record { some = stops_some s op more t fault settled many; leaves = leaves }

pub first_unkept : (s new : State) (op : Op) (more : List Op) (t u : Tally) (kept kept_new : List Op) (fault : FeedFault) → IsSettled s.held
    → (fault ≡ FedTooMany s.most) ↔ (answer s.hold s.most s.held op ≡ TooMany)
    → LeavesUnkept s new op t u fault → kept_new ≡ kept → StopsKeeping (op ∷ more) s new t u kept kept_new fault
unfolding stops_some
first_unkept s new op more t u kept kept_new fault settled many leaves unkept =
    record { some = stops_some s op more t fault settled many; leaves = leaves; kept_are = unkept ∙ sym (append-nil kept) }

-- one further on
pub stops_on : (s mid new : State) (a b : List Op) (t u v : Tally) (fault : FeedFault) → TakesInAll s mid a t u → StopsFeeding b mid new u v fault
    → StopsFeeding (a ++ b) s new t v fault
unfolding some_after
stops_on s mid new a b t u v fault first stops = record { some = some_after s mid a b t u fault first stops.some; leaves = stops.leaves }

pub unkept_on : (s mid new : State) (a b : List Op) (t u v : Tally) (kept kept_mid kept_new : List Op) (fault : FeedFault) → TakesInAll s mid a t u
    → kept_mid ≡ kept ++ kept_from s.hold s.most s.held a
    → StopsKeeping b mid new u v kept_mid kept_new fault → StopsKeeping (a ++ b) s new t v kept kept_new fault
unfolding some_after
unkept_on s mid new a b t u v kept kept_mid kept_new fault first is stops =
    let front : List Op = stops.some.front in
    record {
      some = some_after s mid a b t u fault first stops.some;
      leaves = stops.leaves;
      kept_are = stops.kept_are ∙ ap (λ (z : List Op). z ++ kept_from mid.hold mid.most mid.held front) is
          ∙ append_assoc kept (kept_from s.hold s.most s.held a) (kept_from mid.hold mid.most mid.held front)
          ∙ ap (λ (z : List Op). kept ++ z) (kept_after s mid a front first.replica);
    }

-- on the way through a run: the first letters were taken in, and these are left
pub record IsFeeding (s : State) (t : Tally) (ops : List Op) (now : State) (counts : Tally) (next : RunStart) (rest : List ℕ) : Type 0 where
  pub done : List Op
  pub parts : ops ≡ done ++ run_from next rest
  pub taken : TakesInAll s now done t counts
  pub sound : IsSound now
  pub counters : 0 < length rest → next.id.counter + length rest ≤ 2 ^ 32
  pub few : total counts + length now.held.waiting + length rest ≤ 2 ^ 31

pub feeding : (s : State) (t : Tally) (start : RunStart) (text : List ℕ) → IsSound s → IsSettled s.held → start.id.counter + length text ≤ 2 ^ 32
    → total t + length s.held.waiting + length text ≤ 2 ^ 31
    → IsFeeding s t (run_from start text) s t start text
feeding s t start text sound settled counters few = record { done = []; parts = refl; taken = takes_none_in s t settled; sound = sound; counters = λ some. counters; few = few }

pub length-front : (text : List ℕ) (n : ℕ) → n ≤ length text → length (take n text) ≡ n
length-front text zero l = refl
length-front [] (suc n) l = absurd (omega (arith, l))
length-front (c ∷ text) (suc n) l = ap suc (length-front text n (omega (arith, l)))

length-back : (text : List ℕ) (n : ℕ) → n ≤ length text → length (drop n text) + n ≡ length text
length-back text zero l = omega arith
length-back [] (suc n) l = absurd (omega (arith, l))
length-back (c ∷ text) (suc n) l = let rest = length-back text n (omega (arith, l)) in omega (arith, rest)

pub length-run : (start : RunStart) (text : List ℕ) → length (run_from start text) ≡ length text
length-run start text = length-typed start.id start.section start.left start.right text

-- a front more
pub fed_on : (s now new : State) (t counts after : Tally) (ops : List Op) (start next : RunStart) (text front rest : List ℕ) (n : ℕ) → IsFeeding s t ops now counts start text
    → n ≤ length text → TakesInAll now new (run_from start (take n text)) counts after → IsSound new → front ≡ take n text → rest ≡ drop n text
    → run_from start text ≡ run_from start front ++ run_from next rest → (n < length text → next ≡ start_after start n)
    → IsFeeding s t ops new after next rest
fed_on s now new t counts after ops start next text front rest n f within took sound is others whole behind =
    let run : List Op = run_from start (take n text) in
    let few : total counts + length now.held.waiting + length text ≤ 2 ^ 31 = f.few in
    let once : total after + length new.held.waiting ≡ total counts + length now.held.waiting + length run = took.once in
    let same : length run ≡ n = length-run start (take n text) ∙ length-front text n within in
    let back = length-back text n within in
    record {
      done = f.done ++ run;
      parts = f.parts ∙ ap (λ (z : List Op). f.done ++ z) (whole ∙ ap (λ (z : List ℕ). run_from start z ++ run_from next rest) is)
          ∙ sym (append_assoc f.done run (run_from next rest));
      taken = takes_on s now new f.done run t counts after f.taken took;
      sound = sound;
      counters = λ left.
          let less : n < length text = omega (arith, left, back, ap length others) in
          let at : next.id.counter ≡ start.id.counter + n = ap (λ (r : RunStart). r.id.counter) (behind less) in
          let fits : start.id.counter + length text ≤ 2 ^ 32 = f.counters (omega (arith, less)) in
          omega (arith, at, fits, back, ap length others);
      few = omega (arith, few, once, same, back, ap length others);
    }

-- all letters
pub fed_all : (s now : State) (t counts : Tally) (ops : List Op) (next : RunStart) (rest : List ℕ) → IsFeeding s t ops now counts next rest → length rest ≡ 0
    → TakesInAll s now ops t counts
fed_all s now t counts ops next [] f none = subst (λ (z : List Op). TakesInAll s now z t counts) (sym (f.parts ∙ append-nil f.done)) f.taken
fed_all s now t counts ops next (c ∷ rest) f none = absurd (omega (arith, none))

-- not all
pub fed_some : (s now new : State) (t counts after : Tally) (ops : List Op) (next : RunStart) (rest : List ℕ) (fault : FeedFault) → IsFeeding s t ops now counts next rest
    → StopsFeeding (run_from next rest) now new counts after fault → StopsFeeding ops s new t after fault
unfolding some_after
fed_some s now new t counts after ops next rest fault f stops =
    subst (λ (z : List Op). StopsFeeding z s new t after fault) (sym f.parts)
    (record { some = some_after s now f.done (run_from next rest) t counts fault f.taken stops.some; leaves = stops.leaves })

-- and what was kept of them
pub record IsKeeping (s : State) (t : Tally) (kept ops : List Op) (now : State) (counts : Tally) (kept_now : List Op) (next : RunStart) (rest : List ℕ) : Type 0 where
  pub feeds : IsFeeding s t ops now counts next rest
  pub kept_are : kept_now ≡ kept ++ kept_from s.hold s.most s.held feeds.done

pub keeping : (s : State) (t : Tally) (kept : List Op) (start : RunStart) (text : List ℕ) → IsSound s → IsSettled s.held → start.id.counter + length text ≤ 2 ^ 32
    → total t + length s.held.waiting + length text ≤ 2 ^ 31 → IsKeeping s t kept (run_from start text) s t kept start text
unfolding feeding
keeping s t kept start text sound settled counters few = record { feeds = feeding s t start text sound settled counters few; kept_are = sym (append-nil kept) }

pub kept_on : (s now new : State) (t counts after : Tally) (kept kept_now kept_new ops : List Op) (start next : RunStart) (text front rest : List ℕ) (n : ℕ)
    → IsKeeping s t kept ops now counts kept_now start text
    → n ≤ length text → TakesInAll now new (run_from start (take n text)) counts after → IsSound new
    → kept_new ≡ kept_now ++ kept_from now.hold now.most now.held (run_from start (take n text))
    → front ≡ take n text → rest ≡ drop n text
    → run_from start text ≡ run_from start front ++ run_from next rest → (n < length text → next ≡ start_after start n)
    → IsKeeping s t kept ops new after kept_new next rest
unfolding fed_on
kept_on s now new t counts after kept kept_now kept_new ops start next text front rest n k within took sound more is others whole behind =
    let run : List Op = run_from start (take n text) in
    let done : List Op = k.feeds.done in
    record {
      feeds = fed_on s now new t counts after ops start next text front rest n k.feeds within took sound is others whole behind;
      kept_are = more ∙ ap (λ (z : List Op). z ++ kept_from now.hold now.most now.held run) k.kept_are
          ∙ append_assoc kept (kept_from s.hold s.most s.held done) (kept_from now.hold now.most now.held run)
          ∙ ap (λ (z : List Op). kept ++ z) (kept_after s now done run k.feeds.taken.replica);
    }

pub kept_all : (s now : State) (t counts : Tally) (kept kept_now ops : List Op) (next : RunStart) (rest : List ℕ) → IsKeeping s t kept ops now counts kept_now next rest
    → length rest ≡ 0
    → kept_now ≡ kept ++ kept_from s.hold s.most s.held ops
kept_all s now t counts kept kept_now ops next [] k none =
    k.kept_are ∙ ap (λ (z : List Op). kept ++ kept_from s.hold s.most s.held z) (sym (k.feeds.parts ∙ append-nil k.feeds.done))
kept_all s now t counts kept kept_now ops next (c ∷ rest) k none = absurd (omega (arith, none))

pub kept_some : (s now new : State) (t counts after : Tally) (kept kept_now kept_new ops : List Op) (next : RunStart) (rest : List ℕ) (fault : FeedFault)
    → IsKeeping s t kept ops now counts kept_now next rest
    → StopsKeeping (run_from next rest) now new counts after kept_now kept_new fault → StopsKeeping ops s new t after kept kept_new fault
unfolding some_after
kept_some s now new t counts after kept kept_now kept_new ops next rest fault k stops =
    let f = k.feeds in
    subst (λ (z : List Op). StopsKeeping z s new t after kept kept_new fault) (sym f.parts)
    (record {
      some = some_after s now f.done (run_from next rest) t counts fault f.taken stops.some;
      leaves = stops.leaves;
      kept_are = stops.kept_are ∙ ap (λ (z : List Op). z ++ kept_from now.hold now.most now.held stops.some.front) k.kept_are
          ∙ append_assoc kept (kept_from s.hold s.most s.held f.done) (kept_from now.hold now.most now.held stops.some.front)
          ∙ ap (λ (z : List Op). kept ++ z) (kept_after s now f.done stops.some.front f.taken.replica);
    })

-- A run that goes in at once

-- what is so of each identifier of a run
each_id : (P : Identifier → Type 0) (id : Identifier) (text : List ℕ) → ((k : ℕ) → k < length text → P (id_after id k)) → All P (ids_in_a_row id text)
each_id P id [] each = All-nil P
each_id P id (c ∷ text) each =
    All-cons P id (ids_in_a_row (next_id id) text) (subst P (none_after id) (each 0 (omega arith)))
    (each_id P (next_id id) text (λ k l. subst P (sym (one_after id k)) (each (suc k) (omega (arith, l)))))

-- what operations neither have nor name is held by none of them
unheld : (w : List Op) (x : Identifier) → (Contains (flat_map mentioned_ids w) x → ⊥) → holds w x ≡ false
unheld w x none = by_each w
    (all_from_contains (λ i. id_eq x i ≡ false) (flat_map mentioned_ids w) (λ i m. ne-id_eq x i (λ e. none (subst (Contains (flat_map mentioned_ids w)) (sym e) m))))
  where
    by_each : (w : List Op) → All (λ i. id_eq x i ≡ false) (flat_map mentioned_ids w) → holds w x ≡ false
    by_each [] a = refl
    by_each (o ∷ w) a =
        let P : Identifier → Type 0 = λ i. id_eq x i ≡ false in
        let named : List Identifier = map (λ named. named.0) (names o) in
        let own : is_own x o ≡ false = false_from_ne_true _ (λ t. true≢false (sym (id_eq-refl x) ∙
        first_of P x named (subst (λ z. All P (option_to_list z ++ named)) (own_id o x t) (all_before P (mentioned_ids o) (flat_map mentioned_ids w) a)))) in
        holds-other o w x own ∙ by_each w (all_after P (mentioned_ids o) (flat_map mentioned_ids w) a)
      where
        first_of : (P : Identifier → Type 0) (i : Identifier) (is : List Identifier) → All P (i ∷ is) → P i
        first_of P i is a = a 0 i (omega arith)

unknown_run : (id s : Identifier) (l r : Option Identifier) (text : List ℕ) (w : List Op) → ((k : ℕ) → k < length text → Contains (flat_map mentioned_ids w) (id_after id k) → ⊥)
    → All (IsUnknown w) (in_a_row id s l r text)
unknown_run id s l r [] w each = All-nil (IsUnknown w)
unknown_run id s l r (c ∷ text) w each =
    let none : Contains (flat_map mentioned_ids w) id → ⊥ = λ m. each 0 (omega arith) (subst (Contains (flat_map mentioned_ids w)) (sym (none_after id)) m) in
    All-cons (IsUnknown w) (Text id s l r c) (in_a_row (next_id id) s (Some id) r text) (
      unheld w id none,
      all_from_contains (λ i. id_eq id i ≡ false) (flat_map mentioned_ids w)
          (λ i m. ne-id_eq id i (λ e. none (subst (Contains (flat_map mentioned_ids w)) (sym e) m))),
    )
    (unknown_run (next_id id) s (Some id) r text w (λ k l m. each (suc k) (omega (arith, l)) (subst (Contains (flat_map mentioned_ids w)) (one_after id k) m)))

-- a run that is untouched and whose first letter is Ready does
at_once : (s : State) (start : RunStart) (ch : ℕ) (text : List ℕ) → IsSound s → IsSettled s.held → AreUntouched s.held start.id (length (ch ∷ text))
    → verdict s.held.history (text_by start ch) ≡ Ready
    → length s.held.history + length s.held.waiting + length (ch ∷ text) ≤ s.most → GoesAtOnce s (run_from start (ch ∷ text))
at_once s start ch text sound settled u ready room =
    let run : List Op = run_from start (ch ∷ text) in
    let none : (k : ℕ) → k < length (ch ∷ text) → Contains (flat_map mentioned_ids s.held.waiting) (id_after start.id k)
    → ⊥ = λ k l m. u.unnamed (record { k = k; within = l; found = m }) in
    let goes : GoesIn s.hold s.most s.held start ch text = runs_go_in_whole s.hold s.most s.held start ch text (record {
      lawful = sound.lawful;
      settled = settled;
      free = each_id (λ x. holds s.held.history x ≡ false) start.id (ch ∷ text) u.unheld;
      ready = ready;
      unnamed = each_id (λ x. Contains (flat_map mentioned_ids s.held.waiting) x → ⊥) start.id (ch ∷ text) none;
      room = room;
    }) in
    let again = kept_suffice s.hold s.most s.held run settled in
    let place : MeetsNoLimit s.hold s.most s.held (kept_from s.hold s.most s.held run) =
    All-weaker (λ (a : Answer). (a ≢ Full) × (a ≢ TooMany)) (λ (a : Answer). a ≢ TooMany) (λ a b. b.1)
    (answers_from s.hold s.most s.held (kept_from s.hold s.most s.held run)) again.within_limits in
    let many : length run ≡ length (ch ∷ text) = length-run start (ch ∷ text) in
    record {
      can = record {
        settled = settled;
        in_turn = comes run s.held.history s.held.waiting settled goes.ready (unknown_run start.id start.section start.left start.right (ch ∷ text) s.held.waiting none);
        room = omega (arith, room, many);
      };
      has_place = subst (MeetsNoLimit s.hold s.most s.held) goes.kept place;
      held = goes.held;
      settled = goes.settled;
      kept = goes.kept;
      counted = λ t. goes.counted t ∙ (λ i. record t { accepted = t.accepted + sym many i });
    }

first_of_text : (text : List ℕ) (n ch : ℕ) → 0 < n → n ≤ length text → ch ≡ get_or text 0 ch → take n text ≡ ch ∷ drop 1 (take n text)
first_of_text [] n ch some within is = absurd (omega (arith, some, within))
first_of_text (c ∷ text) zero ch some within is = absurd (omega (arith, some))
first_of_text (c ∷ text) (suc n) ch some within is = ap (λ (z : ℕ). z ∷ take n text) (sym is)

-- the front of a text that is untouched
pub goes_at_once : (s : State) (start : RunStart) (text : List ℕ) (n ch : ℕ) → IsSound s → IsSettled s.held → 0 < n → n ≤ length text → ch ≡ get_or text 0 ch
    → AreUntouched s.held start.id n
    → verdict s.held.history (text_by start ch) ≡ Ready → length s.held.history + length s.held.waiting + n ≤ s.most → GoesAtOnce s (run_from start (take n text))
goes_at_once s start text n ch sound settled some within is u ready room =
    let front : List ℕ = take n text in
    let split : front ≡ ch ∷ drop 1 front = first_of_text text n ch some within is in
    let many : length (ch ∷ drop 1 front) ≡ n = ap length (sym split) ∙ length-front text n within in
    subst (λ (z : List ℕ). GoesAtOnce s (run_from start z)) (sym split)
    (at_once s start ch (drop 1 front) sound settled (subst (AreUntouched s.held start.id) (sym many) u) ready (omega (arith, room, many)))

-- it is taken in, and counted
pub joins_all : (s new : State) (ops : List Op) (t u : Tally) (n : ℕ) → GoesAtOnce s ops → new ≡ with_ops s ops → n ≡ length ops → u ≡ record t { accepted = t.accepted + n }
    → TakesInAll s new ops t u
joins_all s new ops t u n goes is many counted =
    let held_is : new.held ≡ held_from s.hold s.most s.held ops = ap (λ (x : State). x.held) is ∙ sym goes.held in
    let more : u ≡ record t { accepted = t.accepted + length ops } = counted ∙ (λ i. record t { accepted = t.accepted + many i }) in
    let waiting : length new.held.waiting ≡ length s.held.waiting = ap (λ (x : State). length x.held.waiting) is in
    let totals : total u ≡ total (record t { accepted = t.accepted + length ops }) = ap total more in
    record {
      has_place = goes.has_place;
      replica = is ∙ ap (λ (h : Held). record s { held = h }) (sym goes.held);
      counts = more ∙ sym (goes.counted t);
      settled = subst IsSettled (sym held_is) goes.settled;
      once = omega (arith, waiting, totals);
    }

-- where memory runs out for it, its first operation would be kept
pub stops_joining : (s new : State) (op : Op) (ops more : List Op) (t : Tally) → CanJoin s (op ∷ ops) → new ≡ s → StopsFeeding (op ∷ more) s new t t FedNoMemory
unfolding stops_some
stops_joining s new op ops more t can is =
    let accepted : answer s.hold s.most s.held op ≡ Accepted = can_be_accepted s op (first_can s op ops can) in
    record {
      some = stops_some s op more t FedNoMemory can.settled (λ e. cc, λ many. cc);
      leaves = (ap is_kept accepted, is ∙ ap (λ (x : State). record s { held = x.held }) (sym is), inl (is, refl));
    }

pub stops_copying : (s new : State) (op : Op) (ops more : List Op) (t : Tally) (kept kept_new : List Op) → CanJoin s (op ∷ ops) → new ≡ s → kept_new ≡ kept
    → StopsKeeping (op ∷ more) s new t t kept kept_new FedNoMemory
unfolding stops_some
stops_copying s new op ops more t kept kept_new can is same =
    let accepted : answer s.hold s.most s.held op ≡ Accepted = can_be_accepted s op (first_can s op ops can) in
    record {
      some = stops_some s op more t FedNoMemory can.settled (λ e. cc, λ many. cc);
      leaves = (is ∙ ap (λ (x : State). record s { held = x.held }) (sym is), inl (is, refl), λ many. cc);
      kept_are = same ∙ sym (append-nil kept);
    }

-- a front of a run that goes in at once, and memory runs out for it
pub run_stops : (s new : State) (start : RunStart) (text : List ℕ) (n : ℕ) (t : Tally) → 0 < n → n ≤ length text → GoesAtOnce s (run_from start (take n text)) → new ≡ s
    → StopsFeeding (run_from start text) s new t t FedNoMemory
run_stops s new start [] n t some within goes is = absurd (omega (arith, some, within))
run_stops s new start (c ∷ text) zero t some within goes is = absurd (omega (arith, some))
run_stops s new start (c ∷ text) (suc n) t some within goes is =
    stops_joining s new (text_by start c) (in_a_row (next_id start.id) start.section (Some start.id) start.right (take n text))
    (in_a_row (next_id start.id) start.section (Some start.id) start.right text) t goes.can is

pub copies_stop : (s new : State) (start : RunStart) (text : List ℕ) (n : ℕ) (t : Tally) (kept kept_new : List Op) → 0 < n → n ≤ length text
    → GoesAtOnce s (run_from start (take n text)) → new ≡ s → kept_new ≡ kept
    → StopsKeeping (run_from start text) s new t t kept kept_new FedNoMemory
copies_stop s new start [] n t kept kept_new some within goes is same = absurd (omega (arith, some, within))
copies_stop s new start (c ∷ text) zero t kept kept_new some within goes is same = absurd (omega (arith, some))
copies_stop s new start (c ∷ text) (suc n) t kept kept_new some within goes is same =
    stops_copying s new (text_by start c) (in_a_row (next_id start.id) start.section (Some start.id) start.right (take n text))
    (in_a_row (next_id start.id) start.section (Some start.id) start.right text) t kept kept_new goes.can
    is same

-- its operations are taken in
pub run_joins : (s new : State) (start : RunStart) (text : List ℕ) (n : ℕ) (t : Tally) → n ≤ length text → GoesAtOnce s (run_from start (take n text))
    → new ≡ with_ops s (run_from start (take n text))
    → TakesInAll s new (run_from start (take n text)) t (record t { accepted = t.accepted + n })
run_joins s new start text n t within goes is =
    let many : length (run_from start (take n text)) ≡ n = length-run start (take n text) ∙ length-front text n within in
    joins_all s new (run_from start (take n text)) t (record t { accepted = t.accepted + n }) n goes is (sym many) refl

-- The first letter of a run, alone

first_letter : (start : RunStart) (text : List ℕ) (ch : ℕ) → 0 < length text → ch ≡ get_or text 0 ch
    → (run_from start text ≡ text_by start ch ∷ in_a_row (next_id start.id) start.section (Some start.id) start.right (drop 1 text))
    × (run_from start (take 1 text) ≡ text_by start ch ∷ [])
first_letter start [] ch some is = absurd (omega (arith, some))
first_letter start (c ∷ text) ch some is =
    (ap (λ (z : ℕ). text_by start z ∷ in_a_row (next_id start.id) start.section (Some start.id) start.right text) (sym is), ap (λ (z : ℕ). text_by start z ∷ []) (sym is))

pub letter_fed : (s new : State) (start : RunStart) (text : List ℕ) (ch : ℕ) (op : Op) (t u : Tally) → 0 < length text → ch ≡ get_or text 0 ch → op ≡ text_by start ch
    → TakesInAll s new (op ∷ []) t u
    → TakesInAll s new (run_from start (take 1 text)) t u
letter_fed s new start text ch op t u some is same takes =
    subst (λ (z : List Op). TakesInAll s new z t u) (ap (λ (o : Op). o ∷ []) same ∙ sym (first_letter start text ch some is).1) takes

pub letter_stops : (s new : State) (start : RunStart) (text : List ℕ) (ch : ℕ) (op : Op) (t u : Tally) (fault : FeedFault) → IsSettled s.held → 0 < length text
    → ch ≡ get_or text 0 ch → op ≡ text_by start ch
    → (fault ≡ FedTooMany s.most) ↔ (answer s.hold s.most s.held op ≡ TooMany) → LeavesAfterFault s new op t u fault → StopsFeeding (run_from start text) s new t u fault
unfolding stops_some
letter_stops s new start text ch op t u fault settled some is same many leaves =
    let rest : List Op = in_a_row (next_id start.id) start.section (Some start.id) start.right (drop 1 text) in
    subst (λ (z : List Op). StopsFeeding z s new t u fault) (ap (λ (o : Op). o ∷ rest) same ∙ sym (first_letter start text ch some is).0) (at op rest many leaves)
  where
    at : (op : Op) (rest : List Op) → (fault ≡ FedTooMany s.most) ↔ (answer s.hold s.most s.held op ≡ TooMany) → LeavesAfterFault s new op t u fault
        → StopsFeeding (op ∷ rest) s new t u fault
    at op rest many leaves = record { some = stops_some s op rest t fault settled many; leaves = leaves }

pub letter_unkept : (s new : State) (start : RunStart) (text : List ℕ) (ch : ℕ) (op : Op) (t u : Tally) (kept kept_new : List Op) (fault : FeedFault) → IsSettled s.held
    → 0 < length text → ch ≡ get_or text 0 ch
    → op ≡ text_by start ch → (fault ≡ FedTooMany s.most) ↔ (answer s.hold s.most s.held op ≡ TooMany) → LeavesUnkept s new op t u fault → kept_new ≡ kept
    → StopsKeeping (run_from start text) s new t u kept kept_new fault
unfolding stops_some
letter_unkept s new start text ch op t u kept kept_new fault settled some is same many leaves unkept =
    let rest : List Op = in_a_row (next_id start.id) start.section (Some start.id) start.right (drop 1 text) in
    subst (λ (z : List Op). StopsKeeping z s new t u kept kept_new fault) (ap (λ (o : Op). o ∷ rest) same ∙ sym (first_letter start text ch some is).0) (at op rest many leaves)
  where
    at : (op : Op) (rest : List Op) → (fault ≡ FedTooMany s.most) ↔ (answer s.hold s.most s.held op ≡ TooMany) → LeavesUnkept s new op t u fault
        → StopsKeeping (op ∷ rest) s new t u kept kept_new fault
    at op rest many leaves = record { some = stops_some s op rest t fault settled many; leaves = leaves; kept_are = unkept ∙ sym (append-nil kept) }

-- Operations that are accepted already

-- what becomes of them
record IsRepeated (hold most : ℕ) (s : Held) (ops : List Op) : Type 0 where
  place : MeetsNoLimit hold most s ops
  held : held_from hold most s ops ≡ s
  kept : kept_from hold most s ops ≡ []
  counted : (t : Tally) → tally_from hold most s ops t ≡ record t { repeated = t.repeated + length ops }

repeated_all : (hold most : ℕ) (s : Held) (ops : List Op) → IsSettled s → All (λ op. has_op s.history op ≡ true) ops → IsRepeated hold most s ops
repeated_all hold most s [] settled there = record {
  place = places-none hold most s;
  held = refl;
  kept = refl;
  counted = λ t. let e : t.repeated ≡ t.repeated + 0 = omega arith in λ i. record t { repeated = e i };
}
repeated_all hold most s (op ∷ ops) settled there =
    let here : has_op s.history op ≡ true = All-head (λ o. has_op s.history o ≡ true) op ops there in
    let rest : IsRepeated hold most s ops = repeated_all hold most s ops settled (All-tail (λ o. has_op s.history o ≡ true) op ops there) in
    let again : answer hold most s op ≡ Again = repeated_one hold most s op here in
    let same : intake hold most s op ≡ s = sym (fed_quietly hold most s op Again no_counts again settled).held in
    record {
      place = All-cons (λ (a : Answer). a ≢ TooMany) (answer hold most s op) (answers_from hold most (intake hold most s op) ops) (λ many. again_or_many (sym again ∙ many))
          (subst (λ (u : Held). MeetsNoLimit hold most u ops) (sym same) rest.place);
      held = ap (λ (u : Held). held_from hold most u ops) same ∙ rest.held;
      kept = kept-no hold most s op ops (ap is_kept again) ∙ ap (λ (u : Held). kept_from hold most u ops) same ∙ rest.kept;
      counted = λ t.
          let one : intake_counted hold most s op t ≡ record t { repeated = t.repeated + 1 } = sym (fed_quietly hold most s op Again t again settled).counted in
          let more : t.repeated + 1 + length ops ≡ t.repeated + suc (length ops) = omega arith in
          (λ i. tally_from hold most (same i) ops (one i)) ∙ rest.counted (record t { repeated = t.repeated + 1 }) ∙ (λ i. record t { repeated = more i });
    }
  where
    again_or_many : Again ≡ TooMany → ⊥
    again_or_many e = cc e

    repeated_one : (hold most : ℕ) (s : Held) (op : Op) → has_op s.history op ≡ true → answer hold most s op ≡ Again
    repeated_one hold most s op here = rw (here, answer)

-- they are counted, and nothing else changes
pub repeats_all : (s new : State) (ops : List Op) (t u : Tally) (n : ℕ) → IsSettled s.held → All (λ op. has_op s.held.history op ≡ true) ops → new ≡ s → n ≡ length ops
    → u ≡ record t { repeated = t.repeated + n } → TakesInAll s new ops t u
repeats_all s new ops t u n settled there is many counted =
    let r = repeated_all s.hold s.most s.held ops settled there in
    let more : u ≡ record t { repeated = t.repeated + length ops } = counted ∙ (λ i. record t { repeated = t.repeated + many i }) in
    let totals : total u ≡ total (record t { repeated = t.repeated + length ops }) = ap total more in
    let waiting : length new.held.waiting ≡ length s.held.waiting = ap (λ (x : State). length x.held.waiting) is in
    record {
      has_place = r.place;
      replica = is ∙ ap (λ (h : Held). record s { held = h }) (sym r.held);
      counts = more ∙ sym (r.counted t);
      settled = subst (λ (x : State). IsSettled x.held) (sym is) settled;
      once = omega (arith, waiting, totals);
    }

-- and none of them is kept
pub repeats_kept : (s : State) (ops : List Op) (kept : List Op) → IsSettled s.held → All (λ op. has_op s.held.history op ≡ true) ops
    → kept ≡ kept ++ kept_from s.hold s.most s.held ops
repeats_kept s ops kept settled there = sym (ap (λ (z : List Op). kept ++ z) (repeated_all s.hold s.most s.held ops settled there).kept ∙ append-nil kept)

-- a front of a run that is accepted already
pub run_repeats : (s : State) (start : RunStart) (text : List ℕ) (n : ℕ) (t : Tally) → n ≤ length text → IsSettled s.held
    → All (λ op. has_op s.held.history op ≡ true) (run_from start (take n text))
    → TakesInAll s s (run_from start (take n text)) t (record t { repeated = t.repeated + n })
run_repeats s start text n t within settled there =
    let many : length (run_from start (take n text)) ≡ n = length-run start (take n text) ∙ length-front text n within in
    repeats_all s s (run_from start (take n text)) t (record t { repeated = t.repeated + n }) n settled there refl (sym many) refl
