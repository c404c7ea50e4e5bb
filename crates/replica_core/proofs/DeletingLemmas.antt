-- Deletes of elements whose identifiers follow one another, which join a history at once.
use Rattle.std.proofs.Common.{false, ◌≡◌, ◌∙◌, ap, arith, drop, get_or, length, refl, subst, suc, sym, take, zero, ℕ, ◌+◌, ◌-◌, ◌<◌, ◌≤◌, ◌++◌, ◌∷◌, List, [], length-append}
use Rattle.std.proofs.Common.{length-drop, append_assoc, ◌^◌}
use Rattle.std.specs.Prelude.{All, Some, if◌then◌else◌, not}
use Rattle.std.proofs.lemmas.List.{drop-drop, drop_all, map-append, take-append-drop, take_all}
use Rattle.std.proofs.lemmas.List.Elements.{All-drop, All-filter, All-head, All-tail, All-take, All-weaker}
use Rattle.fugue_ids.specs.Identifiers.{Identifier}
use Rattle.fugue_ids.specs.Runs.{id_after, next_id}
use Rattle.fugue_ids.specs.declared.op.Op.{Op}
use Rattle.fugue_ids.specs.declared.op.Op.TheVariants.{Delete}
use Rattle.fugue_ids.proofs.ListLemmas.{all_before, all_after, all_from_contains}
use Rattle.fugue_ids.proofs.RunLemmas.{none_after, one_after}
use Rattle.op_runs.specs.Deletions.{deletes_up}
use Rattle.op_runs.proofs.DeletionLemmas.{deletes-append, length-deletes}
use Rattle.origin_model.specs.edits.Edits.{ReadyInTurn, deletes_of, history_with}
use Rattle.origin_model.specs.edits.Effect.{Gains, StopsPartly, with_ops}
use Rattle.origin_model.specs.edits.State.{State, IsSound}
use Rattle.origin_model.specs.operations.Verdict.{Lawful}
use Rattle.origin_model.specs.order.Laws.{IsIn}
use Rattle.origin_model.specs.order.Order.{order}
use Rattle.origin_model.specs.order.Printed.{is_hidden, shown}
use Rattle.origin_model.specs.taking.Taking.{IsSettled}
use Rattle.origin_model.specs.declared.operations.Place.{Place}
use Rattle.origin_model.specs.declared.operations.Place.TheVariants.{Section as within}
use Rattle.origin_model.proofs.SharedLemmas.{order_total, target_is_shown}
use Rattle.origin_model.proofs.edits.MadeLemmas.{extended-append}
use Rattle.section_catalogue.specs.Changes.{AnswersUpTo}
use Rattle.section_catalogue.specs.Contents.{Contents, place_at}
use Rattle.section_catalogue.specs.Manuscript.{HidesAll, Represents, each_hidden}
use Rattle.section_catalogue.proofs.HolderLemmas.{in_place}
use Rattle.replica_core.specs.Deleting.{AreWithin, ids_from}
use Rattle.replica_core.specs.Edits.{CanJoin, ComeInTurn}
use Rattle.replica_core.proofs.JoinLemmas.{IsJoining, begins, ends, stops}
use Rattle.replica_core.proofs.RunLemmas.{length-extended, taken_back}

-- in two parts
pub ids_parted : (m n : ℕ) (x : Identifier) → ids_from x (m + n) ≡ ids_from x m ++ ids_from (id_after x m) n
ids_parted zero n x = let e : 0 + n ≡ n = omega arith in λ i. ids_from (sym (none_after x) i) (e i)
ids_parted (suc m) n x =
    let e : suc m + n ≡ suc (m + n) = omega arith in
    ap (ids_from x) e ∙ ap (λ t. x ∷ t) (ids_parted m n (next_id x) ∙ ap (λ y. ids_from (next_id x) m ++ ids_from y n) (one_after x m))

-- their Deletes
row_of : (k : ℕ) (x : Identifier) → deletes_of (ids_from x k) ≡ deletes_up x k
row_of zero x = refl
row_of (suc k) x = ap (λ t. Delete x ∷ t) (row_of k (next_id x))

-- the first of them
ready_front : (xs ys h : List Op) → ReadyInTurn h (xs ++ ys) → ReadyInTurn h xs
ready_front [] ys h r = tt
ready_front (x ∷ xs) ys h r = (r.0, ready_front xs ys (x ∷ h) r.1)

pub fewer_ready : (count k : ℕ) (x : Identifier) (h : List Op) → k ≤ count → ReadyInTurn h (deletes_up x count) → ReadyInTurn h (deletes_up x k)
fewer_ready count k x h l ready =
    let e : count ≡ k + (count - k) = omega (arith, l) in
    ready_front (deletes_up x k) (deletes_up (id_after x k) (count - k)) h
    (subst (ReadyInTurn h) (ap (deletes_up x) e ∙ deletes-append false x k (count - k)) ready)

-- the others are taken back
pub others_taken_back : (count k left : ℕ) (x : Identifier) (h : List Op) → k ≤ count → left ≡ count - k
    → drop left (history_with h (deletes_up x count)) ≡ history_with h (deletes_up x k)
others_taken_back count k left x h l is =
    let e : count ≡ k + left = omega (arith, l, is) in
    let front = deletes_up x k in
    let back = deletes_up (id_after x k) left in
    ap (λ ops. drop left (history_with h ops)) (ap (deletes_up x) e ∙ deletes-append false x k left)
    ∙ ap (drop left) (extended-append h front back)
    ∙ ap (λ n. drop n (history_with (history_with h front) back)) (sym (length-deletes false (id_after x k) left))
    ∙ taken_back back (history_with h front)

-- Deletes that are Ready in their turn hide what they name
hidden_each : (k : ℕ) (x : Identifier) (h : List Op) → ReadyInTurn h (deletes_up x k) → each_hidden x k h ≡ history_with h (deletes_up x k)
hidden_each zero x h ready = refl
hidden_each (suc k) x h ready =
    ap (λ b. each_hidden (next_id x) k (if b then h else Delete x ∷ h)) (target_is_shown h x ready.0).1
    ∙ hidden_each k (next_id x) (Delete x ∷ h) ready.1

pub stands_deleted : (m new : Contents) (count k : ℕ) (x : Identifier) (h : List Op) → k ≤ count → ReadyInTurn h (deletes_up x count) → Represents m h → HidesAll m new x k
    → Represents new (history_with h (deletes_up x k))
stands_deleted m new count k x h l ready represents hides = subst (Represents new) (hidden_each k x h (fewer_ready count k x h l ready)) (hides h represents)

-- where the elements of a section stand
pub placed_each : (k : ℕ) (x s : Identifier) (m : Contents) (h : List Op) → Represents m h → AreWithin s h (ids_from x k) → AnswersUpTo (place_at m) x k (Some (within s))
placed_each zero x s m h represents all j less = absurd (omega (arith, less))
placed_each (suc k) x s m h represents all zero less =
    ap (place_at m) (none_after x) ∙ represents.places x ∙ in_place (within s) h x (All-head (λ y. IsIn (within s) h y) x (ids_from (next_id x) k) all)
placed_each (suc k) x s m h represents all (suc j) less =
    ap (place_at m) (sym (one_after x j))
    ∙ placed_each k (next_id x) s m h represents (All-tail (λ y. IsIn (within s) h y) x (ids_from (next_id x) k) all) j (omega (arith, less))

-- what is shown of a section are elements of it
pub shown_within : (s : Identifier) (h : List Op) (at n : ℕ) (xs : List Identifier) → Lawful h → xs ≡ take n (drop at (shown (within s) h)) → AreWithin s h xs
shown_within s h at n xs w is =
    let P : Identifier → Type 0 = λ x. IsIn (within s) h x in
    subst (All P) (sym is) (All-take P n (drop at (shown (within s) h))
    (All-drop P at (shown (within s) h)
    (All-filter (λ x. not (is_hidden h x)) P (order (within s) h) (all_from_contains P (order (within s) h) (λ x m. ((order_total (within s) h w).lists x).1 m)))))

-- and stay so
still_in : (ys : List Identifier) (p : Place) (h : List Op) (x : Identifier) → IsIn p h x → IsIn p (history_with h (deletes_of ys)) x
still_in [] p h x i = i
still_in (y ∷ ys) p h x i = still_in ys p (Delete y ∷ h) x (record { op = i.op; held = i.held; place = i.place })

pub still_within : (ys : List Identifier) (s : Identifier) (h : List Op) (xs : List Identifier) → AreWithin s h xs → AreWithin s (history_with h (deletes_of ys)) xs
still_within ys s h xs all = All-weaker (λ x. IsIn (within s) h x) (λ x. IsIn (within s) (history_with h (deletes_of ys)) x) (λ x i. still_in ys (within s) h x i) xs all

-- how many identifiers follow one another
pub record IsRow (rest : List Identifier) (x : Identifier) (k count : ℕ) (last : Identifier) : Type 0 where
  pub counted : count ≡ k
  pub last_is : last ≡ id_after x k
  pub row : take k rest ≡ ids_from (next_id x) k
  pub fits : x.counter + k < 2 ^ 32

pub row_begins : (rest : List Identifier) (x : Identifier) → x.counter < 2 ^ 32 → IsRow rest x 0 0 x
row_begins rest x fits = record { counted = refl; last_is = sym (none_after x); row = refl; fits = omega (arith, fits) }

pub row_goes_on : (rest : List Identifier) (x : Identifier) (k count : ℕ) (last next : Identifier) → IsRow rest x k count last → k < length rest → next ≡ get_or rest k next
    → next ≡ next_id last
    → last.counter + 1 < 2 ^ 32 → IsRow rest x (k + 1) (count + 1) next
row_goes_on rest x k count last next r less at is fits =
    let c : (x.counter + k) + 1 ≡ x.counter + (k + 1) = omega arith in
    let e : k + 1 ≡ suc k = omega arith in
    let here : next ≡ id_after x (k + 1) = is ∙ ap next_id r.last_is ∙ (λ i. record { replica = x.replica; counter = c i }) in
    let there : id_after (next_id x) k ≡ id_after x (k + 1) = one_after x k ∙ ap (id_after x) (sym e) in
    record {
      counted = omega (arith, r.counted);
      last_is = here;
      row = ap (λ n. take n rest) e ∙ taken_one rest k next less at ∙ (λ i. r.row i ++ (here ∙ sym there) i ∷ []) ∙ sym (ids_parted k 1 (next_id x));
      fits = omega (arith, fits, ap (λ (y : Identifier). y.counter) r.last_is);
    }
  where
    taken_one : (xs : List Identifier) (n : ℕ) (y : Identifier) → n < length xs → y ≡ get_or xs n y → take (suc n) xs ≡ take n xs ++ y ∷ []
    taken_one [] n y l e = absurd (omega (arith, l))
    taken_one (z ∷ zs) zero y l e = ap (λ w. w ∷ []) (sym e)
    taken_one (z ∷ zs) (suc n) y l e = ap (λ t. z ∷ t) (taken_one zs n y (omega (arith, l)) e)

-- the first operations of some that can join
module _ (s : State) (xs ys : List Op) (can : CanJoin s (xs ++ ys)) where
  front_comes : (xs ys h w : List Op) → ComeInTurn w h (xs ++ ys) → ComeInTurn w h xs
  front_comes [] ys h w c = tt
  front_comes (x ∷ xs) ys h w c = (c.0, c.1, c.2, front_comes xs ys (x ∷ h) w c.3)

  rest_comes : (xs ys h w : List Op) → ComeInTurn w h (xs ++ ys) → ComeInTurn w (history_with h xs) ys
  rest_comes [] ys h w c = c
  rest_comes (x ∷ xs) ys h w c = rest_comes xs ys (x ∷ h) w c.3

  still_settled : (xs ys h w : List Op) → IsSettled (record { history = h; waiting = w }) → ComeInTurn w h (xs ++ ys)
      → IsSettled (record { history = history_with h xs; waiting = w })
  still_settled [] ys h w settled c = settled
  still_settled (x ∷ xs) ys h w settled c = still_settled xs ys (x ∷ h) w c.2 c.3

  pub can_front : CanJoin s xs
  can_front = record { settled = can.settled; in_turn = front_comes xs ys s.held.history s.held.waiting can.in_turn; room = omega (arith, can.room, length-append xs ys) }

  pub can_rest : CanJoin (with_ops s xs) ys
  can_rest = record {
    settled = still_settled xs ys s.held.history s.held.waiting can.settled can.in_turn;
    in_turn = rest_comes xs ys s.held.history s.held.waiting can.in_turn;
    room = omega (arith, can.room, length-append xs ys, length-extended xs s.held.history);
  }

pub fewer_can : (s : State) (x : Identifier) (count k : ℕ) → k ≤ count → CanJoin s (deletes_up x count) → CanJoin s (deletes_up x k)
fewer_can s x count k l can =
    let e : count ≡ k + (count - k) = omega (arith, l) in
    can_front s (deletes_up x k) (deletes_up (id_after x k) (count - k)) (subst (CanJoin s) (ap (deletes_up x) e ∙ deletes-append false x k (count - k)) can)

-- some more joined, or only the first of them
module _ (old now new : State) (ops front rest : List Op) (j : IsJoining old now ops (front ++ rest)) (is : new ≡ with_ops now front) (sound : IsSound new) where
  pub goes_on_all : IsJoining old new ops rest
  goes_on_all = record {
    done = j.done ++ front;
    split = j.split ∙ sym (append_assoc j.done front rest);
    others = is ∙ ap (λ s. with_ops s front) j.others
        ∙ ap (λ h. record old { held = record { history = h; waiting = old.held.waiting } }) (sym (extended-append old.held.history j.done front));
    can = subst (λ s. CanJoin s rest) (sym is) (can_rest now front rest j.can);
    sound = sound;
  }

  pub stops_behind : 0 < length rest → StopsPartly old new ops
  stops_behind some = by_rest rest some goes_on_all
    where
      by_rest : (left : List Op) → 0 < length left → IsJoining old new ops left → StopsPartly old new ops
      by_rest [] some j = absurd (omega (arith, some))
      by_rest (op ∷ more) some j = stops old new ops more op j

-- Deletes of elements of a section, of which the first have joined
pub record IsDeletingEach (s : Identifier) (old now : State) (xs : List Identifier) (at : ℕ) : Type 0 where
  pub joining : IsJoining old now (deletes_of xs) (deletes_of (drop at xs))
  pub within : AreWithin s now.held.history (drop at xs)
  pub to : at ≤ length xs

-- what stands in a list from a place on, as a slice
pub tail_is : (xs : List Identifier) (a : ℕ) → take (length xs - a) (drop a xs) ≡ drop a xs
tail_is xs a = take_all (length xs - a) (drop a xs) (omega (arith, length-drop a xs))

pub deleting_each : (s : Identifier) (old : State) (xs : List Identifier) → CanJoin old (deletes_of xs) → IsSound old → AreWithin s old.held.history xs
    → IsDeletingEach s old old xs 0
deleting_each s old xs can sound inside = record { joining = begins old (deletes_of xs) can sound; within = inside; to = omega arith }

module _ (s : Identifier) (old now : State) (xs : List Identifier) (at : ℕ) (d : IsDeletingEach s old now xs at) (x : Identifier) (less : at < length xs) (is : x ≡ get_or xs at x)
    (count : ℕ) (row : take count (drop (at + 1) xs) ≡ ids_from (next_id x) count) (few : count ≤ length (drop (at + 1) xs)) where
  abbrev rest : List Identifier
  rest = drop (at + (count + 1)) xs

  parted : drop at xs ≡ ids_from x (count + 1) ++ rest
  parted =
      let e : count + 1 ≡ suc count = omega arith in
      let f : (at + 1) + count ≡ at + (count + 1) = omega arith in
      head_of xs at x less is
      ∙ ap (λ t. x ∷ t) (sym (take-append-drop count (drop (at + 1) xs)) ∙ (λ i. row i ++ drop-drop count (at + 1) xs i) ∙ ap (λ k. ids_from (next_id x) count ++ drop k xs) f)
      ∙ ap (λ k. ids_from x k ++ rest) (sym e)
    where
      head_of : (ys : List Identifier) (n : ℕ) (y : Identifier) → n < length ys → y ≡ get_or ys n y → drop n ys ≡ y ∷ drop (n + 1) ys
      head_of [] n y l e = absurd (omega (arith, l))
      head_of (z ∷ zs) zero y l e = ap (λ w. w ∷ zs) (sym e)
      head_of (z ∷ zs) (suc n) y l e =
          let q : suc (n + 1) ≡ suc n + 1 = omega arith in
          head_of zs n y (omega (arith, l)) e ∙ ap (λ k. y ∷ drop k (z ∷ zs)) q

  pub deletes_parted_off : IsJoining old now (deletes_of xs) (deletes_up x (count + 1) ++ deletes_of rest)
  deletes_parted_off = subst (IsJoining old now (deletes_of xs))
      (ap deletes_of parted ∙ map-append (λ y. Delete y) (ids_from x (count + 1)) rest ∙ ap (λ z. z ++ deletes_of rest) (row_of (count + 1) x)) d.joining

  pub row_can_join : CanJoin now (deletes_up x (count + 1))
  row_can_join = can_front now (deletes_up x (count + 1)) (deletes_of rest) deletes_parted_off.can

  both_within : AreWithin s now.held.history (ids_from x (count + 1) ++ rest)
  both_within = subst (AreWithin s now.held.history) parted d.within

  pub row_within : AreWithin s now.held.history (ids_from x (count + 1))
  row_within = all_before (λ y. IsIn (within s) now.held.history y) (ids_from x (count + 1)) rest both_within

  long : length xs ≡ at + (count + 1) + length rest
  long = omega (arith, length-drop (at + (count + 1)) xs, few, length-drop (at + 1) xs, less)

  pub row_deleted : (new : State) → new ≡ with_ops now (deletes_up x (count + 1)) → IsSound new → IsDeletingEach s old new xs (at + (count + 1))
  row_deleted new joined sound = record {
    joining = goes_on_all old now new (deletes_of xs) (deletes_up x (count + 1)) (deletes_of rest) deletes_parted_off joined sound;
    within = subst (λ (z : State). AreWithin s z.held.history rest) (sym joined)
        (subst (λ (row : List Op). AreWithin s (history_with now.held.history row) rest) (row_of (count + 1) x)
        (still_within (ids_from x (count + 1)) s now.held.history rest (all_after (λ y. IsIn (within s) now.held.history y) (ids_from x (count + 1)) rest both_within)));
    to = omega (arith, long);
  }

  -- fewer than the row
  pub row_stopped : (new : State) (done : ℕ) → done < count + 1 → new ≡ with_ops now (deletes_up x done) → IsSound new → StopsPartly old new (deletes_of xs)
  row_stopped new done fewer joined sound =
      let e : count + 1 ≡ done + ((count + 1) - done) = omega (arith, fewer) in
      let more : List Op = deletes_up (id_after x done) ((count + 1) - done) in
      let j = subst (IsJoining old now (deletes_of xs))
      (ap (λ ops. ops ++ deletes_of rest) (ap (deletes_up x) e ∙ deletes-append false x done ((count + 1) - done)) ∙ append_assoc (deletes_up x done) more (deletes_of rest))
      deletes_parted_off in
      stops_behind old now new (deletes_of xs) (deletes_up x done) (more ++ deletes_of rest) j joined sound
      (omega (arith, fewer, length-append more (deletes_of rest), length-deletes false (id_after x done) ((count + 1) - done)))

pub each_deleted : (s : Identifier) (old now : State) (xs : List Identifier) (at : ℕ) → IsDeletingEach s old now xs at → length xs ≤ at → Gains old now (deletes_of xs)
each_deleted s old now xs at d all = ends old now (deletes_of xs) (subst (IsJoining old now (deletes_of xs)) (ap deletes_of (drop_all at xs all)) d.joining)
