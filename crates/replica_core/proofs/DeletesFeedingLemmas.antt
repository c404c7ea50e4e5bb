-- Deletes of neighbours that are taken in one after another by one call.
use Rattle.std.proofs.Common.{◌≡◌, ◌≢◌, ◌∙◌, ap, arith, append-nil, append_assoc, false, length, length-append, refl, subst, suc, sym, take, zero, inl, inr, ℕ, ◌+◌, ◌-◌, ◌<◌, ◌≤◌}
use Rattle.std.proofs.Common.{◌++◌, ◌∷◌, List, [], ◌^◌, drop, true}
use Rattle.std.specs.Prelude.{◌↔◌, All, Contains, ◌&&◌, ◌||◌, not, slice_get, Some}
use Rattle.std.proofs.lemmas.Bool.{not-true, or_from}
use Rattle.std.proofs.lemmas.List.Elements.{All-cons, All-nil}
use Rattle.fugue_ids.specs.Identifiers.{Identifier, id_eq}
use Rattle.fugue_ids.specs.Runs.{id_after, next_id}
use Rattle.fugue_ids.specs.declared.op.Op.{Op}
use Rattle.fugue_ids.specs.declared.op.Op.TheVariants.{Delete}
use Rattle.fugue_ids.proofs.IdentifierLemmas.{cases_id, ne-id_eq}
use Rattle.fugue_ids.proofs.ListLemmas.{contains_filter_from, contains_here, contains_there}
use Rattle.fugue_ids.proofs.RunLemmas.{none_after, one_after}
use Rattle.op_runs.specs.Deletions.{deletes_up}
use Rattle.op_runs.proofs.DeletionLemmas.{deletes-append, length-deletes}
use Rattle.origin_model.specs.declared.operations.Place.{Place}
use Rattle.origin_model.specs.declared.operations.Place.TheVariants.{Section as within}
use Rattle.origin_model.specs.declared.taking.Tally.{Tally}
use Rattle.origin_model.specs.edits.Edits.{ReadyInTurn}
use Rattle.origin_model.specs.edits.Effect.{with_ops}
use Rattle.origin_model.specs.edits.State.{State, IsSound}
use Rattle.origin_model.specs.operations.History.{has_op}
use Rattle.origin_model.specs.operations.Verdict.{Lawful}
use Rattle.origin_model.specs.order.Laws.{IsIn}
use Rattle.origin_model.specs.order.Order.{order}
use Rattle.origin_model.specs.order.Printed.{is_hidden}
use Rattle.origin_model.specs.taking.Taking.{Accepted, Answer, MeetsNoLimit, Held, IsSettled, TooMany, answer, answers_from, held_from, intake, intake_counted, is_kept, kept_from}
use Rattle.origin_model.specs.taking.Taking.{no_counts, tally_from}
use Rattle.origin_model.proofs.SharedLemmas.{hidden-has, IsIn-held, kept-yes, order_total, places-none, shown_can_go}
use Rattle.origin_model.proofs.edits.EditIntakeLemmas.{comes}
use Rattle.origin_model.proofs.edits.FreshIdLemmas.{IsUnknown, delete_unknown}
use Rattle.run_store.specs.Cells.{cell_ids, cells_shown, is_hidden_cell}
use Rattle.run_store.specs.Hiding.{AreHidden, HaveCells}
use Rattle.run_store.specs.declared.cell.Cell.{Cell}
use Rattle.section_catalogue.specs.Contents.{Contents, text_at}
use Rattle.section_catalogue.specs.Manuscript.{IsOrderedPlace, Represents}
use Rattle.section_list.specs.SectionList.{Listing}
use Rattle.replica_core.specs.Deleting.{AreWithin, ids_from}
use Rattle.replica_core.specs.Edits.{CanJoin}
use Rattle.replica_core.specs.Feeding.{GoesAtOnce, StopsFeeding, StopsKeeping, TakesInAll}
use Rattle.replica_core.specs.Keeping.{LeavesUnkept}
use Rattle.replica_core.specs.Answering.{LeavesAfterFault, total}
use Rattle.replica_core.specs.declared.keeping.FeedFault.{FeedFault}
use Rattle.replica_core.specs.declared.keeping.FeedFault.TheVariants.{NoMemory as FedNoMemory, TooMany as FedTooMany}
use Rattle.replica_core.proofs.DeletingLemmas.{can_rest, fewer_can}
use Rattle.replica_core.proofs.FeedLemmas.{fed_quietly}
use Rattle.replica_core.proofs.FeedingLemmas.{first_stops, first_unkept, joins_all, kept_after, repeats_all, stops_copying, stops_joining, stops_on, takes_none_in, takes_on}
use Rattle.replica_core.proofs.FeedingLemmas.{unkept_on}
use Rattle.replica_core.proofs.LookUpLemmas.{text_found}
use Rattle.replica_core.proofs.JoinLemmas.{can_be_accepted, first_can}
use Rattle.replica_core.proofs.NotingLemmas.{back_again}

-- On the way through a row

-- the first Deletes were taken in
pub record IsFeedingRow (s : State) (t : Tally) (x : Identifier) (count : ℕ) (now : State) (counts : Tally) (done : ℕ) : Type 0 where
  pub taken : TakesInAll s now (deletes_up x done) t counts
  pub sound : IsSound now
  pub within : done ≤ count
  pub few : total counts + length now.held.waiting + count ≤ 2 ^ 31 + done

pub feeding_row : (s : State) (t : Tally) (x : Identifier) (count : ℕ) → IsSound s → IsSettled s.held → total t + length s.held.waiting + count ≤ 2 ^ 31
    → IsFeedingRow s t x count s t 0
feeding_row s t x count sound settled few = record { taken = takes_none_in s t settled; sound = sound; within = omega arith; few = omega (arith, few) }

-- some more
pub row_fed_on : (s now new : State) (t counts after : Tally) (x : Identifier) (count done n : ℕ) → IsFeedingRow s t x count now counts done → n ≤ count - done → done < count
    → TakesInAll now new (deletes_up (id_after x done) n) counts after → IsSound new → IsFeedingRow s t x count new after (done + n)
row_fed_on s now new t counts after x count done n f no_more less took sound =
    let few : total counts + length now.held.waiting + count ≤ 2 ^ 31 + done = f.few in
    let once : total after + length new.held.waiting ≡ total counts + length now.held.waiting + length (deletes_up (id_after x done) n) = took.once in
    let long : length (deletes_up (id_after x done) n) ≡ n = length-deletes false (id_after x done) n in
    record {
      taken = subst (λ (z : List Op). TakesInAll s new z t after) (sym (deletes-append false x done n))
          (takes_on s now new (deletes_up x done) (deletes_up (id_after x done) n) t counts after f.taken took);
      sound = sound;
      within = omega (arith, no_more, less);
      few = omega (arith, few, once, long);
    }

-- those that are left
left_over : (x : Identifier) (count done : ℕ) → done < count → deletes_up x count ≡ deletes_up x done ++ deletes_up (id_after x done) (count - done)
left_over x count done less = let e : count ≡ done + (count - done) = omega (arith, less) in ap (deletes_up x) e ∙ deletes-append false x done (count - done)

-- not all
pub row_fed_some : (s now new : State) (t counts after : Tally) (x : Identifier) (count done : ℕ) (fault : FeedFault) → IsFeedingRow s t x count now counts done → done < count
    → StopsFeeding (deletes_up (id_after x done) (count - done)) now new counts after fault → StopsFeeding (deletes_up x count) s new t after fault
row_fed_some s now new t counts after x count done fault f less stops =
    subst (λ (z : List Op). StopsFeeding z s new t after fault) (sym (left_over x count done less))
    (stops_on s now new (deletes_up x done) (deletes_up (id_after x done) (count - done)) t counts after fault f.taken stops)

-- all
pub row_fed_all : (s now : State) (t counts : Tally) (x : Identifier) (count done : ℕ) → IsFeedingRow s t x count now counts done → count ≤ done
    → TakesInAll s now (deletes_up x count) t counts
row_fed_all s now t counts x count done f all = let e : done ≡ count = omega (arith, all, f.within) in subst (λ (n : ℕ). TakesInAll s now (deletes_up x n) t counts) e f.taken

-- and what was kept of them
pub record IsKeepingRow (s : State) (t : Tally) (kept : List Op) (x : Identifier) (count : ℕ) (now : State) (counts : Tally) (kept_now : List Op) (done : ℕ) : Type 0 where
  pub feeds : IsFeedingRow s t x count now counts done
  pub kept_are : kept_now ≡ kept ++ kept_from s.hold s.most s.held (deletes_up x done)

pub keeping_row : (s : State) (t : Tally) (kept : List Op) (x : Identifier) (count : ℕ) → IsSound s → IsSettled s.held → total t + length s.held.waiting + count ≤ 2 ^ 31
    → IsKeepingRow s t kept x count s t kept 0
keeping_row s t kept x count sound settled few = record { feeds = feeding_row s t x count sound settled few; kept_are = sym (append-nil kept) }

pub row_kept_on : (s now new : State) (t counts after : Tally) (kept kept_now kept_new : List Op) (x : Identifier) (count done n : ℕ)
    → IsKeepingRow s t kept x count now counts kept_now done → n ≤ count - done → done < count
    → TakesInAll now new (deletes_up (id_after x done) n) counts after → IsSound new
    → kept_new ≡ kept_now ++ kept_from now.hold now.most now.held (deletes_up (id_after x done) n)
    → IsKeepingRow s t kept x count new after kept_new (done + n)
row_kept_on s now new t counts after kept kept_now kept_new x count done n k no_more less took sound more =
    let front : List Op = deletes_up x done in
    let next : List Op = deletes_up (id_after x done) n in
    record {
      feeds = row_fed_on s now new t counts after x count done n k.feeds no_more less took sound;
      kept_are = more ∙ ap (λ (z : List Op). z ++ kept_from now.hold now.most now.held next) k.kept_are
          ∙ append_assoc kept (kept_from s.hold s.most s.held front) (kept_from now.hold now.most now.held next)
          ∙ ap (λ (z : List Op). kept ++ z) (kept_after s now front next k.feeds.taken.replica ∙ ap (kept_from s.hold s.most s.held) (sym (deletes-append false x done n)));
    }

pub row_kept_some : (s now new : State) (t counts after : Tally) (kept kept_now kept_new : List Op) (x : Identifier) (count done : ℕ) (fault : FeedFault)
    → IsKeepingRow s t kept x count now counts kept_now done → done < count
    → StopsKeeping (deletes_up (id_after x done) (count - done)) now new counts after kept_now kept_new fault → StopsKeeping (deletes_up x count) s new t after kept kept_new fault
row_kept_some s now new t counts after kept kept_now kept_new x count done fault k less stops =
    subst (λ (z : List Op). StopsKeeping z s new t after kept kept_new fault) (sym (left_over x count done less))
    (unkept_on s now new (deletes_up x done) (deletes_up (id_after x done) (count - done)) t counts after kept kept_now kept_new fault k.feeds.taken k.kept_are stops)

pub row_kept_all : (s now : State) (t counts : Tally) (kept kept_now : List Op) (x : Identifier) (count done : ℕ) → IsKeepingRow s t kept x count now counts kept_now done
    → count ≤ done
    → kept_now ≡ kept ++ kept_from s.hold s.most s.held (deletes_up x count)
row_kept_all s now t counts kept kept_now x count done k all =
    let e : done ≡ count = omega (arith, all, k.feeds.within) in
    subst (λ (n : ℕ). kept_now ≡ kept ++ kept_from s.hold s.most s.held (deletes_up x n)) e k.kept_are

-- One Delete alone

pub delete_stops : (s new : State) (x : Identifier) (count : ℕ) (t u : Tally) (fault : FeedFault) → IsSettled s.held → 0 < count
    → (fault ≡ FedTooMany s.most) ↔ (answer s.hold s.most s.held (Delete x) ≡ TooMany)
    → LeavesAfterFault s new (Delete x) t u fault → StopsFeeding (deletes_up x count) s new t u fault
delete_stops s new x zero t u fault settled some many leaves = absurd (omega (arith, some))
delete_stops s new x (suc n) t u fault settled some many leaves = first_stops s new (Delete x) (deletes_up (next_id x) n) t u fault settled many leaves

pub delete_unkept : (s new : State) (x : Identifier) (count : ℕ) (t u : Tally) (kept kept_new : List Op) (fault : FeedFault) → IsSettled s.held → 0 < count
    → (fault ≡ FedTooMany s.most) ↔ (answer s.hold s.most s.held (Delete x) ≡ TooMany) → LeavesUnkept s new (Delete x) t u fault → kept_new ≡ kept
    → StopsKeeping (deletes_up x count) s new t u kept kept_new fault
delete_unkept s new x zero t u kept kept_new fault settled some many leaves unkept = absurd (omega (arith, some))
delete_unkept s new x (suc n) t u kept kept_new fault settled some many leaves unkept =
    first_unkept s new (Delete x) (deletes_up (next_id x) n) t u kept kept_new fault settled many leaves unkept

-- A walk along what is visible

-- what it comes to next is ahead of it
pub next_ahead : (walk : List Identifier) (x : Identifier) → slice_get walk 0 ≡ Some x → Contains walk x
next_ahead [] x e = cc
next_ahead (y ∷ walk) x e = let same : y ≡ x = cc in subst (Contains (y ∷ walk)) same (contains_here y walk)

-- and so is what comes after that
pub rest_ahead : (walk : List Identifier) (x : Identifier) → Contains (drop 1 walk) x → Contains walk x
rest_ahead [] x there = there
rest_ahead (y ∷ walk) x there = contains_there y walk x there

-- Deletes that are accepted already

pub row_repeats : (s : State) (x : Identifier) (n : ℕ) (t : Tally) → IsSettled s.held → All (λ op. has_op s.held.history op ≡ true) (deletes_up x n)
    → TakesInAll s s (deletes_up x n) t (record t { repeated = t.repeated + n })
row_repeats s x n t settled there = repeats_all s s (deletes_up x n) t (record t { repeated = t.repeated + n }) n settled there refl (sym (length-deletes false x n)) refl

-- where their targets are hidden in the list of a place
pub hidden_deleted : (n : ℕ) (h : List Op) (p : Place) (l : Listing) (x : Identifier) → Lawful h → IsOrderedPlace p h l → AreHidden l.cells x n
    → All (λ op. has_op h op ≡ true) (deletes_up x n)
hidden_deleted zero h p l x w place hidden = All-nil (λ op. has_op h op ≡ true)
hidden_deleted (suc n) h p l x w place hidden =
    All-cons (λ op. has_op h op ≡ true) (Delete x) (deletes_up (next_id x) n)
    (deleted (subst (λ y. is_hidden_cell l.cells y ≡ true) (none_after x) (hidden 0 (omega arith))))
    (hidden_deleted n h p l (next_id x) w place
    (λ k less. subst (λ y. is_hidden_cell l.cells y ≡ true) (sym (one_after x k)) (hidden (suc k) (omega (arith, less)))))
  where
    is_cell : (cells : List Cell) → is_hidden_cell cells x ≡ true → Contains (cell_ids cells) x
    is_cell [] e = cc
    is_cell (c ∷ cells) e =
        elim (cases_id c.id x) [
          | inl same ↦ subst (Contains (c.id ∷ cell_ids cells)) same (contains_here c.id (cell_ids cells))
          | inr other ↦ contains_there c.id (cell_ids cells) x (is_cell cells (sym (ap (λ b. (b && c.hidden) || is_hidden_cell cells x) (ne-id_eq c.id x other)) ∙ e))
        ]

    deleted : is_hidden_cell l.cells x ≡ true → has_op h (Delete x) ≡ true
    deleted e =
        let inside : IsIn p h x = ((order_total p h w).lists x).1 (subst (λ (xs : List Identifier). Contains xs x) place.all (is_cell l.cells e)) in
        sym (hidden-has h x) ∙ sym (place.hidden x inside) ∙ e

-- Deletes that go in at once

-- what can join does
pub at_once_all : (ops : List Op) (s : State) → CanJoin s ops → GoesAtOnce s ops
at_once_all [] s can = record {
  can = can;
  has_place = places-none s.hold s.most s.held;
  held = refl;
  settled = can.settled;
  kept = refl;
  counted = λ t. let e : t.accepted ≡ t.accepted + 0 = omega arith in λ i. record t { accepted = e i };
}
at_once_all (op ∷ ops) s can =
    let mid : State = with_ops s (op ∷ []) in
    let room : length s.held.history + length s.held.waiting + length (op ∷ ops) ≤ s.most = can.room in
    let rest : GoesAtOnce mid ops = at_once_all ops mid (record { settled = can.in_turn.2; in_turn = can.in_turn.3; room = omega (arith, room) }) in
    let yes : answer s.hold s.most s.held op ≡ Accepted = can_be_accepted s op (first_can s op ops can) in
    let same : intake s.hold s.most s.held op ≡ mid.held = sym (fed_quietly s.hold s.most s.held op Accepted no_counts yes can.in_turn.2).held in
    record {
      can = can;
      has_place = All-cons (λ (a : Answer). a ≢ TooMany) (answer s.hold s.most s.held op) (answers_from s.hold s.most (intake s.hold s.most s.held op) ops)
          (λ many. accepted_or_many (sym yes ∙ many))
          (subst (λ (u : Held). MeetsNoLimit s.hold s.most u ops) (sym same) rest.has_place);
      held = ap (λ (u : Held). held_from s.hold s.most u ops) same ∙ rest.held;
      settled = subst (λ (u : Held). IsSettled (held_from s.hold s.most u ops)) (sym same) rest.settled;
      kept = kept-yes s.hold s.most s.held op ops (ap is_kept yes) ∙ ap (λ (u : Held). op ∷ kept_from s.hold s.most u ops) same ∙ ap (λ (z : List Op). op ∷ z) rest.kept;
      counted = λ t.
          let one : intake_counted s.hold s.most s.held op t ≡ record t { accepted = t.accepted + 1 } =
          sym (fed_quietly s.hold s.most s.held op Accepted t yes can.in_turn.2).counted in
          let more : t.accepted + 1 + length ops ≡ t.accepted + suc (length ops) = omega arith in
          (λ i. tally_from s.hold s.most (same i) ops (one i)) ∙ rest.counted (record t { accepted = t.accepted + 1 }) ∙ (λ i. record t { accepted = more i });
    }
  where
    accepted_or_many : Accepted ≡ TooMany → ⊥
    accepted_or_many e = cc e

-- x is an element of the section s that is not deleted
record IsUndeleted (s : Identifier) (h : List Op) (x : Identifier) : Type 0 where
  inside : IsIn (within s) h x
  shown : is_hidden h x ≡ false

-- so are the first n identifiers from x on
abbrev AreUndeleted : Identifier → List Op → Identifier → ℕ → Type 0
AreUndeleted s h x n = (k : ℕ) → k < n → IsUndeleted s h (id_after x k)

-- what is visible in a section's list is such an element
visible_undeleted : (m : Contents) (h : List Op) (s : Identifier) (l : Listing) (x : Identifier) (n : ℕ) → Represents m h → Some l ≡ text_at m s
    → HaveCells (cells_shown l.cells) x n → AreUndeleted s h x n
visible_undeleted m h s l x n represents is visible k less =
    let y : Identifier = id_after x k in
    let place : IsOrderedPlace (within s) h l = (text_found m h s l represents is).place in
    let there = contains_filter_from (λ z. not (is_hidden h z)) (order (within s) h) y (subst (λ (xs : List Identifier). Contains xs y) place.visible (visible k less)) in
    record { inside = ((order_total (within s) h represents.lawful).lists y).1 there.0; shown = not-true (is_hidden h y) there.1 }

-- each is Ready in its turn
ready_row : (n : ℕ) (x s : Identifier) (h : List Op) → AreUndeleted s h x n → ReadyInTurn h (deletes_up x n)
ready_row zero x s h each = tt
ready_row (suc n) x s h each =
    let here : IsUndeleted s h x = subst (IsUndeleted s h) (none_after x) (each 0 (omega arith)) in
    (shown_can_go h x (IsIn-held (within s) h x here.inside) here.shown, ready_row n (next_id x) s (Delete x ∷ h) rest)
  where
    rest : AreUndeleted s (Delete x ∷ h) (next_id x) n
    rest k less =
        let y : Identifier = id_after (next_id x) k in
        let was : IsUndeleted s h y = subst (IsUndeleted s h) (sym (one_after x k)) (each (suc k) (omega (arith, less))) in
        let other : x ≢ y = λ same. let at : x.counter ≡ x.counter + 1 + k = ap (λ (i : Identifier). i.counter) same in omega (arith, at) in
        record {
          inside = record { op = was.inside.op; held = was.inside.held; place = was.inside.place };
          shown = or_from (id_eq x y) (is_hidden h y) (ne-id_eq x y other) was.shown;
        }

-- elements of the section
undeleted_within : (n : ℕ) (x s : Identifier) (h : List Op) → AreUndeleted s h x n → AreWithin s h (ids_from x n)
undeleted_within zero x s h each = All-nil (λ y. IsIn (within s) h y)
undeleted_within (suc n) x s h each =
    All-cons (λ y. IsIn (within s) h y) x (ids_from (next_id x) n) (subst (IsUndeleted s h) (none_after x) (each 0 (omega arith))).inside
    (undeleted_within n (next_id x) s h (λ k less. subst (IsUndeleted s h) (sym (one_after x k)) (each (suc k) (omega (arith, less)))))

pub row_within : (m : Contents) (h : List Op) (s : Identifier) (l : Listing) (x : Identifier) (n : ℕ) → Represents m h → Some l ≡ text_at m s → HaveCells (cells_shown l.cells) x n
    → AreWithin s h (ids_from x n)
row_within m h s l x n represents is visible = undeleted_within n x s h (visible_undeleted m h s l x n represents is visible)

unknown_row : (n : ℕ) (x : Identifier) (w : List Op) → All (IsUnknown w) (deletes_up x n)
unknown_row zero x w = All-nil (IsUnknown w)
unknown_row (suc n) x w = All-cons (IsUnknown w) (Delete x) (deletes_up (next_id x) n) (delete_unknown w x) (unknown_row n (next_id x) w)

pub row_can_go : (m : Contents) (s : State) (section : Identifier) (l : Listing) (x : Identifier) (n : ℕ) → IsSettled s.held → Represents m s.held.history
    → Some l ≡ text_at m section → HaveCells (cells_shown l.cells) x n → length s.held.history + length s.held.waiting + n ≤ s.most → CanJoin s (deletes_up x n)
row_can_go m s section l x n settled represents is visible room =
    let h : List Op = s.held.history in
    record {
      settled = settled;
      in_turn = comes (deletes_up x n) h s.held.waiting settled (ready_row n x section h (visible_undeleted m h section l x n represents is visible))
          (unknown_row n x s.held.waiting);
      room = omega (arith, room, length-deletes false x n);
    }

-- they are taken in
pub row_joins : (s new : State) (x : Identifier) (n : ℕ) (t : Tally) → CanJoin s (deletes_up x n) → new ≡ with_ops s (deletes_up x n)
    → TakesInAll s new (deletes_up x n) t (record t { accepted = t.accepted + n })
row_joins s new x n t can is =
    joins_all s new (deletes_up x n) t (record t { accepted = t.accepted + n }) n (at_once_all (deletes_up x n) s can) is (sym (length-deletes false x n)) refl

-- and all of them are kept
pub row_is_kept : (s : State) (x : Identifier) (n : ℕ) → CanJoin s (deletes_up x n) → kept_from s.hold s.most s.held (deletes_up x n) ≡ deletes_up x n
row_is_kept s x n can = (at_once_all (deletes_up x n) s can).kept

pub row_pushed : (s : State) (x : Identifier) (n : ℕ) (kept new : List Op) → CanJoin s (deletes_up x n) → new ≡ kept ++ deletes_up x n
    → new ≡ kept ++ kept_from s.hold s.most s.held (deletes_up x n)
row_pushed s x n kept new can pushed = pushed ∙ ap (λ (z : List Op). kept ++ z) (sym (row_is_kept s x n can))

pub row_pushed_whole : (x : Identifier) (n : ℕ) (kept mid : List Op) → mid ≡ kept ++ deletes_up x n → n ≤ length mid
row_pushed_whole x n kept mid pushed = omega (arith, ap length pushed, length-append kept (deletes_up x n), length-deletes false x n)

-- copies of a row but for the first so many are taken off
pub row_back : (x : Identifier) (n k : ℕ) (kept mid new : List Op) → k < n → mid ≡ kept ++ deletes_up x n → new ≡ take (length mid - (n - k)) mid → new ≡ kept ++ deletes_up x k
row_back x n k kept mid new fewer pushed gone =
    back_again (kept ++ deletes_up x k) (deletes_up (id_after x k) (n - k)) mid new (n - k)
    (pushed ∙ ap (λ (z : List Op). kept ++ z) (left_over x n k fewer) ∙ sym (append_assoc kept (deletes_up x k) (deletes_up (id_after x k) (n - k))))
    (length-deletes false (id_after x k) (n - k)) gone

-- memory runs out for their copies
pub row_uncopied : (s new : State) (x : Identifier) (count n : ℕ) (t : Tally) (kept kept_new : List Op) → 0 < n → n ≤ count → CanJoin s (deletes_up x n) → new ≡ s → kept_new ≡ kept
    → StopsKeeping (deletes_up x count) s new t t kept kept_new FedNoMemory
row_uncopied s new x count zero t kept kept_new some no_more can is same = absurd (omega (arith, some))
row_uncopied s new x zero (suc n) t kept kept_new some no_more can is same = absurd (omega (arith, no_more))
row_uncopied s new x (suc count) (suc n) t kept kept_new some no_more can is same =
    stops_copying s new (Delete x) (deletes_up (next_id x) n) (deletes_up (next_id x) count) t kept kept_new can is same

-- memory runs out after the first of them
module _ (s new : State) (x : Identifier) (count n k : ℕ) (t : Tally) (fewer : k < n) (no_more : n ≤ count) (can : CanJoin s (deletes_up x n))
    (is : new ≡ with_ops s (deletes_up x k)) where
  abbrev counts : Tally
  counts = record t { accepted = t.accepted + k }

  abbrev y : Identifier
  y = id_after x k

  first_joins : TakesInAll s new (deletes_up x k) t counts
  first_joins = row_joins s new x k t (fewer_can s x n k (omega (arith, fewer)) can) is

  next_can : CanJoin new (Delete y ∷ deletes_up (next_id y) (n - k - 1))
  next_can =
      let e : n ≡ k + suc (n - k - 1) = omega (arith, fewer) in
      subst (λ (z : State). CanJoin z (Delete y ∷ deletes_up (next_id y) (n - k - 1))) (sym is)
      (can_rest s (deletes_up x k) (deletes_up y (suc (n - k - 1))) (subst (CanJoin s) (ap (deletes_up x) e ∙ deletes-append false x k (suc (n - k - 1))) can))

  whole : deletes_up x count ≡ deletes_up x k ++ (Delete y ∷ deletes_up (next_id y) (count - k - 1))
  whole = let e : count ≡ k + suc (count - k - 1) = omega (arith, fewer, no_more) in ap (deletes_up x) e ∙ deletes-append false x k (suc (count - k - 1))

  pub row_stops : StopsFeeding (deletes_up x count) s new t counts FedNoMemory
  row_stops =
      subst (λ (z : List Op). StopsFeeding z s new t counts FedNoMemory) (sym whole)
      (stops_on s new new (deletes_up x k) (Delete y ∷ deletes_up (next_id y) (count - k - 1)) t counts counts FedNoMemory first_joins
      (stops_joining new new (Delete y) (deletes_up (next_id y) (n - k - 1)) (deletes_up (next_id y) (count - k - 1)) counts next_can refl))

  pub row_copies_stop : (kept kept_new : List Op) → kept_new ≡ kept ++ deletes_up x k → StopsKeeping (deletes_up x count) s new t counts kept kept_new FedNoMemory
  row_copies_stop kept kept_new more =
      subst (λ (z : List Op). StopsKeeping z s new t counts kept kept_new FedNoMemory) (sym whole)
      (unkept_on s new new (deletes_up x k) (Delete y ∷ deletes_up (next_id y) (count - k - 1)) t counts counts kept kept_new kept_new FedNoMemory first_joins
      (more ∙ ap (λ (z : List Op). kept ++ z) (sym (row_is_kept s x k (fewer_can s x n k (omega (arith, fewer)) can))))
      (stops_copying new new (Delete y) (deletes_up (next_id y) (n - k - 1)) (deletes_up (next_id y) (count - k - 1)) counts kept_new kept_new next_can refl refl))
