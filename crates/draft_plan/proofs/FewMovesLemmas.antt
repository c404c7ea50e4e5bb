-- Only what moved is moved.
use Rattle.std.proofs.Common.{Bool, List, [], add-one, ap, arith, cond, drop, eq-eqb, false, get_or, inl, inr, length, map, nat_eq, not, refl, subst, suc, sym, take, true}
use Rattle.std.proofs.Common.{true≢false, zero, ℕ, ◌&&◌, ◌||◌, ◌+◌, ◌++◌, ◌<◌, ◌≤◌, ◌∙◌, ◌∷◌, ◌≡◌, ◌≢◌}
use Rattle.std.specs.Prelude.{IsSome, None, Option, Some, count_by, filter, insert, slice_get, slice_index_or, ◌↔◌}
use Rattle.std.specs.List.{Contains}
use Rattle.std.proofs.lemmas.Bool.{and_from, and_parts, ne_eqb}
use Rattle.std.proofs.lemmas.List.{length-map, take-append-drop, take_all}
use Rattle.std.proofs.lemmas.List.Elements.{filter-append}
use Rattle.std.proofs.lemmas.List.Sums.{count_by-le-length, count_by_more_no, count_by_more_yes, length-filter}
use Rattle.std.proofs.lemmas.Map.Views.{Contains-from_any}
use Rattle.std.proofs.lemmas.Option.{same_Some}
use Rattle.fugue_ids.specs.Identifiers.{Identifier, id_eq}
use Rattle.fugue_ids.specs.declared.op.Op.{Op}
use Rattle.fugue_ids.proofs.IdentifierLemmas.{cases_id, eq-id_eq, id_eq-true, ne-id_eq}
use Rattle.fugue_ids.proofs.ListLemmas.{contains_cases, contains_filter, contains_filter_from, contains_none}
use Rattle.origin_model.specs.declared.operations.Place.TheVariants.{Catalogue as catalogue}
use Rattle.origin_model.specs.operations.History.{holds}
use Rattle.origin_model.specs.operations.Verdict.{Lawful}
use Rattle.origin_model.specs.order.Printed.{shown}
use Rattle.origin_model.proofs.edits.SplitLemmas.{get_in}
use Rattle.catalogue_notes.specs.Arranged.{arranged}
use Rattle.catalogue_notes.specs.Claims.{Move}
use Rattle.catalogue_notes.specs.Lift.{moves}
use Rattle.catalogue_notes.specs.Making.{without_member}
use Rattle.catalogue_notes.proofs.ArrangedLemmas.{arranged_once, arranged_shown, shown_arranged}
use Rattle.catalogue_notes.proofs.KeptOrderLemmas.{positions_keep_order}
use Rattle.catalogue_notes.proofs.PartLemmas.{filter-filter, filter_full, filter_no, filter_out, filter_same, filter_yes, get_some, is_other}
use Rattle.section_plan.specs.Matching.{section_of}
use Rattle.section_plan.specs.Orders.{IsOrder}
use Rattle.section_plan.specs.Rises.{IsChosen, IsRise, chosen_count, rise_value}
use Rattle.section_plan.specs.declared.pairs.Pairs.{Pairs}
use Rattle.draft_plan.specs.Arranging.{AreStaying, ArrangesFew, IsOrderOf, IsSectionMoved, MovesFewTo, MovesPart}
use Rattle.draft_plan.specs.Keeping.{MovesFew, has_no_move, is_one_of, stays_unmoved}
use Rattle.draft_plan.specs.Plans.{MovesNoMore, PlansMoves, move_count, sum_below}
use Rattle.draft_plan.specs.Resizing.{AreDistinct}
use Rattle.draft_plan.specs.Revision.{HasOneMore, moves_of}
use Rattle.draft_plan.specs.Shaping.{KeepsPlaces}
use Rattle.draft_plan.proofs.RankLemmas.{flag_at, flag_count, flags_most, one_order}
use Rattle.draft_plan.proofs.RevisionLemmas.{shown_holds}
use Rattle.draft_plan.proofs.ShapeLemmas.{got}
use Rattle.std.proofs.Math.Bool.{or-true}

and_true : (b : Bool) → b && true ≡ b
and_true true = refl
and_true false = refl

-- a member that is not chosen, put in
filter_put : (f : Identifier → Bool) (ys : List Identifier) (j : ℕ) (s : Identifier) → f s ≡ false → filter f (insert ys j s) ≡ filter f ys
filter_put f ys j s e =
    filter-append f (take j ys) (s ∷ drop j ys)
    ∙ ap (λ l. filter f (take j ys) ++ l) (filter_no f s (drop j ys) e)
    ∙ sym (filter-append f (take j ys) (drop j ys))
    ∙ ap (filter f) (take-append-drop j ys)

-- nothing was moved yet
pub few_start : (h : List Op) (stays : List Bool) (ts : List Identifier) → MovesFewTo h h stays ts 0
few_start h stays ts = record { once = λ s. inl refl; ahead = λ j s l e. refl; kept = λ j s c e. refl; order = refl }

module _ (start mid new : List Op) (stays : List Bool) (ts : List Identifier) (part : ℕ) (once : AreDistinct ts) (w : Lawful mid) (was : MovesFewTo start mid stays ts part) where
  -- nothing more was moved
  few_same : moves new ≡ moves mid → arranged new ≡ arranged mid → MovesFewTo start new stays ts (part + 1)
  few_same mv ar =
      let of : (t : Identifier) → moves_of new t ≡ moves_of mid t = λ t. ap (filter (λ (m : Move). id_eq m.section t)) mv in
      let none : List Move → Identifier → Bool = λ ms s. nat_eq (length (filter (λ (m : Move). id_eq m.section s) ms)) (length (moves_of start s)) in
      record {
        once = λ s. subst (HasOneMore (moves_of start s)) (sym (of s)) (was.once s);
        ahead = λ j s l e. of s ∙ was.ahead j s (omega (arith, l)) e;
        kept = λ j s c e. of s ∙ was.kept j s c e;
        order = subst (λ (ms : List Move). filter (none ms) (arranged start) ≡ filter (none ms) (arranged new)) (sym mv)
            (subst (λ (xs : List Identifier). filter (none (moves mid)) (arranged start) ≡ filter (none (moves mid)) xs) (sym ar) was.order);
      }

  -- the section of the part was moved
  module _ (s : Identifier) (at : slice_get ts part ≡ Some s) (free : slice_index_or stays part false ≡ false) (m : IsSectionMoved mid new s) where
    here : moves_of new s ≡ m.adds.claim ∷ moves_of mid s
    here = ap (filter (λ (c : Move). id_eq c.section s)) m.adds.in_front
        ∙ filter_yes (λ (c : Move). id_eq c.section s) m.adds.claim (moves mid) (eq-id_eq m.adds.claim.section s m.adds.on)

    there : (t : Identifier) → t ≢ s → moves_of new t ≡ moves_of mid t
    there t ne =
        ap (filter (λ (c : Move). id_eq c.section t)) m.adds.in_front
        ∙ filter_no (λ (c : Move). id_eq c.section t) m.adds.claim (moves mid) (ne-id_eq m.adds.claim.section t (λ d. ne (sym d ∙ m.adds.on)))

    before : moves_of mid s ≡ moves_of start s
    before = was.ahead part s (omega arith) at

    abbrev U : Identifier → Bool
    U t = has_no_move start new t

    abbrev V : Identifier → Bool
    V t = has_no_move start mid t

    moved_here : U s ≡ false
    moved_here =
        let long : length (moves_of new s) ≡ length (moves_of start s) + 1 = ap length here ∙ (omega (arith, ap length before)) in
        ne_eqb (length (moves_of new s)) (length (moves_of start s)) (λ e. omega (arith, e, long))

    same_there : (t : Identifier) → t ≢ s → U t ≡ V t
    same_there t ne = ap (λ (l : List Move). nat_eq (length l) (length (moves_of start t))) (there t ne)

    by_other : (t : Identifier) → U t ≡ is_other s t && V t
    by_other t = elim (cases_id t s) [
      | inl e ↦ ap U e ∙ moved_here ∙ sym (ap (λ b. not b && V t) (eq-id_eq t s e))
      | inr ne ↦ same_there t ne ∙ sym (ap (λ b. not b && V t) (ne-id_eq t s ne))
    ]

    and_other : (t : Identifier) → U t && is_other s t ≡ U t
    and_other t = elim (cases_id t s) [
      | inl e ↦ ap (λ b. b && is_other s t) (ap U e ∙ moved_here) ∙ sym (ap U e ∙ moved_here)
      | inr ne ↦ ap (λ b. U t && not b) (ne-id_eq t s ne) ∙ and_true (U t)
    ]

    split : (xs : List Identifier) → filter U xs ≡ filter (is_other s) (filter V xs)
    split xs = filter_same U (λ t. is_other s t && V t) xs (λ t k. by_other t) ∙ sym (filter-filter (is_other s) V xs)

    without_it : filter U (arranged mid) ≡ filter U (without_member (arranged mid) m.from)
    without_it =
        sym (filter-filter U (is_other s) (arranged mid) ∙ filter_same (λ t. U t && is_other s t) U (arranged mid) (λ t k. and_other t))
        ∙ ap (filter U) (filter_out (arranged mid) m.from s (arranged_once mid w) m.stood)

    in_order : filter U (arranged start) ≡ filter U (arranged new)
    in_order =
        split (arranged start)
        ∙ ap (filter (is_other s)) was.order
        ∙ sym (split (arranged mid))
        ∙ without_it
        ∙ sym (ap (filter U) m.lands ∙ filter_put U (without_member (arranged mid) m.from) m.to s moved_here)

    few_moved : MovesFewTo start new stays ts (part + 1)
    few_moved = record {
      once = λ t. elim (cases_id t s) [
        | inl e ↦ subst (λ u. HasOneMore (moves_of start u) (moves_of new u)) (sym e) (inr (ap (drop 1) here ∙ before))
        | inr ne ↦ subst (HasOneMore (moves_of start t)) (sym (there t ne)) (was.once t)
      ];
      ahead = λ j t l e.
          let other : t ≢ s = λ d. let same = once j part s (e ∙ ap Some d) at in omega (arith, l, same) in
          there t other ∙ was.ahead j t (omega (arith, l)) e;
      kept = λ j t c e.
          let other : t ≢ s = λ d. let same = once j part s (e ∙ ap Some d) at in true≢false (sym c ∙ (ap (λ n. slice_index_or stays n false) same ∙ free)) in
          there t other ∙ was.kept j t c e;
      order = in_order;
    }

  pub few_more : MovesPart mid new stays ts part → MovesFewTo start new stays ts (part + 1)
  few_more (inl e) = few_same e.0 e.1
  few_more (inr r) = few_moved r.0 r.1 r.2 r.3

-- each part in front of one stays, or is moved
moved_or_stays : (stays : List Bool) (n : ℕ) → n ≤ length stays → sum_below (move_count stays) n + count_by (λ (c : Bool). c) (take n stays) ≡ n
moved_or_stays stays zero l = refl
moved_or_stays stays (suc n) l = by (moved_or_stays stays n (omega (arith, l))) (get_or stays n false) refl
  where
    by : sum_below (move_count stays) n + count_by (λ (c : Bool). c) (take n stays) ≡ n → (b : Bool) → get_or stays n false ≡ b
        → sum_below (move_count stays) (suc n) + count_by (λ (c : Bool). c) (take (suc n) stays) ≡ suc n
    by before true e =
        let none : move_count stays n ≡ 0 = ap (λ b. cond b 0 1) e in
        omega (arith, before, none, count_by_more_yes (λ (c : Bool). c) stays n false (omega (arith, l)) e, ap (λ m. count_by (λ (c : Bool). c) (take m stays)) (add-one n))
    by before false e =
        let one : move_count stays n ≡ 1 = ap (λ b. cond b 0 1) e in
        omega (arith, before, one, count_by_more_no (λ (c : Bool). c) stays n false (omega (arith, l)) e, ap (λ m. count_by (λ (c : Bool). c) (take m stays)) (add-one n))

-- the parts that stay stand in a longest series
module _ (old : List Op) (pairs : Pairs) (ts : List Identifier) (order : List ℕ) (stays : List Bool) (w : Lawful old) (is : IsOrder order) (of : IsOrderOf ts (arranged old) order)
    (long : length order ≡ length ts)
    (st : AreStaying order pairs stays) (long_stays : length stays ≡ length order) where
  stands : (x a : ℕ) (s : Identifier) → x < length order → get_or order x 0 ≡ a → slice_get ts a ≡ Some s → slice_get (arranged old) x ≡ Some s
  stands x a s l e at =
      let u = get_some (arranged old) x (omega (arith, l, of.long)) in
      u.1 ∙ ap Some (same_Some u.0 s (sym (of.each x u.0 u.1) ∙ (ap (slice_get ts) e ∙ at)))

  module _ (chosen : Identifier → Bool) (paired : (j : ℕ) (s : Identifier) → slice_get ts j ≡ Some s → chosen s ≡ true → IsSome (section_of pairs j))
      (same : filter chosen (arranged old) ≡ filter chosen ts) where
    rise : IsRise st.places (map chosen ts)
    rise = record {
      places = length-map ts chosen ∙ (sym long ∙ sym st.places_are.long);
      have = λ a c.
          let f = flag_at chosen ts a c in
          let l = (got ts a f.0 f.1).0 in
          let x = is.all a (omega (arith, l, long)) in
          subst IsSome (sym ((st.places_are.each a x.0).1 (x.1, x.2, paired a f.0 f.1 f.2))) refl;
      rises = λ a b x y l ca cb vx vy.
          let f = flag_at chosen ts a ca in
          let g = flag_at chosen ts b cb in
          let tx = (st.places_are.each a x).0 vx in
          let ty = (st.places_are.each b y).0 vy in
          one_order chosen ts (arranged old) a b x y f.0 g.0 (arranged_once old w) (sym same) f.2 g.2 f.1 g.1 (stands x a f.0 tx.0 tx.1 f.1) (stands y b g.0 ty.0 ty.1 g.1) l;
    }

    pub most : length (filter chosen ts) ≤ chosen_count stays
    most = let l = st.longest.longest (map chosen ts) rise in omega (arith, l, flag_count chosen ts)

  matched : (j : ℕ) → IsChosen stays j → IsSome (section_of pairs j)
  matched j c = by (rise_value st.places j) refl (st.longest.rise.have j c)
    where
      by : (o : Option ℕ) → rise_value st.places j ≡ o → IsSome (rise_value st.places j) → IsSome (section_of pairs j)
      by None e some = let f : false ≡ true = subst IsSome e some in cc
      by (Some x) e some = ((st.places_are.each j x).0 e).2

  -- so there are no more moves than it takes
  pub moves_no_more : MovesNoMore old pairs ts (sum_below (move_count stays) (length ts))
  moves_no_more = λ chosen paired same. omega (arith, most chosen paired same, moved_or_stays stays (length ts) (omega (arith, long, long_stays)), take_whole)
    where
      take_whole : count_by (λ (c : Bool). c) (take (length ts) stays) ≡ chosen_count stays
      take_whole = ap (count_by (λ (c : Bool). c)) (take_all (length ts) stays (omega (arith, long, long_stays)))

  pub arranges_few : (new : List Op) (part : ℕ) → MovesFewTo old new stays ts part → part ≡ length ts → ArrangesFew old new pairs ts
  arranges_few new part few all = record { stays = stays; long = long_stays ∙ long; few = subst (MovesFewTo old new stays ts) all few; matched = matched; most = most }

-- a section that is one of these is found among them
among_to : (xs : List Identifier) (s : Identifier) → Contains xs s → is_one_of xs s ≡ true
among_to [] s m = absurd (contains_none s m)
among_to (x ∷ xs) s m = elim (contains_cases x xs s m) [
  | inl e ↦ ap (λ b. b || is_one_of xs s) (eq-id_eq s x (sym e))
  | inr k ↦ ap (λ b. id_eq s x || b) (among_to xs s k) ∙ or-true (id_eq s x)
]

among_from : (xs : List Identifier) (s : Identifier) → is_one_of xs s ≡ true → Contains xs s
among_from xs s e = Contains-from_any id_eq-true s xs e

-- sections were dropped and added, and then moved
module _ (h0 h1 h2 : List Op) (pairs : Pairs) (ts : List Identifier) (v : Lawful h0) (w : Lawful h1) (places : KeepsPlaces h0 h1) (few : ArrangesFew h1 h2 pairs ts)
    (arr : arranged h2 ≡ ts)
    (shown_are : (s : Identifier) → Contains (shown catalogue h1) s ↔ Contains ts s)
    (kept : (j i : ℕ) (s : Identifier) → section_of pairs j ≡ Some i → slice_get (arranged h0) i ≡ Some s → slice_get ts j ≡ Some s)
    (fresh : (j : ℕ) (s : Identifier) → section_of pairs j ≡ None → slice_get ts j ≡ Some s → holds h0 s ≡ false)
    (within : (j i : ℕ) → section_of pairs j ≡ Some i → i < length (arranged h0)) where
  in_mid : (s : Identifier) → Contains (arranged h2) s → Contains (arranged h1) s
  in_mid s m = shown_arranged h1 s w ((shown_are s).1 (subst (λ l. Contains l s) arr m))

  in_end : (s : Identifier) → Contains (arranged h1) s → Contains (arranged h2) s
  in_end s m = subst (λ l. Contains l s) (sym arr) ((shown_are s).0 (arranged_shown h1 s m))

  abbrev Unmoved : Identifier → Bool
  Unmoved = stays_unmoved h0 h2

  abbrev W : Identifier → Bool
  W s = is_one_of (arranged h0) s && is_one_of (arranged h2) s

  both : (s : Identifier) → Unmoved s ≡ true → Contains (arranged h0) s × Contains (arranged h2) s
  both s u =
      let p = and_parts (is_one_of (arranged h0) s) (is_one_of (arranged h2) s) (and_parts (W s) (has_no_move h0 h2 s) u).0 in
      (among_from (arranged h0) s p.0, among_from (arranged h2) s p.1)

  same_moves : (s : Identifier) → has_no_move h0 h2 s ≡ has_no_move h1 h2 s
  same_moves s = ap (λ (ms : List Move). nat_eq (length (moves_of h2 s)) (length (filter (λ (m : Move). id_eq m.section s) ms))) (sym places.moved)

  parted : (xs : List Identifier) → filter Unmoved xs ≡ filter W (filter (has_no_move h1 h2) xs)
  parted xs = filter_same Unmoved (λ s. W s && has_no_move h1 h2 s) xs (λ s k. ap (λ b. W s && b) (same_moves s)) ∙ sym (filter-filter W (has_no_move h1 h2) xs)

  ordered : filter Unmoved (arranged h0) ≡ filter Unmoved (arranged h2)
  ordered =
      positions_keep_order h0 h1 Unmoved v w places.part (λ s u m. (in_mid s (both s u).1, places.positions s)) (λ s u m. (both s u).0)
      ∙ (parted (arranged h1) ∙ (ap (filter W) few.few.order ∙ sym (parted (arranged h2))))

  -- a part that stays has its section, which was arranged before and was not moved
  stays_there : (j : ℕ) (s : Identifier) → IsChosen few.stays j → slice_get ts j ≡ Some s → Unmoved s ≡ true
  stays_there j s c at =
      and_from (W s) (has_no_move h0 h2 s)
      (and_from (is_one_of (arranged h0) s) (is_one_of (arranged h2) s) (among_to (arranged h0) s (by (section_of pairs j) refl (few.matched j c)))
      (among_to (arranged h2) s (subst (λ l. Contains l s) (sym arr) (get_in ts j s at))))
      (same_moves s ∙ eq-eqb (length (moves_of h2 s)) (length (moves_of h1 s)) (ap length (few.few.kept j s c at)))
    where
      by : (o : Option ℕ) → section_of pairs j ≡ o → IsSome (section_of pairs j) → Contains (arranged h0) s
      by None e some = let f : false ≡ true = subst IsSome e some in cc
      by (Some i) e some =
          let u = get_some (arranged h0) i (within j i e) in
          let same : u.0 ≡ s = same_Some u.0 s (sym (kept j i u.0 e u.1) ∙ at) in
          get_in (arranged h0) i s (u.1 ∙ ap Some same)

  module _ (chosen : Identifier → Bool) (same : filter chosen (arranged h0) ≡ filter chosen (arranged h2)) where
    to_old : (s : Identifier) → chosen s ≡ true → Contains (arranged h2) s → Contains (arranged h0) s
    to_old s c m = (contains_filter_from chosen (arranged h0) s (subst (λ l. Contains l s) (sym same) (contains_filter chosen (arranged h2) s m c))).0

    to_new : (s : Identifier) → chosen s ≡ true → Contains (arranged h0) s → Contains (arranged h2) s
    to_new s c m = (contains_filter_from chosen (arranged h2) s (subst (λ l. Contains l s) same (contains_filter chosen (arranged h0) s m c))).0

    paired : (j : ℕ) (s : Identifier) → slice_get ts j ≡ Some s → chosen s ≡ true → IsSome (section_of pairs j)
    paired j s at c = by (section_of pairs j) refl
      where
        by : (o : Option ℕ) → section_of pairs j ≡ o → IsSome (section_of pairs j)
        by (Some i) e = subst IsSome (sym e) refl
        by None e =
            let held : holds h0 s ≡ true = shown_holds h0 s v (arranged_shown h0 s (to_old s c (subst (λ l. Contains l s) (sym arr) (get_in ts j s at)))) in
            absurd (true≢false (sym held ∙ fresh j s e at))

    most_stay : length (filter chosen (arranged h2)) ≤ length (filter Unmoved (arranged h2))
    most_stay =
        let mid = positions_keep_order h0 h1 chosen v w places.part (λ s c m. (in_mid s (to_new s c m), places.positions s)) (λ s c m. to_old s c (in_end s m)) in
        let bound = few.most chosen paired (sym mid ∙ (same ∙ ap (filter chosen) arr)) in
        let there = flags_most Unmoved few.stays ts few.long stays_there in
        subst (λ (l : List Identifier). length (filter chosen l) ≤ length (filter Unmoved l)) (sym arr) (omega (arith, bound, there))

  pub moves_few : MovesFew h0 h2
  moves_few = record {
    once = λ s st. subst (λ (ms : List Move). HasOneMore (filter (λ (m : Move). id_eq m.section s) ms) (moves_of h2 s)) places.moved (few.few.once s);
    order = ordered;
    most = most_stay;
  }

-- those that stay unmoved, by the moves and the arrangement after
abbrev unmoved_by : List Op → List Move → List Identifier → Identifier → Bool
unmoved_by o ms xs s = (is_one_of (arranged o) s && is_one_of xs s) && nat_eq (length (filter (λ (m : Move). id_eq m.section s) ms)) (length (moves_of o s))

-- and nothing was moved or rearranged later
pub few_still : (o m n : List Op) → arranged n ≡ arranged m → moves n ≡ moves m → MovesFew o m → MovesFew o n
few_still o m n a mv few =
    let U : List Move → List Identifier → Identifier → Bool = unmoved_by o in
    record {
      once = λ s st. subst (λ (ms : List Move). HasOneMore (moves_of o s) (filter (λ (c : Move). id_eq c.section s) ms)) (sym mv)
          (few.once s (st.0, subst (λ l. Contains l s) a st.1));
      order = subst (λ (xs : List Identifier). filter (U (moves n) xs) (arranged o) ≡ filter (U (moves n) xs) xs) (sym a)
          (subst (λ (ms : List Move). filter (U ms (arranged m)) (arranged o) ≡ filter (U ms (arranged m)) (arranged m)) (sym mv) few.order);
      most = λ chosen same.
          subst (λ (xs : List Identifier). length (filter chosen xs) ≤ length (filter (U (moves n) xs) xs)) (sym a)
          (subst (λ (ms : List Move). length (filter chosen (arranged m)) ≤ length (filter (U ms (arranged m)) (arranged m))) (sym mv)
          (few.most chosen (same ∙ ap (filter chosen) a)));
    }

-- nothing was moved at all
pub few_none : (o : List Op) → MovesFew o o
few_none o = record {
  once = λ s st. inl refl;
  order = refl;
  most = λ chosen same.
      let xs : List Identifier = arranged o in
      let full : filter (stays_unmoved o o) xs ≡ xs =
      filter_full (stays_unmoved o o) xs (λ s m.
      let there = among_to xs s m in
      and_from (is_one_of xs s && is_one_of xs s) (has_no_move o o s) (and_from (is_one_of xs s) (is_one_of xs s) there there)
      (eq-eqb (length (moves_of o s)) (length (moves_of o s)) refl)) in
      omega (arith, ap length full, length-filter chosen xs, count_by-le-length chosen xs);
}

-- sections were dropped and added: it takes as few moves as before
pub plans_moves : (h0 h1 : List Op) (pairs : Pairs) (ts : List Identifier) (moved : ℕ) → Lawful h0 → Lawful h1 → KeepsPlaces h0 h1
    → ((s : Identifier) → Contains (shown catalogue h1) s ↔ Contains ts s)
    → MovesNoMore h1 pairs ts moved → MovesNoMore h0 pairs ts moved
plans_moves h0 h1 pairs ts moved v w places shown_are few = λ chosen paired same.
    let to_mid : (s : Identifier) → chosen s ≡ true → Contains (arranged h0) s → Contains (arranged h1) s = λ s c m.
    shown_arranged h1 s w ((shown_are s).1 (contains_filter_from chosen ts s (subst (λ l. Contains l s) same (contains_filter chosen (arranged h0) s m c))).0) in
    let to_old : (s : Identifier) → chosen s ≡ true → Contains (arranged h1) s → Contains (arranged h0) s = λ s c m.
    (contains_filter_from chosen (arranged h0) s (subst (λ l. Contains l s) (sym same) (contains_filter chosen ts s ((shown_are s).0 (arranged_shown h1 s m)) c))).0 in
    few chosen paired (sym (positions_keep_order h0 h1 chosen v w places.part (λ s c m. (to_mid s c m, places.positions s)) to_old) ∙ same)

-- no more than there are sections
pub moves_within : (h : List Op) (pairs : Pairs) (parts moved : ℕ) → PlansMoves h pairs parts moved → moved ≤ parts
moves_within h pairs parts moved (inl none) = omega (arith, none)
moves_within h pairs parts moved (inr m) =
    let nobody : (xs : List Identifier) → filter (λ (s : Identifier). false) xs ≡ [] = none_chosen in
    let l = m.2 (λ s. false) (λ j s at c. absurd (true≢false (sym c))) (nobody (arranged h) ∙ sym (nobody m.0)) in
    omega (arith, l, m.1.long)
  where
    none_chosen : (xs : List Identifier) → filter (λ (s : Identifier). false) xs ≡ []
    none_chosen [] = refl
    none_chosen (x ∷ xs) = filter_no (λ (s : Identifier). false) x xs refl ∙ none_chosen xs
