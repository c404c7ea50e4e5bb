-- A move lands where it was asked.
use Rattle.std.proofs.Common.{List, [], ap, append_assoc, arith, inl, inr, length, map, max, not, refl, subst, suc, sym, true, zero, ℕ, ◌&&◌, ◌++◌, ◌+◌, ◌<◌, ◌^◌, ◌∙◌, ◌∷◌, ◌≡◌}
use Rattle.std.proofs.Common.{◌≢◌, ◌≤◌}
use Rattle.std.specs.Prelude.{IfSome, None, Option, Some, filter, flat_map, insert, is_some, option_map, option_to_list, slice_get}
use Rattle.std.specs.List.{All, Contains}
use Rattle.std.proofs.lemmas.Bool.{and_from}
use Rattle.std.proofs.lemmas.List.{drop_at, length-append, take_at}
use Rattle.std.proofs.lemmas.List.Elements.{All-append, All-cons, All-nil, Contains-append_left, Contains-append_right, filter-append}
use Rattle.std.proofs.lemmas.List.Kept.{AllPairs-filter}
use Rattle.std.proofs.lemmas.Nat.{from_be_bytes-to_be_bytes_4}
use Rattle.fugue_ids.specs.Identifiers.{Identifier, id_eq}
use Rattle.fugue_ids.specs.Listed.{last_before}
use Rattle.fugue_ids.specs.declared.op.Op.{Op}
use Rattle.fugue_ids.specs.declared.op.Op.TheVariants.{Note}
use Rattle.fugue_ids.proofs.IdentifierLemmas.{cases_id, eq-id_eq, id_eq-refl, ne-id_eq}
use Rattle.fugue_ids.proofs.ListLemmas.{contains_cases, contains_filter_from, contains_map, contains_none}
use Rattle.origin_model.specs.declared.operations.Place.TheVariants.{Catalogue as catalogue}
use Rattle.origin_model.specs.declared.operations.Verdict.TheVariants.{Ready}
use Rattle.origin_model.specs.operations.History.{holder}
use Rattle.origin_model.specs.operations.Verdict.{Lawful, verdict}
use Rattle.origin_model.specs.order.Order.{order}
use Rattle.origin_model.specs.order.Printed.{is_hidden, shown}
use Rattle.origin_model.specs.edits.Landing.{following}
use Rattle.origin_model.proofs.SharedLemmas.{found, not_hidden_before}
use Rattle.origin_model.proofs.edits.LandsBehindLemmas.{lands_behind_origin}
use Rattle.origin_model.proofs.edits.SplitLemmas.{end_none, end_split, get_in}
use Rattle.origin_model.proofs.edits.NotedLemmas.{note_orders, note_ready}
use Rattle.catalogue_notes.specs.Arranged.{arranged, best, counts, heading, position, sections_at, winner}
use Rattle.catalogue_notes.specs.Claims.{Move, Origins, Retitle, claim, move_in, retitle_in}
use Rattle.catalogue_notes.specs.Laws.{MoveLands}
use Rattle.catalogue_notes.specs.Lift.{as_section, greatest, is_section, is_valid_title, lift, moves, passing, retitles, stamp, is_present}
use Rattle.catalogue_notes.specs.Making.{left_of_move, move_body, move_names, move_of_member, without_member}
use Rattle.catalogue_notes.specs.declared.limits.TheConstants.{MOVE_CODE}
use Rattle.catalogue_notes.proofs.ArrangedLemmas.{IsSection, apart, arranged_once, arranged_shown, move_test, position_by, position_in, shown_is, shown_once}
use Rattle.catalogue_notes.proofs.ClaimLemmas.{beats-stamp, best-first, claims-none, claims-some}
use Rattle.catalogue_notes.proofs.HolderLemmas.{IsHeld, is_section-held, are_held, none_there, not_both, title-note}
use Rattle.catalogue_notes.proofs.LiftLemmas.{lift_lawful, lift-some, lifted_from, order_held, passing_to, unlifted}
use Rattle.catalogue_notes.proofs.PartLemmas.{Distinct, filter-filter, filter-parts, filter_no, filter_one, filter_out, filter_same, filter_yes, following_in, get_some, index_once}
use Rattle.catalogue_notes.proofs.PartLemmas.{is_other, length-out, parts-append, parts_same}

-- a move as a note
abbrev pub move_note : (id section : Identifier) → (stamp : ℕ) → Origins → Op
move_note id section stamp o = Note id (move_names section o) MOVE_CODE (move_body stamp o)

-- a number among others is at most the greatest
pub greatest_above : (ns : List ℕ) (n : ℕ) → Contains ns n → n ≤ greatest ns
greatest_above [] n m = absurd (contains_none n m)
greatest_above (k ∷ ns) n m = elim (contains_cases k ns n m) [ inl e ↦ omega (arith, e) | inr j ↦ let l = greatest_above ns n j in omega (arith, l) ]

-- so is the stamp of a valid move
stamp_above : (h : List Op) (m : Move) → Contains (moves h) m → m.stamp ≤ stamp h
stamp_above h m k =
    let l = greatest_above (map (λ (m : Move). m.stamp) (moves h)) m.stamp (contains_map (λ (m : Move). m.stamp) (moves h) m k) in
    omega (arith, l)

-- a move as a note is read back
note_read : (id s : Identifier) (n : ℕ) (l r : Option Identifier) → n < 2 ^ 32
    → move_in (move_note id s n (record { left = l; right = r })) ≡ Some (claim id s n (record { left = l; right = r }))
note_read id s n None None k = ap (λ z. Some (claim id s z (record { left = None; right = None }))) (from_be_bytes-to_be_bytes_4 n k)
note_read id s n (Some l) None k = ap (λ z. Some (claim id s z (record { left = Some l; right = None }))) (from_be_bytes-to_be_bytes_4 n k)
note_read id s n None (Some r) k = ap (λ z. Some (claim id s z (record { left = None; right = Some r }))) (from_be_bytes-to_be_bytes_4 n k)
note_read id s n (Some l) (Some r) k = ap (λ z. Some (claim id s z (record { left = Some l; right = Some r }))) (from_be_bytes-to_be_bytes_4 n k)

-- an origin that is lifted is held
origin_held : (h : List Op) (o : Option Identifier) → Lawful h → is_present (lift h) o ≡ true → All (IsHeld h) (option_to_list o)
origin_held h None w k = All-nil (IsHeld h)
origin_held h (Some i) w k =
    let o = found (holder (lift h) i) k in
    let f = lifted_from h i o.0 w o.1 in
    All-cons (IsHeld h) i [] (f.0, f.1) (All-nil (IsHeld h))

-- the move, on a lawful history
module _ (h : List Op) (id s : Identifier) (n : ℕ) (l r : Option Identifier) (w : Lawful h) (new : holder h id ≡ None) (fits : n < 2 ^ 32) (later : stamp h < n)
    (here : Contains (shown catalogue h) s) (left_is : is_present (lift h) l ≡ true) (right_is : is_present (lift h) r ≡ true) where
  abbrev o : Origins
  o = record { left = l; right = r }

  abbrev e : Op
  e = move_note id s n o

  abbrev m : Move
  m = claim id s n o

  is_here : IsSection h s
  is_here = shown_is h s w here

  read : move_in e ≡ Some m
  read = note_read id s n l r fits

  ready : verdict h e ≡ Ready
  ready =
      let named : List Identifier = option_to_list l ++ option_to_list r in
      note_ready h id (move_names s o) MOVE_CODE (move_body n o) w (ap is_some new)
      (are_held h (move_names s o)
      (All-cons (IsHeld h) s named (is_here.0, is_here.1)
      (All-append (IsHeld h) (option_to_list l) (option_to_list r) (origin_held h l w left_is) (origin_held h r w right_is))))

  valid : passing (move_test h) (move_in e) ≡ Some m
  valid = passing_to (move_test h) (move_in e) m read
      (and_from (is_section h s) (is_present (lift h) l && is_present (lift h) r) (is_section-held h s is_here.0 is_here.1 is_here.2)
      (and_from (is_present (lift h) l) (is_present (lift h) r) left_is right_is))

  lifted : lift (e ∷ h) ≡ as_section m ∷ lift h
  lifted = lift-some e h (as_section m) (ap (option_map as_section) valid)

  moves_are : moves (e ∷ h) ≡ m ∷ moves h
  moves_are = claims-some move_in move_test e h m valid

  same_shown : shown catalogue (e ∷ h) ≡ shown catalogue h
  same_shown = ap (filter (λ s. not (is_hidden h s))) (note_orders catalogue id (move_names s o) MOVE_CODE (move_body n o) h)

  same_retitles : retitles (e ∷ h) ≡ retitles h
  same_retitles = claims-none retitle_in is_valid_title e h refl

  -- one stamp more
  stamped : n ≡ stamp h + 1 → stamp (e ∷ h) ≡ stamp h + 1
  stamped k =
      (λ i. max (greatest (map (λ (m : Move). m.stamp) (moves_are i))) (greatest (map (λ (r : Retitle). r.stamp) (same_retitles i))))
      ∙ omega (arith, k)

  -- the titles stay
  same_heading : (t : Identifier) → heading (e ∷ h) t ≡ heading h t
  same_heading t = λ i. elim (winner h t (same_retitles i)) [ None ↦ title-note h id t (move_names s o) MOVE_CODE (move_body n o) new i | Some r ↦ r.value ]

  -- the winner of the section
  wins : winner (e ∷ h) s (moves (e ∷ h)) ≡ Some m
  wins =
      ap (winner (e ∷ h) s) moves_are
      ∙ ap best (filter_yes (counts (e ∷ h) s) m (moves h) (and_from (id_eq s s) (not (is_hidden h id)) (id_eq-refl s) (ap not (not_hidden_before h id w (ap is_some new)))))
      ∙ best-first m (filter (counts (e ∷ h) s) (moves h)) (λ b k.
      let a = stamp_above h b (contains_filter_from (counts (e ∷ h) s) (moves h) b k).0 in
      beats-stamp m b (omega (arith, a, later)))

  moved_position : position (e ∷ h) s ≡ id
  moved_position = ap (position_by s) wins

  -- the other sections stay
  kept_position : (t : Identifier) → t ≢ s → position (e ∷ h) t ≡ position h t
  kept_position t d =
      ap (λ cs. position_by t (winner (e ∷ h) t cs)) moves_are
      ∙ ap (λ cs. position_by t (best cs)) (filter_no (counts (e ∷ h) t) m (moves h) (ap (λ b. b && not (is_hidden h id)) (ne-id_eq s t (λ k. d (sym k)))))

  abbrev S : List Identifier
  S = shown catalogue h

  abbrev F : Identifier → List Identifier
  F x = sections_at h x

  -- no old element is the new one
  old_other : (x : Identifier) → Contains (order catalogue (lift h)) x → x ≢ id
  old_other x k d =
      let q = order_held (lift h) x (lift_lawful h w) k in
      not_both (holder (lift h) x) q.0 (ap (holder (lift h)) d ∙ unlifted h id new) q.1

  -- at an old element the section is missing
  part_old : (x : Identifier) → x ≢ id → sections_at (e ∷ h) x ≡ filter (is_other s) (F x)
  part_old x d =
      ap (filter (λ t. id_eq (position (e ∷ h) t) x)) same_shown
      ∙ filter_same (λ t. id_eq (position (e ∷ h) t) x) (λ t. is_other s t && id_eq (position h t) x) S (λ t k.
      elim (cases_id t s) [
        | inl j ↦ ap (λ z. id_eq z x) (ap (position (e ∷ h)) j ∙ moved_position) ∙ ne-id_eq id x (λ i. d (sym i)) ∙ sym (ap (λ b. not b && id_eq (position h t) x) (eq-id_eq t s j))
        | inr j ↦ ap (λ z. id_eq z x) (kept_position t j) ∙ sym (ap (λ b. not b && id_eq (position h t) x) (ne-id_eq t s j))
      ])
      ∙ sym (filter-filter (is_other s) (λ t. id_eq (position h t) x) S)

  -- at the new one it stands alone
  part_new : sections_at (e ∷ h) id ≡ s ∷ []
  part_new =
      ap (filter (λ t. id_eq (position (e ∷ h) t) id)) same_shown
      ∙ filter_same (λ t. id_eq (position (e ∷ h) t) id) (λ t. id_eq t s) S (λ t k.
      elim (cases_id t s) [
        | inl j ↦ eq-id_eq (position (e ∷ h) t) id (ap (position (e ∷ h)) j ∙ moved_position) ∙ sym (eq-id_eq t s j)
        | inr j ↦ ne-id_eq (position (e ∷ h) t) id (λ i. old_other (position h t) (position_in h t w (shown_is h t w k)) (sym (kept_position t j) ∙ i)) ∙ sym (ne-id_eq t s j)
      ])
      ∙ filter_one S s (shown_once h w) here

  -- the parts of old elements, without the section
  parts_old : (xs : List Identifier) → ((x : Identifier) → Contains xs x → x ≢ id) → flat_map (sections_at (e ∷ h)) xs ≡ filter (is_other s) (flat_map F xs)
  parts_old xs d = parts_same (sections_at (e ∷ h)) (λ x. filter (is_other s) (F x)) xs (λ x k. part_old x (d x k)) ∙ sym (filter-parts (is_other s) F xs)

  -- the arrangement after the move, by where its element lands
  pub arranged_by : (front back : List Identifier) → order catalogue (lift h) ≡ front ++ back → order catalogue (lift (e ∷ h)) ≡ front ++ (id ∷ []) ++ back
      → arranged (e ∷ h) ≡ filter (is_other s) (flat_map F front) ++ s ∷ filter (is_other s) (flat_map F back)
  arranged_by front back was is =
      let G : Identifier → List Identifier = sections_at (e ∷ h) in
      let old_front = parts_old front (λ x k. old_other x (subst (λ z. Contains z x) (sym was) (Contains-append_left front back x k))) in
      let old_back = parts_old back (λ x k. old_other x (subst (λ z. Contains z x) (sym was) (Contains-append_right front back x k))) in
      ap (flat_map G) (is ∙ append_assoc front (id ∷ []) back)
      ∙ parts-append G front (id ∷ back)
      ∙ (λ i. old_front i ++ (part_new i ++ old_back i))

-- a section stands alone at its position
pub alone : (h : List Op) (t : Identifier) → Lawful h → Contains (shown catalogue h) t → sections_at h (position h t) ≡ t ∷ []
alone h t w k =
    filter_same (λ u. id_eq (position h u) (position h t)) (λ u. id_eq u t) (shown catalogue h) (λ u j.
    elim (cases_id u t) [
      | inl d ↦ eq-id_eq (position h u) (position h t) (ap (position h) d) ∙ sym (eq-id_eq u t d)
      | inr d ↦ ne-id_eq (position h u) (position h t) (λ i. d (apart h u t w (shown_is h u w j) (shown_is h t w k) i)) ∙ sym (ne-id_eq u t d)
    ])
    ∙ filter_one (shown catalogue h) t (shown_once h w) k

-- two parts with a member between them are the parts joined with the member put in after the first
put_in : (A B : List Identifier) (s : Identifier) (j : ℕ) → length A ≡ j → A ++ s ∷ B ≡ insert (A ++ B) j s
put_in A B s j e = sym (λ i. take_at A B j e i ++ s ∷ drop_at A B j e i)

-- where the left origin is the last of the front, the front has as many members as stand in front of the place
pub front_length : (h : List Op) (s : Identifier) (k j : ℕ) (front back : List Identifier) → Lawful h → slice_get (arranged h) k ≡ Some s → j < length (arranged h)
    → order catalogue (lift h) ≡ front ++ back → last_before front ≡ left_of_move h k j
    → length (filter (is_other s) (flat_map (sections_at h) front)) ≡ j
front_length h s k zero front back w at below was ends = ap (λ z. length (filter (is_other s) (flat_map (sections_at h) z))) (end_none front ends)
front_length h s k (suc i) front back w at below was ends =
    let F : Identifier → List Identifier = sections_at h in
    let W : List Identifier = without_member (arranged h) k in
    let out : filter (is_other s) (arranged h) ≡ W = filter_out (arranged h) k s (arranged_once h w) at in
    let t = get_some W i (omega (arith, below, length-out (arranged h) k s at)) in
    let ends' : last_before front ≡ Some (position h t.0) = ends ∙ ap (option_map (position h)) t.1 in
    let f = end_split front (position h t.0) ends' in
    let X : List Identifier = filter (is_other s) (flat_map F f.0) in
    let B : List Identifier = filter (is_other s) (flat_map F back) in
    let in_W : Contains (filter (is_other s) (arranged h)) t.0 = subst (λ z. Contains z t.0) (sym out) (get_in W i t.0 t.1) in
    let kept = contains_filter_from (is_other s) (arranged h) t.0 in_W in
    let one : filter (is_other s) (flat_map F front) ≡ X ++ t.0 ∷ [] =
    ap (λ z. filter (is_other s) (flat_map F z)) f.1
    ∙ ap (filter (is_other s)) (parts-append F f.0 (position h t.0 ∷ []))
    ∙ filter-append (is_other s) (flat_map F f.0) (F (position h t.0) ++ [])
    ∙ ap (λ z. X ++ filter (is_other s) (z ++ [])) (alone h t.0 w (arranged_shown h t.0 kept.0))
    ∙ ap (λ z. X ++ z) (filter_yes (is_other s) t.0 [] kept.1) in
    let whole : W ≡ X ++ t.0 ∷ B =
    sym out
    ∙ ap (λ z. filter (is_other s) (flat_map F z)) was
    ∙ ap (filter (is_other s)) (parts-append F front back)
    ∙ filter-append (is_other s) (flat_map F front) (flat_map F back)
    ∙ ap (λ z. z ++ B) one
    ∙ append_assoc X (t.0 ∷ []) B in
    let distinct : Distinct W = subst Distinct out (AllPairs-filter (λ x y. x ≢ y) (is_other s) (arranged h) (arranged_once h w)) in
    let place : i ≡ length X = index_once X t.0 B i (subst Distinct whole distinct) (ap (λ z. slice_get z i) (sym whole) ∙ t.1) in
    ap length one ∙ omega (arith, length-append X (t.0 ∷ []), place)

-- the left origin is lifted
left_stands : (h : List Op) (s : Identifier) (k j : ℕ) → Lawful h → slice_get (arranged h) k ≡ Some s → j < length (arranged h)
    → IfSome (left_of_move h k j) (λ l. Contains (order catalogue (lift h)) l)
left_stands h s k zero w at below = tt
left_stands h s k (suc i) w at below =
    let W : List Identifier = without_member (arranged h) k in
    let out : filter (is_other s) (arranged h) ≡ W = filter_out (arranged h) k s (arranged_once h w) at in
    let t = get_some W i (omega (arith, below, length-out (arranged h) k s at)) in
    let in_W : Contains (filter (is_other s) (arranged h)) t.0 = subst (λ z. Contains z t.0) (sym out) (get_in W i t.0 t.1) in
    let kept = contains_filter_from (is_other s) (arranged h) t.0 in_W in
    subst (λ o. IfSome o (λ l. Contains (order catalogue (lift h)) l)) (sym (ap (option_map (position h)) t.1))
    (position_in h t.0 w (shown_is h t.0 w (arranged_shown h t.0 kept.0)))

-- an element of the order stands among what was lifted
stands_in : (h : List Op) (o : Option Identifier) → Lawful h → ((x : Identifier) → o ≡ Some x → Contains (order catalogue (lift h)) x) → is_present (lift h) o ≡ true
stands_in h None w k = refl
stands_in h (Some x) w k = ap is_some (order_held (lift h) x (lift_lawful h w) (k x refl)).1

if_some : {X : Type 0} → (P : X → Type 0) (o : Option X) (x : X) → IfSome o P → o ≡ Some x → P x
if_some P o x p e = subst (λ o. IfSome o P) e p

-- a move lands where it was asked
pub move_lands : MoveLands
move_lands h id s k j w absent left_over at below =
    let new : holder h id ≡ None = none_there (holder h id) absent in
    let l : Option Identifier = left_of_move h k j in
    let r : Option Identifier = following (order catalogue (lift h)) l in
    let n : ℕ = stamp h + 1 in
    let has_left = left_stands h s k j w at below in
    let left_is : is_present (lift h) l ≡ true = stands_in h l w (λ x q. if_some (λ l. Contains (order catalogue (lift h)) l) l x has_left q) in
    let right_is : is_present (lift h) r ≡ true = stands_in h r w (following_in (order catalogue (lift h)) l) in
    let here : Contains (shown catalogue h) s = arranged_shown h s (get_in (arranged h) k s at) in
    let later : stamp h < n = omega arith in
    let e : Op = move_of_member h id s k j in
    let m : Move = claim id s n (record { left = l; right = r }) in
    let is_ready : verdict h e ≡ Ready = ready h id s n l r w new left_over later here left_is right_is in
    let is_lifted : lift (e ∷ h) ≡ as_section m ∷ lift h = lifted h id s n l r w new left_over later here left_is right_is in
    let lawful : Lawful (as_section m ∷ lift h) = subst Lawful is_lifted (lift_lawful (e ∷ h) (is_ready, w)) in
    let b = lands_behind_origin catalogue (as_section m) (lift h) id lawful refl has_left refl in
    let A : List Identifier = filter (is_other s) (flat_map (sections_at h) b.front) in
    let B : List Identifier = filter (is_other s) (flat_map (sections_at h) b.back) in
    let parts : filter (is_other s) (arranged h) ≡ A ++ B =
    ap (λ z. filter (is_other s) (flat_map (sections_at h) z)) b.was
    ∙ ap (filter (is_other s)) (parts-append (sections_at h) b.front b.back)
    ∙ filter-append (is_other s) (flat_map (sections_at h) b.front) (flat_map (sections_at h) b.back) in
    record {
      ready = is_ready;
      lands =
          arranged_by h id s n l r w new left_over later here left_is right_is b.front b.back b.was (ap (order catalogue) is_lifted ∙ b.is)
          ∙ put_in A B s j (front_length h s k j b.front b.back w at below b.was b.origin)
          ∙ ap (λ z. insert z j s) (sym parts ∙ filter_out (arranged h) k s (arranged_once h w) at);
      stamped = stamped h id s n l r w new left_over later here left_is right_is refl;
      same_shown = same_shown h id s n l r w new left_over later here left_is right_is;
      same_headings = same_heading h id s n l r w new left_over later here left_is right_is;
      adds = record { claim = m; on = refl; in_front = moves_are h id s n l r w new left_over later here left_is right_is };
    }
