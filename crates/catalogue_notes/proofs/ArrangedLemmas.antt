-- Positions, and the shown sections in their order.
use Rattle.std.proofs.Common.{Bool, List, ap, arith, inl, inr, length, not, refl, sym, true, ℕ, ◌<◌, ◌∙◌, ◌≡◌, ◌≢◌}
use Rattle.std.specs.Prelude.{None, Option, Some, filter, option_map, slice_index_or}
use Rattle.std.specs.List.{AllPairs, Contains}
use Rattle.std.proofs.lemmas.Bool.{and_parts, false≢true, true≢false}
use Rattle.std.proofs.lemmas.List.Elements.{Contains-get_or}
use Rattle.std.proofs.lemmas.List.Kept.{AllPairs-filter}
use Rattle.fugue_ids.specs.Identifiers.{Identifier, id_eq}
use Rattle.fugue_ids.specs.declared.op.Op.{Op}
use Rattle.fugue_ids.specs.declared.op.Op.TheVariants.{Delete, Note, Section, Text}
use Rattle.fugue_ids.proofs.IdentifierLemmas.{id_eq-refl, id_eq-true}
use Rattle.fugue_ids.proofs.ListLemmas.{all_pairs_weaker, contains_filter, contains_filter_from}
use Rattle.origin_model.specs.declared.operations.Place.TheVariants.{Catalogue as catalogue}
use Rattle.origin_model.specs.declared.operations.Role.TheVariants.{Section as SectionRole}
use Rattle.origin_model.specs.operations.History.{holder}
use Rattle.origin_model.specs.operations.Verdict.{Lawful, fits}
use Rattle.origin_model.specs.order.Order.{before, order}
use Rattle.origin_model.specs.order.Printed.{is_hidden, shown}
use Rattle.origin_model.proofs.SharedLemmas.{element_stands, order_total, place_stands}
use Rattle.catalogue_notes.specs.Arranged.{arranged, counts, position, sections_at, winner}
use Rattle.catalogue_notes.specs.Claims.{Move, move_in}
use Rattle.catalogue_notes.specs.Lift.{as_section, is_valid, lift, lifted_of, moves, passing}
use Rattle.catalogue_notes.specs.Laws.{EachOnce}
use Rattle.catalogue_notes.proofs.HolderLemmas.{cases_option, not_both}
use Rattle.catalogue_notes.proofs.LiftLemmas.{in_order, lift_fits, lift_lawful, lifted_to, move-kept, passing_from, section_lifts, shape}
use Rattle.catalogue_notes.proofs.ClaimLemmas.{best_in, claim_found, found_claim, one_claim}
use Rattle.catalogue_notes.proofs.PartLemmas.{Distinct, contains_parts, contains_parts_from, parts_in_order, within_length}

-- which moves are valid
abbrev pub move_test : List Op → Move → Bool
move_test h m = is_valid h (lift h) m

-- a valid move is that of the operation with its identifier
pub move_found : (h : List Op) (m : Move) → Lawful h → Contains (moves h) m → (e : Op) × (holder h m.id ≡ Some e) × (passing (move_test h) (move_in e) ≡ Some m)
move_found = claim_found move_in move_test (λ e m k. (shape e m k).own) move-kept

pub found_move : (h : List Op) (x : Identifier) (e : Op) (m : Move) → Lawful h → holder h x ≡ Some e → passing (move_test h) (move_in e) ≡ Some m → Contains (moves h) m
found_move = found_claim move_in move_test (λ e m k. (shape e m k).own) move-kept

pub one_move : (h : List Op) (c d : Move) → Lawful h → Contains (moves h) c → Contains (moves h) d → c.id ≡ d.id → c ≡ d
one_move = one_claim move_in move_test (λ e m k. (shape e m k).own) move-kept

-- an operation that makes a move is lifted
pub lifts : (h : List Op) (e : Op) (m : Move) → passing (move_test h) (move_in e) ≡ Some m → lifted_of h (lift h) e ≡ Some (as_section m)
lifts h (Section i l r t) m k = absurd (not_both None m refl k)
lifts h (Text i s l r c) m k = absurd (not_both None m refl k)
lifts h (Delete i) m k = absurd (not_both None m refl k)
lifts h (Note id named code body) m k = ap (option_map as_section) k

-- a winner is a valid move of the section
pub record Wins (h : List Op) (s : Identifier) (m : Move) : Type 0 where
  pub is_move : Contains (moves h) m
  pub section : m.section ≡ s

pub winner_is : (h : List Op) (s : Identifier) (m : Move) → winner h s (moves h) ≡ Some m → Wins h s m
winner_is h s m k =
    let r = contains_filter_from (counts h s) (moves h) m (best_in (filter (counts h s) (moves h)) m k) in
    record { is_move = r.0; section = id_eq-true m.section s (and_parts (id_eq m.section s) (not (is_hidden h m.id)) r.1).0 }

-- the position by the winner
abbrev pub position_by : Identifier → Option Move → Identifier
position_by s o = elim o [ None ↦ s | Some m ↦ m.id ]

-- the section that an operation stands for: that of a move, or the operation's own identifier
abbrev section_by : Identifier → Option Op → Identifier
section_by x o = elim o [ None ↦ x | Some e ↦ elim (move_in e) [ None ↦ x | Some m ↦ m.section ] ]

-- a Section makes no move
pub no_move : (f : Op) → fits SectionRole f ≡ true → move_in f ≡ None
no_move (Section i l r t) k = refl
no_move (Text i s l r c) k = refl
no_move (Delete i) k = refl
no_move (Note id named code body) k = absurd (false≢true k)

abbrev pub IsSection : List Op → Identifier → Type 0
IsSection h s = (f : Op) × (holder h s ≡ Some f) × (fits SectionRole f ≡ true)

-- the position of a section stands for it
stands_for : (h : List Op) (s : Identifier) → Lawful h → IsSection h s → section_by (position h s) (holder h (position h s)) ≡ s
stands_for h s w k =
    elim (cases_option (winner h s (moves h))) [
      | inl n ↦
          let e : position h s ≡ s = ap (position_by s) n in
          (λ i. section_by (e i) (holder h (e i))) ∙ ap (section_by s) k.1 ∙ ap (λ o. elim o [ None ↦ s | Some m ↦ m.section ]) (no_move k.0 k.2)
      | inr m ↦
          let e : position h s ≡ m.0.id = ap (position_by s) m.1 in
          let i = winner_is h s m.0 m.1 in
          let f = move_found h m.0 w i.is_move in
          let p = passing_from (move_test h) (move_in f.0) m.0 f.2 in
          (λ i. section_by (e i) (holder h (e i))) ∙ ap (section_by m.0.id) f.1 ∙ ap (λ (o : Option Move). elim o [ None ↦ m.0.id | Some m ↦ m.section ]) p.0 ∙ i.section
    ]

-- no two sections have one position
pub apart : (h : List Op) (s t : Identifier) → Lawful h → IsSection h s → IsSection h t → position h s ≡ position h t → s ≡ t
apart h s t w a b k = sym (stands_for h s w a) ∙ (λ i. section_by (k i) (holder h (k i))) ∙ stands_for h t w b

-- a position is lifted
pub position_lifted : (h : List Op) (s : Identifier) → Lawful h → IsSection h s → (op : Op) × (holder (lift h) (position h s) ≡ Some op)
position_lifted h s w k =
    elim (cases_option (winner h s (moves h))) [
      | inl n ↦ (k.0, ap (holder (lift h)) (ap (position_by s) n) ∙ section_lifts h s k.0 w k.1 k.2)
      | inr m ↦
          let i = winner_is h s m.0 m.1 in
          let f = move_found h m.0 w i.is_move in
          (as_section m.0, ap (holder (lift h)) (ap (position_by s) m.1) ∙ lifted_to h m.0.id f.0 (as_section m.0) w f.1 (lifts h f.0 m.0 f.2))
    ]

-- and stands in the order
pub position_in : (h : List Op) (s : Identifier) → Lawful h → IsSection h s → Contains (order catalogue (lift h)) (position h s)
position_in h s w k =
    let o = position_lifted h s w k in
    in_order (lift h) (position h s) o.0 (lift_lawful h w) (lift_fits h (position h s) o.0 w o.1) o.1

-- what is shown is a Section
pub shown_is : (h : List Op) (s : Identifier) → Lawful h → Contains (shown catalogue h) s → IsSection h s
shown_is h s w m =
    let r = contains_filter_from (λ s. not (is_hidden h s)) (order catalogue h) s m in
    let i = ((order_total catalogue h w).lists s).1 r.0 in
    (i.op, i.held, place_stands i.op catalogue (element_stands catalogue i.op s i.place).0)

-- the shown sections are distinct
pub shown_once : (h : List Op) → Lawful h → Distinct (shown catalogue h)
shown_once h w = AllPairs-filter (λ s t. s ≢ t) (λ s. not (is_hidden h s)) (order catalogue h) (order_total catalogue h w).once

-- a section stands at its position
pub at_position : (h : List Op) (x s : Identifier) → Contains (sections_at h x) s → Contains (shown catalogue h) s × (position h s ≡ x)
at_position h x s m =
    let r = contains_filter_from (λ s. id_eq (position h s) x) (shown catalogue h) s m in
    (r.0, id_eq-true (position h s) x r.1)

-- the members of the arrangement are the shown sections
pub arranged_shown : (h : List Op) (s : Identifier) → Contains (arranged h) s → Contains (shown catalogue h) s
arranged_shown h s m =
    let r = contains_parts_from (sections_at h) (order catalogue (lift h)) s m in
    (at_position h r.0 s r.2).0

pub shown_arranged : (h : List Op) (s : Identifier) → Lawful h → Contains (shown catalogue h) s → Contains (arranged h) s
shown_arranged h s w m =
    let k = shown_is h s w m in
    contains_parts (sections_at h) (order catalogue (lift h)) (position h s) s (position_in h s w k)
    (contains_filter (λ t. id_eq (position h t) (position h s)) (shown catalogue h) s m (id_eq-refl (position h s)))

-- they stand in the order of their positions
pub arranged_in_order : (h : List Op) → Lawful h → AllPairs (λ s t. before catalogue (lift h) (position h s) (position h t) ≡ true) (arranged h)
arranged_in_order h w =
    let R : Identifier → Identifier → Type 0 = λ x y. before catalogue (lift h) x y ≡ true in
    parts_in_order (sections_at h) R (position h) (λ x s m. (at_position h x s m).1)
    (λ x i j d b l.
    let xs : List Identifier = sections_at h x in
    let distinct : Distinct xs = AllPairs-filter (λ s t. s ≢ t) (λ s. id_eq (position h s) x) (shown catalogue h) (shown_once h w) in
    let here = λ (k : ℕ) (q : k < length xs). at_position h x (slice_index_or xs k d) (Contains-get_or xs k d q) in
    let a = here i (omega (arith, b, l)) in
    let c = here j l in
    absurd (distinct i j d b l
    (apart h (slice_index_or xs i d) (slice_index_or xs j d) w (shown_is h (slice_index_or xs i d) w a.0) (shown_is h (slice_index_or xs j d) w c.0) (a.1 ∙ sym c.1))))
    (order catalogue (lift h)) (order_total catalogue (lift h) (lift_lawful h w)).agrees

-- so each stands there once
pub arranged_once : (h : List Op) → Lawful h → Distinct (arranged h)
arranged_once h w =
    let B : Identifier → Identifier → Bool = before catalogue (lift h) in
    all_pairs_weaker (λ s t. B (position h s) (position h t) ≡ true) (λ s t. s ≢ t)
    (λ s t k e. true≢false (sym k ∙ ap (λ z. B (position h s) (position h z)) (sym e) ∙ (order_total catalogue (lift h) (lift_lawful h w)).irreflexive (position h s)))
    (arranged h) (arranged_in_order h w)

pub each_once : EachOnce
each_once h w = record {
  members = λ s. (arranged_shown h s, shown_arranged h s w);
  once = arranged_once h w;
  in_order = arranged_in_order h w;
  apart = λ s t m n k. apart h s t w (shown_is h s w (arranged_shown h s m)) (shown_is h t w (arranged_shown h t n)) k;
}

-- so there are as many as are shown
pub arranged_length : (h : List Op) → Lawful h → length (arranged h) ≡ length (shown catalogue h)
arranged_length h w =
    let a = within_length (arranged h) (shown catalogue h) (arranged_once h w) (arranged_shown h) in
    let b = within_length (shown catalogue h) (arranged h) (shown_once h w) (λ s m. shown_arranged h s w m) in
    omega (arith, a, b)
