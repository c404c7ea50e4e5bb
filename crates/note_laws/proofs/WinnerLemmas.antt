-- Which claim wins in a part and in the whole: so positions and headings stay.
use Rattle.std.proofs.Common.{List, ap, arith, false, inl, inr, refl, subst, sym, true, ◌++◌, ◌∙◌, ◌≡◌, ◌≢◌, ◌≤◌, ◌↔◌}
use Rattle.std.specs.Prelude.{IfSome, None, Option, Some, ◌||◌}
use Rattle.std.specs.List.{Contains}
use Rattle.std.proofs.lemmas.Bool.{false≢true, or_cases, true≢false}
use Rattle.fugue_ids.specs.Identifiers.{Identifier, id_lt}
use Rattle.fugue_ids.specs.declared.op.Op.{Op}
use Rattle.fugue_ids.specs.declared.op.Op.TheVariants.{Delete, Note, Section, Text}
use Rattle.fugue_ids.proofs.IdentifierLemmas.{cases_id}
use Rattle.origin_model.specs.declared.operations.Role.TheVariants.{Section as SectionRole}
use Rattle.origin_model.specs.operations.History.{has_op, holder}
use Rattle.origin_model.specs.operations.Verdict.{Lawful, fits}
use Rattle.origin_model.specs.order.Laws.{IsPartOf}
use Rattle.origin_model.specs.order.Printed.{is_withdrawn, title_of}
use Rattle.origin_model.proofs.SharedLemmas.{has-append, hidden-has, Lawful-append, part_at_end, Within-part}
use Rattle.catalogue_notes.specs.Arranged.{position, winner}
use Rattle.catalogue_notes.specs.Claims.{Claim, Move, Retitle, move_in, retitle_in}
use Rattle.catalogue_notes.specs.Laws.{HasWinner, IsWinner, ClaimStays}
use Rattle.catalogue_notes.specs.Lift.{is_section, is_valid_title, moves, retitles}
use Rattle.catalogue_notes.proofs.ArrangedLemmas.{one_move, position_by}
use Rattle.catalogue_notes.proofs.ClaimLemmas.{one_claim}
use Rattle.catalogue_notes.proofs.HolderLemmas.{not_both, same_value, section_held}
use Rattle.catalogue_notes.proofs.RetitleLemmas.{title-kept, title_shape}
use Rattle.catalogue_notes.proofs.ValidLemmas.{id_total, valid_in_whole, winners}
use Rattle.margin_notes.proofs.SortLemmas.{id_other}
use Rattle.note_laws.specs.MoveLaws.{HeadingStays, KeepsWinner, LaterOpsLeaveHeading, LaterOpsLeavePosition, LeavesWinner, PassesBy, PositionStays, PositionStaysExactly}
use Rattle.note_laws.proofs.ClaimPartLemmas.{IsSaid, move_in_part, move_said, retitle_in_part, retitle_said}
use Rattle.note_laws.proofs.OperationLemmas.{stands_in_part}

-- claims of a part are claims of the whole
module _ {V : Type 0} (part whole : List Op) (s : Identifier) (old new : List (Claim V)) (within : IsPartOf part whole) (kept : (c : Claim V) → Contains old c → Contains new c)
    (one : (c d : Claim V) → Contains new c → Contains new d → c.id ≡ d.id → c ≡ d) (a : HasWinner part s old) (b : HasWinner whole s new) where
  -- one that stays in the whole stays in the part
  stays_too : (c : Claim V) → ClaimStays whole s c → ClaimStays part s c
  stays_too c k = record { section = k.section; not_withdrawn = stands_in_part part whole c.id within k.not_withdrawn }

  -- two winners that both know are one
  both_win : (c d : Claim V) → IsWinner part s old c → IsWinner whole s new d → ClaimStays whole s c → Contains old d → c ≡ d
  both_win c d i j k m =
      let above : d.stamp ≤ c.stamp = i.stamp d m (stays_too d j.stays) in
      let below : c.stamp ≤ d.stamp = j.stamp c (kept c i.member) k in
      let level : d.stamp ≡ c.stamp = omega (arith, above, below) in
      one c d (kept c i.member) j.member (id_total c.id d.id (i.tie d m (stays_too d j.stays) level) (j.tie c (kept c i.member) k (sym level)))

  by_cases : (o q : Option (Claim V)) → winner part s old ≡ o → winner whole s new ≡ q
      → IfSome o (λ c. IsWinner part s old c) → IfSome q (λ c. IsWinner whole s new c) → IfSome o (λ c. is_withdrawn whole c.id ≡ false) → IfSome q (λ c. Contains old c) → q ≡ o
  by_cases None None e f i j n m = refl
  by_cases None (Some d) e f i j n m = absurd (a.none d m (stays_too d j.stays) e)
  by_cases (Some c) None e f i j n m = absurd (b.none c (kept c i.member) (record { section = i.stays.section; not_withdrawn = n }) f)
  by_cases (Some c) (Some d) e f i j n m = ap Some (sym (both_win c d i j (record { section = i.stays.section; not_withdrawn = n }) m))

  -- so the winner is the same where it is kept
  pub same_winner : KeepsWinner part whole s old new → winner whole s new ≡ winner part s old
  same_winner k = by_cases (winner part s old) (winner whole s new) refl refl a.is b.is k.not_withdrawn k.none_new

  -- and it is kept where it is the same
  one_kept : (o q : Option (Claim V)) → q ≡ o → IfSome o (λ c. IsWinner part s old c) → IfSome q (λ c. IsWinner whole s new c)
      → IfSome o (λ c. is_withdrawn whole c.id ≡ false) × IfSome q (λ c. Contains old c)
  one_kept None None e i j = (tt, tt)
  one_kept None (Some d) e i j = cc
  one_kept (Some c) None e i j = cc
  one_kept (Some c) (Some d) e i j =
      let same : d ≡ c = cc in
      (subst (λ (x : Claim V). is_withdrawn whole x.id ≡ false) same j.stays.not_withdrawn, subst (Contains old) (sym same) i.member)

  pub keeps_winner : winner whole s new ≡ winner part s old → KeepsWinner part whole s old new
  keeps_winner e = let k = one_kept (winner part s old) (winner whole s new) e a.is b.is in record { not_withdrawn = k.0; none_new = k.1 }

  -- where no claim came it is kept
  pub left_alone : LeavesWinner part whole s old new → KeepsWinner part whole s old new
  left_alone k = record { not_withdrawn = k.not_withdrawn; none_new = by (winner whole s new) b.is }
    where
      by : (q : Option (Claim V)) → IfSome q (λ c. IsWinner whole s new c) → IfSome q (λ c. Contains old c)
      by None j = tt
      by (Some d) j = k.no_claim d j.member j.stays.section

-- the moves of a part and of the whole
module _ (part whole : List Op) (s : Identifier) (v : Lawful part) (w : Lawful whole) (f : IsPartOf part whole) where
  kept_move : (m : Move) → Contains (moves part) m → Contains (moves whole) m
  kept_move m c = let i = move_said part m v c in (move_in_part part whole i.op m v w f i.there i.claims).0 c

  -- the identifier of a move of the section is not the section's own
  not_itself : (h : List Op) (m : Move) → Lawful h → Contains (moves h) m → m.section ≡ s → m.id ≢ s
  not_itself h m w c k e =
      let i = ((valid_in_whole h w).moves_are m).0 c in
      let o = section_held h s (subst (λ x. is_section h x ≡ true) k i.section) in
      let same : i.op ≡ o.0 = same_value (holder h s) i.op o.0 (ap (holder h) (sym e) ∙ i.held) o.1 in
      not_section o.0 m o.2 (ap move_in (sym same) ∙ i.says)
    where
      not_section : (op : Op) (m : Move) → fits SectionRole op ≡ true → move_in op ≡ Some m → ⊥
      not_section (Section i l r t) m f k = not_both None m refl k
      not_section (Text i s l r c) m f k = absurd (false≢true f)
      not_section (Delete i) m f k = absurd (false≢true f)
      not_section (Note i ns code body) m f k = absurd (false≢true f)

  -- so one position has one winner
  by_position : (o q : Option Move) → IfSome o (λ m. IsWinner part s (moves part) m) → IfSome q (λ m. IsWinner whole s (moves whole) m) → position_by s q ≡ position_by s o → q ≡ o
  by_position None None i j e = refl
  by_position None (Some d) i j e = absurd (not_itself whole d w j.member j.stays.section e)
  by_position (Some c) None i j e = absurd (not_itself part c v i.member i.stays.section (sym e))
  by_position (Some c) (Some d) i j e = ap Some (one_move whole d c w j.member (kept_move c i.member) e)

  same_move : KeepsWinner part whole s (moves part) (moves whole) → winner whole s (moves whole) ≡ winner part s (moves part)
  same_move = same_winner part whole s (moves part) (moves whole) f kept_move (λ c d. one_move whole c d w) (winners part s v).0 (winners whole s w).0

  pub position_exactly : (position whole s ≡ position part s) ↔ KeepsWinner part whole s (moves part) (moves whole)
  position_exactly =
      let a = (winners part s v).0 in
      let b = (winners whole s w).0 in (
        λ e. keeps_winner part whole s (moves part) (moves whole) f kept_move (λ c d. one_move whole c d w) a b
            (by_position (winner part s (moves part)) (winner whole s (moves whole)) a.is b.is e),
        λ k. ap (position_by s) (same_move k),
      )

  pub position_left : LeavesWinner part whole s (moves part) (moves whole) → position whole s ≡ position part s
  position_left k =
      ap (position_by s) (same_move (left_alone part whole s (moves part) (moves whole) f kept_move (λ c d. one_move whole c d w) (winners part s v).0 (winners whole s w).0 k))

pub position_stays : PositionStays
position_stays part whole s v w f k = position_left part whole s v w f k

pub position_stays_exactly : PositionStaysExactly
position_stays_exactly part whole s v w f = position_exactly part whole s v w f

-- a retitle is fixed by its identifier
one_retitle : (h : List Op) (c d : Retitle) → Lawful h → Contains (retitles h) c → Contains (retitles h) d → c.id ≡ d.id → c ≡ d
one_retitle h = one_claim retitle_in is_valid_title (λ e r k. (title_shape e r k).own) title-kept h

pub heading_stays : HeadingStays
heading_stays part whole s v w f is leaves =
    let kept : (r : Retitle) → Contains (retitles part) r
    → Contains (retitles whole) r = λ r c. let i = retitle_said part r v c in (retitle_in_part part whole i.op r v w f i.there i.claims).0 c in
    let one : (c d : Retitle) → Contains (retitles whole) c → Contains (retitles whole) d → c.id ≡ d.id → c ≡ d = λ c d. one_retitle whole c d w in
    let a = (winners part s v).1 in
    let b = (winners whole s w).1 in
    let keeps = left_alone part whole s (retitles part) (retitles whole) f kept one a b leaves in
    let same : winner whole s (retitles whole) ≡ winner part s (retitles part) = same_winner part whole s (retitles part) (retitles whole) f kept one a b keeps in
    let o = section_held part s is in
    let held : holder whole s ≡ holder part s = Within-part part whole w f s o.0 o.1 ∙ sym o.1 in
    λ i. elim (same i) [ None ↦ title_of (held i) | Some r ↦ r.value ]

-- operations that pass by leave the winner
module _ {V : Type 0} (says : Op → Option (Claim V)) (new h : List Op) (s : Identifier) (old all : List (Claim V)) (a : HasWinner h s old)
    (said : (c : Claim V) → Contains all c → IsSaid says (new ++ h) c) (back : (op : Op) (c : Claim V) → has_op h op ≡ true → says op ≡ Some c → Contains all c → Contains old c)
    (passes : PassesBy says new h s old all) where
  no_claim : (c : Claim V) → Contains all c → c.section ≡ s → Contains old c
  no_claim c m k =
      let i = said c m in
      elim (or_cases (has_op new i.op) (has_op h i.op) (sym (has-append new h i.op) ∙ i.there)) [
        | inl t ↦ absurd (passes.others i.op c t i.claims m k)
        | inr t ↦ back i.op c t i.claims m
      ]

  by_winner : (o : Option (Claim V)) → IfSome o (λ c. IsWinner h s old c) → IfSome o (λ c. has_op new (Delete c.id) ≡ false) → IfSome o (λ c. is_withdrawn (new ++ h) c.id ≡ false)
  by_winner None i n = tt
  by_winner (Some c) i n =
      let stands : has_op h (Delete c.id) ≡ false = sym (hidden-has h c.id) ∙ i.stays.not_withdrawn in
      hidden-has (new ++ h) c.id ∙ has-append new h (Delete c.id) ∙ (λ j. n j || stands j)

  pub leaves_winner : LeavesWinner h (new ++ h) s old all
  leaves_winner = record { no_claim = no_claim; not_withdrawn = by_winner (winner h s old) a.is passes.no_delete }

pub later_position : LaterOpsLeavePosition
later_position new h s w passes =
    let v : Lawful h = Lawful-append new h w in
    let f : IsPartOf h (new ++ h) = part_at_end new h in
    position_stays h (new ++ h) s v w f
    (leaves_winner move_in new h s (moves h) (moves (new ++ h)) (winners h s v).0 (λ m c. move_said (new ++ h) m w c)
    (λ op m k e. (move_in_part h (new ++ h) op m v w f k e).1) passes)

pub later_heading : LaterOpsLeaveHeading
later_heading new h s w is passes =
    let v : Lawful h = Lawful-append new h w in
    let f : IsPartOf h (new ++ h) = part_at_end new h in
    heading_stays h (new ++ h) s v w f is
    (leaves_winner retitle_in new h s (retitles h) (retitles (new ++ h)) (winners h s v).1 (λ r c. retitle_said (new ++ h) r w c)
    (λ op r k e. (retitle_in_part h (new ++ h) op r v w f k e).1) passes)
