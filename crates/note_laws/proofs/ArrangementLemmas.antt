-- Sections that are shown in a part and in the whole at the same positions stand in one order.
use Rattle.std.proofs.Common.{Bool, List, sym, ◌∙◌, ◌≡◌}
use Rattle.std.specs.List.{Contains}
use Rattle.fugue_ids.specs.Identifiers.{Identifier}
use Rattle.fugue_ids.specs.declared.op.Op.{Op}
use Rattle.origin_model.specs.declared.operations.Place.TheVariants.{Catalogue as catalogue}
use Rattle.origin_model.specs.operations.Verdict.{Lawful}
use Rattle.origin_model.specs.order.Laws.{IsIn}
use Rattle.origin_model.specs.order.Order.{before}
use Rattle.origin_model.specs.order.Printed.{shown}
use Rattle.origin_model.proofs.SharedLemmas.{member_lt, order_total}
use Rattle.catalogue_notes.specs.Arranged.{arranged, position}
use Rattle.catalogue_notes.specs.Lift.{lift}
use Rattle.catalogue_notes.proofs.ArrangedLemmas.{arranged_in_order, position_in, shown_arranged, shown_is}
use Rattle.catalogue_notes.proofs.KeptOrderLemmas.{positions_keep_order as kept_order}
use Rattle.catalogue_notes.proofs.LiftLemmas.{lift_lawful}
use Rattle.catalogue_notes.proofs.SetLemmas.{lifted_before_stays}
use Rattle.note_laws.specs.MoveLaws.{HasOnePosition, IsUnmoved, MoveMovesOne, PositionsKeepOrder, stands_before}
use Rattle.note_laws.proofs.WinnerLemmas.{position_stays}

-- the position of s stands before that of t
abbrev lies_before : List Op → (s t : Identifier) → Bool
lies_before h s t = before catalogue (lift h) (position h s) (position h t)

-- sections are arranged by their positions
by_positions : (h : List Op) (s t : Identifier) → Lawful h → Contains (shown catalogue h) s → Contains (shown catalogue h) t → stands_before h s t ≡ lies_before h s t
by_positions h s t w m n =
    let total = order_total catalogue (lift h) (lift_lawful h w) in
    member_lt (lies_before h) (λ x. total.irreflexive (position h x)) (λ x y z. total.transitive (position h x) (position h y) (position h z))
    (arranged h) s t (arranged_in_order h w) (shown_arranged h s w m) (shown_arranged h t w n)

-- a position is an element of what is lifted
position_is_in : (h : List Op) (s : Identifier) → Lawful h → Contains (shown catalogue h) s → IsIn catalogue (lift h) (position h s)
position_is_in h s w m = ((order_total catalogue (lift h) (lift_lawful h w)).lists (position h s)).1 (position_in h s w (shown_is h s w m))

pub positions_keep_order : PositionsKeepOrder
positions_keep_order part whole v w f = record {
  two = λ s t a b.
      by_positions part s t v a.in_part b.in_part
      ∙ lifted_before_stays part whole v w f (position part s) (position part t) (position_is_in part s v a.in_part) (position_is_in part t v b.in_part)
      ∙ (λ i. before catalogue (lift whole) (sym a.same_position i) (sym b.same_position i))
      ∙ sym (by_positions whole s t w a.in_whole b.in_whole);
  listed = λ chosen all.
      kept_order part whole chosen v w f
      (λ s c m. let k = all s c in (shown_arranged whole s w k.in_whole, k.same_position))
      (λ s c m. shown_arranged part s v (all s c).in_part);
}

pub move_moves_one : MoveMovesOne
move_moves_one part whole v w f =
    let o = positions_keep_order part whole v w f in
    let still : (s : Identifier) → IsUnmoved part whole s → HasOnePosition part whole s = λ s k.
    record { in_part = k.in_part; in_whole = k.in_whole; same_position = position_stays part whole s v w f k.leaves } in
    record { two = λ s t a b. o.two s t (still s a) (still t b); listed = λ chosen all. o.listed chosen (λ s c. still s (all s c)) }
