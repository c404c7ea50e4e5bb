use Rattle.std.proofs.Common.{ap, ◌∙◌, ◌≡◌}
use Rattle.std.specs.Prelude.{Option, None, Some, option_map}
use Rattle.std.specs.BTreeMap.{get}
use Rattle.fugue_ids.specs.Identifiers.{Identifier, id_cmp}
use Rattle.origin_model.specs.declared.operations.Place.TheVariants.{Catalogue as catalogue}
use Rattle.origin_model.specs.edits.Edits.{in_front}
use Rattle.origin_model.specs.edits.Landing.{following}
use Rattle.origin_model.specs.order.Order.{order}
use Rattle.catalogue_notes.specs.Lift.{lift}
use Rattle.catalogue_notes.specs.Making.{left_of_move, without_member}
use Rattle.catalogue_notes.specs.Placing.{position_in}
use Rattle.catalogue_notes.specs.Arranged.{position}
use Rattle.catalogue_notes.proofs.move_note.gap_for.Goals as goal

-- positions that are the same at each section
mapped : (f g : Identifier → Identifier) → ((s : Identifier) → f s ≡ g s) → (o : Option Identifier) → option_map f o ≡ option_map g o
mapped f g k None = ap (λ z. z) (λ i. None)
mapped f g k (Some s) = ap Some (k s)

pub returns : goal.returns
returns c = λ h a.
    let at : Identifier → Identifier = position_in (get id_cmp c.args.arrangement.now.winners) in
    let left : c.left_for-left.result ≡ left_of_move h c.args.k c.args.j =
    c.left_for-left.ensures ∙ mapped at (position h) a.positions (in_front (without_member c.args.arrangement.now.sections.items c.args.k) c.args.j)
    ∙ ap (λ z. option_map (position h) (in_front (without_member z c.args.k) c.args.j)) a.sections in
    let right : c.right_for-right.result ≡ following (order catalogue (lift h)) (left_of_move h c.args.k c.args.j) =
    c.right_for-right.ensures ∙ (λ i. following (a.lifted.all i) (left i)) in
    λ i. record { left = left i; right = right i }
