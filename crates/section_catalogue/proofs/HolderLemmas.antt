-- What a history says of an identifier, as one more operation comes.
use Rattle.std.proofs.Common.{List, [], ap, ◌||◌, false, refl, sym, ◌∙◌, ◌∷◌, ◌≡◌, ◌≢◌}
use Rattle.std.specs.Prelude.{if◌then◌else◌, None, Option, Some, is_some}
use Rattle.std.proofs.lemmas.Bool.{false_from_ne_true, true≢false}
use Rattle.fugue_ids.specs.Identifiers.{Identifier, origin_eq}
use Rattle.fugue_ids.specs.Ops.{id_of, key_of, own_in, target_in}
use Rattle.fugue_ids.proofs.IdentifierLemmas.{eq-id_eq, ne-id_eq, origin_eq-true}
use Rattle.fugue_ids.specs.declared.op.Op.{Op}
use Rattle.fugue_ids.specs.declared.op.OpKey.{OpKey}
use Rattle.fugue_ids.specs.declared.op.OpKey.TheVariants.{Own, Target}
use Rattle.origin_model.specs.order.Laws.{IsIn}
use Rattle.origin_model.specs.sides.Node.{nodes}
use Rattle.origin_model.specs.operations.History.{element_of, holder, place, stands_at}
use Rattle.origin_model.specs.order.Order.{order}
use Rattle.origin_model.specs.order.Printed.{is_hidden}
use Rattle.origin_model.specs.declared.operations.Place.{Place}
use Rattle.origin_model.proofs.SharedLemmas.{element_stands, holder-other, holder-own, holder_owns, nodes-none, order-none, stands_element, stands_place}
use Rattle.run_store.specs.declared.cell.Cell.{Cell}
use Rattle.section_catalogue.specs.Place.{IsCellIn, place_held, scalar_held}

-- a look-up of the newest operation
pub holder-new : (op : Op) (h : List Op) (x y : Identifier) → id_of op ≡ Some x → y ≡ x → holder (op ∷ h) y ≡ Some op
holder-new op h x y o e = holder-own op h y (ap (λ z. origin_eq z (Some y)) o ∙ eq-id_eq x y (sym e))

-- a look-up past it
pub holder-older : (op : Op) (h : List Op) (x y : Identifier) → id_of op ≡ Some x → y ≢ x → holder (op ∷ h) y ≡ holder h y
holder-older op h x y o n = holder-other op h y (ap (λ z. origin_eq z (Some y)) o ∙ ne-id_eq x y (λ e. n (sym e)))

-- what is not held has no operation
pub none_held : (o : Option Op) → is_some o ≡ false → o ≡ None
none_held None e = refl
none_held (Some op) e = absurd (true≢false e)

-- what stands elsewhere is no element
no_element : (q : Place) (op : Op) → place op ≢ Some q → element_of q op ≡ None
no_element q op n = ap (λ b. if b then id_of op else None) (false_from_ne_true (stands_at q op) (λ s. n (stands_place op q s)))

-- an element of a place has that place
pub in_place : (q : Place) (h : List Op) (y : Identifier) → IsIn q h y → place_held (holder h y) ≡ Some q
in_place q h y m = ap place_held m.held ∙ (element_stands q m.op y m.place).0

-- the operation of an element that has a place
pub has_holder : (q : Place) (o : Option Op) → place_held o ≡ Some q → (op : Op) × (o ≡ Some op) × (place op ≡ Some q)
has_holder q None e = cc
has_holder q (Some op) e = (op, refl, e)

-- what has a place is an element of it
pub is_in : (q : Place) (h : List Op) (x : Identifier) → place_held (holder h x) ≡ Some q → IsIn q h x
is_in q h x e =
    let f = has_holder q (holder h x) e in
    record { op = f.0; held = f.1; place = stands_element q f.0 f.2 ∙ origin_eq-true (id_of f.0) (Some x) (holder_owns h x f.0 f.1) }

-- an operation that stands elsewhere leaves the nodes
pub nodes-other : (q : Place) (op : Op) (h : List Op) → place op ≢ Some q → nodes q (op ∷ h) ≡ nodes q h
nodes-other q op h n = nodes-none q op h (no_element q op n)

-- and the order
pub order-other : (q : Place) (op : Op) (h : List Op) → place op ≢ Some q → order q (op ∷ h) ≡ order q h
order-other q op h n = order-none q op h (no_element q op n)

-- no operations have no order
pub order-nothing : (q : Place) → order q [] ≡ []
unfolding order
order-nothing q = refl

-- an element that came leaves the other cells
pub cell-older : (op : Op) (h : List Op) (x : Identifier) → id_of op ≡ Some x → (c : Cell) → c.id ≢ x → IsCellIn h c → IsCellIn (op ∷ h) c
cell-older op h x o c n k = record {
  ch = k.ch ∙ ap scalar_held (sym (holder-older op h x c.id o n));
  hidden = k.hidden ∙ ap (λ t. origin_eq t (Some c.id) || is_hidden h c.id) (sym (no_target (key_of op) o));
}
  where
    no_target : (k : OpKey) → own_in k ≡ Some x → target_in k ≡ None
    no_target (Own i) e = refl
    no_target (Target i) e = cc
