-- A store seen from the right, as one whose nodes have their sides exchanged: what is proved of the left holds of the right.
use Rattle.std.proofs.Common.{◌≡◌, ℕ, zero, suc, inl, inr, ◌⊎◌, cond, List, [], ◌∷◌, map, slice_get, slice_set, Option, None, Some, refl, sym, ap, ◌∙◌, subst, arith}
use Rattle.std.specs.Prelude.{reverse}
use Rattle.std.proofs.lemmas.List.{length-map, map-set}
use Rattle.node_rope.specs.declared.turn.Side.{Side}
use Rattle.node_rope.specs.declared.turn.Side.TheVariants.{Left, Right}
use Rattle.node_rope.specs.declared.store.Store.{Store}
use Rattle.node_rope.specs.declared.cells.Shape.{Shape}
use Rattle.node_rope.specs.declared.cells.Link.{Link}
use Rattle.node_rope.specs.declared.cells.Node.{Node}
use Rattle.node_rope.specs.declared.pile.Spot.{Spot}
use Rattle.node_rope.specs.Heaps.{Mooring}
use Rattle.node_rope.specs.Filed.{MooringsLead, IsFiled}
use Rattle.node_rope.specs.Shaped.{shape_of, node_value}
use Rattle.node_rope.specs.Made.{KeepsMade, made_count, shapes_of, values_of}
use Rattle.node_rope.specs.Shapes.{HasRightLinks, shape_at, link_number, tree_of, nodes_in_order, weight_at, least_at}
use Rattle.node_rope.specs.Walk.{Tree, all_nodes, HasCounts, IsLinked}
use Rattle.node_rope.specs.Sums.{sum_measure, lesser, IsSummed}
use Rattle.node_rope.specs.Joined.{IsBelow}
use Rattle.node_rope.specs.Grown.{with_parent}
use Rattle.node_rope.specs.Sides.{mirrored_shape, facing_shape}
use Rattle.node_rope.specs.Turned.{tree_count_at, side_of, with_swapped_child, with_child}
use Rattle.node_rope.proofs.FilingLemmas.{filed-had}
use Rattle.node_rope.proofs.LiftLemmas.{leads-tells}
use Rattle.node_rope.proofs.JoinLemmas.{adding-commutes, lesser-commutes}
use Rattle.node_rope.proofs.MirrorLemmas.{mirror-counted, mirror-summed, mirror-linked, mirror-below, whole-mirrored}

-- ---- lists of shapes
pub flip-at : (ss : List Shape) (i : ℕ) → shape_at (map mirrored_shape ss) i ≡ mirrored_shape (shape_at ss i)
flip-at [] i = refl
flip-at (h ∷ ss) zero = refl
flip-at (h ∷ ss) (suc i) = flip-at ss i

pub flip-with_parent : (ss : List Shape) (o q : Option Link) → map mirrored_shape (with_parent ss o q) ≡ with_parent (map mirrored_shape ss) o q
flip-with_parent ss None q = refl
flip-with_parent ss (Some l) q =
    map-set mirrored_shape ss l.number (record (shape_at ss l.number) { parent = q })
    ∙ ap (λ (h : Shape). slice_set (map mirrored_shape ss) l.number (record h { parent = q })) (sym (flip-at ss l.number))

pub flip-with_child : (ss : List Shape) (o : Option Link) (p : ℕ) (c : Link) → map mirrored_shape (with_child ss o p c) ≡ with_child (map mirrored_shape ss) o p c
flip-with_child ss None p c = refl
flip-with_child ss (Some g) p c =
    map-set mirrored_shape ss g.number (with_swapped_child (shape_at ss g.number) p c)
    ∙ ap (λ (h : Shape). slice_set (map mirrored_shape ss) g.number (with_swapped_child h p c)) (sym (flip-at ss g.number))

pub flip-count : (ss : List Shape) (o : Option Link) → tree_count_at (map mirrored_shape ss) o ≡ tree_count_at ss o
flip-count ss None = refl
flip-count ss (Some l) = ap (λ (h : Shape). h.count) (flip-at ss l.number)

pub flip-weight : (ss : List Shape) (o : Option Link) → weight_at (map mirrored_shape ss) o ≡ weight_at ss o
flip-weight ss None = refl
flip-weight ss (Some l) = ap (λ (h : Shape). h.weight) (flip-at ss l.number)

pub flip-least : (ss : List Shape) (o : Option Link) → least_at (map mirrored_shape ss) o ≡ least_at ss o
flip-least ss None = refl
flip-least ss (Some l) = ap (λ (h : Shape). h.least) (flip-at ss l.number)

-- ---- the store
abbrev flip_node : {T : Type 0} → Node T → Node T
flip_node n = record n { shape = mirrored_shape n.shape }

from-map : {X Y : Type 0} (f : X → Y) (xs : List X) (i : ℕ) (y : Y) → slice_get (map f xs) i ≡ Some y → (x : X) × (slice_get xs i ≡ Some x) × (f x ≡ y)
from-map f [] i y e = absurd (cc)
from-map f (x ∷ xs) zero y e = (x, refl, cc)
from-map f (x ∷ xs) (suc i) y e = from-map f xs i y e

pub flip-filed : {T Z : Type 0} (s : Spot) (ns : List (Node T)) (ms : List (Mooring Z)) → IsFiled s ns ms → IsFiled s (map flip_node ns) ms
flip-filed {T} s ns ms f = record {
  last = subst (λ (n : ℕ). MooringsLead ms s n) (sym (length-map ns flip_node)) f.last;
  each = λ i n e. let q = from-map flip_node ns i n e in subst (λ (k : Node T). MooringsLead ms k.older i) q.2 (f.each i q.0 q.1);
}

abbrev pub mirrored : {T : Type 0} → Store T → Store T
mirrored s = record {
  pile = record { kind = s.pile.kind; values = map flip_node s.pile.values; moorings = s.pile.moorings; paired = length-map s.pile.values flip_node ∙ s.pile.paired };
  newest = s.newest;
  count = s.count;
  counted = s.counted ∙ sym (length-map s.pile.values flip_node);
  alloc = s.alloc;
  filed = ∣ flip-filed s.newest s.pile.values s.pile.moorings (filed-had s.newest s.pile.values s.pile.moorings s.filed) ∣₁;
}

shapes-flip : {T : Type 0} (ns : List (Node T)) → map shape_of (map flip_node ns) ≡ map mirrored_shape (map shape_of ns)
shapes-flip [] = refl
shapes-flip (n ∷ ns) = ap (λ hs. mirrored_shape n.shape ∷ hs) (shapes-flip ns)

pub shapes-mirrored : {T : Type 0} (s : Store T) → shapes_of (mirrored s) ≡ map mirrored_shape (shapes_of s)
shapes-mirrored s = shapes-flip s.pile.values

values-flip : {T : Type 0} (ns : List (Node T)) → map node_value (map flip_node ns) ≡ map node_value ns
values-flip [] = refl
values-flip (n ∷ ns) = ap (λ vs. n.value ∷ vs) (values-flip ns)

pub values-mirrored : {T : Type 0} (s : Store T) → values_of (mirrored s) ≡ values_of s
values-mirrored s = values-flip s.pile.values

-- v has the nodes of s with their sides exchanged
pub record IsFacing {T : Type 0} (s v : Store T) : Type 0 where
  pub at : (i : ℕ) → shape_at (shapes_of v) i ≡ mirrored_shape (shape_at (shapes_of s) i)
  pub count : made_count v ≡ made_count s
  pub kept : KeepsMade s v

pub there : {T : Type 0} (s : Store T) → IsFacing s (mirrored s)
there s = record { at = λ i. ap (λ hs. shape_at hs i) (shapes-mirrored s) ∙ flip-at (shapes_of s) i; count = length-map s.pile.values flip_node; kept = λ l m. m }

pub back : {T : Type 0} (s : Store T) → IsFacing (mirrored s) s
back s = record { at = λ i. ap mirrored_shape (sym ((there s).at i)); count = sym (length-map s.pile.values flip_node); kept = λ l m. m }

abbrev pub tree_by : (ℕ → Shape) → Tree
tree_by f = record { left = λ i. link_number (f i).left; right = λ i. link_number (f i).right; parent = λ i. link_number (f i).parent; count = λ i. (f i).count }

module _ {T : Type 0} (s v : Store T) (root : Option Link) (facing : IsFacing s v) where
  abbrev f : ℕ → Shape
  f = shape_at (shapes_of s)

  abbrev same : ◌≡◌ {A = ℕ → Shape} (λ i. mirrored_shape (f i)) (shape_at (shapes_of v))
  same = λ k i. sym (facing.at i) k

  pub mirror-sound : HasRightLinks s root → HasRightLinks v root
  mirror-sound r = record {
    counted = subst (λ (g : ℕ → Shape). HasCounts (tree_by g)) same (mirror-counted (tree_of (shapes_of s)) r.counted);
    weighed = subst (λ (g : ℕ → Shape). IsSummed sum_measure (tree_by g) (λ i. (g i).own.weight) (λ i. (g i).weight)) same
        (mirror-summed sum_measure adding-commutes (tree_of (shapes_of s)) (λ i. (f i).own.weight) (λ i. (f i).weight) r.weighed);
    ranked = subst (λ (g : ℕ → Shape). IsSummed lesser (tree_by g) (λ i. (g i).own.rank) (λ i. (g i).least)) same
        (mirror-summed lesser lesser-commutes (tree_of (shapes_of s)) (λ i. (f i).own.rank) (λ i. (f i).least) r.ranked);
    linked = subst (λ (g : ℕ → Shape). IsLinked (tree_by g)) same (mirror-linked (tree_of (shapes_of s)) r.linked);
    top = λ i h e. r.top i (omega (arith, h, facing.count)) (sym (ap (λ (h : Shape). h.parent) (facing.at i)) ∙ e);
    crown = λ i e. ap (λ (h : Shape). h.parent) (facing.at i) ∙ r.crown i e;
    below = subst (λ (g : ℕ → Shape). IsBelow (tree_by g)) same (mirror-below (tree_of (shapes_of s)) r.below);
    made_left = λ i m e. facing.kept m (r.made_right i m (sym (ap (λ (h : Shape). h.left) (facing.at i)) ∙ e));
    made_right = λ i m e. facing.kept m (r.made_left i m (sym (ap (λ (h : Shape). h.right) (facing.at i)) ∙ e));
    made_parent = λ i m e. facing.kept m (r.made_parent i m (sym (ap (λ (h : Shape). h.parent) (facing.at i)) ∙ e));
    made_root = λ m e. facing.kept m (r.made_root m e);
    small = λ i. omega (arith, ap (λ (h : Shape). h.count) (facing.at i), r.small i, facing.count);
  }

  pub mirror-order : nodes_in_order v root ≡ reverse (nodes_in_order s root)
  mirror-order = ap (λ (g : ℕ → Shape). all_nodes (tree_by g) (link_number root)) (sym same) ∙ whole-mirrored (tree_of (shapes_of s)) (link_number root)

-- ---- a node from a side
pub faced-field : {X : Type 0} (f : Shape → X) → ((h : Shape) → f (mirrored_shape h) ≡ f h) → (d : Side) (h : Shape) → f (facing_shape d h) ≡ f h
faced-field f e Left h = refl
faced-field f e Right h = e h

pub faced-parent : (ss : List Shape) → IsLinked (tree_of ss) → (d : Side) (i : ℕ) (m : Link) → (facing_shape d (shape_at ss i)).right ≡ Some m
    → link_number (shape_at ss m.number).parent ≡ Some i
faced-parent ss linked Left i m e = linked.from_right i m.number (ap link_number e)
faced-parent ss linked Right i m e = linked.from_left i m.number (ap link_number e)

-- a child stands at its side
pub side-faces : (h : Shape) (c : ℕ) → (link_number h.left ≡ Some c) ⊎ (link_number h.right ≡ Some c) → link_number (facing_shape (side_of h.left c) h).left ≡ Some c
side-faces h c has = elim (leads-tells h.left c) as (λ _. link_number (facing_shape (side_of h.left c) h).left ≡ Some c) [
  | inl e ↦ ap (λ b. link_number (facing_shape (cond b Left Right) h).left) e.0 ∙ e.1
  | inr e ↦ ap (λ b. link_number (facing_shape (cond b Left Right) h).left) e.0 ∙ elim has as (λ _. link_number h.right ≡ Some c) [ inl f ↦ absurd (e.1 f) | inr f ↦ f ]
]
