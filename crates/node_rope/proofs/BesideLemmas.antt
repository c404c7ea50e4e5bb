-- A new node at either side of another.
use Rattle.std.proofs.Common.{◌≡◌, ℕ, ◌+◌, ◌^◌, min, ◌<◌, ◌≤◌, List, [], ◌∷◌, ◌++◌, length, map, flat_map, Option, None, Some, refl, sym, ap, ◌∙◌, subst, arith}
use Rattle.std.proofs.lemmas.List.{map-append, map-set}
use Rattle.fugue_ids.specs.Identifiers.{Identifier}
use Rattle.node_rope.specs.declared.turn.Side.{Side}
use Rattle.node_rope.specs.declared.turn.Side.TheVariants.{Left, Right}
use Rattle.node_rope.specs.declared.store.Store.{Store}
use Rattle.node_rope.specs.declared.cells.Shape.{Shape}
use Rattle.node_rope.specs.declared.cells.Link.{Link}
use Rattle.node_rope.specs.declared.cells.Own.{Own}
use Rattle.node_rope.specs.Made.{IsMade, KeepsMade, made_count, shapes_of, values_of}
use Rattle.node_rope.specs.Shapes.{HasRightLinks, shape_at, tree_of, nodes_in_order, IsWeighed, IsRanked, weight_at, least_at}
use Rattle.node_rope.specs.Walk.{HasCounts}
use Rattle.node_rope.specs.Sums.{no_rank}
use Rattle.node_rope.specs.Joined.{IsJoined}
use Rattle.node_rope.specs.Grown.{with_parent, new_beside, joined_beside, IsGrown}
use Rattle.node_rope.specs.Rising.{IsRising, IsRaised, SameLinks, AreSmall}
use Rattle.node_rope.specs.Sides.{mirrored_shape, seen, beside}
use Rattle.node_rope.proofs.ShapeLemmas.{length-shapes, made-below}
use Rattle.node_rope.proofs.EnterLemmas.{IsEntered, flip-entered, entered_before, joins_before, key_before, own_before}
use Rattle.node_rope.proofs.GrowthLemmas.{are-within, rising, small, grown, grown-walk-before, grown-walk-after}
use Rattle.node_rope.proofs.FaceLemmas.{flip-at, flip-with_parent, flip-count, flip-weight, flip-least, mirrored, shapes-mirrored, there, mirror-sound, tree_by}

-- what is written at the right is written at the left of the mirrored shapes
flip-joined : (ss : List Shape) (at l : Link) (h : Shape) → map mirrored_shape (joined_beside Right ss at l h) ≡ joined_beside Left (map mirrored_shape ss) at l (mirrored_shape h)
unfolding joined_beside
flip-joined ss at l h =
    let o = (mirrored_shape (shape_at ss at.number)).left in
    map-set mirrored_shape (with_parent (ss ++ h ∷ []) o (Some l)) at.number _
    ∙ rw (flip-with_parent (ss ++ h ∷ []) o (Some l), map-append mirrored_shape ss (h ∷ []), flip-at ss at.number) refl

flip-new : (ss : List Shape) (at : Link) (key : Identifier) (w : Own) → mirrored_shape (new_beside Right ss at key w) ≡ new_beside Left (map mirrored_shape ss) at key w
flip-new ss at key w =
    let node : Option Link → ℕ → ℕ → ℕ → Shape =
    λ o n v r. record { key = key; left = o; right = None; parent = Some at; count = n + 1; weight = v + w.weight; least = min r w.rank; own = w } in
    let fs = map mirrored_shape ss in
    let o = (mirrored_shape (shape_at ss at.number)).left in
    (λ i. node o (sym (flip-count ss o) i) (sym (flip-weight ss o) i) (sym (flip-least ss o) i))
    ∙ ap (λ (h : Shape). node h.left (Rattle.node_rope.specs.Turned.tree_count_at fs h.left) (weight_at fs h.left) (least_at fs h.left)) (sym (flip-at ss at.number))

-- u is s with the new node l at the side of at, and the sums above it not yet raised
pub record IsBeside {T : Type 0} (d : Side) (s u : Store T) (at l : Link) (key : Identifier) (w : Own) : Type 0 where
  pub entered : IsEntered (shape_at (shapes_of s)) (shape_at (shapes_of u)) at l w
  pub joined : IsJoined (seen d (tree_of (shapes_of s))) (seen d (tree_of (shapes_of u))) at.number l.number
  pub key_here : (shape_at (shapes_of u) l.number).key ≡ key
  pub own_here : (shape_at (shapes_of u) l.number).own ≡ w

module _ {T : Type 0} (s u : Store T) (root : Option Link) (at l : Link) (key : Identifier) (w : Own) (so : HasRightLinks s root) (made : IsMade s at) (fits : w.rank ≤ no_rank)
    (number : l.number ≡ made_count s) where
  abbrev ss : List Shape
  ss = shapes_of s

  inside : at.number < length ss
  inside = let h = made-below s at made in omega (arith, h, length-shapes s)

  beside-left : shapes_of u ≡ joined_beside Left ss at l (new_beside Left ss at key w) → IsBeside Left s u at l key w
  beside-left is =
      let n = number ∙ sym (length-shapes s) in
      let within = are-within s root so in record {
        entered = subst (λ (hs : List Shape). IsEntered (shape_at ss) (shape_at hs) at l w) (sym is)
            (entered_before ss at l key w so.counted so.weighed so.ranked fits so.linked so.below within inside n);
        joined = subst (λ (hs : List Shape). IsJoined (tree_of ss) (tree_of hs) at.number l.number) (sym is)
            (joins_before ss at l key w so.counted so.weighed so.ranked fits so.linked so.below within inside n);
        key_here = ap (λ (hs : List Shape). (shape_at hs l.number).key) is ∙ key_before ss at l key w so.counted so.weighed so.ranked fits so.linked so.below within inside n;
        own_here = ap (λ (hs : List Shape). (shape_at hs l.number).own) is ∙ own_before ss at l key w so.counted so.weighed so.ranked fits so.linked so.below within inside n;
      }

flip-beside : {T : Type 0} (s u : Store T) (at l : Link) (key : Identifier) (w : Own) → IsBeside Left (mirrored s) (mirrored u) at l key w → IsBeside Right s u at l key w
flip-beside s u at l key w b = record {
  entered = flip-entered (shape_at (shapes_of s)) (shape_at (shapes_of u)) at l w
      (subst (λ (g : ℕ → Shape). IsEntered (λ i. mirrored_shape (shape_at (shapes_of s) i)) g at l w) to_u
      (subst (λ (f : ℕ → Shape). IsEntered f (shape_at (shapes_of (mirrored u))) at l w) to_s b.entered));
  joined = subst (λ (g : ℕ → Shape). IsJoined (tree_by (λ i. mirrored_shape (shape_at (shapes_of s) i))) (tree_by g) at.number l.number) to_u
      (subst (λ (f : ℕ → Shape). IsJoined (tree_by f) (tree_of (shapes_of (mirrored u))) at.number l.number) to_s b.joined);
  key_here = sym (ap (λ (h : Shape). h.key) ((there u).at l.number)) ∙ b.key_here;
  own_here = sym (ap (λ (h : Shape). h.own) ((there u).at l.number)) ∙ b.own_here;
} where
  to_s : ◌≡◌ {A = ℕ → Shape} (shape_at (shapes_of (mirrored s))) (λ i. mirrored_shape (shape_at (shapes_of s) i))
  to_s = λ k i. (there s).at i k

  to_u : ◌≡◌ {A = ℕ → Shape} (shape_at (shapes_of (mirrored u))) (λ i. mirrored_shape (shape_at (shapes_of u) i))
  to_u = λ k i. (there u).at i k

is-beside : {T : Type 0} (d : Side) (s u : Store T) (root : Option Link) (at l : Link) (key : Identifier) (w : Own) → HasRightLinks s root → IsMade s at → w.rank ≤ no_rank
    → l.number ≡ made_count s → shapes_of u ≡ joined_beside d (shapes_of s) at l (new_beside d (shapes_of s) at key w)
    → IsBeside d s u at l key w
is-beside Left s u root at l key w so made fits number is = beside-left s u root at l key w so made fits number is
is-beside Right s u root at l key w so made fits number is =
    flip-beside s u at l key w (beside-left (mirrored s) (mirrored u) root at l key w (mirror-sound s (mirrored s) root (there s) so) made fits (number ∙ sym (there s).count)
    (shapes-mirrored u ∙ ap (map mirrored_shape) is ∙ flip-joined (shapes_of s) at l (new_beside Right (shapes_of s) at key w)
    ∙ ap (joined_beside Left (map mirrored_shape (shapes_of s)) at l) (flip-new (shapes_of s) at key w)
    ∙ ap (λ (hs : List Shape). joined_beside Left hs at l (new_beside Left hs at key w)) (sym (shapes-mirrored s))))

-- ---- u has a new node l of the shape h at the side of at
module _ {T : Type 0} (d : Side) (s u : Store T) (root : Option Link) (at l : Link) (key : Identifier) (w : Own) (h : Shape) (new : h ≡ new_beside d (shapes_of s) at key w)
    (sound : HasRightLinks s root) (made_at : IsMade s at) (fits : w.rank ≤ no_rank)
    (is : shapes_of u ≡ joined_beside d (shapes_of s) at l h) (number : l.number ≡ made_count s) (made : IsMade u l) (count : made_count u ≡ made_count s + 1)
    (kept : KeepsMade s u) where
  b : IsBeside d s u at l key w
  b = is-beside d s u root at l key w sound made_at fits number (is ∙ ap (joined_beside d (shapes_of s) at l) new)

  pub beside-rising : IsRising u w (Some at)
  beside-rising = rising s u root at l w sound b.entered kept number made made_at count

  pub beside-small : made_count s < 2 ^ 62 → AreSmall (shapes_of s) (w.weight + w.weight) → AreSmall (shapes_of u) w.weight
  beside-small = small s u root at l w sound b.entered kept number made made_at count

  -- the sums are raised
  module _ (v : Store T) (cv : HasCounts (tree_of (shapes_of v))) (wv : IsWeighed (shapes_of v)) (rv : IsRanked (shapes_of v)) (links : SameLinks (shapes_of u) (shapes_of v))
      (raised : IsRaised (shapes_of u) (shapes_of v) w None)
      (kept' : KeepsMade u v) (count' : made_count v ≡ made_count u) where
    pub beside-grown : (value : T) → values_of v ≡ values_of s ++ value ∷ [] → IsGrown s v root key w value l
    beside-grown value values = grown s u root at l w sound b.entered kept number made made_at count v cv wv rv links raised kept' count' key value values b.key_here b.own_here

    pub beside-walk : nodes_in_order v root ≡ flat_map (beside d at.number l.number) (nodes_in_order s root)
    beside-walk = by d b.joined where
      by : (d : Side) → IsJoined (seen d (tree_of (shapes_of s))) (seen d (tree_of (shapes_of u))) at.number l.number
          → nodes_in_order v root ≡ flat_map (beside d at.number l.number) (nodes_in_order s root)
      by Left = grown-walk-before s u root at l w sound b.entered kept number made made_at count v cv wv rv links raised kept' count'
      by Right = grown-walk-after s u root at l w sound b.entered kept number made made_at count v cv wv rv links raised kept' count'
