-- A child at either side comes above its parent.
use Rattle.std.proofs.Common.{◌≡◌, ℕ, ◌+◌, ◌-◌, min, List, map, Option, None, Some, refl, sym, ap, ◌∙◌, subst, arith}
use Rattle.std.specs.Prelude.{reverse}
use Rattle.std.proofs.lemmas.List.{map-set}
use Rattle.node_rope.specs.declared.turn.Side.{Side}
use Rattle.node_rope.specs.declared.turn.Side.TheVariants.{Left, Right}
use Rattle.node_rope.specs.declared.store.Store.{Store}
use Rattle.node_rope.specs.declared.cells.Shape.{Shape}
use Rattle.node_rope.specs.declared.cells.Link.{Link}
use Rattle.node_rope.specs.Made.{IsMade, KeepsMade, made_count, shapes_of, values_of}
use Rattle.node_rope.specs.Shapes.{HasRightLinks, AreMade, shape_at, link_number, least_at}
use Rattle.node_rope.specs.Walk.{replaced_child}
use Rattle.node_rope.specs.Grown.{with_parent}
use Rattle.node_rope.specs.Sides.{mirrored_shape, facing_shape}
use Rattle.node_rope.specs.Turned.{side_of, with_child, lifted_shapes, IsRearranged, IsRisen}
use Rattle.node_rope.proofs.WalkLemmas.{moved-other, moved-here}
use Rattle.node_rope.proofs.ShapeLemmas.{made-below}
use Rattle.node_rope.proofs.FaceLemmas.{flip-at, flip-with_parent, flip-with_child, flip-count, flip-weight, flip-least, mirrored, shapes-mirrored, there, back, mirror-sound}
use Rattle.node_rope.proofs.FaceLemmas.{mirror-order, faced-field, side-faces}
use Rattle.node_rope.proofs.TurnedLemmas.{IsLifted, risen-left}

-- what is written at the right is written at the left of the mirrored shapes
flip-lifted : (ss : List Shape) (p c : Link) (above below : Shape)
    → map mirrored_shape (lifted_shapes Right ss p c above below) ≡ lifted_shapes Left (map mirrored_shape ss) p c above below
unfolding lifted_shapes
flip-lifted ss p c above below =
    let lower : ℕ → ℕ → ℕ → Shape =
    λ n w r. record above {
      left = below.right;
      parent = Some c;
      count = (above.count - below.count) + n;
      weight = (above.weight - below.weight) + w;
      least = min r (min above.own.rank (least_at ss above.right));
    } in
    map-set mirrored_shape _ c.number _
    ∙ rw (
      map-set mirrored_shape (with_parent ss below.right (Some p)) p.number _,
      flip-with_parent ss below.right (Some p),
      flip-count ss below.right,
      flip-weight ss below.right,
      flip-least ss below.right,
      flip-least ss above.right,
    ) refl

mirror-risen : {T : Type 0} (s v : Store T) (root root' : Option Link) (p c : Link) → IsLifted (mirrored s) (mirrored v) root root' p c → IsLifted s v root root' p c
mirror-risen s v root root' p c r = record {
  sound = mirror-sound (mirrored v) v root' (back v) r.sound;
  same_order = mirror-order (mirrored v) v root' (back v) ∙ ap reverse r.same_order ∙ sym (mirror-order (mirrored s) s root (back s));
  items = λ i. (
    sym (ap (λ (h : Shape). h.key) ((there v).at i)) ∙ (r.items i).0 ∙ ap (λ (h : Shape). h.key) ((there s).at i),
    sym (ap (λ (h : Shape). h.own) ((there v).at i))
        ∙ (r.items i).1 ∙ ap (λ (h : Shape). h.own) ((there s).at i),
  );
  taller = sym (ap (λ (h : Shape). h.count) ((there v).at c.number)) ∙ r.taller ∙ ap (λ (h : Shape). h.count) ((there s).at p.number);
  lower = omega (arith, ap (λ (h : Shape). h.count) ((there v).at p.number), r.lower, ap (λ (h : Shape). h.count) ((there s).at p.number));
  above = sym (ap (λ (h : Shape). h.parent) ((there v).at c.number)) ∙ r.above ∙ ap (λ (h : Shape). h.parent) ((there s).at p.number);
}

-- the mirrored store, where the child at the right is above
flip-turned : {T : Type 0} (s v : Store T) (p c : Link)
    → shapes_of v ≡ with_child (lifted_shapes Right (shapes_of s) p c (mirrored_shape (shape_at (shapes_of s) p.number)) (mirrored_shape (shape_at (shapes_of s) c.number)))
    (shape_at (shapes_of s) p.number).parent p.number c
    → shapes_of (mirrored v) ≡ with_child
    (lifted_shapes Left (shapes_of (mirrored s)) p c (shape_at (shapes_of (mirrored s)) p.number) (shape_at (shapes_of (mirrored s)) c.number))
    (shape_at (shapes_of (mirrored s)) p.number).parent p.number c
flip-turned s v p c is =
    let fs = map mirrored_shape (shapes_of s) in
    let a = mirrored_shape (shape_at (shapes_of s) p.number) in
    let b = mirrored_shape (shape_at (shapes_of s) c.number) in
    shapes-mirrored v ∙ ap (map mirrored_shape) is ∙ flip-with_child (lifted_shapes Right (shapes_of s) p c a b) a.parent p.number c
    ∙ ap (λ (hs : List Shape). with_child hs a.parent p.number c) (flip-lifted (shapes_of s) p c a b)
    ∙ ap (λ (h : Shape). with_child (lifted_shapes Left fs p c h b) h.parent p.number c) (sym (flip-at (shapes_of s) p.number))
    ∙ ap (λ (h : Shape). with_child (lifted_shapes Left fs p c (shape_at fs p.number) h) (shape_at fs p.number).parent p.number c) (sym (flip-at (shapes_of s) c.number))
    ∙ ap (λ (hs : List Shape). with_child (lifted_shapes Left hs p c (shape_at hs p.number) (shape_at hs c.number)) (shape_at hs p.number).parent p.number c)
    (sym (shapes-mirrored s))

risen : {T : Type 0} (d : Side) (s v : Store T) (root root' : Option Link) (p c : Link) → HasRightLinks s root → IsMade s p → IsMade s c
    → link_number (facing_shape d (shape_at (shapes_of s) p.number)).left ≡ Some c.number
    → shapes_of v ≡ with_child (lifted_shapes d (shapes_of s) p c (facing_shape d (shape_at (shapes_of s) p.number)) (facing_shape d (shape_at (shapes_of s) c.number)))
    (shape_at (shapes_of s) p.number).parent p.number c
    → KeepsMade s v → made_count v ≡ made_count s → link_number root' ≡ replaced_child p.number c.number (link_number root) → AreMade v root' → IsLifted s v root root' p c
risen Left s v root root' p c sound made_p made_c was is kept count moves made = risen-left s v root root' p c sound made_p made_c was is kept count moves made
risen Right s v root root' p c sound made_p made_c was is kept count moves made =
    mirror-risen s v root root' p c (risen-left (mirrored s) (mirrored v) root root' p c (mirror-sound s (mirrored s) root (there s) sound) made_p made_c
    (ap (λ (h : Shape). link_number h.left) ((there s).at p.number) ∙ was) (flip-turned s v p c is) kept ((there v).count ∙ count ∙ sym (there s).count) moves made)

-- what a rotation reads, and the store u without the new child of the node over p
module _ {T : Type 0} (s u v : Store T) (root : Option Link) (p c : Link) (sound : HasRightLinks s root) (made_p : IsMade s p) (made_c : IsMade s c)
    (child : link_number (shape_at (shapes_of s) c.number).parent ≡ Some p.number)
    (d : Side) (h k above below : Shape) (is_h : h ≡ shape_at (shapes_of s) p.number) (is_k : k ≡ shape_at (shapes_of s) c.number) (side : d ≡ side_of h.left c.number)
    (faced_h : above ≡ facing_shape d h) (faced_k : below ≡ facing_shape d k)
    (lifts : shapes_of u ≡ lifted_shapes d (shapes_of s) p c above below) (is : shapes_of v ≡ with_child (shapes_of u) above.parent p.number c)
    (kept : KeepsMade s v) (count : made_count v ≡ made_count s) (values : values_of v ≡ values_of s) where
  faces : link_number (facing_shape d (shape_at (shapes_of s) p.number)).left ≡ Some c.number
  faces = rw (side, is_h) (side-faces (shape_at (shapes_of s) p.number) c.number (sound.below c.number p.number child))

  is_above : above ≡ facing_shape d (shape_at (shapes_of s) p.number)
  is_above = faced_h ∙ ap (facing_shape d) is_h

  is_below : below ≡ facing_shape d (shape_at (shapes_of s) c.number)
  is_below = faced_k ∙ ap (facing_shape d) is_k

  over : above.parent ≡ (shape_at (shapes_of s) p.number).parent
  over = ap (λ (h : Shape). h.parent) is_above ∙ faced-field (λ h. h.parent) (λ h. refl) d (shape_at (shapes_of s) p.number)

  lifted-to : (top : Option Link) → link_number top ≡ replaced_child p.number c.number (link_number root) → AreMade v top → IsLifted s v root top p c
  lifted-to top moves made =
      risen d s v root top p c sound made_p made_c faces
      (is ∙ (λ i. with_child (lifts i) above.parent p.number c) ∙ (λ i. with_child (lifted_shapes d (shapes_of s) p c (is_above i) (is_below i)) (over i) p.number c)) kept count
      moves made

  risen-so : (top : Option Link) → IsLifted s v root top p c → IsRisen s v root top p c
  risen-so top r = record {
    same = record { sound = r.sound; same_order = r.same_order; items = r.items; values = values; count = count; kept = kept };
    taller = r.taller;
    lower = r.lower;
    above = r.above;
  }

  -- below another node the top stays
  pub risen-under : (g : Link) → above.parent ≡ Some g → IsRisen s v root root p c
  risen-under g up = risen-so root (lifted-to root (sym (moved-other p.number c.number (link_number root) not-top)) (λ m e. kept m (sound.made_root m e))) where
    not-top : link_number root ≡ Some p.number → ⊥
    not-top e = let none = sound.crown p.number e in let some = sym over ∙ up in cc

  pub risen-top : above.parent ≡ None → IsRisen s v root (Some c) p c
  risen-top up =
      let top = sound.top p.number (made-below s p made_p) (sym over ∙ up) in
      risen-so (Some c) (lifted-to (Some c) (sym (ap (replaced_child p.number c.number) top ∙ moved-here p.number c.number))
      (λ m e. (let same : c ≡ m = cc in subst (λ (k : Link). IsMade v k) same (kept c made_c))))

-- ---- one change of links after another
pub rearranged-trans : {T : Type 0} {s u v : Store T} {root mid top : Option Link} → IsRearranged s u root mid → IsRearranged u v mid top → IsRearranged s v root top
rearranged-trans a b = record {
  sound = b.sound;
  same_order = b.same_order ∙ a.same_order;
  items = λ i. ((b.items i).0 ∙ (a.items i).0, (b.items i).1 ∙ (a.items i).1);
  values = b.values ∙ a.values;
  count = b.count ∙ a.count;
  kept = λ l m. b.kept l (a.kept l m);
}
