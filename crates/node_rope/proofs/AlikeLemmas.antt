-- A store that holds what another does.
use Rattle.std.proofs.Common.{◌≡◌, ℕ, ◌<◌, List, [], ◌∷◌, ◌++◌, length, map, flat_map, slice_get, Option, Some, refl, sym, ap, ◌∙◌, subst, arith}
use lib.ListN.{length-append}
use Rattle.fugue_ids.specs.Identifiers.{Identifier}
use Rattle.block_map.specs.Contents.{HasSameValues, value_of}
use Rattle.block_map.specs.declared.map.BlockMap.{BlockMap}
use Rattle.node_rope.specs.declared.store.Store.{Store}
use Rattle.node_rope.specs.declared.cells.Shape.{Shape}
use Rattle.node_rope.specs.declared.cells.Link.{Link}
use Rattle.node_rope.specs.declared.cells.Own.{Own}
use Rattle.node_rope.specs.Made.{KeepsMade, IsAlike, IsLess, made_count, shapes_of, values_of}
use Rattle.node_rope.specs.Shapes.{AreRanksFit, HasRightLinks, shape_at, nodes_in_order, IsWeighed, IsRanked}
use Rattle.node_rope.specs.Items.{IsRope, item_at, rope_items_of}
use Rattle.node_rope.specs.Reweighed.{AreStill, IsStill}
use Rattle.node_rope.proofs.ShapeLemmas.{length-shapes, made-below}
use Rattle.node_rope.proofs.EffectLemmas.{item-is}
use Rattle.node_rope.proofs.KeyLemmas.{all-made, mapped-items}
use Rattle.node_rope.proofs.ReweighLemmas.{still, placed, tree-along, order-still}

-- without what came last
same-first : {X : Type 0} (xs ys : List X) (x y : X) → xs ++ x ∷ [] ≡ ys ++ y ∷ [] → (xs ≡ ys) × (x ≡ y)
same-first [] [] x y e = (refl, cc)
same-first [] (b ∷ ys) x y e = absurd (omega (arith, ap length e, length-append ys (y ∷ [])))
same-first (a ∷ xs) [] x y e = absurd (omega (arith, ap length e, length-append xs (x ∷ [])))
same-first (a ∷ xs) (b ∷ ys) x y e =
    let h : a ≡ b = cc in
    let t : xs ++ x ∷ [] ≡ ys ++ y ∷ [] = cc in
    let r = same-first xs ys x y t in
    ((λ i. h i ∷ r.0 i), r.1)

pub alike : {T : Type 0} (s : Store T) → IsAlike s s
alike s = record { shapes = refl; values = refl; kept = λ l made. made }

-- a node came and went
pub unmade-alike : {T : Type 0} (s u v : Store T) (h : Shape) (value w : T) → shapes_of u ≡ shapes_of s ++ h ∷ [] → values_of u ≡ values_of s ++ value ∷ [] → KeepsMade s u
    → IsLess u v w → (w ≡ value) × IsAlike s v
unmade-alike s u v h value w shapes values kept less =
    let p = same-first (shapes_of v) (shapes_of s) less.shape h (sym less.shapes ∙ shapes) in
    let q = same-first (values_of v) (values_of s) w value (sym less.values ∙ values) in
    let count : made_count v ≡ made_count s = sym (length-shapes v) ∙ ap length p.0 ∙ length-shapes s in
    (q.1, record { shapes = p.0; values = q.0; kept = λ l made. less.kept l (kept l made) (omega (arith, made-below s l made, count)) })

module _ {T : Type 0} (s u : Store T) (root : Option Link) (sound : HasRightLinks s root) (a : IsAlike s u) where
  alike-count : made_count u ≡ made_count s
  alike-count = sym (length-shapes u) ∙ ap length a.shapes ∙ length-shapes s

  alike-still : AreStill (shapes_of s) (shapes_of u)
  alike-still i = subst (λ (xs : List Shape). IsStill (shape_at (shapes_of s) i) (shape_at xs i)) (sym a.shapes) (still (shape_at (shapes_of s) i))

  alike-sound : HasRightLinks u root
  alike-sound =
      tree-along s u root (placed (shapes_of s) (shapes_of u) alike-still) alike-count a.kept sound
      (subst (λ (xs : List Shape). IsWeighed xs) (sym a.shapes) sound.weighed)
      (subst (λ (xs : List Shape). IsRanked xs) (sym a.shapes) sound.ranked)

  alike-item : (x : ℕ) → x < made_count s → (v : T) → slice_get (values_of s) x ≡ Some v → item_at u x ≡ ((shape_at (shapes_of s) x).key, v) ∷ []
  alike-item x h v e =
      item-is u x v (omega (arith, h, alike-count)) (ap (λ (xs : List T). slice_get xs x) a.values ∙ e) ∙ ap (λ (xs : List Shape). ((shape_at xs x).key, v) ∷ []) a.shapes

  as-it-is : (xs : List (Identifier × T)) → map (λ x. x) xs ≡ xs
  as-it-is [] = refl
  as-it-is (x ∷ xs) = ap (λ (ys : List (Identifier × T)). x ∷ ys) (as-it-is xs)

  pub alike-list : rope_items_of u root ≡ rope_items_of s root
  alike-list =
      ap (flat_map (item_at u)) (order-still s u root (placed (shapes_of s) (shapes_of u) alike-still))
      ∙ mapped-items s u (λ x. x) alike-item (nodes_in_order s root) (all-made s root sound) ∙ as-it-is (rope_items_of s root)

pub alike-roped : {T : Type 0} (wt : T → Own) (s u : Store T) (root : Option Link) (m n : BlockMap Link) → IsRope wt s root m → IsAlike s u → HasSameValues m n → IsRope wt u root n
alike-roped wt s u root m n r a same = record {
  sound = alike-sound s u root r.sound a;
  few = omega (arith, r.few, alike-count s u root r.sound a);
  light = λ i. subst (λ (xs : List Shape). (shape_at xs i).own.weight < 4194305) (sym a.shapes) (r.light i);
  fits = subst AreRanksFit (sym a.shapes) r.fits;
  weighs = λ i v e. ap (λ (xs : List Shape). (shape_at xs i).own) a.shapes ∙ r.weighs i v (ap (λ xs. slice_get xs i) (sym a.values) ∙ e);
  mapped = λ k l e. a.kept l (r.mapped k l (sym (same k) ∙ e));
  keyed = λ k l e. ap (λ (xs : List Shape). (shape_at xs l.number).key) a.shapes ∙ r.keyed k l (sym (same k) ∙ e);
  listed = λ i b. (let at = r.listed i (omega (arith, b, alike-count s u root r.sound a)) in
      (at.0, at.1, ap (λ (xs : List Shape). value_of n (shape_at xs i).key) a.shapes ∙ same (shape_at (shapes_of s) i).key ∙ at.2));
}
