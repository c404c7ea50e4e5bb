-- The nodes of a subtree stand together in the order, and what stands after one of them.
use Rattle.std.proofs.Common.{◌≡◌, inl, inr, ℕ, zero, suc, ◌+◌, ◌<◌, ◌≤◌, List, [], ◌∷◌, ◌++◌, length, length-append, get_or, slice_get, Option, None, Some, refl, sym, ap, ◌∙◌}
use Rattle.std.proofs.Common.{subst, arith}
use Rattle.std.proofs.lemmas.List.{append_assoc, append-nil}
use Rattle.std.proofs.Math.Seq.{get_or-append_seam}
use Rattle.fugue_ids.specs.Identifiers.{Identifier}
use Rattle.block_map.specs.Contents.{value_of}
use Rattle.block_map.specs.declared.map.BlockMap.{BlockMap}
use Rattle.node_rope.specs.declared.store.Store.{Store}
use Rattle.node_rope.specs.declared.cells.Link.{Link}
use Rattle.node_rope.specs.declared.cells.Own.{Own}
use Rattle.node_rope.specs.Made.{IsMade, made_count, shapes_of}
use Rattle.node_rope.specs.Shapes.{HasRightLinks, shape_at, link_number, tree_of, nodes_in_order}
use Rattle.node_rope.specs.Walk.{Tree, all_nodes}
use Rattle.node_rope.specs.Found.{IsFollowed}
use Rattle.node_rope.proofs.WalkLemmas.{whole-node, length-whole}
use Rattle.node_rope.proofs.ShapeLemmas.{made-below, higher}
use Rattle.node_rope.specs.Items.{IsRope, rope_items_of}
use Rattle.node_rope.specs.Places.{StandsAt}
use Rattle.node_rope.proofs.KeyLemmas.{link-or-none}
use Rattle.node_rope.proofs.SeenLemmas.{stands, key-seen, order-length}

pub record IsPart (xs ys : List ℕ) : Type 0 where
  pub front : List ℕ
  pub back : List ℕ
  pub split : xs ≡ front ++ (ys ++ back)

-- x is the last of xs
pub record IsLast (xs : List ℕ) (x : ℕ) : Type 0 where
  pub front : List ℕ
  pub split : xs ≡ front ++ x ∷ []

pub first-of : (xs ys : List ℕ) → 0 < length xs → slice_get (xs ++ ys) 0 ≡ slice_get xs 0
first-of [] ys h = absurd (omega (arith, h))
first-of (x ∷ xs) ys h = refl

part-left : (xs L M R f b : List ℕ) → xs ≡ f ++ ((L ++ M) ++ b) → IsPart xs L
part-left xs L M R f b e = record { front = f; back = M ++ b; split = e ∙ ap (λ ys. f ++ ys) (append_assoc L M b) }

part-right : (xs L : List ℕ) (p : ℕ) (W f b : List ℕ) → xs ≡ f ++ ((L ++ p ∷ W) ++ b) → IsPart xs W
part-right xs L p W f b e = record {
  front = (f ++ L) ++ p ∷ [];
  back = b;
  split = e ∙ ap (λ ys. f ++ ys) (append_assoc L (p ∷ W) b) ∙ sym (append_assoc f L (p ∷ (W ++ b))) ∙ sym (append_assoc (f ++ L) (p ∷ []) (W ++ b));
}

module _ {T : Type 0} (s : Store T) (root : Option Link) (sound : HasRightLinks s root) where
  abbrev t : Tree
  t = tree_of (shapes_of s)

  parts : (k i : ℕ) → suc (suc (made_count s)) ≤ t.count i + k → i < made_count s → IsPart (nodes_in_order s root) (all_nodes t (Some i))
  parts zero i h b = absurd (omega (arith, h, sound.small i))
  parts (suc k) i h b = elim (link-or-none (shape_at (shapes_of s) i).parent) as (λ _. IsPart (nodes_in_order s root) (all_nodes t (Some i))) [
    | inl e ↦ record { front = []; back = []; split = ap (all_nodes t) (sound.top i b e) ∙ sym (append-nil (all_nodes t (Some i))) }
    | inr e ↦ (
        let p = e.0.number in
        let up = ap link_number e.1 in
        let high : t.count i < t.count p = higher s root sound i e.0 e.1 in
        let above = parts k p (omega (arith, h, high)) (made-below s e.0 (sound.made_parent i e.0 e.1)) in
        let node : nodes_in_order s root ≡ above.front ++ ((all_nodes t (t.left p) ++ p ∷ all_nodes t (t.right p)) ++ above.back) =
        above.split ∙ ap (λ ys. above.front ++ (ys ++ above.back)) (whole-node t sound.counted p) in
        elim (sound.below i p up) as (λ _. IsPart (nodes_in_order s root) (all_nodes t (Some i))) [
          | inl f ↦ subst (λ (o : Option ℕ). IsPart (nodes_in_order s root) (all_nodes t o)) f
              (part-left (nodes_in_order s root) (all_nodes t (t.left p)) (p ∷ all_nodes t (t.right p)) [] above.front above.back node)
          | inr f ↦ subst (λ (o : Option ℕ). IsPart (nodes_in_order s root) (all_nodes t o)) f
              (part-right (nodes_in_order s root) (all_nodes t (t.left p)) p (all_nodes t (t.right p)) above.front above.back node)
        ])
  ]

  -- the nodes of a subtree stand together
  pub together : (l : Link) → IsMade s l → IsPart (nodes_in_order s root) (all_nodes t (Some l.number))
  together l made = parts (suc (suc (made_count s))) l.number (omega arith) (made-below s l made)

  -- ---- the first node of a subtree
  pub first-left : (x l : ℕ) → t.left x ≡ Some l → slice_get (all_nodes t (Some x)) 0 ≡ slice_get (all_nodes t (Some l)) 0
  first-left x l e =
      let long : 0 < length (all_nodes t (Some l)) = omega (arith, length-whole t sound.counted (Some l), sound.counted l) in
      ap (λ ys. slice_get ys 0) (whole-node t sound.counted x) ∙ ap (λ o. slice_get (all_nodes t o ++ x ∷ all_nodes t (t.right x)) 0) e
      ∙ first-of (all_nodes t (Some l)) (x ∷ all_nodes t (t.right x)) long

  pub first-here : (x : ℕ) → t.left x ≡ None → slice_get (all_nodes t (Some x)) 0 ≡ Some x
  first-here x e = ap (λ ys. slice_get ys 0) (whole-node t sound.counted x) ∙ ap (λ o. slice_get (all_nodes t o ++ x ∷ all_nodes t (t.right x)) 0) e

  -- ---- the way up from the last node of a subtree
  pub last-here : (x : ℕ) → t.right x ≡ None → IsLast (all_nodes t (Some x)) x
  last-here x e = record { front = all_nodes t (t.left x); split = whole-node t sound.counted x ∙ ap (λ o. all_nodes t (t.left x) ++ x ∷ all_nodes t o) e }

  pub last-up : (x i p : ℕ) → t.right p ≡ Some i → IsLast (all_nodes t (Some i)) x → IsLast (all_nodes t (Some p)) x
  last-up x i p e last = record {
    front = all_nodes t (t.left p) ++ p ∷ last.front;
    split = whole-node t sound.counted p ∙ ap (λ o. all_nodes t (t.left p) ++ p ∷ all_nodes t o) e ∙ ap (λ ys. all_nodes t (t.left p) ++ p ∷ ys) last.split
        ∙ sym (append_assoc (all_nodes t (t.left p)) (p ∷ last.front) (x ∷ []));
  }

  pub followed-up : (x i : ℕ) (p : Link) → IsMade s p → t.left p.number ≡ Some i → IsLast (all_nodes t (Some i)) x → IsFollowed (nodes_in_order s root) x (Some p.number)
  followed-up x i p made e last =
      let w = together p made in
      let R = all_nodes t (t.right p.number) in
      record {
        front = w.front ++ last.front;
        back = p.number ∷ (R ++ w.back);
        split = w.split ∙ ap (λ ys. w.front ++ (ys ++ w.back))
            (whole-node t sound.counted p.number ∙ ap (λ o. all_nodes t o ++ p.number ∷ R) e ∙ ap (λ ys. ys ++ p.number ∷ R) last.split
            ∙ append_assoc last.front (x ∷ []) (p.number ∷ R))
            ∙ ap (λ ys. w.front ++ ys) (append_assoc last.front (x ∷ p.number ∷ R) w.back) ∙ sym (append_assoc w.front last.front (x ∷ p.number ∷ (R ++ w.back)));
        next = refl;
      }

  pub followed-top : (x i : ℕ) → i < made_count s → (shape_at (shapes_of s) i).parent ≡ None → IsLast (all_nodes t (Some i)) x → IsFollowed (nodes_in_order s root) x None
  followed-top x i b e last = record { front = last.front; back = []; split = ap (all_nodes t) (sound.top i b e) ∙ last.split; next = refl }

  pub followed-right : (l : Link) (r n : ℕ) → IsMade s l → t.right l.number ≡ Some r → slice_get (all_nodes t (Some r)) 0 ≡ Some n
      → IsFollowed (nodes_in_order s root) l.number (Some n)
  followed-right l r n made e first =
      let w = together l made in
      let x = l.number in
      let L = all_nodes t (t.left x) in
      let R = all_nodes t (Some r) in
      let long : 0 < length R = omega (arith, length-whole t sound.counted (Some r), sound.counted r) in
      record {
        front = w.front ++ L;
        back = R ++ w.back;
        split = w.split ∙ ap (λ ys. w.front ++ (ys ++ w.back)) (whole-node t sound.counted x ∙ ap (λ o. L ++ x ∷ all_nodes t o) e)
            ∙ ap (λ ys. w.front ++ ys) (append_assoc L (x ∷ R) w.back) ∙ sym (append_assoc w.front L (x ∷ (R ++ w.back)));
        next = sym first ∙ sym (first-of R w.back long);
      }

-- ---- the item behind the one of a node
module _ {T : Type 0} (wt : T → Own) (s : Store T) (root : Option Link) (m : BlockMap Link) (r : IsRope wt s root m) (k : Identifier) (l : Link) (at : value_of m k ≡ Some l) where
  pub item-stands : (o : Option ℕ) (f : IsFollowed (nodes_in_order s root) l.number o) → StandsAt (rope_items_of s root) (length f.front) k
  item-stands o f =
      let inside : length f.front < length (nodes_in_order s root) = omega (arith, ap length f.split, length-append f.front (l.number ∷ f.back)) in
      stands wt s root m r k l at (length f.front) inside (ap (λ xs. get_or xs (length f.front) 0) f.split ∙ get_or-append_seam f.front l.number f.back 0)

  pub item-behind : (n : Link) (f : IsFollowed (nodes_in_order s root) l.number (Some n.number))
      → StandsAt (rope_items_of s root) (length f.front + 1) (shape_at (shapes_of s) n.number).key
  item-behind n f = by f.back f.split f.next where
    by : (back : List ℕ) → nodes_in_order s root ≡ f.front ++ l.number ∷ back → Some n.number ≡ slice_get back 0
        → StandsAt (rope_items_of s root) (length f.front + 1) (shape_at (shapes_of s) n.number).key
    by [] e next = absurd (cc)
    by (b ∷ rest) e next =
        let is : n.number ≡ b = cc in
        let split : nodes_in_order s root ≡ (f.front ++ l.number ∷ []) ++ b ∷ rest = e ∙ sym (append_assoc f.front (l.number ∷ []) (b ∷ rest)) in
        let place : length (f.front ++ l.number ∷ []) ≡ length f.front + 1 = length-append f.front (l.number ∷ []) in
        let inside : length f.front + 1 < length (nodes_in_order s root) = omega (arith, place, ap length split, length-append (f.front ++ l.number ∷ []) (b ∷ rest)) in
        key-seen wt s root m r (length f.front + 1) n inside
        (ap (λ xs. get_or xs (length f.front + 1) 0) split ∙ ap (λ (i : ℕ). get_or ((f.front ++ l.number ∷ []) ++ b ∷ rest) i 0) (sym place)
        ∙ get_or-append_seam (f.front ++ l.number ∷ []) b rest 0 ∙ sym is)

  pub item-last : (f : IsFollowed (nodes_in_order s root) l.number None) → length (rope_items_of s root) ≡ length f.front + 1
  item-last f = by f.back f.split f.next where
    by : (back : List ℕ) → nodes_in_order s root ≡ f.front ++ l.number ∷ back → None ≡ slice_get back 0 → length (rope_items_of s root) ≡ length f.front + 1
    by (b ∷ rest) e next = absurd (cc)
    by [] e next = omega (arith, order-length wt s root m r, ap length e, length-append f.front (l.number ∷ []))
