-- A rope's list has one item for each node.
use Rattle.std.proofs.Common.{◌≡◌, ℕ, zero, suc, ◌<◌, ◌≤◌, List, [], ◌∷◌, ◌++◌, length, flat_map, slice_get, option_map, Option, None, Some, refl, sym, ap, ◌∙◌, arith}
use Rattle.std.proofs.Common.{length-append}
use Rattle.std.specs.Prelude.{option_to_list}
use Rattle.std.proofs.lemmas.List.Concat.{flat_map-append}
use Rattle.fugue_ids.specs.Identifiers.{Identifier}
use Rattle.node_rope.specs.declared.store.Store.{Store}
use Rattle.node_rope.specs.declared.cells.Link.{Link}
use Rattle.node_rope.specs.Made.{made_count, shapes_of}
use Rattle.node_rope.specs.Shapes.{HasRightLinks, AreMade, link_number, tree_of, nodes_in_order}
use Rattle.node_rope.specs.Walk.{Tree, count_of, all_nodes}
use Rattle.node_rope.specs.Items.{item_at, rope_items_of}
use Rattle.node_rope.proofs.WalkLemmas.{whole-node, length-whole, some-same}
use Rattle.node_rope.proofs.ShapeLemmas.{length-shapes, made-below}
use Rattle.node_rope.proofs.GrowthLemmas.{are-within}

one-each : {X Y : Type 0} (f : X → Y) (xs : List X) (i : ℕ) → i < length xs → length (option_to_list (option_map f (slice_get xs i))) ≡ 1
one-each f [] i h = absurd (omega arith)
one-each f (x ∷ xs) zero h = refl
one-each f (x ∷ xs) (suc i) h = one-each f xs i (omega arith)

module _ {T : Type 0} (s : Store T) (root : Option Link) (sound : HasRightLinks s root) where
  abbrev t : Tree
  t = tree_of (shapes_of s)

  items-below : (k : ℕ) (o : Option ℕ) → count_of t o ≤ k → ((x : ℕ) → o ≡ Some x → x < made_count s) → length (flat_map (item_at s) (all_nodes t o)) ≡ count_of t o
  items-below k None h b = refl
  items-below zero (Some x) h b = absurd (omega (arith, sound.counted x))
  items-below (suc k) (Some x) h b =
      let l = items-below k (t.left x) (omega (arith, sound.counted x)) (λ m e. let q = (are-within s root sound).lefts x m e in omega (arith, q, length-shapes s)) in
      let r = items-below k (t.right x) (omega (arith, sound.counted x)) (λ m e. let q = (are-within s root sound).rights x m e in omega (arith, q, length-shapes s)) in
      let one = one-each {Y = Identifier × T} (λ n. (n.shape.key, n.value)) s.pile.values x (b x refl) in
      let L = all_nodes t (t.left x) in
      let R = all_nodes t (t.right x) in
      let F = flat_map (item_at s) in
      ap (λ xs. length (F xs)) (whole-node t sound.counted x) ∙ ap length (flat_map-append (item_at s) L (x ∷ R))
      ∙ omega (arith, length-append (F L) (item_at s x ++ F R), length-append (item_at s x) (F R), one, l, r, sound.counted x)

  pub root-below : (o : Option Link) → AreMade s o → (x : ℕ) → link_number o ≡ Some x → x < made_count s
  root-below None made x e = absurd (cc)
  root-below (Some l) made x e = let h = made-below s l (made l refl) in let q = some-same l.number x e in omega arith

  pub length-items : length (rope_items_of s root) ≡ count_of t (link_number root)
  length-items = items-below (count_of t (link_number root)) (link_number root) (omega arith) (root-below root sound.made_root)

  pub length-order : length (nodes_in_order s root) ≡ length (rope_items_of s root)
  length-order = length-whole t sound.counted (link_number root) ∙ sym length-items
