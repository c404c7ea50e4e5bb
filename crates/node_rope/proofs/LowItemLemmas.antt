-- The first and the last low item are those of the first and the last low node.
use Rattle.std.proofs.Common.{◌≡◌, inl, inr, ℕ, zero, suc, Bool, true, false, cond, List, [], ◌∷◌, ◌++◌, drop, take, flat_map, Option, None, Some, refl, sym, ap, ◌∙◌}
use Rattle.std.specs.Prelude.{nat_le, option_map, slice_get}
use Rattle.fugue_ids.specs.Identifiers.{Identifier}
use Rattle.block_map.specs.declared.map.BlockMap.{BlockMap}
use Rattle.node_rope.specs.declared.store.Store.{Store}
use Rattle.node_rope.specs.declared.cells.Link.{Link}
use Rattle.node_rope.specs.declared.cells.Own.{Own}
use Rattle.node_rope.specs.Made.{shapes_of, values_of}
use Rattle.node_rope.specs.Shapes.{nodes_in_order, ranks, shape_at}
use Rattle.node_rope.specs.Items.{IsRope, item_at, rope_items_of}
use Rattle.node_rope.specs.Places.{first_low_key, last_low_key}
use Rattle.node_rope.specs.Low.{or_else, first_low, last_low}
use Rattle.node_rope.proofs.KeyLemmas.{Among, all-made}
use Rattle.node_rope.proofs.SeenLemmas.{AreNodes, one-item, items-take, among-take}

among-drop : (x i : ℕ) (xs : List ℕ) → Among x (drop i xs) → Among x xs
among-drop x zero xs a = a
among-drop x (suc i) [] a = a
among-drop x (suc i) (y ∷ xs) a = inr (among-drop x i xs a)

-- what is picked of two lists in step
module _ {A B K : Type 0} (f : A → K) (h : B → K) (a : A) (b : B) (same : f a ≡ h b) where
  pick-first : (test : Bool) (p : Option A) (q : Option B) → option_map f p ≡ option_map h q
      → option_map f (or_else (cond test (Some a) None) p) ≡ option_map h (or_else (cond test (Some b) None) q)
  pick-first true p q e = ap Some same
  pick-first false p q e = e

  pick-last : (test : Bool) (p : Option A) (q : Option B) → option_map f p ≡ option_map h q
      → option_map f (or_else p (cond test (Some a) None)) ≡ option_map h (or_else q (cond test (Some b) None))
  pick-last true None None e = ap Some same
  pick-last false None None e = refl
  pick-last test None (Some y) e = absurd (cc)
  pick-last test (Some x) None e = absurd (cc)
  pick-last test (Some x) (Some y) e = e

module _ {T : Type 0} (wt : T → Own) (s : Store T) (weighs : (i : ℕ) (v : T) → slice_get (values_of s) i ≡ Some v → (shape_at (shapes_of s) i).own ≡ wt v) (most : ℕ) where
  abbrev rank_of : T → ℕ
  rank_of v = (wt v).rank

  abbrev key : ℕ → Identifier
  key x = (shape_at (shapes_of s) x).key

  items-drop : (xs : List ℕ) → AreNodes s xs → (i : ℕ) → drop i (flat_map (item_at s) xs) ≡ flat_map (item_at s) (drop i xs)
  items-drop xs made zero = refl
  items-drop [] made (suc i) = refl
  items-drop (x ∷ xs) made (suc i) =
      let it = one-item s x (made x (inl refl)) in
      ap (λ (ys : List (Identifier × T)). drop (suc i) (ys ++ flat_map (item_at s) xs)) it.2 ∙ items-drop xs (λ y a. made y (inr a)) i

  items-first : (xs : List ℕ) → AreNodes s xs → first_low_key rank_of most (flat_map (item_at s) xs) ≡ option_map key (first_low (ranks (shapes_of s)) most xs)
  items-first [] made = refl
  items-first (x ∷ xs) made =
      let it = one-item s x (made x (inl refl)) in
      let p : Identifier × T = (key x, it.0) in
      let F = first_low (λ (q : Identifier × T). rank_of q.1) most (flat_map (item_at s) xs) in
      let G = first_low (ranks (shapes_of s)) most xs in
      let rank : rank_of it.0 ≡ ranks (shapes_of s) x = sym (ap (λ o. o.rank) (weighs x it.0 it.1)) in
      ap (λ (ys : List (Identifier × T)). first_low_key rank_of most (ys ++ flat_map (item_at s) xs)) it.2
      ∙ ap (λ (r : ℕ). option_map (λ (q : Identifier × T). q.0) (or_else (cond (nat_le r most) (Some p) None) F)) rank
      ∙ pick-first (λ (q : Identifier × T). q.0) key p x refl (nat_le (ranks (shapes_of s) x) most) F G (items-first xs (λ y a. made y (inr a)))

  items-last : (xs : List ℕ) → AreNodes s xs → last_low_key rank_of most (flat_map (item_at s) xs) ≡ option_map key (last_low (ranks (shapes_of s)) most xs)
  items-last [] made = refl
  items-last (x ∷ xs) made =
      let it = one-item s x (made x (inl refl)) in
      let p : Identifier × T = (key x, it.0) in
      let F = last_low (λ (q : Identifier × T). rank_of q.1) most (flat_map (item_at s) xs) in
      let G = last_low (ranks (shapes_of s)) most xs in
      let rank : rank_of it.0 ≡ ranks (shapes_of s) x = sym (ap (λ o. o.rank) (weighs x it.0 it.1)) in
      ap (λ (ys : List (Identifier × T)). last_low_key rank_of most (ys ++ flat_map (item_at s) xs)) it.2
      ∙ ap (λ (r : ℕ). option_map (λ (q : Identifier × T). q.0) (or_else F (cond (nat_le r most) (Some p) None))) rank
      ∙ pick-last (λ (q : Identifier × T). q.0) key p x refl (nat_le (ranks (shapes_of s) x) most) F G (items-last xs (λ y a. made y (inr a)))

module _ {T : Type 0} (wt : T → Own) (s : Store T) (root : Option Link) (m : BlockMap Link) (r : IsRope wt s root m) (most : ℕ) where
  pub first-seen : (from : ℕ) → first_low_key (λ v. (wt v).rank) most (drop from (rope_items_of s root)) ≡ option_map (λ x. (shape_at (shapes_of s) x).key)
      (first_low (ranks (shapes_of s)) most (drop from (nodes_in_order s root)))
  first-seen from =
      let nodes = all-made s root r.sound in
      ap (first_low_key (λ v. (wt v).rank) most) (items-drop wt s r.weighs most (nodes_in_order s root) nodes from)
      ∙ items-first wt s r.weighs most (drop from (nodes_in_order s root)) (λ x a. nodes x (among-drop x from (nodes_in_order s root) a))

  pub last-seen : (to : ℕ) → last_low_key (λ v. (wt v).rank) most (take to (rope_items_of s root)) ≡ option_map (λ x. (shape_at (shapes_of s) x).key)
      (last_low (ranks (shapes_of s)) most (take to (nodes_in_order s root)))
  last-seen to =
      let nodes = all-made s root r.sound in
      ap (last_low_key (λ v. (wt v).rank) most) (items-take s (nodes_in_order s root) nodes to)
      ∙ items-last wt s r.weighs most (take to (nodes_in_order s root)) (λ x a. nodes x (among-take x to (nodes_in_order s root) a))
