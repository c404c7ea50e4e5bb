-- What stands before a node, and its weight, one step of the climb at a time.
use Rattle.std.proofs.Common.{◌≡◌, ℕ, suc, ◌+◌, ◌-◌, ◌<◌, ◌≤◌, List, ◌∷◌, length, get_or, take, Option, None, Some, refl, sym, ap, ◌∙◌, subst, arith}
use Rattle.node_rope.specs.declared.store.Store.{Store}
use Rattle.node_rope.specs.declared.cells.Shape.{Shape}
use Rattle.node_rope.specs.declared.cells.Link.{Link}
use Rattle.node_rope.specs.Made.{IsMade, made_count, shapes_of}
use Rattle.node_rope.specs.Walk.{Tree, count_of, all_nodes, HasCounts}
use Rattle.node_rope.specs.Sums.{sum_measure, sum_of}
use Rattle.node_rope.specs.Shapes.{HasRightLinks, shape_at, link_number, tree_of, nodes_in_order, weigh, weight_at, owns, weights, IsWeighed}
use Rattle.node_rope.proofs.ShapeLemmas.{made-below, weight-sum, up_made, is_left, nearer}
use Rattle.node_rope.proofs.WalkLemmas.{at-self, at-left, at-right, length-whole}
use Rattle.node_rope.proofs.SumLemmas.{adding-lawful, fold-append, sum-is, first-self, first-left, first-right}

module _ (ss : List Shape) (ct : HasCounts (tree_of ss)) (wt : IsWeighed ss) where
  pub weight-is : (o : Option ℕ) → sum_of sum_measure (weights ss) o ≡ weigh ss (all_nodes (tree_of ss) o)
  weight-is o = sum-is sum_measure adding-lawful (tree_of ss) ct (owns ss) (weights ss) wt o

  weigh-self : (x i : ℕ) → i ≡ count_of (tree_of ss) (link_number (shape_at ss x).left) → weight_at ss (shape_at ss x).left ≡ weigh ss (take i (all_nodes (tree_of ss) (Some x)))
  weigh-self x i e = weight-sum ss (shape_at ss x).left ∙ weight-is (link_number (shape_at ss x).left) ∙ ap (weigh ss) (sym (first-self (tree_of ss) ct x i e))

  weigh-left : (p c i w : ℕ) → link_number (shape_at ss p).left ≡ Some c → i ≤ (shape_at ss c).count → w ≡ weigh ss (take i (all_nodes (tree_of ss) (Some c)))
      → w ≡ weigh ss (take i (all_nodes (tree_of ss) (Some p)))
  weigh-left p c i w e h f = f ∙ ap (weigh ss) (sym (first-left (tree_of ss) ct p c i e h))

  weigh-right : (p c i j w : ℕ) → link_number (shape_at ss p).right ≡ Some c → j ≡ count_of (tree_of ss) (link_number (shape_at ss p).left) + suc i
      → w ≡ weigh ss (take i (all_nodes (tree_of ss) (Some c)))
      → weight_at ss (shape_at ss p).left + ((shape_at ss p).own.weight + w) ≡ weigh ss (take j (all_nodes (tree_of ss) (Some p)))
  weigh-right p c i j w e f h =
      let l = weight-sum ss (shape_at ss p).left ∙ weight-is (link_number (shape_at ss p).left) in
      ap (λ a. a + ((shape_at ss p).own.weight + w)) l ∙ ap (λ a. weigh ss (all_nodes (tree_of ss) (link_number (shape_at ss p).left)) + ((shape_at ss p).own.weight + a)) h
      ∙ sym (fold-append sum_measure adding-lawful (owns ss) (all_nodes (tree_of ss) (link_number (shape_at ss p).left)) (p ∷ take i (all_nodes (tree_of ss) (Some c))))
      ∙ ap (weigh ss) (sym (first-right (tree_of ss) ct p c i j e f))

-- ---- of the nodes below cur, whose shape is h, count ones stand before the node i, and their weight is this
pub record IsClimbing {T : Type 0} (s : Store T) (i : ℕ) (cur : Link) (h : Shape) (count weight : ℕ) : Type 0 where
  pub made : IsMade s cur
  pub read : h ≡ shape_at (shapes_of s) cur.number
  pub inside : count < h.count
  pub lighter : weight ≤ h.weight
  pub here : get_or (all_nodes (tree_of (shapes_of s)) (Some cur.number)) count 0 ≡ i
  pub weighs : weight ≡ weigh (shapes_of s) (take count (all_nodes (tree_of (shapes_of s)) (Some cur.number)))

pub climb-starts : {T : Type 0} (s : Store T) (root : Option Link) → HasRightLinks s root → (at : Link) → IsMade s at → (h : Shape) → h ≡ shape_at (shapes_of s) at.number
    → (count weight : ℕ) → count ≡ count_of (tree_of (shapes_of s)) (link_number h.left) → weight ≡ weight_at (shapes_of s) h.left
    → IsClimbing s at.number at h count weight
climb-starts s root so at made h read count weight is_count is_weight =
    let ss = shapes_of s in
    let i = at.number in
    let c : count ≡ count_of (tree_of ss) (link_number (shape_at ss i).left) = is_count ∙ ap (λ (g : Shape). count_of (tree_of ss) (link_number g.left)) read in
    let w : weight ≡ weight_at ss (shape_at ss i).left = is_weight ∙ ap (λ (g : Shape). weight_at ss g.left) read in record {
      made = made;
      read = read;
      inside = omega (arith, c, so.counted i, ap (λ (g : Shape). g.count) read);
      lighter = omega (arith, w, so.weighed i, weight-sum ss (shape_at ss i).left, ap (λ (g : Shape). g.weight) read);
      here = at-self (tree_of ss) so.counted i count c;
      weighs = w ∙ weigh-self ss so.counted so.weighed i count c;
    }

module _ {T : Type 0} (s : Store T) (root : Option Link) (so : HasRightLinks s root) (i : ℕ) (cur : Link) (h : Shape) (count weight : ℕ)
    (inv : IsClimbing s i cur h count weight) where
  abbrev hs : List Shape
  hs = shapes_of s

  abbrev t : Tree
  t = tree_of hs

  abbrev k : ℕ
  k = cur.number

  -- to the node up, whose shape is g
  module _ (up : Link) (is_up : h.parent ≡ Some up) (g : Shape) (read : g ≡ shape_at hs up.number) where
    abbrev p : ℕ
    p = up.number

    parent : (shape_at hs k).parent ≡ Some up
    parent = ap (λ (f : Shape). f.parent) (sym inv.read) ∙ is_up

    pub climb-nearer : suc (made_count s) - g.count < suc (made_count s) - h.count
    climb-nearer = rw (inv.read, read) (nearer s root so k up parent (suc (made_count s)) refl)

    -- cur is below up
    module _ (side : link_number g.right ≡ Some k) where
      right : t.right p ≡ Some k
      right = ap (λ (f : Shape). link_number f.right) (sym read) ∙ side

      -- what is below up, but not below cur
      over-count : g.count ≡ count_of t (t.left p) + (h.count + 1)
      over-count = omega (arith, so.counted p, ap (λ (f : Shape). f.count) inv.read, ap (λ (f : Shape). f.count) read, ap (count_of t) right)

      over-weight : g.weight ≡ weight_at hs (shape_at hs p).left + ((shape_at hs p).own.weight + h.weight)
      over-weight = omega (
        arith,
        so.weighed p,
        weight-sum hs (shape_at hs p).left,
        ap (λ (f : Shape). f.weight) inv.read,
        ap (λ (f : Shape). f.weight) read,
        ap (sum_of sum_measure (weights hs)) right,
      )

      pub climb-right : IsClimbing s i up g (count + (g.count - h.count)) (weight + (g.weight - h.weight))
      climb-right =
          let c = over-count in
          let w = over-weight in
          let j : count + (g.count - h.count) ≡ count_of t (t.left p) + suc count = omega (arith, c) in
          let e : weight_at hs (shape_at hs p).left + ((shape_at hs p).own.weight + weight) ≡ weight + (g.weight - h.weight) = omega (arith, w) in record {
            made = up_made s root so k up parent;
            read = read;
            inside = omega (arith, c, inv.inside);
            lighter = omega (arith, w, inv.lighter);
            here = at-right t so.counted p k count (count + (g.count - h.count)) right j ∙ inv.here;
            weighs = sym e ∙ weigh-right hs so.counted so.weighed p k count (count + (g.count - h.count)) weight right j inv.weighs;
          }

    pub climb-left : (link_number g.right ≡ Some k → ⊥) → IsClimbing s i up g count weight
    climb-left other =
        let left : t.left p ≡ Some k = is_left s root so k up parent (λ e. other (ap (λ (f : Shape). link_number f.right) read ∙ e)) in
        let inside : count < (shape_at hs k).count = omega (arith, inv.inside, ap (λ (f : Shape). f.count) inv.read) in record {
          made = up_made s root so k up parent;
          read = read;
          inside = omega (arith, inside, so.counted p, ap (λ (f : Shape). f.count) read, ap (count_of t) left);
          lighter = omega (arith, so.weighed p, inv.lighter, ap (λ (f : Shape). f.weight) inv.read, ap (λ (f : Shape). f.weight) read, ap (sum_of sum_measure (weights hs)) left);
          here = at-left t so.counted p k count left inside ∙ inv.here;
          weighs = weigh-left hs so.counted so.weighed p k count weight left (omega (arith, inside)) inv.weighs;
        }

  -- at the top
  pub climbed : h.parent ≡ None → (count < length (nodes_in_order s root)) × (get_or (nodes_in_order s root) count 0 ≡ i) × (weight ≡ weigh hs (take count (nodes_in_order s root)))
  climbed none =
      let top = so.top k (made-below s cur inv.made) (ap (λ (f : Shape). f.parent) (sym inv.read) ∙ none) in (
        omega (arith, inv.inside, ap (λ (f : Shape). f.count) inv.read, length-whole t so.counted (link_number root), ap (count_of t) top),
        subst (λ (o : Option ℕ). get_or (all_nodes t o) count 0 ≡ i) (sym top) inv.here,
        subst (λ (o : Option ℕ). weight ≡ weigh hs (take count (all_nodes t o))) (sym top) inv.weighs,
      )
