-- The first low node as seen from a side, by the least ranks of subtrees.
use Rattle.std.proofs.Common.{◌≡◌, ℕ, zero, suc, ◌-◌, ◌<◌, ◌≤◌, min, Bool, true, false, ◌||◌, cond, List, [], ◌∷◌, ◌++◌, length, drop, take, Option, None, Some, refl, sym, ap, ◌∙◌}
use Rattle.std.proofs.Common.{arith}
use Rattle.std.specs.Prelude.{nat_le, is_some, reverse}
use Rattle.std.proofs.lemmas.Bool.Decides.{nat_tests}
use Rattle.std.proofs.lemmas.List.{reverse-append, length-reverse, length-drop, take-append-drop}
use Rattle.node_rope.specs.declared.turn.Side.{Side}
use Rattle.node_rope.specs.declared.turn.Side.TheVariants.{Left, Right}
use Rattle.node_rope.specs.declared.store.Store.{Store}
use Rattle.node_rope.specs.declared.cells.Shape.{Shape}
use Rattle.node_rope.specs.declared.cells.Link.{Link}
use Rattle.node_rope.specs.Made.{shapes_of}
use Rattle.node_rope.specs.Walk.{Tree, count_of, all_nodes, HasCounts}
use Rattle.node_rope.specs.Sums.{lesser, no_rank, sum_of, IsSummed}
use Rattle.node_rope.specs.Sides.{facing_shape, seen}
use Rattle.node_rope.specs.Shapes.{AreMade, AreRanksFit, HasRightLinks, nodes_in_order, shape_at, link_number, tree_of, ranks, leasts}
use Rattle.node_rope.specs.Low.{or_else, if_low, first_low, last_low, low_at, low_below, low_from, seen_order}
use Rattle.node_rope.proofs.WalkLemmas.{whole-node, length-whole}
use Rattle.node_rope.proofs.MirrorLemmas.{mirror-counted, mirror-summed, whole-mirrored}
use Rattle.node_rope.proofs.JoinLemmas.{lesser-commutes}
use Rattle.node_rope.proofs.FaceLemmas.{faced-field}
use Rattle.node_rope.proofs.SumLemmas.{drop-first, drop-past}

pub or_else-assoc : {X : Type 0} (a b d : Option X) → or_else (or_else a b) d ≡ or_else a (or_else b d)
or_else-assoc None b d = refl
or_else-assoc (Some x) b d = refl

or_else-none : {X : Type 0} (a : Option X) → or_else a None ≡ a
or_else-none None = refl
or_else-none (Some x) = refl

or_else-some : {X : Type 0} (a b : Option X) → is_some a ≡ true → or_else a b ≡ a
or_else-some None b h = absurd (cc)
or_else-some (Some x) b h = refl

or_else-without : {X : Type 0} (a b : Option X) → is_some a ≡ false → or_else a b ≡ b
or_else-without None b h = refl
or_else-without (Some x) b h = absurd (cc)

is_some-or : {X : Type 0} (a b : Option X) → is_some (or_else a b) ≡ (is_some a || is_some b)
is_some-or None b = refl
is_some-or (Some x) b = refl

or-swap : (a b : Bool) → (a || b) ≡ (b || a)
or-swap false false = refl
or-swap false true = refl
or-swap true false = refl
or-swap true true = refl

module _ {X : Type 0} (rank : X → ℕ) (most : ℕ) where
  pub first-append : (xs ys : List X) → first_low rank most (xs ++ ys) ≡ or_else (first_low rank most xs) (first_low rank most ys)
  first-append [] ys = refl
  first-append (x ∷ xs) ys = ap (or_else (if_low rank most x)) (first-append xs ys) ∙ sym (or_else-assoc (if_low rank most x) (first_low rank most xs) (first_low rank most ys))

  if-low : (x : X) → is_some (if_low rank most x) ≡ nat_le (rank x) most
  if-low x = by (nat_le (rank x) most) where
    by : (b : Bool) → is_some (cond b (Some x) None) ≡ b
    by false = refl
    by true = refl

  -- the last one is the first from the end
  pub first-reversed : (xs : List X) → first_low rank most (reverse xs) ≡ last_low rank most xs
  first-reversed [] = refl
  first-reversed (x ∷ xs) =
      ap (first_low rank most) (reverse-append (x ∷ []) xs) ∙ first-append (reverse xs) (x ∷ [])
      ∙ ap (or_else (first_low rank most (reverse xs))) (or_else-none (if_low rank most x)) ∙ ap (λ o. or_else o (if_low rank most x)) (first-reversed xs)

le-told : (a b : ℕ) → a ≤ b → nat_le a b ≡ true
le-told a b h = grind (arith, nat_tests)

le-not : (a b : ℕ) → b < a → nat_le a b ≡ false
le-not a b h = grind (arith, nat_tests)

le-min : (a b most : ℕ) → (nat_le a most || nat_le b most) ≡ nat_le (min a b) most
le-min a b most = grind (arith, nat_tests)

-- ---- a tree as it is seen from a side
seen-counted : (d : Side) (t : Tree) → HasCounts t → HasCounts (seen d t)
seen-counted Left t ct = ct
seen-counted Right t ct = mirror-counted t ct

seen-ranked : (d : Side) (t : Tree) (own s : ℕ → ℕ) → IsSummed lesser t own s → IsSummed lesser (seen d t) own s
seen-ranked Left t own s h = h
seen-ranked Right t own s h = mirror-summed lesser lesser-commutes t own s h

seen-count : (d : Side) (t : Tree) (o : Option ℕ) → count_of (seen d t) o ≡ count_of t o
seen-count Left t o = refl
seen-count Right t None = refl
seen-count Right t (Some x) = refl

seen-left : (d : Side) (ss : List Shape) (x : ℕ) → (seen d (tree_of ss)).left x ≡ link_number (facing_shape d (shape_at ss x)).left
seen-left Left ss x = refl
seen-left Right ss x = refl

seen-right : (d : Side) (ss : List Shape) (x : ℕ) → (seen d (tree_of ss)).right x ≡ link_number (facing_shape d (shape_at ss x)).right
seen-right Left ss x = refl
seen-right Right ss x = refl

module _ {T : Type 0} (s : Store T) (root : Option Link) (so : HasRightLinks s root) where
  left-made : (d : Side) (x : ℕ) → AreMade s (facing_shape d (shape_at (shapes_of s) x)).left
  left-made Left x = so.made_left x
  left-made Right x = so.made_right x

  right-made : (d : Side) (x : ℕ) → AreMade s (facing_shape d (shape_at (shapes_of s) x)).right
  right-made Left x = so.made_right x
  right-made Right x = so.made_left x

module _ {T : Type 0} (s : Store T) (root : Option Link) (so : HasRightLinks s root) (fits : AreRanksFit (shapes_of s)) (most : ℕ) (d : Side) where
  abbrev ss : List Shape
  ss = shapes_of s

  abbrev t : Tree
  t = seen d (tree_of ss)

  abbrev rank : ℕ → ℕ
  rank = ranks ss

  ct : HasCounts t
  ct = seen-counted d (tree_of ss) so.counted

  rt : IsSummed lesser t rank (leasts ss)
  rt = seen-ranked d (tree_of ss) rank (leasts ss) so.ranked

  abbrev low : Option ℕ → Bool
  low None = false
  low (Some x) = nat_le (leasts ss x) most

  first-node : (x : ℕ) → first_low rank most (all_nodes t (Some x)) ≡ or_else (first_low rank most (all_nodes t (t.left x)))
      (or_else (if_low rank most x) (first_low rank most (all_nodes t (t.right x))))
  first-node x = ap (first_low rank most) (whole-node t ct x) ∙ first-append rank most (all_nodes t (t.left x)) (x ∷ all_nodes t (t.right x))

  -- a node and what is below it has a low one where its least rank is low
  low-node : (o q : Option ℕ) (r least : ℕ) → r ≤ no_rank → least ≡ min (sum_of lesser (leasts ss) o) (min r (sum_of lesser (leasts ss) q))
      → (low o || (nat_le r most || low q)) ≡ nat_le least most
  low-node None None r least h e = let k : least ≡ r = omega (arith, e, h) in rw k (or-swap (nat_le r most) false)
  low-node None (Some b) r least h e = let k : least ≡ min r (leasts ss b) = omega (arith, e, h) in rw k (le-min r (leasts ss b) most)
  low-node (Some a) None r least h e = let k : least ≡ min (leasts ss a) r =
      omega (arith, e, h) in rw k (ap (λ b. nat_le (leasts ss a) most || b) (or-swap (nat_le r most) false) ∙ le-min (leasts ss a) r most)
  low-node (Some a) (Some b) r least h e = rw e (ap (λ c. nat_le (leasts ss a) most || c) (le-min r (leasts ss b) most) ∙ le-min (leasts ss a) (min r (leasts ss b)) most)

  has-low : (k : ℕ) (o : Option ℕ) → count_of t o ≤ k → is_some (first_low rank most (all_nodes t o)) ≡ low o
  has-low k None h = refl
  has-low zero (Some x) h = absurd (omega (arith, ct x))
  has-low (suc k) (Some x) h =
      let l = has-low k (t.left x) (omega (arith, ct x)) in
      let r = has-low k (t.right x) (omega (arith, ct x)) in
      let L = first_low rank most (all_nodes t (t.left x)) in
      let R = first_low rank most (all_nodes t (t.right x)) in
      ap is_some (first-node x) ∙ is_some-or L (or_else (if_low rank most x) R) ∙ (λ i. l i || is_some-or (if_low rank most x) R i)
      ∙ (λ i. low (t.left x) || (if-low rank most x i || r i))
      ∙ low-node (t.left x) (t.right x) (rank x) (leasts ss x) (fits x) (rt x)

  low-is : (o : Option Link) → low (link_number o) ≡ low_at ss most o
  low-is None = refl
  low-is (Some l) = refl

  -- what the test of a subtree tells
  told : (o : Option Link) → is_some (low_below ss most d o) ≡ low_at ss most o
  told o = has-low (count_of t (link_number o)) (link_number o) (omega arith) ∙ low-is o

  -- ---- one step down, from a node l, whose shape as seen from the side is h
  module _ (l : Link) (h : Shape) (is : h ≡ facing_shape d (shape_at ss l.number)) where
    abbrev x : ℕ
    x = l.number

    pub near-made : AreMade s h.left
    near-made m e = left-made s root so d x m (sym (ap (λ (g : Shape). g.left) is) ∙ e)

    pub far-made : AreMade s h.right
    far-made m e = right-made s root so d x m (sym (ap (λ (g : Shape). g.right) is) ∙ e)

    left-is : t.left x ≡ link_number h.left
    left-is = seen-left d ss x ∙ ap (λ (g : Shape). link_number g.left) (sym is)

    right-is : t.right x ≡ link_number h.right
    right-is = seen-right d ss x ∙ ap (λ (g : Shape). link_number g.right) (sym is)

    rank-is : h.own.rank ≡ rank x
    rank-is = ap (λ (g : Shape). g.own.rank) is ∙ faced-field (λ g. g.own.rank) (λ g. refl) d (shape_at ss x)

    from-is : low_from ss most d (Some l) ≡ or_else (if_low rank most x) (low_below ss most d h.right)
    from-is = ap (λ (g : Shape). or_else (if_low rank most x) (low_below ss most d g.right)) (sym is)

    below-is : low_below ss most d (Some l) ≡ or_else (low_below ss most d h.left) (low_from ss most d (Some l))
    below-is = first-node x
        ∙ (λ i. or_else (first_low rank most (all_nodes t (left-is i))) (or_else (if_low rank most x) (first_low rank most (all_nodes t (seen-right d ss x i)))))

    pub goes-near : low_at ss most h.left ≡ true → low_below ss most d (Some l) ≡ low_below ss most d h.left
    goes-near e = below-is ∙ or_else-some (low_below ss most d h.left) (low_from ss most d (Some l)) (told h.left ∙ e)

    pub passes : low_at ss most h.left ≡ false → low_below ss most d (Some l) ≡ low_from ss most d (Some l)
    passes e = below-is ∙ or_else-without (low_below ss most d h.left) (low_from ss most d (Some l)) (told h.left ∙ e)

    pub stands : h.own.rank ≤ most → low_from ss most d (Some l) ≡ Some x
    stands e =
        let here : nat_le (rank x) most ≡ true = le-told (rank x) most (omega (arith, e, rank-is)) in
        from-is ∙ ap (λ b. or_else (cond b (Some x) None) (low_below ss most d h.right)) here

    pub goes-far : most < h.own.rank → low_from ss most d (Some l) ≡ low_below ss most d h.right
    goes-far e =
        let past : nat_le (rank x) most ≡ false = le-not (rank x) most (omega (arith, e, rank-is)) in
        from-is ∙ ap (λ b. or_else (cond b (Some x) None) (low_below ss most d h.right)) past

    -- where the node or its other side is low, another one does not matter
    module _ (other : Option ℕ) where
      pub keeps-far : most < h.own.rank → low_at ss most h.right ≡ true → or_else (low_from ss most d (Some l)) other ≡ low_from ss most d (Some l)
      keeps-far n e = ap (λ o. or_else o other) (goes-far n) ∙ or_else-some (low_below ss most d h.right) other (told h.right ∙ e) ∙ sym (goes-far n)

      pub leaves : most < h.own.rank → low_at ss most h.right ≡ false → or_else (low_from ss most d (Some l)) other ≡ other
      leaves n e = ap (λ o. or_else o other) (goes-far n) ∙ or_else-without (low_below ss most d h.right) other (told h.right ∙ e)

    -- ---- a place among the nodes below
    module _ (rest : ℕ) where
      abbrev L : List ℕ
      L = all_nodes t (link_number h.left)

      abbrev R : List ℕ
      R = all_nodes t (link_number h.right)

      split : all_nodes t (Some x) ≡ L ++ x ∷ R
      split = whole-node t ct x ∙ (λ i. all_nodes t (left-is i) ++ x ∷ all_nodes t (right-is i))

      left-length : length L ≡ count_of (tree_of ss) (link_number h.left)
      left-length = length-whole t ct (link_number h.left) ∙ seen-count d (tree_of ss) (link_number h.left)

      pub place-near : rest ≤ count_of (tree_of ss) (link_number h.left)
          → first_low rank most (drop rest (all_nodes t (Some x))) ≡ or_else (first_low rank most (drop rest L)) (low_from ss most d (Some l))
      place-near e = ap (λ xs. first_low rank most (drop rest xs)) split ∙ ap (first_low rank most) (drop-first L (x ∷ R) rest (omega (arith, e, left-length)))
          ∙ first-append rank most (drop rest L) (x ∷ R) ∙ ap (or_else (first_low rank most (drop rest L))) (sym from-is)

      pub place-far : count_of (tree_of ss) (link_number h.left) < rest → drop rest (all_nodes t (Some x)) ≡ drop (rest - count_of (tree_of ss) (link_number h.left) - 1) R
      place-far e = ap (drop rest) split ∙ drop-past L x R (rest - count_of (tree_of ss) (link_number h.left) - 1) rest (omega (arith, e, left-length))

-- ---- from the end
drop-all : (xs ys : List ℕ) → drop (length xs) (xs ++ ys) ≡ ys
drop-all [] ys = refl
drop-all (x ∷ xs) ys = drop-all xs ys

drop-reversed : (xs : List ℕ) (i : ℕ) → drop (length xs - i) (reverse xs) ≡ reverse (take i xs)
drop-reversed xs i =
    let all_nodes : reverse xs ≡ reverse (drop i xs) ++ reverse (take i xs) = ap reverse (sym (take-append-drop i xs)) ∙ reverse-append (take i xs) (drop i xs) in
    let size : length xs - i ≡ length (reverse (drop i xs)) = sym (length-reverse (drop i xs) ∙ length-drop i xs) in
    (λ j. drop (size j) (all_nodes j)) ∙ drop-all (reverse (drop i xs)) (reverse (take i xs))

pub last-seen-right : {T : Type 0} (s : Store T) (root : Option Link) → HasRightLinks s root → (most to : ℕ)
    → first_low (ranks (shapes_of s)) most (drop (count_of (tree_of (shapes_of s)) (link_number root) - to) (seen_order Right s root)) ≡ last_low (ranks (shapes_of s)) most
    (take to (nodes_in_order s root))
last-seen-right s root so most to =
    let xs = nodes_in_order s root in
    let n = length-whole (tree_of (shapes_of s)) so.counted (link_number root) in
    ap (first_low (ranks (shapes_of s)) most) ((λ j. drop (sym n j - to) (whole-mirrored (tree_of (shapes_of s)) (link_number root) j)) ∙ drop-reversed xs to)
    ∙ first-reversed (ranks (shapes_of s)) most (take to xs)
