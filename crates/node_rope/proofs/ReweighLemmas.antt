-- One step of the climb that sums weights anew.
use Rattle.std.proofs.Common.{◌≡◌, ◌≢◌, ◌⊎◌, inl, inr, ℕ, zero, suc, ◌+◌, ◌*◌, ◌-◌, min, ◌<◌, ◌≤◌, List, ◌∷◌, ◌++◌, length, slice_set, Option, None, Some, refl, sym, ap, ◌∙◌}
use Rattle.std.proofs.Common.{subst, arith}
use Rattle.node_rope.specs.declared.store.Store.{Store}
use Rattle.node_rope.specs.declared.cells.Shape.{Shape}
use Rattle.node_rope.specs.declared.cells.Link.{Link}
use Rattle.node_rope.specs.declared.cells.Own.{Own}
use Rattle.node_rope.specs.Made.{IsMade, KeepsMade, made_count, shapes_of}
use Rattle.node_rope.specs.Shapes.{HasRightLinks, IsTree, shape_at, link_number, tree_of, weight_at, weigh, least_at, nodes_in_order}
use Rattle.node_rope.specs.Walk.{Tree, count_of, tree_walk, all_nodes}
use Rattle.node_rope.specs.Sums.{lesser, sum_of}
use Rattle.node_rope.specs.Shapes.{leasts}
use Rattle.node_rope.specs.Reweighed.{summed_node, IsOff, AreOff, IsStill, AreStill, AreReweighed, SameOwns, IsSoundBut}
use Rattle.node_rope.proofs.WalkLemmas.{some-same, below-left, below-right, length-whole}
use Rattle.node_rope.proofs.ShapeLemmas.{weight-sum, least-sum}
use Rattle.node_rope.proofs.RaiseLemmas.{written, unwritten}
use Rattle.node_rope.proofs.ClimbLemmas.{weight-is}
use Rattle.node_rope.proofs.LightLemmas.{bounded}
use Rattle.fugue_ids.proofs.OptionLemmas.{cases_number}

pub still : (h : Shape) → IsStill h h
still h = record { left = refl; right = refl; parent = refl; key = refl; count = refl }

pub still-trans : (ss us ws : List Shape) → AreStill ss us → AreStill us ws → AreStill ss ws
still-trans ss us ws f g i = let a = f i in let b =
    g i in record { left = b.left ∙ a.left; right = b.right ∙ a.right; parent = b.parent ∙ a.parent; key = b.key ∙ a.key; count = b.count ∙ a.count }

pub placed : (ss us : List Shape) → AreStill ss us → AreReweighed ss us
placed ss us f i = let a = f i in record { left = a.left; right = a.right; parent = a.parent; count = a.count }

-- the same tree, with other weights and ranks
pub tree-along : {T : Type 0} {W R W' R' : Type 0} (s u : Store T) (root : Option Link) → AreReweighed (shapes_of s) (shapes_of u) → made_count u ≡ made_count s → KeepsMade s u
    → IsTree s root W R → W' → R' → IsTree u root W' R'
tree-along s u root same count kept r weighed ranked = record {
  counted = λ x. omega (arith, r.counted x, (same x).count, lefts x, rights x);
  weighed = weighed;
  ranked = ranked;
  linked = record {
    from_left = λ x m e. ap link_number (same m).parent ∙ r.linked.from_left x m (sym (ap link_number (same x).left) ∙ e);
    from_right = λ x m e. ap link_number (same m).parent ∙ r.linked.from_right x m (sym (ap link_number (same x).right) ∙ e);
    apart = λ x m e f. r.linked.apart x m (sym (ap link_number (same x).left) ∙ e) (sym (ap link_number (same x).right) ∙ f);
  };
  top = λ i h e. r.top i (omega (arith, h, count)) (sym (same i).parent ∙ e);
  crown = λ i e. (same i).parent ∙ r.crown i e;
  below = λ i p e. elim (r.below i p (sym (ap link_number (same i).parent) ∙ e)) as
      (λ _. (link_number (shape_at (shapes_of u) p).left ≡ Some i) ⊎ (link_number (shape_at (shapes_of u) p).right ≡ Some i)) [
        | inl f ↦ inl (ap link_number (same p).left ∙ f)
        | inr f ↦ inr (ap link_number (same p).right ∙ f)
      ];
  made_left = λ i m e. kept m (r.made_left i m (sym (same i).left ∙ e));
  made_right = λ i m e. kept m (r.made_right i m (sym (same i).right ∙ e));
  made_parent = λ i m e. kept m (r.made_parent i m (sym (same i).parent ∙ e));
  made_root = λ m e. kept m (r.made_root m e);
  small = λ i. omega (arith, (same i).count, r.small i, count);
} where
  counts : (o : Option ℕ) → count_of (tree_of (shapes_of u)) o ≡ count_of (tree_of (shapes_of s)) o
  counts None = refl
  counts (Some x) = (same x).count

  lefts : (x : ℕ) → count_of (tree_of (shapes_of u)) (link_number (shape_at (shapes_of u) x).left) ≡ count_of (tree_of (shapes_of s)) (link_number (shape_at (shapes_of s) x).left)
  lefts x = counts (link_number (shape_at (shapes_of u) x).left) ∙ ap (λ o. count_of (tree_of (shapes_of s)) (link_number o)) (same x).left

  rights : (x : ℕ) → count_of (tree_of (shapes_of u)) (link_number (shape_at (shapes_of u) x).right) ≡ count_of (tree_of (shapes_of s))
      (link_number (shape_at (shapes_of s) x).right)
  rights x = counts (link_number (shape_at (shapes_of u) x).right) ∙ ap (λ o. count_of (tree_of (shapes_of s)) (link_number o)) (same x).right

pub but-none : {T : Type 0} (s : Store T) (root : Option Link) → IsSoundBut s root None → HasRightLinks s root
but-none s root b = tree-along s s root (λ i. record { left = refl; right = refl; parent = refl; count = refl }) refl (λ l m. m) b.tree
    (λ x. omega (arith, b.tree.weighed x (λ e. no x e), weight-sum (shapes_of s) (shape_at (shapes_of s) x).left, weight-sum (shapes_of s) (shape_at (shapes_of s) x).right))
    (λ x. b.tree.ranked x (λ e. no x e)
    ∙ (λ j. min (least-sum (shapes_of s) (shape_at (shapes_of s) x).left j)
    (min (shape_at (shapes_of s) x).own.rank (least-sum (shapes_of s) (shape_at (shapes_of s) x).right j))))
  where
    no : (x : ℕ) → None ≡ Some x → ⊥
    no x e = cc

pub heavy : (ss : List Shape) → ((i : ℕ) → (shape_at ss i).weight ≤ 4194304 * (shape_at ss i).count) → (o : Option Link)
    → weight_at ss o ≤ 4194304 * count_of (tree_of ss) (link_number o)
heavy ss b None = omega arith
heavy ss b (Some l) = b l.number

pub sound-bound : {T : Type 0} (s : Store T) (root : Option Link) → HasRightLinks s root → ((i : ℕ) → (shape_at (shapes_of s) i).own.weight < 4194305) → (i : ℕ)
    → (shape_at (shapes_of s) i).weight ≤ 4194304 * (shape_at (shapes_of s) i).count
sound-bound s root r light i =
    let b = bounded (shapes_of s) light (all_nodes (tree_of (shapes_of s)) (Some i)) in
    let l : length (all_nodes (tree_of (shapes_of s)) (Some i)) ≡ (shape_at (shapes_of s) i).count = length-whole (tree_of (shapes_of s)) r.counted (Some i) in
    let w : (shape_at (shapes_of s) i).weight ≡ weigh (shapes_of s) (all_nodes (tree_of (shapes_of s)) (Some i)) = weight-is (shapes_of s) r.counted r.weighed (Some i) in
    omega (arith, b, l, w)

-- the weights at other nodes, where one is written
weight-other : (ss us : List Shape) (x : ℕ) → ((i : ℕ) → i ≢ x → (shape_at us i).weight ≡ (shape_at ss i).weight) → (o : Option Link) → (link_number o ≡ Some x → ⊥)
    → weight_at us o ≡ weight_at ss o
weight-other ss us x h None ne = refl
weight-other ss us x h (Some l) ne = h l.number (λ e. ne (ap Some e))

module _ {T : Type 0} (s u : Store T) (root : Option Link) (l : Link) (b : IsSoundBut s root (Some l)) (count : made_count u ≡ made_count s) (kept : KeepsMade s u)
    (is : shapes_of u ≡ slice_set (shapes_of s) l.number (summed_node (shapes_of s) (shape_at (shapes_of s) l.number))) where
  abbrev x : ℕ
  x = l.number

  abbrev ss : List Shape
  ss = shapes_of s

  abbrev sum : ℕ
  sum = weight_at ss (shape_at ss x).left + ((shape_at ss x).own.weight + weight_at ss (shape_at ss x).right)

  abbrev us : List Shape
  us = shapes_of u

  here : shape_at us x ≡ summed_node ss (shape_at ss x)
  here = written s u l (summed_node ss (shape_at ss x)) (b.here l refl) is

  elsewhere : (i : ℕ) → i ≢ x → shape_at us i ≡ shape_at ss i
  elsewhere = unwritten s u l (summed_node ss (shape_at ss x)) (b.here l refl) is

  step-still : AreStill ss us
  step-still i = elim (cases_number i x) as (λ _. IsStill (shape_at ss i) (shape_at us i)) [
    | inl e ↦ subst (λ (j : ℕ). IsStill (shape_at ss j) (shape_at us j)) (sym e)
        (subst (λ h. IsStill (shape_at ss x) h) (sym here) (record { left = refl; right = refl; parent = refl; key = refl; count = refl }))
    | inr e ↦ subst (λ h. IsStill (shape_at ss i) h) (sym (elsewhere i e)) (still (shape_at ss i))
  ]

  step-owns : SameOwns ss us
  step-owns i = elim (cases_number i x) as (λ _. (shape_at us i).own ≡ (shape_at ss i).own) [
    | inl e ↦ ap (λ (j : ℕ). (shape_at us j).own) e ∙ ap (λ (h : Shape). h.own) here ∙ ap (λ (j : ℕ). (shape_at ss j).own) (sym e)
    | inr e ↦ ap (λ (h : Shape). h.own) (elsewhere i e)
  ]

  other-least : (o : Option Link) → (link_number o ≡ Some x → ⊥) → least_at us o ≡ least_at ss o
  other-least None h = refl
  other-least (Some k) h = ap (λ (g : Shape). g.least) (elsewhere k.number (λ e. h (ap Some e)))

  other : (o : Option Link) → (link_number o ≡ Some x → ⊥) → weight_at us o ≡ weight_at ss o
  other = weight-other ss us x (λ i e. ap (λ (h : Shape). h.weight) (elsewhere i e))

  not-own-left : link_number (shape_at ss x).left ≡ Some x → ⊥
  not-own-left e = let h = below-left (tree_of ss) b.tree.counted x x e in omega (arith, h)

  not-own-right : link_number (shape_at ss x).right ≡ Some x → ⊥
  not-own-right e = let h = below-right (tree_of ss) b.tree.counted x x e in omega (arith, h)

  step-rest : (i : ℕ) → (link_number (shape_at ss x).parent ≡ Some i → ⊥)
      → (shape_at us i).weight ≡ weight_at us (shape_at us i).left + ((shape_at us i).own.weight + weight_at us (shape_at us i).right)
  step-rest i ne = elim (cases_number i x) as
      (λ _. (shape_at us i).weight ≡ weight_at us (shape_at us i).left + ((shape_at us i).own.weight + weight_at us (shape_at us i).right)) [
        | inl e ↦ subst (λ (j : ℕ). (shape_at us j).weight ≡ weight_at us (shape_at us j).left + ((shape_at us j).own.weight + weight_at us (shape_at us j).right)) (sym e)
            (omega (
              arith,
              ap (λ (h : Shape). h.weight) here,
              ap (λ (h : Shape). h.own.weight) here,
              ap (λ (h : Shape). weight_at us h.left) here,
              ap (λ (h : Shape). weight_at us h.right) here,
              other (shape_at ss x).left not-own-left,
              other (shape_at ss x).right not-own-right,
            ))
        | inr e ↦ (
            let w = ap (λ (h : Shape). h.weight) (elsewhere i e) in
            let o = ap (λ (h : Shape). h.own.weight) (elsewhere i e) in
            let l' = ap (λ (h : Shape). weight_at us h.left) (elsewhere i e) in
            let r' = ap (λ (h : Shape). weight_at us h.right) (elsewhere i e) in
            let a = other (shape_at ss i).left (λ f. ne (b.tree.linked.from_left i x f)) in
            let c = other (shape_at ss i).right (λ f. ne (b.tree.linked.from_right i x f)) in
            let old = b.tree.weighed i (λ f. e (sym (some-same x i f))) in
            omega (arith, w, o, l', r', a, c, old))
      ]

  abbrev IsLow : ℕ → Type 0
  IsLow i = (shape_at us i).least ≡ min (least_at us (shape_at us i).left) (min (shape_at us i).own.rank (least_at us (shape_at us i).right))

  low-here : IsLow x
  low-here =
      let left : least_at ss (shape_at ss x).left ≡ least_at us (shape_at us x).left =
      sym (ap (λ (h : Shape). least_at us h.left) here ∙ other-least (shape_at ss x).left not-own-left) in
      let right : least_at ss (shape_at ss x).right ≡ least_at us (shape_at us x).right =
      sym (ap (λ (h : Shape). least_at us h.right) here ∙ other-least (shape_at ss x).right not-own-right) in
      ap (λ (h : Shape). h.least) here ∙ (λ j. min (left j) (min (sym (ap (λ (h : Shape). h.own.rank) here) j) (right j)))

  low-other : (i : ℕ) → i ≢ x → (link_number (shape_at ss x).parent ≡ Some i → ⊥) → IsLow i
  low-other i e ne =
      let left : least_at ss (shape_at ss i).left ≡ least_at us (shape_at us i).left =
      sym (ap (λ (h : Shape). least_at us h.left) (elsewhere i e) ∙ other-least (shape_at ss i).left (λ f. ne (b.tree.linked.from_left i x f))) in
      let right : least_at ss (shape_at ss i).right ≡ least_at us (shape_at us i).right =
      sym (ap (λ (h : Shape). least_at us h.right) (elsewhere i e) ∙ other-least (shape_at ss i).right (λ f. ne (b.tree.linked.from_right i x f))) in
      ap (λ (h : Shape). h.least) (elsewhere i e) ∙ b.tree.ranked i (λ f. e (sym (some-same x i f)))
      ∙ (λ j. min (left j) (min (sym (ap (λ (h : Shape). h.own.rank) (elsewhere i e)) j) (right j)))

  step-low : (i : ℕ) → (link_number (shape_at ss x).parent ≡ Some i → ⊥) → IsLow i
  step-low i ne = elim (cases_number i x) as (λ _. IsLow i) [ inl e ↦ subst IsLow (sym e) low-here | inr e ↦ low-other i e ne ]

  fits : sum ≤ 4194304 * (shape_at ss x).count
  fits = omega (arith, heavy ss b.bound (shape_at ss x).left, heavy ss b.bound (shape_at ss x).right, b.light x, b.tree.counted x)

  step-but : IsSoundBut u root (shape_at ss x).parent
  step-but = record {
    tree = tree-along s u root (placed ss us step-still) count kept b.tree step-rest step-low;
    light = λ i. omega (arith, b.light i, ap (λ o. o.weight) (step-owns i));
    bound = λ i. elim (cases_number i x) as (λ _. (shape_at us i).weight ≤ 4194304 * (shape_at us i).count) [
      | inl e ↦ subst (λ (j : ℕ). (shape_at us j).weight ≤ 4194304 * (shape_at us j).count) (sym e)
          (omega (arith, fits, ap (λ (h : Shape). h.weight) here, ap (λ (h : Shape). h.count) here))
      | inr e ↦ omega (arith, b.bound i, ap (λ (h : Shape). h.weight) (elsewhere i e), ap (λ (h : Shape). h.count) (elsewhere i e))
    ];
    few = omega (arith, b.few, count);
    here = λ m e. kept m (b.tree.made_parent x m e);
  }

-- the sum fits
pub but-fits : {T : Type 0} (s : Store T) (root : Option Link) (l : Link) → IsSoundBut s root (Some l)
    → weight_at (shapes_of s) (shape_at (shapes_of s) l.number).left
    + ((shape_at (shapes_of s) l.number).own.weight + weight_at (shapes_of s) (shape_at (shapes_of s) l.number).right) < 18446744073709551616
but-fits s root l b =
    let ss = shapes_of s in
    omega (
      arith,
      heavy ss b.bound (shape_at ss l.number).left,
      heavy ss b.bound (shape_at ss l.number).right,
      b.light l.number,
      b.tree.counted l.number,
      b.tree.small l.number,
      b.few,
    )

-- the measure of the climb
abbrev pub left_to_sum : ℕ → List Shape → Option Link → ℕ
left_to_sum n hs None = 0
left_to_sum n hs (Some l) = suc (suc n - (shape_at hs l.number).count)

sums-nearer : {T : Type 0} (s u : Store T) (root : Option Link) (l : Link) (n : ℕ) → IsSoundBut s root (Some l) → AreStill (shapes_of s) (shapes_of u) → n ≡ made_count s
    → (o : Option Link) → (shape_at (shapes_of s) l.number).parent ≡ o → left_to_sum n (shapes_of u) o < left_to_sum n (shapes_of s) (Some l)
sums-nearer s u root l n b same e None f = omega arith
sums-nearer s u root l n b same e (Some p) f =
    let up : (shape_at (shapes_of s) l.number).count < (shape_at (shapes_of s) p.number).count =
    elim (b.tree.below l.number p.number (ap link_number f)) as (λ _. (shape_at (shapes_of s) l.number).count < (shape_at (shapes_of s) p.number).count) [
      | inl h ↦ below-left (tree_of (shapes_of s)) b.tree.counted p.number l.number h
      | inr h ↦ below-right (tree_of (shapes_of s)) b.tree.counted p.number l.number h
    ] in
    omega (arith, up, (same p.number).count, b.tree.small p.number, e)

-- one step of the loop: q is the next node
pub record IsSummedOnce {T : Type 0} (s u : Store T) (root o q : Option Link) : Type 0 where
  pub but : IsSoundBut u root q
  pub still : AreStill (shapes_of s) (shapes_of u)
  pub owns : SameOwns (shapes_of s) (shapes_of u)
  pub smaller : left_to_sum (made_count u) (shapes_of u) q < left_to_sum (made_count s) (shapes_of s) o

pub summed-step : {T : Type 0} (s u : Store T) (root o : Option Link) (l : Link) → o ≡ Some l → IsSoundBut s root o → (h g : Shape) → h ≡ shape_at (shapes_of s) l.number
    → g ≡ summed_node (shapes_of s) h → made_count u ≡ made_count s → KeepsMade s u
    → shapes_of u ≡ slice_set (shapes_of s) l.number g → IsSummedOnce s u root o h.parent
summed-step s u root o l is_l but h g read sums count kept is =
    subst (λ o. IsSummedOnce s u root o h.parent) (sym is_l) (subst (λ (k : Shape). IsSummedOnce s u root (Some l) k.parent) (sym read) once) where
      b : IsSoundBut s root (Some l)
      b = subst (IsSoundBut s root) is_l but

      writes : shapes_of u ≡ slice_set (shapes_of s) l.number (summed_node (shapes_of s) (shape_at (shapes_of s) l.number))
      writes = is ∙ ap (slice_set (shapes_of s) l.number) (sums ∙ ap (summed_node (shapes_of s)) read)

      same : AreStill (shapes_of s) (shapes_of u)
      same = step-still s u root l b count kept writes

      once : IsSummedOnce s u root (Some l) (shape_at (shapes_of s) l.number).parent
      once = record {
        but = step-but s u root l b count kept writes;
        still = same;
        owns = step-owns s u root l b count kept writes;
        smaller = subst (λ (n : ℕ). left_to_sum (made_count u) (shapes_of u) (shape_at (shapes_of s) l.number).parent < left_to_sum n (shapes_of s) (Some l)) count
            (sums-nearer s u root l (made_count u) b same count (shape_at (shapes_of s) l.number).parent refl);
      }

walk-same : (t u : Tree) → ((x : ℕ) → u.left x ≡ t.left x) → ((x : ℕ) → u.right x ≡ t.right x) → (f : ℕ) (o : Option ℕ) → tree_walk u f o ≡ tree_walk t f o
walk-same t u l r f None = refl
walk-same t u l r zero (Some x) = refl
walk-same t u l r (suc f) (Some x) =
    ap (λ xs. xs ++ x ∷ tree_walk u f (u.right x)) (ap (tree_walk u f) (l x) ∙ walk-same t u l r f (t.left x))
    ∙ ap (λ xs. tree_walk t f (t.left x) ++ x ∷ xs) (ap (tree_walk u f) (r x) ∙ walk-same t u l r f (t.right x))

pub order-still : {T : Type 0} (s u : Store T) (root : Option Link) → AreReweighed (shapes_of s) (shapes_of u) → nodes_in_order u root ≡ nodes_in_order s root
order-still s u root same = by (link_number root) where
  by : (o : Option ℕ) → all_nodes (tree_of (shapes_of u)) o ≡ all_nodes (tree_of (shapes_of s)) o
  by None = refl
  by (Some x) = ap (λ f. tree_walk (tree_of (shapes_of u)) f (Some x)) (same x).count
      ∙ walk-same (tree_of (shapes_of s)) (tree_of (shapes_of u)) (λ i. ap link_number (same i).left) (λ i. ap link_number (same i).right) (shape_at (shapes_of s) x).count (Some x)

link-same : (l m : Link) → Some l ≡ Some m → l ≡ m
link-same l m e = cc

-- ---- a new weight of one node's own value
module _ {T : Type 0} (s u : Store T) (root : Option Link) (at : Link) (w : Own) (sound : HasRightLinks s root) (made : IsMade s at) (count : made_count u ≡ made_count s)
    (kept : KeepsMade s u)
    (h : Shape) (read : h ≡ shape_at (shapes_of s) at.number) (is : shapes_of u ≡ slice_set (shapes_of s) at.number (record h { own = w })) where
  writes : shapes_of u ≡ slice_set (shapes_of s) at.number (record (shape_at (shapes_of s) at.number) { own = w })
  writes = is ∙ ap (λ (g : Shape). slice_set (shapes_of s) at.number (record g { own = w })) read

  own-there : shape_at (shapes_of u) at.number ≡ record (shape_at (shapes_of s) at.number) { own = w }
  own-there = written s u at (record (shape_at (shapes_of s) at.number) { own = w }) made writes

  own-elsewhere : (i : ℕ) → i ≢ at.number → shape_at (shapes_of u) i ≡ shape_at (shapes_of s) i
  own-elsewhere = unwritten s u at (record (shape_at (shapes_of s) at.number) { own = w }) made writes

  pub own-still : AreStill (shapes_of s) (shapes_of u)
  own-still i = elim (cases_number i at.number) as (λ _. IsStill (shape_at (shapes_of s) i) (shape_at (shapes_of u) i)) [
    | inl e ↦ subst (λ (j : ℕ). IsStill (shape_at (shapes_of s) j) (shape_at (shapes_of u) j)) (sym e)
        (subst (λ h. IsStill (shape_at (shapes_of s) at.number) h) (sym own-there) (record { left = refl; right = refl; parent = refl; key = refl; count = refl }))
    | inr e ↦ subst (λ h. IsStill (shape_at (shapes_of s) i) h) (sym (own-elsewhere i e)) (still (shape_at (shapes_of s) i))
  ]

  own-weight : (i : ℕ) → (shape_at (shapes_of u) i).weight ≡ (shape_at (shapes_of s) i).weight
  own-weight i = elim (cases_number i at.number) as (λ _. (shape_at (shapes_of u) i).weight ≡ (shape_at (shapes_of s) i).weight) [
    | inl e ↦ ap (λ (j : ℕ). (shape_at (shapes_of u) j).weight) e ∙ ap (λ (h : Shape). h.weight) own-there ∙ ap (λ (j : ℕ). (shape_at (shapes_of s) j).weight) (sym e)
    | inr e ↦ ap (λ (h : Shape). h.weight) (own-elsewhere i e)
  ]

  own-weight-at : (o : Option Link) → weight_at (shapes_of u) o ≡ weight_at (shapes_of s) o
  own-weight-at None = refl
  own-weight-at (Some l) = own-weight l.number

  own-least : (i : ℕ) → (shape_at (shapes_of u) i).least ≡ (shape_at (shapes_of s) i).least
  own-least i = elim (cases_number i at.number) as (λ _. (shape_at (shapes_of u) i).least ≡ (shape_at (shapes_of s) i).least) [
    | inl e ↦ ap (λ (j : ℕ). (shape_at (shapes_of u) j).least) e ∙ ap (λ (h : Shape). h.least) own-there ∙ ap (λ (j : ℕ). (shape_at (shapes_of s) j).least) (sym e)
    | inr e ↦ ap (λ (h : Shape). h.least) (own-elsewhere i e)
  ]

  own-least-at : (o : Option Link) → least_at (shapes_of u) o ≡ least_at (shapes_of s) o
  own-least-at None = refl
  own-least-at (Some l) = own-least l.number

  own-low : (i : ℕ) → i ≢ at.number → (shape_at (shapes_of u) i).least ≡ min (least_at (shapes_of u) (shape_at (shapes_of u) i).left)
      (min (shape_at (shapes_of u) i).own.rank (least_at (shapes_of u) (shape_at (shapes_of u) i).right))
  own-low i ne =
      let e = own-elsewhere i ne in
      let left : sum_of lesser (leasts (shapes_of s)) (link_number (shape_at (shapes_of s) i).left) ≡ least_at (shapes_of u) (shape_at (shapes_of u) i).left =
      sym (ap (λ (h : Shape). least_at (shapes_of u) h.left) e ∙ own-least-at (shape_at (shapes_of s) i).left ∙ least-sum (shapes_of s) (shape_at (shapes_of s) i).left) in
      let right : sum_of lesser (leasts (shapes_of s)) (link_number (shape_at (shapes_of s) i).right) ≡ least_at (shapes_of u) (shape_at (shapes_of u) i).right =
      sym (ap (λ (h : Shape). least_at (shapes_of u) h.right) e ∙ own-least-at (shape_at (shapes_of s) i).right ∙ least-sum (shapes_of s) (shape_at (shapes_of s) i).right) in
      own-least i ∙ sound.ranked i ∙ (λ j. min (left j) (min (sym (ap (λ (h : Shape). h.own.rank) e) j) (right j)))

  pub own-here : (shape_at (shapes_of u) at.number).own ≡ w
  own-here = ap (λ (h : Shape). h.own) own-there

  pub own-others : (i : ℕ) → i ≢ at.number → (shape_at (shapes_of u) i).own ≡ (shape_at (shapes_of s) i).own
  own-others i e = ap (λ (h : Shape). h.own) (own-elsewhere i e)

  -- with the rank as it was, the weights are off by the difference
  pub own-off : h.own.rank ≡ w.rank → AreOff (shapes_of u) h.own.weight w.weight (Some at)
  own-off same m is = subst (λ (k : Link). IsOff (shapes_of u) h.own.weight w.weight k) (link-same at m is) off where
    off : IsOff (shapes_of u) h.own.weight w.weight at
    off =
        let x = at.number in
        let e = own-there in
        let left : sum_of lesser (leasts (shapes_of s)) (link_number (shape_at (shapes_of s) x).left) ≡ least_at (shapes_of u) (shape_at (shapes_of u) x).left =
        sym (ap (λ (h : Shape). least_at (shapes_of u) h.left) e ∙ own-least-at (shape_at (shapes_of s) x).left ∙ least-sum (shapes_of s) (shape_at (shapes_of s) x).left) in
        let right : sum_of lesser (leasts (shapes_of s)) (link_number (shape_at (shapes_of s) x).right) ≡ least_at (shapes_of u) (shape_at (shapes_of u) x).right =
        sym (ap (λ (h : Shape). least_at (shapes_of u) h.right) e ∙ own-least-at (shape_at (shapes_of s) x).right ∙ least-sum (shapes_of s) (shape_at (shapes_of s) x).right) in
        let rank : (shape_at (shapes_of s) x).own.rank ≡ (shape_at (shapes_of u) x).own.rank =
        ap (λ (g : Shape). g.own.rank) (sym read) ∙ same ∙ sym (ap (λ (o : Own). o.rank) own-here) in
        record {
          weight = omega (
            arith,
            own-weight x,
            sound.weighed x,
            weight-sum (shapes_of s) (shape_at (shapes_of s) x).left,
            weight-sum (shapes_of s) (shape_at (shapes_of s) x).right,
            own-weight-at (shape_at (shapes_of s) x).left,
            own-weight-at (shape_at (shapes_of s) x).right,
            ap (λ (h : Shape). weight_at (shapes_of u) h.left) e,
            ap (λ (h : Shape). weight_at (shapes_of u) h.right) e,
            ap (λ (o : Own). o.weight) own-here,
            ap (λ (g : Shape). g.own.weight) read,
          );
          least = own-least x ∙ sound.ranked x ∙ (λ j. min (left j) (min (rank j) (right j)));
        }

  pub own-but : made_count s < 4194305 → ((i : ℕ) → (shape_at (shapes_of s) i).own.weight < 4194305) → w.weight < 4194305 → IsSoundBut u root (Some at)
  own-but few light lt = record {
    tree = tree-along s u root (placed (shapes_of s) (shapes_of u) own-still) count kept sound
        (λ i ne. (
        let e = own-elsewhere i (λ f. ne (ap Some (sym f))) in
        let a = own-weight-at (shape_at (shapes_of s) i).left in
        let b = own-weight-at (shape_at (shapes_of s) i).right in
        omega (
          arith,
          sound.weighed i,
          weight-sum (shapes_of s) (shape_at (shapes_of s) i).left,
          weight-sum (shapes_of s) (shape_at (shapes_of s) i).right,
          a,
          b,
          ap (λ (h : Shape). h.weight) e,
          ap (λ (h : Shape). h.own.weight) e,
          ap (λ (h : Shape). weight_at (shapes_of u) h.left) e,
          ap (λ (h : Shape). weight_at (shapes_of u) h.right) e,
        )))
        (λ i ne. own-low i (λ f. ne (ap Some (sym f))));
    light = λ i. elim (cases_number i at.number) as (λ _. (shape_at (shapes_of u) i).own.weight < 4194305) [
      | inl e ↦ omega (arith, lt, ap (λ o. o.weight) own-here, ap (λ (j : ℕ). (shape_at (shapes_of u) j).own.weight) e)
      | inr e ↦ omega (arith, light i, ap (λ o. o.weight) (own-others i e))
    ];
    bound = λ i. omega (arith, own-weight i, sound-bound s root sound light i, (own-still i).count);
    few = omega (arith, few, count);
    here = λ m e. let same : at ≡ m = cc in subst (λ (k : Link). IsMade u k) same (kept at made);
  }
