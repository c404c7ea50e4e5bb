-- A store's tree is sound again after a rotation, and its order is the same.
use Rattle.std.proofs.Common.{◌≡◌, ℕ, suc, ◌+◌, ◌-◌, min, ◌<◌, ◌≤◌, ◌≢◌, ◌⊎◌, inl, inr, List, length, Option, None, Some, refl, sym, ap, ◌∙◌, subst, arith}
use Rattle.node_rope.specs.declared.store.Store.{Store}
use Rattle.node_rope.specs.declared.turn.Side.TheVariants.{Left}
use Rattle.node_rope.specs.declared.cells.Shape.{Shape}
use Rattle.node_rope.specs.declared.cells.Link.{Link}
use Rattle.node_rope.specs.Made.{IsMade, KeepsMade, made_count, shapes_of}
use Rattle.node_rope.specs.Shapes.{HasRightLinks, AreMade, shape_at, link_number, tree_of, weights, owns, leasts, ranks, nodes_in_order, weight_at, least_at, IsWeighed, IsRanked}
use Rattle.node_rope.specs.Walk.{Tree, count_of, all_nodes, HasCounts, IsLinked, IsTurned, replaced_child}
use Rattle.node_rope.specs.Sums.{sum_measure, lesser, sum_of}
use Rattle.node_rope.specs.Turned.{with_swapped_child, with_child, lifted_shapes, SameItems}
use Rattle.node_rope.proofs.WalkLemmas.{none-some, rotated-walk}
use Rattle.node_rope.proofs.TurnLemmas.{turned-counted, turned-linked, turned-sums, turned-below, turned-top, turned-crown}
use Rattle.node_rope.proofs.ShapeLemmas.{length-shapes, made-below, weight-sum, least-sum}
use Rattle.node_rope.proofs.JoinLemmas.{some-or-not, adding-commutes, lesser-commutes}
use Rattle.node_rope.proofs.GrowthLemmas.{are-within, unnumbered}
use Rattle.node_rope.proofs.LiftLemmas.{relinked-from}
use Rattle.node_rope.proofs.LiftedLemmas as lifts
use Rattle.fugue_ids.proofs.OptionLemmas.{cases_number}

-- c stands above p in the place of p, and the order is the same
pub record IsLifted {T : Type 0} (s v : Store T) (root root' : Option Link) (p c : Link) : Type 0 where
  pub sound : HasRightLinks v root'
  pub same_order : nodes_in_order v root' ≡ nodes_in_order s root
  pub items : SameItems (shapes_of s) (shapes_of v)
  pub taller : (shape_at (shapes_of v) c.number).count ≡ (shape_at (shapes_of s) p.number).count
  pub lower : (shape_at (shapes_of v) p.number).count < (shape_at (shapes_of s) p.number).count
  pub above : (shape_at (shapes_of v) c.number).parent ≡ (shape_at (shapes_of s) p.number).parent

module _ {T : Type 0} (s v : Store T) (root root' : Option Link) (p c : Link) (sound : HasRightLinks s root) (made_p : IsMade s p) (made_c : IsMade s c)
    (was : link_number (shape_at (shapes_of s) p.number).left ≡ Some c.number)
    (is : shapes_of v ≡ with_child (lifted_shapes Left (shapes_of s) p c (shape_at (shapes_of s) p.number) (shape_at (shapes_of s) c.number))
    (shape_at (shapes_of s) p.number).parent p.number c)
    (kept : KeepsMade s v) (count : made_count v ≡ made_count s) (moves : link_number root' ≡ replaced_child p.number c.number (link_number root))
    (made_root' : AreMade v root') where
  abbrev ss : List Shape
  ss = shapes_of s

  abbrev vs : List Shape
  vs = with_child (lifted_shapes Left ss p c (shape_at ss p.number) (shape_at ss c.number)) (shape_at ss p.number).parent p.number c

  abbrev t : Tree
  t = tree_of ss

  abbrev u : Tree
  u = tree_of vs

  in_p : p.number < length ss
  in_p = let h = made-below s p made_p in omega (arith, h, length-shapes s)

  in_c : c.number < length ss
  in_c = let h = made-below s c made_c in omega (arith, h, length-shapes s)

  in_middle : (m : ℕ) → link_number (shape_at ss c.number).right ≡ Some m → m < length ss
  in_middle m e = (are-within s root sound).rights c.number m e

  in_top : (g : ℕ) → link_number (shape_at ss p.number).parent ≡ Some g → g < length ss
  in_top g e = (are-within s root sound).parents p.number g e

  over : (g : ℕ) → link_number (shape_at ss p.number).parent ≡ Some g → (link_number (shape_at ss g).left ≡ Some p.number) ⊎ (link_number (shape_at ss g).right ≡ Some p.number)
  over g e = sound.below p.number g e

  n : IsTurned t u p.number c.number
  n = lifts.turned ss p c sound.counted sound.linked was in_p in_c in_middle in_top over

  pub turned_p : shape_at vs p.number ≡ record (shape_at ss p.number) {
    left = (shape_at ss c.number).right;
    parent = Some c;
    count = ((shape_at ss p.number).count - (shape_at ss c.number).count) + count_of t (link_number (shape_at ss c.number).right);
    weight =
        ((shape_at ss p.number).weight - (shape_at ss c.number).weight) + weight_at ss (shape_at ss c.number).right;
    least =
        min (least_at ss (shape_at ss c.number).right) (min (shape_at ss p.number).own.rank (least_at ss (shape_at ss p.number).right));
  }
  turned_p = lifts.all_p ss p c sound.counted sound.linked was in_p in_c in_middle in_top over

  pub turned_c : shape_at vs c.number ≡ record (shape_at ss c.number)
      { right = Some p; parent = (shape_at ss p.number).parent; count = (shape_at ss p.number).count; weight = (shape_at ss p.number).weight; least = (shape_at ss p.number).least }
  turned_c = lifts.all_c ss p c sound.counted sound.linked was in_p in_c in_middle in_top over

  rest : {X : Type 0} (f : Shape → X) → ((h : Shape) (q : Option Link) → f (record h { left = q }) ≡ f h) → ((h : Shape) (q : Option Link) → f (record h { right = q }) ≡ f h)
      → ((h : Shape) (q : Option Link) → f (record h { parent = q }) ≡ f h)
      → (i : ℕ) → i ≢ p.number → i ≢ c.number → f (shape_at vs i) ≡ f (shape_at ss i)
  rest = lifts.untouched ss p c sound.counted sound.linked was in_p in_c in_middle in_top over

  every : {X : Type 0} (f : Shape → X) → f (shape_at vs p.number) ≡ f (shape_at ss p.number) → f (shape_at vs c.number) ≡ f (shape_at ss c.number)
      → ((i : ℕ) → i ≢ p.number → i ≢ c.number → f (shape_at vs i) ≡ f (shape_at ss i)) → (i : ℕ) → f (shape_at vs i) ≡ f (shape_at ss i)
  every f at_p at_c others i = elim (cases_number i p.number) as (λ _. f (shape_at vs i) ≡ f (shape_at ss i)) [
    | inl e ↦ ap (λ (k : ℕ). f (shape_at vs k)) e ∙ at_p ∙ ap (λ (k : ℕ). f (shape_at ss k)) (sym e)
    | inr e ↦ elim (cases_number i c.number) as (λ _. f (shape_at vs i) ≡ f (shape_at ss i)) [
      | inl g ↦ ap (λ (k : ℕ). f (shape_at vs k)) g ∙ at_c ∙ ap (λ (k : ℕ). f (shape_at ss k)) (sym g)
      | inr g ↦ others i e g
    ]
  ]

  pub own-kept : (i : ℕ) → (shape_at vs i).own ≡ (shape_at ss i).own
  own-kept = every (λ h. h.own) (ap (λ h. h.own) turned_p) (ap (λ h. h.own) turned_c) (rest (λ h. h.own) (λ h q. refl) (λ h q. refl) (λ h q. refl))

  pub key-kept : (i : ℕ) → (shape_at vs i).key ≡ (shape_at ss i).key
  key-kept = every (λ h. h.key) (ap (λ h. h.key) turned_p) (ap (λ h. h.key) turned_c) (rest (λ h. h.key) (λ h q. refl) (λ h q. refl) (λ h q. refl))

  counted-now : HasCounts u
  counted-now = turned-counted t u sound.counted sound.linked p.number c.number n

  linked-now : IsLinked u
  linked-now = turned-linked t u sound.counted sound.linked p.number c.number n

  weighed-now : IsWeighed vs
  weighed-now i =
      let below_right = weight-sum ss (shape_at ss c.number).right in
      let at_p : (shape_at vs p.number).weight ≡ sum_of sum_measure (weights ss)
      (t.right c.number) + ((shape_at ss p.number).own.weight + sum_of sum_measure (weights ss) (t.right p.number)) =
      omega (arith, ap (λ h. h.weight) turned_p, sound.weighed p.number, ap (sum_of sum_measure (weights ss)) was, below_right) in
      let all = (turned-sums t u sound.counted sound.linked p.number c.number n sum_measure adding-commutes.assoc (owns ss) (weights ss) (weights vs) sound.weighed
      (ap (λ h. h.weight) turned_c) at_p (rest (λ h. h.weight) (λ h q. refl) (λ h q. refl) (λ h q. refl))) in
      omega (arith, all i, ap (λ o. o.weight) (own-kept i))

  ranked-now : IsRanked vs
  ranked-now i =
      let at_p : (shape_at vs p.number).least ≡ min (sum_of lesser (leasts ss) (t.right c.number))
      (min (shape_at ss p.number).own.rank (sum_of lesser (leasts ss) (t.right p.number))) =
      ap (λ h. h.least) turned_p ∙ (λ j. min (least-sum ss (shape_at ss c.number).right j) (min (shape_at ss p.number).own.rank (least-sum ss (shape_at ss p.number).right j))) in
      let all = turned-sums t u sound.counted sound.linked p.number c.number n lesser lesser-commutes.assoc (ranks ss) (leasts ss) (leasts vs) sound.ranked
      (ap (λ h. h.least) turned_c) at_p (rest (λ h. h.least) (λ h q. refl) (λ h q. refl) (λ h q. refl)) in
      all i ∙ ap (λ r. min (sum_of lesser (leasts vs) (u.left i)) (min r (sum_of lesser (leasts vs) (u.right i)))) (sym (ap (λ o. o.rank) (own-kept i)))

  below-now : (i q : ℕ) → u.parent i ≡ Some q → (u.left q ≡ Some i) ⊎ (u.right q ≡ Some i)
  below-now = (turned-below t u sound.counted sound.linked p.number c.number n sound.below)

  -- each link of a turned tree was made
  link-is : (o : Option Link) (a m : Link) → Some a ≡ Some m → IsMade v a → IsMade v m
  link-is o a m e made = let is : a ≡ m = cc in subst (λ (k : Link). IsMade v k) is made

  link-back : (a m : Link) → Some a ≡ Some m → m ≡ a
  link-back a m e = cc

  elsewhere-made : (f : Shape → Option Link) → ((h : Shape) (m : Link) → f (with_swapped_child h p.number c) ≡ Some m → (m ≡ c) ⊎ (f h ≡ Some m))
      → ((h : Shape) (m : Link) → f (record h { parent = Some p }) ≡ Some m → (m ≡ p) ⊎ (f h ≡ Some m))
      → ((i : ℕ) → AreMade s (f (shape_at ss i))) → (i : ℕ) → i ≢ p.number → i ≢ c.number → AreMade v (f (shape_at vs i))
  elsewhere-made f w q old i ip ic m e =
      let was_made : (k : Link) → f (shape_at ss i) ≡ Some k → IsMade v k = λ k x. kept k (old i k x) in
      elim (some-or-not (link_number (shape_at ss p.number).parent) i) as (λ _. IsMade v m) [
        | inl g ↦ elim (w (shape_at ss i) m (sym (ap f (lifts.at_top ss p c sound.counted sound.linked was in_p in_c in_middle in_top over i ip ic g)) ∙ e)) as (λ _. IsMade v m) [
          | inl y ↦ subst (λ (k : Link). IsMade v k) (sym y) (kept c made_c)
          | inr y ↦ was_made m y
        ]
        | inr g ↦ elim (lifts.at_rest ss p c sound.counted sound.linked was in_p in_c in_middle in_top over i ip ic g) as (λ _. IsMade v m) [
          | inl y ↦ was_made m (sym (ap f y) ∙ e)
          | inr y ↦ elim (q (shape_at ss i) m (sym (ap f y.1) ∙ e)) as (λ _. IsMade v m) [
            | inl z ↦ subst (λ (k : Link). IsMade v k) (sym z) (kept p made_p)
            | inr z ↦ was_made m z
          ]
        ]
      ]

  made-all : (f : Shape → Option Link) → AreMade v (f (shape_at vs p.number)) → AreMade v (f (shape_at vs c.number))
      → ((i : ℕ) → i ≢ p.number → i ≢ c.number → AreMade v (f (shape_at vs i))) → (i : ℕ) → AreMade v (f (shape_at vs i))
  made-all f at_p at_c others i = elim (cases_number i p.number) as (λ _. AreMade v (f (shape_at vs i))) [
    | inl e ↦ subst (λ (k : ℕ). AreMade v (f (shape_at vs k))) (sym e) at_p
    | inr e ↦ elim (cases_number i c.number) as (λ _. AreMade v (f (shape_at vs i))) [
      | inl g ↦ subst (λ (k : ℕ). AreMade v (f (shape_at vs k))) (sym g) at_c
      | inr g ↦ others i e g
    ]
  ]

  lefts-now : (i : ℕ) → AreMade v (shape_at vs i).left
  lefts-now = made-all (λ h. h.left) (λ m e. kept m (sound.made_right c.number m (sym (ap (λ h. h.left) turned_p) ∙ e)))
      (λ m e. kept m (sound.made_left c.number m (sym (ap (λ h. h.left) turned_c) ∙ e)))
      (elsewhere-made (λ h. h.left) (λ h m e. relinked-from h.left p.number c m e) (λ h m e. inr e) sound.made_left)

  rights-now : (i : ℕ) → AreMade v (shape_at vs i).right
  rights-now = made-all (λ h. h.right) (λ m e. kept m (sound.made_right p.number m (sym (ap (λ h. h.right) turned_p) ∙ e)))
      (λ m e. link-is None p m (sym (ap (λ h. h.right) turned_c) ∙ e) (kept p made_p))
      (elsewhere-made (λ h. h.right) (λ h m e. relinked-from h.right p.number c m e) (λ h m e. inr e) sound.made_right)

  parents-now : (i : ℕ) → AreMade v (shape_at vs i).parent
  parents-now = made-all (λ h. h.parent) (λ m e. link-is None c m (sym (ap (λ h. h.parent) turned_p) ∙ e) (kept c made_c))
      (λ m e. kept m (sound.made_parent p.number m (sym (ap (λ h. h.parent) turned_c) ∙ e)))
      (elsewhere-made (λ h. h.parent) (λ h m e. inr e) (λ h m e. inl (link-back p m e)) sound.made_parent)

  small-now : (i : ℕ) → (shape_at vs i).count ≤ suc (made_count v)
  small-now i = elim (cases_number i p.number) as (λ _. (shape_at vs i).count ≤ suc (made_count v)) [
    | inl e ↦ omega (
      arith,
      ap (λ (k : ℕ). (shape_at vs k).count) e,
      ap (λ h. h.count) turned_p,
      sound.small p.number,
      count,
      sound.counted p.number,
      ap (count_of t) was,
      sound.counted c.number,
    )
    | inr e ↦ elim (cases_number i c.number) as (λ _. (shape_at vs i).count ≤ suc (made_count v)) [
      | inl g ↦ omega (arith, ap (λ (k : ℕ). (shape_at vs k).count) g, ap (λ h. h.count) turned_c, sound.small p.number, count)
      | inr g ↦ omega (arith, rest (λ h. h.count) (λ h q. refl) (λ h q. refl) (λ h q. refl) i e g, sound.small i, count)
    ]
  ]

  pub sound-turned : HasRightLinks v root'
  sound-turned = record {
    counted = subst (λ (xs : List Shape). HasCounts (tree_of xs)) (sym is) counted-now;
    weighed = subst (λ (xs : List Shape). IsWeighed xs) (sym is) weighed-now;
    ranked = subst (λ (xs : List Shape). IsRanked xs) (sym is) ranked-now;
    linked = subst (λ (xs : List Shape). IsLinked (tree_of xs)) (sym is) linked-now;
    top = λ i h f. moves ∙ turned-top t u sound.counted sound.linked p.number c.number n (λ (k : ℕ). k < made_count s) (made-below s p made_p) (link_number root)
        (λ k hk e. sound.top k hk (unnumbered (shape_at ss k).parent e)) i (omega (arith, h, count))
        (ap link_number (sym (ap (λ (xs : List Shape). (shape_at xs i).parent) is) ∙ f));
    crown = λ i f. ap (λ (xs : List Shape). (shape_at xs i).parent) is
        ∙ unnumbered (shape_at vs i).parent
        (turned-crown t u sound.counted sound.linked p.number c.number n (link_number root) (λ k e. ap link_number (sound.crown k e)) i (sym moves ∙ f));
    below = subst (λ (xs : List Shape). (i q : ℕ) → (tree_of xs).parent i ≡ Some q → ((tree_of xs).left q ≡ Some i) ⊎ ((tree_of xs).right q ≡ Some i)) (sym is) below-now;
    made_left = λ i m f. lefts-now i m (sym (ap (λ (xs : List Shape). (shape_at xs i).left) is) ∙ f);
    made_right = λ i m f. rights-now i m (sym (ap (λ (xs : List Shape). (shape_at xs i).right) is) ∙ f);
    made_parent = λ i m f. parents-now i m (sym (ap (λ (xs : List Shape). (shape_at xs i).parent) is) ∙ f);
    made_root = made_root';
    small = λ i. subst (λ (xs : List Shape). (shape_at xs i).count ≤ suc (made_count v)) (sym is) (small-now i);
  }

  root-not-c : link_number root ≡ Some c.number → ⊥
  root-not-c e = none-some p.number (sym (ap link_number (sound.crown c.number e)) ∙ sound.linked.from_left p.number c.number was)

  pub order-turned : nodes_in_order v root' ≡ nodes_in_order s root
  order-turned = ap (λ xs. all_nodes (tree_of xs) (link_number root')) is ∙ ap (all_nodes u) moves
      ∙ rotated-walk t u sound.counted counted-now sound.linked p.number c.number n.rotated (count_of t (link_number root)) (link_number root) (omega arith) root-not-c

  pub risen-left : IsLifted s v root root' p c
  risen-left = record {
    sound = sound-turned;
    same_order = order-turned;
    items = λ i. (ap (λ (xs : List Shape). (shape_at xs i).key) is ∙ key-kept i, ap (λ (xs : List Shape). (shape_at xs i).own) is ∙ own-kept i);
    taller = ap (λ (xs : List Shape). (shape_at xs c.number).count) is ∙ ap (λ h. h.count) turned_c;
    lower = omega (
      arith,
      ap (λ (xs : List Shape). (shape_at xs p.number).count) is,
      ap (λ h. h.count) turned_p,
      sound.counted p.number,
      sound.counted c.number,
      ap (count_of t) was,
    );
    above = ap (λ (xs : List Shape). (shape_at xs c.number).parent) is ∙ ap (λ h. h.parent) turned_c;
  }
