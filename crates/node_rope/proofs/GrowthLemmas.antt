-- The store's tree is sound again once the sums are raised.
use Rattle.std.proofs.Common.{◌≡◌, ℕ, suc, ◌+◌, ◌-◌, ◌^◌, ◌<◌, ◌≤◌, ◌≢◌, inl, inr, [], ◌∷◌, ◌++◌, length, flat_map, Option, None, Some, refl, sym, ap, ◌∙◌, subst, arith}
use Rattle.fugue_ids.specs.Identifiers.{Identifier}
use Rattle.node_rope.specs.declared.store.Store.{Store}
use Rattle.node_rope.specs.declared.cells.Link.{Link}
use Rattle.node_rope.specs.declared.cells.Own.{Own}
use Rattle.node_rope.specs.Made.{IsMade, KeepsMade, made_count, shapes_of, values_of}
use Rattle.node_rope.specs.Shapes.{HasRightLinks, AreMade, shape_at, link_number, tree_of, nodes_in_order, IsWeighed, IsRanked}
use Rattle.node_rope.specs.Walk.{count_of, HasCounts, with_node_before, after, mirror}
use Rattle.node_rope.specs.Joined.{IsJoined}
use Rattle.node_rope.specs.Grown.{IsGrown}
use Rattle.node_rope.specs.Rising.{IsRising, IsRaised, SameLinks, AreSmall}
use Rattle.node_rope.proofs.WalkLemmas.{some-same}
use Rattle.node_rope.proofs.MirrorLemmas.{mirror-counted, mirror-linked, mirror-below}
use Rattle.node_rope.proofs.ShapeLemmas.{length-shapes, made-below}
use Rattle.node_rope.proofs.RaiseLemmas.{linked-along, below-along}
use Rattle.node_rope.proofs.JoinLemmas.{joined-attached}
use Rattle.node_rope.proofs.JoinWriteLemmas.{AreWithin}
use Rattle.node_rope.proofs.EnterLemmas.{Came, IsEntered}
use Rattle.node_rope.proofs.AttachLemmas.{attached-walk, attached-walk-after}
use Rattle.fugue_ids.proofs.OptionLemmas.{cases_number}

pub unnumbered : (o : Option Link) → link_number o ≡ None → o ≡ None
unnumbered None e = refl
unnumbered (Some l) e = absurd (cc)

numbered : {T : Type 0} (s : Store T) (o : Option Link) (m : ℕ) → AreMade s o → link_number o ≡ Some m → m < length (shapes_of s)
numbered s None m made e = absurd (cc)
numbered s (Some l) m made e = let h = made-below s l (made l refl) in let k = some-same l.number m e in omega (arith, length-shapes s)

pub are-within : {T : Type 0} (s : Store T) (root : Option Link) → HasRightLinks s root → AreWithin (shapes_of s)
are-within s root sound = record {
  lefts = λ x m e. numbered s (shape_at (shapes_of s) x).left m (sound.made_left x) e;
  rights = λ x m e. numbered s (shape_at (shapes_of s) x).right m (sound.made_right x) e;
  parents = λ x m e. numbered s (shape_at (shapes_of s) x).parent m (sound.made_parent x) e;
}

module _ {T : Type 0} (s u : Store T) (root : Option Link) (at l : Link) (w : Own) (sound : HasRightLinks s root)
    (e : IsEntered (shape_at (shapes_of s)) (shape_at (shapes_of u)) at l w)
    (kept : KeepsMade s u) (number : l.number ≡ made_count s) (made_l : IsMade u l) (made_at : IsMade s at) (count : made_count u ≡ made_count s + 1) where
  came-made : (m : Link) → Came (shape_at (shapes_of s)) at l m → IsMade u m
  came-made m (inl f) = subst (λ (k : Link). IsMade u k) (sym f) made_l
  came-made m (inr (inl f)) = subst (λ (k : Link). IsMade u k) (sym f) (kept at made_at)
  came-made m (inr (inr (j, inl f))) = kept m (sound.made_left j m f)
  came-made m (inr (inr (j, inr (inl f)))) = kept m (sound.made_right j m f)
  came-made m (inr (inr (j, inr (inr f)))) = kept m (sound.made_parent j m f)

  pub rising : IsRising u w (Some at)
  rising = record {
    counts = e.counts;
    weighs = e.weighs;
    lowest = e.lowest;
    linked = e.linked;
    below = e.below;
    proper = e.proper;
    made_here = λ m f. let is : at ≡ m = cc in subst (λ (k : Link). IsMade u k) is (kept at made_at);
    made_parent = λ i m f. came-made m (e.parents i m f);
  }

  pub small : made_count s < 2 ^ 62 → AreSmall (shapes_of s) (w.weight + w.weight) → AreSmall (shapes_of u) w.weight
  small few b = record {
    counts = λ i. elim (cases_number i l.number) as (λ _. (shape_at (shapes_of u) i).count < 2 ^ 32 - 1) [
      | inl f ↦ omega (arith, ap (λ (k : ℕ). (shape_at (shapes_of u) k).count) f, e.new_count, b.counts at.number)
      | inr f ↦ omega (arith, e.count_same i f, b.counts i)
    ];
    weights = λ i. elim (cases_number i l.number) as (λ _. (shape_at (shapes_of u) i).weight + w.weight < 2 ^ 64) [
      | inl f ↦ omega (arith, ap (λ (k : ℕ). (shape_at (shapes_of u) k).weight) f, e.new_weight, b.weights at.number)
      | inr f ↦ omega (arith, e.weight_same i f, b.weights i)
    ];
  }

  module _ (v : Store T) (cv : HasCounts (tree_of (shapes_of v))) (wv : IsWeighed (shapes_of v)) (rv : IsRanked (shapes_of v)) (links : SameLinks (shapes_of u) (shapes_of v))
      (raised : IsRaised (shapes_of u) (shapes_of v) w None)
      (kept' : KeepsMade u v) (count' : made_count v ≡ made_count u) where
    small-count : (i : ℕ) → (shape_at (shapes_of v) i).count ≤ suc (made_count v)
    small-count i =
        let k : (shape_at (shapes_of u) i).count ≤ suc (made_count s) = elim (cases_number i l.number) as (λ _. (shape_at (shapes_of u) i).count ≤ suc (made_count s)) [
          | inl f ↦ omega (arith, ap (λ (k : ℕ). (shape_at (shapes_of u) k).count) f, e.new_count, sound.small at.number)
          | inr f ↦ omega (arith, e.count_same i f, sound.small i)
        ] in
        elim (raised.each i) as (λ _. (shape_at (shapes_of v) i).count ≤ suc (made_count v)) [
          | inl f ↦ omega (arith, ap (λ h. h.count) f, k, count, count')
          | inr f ↦ omega (arith, ap (λ h. h.count) f.0, k, count, count')
        ]

    root-old : link_number root ≡ Some l.number → ⊥
    root-old f = let h = numbered s root l.number sound.made_root f in omega (arith, h, number, length-shapes s)

    pub sound-again : HasRightLinks v root
    sound-again = record {
      counted = cv;
      weighed = wv;
      ranked = rv;
      linked = linked-along (shapes_of u) (shapes_of v) links e.linked;
      top = λ i h f. (
          let t = e.top i (ap link_number (sym (links i).parent ∙ f)) in
          let ne = t.0 in
          sound.top i (omega (arith, h, count, count', number, ne)) (unnumbered (shape_at (shapes_of s) i).parent t.1));
      crown = λ i f. (
          let ne : i ≢ l.number = λ g. root-old (f ∙ ap Some g) in
          unnumbered (shape_at (shapes_of v) i).parent (ap link_number (links i).parent ∙ e.crown i ne (ap link_number (sound.crown i f))));
      below = below-along (shapes_of u) (shapes_of v) links e.below;
      made_left = λ i m f. kept' m (came-made m (e.lefts i m (sym (links i).left ∙ f)));
      made_right = λ i m f. kept' m (came-made m (e.rights i m (sym (links i).right ∙ f)));
      made_parent = λ i m f. kept' m (came-made m (e.parents i m (sym (links i).parent ∙ f)));
      made_root = λ m f. kept' m (kept m (sound.made_root m f));
      small = small-count;
    }

    pub grown-walk-before : IsJoined (tree_of (shapes_of s)) (tree_of (shapes_of u)) at.number l.number
        → nodes_in_order v root ≡ flat_map (with_node_before at.number l.number) (nodes_in_order s root)
    grown-walk-before j = attached-walk (tree_of (shapes_of s)) (tree_of (shapes_of v)) sound.counted cv at.number l.number
        (joined-attached (tree_of (shapes_of s)) (tree_of (shapes_of u)) sound.counted sound.linked sound.below at.number l.number j (tree_of (shapes_of v))
        (λ i. ap link_number (links i).left) (λ i. ap link_number (links i).right))
        (count_of (tree_of (shapes_of s)) (link_number root)) (link_number root) (omega arith) root-old

    pub grown-walk-after : IsJoined (mirror (tree_of (shapes_of s))) (mirror (tree_of (shapes_of u))) at.number l.number
        → nodes_in_order v root ≡ flat_map (after at.number l.number) (nodes_in_order s root)
    grown-walk-after j = attached-walk-after (tree_of (shapes_of s)) (tree_of (shapes_of v)) sound.counted cv at.number l.number
        (joined-attached (mirror (tree_of (shapes_of s))) (mirror (tree_of (shapes_of u))) (mirror-counted (tree_of (shapes_of s)) sound.counted)
        (mirror-linked (tree_of (shapes_of s)) sound.linked) (mirror-below (tree_of (shapes_of s)) sound.below)
        at.number l.number j (mirror (tree_of (shapes_of v))) (λ i. ap link_number (links i).right) (λ i. ap link_number (links i).left))
        (count_of (tree_of (shapes_of s)) (link_number root)) (link_number root) (omega arith) root-old

    pub grown : (key : Identifier) (value : T) → values_of v ≡ values_of s ++ value ∷ [] → (shape_at (shapes_of u) l.number).key ≡ key → (shape_at (shapes_of u) l.number).own ≡ w
        → IsGrown s v root key w value l
    grown key value values k o = record {
      sound = sound-again;
      number = number;
      made = kept' l made_l;
      count = count' ∙ count;
      values = values;
      key_here = (links l.number).key ∙ k;
      own_here = (links l.number).own ∙ o;
      keys = λ i ne. (links i).key ∙ e.key_same i ne;
      owns = λ i ne. (links i).own ∙ e.own_same i ne;
    }
