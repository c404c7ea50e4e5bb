-- What a rope of light values can hold, and its first node.
use Rattle.std.proofs.Common.{◌≡◌, ℕ, zero, suc, ◌+◌, ◌*◌, ◌<◌, ◌≤◌, List, [], ◌∷◌, length, Option, None, Some, refl, sym, ap, ◌∙◌, subst, arith}
use Rattle.fugue_ids.specs.Identifiers.{Identifier}
use Rattle.node_rope.specs.declared.store.Store.{Store}
use Rattle.node_rope.specs.declared.cells.Shape.{Shape}
use Rattle.node_rope.specs.declared.cells.Link.{Link}
use Rattle.node_rope.specs.declared.cells.Own.{Own}
use Rattle.node_rope.specs.Made.{IsMade, made_count, shapes_of}
use Rattle.node_rope.specs.Shapes.{HasRightLinks, shape_at, link_number, tree_of, owns, leasts, weigh}
use Rattle.node_rope.specs.Walk.{all_nodes}
use Rattle.node_rope.specs.Sums.{lesser, no_rank, sum_of}
use Rattle.node_rope.specs.Rising.{AreSmall}
use Rattle.node_rope.proofs.WalkLemmas.{length-whole}
use Rattle.node_rope.proofs.ClimbLemmas.{weight-is}

pub bounded : (ss : List Shape) → ((i : ℕ) → owns ss i < 4194305) → (xs : List ℕ) → weigh ss xs ≤ 4194304 * length xs
bounded ss h [] = omega arith
bounded ss h (x ∷ xs) = omega (arith, h x, bounded ss h xs)

pub are-small : {T : Type 0} (s : Store T) (root : Option Link) → HasRightLinks s root → made_count s < 4194305 → ((i : ℕ) → (shape_at (shapes_of s) i).own.weight < 4194305)
    → (w : ℕ) → w < 4194305 → AreSmall (shapes_of s) (w + w)
are-small s root sound few light w hw = record {
  counts = λ i. omega (arith, sound.small i);
  weights = λ i. (
      let b = bounded (shapes_of s) light (all_nodes (tree_of (shapes_of s)) (Some i)) in
      omega (arith, sound.small i, b, length-whole (tree_of (shapes_of s)) sound.counted (Some i), weight-is (shapes_of s) sound.counted sound.weighed (Some i)));
}

module _ (key : Identifier) (w : Own) where
  abbrev pub only : Shape
  only = record { key = key; left = None; right = None; parent = None; count = 1; weight = w.weight; least = w.rank; own = w }

  no-left : (i : ℕ) → ((shape_at (only ∷ []) i).left ≡ None) × ((shape_at (only ∷ []) i).right ≡ None) × ((shape_at (only ∷ []) i).parent ≡ None)
      × ((shape_at (only ∷ []) i).count ≡ 1) × ((shape_at (only ∷ []) i).weight ≡ (shape_at (only ∷ []) i).own.weight)
      × ((shape_at (only ∷ []) i).least ≡ (shape_at (only ∷ []) i).own.rank)
  no-left zero = (refl, refl, refl, refl, refl, refl)
  no-left (suc i) = (refl, refl, refl, refl, refl, refl)

  only-fits : w.rank ≤ no_rank → (i : ℕ) → (shape_at (only ∷ []) i).own.rank ≤ no_rank
  only-fits fits zero = fits
  only-fits fits (suc i) = omega arith

  pub single-sound : {T : Type 0} (v : Store T) (l : Link) → shapes_of v ≡ only ∷ [] → made_count v ≡ 1 → l.number ≡ 0 → IsMade v l → w.rank ≤ no_rank → HasRightLinks v (Some l)
  single-sound v l is count number made fits =
      let part : (i : ℕ) → ((shape_at (shapes_of v) i).left ≡ None) × ((shape_at (shapes_of v) i).right ≡ None) × ((shape_at (shapes_of v) i).parent ≡ None)
      × ((shape_at (shapes_of v) i).count ≡ 1) × ((shape_at (shapes_of v) i).weight ≡ (shape_at (shapes_of v) i).own.weight)
      × ((shape_at (shapes_of v) i).least ≡ (shape_at (shapes_of v) i).own.rank) =
      λ i. subst (λ (xs : List Shape). ((shape_at xs i).left ≡ None) × ((shape_at xs i).right ≡ None) × ((shape_at xs i).parent ≡ None) × ((shape_at xs i).count ≡ 1)
      × ((shape_at xs i).weight ≡ (shape_at xs i).own.weight) × ((shape_at xs i).least ≡ (shape_at xs i).own.rank)) (sym is) (no-left i) in
      let ranks-fit : (i : ℕ) → (shape_at (shapes_of v) i).own.rank ≤ no_rank = λ i. subst (λ (xs : List Shape). (shape_at xs i).own.rank ≤ no_rank) (sym is) (only-fits fits i) in
      let none : (o : Option Link) (m : Link) → o ≡ None → o ≡ Some m → ⊥ = λ o m e f. cc in
      let no-number : (o : Option Link) (m : ℕ) → o ≡ None → link_number o ≡ Some m → ⊥ = λ o m e f. (let g : link_number None ≡ Some m = sym (ap link_number e) ∙ f in cc) in
      record {
        counted = λ x. let p = part x in
            omega (
              arith,
              p.3,
              ap (λ o. Rattle.node_rope.specs.Walk.count_of (tree_of (shapes_of v)) (link_number o)) p.0,
              ap (λ o. Rattle.node_rope.specs.Walk.count_of (tree_of (shapes_of v)) (link_number o)) p.1,
            );
        weighed = λ x. let p = part x in
            omega (
              arith,
              p.4,
              ap (λ o. Rattle.node_rope.specs.Sums.sum_of Rattle.node_rope.specs.Sums.sum_measure (Rattle.node_rope.specs.Shapes.weights (shapes_of v))
                  (link_number o)) p.0,
              ap
                  (λ o. Rattle.node_rope.specs.Sums.sum_of Rattle.node_rope.specs.Sums.sum_measure (Rattle.node_rope.specs.Shapes.weights (shapes_of v)) (link_number o)) p.1,
            );
        ranked = λ x. (
            let p = part x in
            let f = ranks-fit x in
            let none-left = ap (λ o. sum_of lesser (leasts (shapes_of v)) (link_number o)) p.0 in
            let none-right = ap (λ o. sum_of lesser (leasts (shapes_of v)) (link_number o)) p.1 in
            omega (arith, p.5, none-left, none-right, f));
        linked = record {
          from_left = λ x m e. absurd (no-number (shape_at (shapes_of v) x).left m (part x).0 e);
          from_right = λ x m e. absurd (no-number (shape_at (shapes_of v) x).right m (part x).1 e);
          apart = λ x m e f. no-number (shape_at (shapes_of v) x).left m (part x).0 e;
        };
        top = λ i h e. let is0 : l.number ≡ i = omega (arith, h, count, number) in ap Some is0;
        crown = λ i e. (part i).2;
        below = λ i p e. absurd (no-number (shape_at (shapes_of v) i).parent p (part i).2 e);
        made_left = λ i m e. absurd (none (shape_at (shapes_of v) i).left m (part i).0 e);
        made_right = λ i m e. absurd (none (shape_at (shapes_of v) i).right m (part i).1 e);
        made_parent = λ i m e. absurd (none (shape_at (shapes_of v) i).parent m (part i).2 e);
        made_root = λ m e. let same : l ≡ m = cc in subst (λ (k : Link). IsMade v k) same made;
        small = λ i. omega (arith, (part i).3, count);
      }
