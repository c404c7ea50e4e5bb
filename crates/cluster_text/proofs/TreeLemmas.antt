-- The parts on the two sides of a node.
use Rattle.std.proofs.Common.{◌≡◌, ℕ, zero, suc, ◌+◌, ◌-◌, ◌^◌, ◌<◌, ◌≤◌, List, [], ◌∷◌, ◌++◌, length, take, drop, refl, sym, ap, ◌∙◌, append_assoc, length-append, arith}
use Rattle.std.proofs.Math.Seq.{take-append-add}
use Rattle.std.proofs.lemmas.List.{take-append-le}
use Rattle.std.proofs.lemmas.List.Sums.{sum_by-append, sum_by-cons, sum_by-take-le}
use Rattle.std.proofs.lemmas.Str.{IsUtf8-string_bytes}
use Rattle.std.specs.Prelude.{string_bytes}
use Rattle.std.specs.Str.{chars}
use Rattle.cluster_text.specs.Clusters.{clusters, scalars}
use Rattle.cluster_text.specs.Parts.{IsSpot, scalar_count, whole}
use Rattle.cluster_text.specs.Trees.{IsAt, capped_sum, clusters_in, count_scalars_in}
use Rattle.cluster_text.specs.declared.part.Part.{Part}
use Rattle.cluster_text.proofs.PartLemmas.{clusters-first, clusters-parts, length-le-scalar_count, scalar_count-append, scalar_count-first, scalar_count-none, whole-utf8}
use Rattle.cluster_text.proofs.SingleLemmas.{few_clusters}
use Rattle.cluster_text.proofs.TextLemmas.{clusters-nil, scalars-clusters}

module _ {X : Type 0} (x : X) (ys : List X) where
  pub take-past : (n : ℕ) (xs : List X) → length xs < n → take n (xs ++ x ∷ ys) ≡ xs ++ x ∷ take (n - length xs - 1) ys
  take-past zero xs past = absurd (omega arith)
  take-past (suc n) [] past = let e : suc n - 0 - 1 ≡ n = omega arith in rw e refl
  take-past (suc n) (z ∷ zs) past =
      let e : suc n - suc (length zs) - 1 ≡ n - length zs - 1 = omega arith in
      rw e (ap (λ (ws : List X). z ∷ ws) (take-past n zs (omega arith)))

  pub drop-past : (n : ℕ) (xs : List X) → length xs < n → drop n (xs ++ x ∷ ys) ≡ drop (n - length xs - 1) ys
  drop-past zero xs past = absurd (omega arith)
  drop-past (suc n) [] past = let e : suc n - 0 - 1 ≡ n = omega arith in rw e refl
  drop-past (suc n) (z ∷ zs) past =
      let e : suc n - suc (length zs) - 1 ≡ n - length zs - 1 = omega arith in
      rw e (drop-past n zs (omega arith))

-- the sums that a tree keeps are the counts of the text
scalars_in-is : (parts : List Part) → count_scalars_in parts ≡ scalar_count parts
scalars_in-is [] = sym scalar_count-none
scalars_in-is (part ∷ parts) =
    omega (arith, sum_by-cons (λ (p : Part). p.scalars) part parts, part.scalars_are, scalars_in-is parts, scalar_count-first part parts)

clusters_in-is : (parts : List Part) → clusters_in parts ≡ length (clusters (whole parts))
clusters_in-is [] = sym (ap length clusters-nil)
clusters_in-is (part ∷ parts) =
    let first = ap length (clusters-first part parts) ∙ length-append (clusters (string_bytes part.text)) (clusters (whole parts)) in
    omega (arith, sum_by-cons (λ (p : Part). p.clusters) part parts, part.clusters_are, clusters_in-is parts, first)

pub scalars-append : (xs ys : List (List ℕ)) → scalars (xs ++ ys) ≡ scalars xs + scalars ys
scalars-append = sum_by-append (λ (cluster : List ℕ). length (chars cluster))

scalars-taken : (xs ys : List (List ℕ)) (n : ℕ) → scalars (take (length xs + n) (xs ++ ys)) ≡ scalars xs + scalars (take n ys)
scalars-taken xs ys n = ap scalars (take-append-add xs ys n) ∙ scalars-append xs (take n ys)

module _ (parts left : List Part) (part : Part) (right : List Part) (is : parts ≡ left ++ part ∷ right) where
  abbrev pub here : List ℕ
  here = string_bytes part.text

  pub lengths_are : length parts ≡ length left + (1 + length right)
  lengths_are = omega (arith, ap length is, length-append left (part ∷ right))

  pub scalars_are : scalar_count parts ≡ scalar_count left + (length (chars here) + scalar_count right)
  scalars_are = ap scalar_count is ∙ scalar_count-append left (part ∷ right) ∙ ap (λ n. scalar_count left + n) (scalar_count-first part right)

  clusters_are : clusters (whole parts) ≡ clusters (whole left) ++ (clusters here ++ clusters (whole right))
  clusters_are =
      ap (λ (ps : List Part). clusters (whole ps)) is ∙ clusters-parts left (part ∷ right)
      ∙ ap (λ cs. clusters (whole left) ++ cs) (clusters-first part right)

  pub cluster_counts : length (clusters (whole parts)) ≡ length (clusters (whole left)) + (length (clusters here) + length (clusters (whole right)))
  cluster_counts =
      ap length clusters_are ∙ length-append (clusters (whole left)) (clusters here ++ clusters (whole right))
      ∙ ap (λ n. length (clusters (whole left)) + n) (length-append (clusters here) (clusters (whole right)))

  -- ---- what the left side keeps

  module _ (few : scalar_count parts < 2 ^ 64) (n : ℕ) where
    pub left_scalars : n ≡ capped_sum (count_scalars_in left) → n ≡ scalar_count left
    left_scalars kept = omega (arith, kept, scalars_in-is left, scalars_are, few)

    pub left_parts : n ≡ capped_sum (length left) → n ≡ length left
    left_parts kept = omega (arith, kept, length-le-scalar_count left, scalars_are, few)

    pub left_clusters : n ≡ capped_sum (clusters_in left) → n ≡ length (clusters (whole left))
    left_clusters kept = omega (arith, kept, clusters_in-is left, few_clusters (whole left), scalars_are, few)

  -- ---- the part of a scalar

  pub spot-left : (at index within : ℕ) → IsSpot left at index within → IsSpot parts at index within
  spot-left at index within spot =
      record {
        front = spot.front;
        here = spot.here;
        back = spot.back ++ part ∷ right;
        parts_are = is ∙ ap (λ (ps : List Part). ps ++ part ∷ right) spot.parts_are ∙ append_assoc spot.front (spot.here ∷ spot.back) (part ∷ right);
        index_is = spot.index_is;
        place = spot.place;
        fits = spot.fits;
      }

  pub spot-here : (at within : ℕ) → at ≡ scalar_count left + within → within < length (chars here) → IsSpot parts at (length left) within
  spot-here at within place fits =
      record { front = left; here = part; back = right; parts_are = is; index_is = refl; place = place; fits = fits }

  pub spot-right : (at more index within : ℕ) → at ≡ scalar_count left + length (chars here) + more → IsSpot right more index within
      → IsSpot parts at (length left + 1 + index) within
  spot-right at more index within place spot =
      let front = left ++ part ∷ spot.front in
      let count = scalar_count-append left (part ∷ spot.front) in
      record {
        front = front;
        here = spot.here;
        back = spot.back;
        parts_are = is ∙ ap (λ (ps : List Part). left ++ part ∷ ps) spot.parts_are ∙ sym (append_assoc left (part ∷ spot.front) (spot.here ∷ spot.back));
        index_is = omega (arith, spot.index_is, length-append left (part ∷ spot.front));
        place = omega (arith, place, spot.place, count, scalar_count-first part spot.front);
        fits = spot.fits;
      }

  -- ---- the place of a cluster

  before_is : scalars (clusters (whole left)) ≡ scalar_count left
  before_is = scalars-clusters (whole left) (whole-utf8 left)

  pub place-left : (at : ℕ) → at < length (clusters (whole left)) → scalars (take at (clusters (whole parts))) ≡ scalars (take at (clusters (whole left)))
  place-left at before =
      ap (λ cs. scalars (take at cs)) clusters_are
      ∙ ap scalars (take-append-le at (clusters (whole left)) (clusters here ++ clusters (whole right)) (omega (arith, before)))

  pub place-here : (at within : ℕ) → at ≡ length (clusters (whole left)) + within → within < length (clusters here)
      → (scalar_count left + scalars (take within (clusters here)) ≡ scalars (take at (clusters (whole parts))))
      × (scalar_count left + scalars (take within (clusters here)) ≤ scalar_count parts)
  place-here at within place fits =
      let taken = ap (λ k. scalars (take k (clusters (whole parts)))) place ∙ ap (λ cs. scalars (take (length (clusters (whole left)) + within) cs)) clusters_are
      ∙ scalars-taken (clusters (whole left)) (clusters here ++ clusters (whole right)) within
      ∙ ap (λ n. scalars (clusters (whole left)) + n) (ap scalars (take-append-le within (clusters here) (clusters (whole right)) (omega (arith, fits)))) in
      let few = sum_by-take-le (λ (cluster : List ℕ). length (chars cluster)) (clusters here) within in
      let all = scalars-clusters here (IsUtf8-string_bytes part.text) in
      (omega (arith, taken, before_is), omega (arith, few, all, scalars_are))

  pub place-right : (at within : ℕ) → at ≡ length (clusters (whole left)) + (length (clusters here) + within)
      → (scalar_count left + length (chars here) + scalars (take within (clusters (whole right))) ≡ scalars (take at (clusters (whole parts))))
      × (scalar_count left + length (chars here) + scalars (take within (clusters (whole right))) ≤ scalar_count parts)
  place-right at within place =
      let taken = ap (λ k. scalars (take k (clusters (whole parts)))) place
      ∙ ap (λ cs. scalars (take (length (clusters (whole left)) + (length (clusters here) + within)) cs)) clusters_are
      ∙ scalars-taken (clusters (whole left)) (clusters here ++ clusters (whole right)) (length (clusters here) + within)
      ∙ ap (λ n. scalars (clusters (whole left)) + n) (scalars-taken (clusters here) (clusters (whole right)) within) in
      let few = sum_by-take-le (λ (cluster : List ℕ). length (chars cluster)) (clusters (whole right)) within in
      let all = scalars-clusters (whole right) (whole-utf8 right) in
      let one = scalars-clusters here (IsUtf8-string_bytes part.text) in
      (omega (arith, taken, before_is, one), omega (arith, few, all, scalars_are))

  -- ---- an index

  pub at-right : (index : ℕ) (found : Part) → IsAt right index found → IsAt parts (length left + 1 + index) found
  at-right index found at =
      record {
        front = left ++ part ∷ at.front;
        back = at.back;
        parts_are = is ∙ ap (λ (ps : List Part). left ++ part ∷ ps) at.parts_are ∙ sym (append_assoc left (part ∷ at.front) (found ∷ at.back));
        index_is = omega (arith, at.index_is, length-append left (part ∷ at.front));
      }
