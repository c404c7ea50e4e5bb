-- Parts of lists.
use Rattle.std.proofs.Common.{◌≡◌, ℕ, ◌+◌, ◌-◌, ◌≤◌, List, ◌∷◌, ◌++◌, ap, arith, length, length-drop, take, drop, ◌∙◌}
use Rattle.std.specs.List.{All}
use Rattle.std.proofs.Math.Seq.{take-add}
use Rattle.std.proofs.lemmas.List.{drop-append-le, drop-drop, take-append-le}
use Rattle.std.proofs.lemmas.List.Elements.{All-append, All-tail}
use Rattle.fugue_ids.proofs.ListLemmas.{all_before, all_after}

module _ {X : Type 0} where
  -- a part is two parts
  pub part-parts : (start n m : ℕ) (xs : List X) → n ≤ m → take m (drop start xs) ≡ take n (drop start xs) ++ take (m - n) (drop (start + n) xs)
  part-parts start n m xs l =
      let e : m ≡ n + (m - n) = omega (arith, l) in
      ap (λ k. take k (drop start xs)) e ∙ take-add n (m - n) (drop start xs) ∙ ap (λ ys. take n (drop start xs) ++ take (m - n) ys) (drop-drop n start xs)

  -- a part of a front
  pub part-front : (start n : ℕ) (xs ys : List X) → start + n ≤ length xs → take n (drop start (xs ++ ys)) ≡ take n (drop start xs)
  part-front start n xs ys l =
      ap (take n) (drop-append-le start xs ys (omega (arith, l)))
      ∙ take-append-le n (drop start xs) ys (omega (arith, l, length-drop start xs))

  -- what holds of all holds where others stand in the place of one
  pub all-between : (P : X → Type 0) (front : List X) (x : X) (new back : List X) → All P (front ++ x ∷ back) → All P new → All P (front ++ (new ++ back))
  all-between P front x new back all n =
      All-append P front (new ++ back) (all_before P front (x ∷ back) all)
      (All-append P new back n (All-tail P x back (all_after P front (x ∷ back) all)))
