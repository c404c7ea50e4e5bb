-- What is found of a passage, part by part.
use Rattle.std.proofs.Common.{List, [], ap, arith, length, length-append, subst, sym, ◌+◌, ◌++◌, ◌∙◌, ◌∷◌, ◌≡◌, ℕ}
use Rattle.std.proofs.lemmas.List.{append-nil}
use Rattle.fugue_ids.specs.Identifiers.{Identifier}
use Rattle.fugue_ids.specs.declared.op.Op.{Op}
use Rattle.passage_remarks.specs.Finding.{AreFoundAt, found_together, reported_count}
use Rattle.passage_remarks.specs.declared.finding.Found.{Found}
use Rattle.passage_remarks.specs.declared.finding.Found.TheVariants.{Often}

module _ (h : List Op) (passage : List ℕ) where
  reported_sum : (m n : ℕ) → reported_count (reported_count m + reported_count n) ≡ reported_count (m + n)
  reported_sum m n = omega arith

  -- what is found in some places and in others is found in both
  pub found_both : (ps qs : List (Identifier × ℕ)) (f g : Found) → AreFoundAt h passage ps f → AreFoundAt h passage qs g → AreFoundAt h passage (ps ++ qs) (found_together f g)
  found_both [] qs f g a b = subst (λ x. AreFoundAt h passage qs (found_together x g)) (sym a) b
  found_both (p ∷ []) [] f g a b = (a.0, λ i. found_together (a.1 i) (b i), a.2)
  found_both (p ∷ []) (q ∷ []) f g a b = λ i. found_together (a.1 i) (b.1 i)
  found_both (p ∷ []) (q ∷ r ∷ more) f g a b =
      (λ i. found_together (a.1 i) (b i))
      ∙ (let e : reported_count (1 + reported_count (length (q ∷ r ∷ more))) ≡ reported_count (length (p ∷ q ∷ r ∷ more)) = omega arith in ap Often e)
  found_both (p ∷ o ∷ more) [] f g a b =
      (λ i. found_together (a i) (b i)) ∙ ap (λ l. Often (reported_count (length (p ∷ o ∷ l)))) (sym (append-nil more))
  found_both (p ∷ o ∷ more) (q ∷ []) f g a b =
      (λ i. found_together (a i) (b.1 i))
      ∙ (let e : reported_count (reported_count (length (p ∷ o ∷ more)) + 1) ≡ reported_count (length (p ∷ o ∷ (more ++ q ∷ []))) =
      omega (arith, length-append more (q ∷ [])) in ap Often e)
  found_both (p ∷ o ∷ more) (q ∷ r ∷ others) f g a b =
      (λ i. found_together (a i) (b i))
      ∙ (let e : reported_count (reported_count (length (p ∷ o ∷ more)) + reported_count (length (q ∷ r ∷ others))) ≡ reported_count (length (p ∷ o ∷ (more ++ q ∷ r ∷ others))) =
      omega
      (arith, length-append more (q ∷ r ∷ others)) in ap Often e)
