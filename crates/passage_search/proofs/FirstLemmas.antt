-- The first place of a passage in a text.
use Rattle.std.proofs.Common.{ℕ, ◌+◌, ◌<◌, ◌≤◌, ◌≡◌, List, [], ◌∷◌, ap, arith, get_or, inl, inr, length, subst, ◌∙◌}
use Rattle.std.specs.Prelude.{Bool, filter, if◌then◌else◌, true}
use Rattle.std.specs.List.{range_with_len}
use Rattle.std.proofs.lemmas.Bool.{cases_Bool}
use Rattle.memchr.specs.Find.{occurs_at}
use Rattle.memchr.proofs.lemmas.MatchLemmas.{OccursAt-true}
use Rattle.passage_search.specs.declared.places.Places.{Places}
use Rattle.passage_search.specs.Places.{ArePlaces}

first_passes : (is : ℕ → Bool) (l : List ℕ) → 0 < length (filter is l) → is (get_or (filter is l) 0 0) ≡ true
first_passes is [] some = absurd (omega (arith, some))
first_passes is (x ∷ l) some =
    elim (cases_Bool (is x)) [
      | inl here ↦ ap (λ b. is (get_or (if b then x ∷ filter is l else filter is l) 0 0)) here ∙ here
      | inr not ↦
          let e : filter is (x ∷ l) ≡ filter is l = ap (λ b. if b then x ∷ filter is l else filter is l) not in
          ap (λ m. is (get_or m 0 0)) e ∙ first_passes is l (subst (λ m. 0 < length m) e some)
    ]

-- the first place of a passage ends within the text
pub place_fits : (text passage : List ℕ) (found : Places) → ArePlaces text passage found → 0 < found.count → found.first + length passage ≤ length text
place_fits text passage found are some =
    let here : occurs_at text passage found.first ≡ true =
    ap (occurs_at text passage) (are.first_is some) ∙ first_passes (occurs_at text passage) (range_with_len 0 (length text)) (omega (arith, some, are.count_is)) in
    (OccursAt-true text passage found.first here).fits
