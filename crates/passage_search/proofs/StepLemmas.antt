-- Places of a passage that overlap, and the periods of the passage.
use Rattle.std.proofs.Common.{◌≡◌, ◌≢◌, inl, inr, ℕ, ◌+◌, ◌-◌, ◌<◌, ◌≤◌, List, [], ◌∷◌, ◌++◌, length, drop, get_or, ap, refl, sym, subst, ◌∙◌, arith, length-append, length-drop}
use Rattle.std.specs.Prelude.{Bool, nat_eq, slice_index, take, true}
use Rattle.std.specs.List.{starts_with}
use Rattle.std.proofs.lemmas.Bool.{cases_lt}
use Rattle.std.proofs.lemmas.Bool.Decides.{Decides-eqb}
use Rattle.std.proofs.lemmas.Slice.Eq.{starts_is}
use Rattle.std.proofs.lemmas.List.{get_or-drop, get_or-take, get_or_append_left, length-take, take_all}
use Rattle.memchr.specs.Critical.{IsPeriod, NoPeriodBelow}
use Rattle.memchr.specs.Find.{Nowhere, OccursAt}
use Rattle.passage_search.specs.declared.steps.Step.{Step}
use Rattle.passage_search.specs.Steps.{IsSafeStep}

-- what a slice from a number on has
pub rest_of : (n : ℕ) (l : List ℕ) → take (length l - n) (drop n l) ≡ drop n l
rest_of n l = take_all (length l - n) (drop n l) (omega (arith, length-drop n l))

-- what a list that begins with another one is
pub begins_with : (l front same_l common_prefix : List ℕ) → l ≡ same_l → front ≡ common_prefix → (begins : Bool) → begins ≡ starts_with nat_eq l front → begins ≡ true
    → same_l ≡ common_prefix ++ drop (length common_prefix) same_l
begins_with l front same_l common_prefix e f begins is so =
    (starts_is Decides-eqb same_l common_prefix begins (is ∙ ap (λ m. starts_with nat_eq m front) e ∙ ap (starts_with nat_eq same_l) f)).0 so

pub has_some : (l : List ℕ) → l ≢ [] → 0 < length l
has_some [] none = absurd (none refl)
has_some (x ∷ l) none = omega arith

module _ (text passage : List ℕ) where
  -- of two places that overlap, one lies a period after the other
  period_between : (at d : ℕ) → OccursAt text passage at → OccursAt text passage (at + d) → IsPeriod (slice_index passage) (length passage) d
  period_between at d here there k short =
      let e : at + d + k ≡ at + (k + d) = omega arith in
      sym (there.reads k (omega (arith, short))) ∙ ap (λ n. get_or text n 0) e ∙ here.reads (k + d) short

  module _ (step : Step) (is : IsSafeStep passage step) (at : ℕ) (here : OccursAt text passage at) where
    pub none_nearer : Nowhere (OccursAt text passage) (at + 1) (at + step.bytes)
    none_nearer k low high there =
        let e : k ≡ at + (k - at) = omega (arith, low) in
        is.least (k - at) (omega (arith, low)) (omega (arith, low, high)) (period_between at (k - at) here (subst (OccursAt text passage) e there))

    -- the text goes on with the last step of the passage
    pub place_repeats : step.repeats ≡ true → (rest : List ℕ) → drop (at + length passage) text ≡ drop (length passage - step.bytes) passage ++ rest
        → OccursAt text passage (at + step.bytes)
    place_repeats repeats rest behind = record {
      fits = omega (
        arith,
        is.within,
        here.fits,
        ap length behind,
        length-drop (at + length passage) text,
        length-append (drop (length passage - step.bytes) passage) rest,
        length-drop (length passage - step.bytes) passage,
      );
      reads = λ j inside. elim (cases_lt (j + step.bytes) (length passage)) [
        | inl within ↦
            let e : at + step.bytes + j ≡ at + (j + step.bytes) = omega arith in
            ap (λ n. get_or text n 0) e ∙ here.reads (j + step.bytes) within ∙ sym (is.repeats repeats j within)
        | inr past ↦
            let k : ℕ = j + step.bytes - length passage in
            let e : at + step.bytes + j ≡ at + length passage + k = omega (arith, past) in
            let f : length passage - step.bytes + k ≡ j = omega (arith, past, is.within) in
            ap (λ n. get_or text n 0) e ∙ sym (get_or-drop (at + length passage) text k 0) ∙ ap (λ l. get_or l k 0) behind
            ∙ get_or_append_left (drop (length passage - step.bytes) passage) rest 0 k (omega (arith, past, inside, is.within, length-drop (length passage - step.bytes) passage))
            ∙ get_or-drop (length passage - step.bytes) passage k 0 ∙ ap (λ n. get_or passage n 0) f
      ];
    }

module _ (passage : List ℕ) where
  -- what comes up again d bytes later, up to the end
  pub period_of_rest : (d : ℕ) (rest : List ℕ) → passage ≡ drop d passage ++ rest → IsPeriod (slice_index passage) (length passage) d
  period_of_rest d rest e k short =
      let f : d + k ≡ k + d = omega arith in
      ap (λ l. get_or l k 0) e ∙ get_or_append_left (drop d passage) rest 0 k (omega (arith, short, length-drop d passage)) ∙ get_or-drop d passage k 0
      ∙ ap (λ n. get_or passage n 0) f

  -- with a period of d bytes, any front that fits comes up again d bytes later
  front_again : (front d : ℕ) → 0 < d → d + front ≤ length passage → IsPeriod (slice_index passage) (length passage) d → OccursAt (drop 1 passage) (take front passage) (d - 1)
  front_again front d some fits is = record {
    fits = omega (arith, some, fits, length-drop 1 passage, length-take front passage);
    reads = λ j inside.
        let e : 1 + (d - 1 + j) ≡ j + d = omega (arith, some) in
        let short : j < front = omega (arith, inside, length-take front passage) in
        get_or-drop 1 passage (d - 1 + j) 0 ∙ ap (λ n. get_or passage n 0) e ∙ sym (is j (omega (arith, short, fits))) ∙ sym (get_or-take front passage j 0 short);
  }

  -- the first front of that length comes up again first after s bytes
  pub no_period : (front s : ℕ) → s + front ≤ length passage + 1 → Nowhere (OccursAt (drop 1 passage) (take front passage)) 0 (s - 1)
      → NoPeriodBelow (slice_index passage) (length passage) s
  no_period front s fits nowhere d some less is =
      nowhere (d - 1) (omega arith) (omega (arith, some, less)) (front_again front d some (omega (arith, less, fits)) is)
