-- A list in which those that pass a test stand first, parted where they end.
use Rattle.origin_model.proofs.Words.{All, All-cons, All-nil, Bool, Identifier, List, [], all_pairs_tail, ap, append-nil, cases_Bool, false, filter, filter-append, inl, inr, refl}
use Rattle.origin_model.proofs.Words.{true, ◌++◌, ◌∙◌, ◌∷◌, ◌≡◌}
use Rattle.fugue_ids.specs.Listed.{last_before}
use Rattle.fugue_ids.specs.Passing.{Falls, last_passing}
use Rattle.fugue_ids.proofs.PassingLemmas.{Fall, all_fail, none_pass}
use Rattle.origin_model.proofs.edits.SplitLemmas.{filter_all}

-- a list, parted where the last that passes ends
pub record FallsApart (g : Identifier → Bool) (xs : List Identifier) : Type 0 where
  pub earlier : List Identifier
  pub later : List Identifier
  pub whole : xs ≡ earlier ++ later
  pub earlier_sibling : All (λ v. g v ≡ true) earlier
  pub later_sibling : All (λ v. g v ≡ false) later
  pub last : last_passing g xs ≡ last_before earlier

-- a list that falls is so parted
pub falls_apart : (g : Identifier → Bool) (xs : List Identifier) → Falls g xs → FallsApart g xs
falls_apart g [] f = record { earlier = []; later = []; whole = refl; earlier_sibling = All-nil (λ v. g v ≡ true); later_sibling = All-nil (λ v. g v ≡ false); last = refl }
falls_apart g (v ∷ vs) f =
    elim (cases_Bool (g v)) [
      | inr k ↦
          let all = all_fail g v vs f k in
          record { earlier = []; later = v ∷ vs; whole = refl; earlier_sibling = All-nil (λ x. g x ≡ true); later_sibling = all; last = ap last_before (none_pass g (v ∷ vs) all) }
      | inl k ↦
          let r = falls_apart g vs (all_pairs_tail (Fall g) v vs f) in
          let earlier_sibling : All (λ x. g x ≡ true) (v ∷ r.earlier) = All-cons (λ x. g x ≡ true) v r.earlier k r.earlier_sibling in
          let whole : v ∷ vs ≡ (v ∷ r.earlier) ++ r.later = ap (λ t. v ∷ t) r.whole in
          record {
            earlier = v ∷ r.earlier;
            later = r.later;
            whole = whole;
            earlier_sibling = earlier_sibling;
            later_sibling = r.later_sibling;
            last = ap last_before (
                ap (filter g) whole
                ∙ filter-append g (v ∷ r.earlier) r.later
                ∙ (λ i. filter_all g (v ∷ r.earlier) earlier_sibling i ++ none_pass g r.later r.later_sibling i)
                ∙ append-nil (v ∷ r.earlier));
          }
    ]
