-- Lists of what some members say.
use Rattle.margin_notes.proofs.Words.{AllPairs, Contains, List, None, Option, Some, [], all_from_contains, all_pairs_head, all_pairs_tail, All-contains, ap, flat_map, inl, inr}
use Rattle.margin_notes.proofs.Words.{option_to_list, refl, subst, sym, ◌++◌, ◌∙◌, ◌∷◌, ◌≡◌}
use Rattle.std.proofs.lemmas.List.Kept.{AllPairs-cons}
use Rattle.std.proofs.lemmas.List.{append-nil}
use Rattle.std.proofs.lemmas.List.Concat.{flat_map-append}
use Rattle.fugue_ids.proofs.ListLemmas.{all_pairs_nil, contains_cases, contains_here, contains_none, contains_there}

module _ {X Y : Type 0} (f : X → Option Y) where
  abbrev pub said : List X → List Y
  said xs = flat_map (λ x. option_to_list (f x)) xs

  -- what is said is said by a member
  pub said_from : (xs : List X) (y : Y) → Contains (said xs) y → (x : X) × Contains xs x × (f x ≡ Some y)
  said_from [] y c = absurd (contains_none y c)
  said_from (x ∷ xs) y c = by (λ k. let r = said_from xs y k in (r.0, contains_there x xs r.0 r.1, r.2)) (f x) refl c
    where
      by : (Contains (said xs) y → (z : X) × Contains (x ∷ xs) z × (f z ≡ Some y)) → (o : Option Y) → f x ≡ o → Contains (option_to_list o ++ said xs) y
          → (z : X) × Contains (x ∷ xs) z × (f z ≡ Some y)
      by rest None e k = rest k
      by rest (Some z) e k = elim (contains_cases z (said xs) y k) [ inl d ↦ (x, contains_here x xs, e ∙ ap Some d) | inr m ↦ rest m ]

  -- and what a member says is said
  pub said_in : (xs : List X) (x : X) (y : Y) → Contains xs x → f x ≡ Some y → Contains (said xs) y
  said_in [] x y c e = absurd (contains_none x c)
  said_in (z ∷ xs) x y c e =
      elim (contains_cases z xs x c) [
        | inl d ↦ subst (λ o. Contains (option_to_list o ++ said xs) y) (sym (ap f d ∙ e)) (contains_here y (said xs))
        | inr k ↦ later (f z) (said_in xs x y k e)
      ]
    where
      later : (o : Option Y) → Contains (said xs) y → Contains (option_to_list o ++ said xs) y
      later None k = k
      later (Some w) k = contains_there w (said xs) y k

  -- what members have to each other, what they say has
  pub said_pairs : (R : X → X → Type 0) (S : Y → Y → Type 0) → ((a b : X) (u v : Y) → R a b → f a ≡ Some u → f b ≡ Some v → S u v) → (xs : List X) → AllPairs R xs
      → AllPairs S (said xs)
  said_pairs R S g [] p = all_pairs_nil S
  said_pairs R S g (x ∷ xs) p = by (said_pairs R S g xs (all_pairs_tail R x xs p)) (f x) refl
    where
      by : AllPairs S (said xs) → (o : Option Y) → f x ≡ o → AllPairs S (option_to_list o ++ said xs)
      by rest None e = rest
      by rest (Some u) e =
          AllPairs-cons S u (said xs) (all_from_contains (S u) (said xs) (λ v k.
          let r = said_from xs v k in g x r.0 u v (All-contains (R x) xs r.0 (all_pairs_head R x xs p) r.1) e r.2)) rest

  -- one member more at the end
  pub said_more : (xs : List X) (x : X) → said (xs ++ x ∷ []) ≡ said xs ++ option_to_list (f x)
  said_more xs x = flat_map-append (λ z. option_to_list (f z)) xs (x ∷ []) ∙ ap (λ t. said xs ++ t) (append-nil (option_to_list (f x)))
