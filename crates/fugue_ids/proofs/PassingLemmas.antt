-- The last that passes a test, in lists where those that pass stand first.
use Rattle.std.proofs.Common.{Bool, List, [], ap, append-nil, false, refl, subst, sym, true, ◌++◌, ◌∙◌, ◌∷◌, ◌≡◌}
use Rattle.std.specs.List.{All}
use Rattle.std.specs.Prelude.{None, Option, Some, filter}
use Rattle.std.proofs.lemmas.Bool.{false_from_ne_true, true≢false}
use Rattle.std.proofs.lemmas.List.Elements.{All-cons, All-head, All-tail, All-weaker, filter-append}
use Rattle.fugue_ids.specs.Identifiers.{Identifier}
use Rattle.fugue_ids.specs.Listed.{last_before}
use Rattle.fugue_ids.specs.Passing.{Falls, last_passing}
use Rattle.fugue_ids.proofs.ListLemmas.{all_pairs_before, all_pairs_after, all_pairs_head, all_pairs_tail}

-- the last of a list with a part that is not empty
last_after : (xs ys : List Identifier) (v : Identifier) → last_before (xs ++ v ∷ ys) ≡ last_before (v ∷ ys)
last_after [] ys v = refl
last_after (x ∷ []) ys v = refl
last_after (x ∷ z ∷ xs) ys v = last_after (z ∷ xs) ys v

-- the pairs of a list that falls
abbrev pub Fall : (Identifier → Bool) → Identifier → Identifier → Type 0
Fall g a b = g b ≡ true → g a ≡ true

-- the first that is there
abbrev pub or_else : Option Identifier → Option Identifier → Option Identifier
or_else None o = o
or_else (Some x) o = Some x

-- the last of a list with a first one
end_after : (v : Identifier) (xs : List Identifier) → last_before (v ∷ xs) ≡ or_else (last_before xs) (Some v)
end_after v [] = refl
end_after v (x ∷ xs) = some x xs (Some v)
  where
    some : (x : Identifier) (xs : List Identifier) (o : Option Identifier) → last_before (x ∷ xs) ≡ or_else (last_before (x ∷ xs)) o
    some x [] o = refl
    some x (y ∷ ys) o = some y ys o

module _ (g : Identifier → Bool) where
  -- a filter keeps what passes, and drops what does not
  passes : (x : Identifier) (xs : List Identifier) → g x ≡ true → filter g (x ∷ xs) ≡ x ∷ filter g xs
  passes x xs k = rw (k, filter)

  fails : (x : Identifier) (xs : List Identifier) → g x ≡ false → filter g (x ∷ xs) ≡ filter g xs
  fails x xs k = rw (k, filter)

  -- a filter that none passes
  pub none_pass : (xs : List Identifier) → All (λ x. g x ≡ false) xs → filter g xs ≡ []
  none_pass [] f = refl
  none_pass (x ∷ xs) f = fails x xs (All-head (λ z. g z ≡ false) x xs f) ∙ none_pass xs (All-tail (λ z. g z ≡ false) x xs f)

  -- after one that fails all fail
  pub all_fail : (v : Identifier) (ys : List Identifier) → Falls g (v ∷ ys) → g v ≡ false → All (λ x. g x ≡ false) (v ∷ ys)
  all_fail v ys f k =
      All-cons (λ x. g x ≡ false) v ys k
      (All-weaker (Fall g v) (λ x. g x ≡ false) (λ x j. false_from_ne_true (g x) (λ t. true≢false (sym (j t) ∙ k))) ys (all_pairs_head (Fall g) v ys f))

  -- the last that passes stands from one that passes on
  pub passing_after : (xs ys : List Identifier) (v : Identifier) → g v ≡ true → last_passing g (xs ++ v ∷ ys) ≡ last_passing g (v ∷ ys)
  passing_after xs ys v k =
      let kept : filter g (v ∷ ys) ≡ v ∷ filter g ys = passes v ys k in
      ap last_before (filter-append g xs (v ∷ ys) ∙ ap (λ t. filter g xs ++ t) kept) ∙ last_after (filter g xs) (filter g ys) v ∙ sym (ap last_before kept)

  -- it stands before one that fails
  pub passing_before : (xs ys : List Identifier) (v : Identifier) → Falls g (xs ++ v ∷ ys) → g v ≡ false → last_passing g (xs ++ v ∷ ys) ≡ last_passing g xs
  passing_before xs ys v f k =
      ap last_before (
      filter-append g xs (v ∷ ys)
      ∙ ap (λ t. filter g xs ++ t) (none_pass (v ∷ ys) (all_fail v ys (all_pairs_after (Fall g) xs (v ∷ ys) f) k))
      ∙ append-nil (filter g xs))

  -- a last member that passes is the answer
  pub end_passes : (xs : List Identifier) (v : Identifier) → g v ≡ true → last_passing g (xs ++ v ∷ []) ≡ Some v
  end_passes xs v k = passing_after xs [] v k ∙ ap last_before (passes v [] k)

  -- with nothing seen yet
  pub nothing_seen : (xs : List Identifier) → last_passing g xs ≡ or_else (last_passing g xs) None
  nothing_seen xs = none (last_passing g xs)
    where
      none : (o : Option Identifier) → o ≡ or_else o None
      none None = refl
      none (Some x) = refl

  -- the last that passes stands after one that does, or is that
  pub seen_after : (all xs ys : List Identifier) (s : Identifier) (seen : Option Identifier) → all ≡ xs ++ s ∷ ys → g s ≡ true
      → or_else (last_passing g all) seen ≡ or_else (last_passing g ys) (Some s)
  seen_after all xs ys s seen is t =
      ap (λ o. or_else o seen) (ap (last_passing g) is ∙ passing_after xs ys s t ∙ ap last_before (passes s ys t) ∙ end_after s (filter g ys))
      ∙ twice (last_passing g ys)
    where
      twice : (o : Option Identifier) → or_else (or_else o (Some s)) seen ≡ or_else o (Some s)
      twice None = refl
      twice (Some x) = refl

  -- it stands before one that fails
  pub seen_before : (all xs ys : List Identifier) (s : Identifier) (seen : Option Identifier) → all ≡ xs ++ s ∷ ys → Falls g all → g s ≡ false
      → or_else (last_passing g all) seen ≡ or_else (last_passing g xs) seen
  seen_before all xs ys s seen is f n = ap (λ o. or_else o seen) (ap (last_passing g) is ∙ passing_before xs ys s (subst (Falls g) is f) n)

  -- both parts fall as the whole does
  pub falls_before : (xs : List Identifier) (s : Identifier) (ys : List Identifier) → Falls g (xs ++ s ∷ ys) → Falls g xs
  falls_before xs s ys f = all_pairs_before (Fall g) xs (s ∷ ys) f

  pub falls_after : (xs : List Identifier) (s : Identifier) (ys : List Identifier) → Falls g (xs ++ s ∷ ys) → Falls g ys
  falls_after xs s ys f = all_pairs_tail (Fall g) s ys (all_pairs_after (Fall g) xs (s ∷ ys) f)
