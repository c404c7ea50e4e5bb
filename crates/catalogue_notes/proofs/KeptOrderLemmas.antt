-- Sections whose positions stay, stand in the order in which they stood.
use Rattle.std.proofs.Common.{Bool, List, [], arith, inl, inr, subst, sym, true, true≢false, ◌∙◌, ◌∷◌, ◌≡◌, ap, refl}
use Rattle.std.specs.Prelude.{filter}
use Rattle.std.specs.List.{AllPairs, Contains}
use Rattle.std.proofs.lemmas.List.Elements.{All-contains, Contains-get_or}
use Rattle.std.proofs.lemmas.List.Kept.{AllPairs-filter}
use Rattle.fugue_ids.specs.Identifiers.{Identifier}
use Rattle.fugue_ids.specs.declared.op.Op.{Op}
use Rattle.fugue_ids.proofs.ListLemmas.{all_pairs_head, all_pairs_tail, contains_cases, contains_filter, contains_filter_from, contains_here, contains_none, contains_there}
use Rattle.origin_model.specs.declared.operations.Place.TheVariants.{Catalogue as catalogue}
use Rattle.origin_model.specs.operations.Verdict.{Lawful}
use Rattle.origin_model.specs.order.Laws.{IsIn, IsPartOf}
use Rattle.origin_model.specs.order.Order.{before}
use Rattle.origin_model.proofs.SharedLemmas.{order_total}
use Rattle.catalogue_notes.specs.Arranged.{arranged, position}
use Rattle.catalogue_notes.specs.Lift.{lift}
use Rattle.catalogue_notes.proofs.ArrangedLemmas.{arranged_in_order, arranged_shown, position_in, shown_is}
use Rattle.catalogue_notes.proofs.LiftLemmas.{lift_lawful}
use Rattle.catalogue_notes.proofs.SetLemmas.{lifted_before_stays}

-- two lists in a strict order with the same members are equal
module _ (R : Identifier → Identifier → Type 0) (irrefl : (a : Identifier) → R a a → ⊥) (trans : (a b c : Identifier) → R a b → R b c → R a c) where
  same_head : (x y : Identifier) (xs ys : List Identifier) → AllPairs R (x ∷ xs) → AllPairs R (y ∷ ys) → Contains (y ∷ ys) x → Contains (x ∷ xs) y → x ≡ y
  same_head x y xs ys v w p q =
      elim (contains_cases y ys x p) [
        | inl e ↦ sym e
        | inr j ↦ elim (contains_cases x xs y q) [
          | inl e ↦ e
          | inr k ↦ absurd (irrefl x (trans x y x (All-contains (R x) xs y (all_pairs_head R x xs v) k) (All-contains (R y) ys x (all_pairs_head R y ys w) j)))
        ]
      ]

  in_rest : (x y : Identifier) (xs ys : List Identifier) → x ≡ y → AllPairs R (x ∷ xs) → (z : Identifier) → Contains xs z → Contains (y ∷ ys) z → Contains ys z
  in_rest x y xs ys e v z m k =
      elim (contains_cases y ys z k) [ inl d ↦ absurd (irrefl x (subst (R x) (sym d ∙ sym e) (All-contains (R x) xs z (all_pairs_head R x xs v) m))) | inr j ↦ j ]

  same_ordered : (xs ys : List Identifier) → AllPairs R xs → AllPairs R ys → ((x : Identifier) → Contains xs x → Contains ys x)
      → ((x : Identifier) → Contains ys x → Contains xs x) → xs ≡ ys
  same_ordered [] [] v w f g = refl
  same_ordered [] (y ∷ ys) v w f g = absurd (contains_none y (g y (contains_here y ys)))
  same_ordered (x ∷ xs) [] v w f g = absurd (contains_none x (f x (contains_here x xs)))
  same_ordered (x ∷ xs) (y ∷ ys) v w f g =
      let e : x ≡ y = same_head x y xs ys v w (f x (contains_here x xs)) (g y (contains_here y ys)) in
      let rest : xs ≡ ys = same_ordered xs ys (all_pairs_tail R x xs v) (all_pairs_tail R y ys w)
      (λ z m. in_rest x y xs ys e v z m (f z (contains_there x xs z m)))
      (λ z m. in_rest y x ys xs (sym e) w z m (g z (contains_there y ys z m))) in
      λ i. e i ∷ rest i

-- the members of a list in one order are in each order that agrees on them
agree : (R S : Identifier → Identifier → Type 0) (xs : List Identifier) → ((x y : Identifier) → Contains xs x → Contains xs y → R x y → S x y) → AllPairs R xs → AllPairs S xs
agree R S xs so v = λ i j d b l. so _ _ (Contains-get_or xs i d (omega (arith, b, l))) (Contains-get_or xs j d l) (v i j d b l)

-- of a history and one with more operations: those that are arranged in both at the same position stand in one order
module _ (a b : List Op) (chosen : Identifier → Bool) (v : Lawful a) (w : Lawful b) (within : IsPartOf a b)
    (there : (s : Identifier) → chosen s ≡ true → Contains (arranged a) s → Contains (arranged b) s × (position b s ≡ position a s))
    (back : (s : Identifier) → chosen s ≡ true → Contains (arranged b) s → Contains (arranged a) s) where
  abbrev R : Identifier → Identifier → Type 0
  R s t = before catalogue (lift b) (position b s) (position b t) ≡ true

  abbrev xs : List Identifier
  xs = filter chosen (arranged a)

  abbrev ys : List Identifier
  ys = filter chosen (arranged b)

  in_lift : (s : Identifier) → Contains (arranged a) s → IsIn catalogue (lift a) (position a s)
  in_lift s m = ((order_total catalogue (lift a) (lift_lawful a v)).lists (position a s)).1 (position_in a s v (shown_is a s v (arranged_shown a s m)))

  in_order : AllPairs R xs
  in_order =
      agree (λ s t. before catalogue (lift a) (position a s) (position a t) ≡ true) R xs
      (λ s t m n k.
      let x = contains_filter_from chosen (arranged a) s m in
      let y = contains_filter_from chosen (arranged a) t n in
      ap (λ z. before catalogue (lift b) z (position b t)) (there s x.1 x.0).1
      ∙ ap (before catalogue (lift b) (position a s)) (there t y.1 y.0).1
      ∙ sym (lifted_before_stays a b v w within (position a s) (position a t) (in_lift s x.0) (in_lift t y.0))
      ∙ k)
      (AllPairs-filter (λ s t. before catalogue (lift a) (position a s) (position a t) ≡ true) chosen (arranged a) (arranged_in_order a v))

  pub positions_keep_order : filter chosen (arranged a) ≡ filter chosen (arranged b)
  positions_keep_order =
      let total = order_total catalogue (lift b) (lift_lawful b w) in
      same_ordered R (λ s k. true≢false (sym k ∙ total.irreflexive (position b s))) (λ s t u. total.transitive (position b s) (position b t) (position b u)) xs ys in_order
      (AllPairs-filter R chosen (arranged b) (arranged_in_order b w))
      (λ s m. let x = contains_filter_from chosen (arranged a) s m in contains_filter chosen (arranged b) s (there s x.1 x.0).0 x.1)
      (λ s m. let y = contains_filter_from chosen (arranged b) s m in contains_filter chosen (arranged a) s (back s y.1 y.0) y.1)
