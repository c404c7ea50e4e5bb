-- The comparison of siblings by an order of identifiers: right origins by their positions, and the end after them all.
use Rattle.std.proofs.Common.{List, arith, false, nat_eq, nat_lt, subst, sym, true, ℕ, ◌<◌, ◌∙◌, ◌≡◌, length, Bool}
use Rattle.std.specs.Prelude.{None, Option, Some}
use Rattle.std.proofs.lemmas.Bool.{ne_eqb}
use Rattle.std.proofs.lemmas.Bool.Decides.{nat_tests}
use Rattle.fugue_ids.specs.Identifiers.{Identifier, id_eq}
use Rattle.fugue_ids.specs.Listed.{HoldsOrigin, index_of}
use Rattle.fugue_ids.proofs.IdentifierLemmas.{contains-below, id_eq-false, same-index_of}
use Rattle.origin_model.specs.order.Order.{index_of_origin, precedes}
use Rattle.origin_model.proofs.SharedLemmas.{index_end}

-- the higher rank goes first
rank_more : (m n : ℕ) (a b : Identifier) → n < m → precedes m n a b ≡ true
rank_more m n a b h = grind (arith, nat_tests)

-- the lower rank does not
rank_less : (m n : ℕ) (a b : Identifier) → m < n → precedes m n a b ≡ false
rank_less m n a b h = grind (arith, nat_tests)

-- ranks that differ decide alone
rank_apart : (m n : ℕ) (a b : Identifier) → nat_eq n m ≡ false → precedes m n a b ≡ nat_lt n m
rank_apart m n a b e = grind (arith, nat_tests)

module _ (list : List Identifier) (here there : Option Identifier) (a b : Identifier) where
  abbrev first : Bool
  first = precedes (index_of_origin list here) (index_of_origin list there) a b

  -- what has no right origin goes before what has one
  pub end_first : (y : Identifier) → here ≡ None → there ≡ Some y → HoldsOrigin list there → true ≡ first
  end_first y e f s =
      let l : index_of list y < length list = contains-below list y (subst (λ o. HoldsOrigin list o) f s) in
      sym ((λ i. precedes (index_of_origin list (e i)) (index_of_origin list (f i)) a b)
      ∙ rank_more (index_of_origin list None) (index_of list y) a b (omega (arith, index_end list, l)))

  -- what has a right origin does not go before what has none
  pub end_last : (x : Identifier) → here ≡ Some x → there ≡ None → HoldsOrigin list here → false ≡ first
  end_last x e f s =
      let l : index_of list x < length list = contains-below list x (subst (λ o. HoldsOrigin list o) e s) in
      sym ((λ i. precedes (index_of_origin list (e i)) (index_of_origin list (f i)) a b)
      ∙ rank_less (index_of list x) (index_of_origin list None) a b (omega (arith, index_end list, l)))

  -- the later right origin goes first
  pub by_order : (x y : Identifier) (v : Bool) → here ≡ Some x → there ≡ Some y → id_eq x y ≡ false → HoldsOrigin list there → v ≡ nat_lt (index_of list y) (index_of list x)
      → v ≡ first
  by_order x y v e f n t r =
      let d : nat_eq (index_of list y) (index_of list x) ≡ false =
      ne_eqb _ _ (λ k. id_eq-false x y n (sym (same-index_of list y x (subst (λ o. HoldsOrigin list o) f t) k))) in
      r ∙ sym (rank_apart (index_of list x) (index_of list y) a b d) ∙ (λ i. precedes (index_of_origin list (sym e i)) (index_of_origin list (sym f i)) a b)
