-- For any history and any finished list, the comparison of elements is a strict order, and total on the elements that are held.
use Rattle.origin_model.proofs.Words.{arith, id_eq, precedes, All, chain_before, ◌∙◌, Identifier, List, Op, before_in, false, fork_before, index_of_origin, lefts, ne-id_eq}
use Rattle.origin_model.proofs.Words.{next_left, next_right, right_at, rights, sibling, true, ℕ, ◌≡◌, ◌≢◌}
use Rattle.std.proofs.lemmas.Bool.Decides.{nat_tests}
use Rattle.origin_model.proofs.order.ChainOrderLemmas.{chain_before-agree, chain_before-irrefl, chain_before-total, chain_before-trans}
use Rattle.origin_model.proofs.operations.LookupLemmas.{IsHeld}
use Rattle.origin_model.proofs.order.ChainLemmas.{chain-held, same_chain}

-- nothing stands before itself by rank and identifier
pub ranked-irrefl : (n : ℕ) (a : Identifier) → precedes n n a a ≡ false
ranked-irrefl n a = grind (arith, nat_tests)

-- rank and identifier are transitive
pub ranked-trans : (l m n : ℕ) (a b c : Identifier) → precedes l m a b ≡ true → precedes m n b c ≡ true → precedes l n a c ≡ true
ranked-trans l m n a b c h k = grind (arith, nat_tests)

-- of two distinct ones, one stands first by rank and identifier
pub ranked-total : (m n : ℕ) (a b : Identifier) → id_eq a b ≡ false → precedes m n a b ≡ false → precedes n m b a ≡ true
ranked-total m n a b h k = grind (arith, nat_tests)

-- the comparisons by a finished list o and a history h
module _ (o : List Identifier) (h : List Op) where
  -- the position of an element's right origin
  abbrev rank' : Identifier → ℕ
  rank' a = index_of_origin o (right_at h a)

  -- nothing stands before itself at a fork
  pub fork-irrefl : (a : Identifier) → fork_before o h a a ≡ false
  fork-irrefl a = ranked-irrefl (rank' a) a

  -- the comparison at a fork is transitive
  pub fork-trans : (a b c : Identifier) → fork_before o h a b ≡ true → fork_before o h b c ≡ true → fork_before o h a c ≡ true
  fork-trans a b c = ranked-trans (rank' a) (rank' b) (rank' c) a b c

  -- the comparison at a fork is total
  pub fork-total : (a b : Identifier) → a ≢ b → fork_before o h a b ≡ false → fork_before o h b a ≡ true
  fork-total a b n = ranked-total (rank' a) (rank' b) a b (ne-id_eq a b n)

  -- no element stands before itself among its siblings
  pub sibling-irrefl : (a : Identifier) → sibling o h a a ≡ false
  sibling-irrefl a = chain_before-irrefl false (fork_before o h) (rights h a)

  -- the order of siblings is transitive
  pub sibling-trans : (a b c : Identifier) → sibling o h a b ≡ true → sibling o h b c ≡ true → sibling o h a c ≡ true
  sibling-trans a b c = chain_before-trans false (fork_before o h) fork-irrefl fork-trans (rights h a) (rights h b) (rights h c)

  -- of two siblings one stands before the other
  pub sibling-total : (a b : Identifier) → IsHeld h a → IsHeld h b → a ≢ b → sibling o h a b ≡ false → sibling o h b a ≡ true
  sibling-total a b p q n =
      chain_before-total false (fork_before o h) (IsHeld h) (λ c d _ _. fork-total c d) (rights h a) (rights h b) (chain-held next_right h a) (chain-held next_right h b)
      (λ e. n (same_chain next_right h a b p q e))

  -- no element stands before itself
  pub before_in-irrefl : (x : Identifier) → before_in o h x x ≡ false
  before_in-irrefl x = chain_before-irrefl true (sibling o h) (lefts h x)

  -- the comparison of elements is transitive
  pub before_in-trans : (x y z : Identifier) → before_in o h x y ≡ true → before_in o h y z ≡ true → before_in o h x z ≡ true
  before_in-trans x y z = chain_before-trans true (sibling o h) sibling-irrefl sibling-trans (lefts h x) (lefts h y) (lefts h z)

  -- of two held elements one stands before the other
  pub before_in-total : (x y : Identifier) → IsHeld h x → IsHeld h y → x ≢ y → before_in o h x y ≡ false → before_in o h y x ≡ true
  before_in-total x y p q n =
      chain_before-total true (sibling o h) (IsHeld h) sibling-total (lefts h x) (lefts h y) (chain-held next_left h x) (chain-held next_left h y)
      (λ e. n (same_chain next_left h x y p q e))

-- two histories with their finished lists, and elements that have the same chains in both and compare alike at a fork
module _ (o q : List Identifier) (s h : List Op) (P : Identifier → Type 0) (fork : (a b : Identifier) → P a → P b → fork_before o s a b ≡ fork_before q h a b)
    (lefts_same : (a : Identifier) → P a → lefts s a ≡ lefts h a) (rights_same : (a : Identifier) → P a → rights s a ≡ rights h a)
    (lefts_in : (a : Identifier) → P a → All P (lefts s a)) (rights_in : (a : Identifier) → P a → All P (rights s a)) where
  -- they compare alike as siblings
  sibling_agree : (a b : Identifier) → P a → P b → sibling o s a b ≡ sibling q h a b
  sibling_agree a b k l =
      chain_before-agree false (fork_before o s) (fork_before q h) P fork (rights s a) (rights s b) (rights_in a k) (rights_in b l)
      ∙ (λ i. chain_before false (fork_before q h) (rights_same a k i) (rights_same b l i))

  -- and as elements
  pub before_agree : (a b : Identifier) → P a → P b → before_in o s a b ≡ before_in q h a b
  before_agree a b k l =
      chain_before-agree true (sibling o s) (sibling q h) P sibling_agree (lefts s a) (lefts s b) (lefts_in a k) (lefts_in b l)
      ∙ (λ i. chain_before true (sibling q h) (lefts_same a k i) (lefts_same b l i))
