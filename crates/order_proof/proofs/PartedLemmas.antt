-- How two chains compare by where they part, and that they part in one place at most.
use Rattle.std.proofs.Common.{Bool, [], false, inl, inr, not, refl, subst, sym, true, ◌++◌, ◌∙◌, ◌∷◌, ◌≡◌, ◌≢◌, ap}
use Rattle.std.specs.List.{All, Contains}
use Rattle.std.proofs.lemmas.Bool.{true≢false}
use Rattle.std.proofs.lemmas.List.{append-nil}
use Rattle.std.proofs.lemmas.List.Elements.{All-contains}
use Rattle.fugue_ids.specs.Identifiers.{Identifier}
use Rattle.fugue_ids.proofs.IdentifierLemmas.{cases_id}
use Rattle.fugue_ids.proofs.ListLemmas.{contains_middle}
use Rattle.origin_model.specs.order.Order.{chain_before}
use Rattle.origin_model.proofs.SharedLemmas.{chain_before-fork, common, heads}
use Rattle.order_proof.specs.Certificates.{Chain, IsProperPrefix, PartsAt}

-- the comparison, by the order R at the fork
module _ (f : Bool) (R : Identifier → Identifier → Bool) where
  -- where chains part, the members there decide
  pub before-parted : (xs ys u v : Chain) (a b : Identifier) → PartsAt xs ys u v a b → chain_before f R xs ys ≡ R a b
  before-parted xs ys u v a b t =
      (λ i. chain_before f R (t.whole_x i) (t.whole_y i))
      ∙ common f R t.common u v
      ∙ (λ i. chain_before f R (t.first i) (t.second i))
      ∙ chain_before-fork f R a b t.more_x t.more_y t.differ

  -- a proper prefix compares as `f` says
  pub before-prefix : (xs ys : Chain) → IsProperPrefix xs ys → chain_before f R xs ys ≡ f
  before-prefix xs ys t =
      (λ i. chain_before f R (sym (append-nil xs) i) (t.2 i)) ∙ common f R xs [] (t.0 ∷ t.1)

  -- and the longer one the other way
  pub before-longer : (xs ys : Chain) → IsProperPrefix ys xs → chain_before f R xs ys ≡ not f
  before-longer xs ys t =
      (λ i. chain_before f R (t.2 i) (sym (append-nil ys) i)) ∙ common f R ys (t.0 ∷ t.1) []

-- how two chains are related
pub data Related (xs ys : Chain) : Type 0 where
  same : xs ≡ ys → Related xs ys
  shorter : IsProperPrefix xs ys → Related xs ys
  longer : IsProperPrefix ys xs → Related xs ys
  parted : (u v : Chain) (a b : Identifier) → PartsAt xs ys u v a b → Related xs ys

-- one more member in front of both
related-cons : (x y : Identifier) (xs ys : Chain) → x ≡ y → Related xs ys → Related (x ∷ xs) (y ∷ ys)
related-cons x y xs ys e (same p) = same (λ i. e i ∷ p i)
related-cons x y xs ys e (shorter t) = shorter (t.0, t.1, λ i. sym e i ∷ t.2 i)
related-cons x y xs ys e (longer t) = longer (t.0, t.1, λ i. e i ∷ t.2 i)
related-cons x y xs ys e (parted u v a b t) =
    parted u v a b (record {
      common = x ∷ t.common;
      more_x = t.more_x;
      more_y = t.more_y;
      first = t.first;
      second = t.second;
      whole_x = λ i. x ∷ t.whole_x i;
      whole_y = λ i. sym e i ∷ t.whole_y i;
      differ = t.differ;
    })

-- any two chains are related so
pub related : (xs ys : Chain) → Related xs ys
related [] [] = same refl
related [] (y ∷ ys) = shorter (y, ys, refl)
related (x ∷ xs) [] = longer (x, xs, refl)
related (x ∷ xs) (y ∷ ys) =
    elim (cases_id x y) [
      | inl e ↦ related-cons x y xs ys e (related xs ys)
      | inr n ↦ parted (x ∷ xs) (y ∷ ys) x y (record { common = []; more_x = xs; more_y = ys; first = refl; second = refl; whole_x = refl; whole_y = refl; differ = n })
    ]

-- chains that part are no prefixes of each other
pub parted-shorter : (xs ys u v : Chain) (a b : Identifier) → PartsAt xs ys u v a b → IsProperPrefix xs ys → ⊥
parted-shorter xs ys u v a b t k = true≢false (sym (before-prefix true (λ _ _. false) xs ys k) ∙ before-parted true (λ _ _. false) xs ys u v a b t)

pub parted-longer : (xs ys u v : Chain) (a b : Identifier) → PartsAt xs ys u v a b → IsProperPrefix ys xs → ⊥
parted-longer xs ys u v a b t k = true≢false (sym (before-longer false (λ _ _. false) xs ys k) ∙ before-parted false (λ _ _. false) xs ys u v a b t)

-- two common fronts after which two chains go on differently are one
split_once : (c e : Chain) (a b g h : Identifier) (m n k l : Chain) → a ≢ b → g ≢ h → c ++ a ∷ m ≡ e ++ g ∷ k → c ++ b ∷ n ≡ e ++ h ∷ l → (a ∷ m ≡ g ∷ k) × (b ∷ n ≡ h ∷ l)
split_once [] [] a b g h m n k l d o p q = (p, q)
split_once [] (z ∷ e) a b g h m n k l d o p q = absurd (d (heads a z m (e ++ g ∷ k) p ∙ sym (heads b z n (e ++ h ∷ l) q)))
split_once (z ∷ c) [] a b g h m n k l d o p q = absurd (o (sym (heads z g (c ++ a ∷ m) k p) ∙ heads z h (c ++ b ∷ n) l q))
split_once (z ∷ c) (y ∷ e) a b g h m n k l d o p q =
    let r : c ++ a ∷ m ≡ e ++ g ∷ k = cc in
    let s : c ++ b ∷ n ≡ e ++ h ∷ l = cc in
    split_once c e a b g h m n k l d o r s

-- two chains part in one place
pub parted_once : (xs ys u v w z : Chain) (a b g h : Identifier) → PartsAt xs ys u v a b → PartsAt xs ys w z g h → (u ≡ w) × (v ≡ z) × (a ≡ g) × (b ≡ h)
parted_once xs ys u v w z a b g h t k =
    let p = split_once t.common k.common a b g h t.more_x t.more_y k.more_x k.more_y t.differ k.differ
    (sym (ap (λ l. t.common ++ l) t.first) ∙ sym t.whole_x ∙ k.whole_x ∙ ap (λ l. k.common ++ l) k.first)
    (sym (ap (λ l. t.common ++ l) t.second) ∙ sym t.whole_y ∙ k.whole_y ∙ ap (λ l. k.common ++ l) k.second) in
    (t.first ∙ p.0 ∙ sym k.first, t.second ∙ p.1 ∙ sym k.second, heads a g t.more_x k.more_x p.0, heads b h t.more_y k.more_y p.1)

-- what holds of all members of two chains holds of those at which they part
pub parted-in : (P : Identifier → Type 0) (xs ys u v : Chain) (a b : Identifier) → PartsAt xs ys u v a b → All P xs → All P ys → P a × P b
parted-in P xs ys u v a b t p q = (
  All-contains P xs a p (subst (λ l. Contains l a) (sym (t.whole_x ∙ ap (λ l. t.common ++ l) t.first)) (contains_middle t.common a t.more_x)),
  All-contains P ys b q (subst (λ l. Contains l b) (sym (t.whole_y ∙ ap (λ l. t.common ++ l) t.second)) (contains_middle t.common b t.more_y)),
)
