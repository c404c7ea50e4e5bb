-- The chain of right origins, walked from its element up.
use Rattle.std.proofs.Common.{arith, get_or, length, nat_eq, suc, take, zero, ℕ, ◌-◌, ◌<◌, ◌≤◌, Bool, List, [], ap, false, inl, not, inr, refl, reverse, sym, true, ◌++◌, ◌∙◌, ◌∷◌}
use Rattle.std.proofs.Common.{◌≡◌}
use Rattle.std.specs.Prelude.{None, Option, Some, if◌then◌else◌}
use Rattle.std.specs.Option.{option_eq}
use Rattle.std.proofs.lemmas.Bool.{cases_Bool, false≢true, ne_eqb}
use Rattle.std.proofs.lemmas.List.{reverse-append, reverse-reverse}
use Rattle.fugue_ids.specs.Identifiers.{Identifier, id_eq, origin_eq}
use Rattle.fugue_ids.specs.declared.op.Op.{Op}
use Rattle.fugue_ids.proofs.IdentifierLemmas.{eq-id_eq, id_eq-false, id_eq-refl, id_eq-true, ne-id_eq, origin_eq-refl, origin_eq-true}
use Rattle.origin_model.specs.operations.History.{is_own, left_of, right_of}
unfoldable use Rattle.origin_model.specs.order.Order.{chain}
use Rattle.origin_model.specs.order.Order.{has_left, left_at, next_right, right_beside, rights}
use Rattle.origin_model.proofs.SharedLemmas.{chain-other, chain-own, chain_above, holder-other, holder-own, left_by}
use Rattle.order_proof.specs.Certificates.{Chain}
unfoldable use Rattle.order_proof.specs.Chains.{beside_up}
use Rattle.order_proof.specs.Chains.{chain_eq, is_rights}
use Rattle.order_proof.specs.Positions.{IsAtPosition, as_of, history_at}
use Rattle.order_proof.proofs.PositionLemmas.{as_of-other, as_of-own}
use Rattle.order_proof.proofs.WalkLemmas.{none, reverse-cons, reversed-take}

-- the element is the newest, and has this left origin, or another one; or it is older
abbrev above_it : List Op → Option Identifier → Option Identifier → Chain
above_it older left o = elim o [ None ↦ [] | Some r ↦ beside_up older left r ]

pub beside-own : (op : Op) (older : List Op) (left : Option Identifier) (x : Identifier) → is_own x op ≡ true → origin_eq (left_of op) left ≡ true
    → beside_up (op ∷ older) left x ≡ x ∷ above_it older left (right_of op)
unfolding beside_up
beside-own op older left x e f = rw (e, beside_up) (rw f refl)

pub beside-parted : (op : Op) (older : List Op) (left : Option Identifier) (x : Identifier) → is_own x op ≡ true → origin_eq (left_of op) left ≡ false
    → beside_up (op ∷ older) left x ≡ []
unfolding beside_up
beside-parted op older left x e f = rw (e, beside_up) (rw f refl)

pub beside-other : (op : Op) (older : List Op) (left : Option Identifier) (x : Identifier) → is_own x op ≡ false → beside_up (op ∷ older) left x ≡ beside_up older left x
unfolding beside_up
beside-other op older left x e = rw (e, beside_up)

beside-none : (left : Option Identifier) (x : Identifier) → beside_up [] left x ≡ []
unfolding beside_up
beside-none left x = refl

chain-none : (x : Identifier) → rights [] x ≡ []
unfolding chain
chain-none x = refl

-- an element that has another left origin is not in the chain
abbrev has_by : Option Identifier → Option Op → Bool
has_by left o = elim o [ None ↦ false | Some op ↦ origin_eq (left_of op) left ]

parted : (h : List Op) (left : Option Identifier) (x : Identifier) → has_left h x left ≡ false → beside_up h left x ≡ []
parted [] left x e = beside-none left x
parted (op ∷ older) left x e =
    elim (cases_Bool (is_own x op)) [
      | inl k ↦ beside-parted op older left x k (sym (ap (has_by left) (holder-own op older x k)) ∙ e)
      | inr k ↦ beside-other op older left x k ∙ parted older left x (sym (ap (has_by left) (holder-other op older x k)) ∙ e)
    ]

-- what is beside a left origin, and the chain above it
above_is : (older : List Op) (left : Option Identifier) → ((r : Identifier) → has_left older r left ≡ true → rights older r ≡ reverse (beside_up older left r))
    → (o : Option Identifier) → chain_above next_right older (right_beside older left o) ≡ reverse (above_it older left o)
above_is older left f None = refl
above_is older left f (Some r) =
    elim (cases_Bool (has_left older r left)) [
      | inl k ↦ ap (λ b. chain_above next_right older (if b then Some r else None)) k ∙ f r k
      | inr k ↦ ap (λ b. chain_above next_right older (if b then Some r else None)) k ∙ ap reverse (sym (parted older left r k))
    ]

-- one that has it has this chain of right origins
with_left : (h : List Op) (left : Option Identifier) (x : Identifier) → has_left h x left ≡ true → rights h x ≡ reverse (beside_up h left x)
with_left [] left x e = absurd (false≢true e)
with_left (op ∷ older) left x e =
    elim (cases_Bool (is_own x op)) [
      | inl k ↦
          let f : origin_eq (left_of op) left ≡ true = sym (ap (has_by left) (holder-own op older x k)) ∙ e in
          chain-own next_right op older x k
          ∙ ap (λ l. chain_above next_right older (right_beside older l (right_of op)) ++ x ∷ []) (origin_eq-true (left_of op) left f)
          ∙ ap (λ z. z ++ x ∷ []) (above_is older left (λ r j. with_left older left r j) (right_of op))
          ∙ sym (reverse-cons x (above_it older left (right_of op)))
          ∙ ap reverse (sym (beside-own op older left x k f))
      | inr k ↦ chain-other next_right op older x k ∙ with_left older left x (sym (ap (has_by left) (holder-other op older x k)) ∙ e)
          ∙ ap reverse (sym (beside-other op older left x k))
    ]

-- the chain of right origins, by the left origin of its element
pub rights_beside : (h : List Op) (x : Identifier) → rights h x ≡ reverse (beside_up h (left_at h x) x)
rights_beside [] x = chain-none x ∙ ap reverse (sym (beside-none None x))
rights_beside (op ∷ older) x =
    elim (cases_Bool (is_own x op)) [
      | inl k ↦
          let own : left_at (op ∷ older) x ≡ left_of op = ap left_by (holder-own op older x k) in
          with_left (op ∷ older) (left_at (op ∷ older) x) x
          (ap (has_by (left_at (op ∷ older) x)) (holder-own op older x k) ∙ ap (origin_eq (left_of op)) own ∙ origin_eq-refl (left_of op))
      | inr k ↦
          let other : left_at (op ∷ older) x ≡ left_at older x = ap left_by (holder-other op older x k) in
          chain-other next_right op older x k ∙ rights_beside older x
          ∙ ap reverse (sym (beside-other op older (left_at older x) x k) ∙ ap (λ l. beside_up (op ∷ older) l x) (sym other))
    ]

-- the same chain, by the test
chain_eq-true : (c d : Chain) → chain_eq c d ≡ true → c ≡ d
chain_eq-true [] [] e = refl
chain_eq-true [] (y ∷ d) e = absurd (false≢true e)
chain_eq-true (x ∷ c) [] e = absurd (false≢true e)
chain_eq-true (x ∷ c) (y ∷ d) e =
    elim (cases_Bool (id_eq x y)) [
      | inl k ↦ let f = chain_eq-true c d (sym (ap (λ b. if b then chain_eq c d else false) k) ∙ e) in λ i. id_eq-true x y k i ∷ f i
      | inr k ↦ absurd (false≢true (sym (ap (λ b. if b then chain_eq c d else false) k) ∙ e))
    ]

chain_eq-refl : (c : Chain) → chain_eq c c ≡ true
chain_eq-refl [] = refl
chain_eq-refl (x ∷ c) = ap (λ b. if b then chain_eq c c else false) (id_eq-refl x) ∙ chain_eq-refl c

pub rights_from : (h : List Op) (x : Identifier) (c : Chain) → is_rights h x c ≡ true → rights h x ≡ c
rights_from h x c e = rights_beside h x ∙ ap reverse (chain_eq-true (beside_up h (left_at h x) x) (reverse c) e) ∙ reverse-reverse c

pub rights_to : (h : List Op) (x : Identifier) (c : Chain) → rights h x ≡ c → is_rights h x c ≡ true
rights_to h x c e =
    let up : List Identifier = beside_up h (left_at h x) x in
    ap (λ z. chain_eq up (reverse z)) (sym e ∙ rights_beside h x) ∙ ap (chain_eq up) (reverse-reverse up) ∙ chain_eq-refl up

-- the walk up is over: nothing is left of the chain that is given
nothing_left : (chain : Chain) (k : ℕ) → k ≤ length chain → nat_eq k 0 ≡ chain_eq [] (reverse (take k chain))
nothing_left chain zero d = refl
nothing_left chain (suc k) d =
    ne_eqb (suc k) 0 (λ e. omega (arith, e)) ∙ sym (ap (chain_eq []) (reversed-take chain (suc k) none (omega arith) d))

-- the same as of its element
beside-as_of : (h : List Op) (left : Option Identifier) (x : Identifier) → beside_up h left x ≡ beside_up (as_of h x) left x
beside-as_of [] left x = refl
beside-as_of (op ∷ older) left x =
    elim (cases_Bool (is_own x op)) [
      | inl k ↦ ap (λ h. beside_up h left x) (sym (as_of-own op older x k))
      | inr k ↦ beside-other op older left x k ∙ beside-as_of older left x ∙ ap (λ h. beside_up h left x) (sym (as_of-other op older x k))
    ]

-- an element that is not there has none
pub beside_missing : (h : List Op) (left : Option Identifier) (x : Identifier) → as_of h x ≡ [] → beside_up h left x ≡ []
beside_missing h left x e = beside-as_of h left x ∙ ap (λ g. beside_up g left x) e ∙ beside-none left x

pub walk_over : (h : List Op) (chain : Chain) (k : ℕ) (left : Option Identifier) (x : Identifier) → as_of h x ≡ [] → k ≤ length chain
    → nat_eq k 0 ≡ chain_eq (beside_up h left x) (reverse (take k chain))
walk_over h chain k left x e d = nothing_left chain k d ∙ ap (λ up. chain_eq up (reverse (take k chain))) (sym (beside_missing h left x e))

-- where its operation e is at the position `at` below n, the walk goes on from there
module _ (ops : List Op) (n : ℕ) (left : Option Identifier) (x : Identifier) (at : ℕ) (e : Op) (there : IsAtPosition ops n x at e) where
  at_newest : beside_up (history_at ops n) left x ≡ beside_up (e ∷ history_at ops at) left x
  at_newest = beside-as_of (history_at ops n) left x ∙ ap (λ h. beside_up h left x) there.newest

  pub climb_parted : origin_eq (left_of e) left ≡ false → beside_up (history_at ops n) left x ≡ []
  climb_parted f = at_newest ∙ beside-parted e (history_at ops at) left x there.own f

  pub climb_on : origin_eq (left_of e) left ≡ true → (r : Identifier) → right_of e ≡ Some r → beside_up (history_at ops n) left x ≡ x ∷ beside_up (history_at ops at) left r
  climb_on f r q = at_newest ∙ beside-own e (history_at ops at) left x there.own f ∙ ap (λ o. x ∷ above_it (history_at ops at) left o) q

  pub climb_last : origin_eq (left_of e) left ≡ true → right_of e ≡ None → beside_up (history_at ops n) left x ≡ x ∷ []
  climb_last f q = at_newest ∙ beside-own e (history_at ops at) left x there.own f ∙ ap (λ o. x ∷ above_it (history_at ops at) left o) q

-- the same origin, as `==` compares
pub origin_same : (o q : Option Identifier) → option_eq id_eq o q ≡ origin_eq o q
origin_same None None = refl
origin_same None (Some b) = refl
origin_same (Some a) None = refl
origin_same (Some a) (Some b) = refl

id_eq-turned : (a b : Identifier) → id_eq a b ≡ id_eq b a
id_eq-turned a b =
    elim (cases_Bool (id_eq a b)) [
      | inl k ↦ k ∙ sym (eq-id_eq b a (sym (id_eq-true a b k)))
      | inr k ↦ k ∙ sym (ne-id_eq b a (λ e. id_eq-false a b k (sym e)))
    ]

-- a turn of the walk, at x's own operation e
module _ (ops : List Op) (chain : Chain) (n k : ℕ) (left : Option Identifier) (x : Identifier) (at : ℕ) (e : Op) (there : IsAtPosition ops n x at e) (d : k ≤ length chain) where
  abbrev Turn : Bool → Type 0
  Turn t = t ≡ chain_eq (beside_up (history_at ops n) left x) (reverse (take k chain))

  with_newest : beside_up (history_at ops n) left x ≡ beside_up (e ∷ history_at ops at) left x
  with_newest = beside-as_of (history_at ops n) left x ∙ ap (λ h. beside_up h left x) there.newest

  -- it has another left origin
  pub turn_parted : origin_eq (left_of e) left ≡ false → Turn (nat_eq k 0)
  turn_parted f =
      nothing_left chain k d
      ∙ ap (λ up. chain_eq up (reverse (take k chain))) (sym (beside-parted e (history_at ops at) left x there.own f))
      ∙ ap (λ up. chain_eq up (reverse (take k chain))) (sym with_newest)

  -- it has this one, and is compared with the member of the chain that is given
  module _ (f : origin_eq (left_of e) left ≡ true) where
    above : Chain
    above = above_it (history_at ops at) left (right_of e)

    with_above : beside_up (history_at ops n) left x ≡ x ∷ above
    unfolding above
    with_above = with_newest ∙ beside-own e (history_at ops at) left x there.own f

    pub turn_short : k ≡ 0 → Turn false
    turn_short z = sym ((λ j. chain_eq (with_above j) (reverse (take (z j) chain))))

    compared : 0 < k → (m : Identifier) → m ≡ get_or chain (k - 1) m → (t : Bool) → id_eq m x ≡ t
        → chain_eq (x ∷ above) (reverse (take k chain)) ≡ (if t then chain_eq above (reverse (take (k - 1) chain)) else false)
    compared l m q t g =
        ap (chain_eq (x ∷ above)) (reversed-take chain k m l d ∙ ap (λ z. z ∷ reverse (take (k - 1) chain)) (sym q))
        ∙ ap (λ z. if z then chain_eq above (reverse (take (k - 1) chain)) else false) (id_eq-turned x m ∙ g)

    pub turn_wrong : 0 < k → (m : Identifier) → m ≡ get_or chain (k - 1) m → id_eq m x ≡ false → Turn false
    turn_wrong l m q g = sym (ap (λ up. chain_eq up (reverse (take k chain))) with_above ∙ compared l m q false g)

    pub turn_on : 0 < k → (m : Identifier) → m ≡ get_or chain (k - 1) m → id_eq m x ≡ true → (r : Identifier) → right_of e ≡ Some r
        → Turn (chain_eq (beside_up (history_at ops at) left r) (reverse (take (k - 1) chain)))
    unfolding above
    turn_on l m p g r q =
        ap (λ o. chain_eq (above_it (history_at ops at) left o) (reverse (take (k - 1) chain))) (sym q)
        ∙ sym (compared l m p true g) ∙ sym (ap (λ up. chain_eq up (reverse (take k chain))) with_above)

    pub turn_last : 0 < k → (m : Identifier) → m ≡ get_or chain (k - 1) m → id_eq m x ≡ true → right_of e ≡ None → Turn (nat_eq (k - 1) 0)
    unfolding above
    turn_last l m p g q =
        nothing_left chain (k - 1) (omega (arith, d))
        ∙ ap (λ o. chain_eq (above_it (history_at ops at) left o) (reverse (take (k - 1) chain))) (sym q)
        ∙ sym (compared l m p true g) ∙ sym (ap (λ up. chain_eq up (reverse (take k chain))) with_above)
