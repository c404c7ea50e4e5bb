-- What the walk over the operations tells of a chain of left origins.
use Rattle.std.proofs.Common.{arith, get_or, length, take, nat_eq, ℕ, ◌<◌, ◌≤◌, ◌+◌, ◌-◌, zero, suc, Bool, List, [], ap, append_assoc, false, inl, inr, refl, reverse, sym, true}
use Rattle.std.proofs.Common.{◌++◌, ◌∙◌, ◌∷◌, ◌≡◌, ◌↔◌}
use Rattle.std.specs.Prelude.{None, Option, Some, if◌then◌else◌}
use Rattle.std.proofs.lemmas.Bool.{cases_Bool, false≢true, ne_eqb}
use Rattle.std.proofs.lemmas.List.{append-nil, reverse-append, reverse-reverse, take_more, same_from_push}
use Rattle.fugue_ids.specs.Identifiers.{Identifier, id_eq}
use Rattle.fugue_ids.specs.declared.op.Op.{Op}
use Rattle.fugue_ids.proofs.IdentifierLemmas.{cases_origin, eq-id_eq, id_eq-true}
use Rattle.origin_model.specs.operations.History.{is_own, left_of}
use Rattle.origin_model.specs.order.Order.{lefts, next_left}
unfoldable use Rattle.origin_model.specs.order.Order.{chain}
use Rattle.origin_model.proofs.SharedLemmas.{chain-other, chain-own, chain_above}
use Rattle.order_proof.specs.Certificates.{Chain}
use Rattle.order_proof.specs.Chains.{ends_with, is_empty}
use Rattle.order_proof.specs.Positions.{IsAtPosition, as_of, history_at}
use Rattle.order_proof.proofs.PositionLemmas.{as_of-other, as_of-own}

pub reverse-cons : (m : Identifier) (ms : Chain) → reverse (m ∷ ms) ≡ reverse ms ++ m ∷ []
reverse-cons m ms = reverse-append (m ∷ []) ms

pub if_parts : (a b : Bool) → (if a then b else false) ≡ true → (a ≡ true) × (b ≡ true)
if_parts true b e = (refl, e)
if_parts false b e = absurd (false≢true e)

lefts-none : (x : Identifier) → lefts [] x ≡ []
unfolding chain
lefts-none x = refl

-- what the walk tells above x's own operation
abbrev above_test : List Op → Option Identifier → Chain → Bool
above_test older o ms = elim o [ None ↦ is_empty ms | Some y ↦ ends_with older y ms ]

empty_from : (c : Chain) → is_empty c ≡ true → c ≡ []
empty_from [] e = refl
empty_from (a ∷ c) e = absurd (false≢true e)

no_push : (c : Chain) (m : Identifier) → [] ≡ c ++ m ∷ [] → ⊥
no_push [] m e = cc
no_push (a ∷ c) m e = cc

-- nothing in front and nothing after
no_members : (c d : Chain) → [] ≡ c ++ d → d ≡ []
no_members [] d e = sym e
no_members (a ∷ c) d e = cc

empty_to : (ms : Chain) → reverse ms ≡ [] → is_empty ms ≡ true
empty_to [] e = refl
empty_to (m ∷ ms) e = absurd (no_push (reverse ms) m (sym e ∙ reverse-cons m ms))

-- the chain is a suffix of the chain of left origins of x
abbrev pub IsDown : List Op → Identifier → Chain → Type 0
IsDown h x down = (above : Chain) × (lefts h x ≡ above ++ down)

-- the walk finds a suffix
walk_from : (h : List Op) (x : Identifier) (rs : Chain) → ends_with h x rs ≡ true → IsDown h x (reverse rs)
walk_from h x [] e = (lefts h x, sym (append-nil (lefts h x)))
walk_from [] x (m ∷ ms) e = absurd (false≢true e)
walk_from (op ∷ older) x (m ∷ ms) e =
    elim (cases_Bool (is_own x op)) [
      | inr k ↦
          let r = walk_from older x (m ∷ ms) (sym (ap (λ b. if b then (if id_eq m x then above_test older (left_of op) ms else false) else ends_with older x (m ∷ ms)) k) ∙ e) in
          (r.0, chain-other next_left op older x k ∙ r.1)
      | inl k ↦
          let p = if_parts (id_eq m x) (above_test older (left_of op) ms)
          (sym (ap (λ b. if b then (if id_eq m x then above_test older (left_of op) ms else false) else ends_with older x (m ∷ ms)) k) ∙ e) in
          let d : m ≡ x = id_eq-true m x p.0 in
          let joined : (c : Chain) → chain_above next_left older (left_of op) ≡ c ++ reverse ms → lefts (op ∷ older) x ≡ c ++ reverse (m ∷ ms) = λ c q.
          chain-own next_left op older x k ∙ (λ i. q i ++ sym d i ∷ []) ∙ append_assoc c (reverse ms) (m ∷ []) ∙ ap (λ l. c ++ l) (sym (reverse-cons m ms)) in
          elim (cases_origin (left_of op)) [
            | inl f ↦
                let n : ms ≡ [] = empty_from ms (sym (ap (λ o. above_test older o ms) f) ∙ p.1) in
                ([], joined [] (ap (chain_above next_left older) f ∙ ap reverse (sym n)))
            | inr f ↦
                let r = walk_from older f.0 ms (sym (ap (λ o. above_test older o ms) f.1) ∙ p.1) in
                (r.0, joined r.0 (ap (chain_above next_left older) f.1 ∙ r.1))
          ]
    ]

-- and each
walk_to : (h : List Op) (x : Identifier) (rs c : Chain) → lefts h x ≡ c ++ reverse rs → ends_with h x rs ≡ true
walk_to h x [] c e = refl
walk_to [] x (m ∷ ms) c e = absurd (no_push (c ++ reverse ms) m (sym (lefts-none x) ∙ e ∙ ap (λ l. c ++ l) (reverse-cons m ms) ∙ sym (append_assoc c (reverse ms) (m ∷ []))))
walk_to (op ∷ older) x (m ∷ ms) c e =
    elim (cases_Bool (is_own x op)) [
      | inr k ↦ ap (λ b. if b then (if id_eq m x then above_test older (left_of op) ms else false) else ends_with older x (m ∷ ms)) k
          ∙ walk_to older x (m ∷ ms) c (sym (chain-other next_left op older x k) ∙ e)
      | inl k ↦
          let p = same_from_push (chain_above next_left older (left_of op)) (c ++ reverse ms) x m
          (sym (chain-own next_left op older x k) ∙ e ∙ ap (λ l. c ++ l) (reverse-cons m ms) ∙ sym (append_assoc c (reverse ms) (m ∷ []))) in
          ap (λ b. if b then (if id_eq m x then above_test older (left_of op) ms else false) else ends_with older x (m ∷ ms)) k
          ∙ ap (λ b. if b then above_test older (left_of op) ms else false) (eq-id_eq m x (sym p.1))
          ∙ elim (cases_origin (left_of op)) [
            | inl f ↦ ap (λ o. above_test older o ms) f ∙ empty_to ms (no_members c (reverse ms) (sym (ap (chain_above next_left older) f) ∙ p.0))
            | inr f ↦ ap (λ o. above_test older o ms) f.1 ∙ walk_to older f.0 ms c (sym (ap (chain_above next_left older) f.1) ∙ p.0)
          ]
    ]

pub walked : (h : List Op) (x : Identifier) (down : Chain) → (ends_with h x (reverse down) ≡ true) ↔ IsDown h x down
walked h x down = (
  (λ e. let r = walk_from h x (reverse down) e in (r.0, r.1 ∙ ap (λ l. r.0 ++ l) (reverse-reverse down))),
  λ r. walk_to h x (reverse down) r.0 (r.1 ∙ ap (λ l. r.0 ++ l) (sym (reverse-reverse down))),
)

-- the last of the first n, first of the reversed
pub reversed-take : {X : Type 0} (xs : List X) (n : ℕ) (d : X) → 0 < n → n ≤ length xs → reverse (take n xs) ≡ get_or xs (n - 1) d ∷ reverse (take (n - 1) xs)
reversed-take xs n d l k =
    let on : n ≡ n - 1 + 1 = omega (arith, l) in
    ap (λ m. reverse (take m xs)) on ∙ ap reverse (take_more xs (n - 1) d (omega (arith, l, k))) ∙ reverse-append (take (n - 1) xs) (get_or xs (n - 1) d ∷ [])

abbrev pub none : Identifier
none = record { replica = 0; counter = 0 }

-- the walk at its newest member, whose operation e is at the position `at` below n
ends-as_of : (h : List Op) (x m : Identifier) (ms : Chain) → ends_with h x (m ∷ ms) ≡ ends_with (as_of h x) x (m ∷ ms)
ends-as_of [] x m ms = refl
ends-as_of (op ∷ older) x m ms =
    elim (cases_Bool (is_own x op)) [
      | inl k ↦ ap (λ h. ends_with h x (m ∷ ms)) (sym (as_of-own op older x k))
      | inr k ↦
          ap (λ b. if b then (if id_eq m x then above_test older (left_of op) ms else false) else ends_with older x (m ∷ ms)) k
          ∙ ends-as_of older x m ms ∙ ap (λ h. ends_with h x (m ∷ ms)) (sym (as_of-other op older x k))
    ]

module _ (ops : List Op) (down : Chain) (n k : ℕ) (x : Identifier) (some : 0 < k) (within : k ≤ length down) where
  abbrev Turn : Bool → Type 0
  Turn t = t ≡ ends_with (history_at ops n) x (reverse (take k down))

  with_last : (m : Identifier) → m ≡ get_or down (k - 1) m → reverse (take k down) ≡ m ∷ reverse (take (k - 1) down)
  with_last m is = reversed-take down k m some within ∙ ap (λ z. z ∷ reverse (take (k - 1) down)) (sym is)

  -- its operation is not there
  pub walk_misses : as_of (history_at ops n) x ≡ [] → Turn false
  walk_misses e =
      sym (ap (ends_with (history_at ops n) x) (reversed-take down k none some within)
      ∙ ends-as_of (history_at ops n) x (get_or down (k - 1) none) (reverse (take (k - 1) down))
      ∙ ap (λ h. ends_with h x (get_or down (k - 1) none ∷ reverse (take (k - 1) down))) e)

  module _ (m : Identifier) (is : m ≡ get_or down (k - 1) m) (at : ℕ) (e : Op) (t : IsAtPosition ops n x at e) where
    abbrev older : List Op
    older = history_at ops at

    abbrev ms : Chain
    ms = reverse (take (k - 1) down)

    walk_turns : (b : Bool) → id_eq m x ≡ b → ends_with (history_at ops n) x (reverse (take k down)) ≡ (if b then above_test older (left_of e) ms else false)
    walk_turns b f =
        ap (ends_with (history_at ops n) x) (with_last m is)
        ∙ ends-as_of (history_at ops n) x m ms
        ∙ ap (λ h. ends_with h x (m ∷ ms)) t.newest
        ∙ ap (λ b. if b then (if id_eq m x then above_test older (left_of e) ms else false) else ends_with older x (m ∷ ms)) t.own
        ∙ ap (λ b. if b then above_test older (left_of e) ms else false) f

    pub walk_wrong : id_eq m x ≡ false → Turn false
    walk_wrong f = sym (walk_turns false f)

    pub walk_on : id_eq m x ≡ true → (y : Identifier) → left_of e ≡ Some y → Turn (ends_with older y ms)
    walk_on f y o = sym (walk_turns true f ∙ ap (λ o. above_test older o ms) o)

    pub walk_last : id_eq m x ≡ true → left_of e ≡ None → Turn (nat_eq (k - 1) 0)
    walk_last f o = empty_test (k - 1) (omega (arith, within)) ∙ sym (walk_turns true f ∙ ap (λ o. above_test older o ms) o)
      where
        empty_test : (j : ℕ) → j ≤ length down → nat_eq j 0 ≡ is_empty (reverse (take j down))
        empty_test zero d = refl
        empty_test (suc j) d = ne_eqb (suc j) 0 (λ e. omega (arith, e)) ∙ sym (ap is_empty (reversed-take down (suc j) none (omega arith) d))

-- the walk is over
pub walk_done : (h : List Op) (down : Chain) (k : ℕ) (x : Identifier) → k ≤ 0 → true ≡ ends_with h x (reverse (take k down))
walk_done h down k x l = let z : k ≡ 0 = omega (arith, l) in ap (λ n. ends_with h x (reverse (take n down))) (sym z)
