-- Where an element's operation stands, and what a history is as of it.
use Rattle.std.proofs.Common.{arith, get_or, length, take, ℕ, ◌<◌, ◌≤◌, ◌+◌, zero, suc, List, [], ap, false, inl, inr, refl, reverse, subst, sym, true, ◌∙◌, ◌∷◌, ◌≡◌}
use Rattle.std.specs.Prelude.{None, Option, Some, if◌then◌else◌}
use Rattle.std.proofs.lemmas.Bool.{cases_Bool, cases_lt, false≢true}
use Rattle.std.proofs.lemmas.List.{length-reverse, length-take-le, reverse-append, take_all, take_more}
use Rattle.std.proofs.lemmas.Option.{none-some, same_Some}
use Rattle.fugue_ids.specs.Identifiers.{Identifier}
use Rattle.fugue_ids.specs.declared.op.Op.{Op}
use Rattle.fugue_ids.specs.declared.op.Op.TheVariants.{Delete}
use Rattle.origin_model.specs.operations.History.{holder, holds, is_own, place}
use Rattle.origin_model.specs.declared.operations.Place.{Place}
use Rattle.origin_model.specs.operations.Verdict.{Lawful, id_held}
use Rattle.origin_model.proofs.SharedLemmas.{holder-other, holder-own, holds-other, holds-own, own_id, when_ready}
use Rattle.order_proof.specs.Positions.{IsAtPosition, as_of, history_at, position_of}

position-own : (op : Op) (older : List Op) (x : Identifier) → is_own x op ≡ true → position_of x (op ∷ older) ≡ Some (length older)
position-own op older x e = ap (λ b. if b then Some (length older) else position_of x older) e

position-other : (op : Op) (older : List Op) (x : Identifier) → is_own x op ≡ false → position_of x (op ∷ older) ≡ position_of x older
position-other op older x e = ap (λ b. if b then Some (length older) else position_of x older) e

pub as_of-own : (op : Op) (older : List Op) (x : Identifier) → is_own x op ≡ true → as_of (op ∷ older) x ≡ op ∷ older
as_of-own op older x e = ap (λ b. if b then op ∷ older else as_of older x) e

pub as_of-other : (op : Op) (older : List Op) (x : Identifier) → is_own x op ≡ false → as_of (op ∷ older) x ≡ as_of older x
as_of-other op older x e = ap (λ b. if b then op ∷ older else as_of older x) e

abbrev none : Op
none = Delete (record { replica = 0; counter = 0 })

-- no position is had of what is not held
no_position : (h : List Op) (x : Identifier) → holds h x ≡ false → position_of x h ≡ None
no_position [] x e = refl
no_position (op ∷ h) x e =
    elim (cases_Bool (is_own x op)) [
      | inl k ↦ absurd (false≢true (sym e ∙ holds-own op h x k))
      | inr k ↦ position-other op h x k ∙ no_position h x (sym (holds-other op h x k) ∙ e)
    ]

-- an operation's identifier was not held before it came
pub new_id : (h : List Op) (op : Op) (x : Identifier) → Lawful (op ∷ h) → is_own x op ≡ true → holds h x ≡ false
new_id h op x w own = ap (id_held h) (sym (own_id op x own)) ∙ (when_ready h op w.0).fresh

-- all operations
pub all_ops : (ops : List Op) → reverse ops ≡ history_at ops (length ops)
all_ops ops = ap reverse (sym (take_all (length ops) ops (omega arith)))

module _ (ops : List Op) (x : Identifier) where
  -- the newest of the first n and one more
  newest_at : (m : ℕ) (e : Op) → m < length ops → history_at ops (suc m) ≡ get_or ops m e ∷ history_at ops m
  newest_at m e l =
      let on : suc m ≡ m + 1 = omega arith in
      ap (history_at ops) on ∙ ap reverse (take_more ops m e l) ∙ reverse-append (take m ops) (get_or ops m e ∷ [])

  long : (m : ℕ) → m ≤ length ops → length (history_at ops m) ≡ m
  long m l = length-reverse (take m ops) ∙ length-take-le m ops l

  -- the position is that of an operation with this identifier
  at_own : (m : ℕ) (e : Op) → m ≤ length ops → (at : ℕ) → position_of x (history_at ops m) ≡ Some at → (at < m) × (is_own x (get_or ops at e) ≡ true)
  at_own zero e l at f = absurd (none-some at f)
  at_own (suc m) e l at f =
      let short : m < length ops = omega (arith, l) in
      let g = newest_at m e short in
      elim (cases_Bool (is_own x (get_or ops m e))) [
        | inl k ↦
            let is : m ≡ at = sym (long m (omega (arith, l))) ∙ same_Some _ _ (sym (ap (position_of x) g ∙ position-own (get_or ops m e) (history_at ops m) x k) ∙ f) in
            (omega (arith, is), subst (λ n. is_own x (get_or ops n e) ≡ true) is k)
        | inr k ↦
            let r = at_own m e (omega (arith, l)) at (sym (ap (position_of x) g ∙ position-other (get_or ops m e) (history_at ops m) x k) ∙ f) in
            (omega (arith, r.0), r.1)
      ]

  -- a history up to which it is among the first n is the same as of it
  as_of_at : (m : ℕ) (e : Op) → m ≤ length ops → (n at : ℕ) → n ≤ m → at < n → position_of x (history_at ops m) ≡ Some at → as_of (history_at ops n) x ≡ history_at ops (suc at)
  as_of_at zero e l n at k j f = absurd (none-some at f)
  as_of_at (suc m) e l n at k j f =
      let short : m < length ops = omega (arith, l) in
      let g = newest_at m e short in
      elim (cases_Bool (is_own x (get_or ops m e))) [
        | inl o ↦
            let is : m ≡ at = sym (long m (omega (arith, l))) ∙ same_Some _ _ (sym (ap (position_of x) g ∙ position-own (get_or ops m e) (history_at ops m) x o) ∙ f) in
            let whole : n ≡ suc m = omega (arith, is, k, j) in
            ap (λ z. as_of (history_at ops z) x) whole ∙ ap (λ h. as_of h x) g ∙ as_of-own (get_or ops m e) (history_at ops m) x o ∙ sym g ∙ ap (λ z. history_at ops (suc z)) is
        | inr o ↦
            let q : position_of x (history_at ops m) ≡ Some at = sym (ap (position_of x) g ∙ position-other (get_or ops m e) (history_at ops m) x o) ∙ f in
            let below : at < m = (at_own m e (omega (arith, l)) at q).0 in
            elim (cases_lt m n) [
              | inr s ↦ as_of_at m e (omega (arith, l)) n at s j q
              | inl s ↦
                  let whole : n ≡ suc m = omega (arith, s, k) in
                  ap (λ z. as_of (history_at ops z) x) whole ∙ ap (λ h. as_of h x) g ∙ as_of-other (get_or ops m e) (history_at ops m) x o
                  ∙ as_of_at m e (omega (arith, l)) m at (omega arith) below q
            ]
      ]

  -- it is not among the first n
  as_of_none : (m : ℕ) (e : Op) → m ≤ length ops → (n : ℕ) → n ≤ m → position_of x (history_at ops m) ≡ None → as_of (history_at ops n) x ≡ []
  as_of_none zero e l n k f = let z : n ≡ 0 = omega (arith, k) in ap (λ m. as_of (history_at ops m) x) z
  as_of_none (suc m) e l n k f =
      let short : m < length ops = omega (arith, l) in
      let g = newest_at m e short in
      elim (cases_Bool (is_own x (get_or ops m e))) [
        | inl o ↦ absurd (none-some (length (history_at ops m)) (sym f ∙ ap (position_of x) g ∙ position-own (get_or ops m e) (history_at ops m) x o))
        | inr o ↦
            let q : position_of x (history_at ops m) ≡ None = sym (ap (position_of x) g ∙ position-other (get_or ops m e) (history_at ops m) x o) ∙ f in
            elim (cases_lt m n) [
              | inr s ↦ as_of_none m e (omega (arith, l)) n s q
              | inl s ↦
                  let whole : n ≡ suc m = omega (arith, s, k) in
                  ap (λ z. as_of (history_at ops z) x) whole ∙ ap (λ h. as_of h x) g ∙ as_of-other (get_or ops m e) (history_at ops m) x o
                  ∙ as_of_none m e (omega (arith, l)) m (omega arith) q
            ]
      ]

  -- in a lawful history, what comes at n or later is not among the first n
  as_of_later : (m : ℕ) (e : Op) → m ≤ length ops → Lawful (history_at ops m) → (n at : ℕ) → n ≤ m → n ≤ at → position_of x (history_at ops m) ≡ Some at
      → as_of (history_at ops n) x ≡ []
  as_of_later zero e l w n at k j f = absurd (none-some at f)
  as_of_later (suc m) e l w n at k j f =
      let short : m < length ops = omega (arith, l) in
      let g = newest_at m e short in
      let v : Lawful (get_or ops m e ∷ history_at ops m) = subst Lawful g w in
      elim (cases_Bool (is_own x (get_or ops m e))) [
        | inl o ↦
            let is : m ≡ at = sym (long m (omega (arith, l))) ∙ same_Some _ _ (sym (ap (position_of x) g ∙ position-own (get_or ops m e) (history_at ops m) x o) ∙ f) in
            as_of_none m e (omega (arith, l)) n (omega (arith, is, j)) (no_position (history_at ops m) x (new_id (history_at ops m) (get_or ops m e) x v o))
        | inr o ↦
            let q : position_of x (history_at ops m) ≡ Some at = sym (ap (position_of x) g ∙ position-other (get_or ops m e) (history_at ops m) x o) ∙ f in
            let below : at < m = (at_own m e (omega (arith, l)) at q).0 in
            as_of_later m e (omega (arith, l)) v.1 n at (omega (arith, below, j)) j q
      ]

  -- the first n operations are no more than there are
  capped : (n : ℕ) → (k : ℕ) × (k ≤ length ops) × (history_at ops n ≡ history_at ops k) × (k ≤ n) × ((at : ℕ) → at < length ops → at < n → at < k)
  capped n =
      elim (cases_lt n (length ops)) [
        | inl s ↦ (n, omega (arith, s), refl, omega arith, λ at a b. b)
        | inr s ↦ (length ops, omega arith, ap reverse (take_all n ops s ∙ sym (take_all (length ops) ops (omega arith))), s, λ at a b. a)
      ]

  pub position_within : (at : ℕ) → position_of x (reverse ops) ≡ Some at → at < length ops
  position_within at f = (at_own (length ops) none (omega arith) at (sym (ap (position_of x) (all_ops ops)) ∙ f)).0

  -- where the operation is among the first n
  pub found_at : (n at : ℕ) (op : Op) → position_of x (reverse ops) ≡ Some at → at < n → op ≡ get_or ops at op → IsAtPosition ops n x at op
  found_at n at op f below is =
      let q : position_of x (history_at ops (length ops)) ≡ Some at = sym (ap (position_of x) (all_ops ops)) ∙ f in
      let own = at_own (length ops) op (omega arith) at q in
      let c = capped n in
      record {
        below = below;
        own = ap (is_own x) is ∙ own.1;
        newest =
            ap (λ h. as_of h x) (c.2) ∙ as_of_at (length ops) op (omega arith) c.0 at c.1 (c.4 at own.0 below) q
            ∙ newest_at at op own.0 ∙ ap (λ o. o ∷ history_at ops at) (sym is);
      }

  -- where it comes later
  pub found_later : Lawful (reverse ops) → (n at : ℕ) → position_of x (reverse ops) ≡ Some at → n ≤ at → as_of (history_at ops n) x ≡ []
  found_later w n at f k =
      let q : position_of x (history_at ops (length ops)) ≡ Some at = sym (ap (position_of x) (all_ops ops)) ∙ f in
      let c = capped n in
      ap (λ h. as_of h x) (c.2) ∙ as_of_later (length ops) none (omega arith) (subst Lawful (all_ops ops) w) c.0 at c.1 (omega (arith, c.3, k)) q

  -- where it is nowhere
  pub found_nowhere : (n : ℕ) → position_of x (reverse ops) ≡ None → as_of (history_at ops n) x ≡ []
  found_nowhere n f =
      let q : position_of x (history_at ops (length ops)) ≡ None = sym (ap (position_of x) (all_ops ops)) ∙ f in
      let c = capped n in
      ap (λ h. as_of h x) (c.2) ∙ as_of_none (length ops) none (omega arith) c.0 c.1 q

-- the operation that holds x is the newest as of it
pub holder-as_of : (h : List Op) (x : Identifier) → holder h x ≡ holder (as_of h x) x
holder-as_of [] x = refl
holder-as_of (op ∷ h) x =
    elim (cases_Bool (is_own x op)) [
      | inl k ↦ ap (λ g. holder g x) (sym (as_of-own op h x k))
      | inr k ↦ holder-other op h x k ∙ holder-as_of h x ∙ ap (λ g. holder g x) (sym (as_of-other op h x k))
    ]

pub holder_at : (ops : List Op) (n : ℕ) (x : Identifier) (at : ℕ) (op : Op) → IsAtPosition ops n x at op → holder (history_at ops n) x ≡ Some op
holder_at ops n x at op t = holder-as_of (history_at ops n) x ∙ ap (λ g. holder g x) t.newest ∙ holder-own op (history_at ops at) x t.own

pub holder_none : (ops : List Op) (n : ℕ) (x : Identifier) → as_of (history_at ops n) x ≡ [] → holder (history_at ops n) x ≡ None
holder_none ops n x e = holder-as_of (history_at ops n) x ∙ ap (λ g. holder g x) e

abbrev pub place_by : Option Op → Option Place
place_by o = elim o [ None ↦ None | Some op ↦ place op ]
