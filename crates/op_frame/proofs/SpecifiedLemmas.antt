-- Bytes that are specified, with bytes before them.
use Rattle.std.proofs.Common.{◌≡◌, ℕ, ◌+◌, ◌-◌, ◌≤◌, List, [], ◌++◌, length, take, refl, ap, sym, subst, ◌∙◌, arith}
use Rattle.std.specs.Prelude.{Option, Some, None, IfSome}
use Rattle.std.specs.Io.KnownBytes.{prepend_known}
use Rattle.std.proofs.Math.Seq.{take-append-add}

pub prepend_none : (left : Option (List ℕ)) → prepend_known [] left ≡ left
prepend_none None = refl
prepend_none (Some l) = refl

-- what holds of the first bytes with anything after them holds of what is specified
pub shows : (P : List ℕ → Type 0) (front : List ℕ) (left specified : Option (List ℕ)) → specified ≡ prepend_known front left
    → ((rest : List ℕ) → left ≡ Some rest → P (front ++ rest))
    → IfSome specified P
shows P front None specified is holds = subst (λ t. IfSome t P) (sym is) tt
shows P front (Some rest) specified is holds = subst (λ t. IfSome t P) (sym is) (holds rest refl)

pub some_is : {X : Type 0} (P : X → Type 0) (left : Option X) (rest : X) → IfSome left P → left ≡ Some rest → P rest
some_is P left rest holds is = subst (λ o. IfSome o P) is holds

-- a front with the rest up to a limit
pub take_past : (front rest : List ℕ) (limit offset : ℕ) → offset ≡ length front → offset ≤ limit → take limit (front ++ rest) ≡ front ++ take (limit - offset) rest
take_past front rest limit offset at inside =
    let count : limit ≡ length front + (limit - offset) = omega (arith, at, inside) in
    ap (λ (n : ℕ). take n (front ++ rest)) count ∙ take-append-add front rest (limit - offset)
