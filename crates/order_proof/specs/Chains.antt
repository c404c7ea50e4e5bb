-- Chains of origins, as the code walks them.
use Rattle.std.specs.Prelude.{Option, Some, None, Bool, true, false, if◌then◌else◌, List, [], ◌∷◌, reverse}
use Rattle.fugue_ids.specs.Identifiers.{Identifier, id_eq, origin_eq}
use Rattle.fugue_ids.specs.declared.op.Op.{Op}
use Rattle.origin_model.specs.operations.History.{is_own, left_of, right_of}
use Rattle.origin_model.specs.order.Order.{left_at}
use Rattle.order_proof.specs.Certificates.{Chain}

-- the chain is at its end
abbrev pub is_empty : Chain → Bool
is_empty [] = true
is_empty (a ∷ more) = false

-- the chain of left origins of x ends with the reverse of this list
abbrev pub ends_with : List Op → Identifier → Chain → Bool
ends_with h x [] = true
ends_with [] x (m ∷ ms) = false
ends_with (op ∷ older) x (m ∷ ms) =
    if is_own x op
    then (if id_eq m x then elim (left_of op) [ None ↦ is_empty ms | Some y ↦ ends_with older y ms ] else false)
    else ends_with older x (m ∷ ms)

-- the chain of left origins of x ends with this one, which has a member
abbrev pub is_down : List Op → Identifier → Chain → Bool
is_down h x [] = false
is_down h x (a ∷ more) = ends_with h x (reverse (a ∷ more))

-- the chain of right origins from x up, as long as elements have this left origin
unfoldable pub beside_up : List Op → (left : Option Identifier) → Identifier → Chain
beside_up [] left x = []
beside_up (op ∷ older) left x =
    elim (is_own x op) [
      | true ↦ elim (origin_eq (left_of op) left)
          [ true ↦ x ∷ elim (right_of op) [ None ↦ [] | Some r ↦ beside_up older left r ] | false ↦ [] ]
      | false ↦ beside_up older left x
    ]

-- two chains are the same
abbrev pub chain_eq : Chain → Chain → Bool
chain_eq [] [] = true
chain_eq [] (y ∷ ys) = false
chain_eq (x ∷ xs) [] = false
chain_eq (x ∷ xs) (y ∷ ys) = if id_eq x y then chain_eq xs ys else false

-- the chain of right origins of x is this one
abbrev pub is_rights : List Op → Identifier → Chain → Bool
is_rights h x c = chain_eq (beside_up h (left_at h x) x) (reverse c)
