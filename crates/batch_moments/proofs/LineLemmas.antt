-- Lines that are written one after another.
use Rattle.std.proofs.Common.{suc, take, ◌-◌, List, add-one, ap, arith, drop, drop-cons, get_or, length, sym, ℕ, ◌+◌, ◌<◌, ◌∙◌, ◌∷◌, ◌≡◌}
use Rattle.fugue_ids.specs.declared.op.Op.{Op}
use Rattle.batch_moments.specs.Counts.{reported_parts}
use Rattle.batch_moments.specs.Lines.{ops_between, lines_of_moments}

-- the next one of some moments
module _ (moments : List ℕ) (i next : ℕ) (below : i < length moments) (is : next ≡ get_or moments i 0) where
  left : drop i moments ≡ next ∷ drop (i + 1) moments
  left = drop-cons moments i 0 below ∙ (λ k. sym is k ∷ drop (sym (add-one i) k) moments)

  pub lines_next : (from : ℕ) (ops : List Op)
      → lines_of_moments from (drop i moments) ops ≡ record { moment = next; parts = reported_parts (ops_between from next ops) } ∷ lines_of_moments next (drop (i + 1) moments) ops
  lines_next from ops = ap (λ (l : List ℕ). lines_of_moments from l ops) left

-- without the first of them
pub without_first : (left : ℕ) (ops rest : List Op) (op : Op) → 0 < left → ops ≡ op ∷ rest → (take left ops ≡ op ∷ take (left - 1) rest) × (drop left ops ≡ drop (left - 1) rest)
without_first left ops rest op some is = let e : left ≡ suc (left - 1) = omega (arith, some) in (λ i. take (e i) (is i), λ i. drop (e i) (is i))
