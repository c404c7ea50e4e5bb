-- The order of identifiers, and that of their blocks.
use Rattle.std.proofs.Common.{◌≡◌, ◌⊎◌, ℕ, ◌/◌, ◌≤◌, inl, inr, ap, arith}
use Rattle.std.proofs.lemmas.Bool.{cases_lt}
use Rattle.std.proofs.lemmas.Nat.{div-add-mod', le-div}
use Rattle.fugue_ids.specs.Identifiers.{Identifier, IsAtMost}
use Rattle.fugue_ids.proofs.OrderLemmas.{IsBefore, at_most_cases}
use Rattle.block_map.specs.Blocks.{block_of}

-- steps of 64 counters do not fall
steps_rise : (a b : ℕ) → a ≤ b → a / 64 ≤ b / 64
steps_rise a b le = le-div (a / 64) b 64 (omega arith) (omega (arith, div-add-mod' a 64, le))

-- the order of blocks is that of their identifiers
pub at_most_by_block : (a b : Identifier) → IsBefore (block_of a) (block_of b) → IsAtMost a b
at_most_by_block a b (inl h) = inl h
at_most_by_block a b (inr h) =
    inr (
      h.0,
      elim (cases_lt a.counter b.counter) as (λ _. a.counter ≤ b.counter)
          [ inl k ↦ omega (arith, k) | inr k ↦ absurd (omega (arith, h.1, steps_rise b.counter a.counter k)) ],
    )

-- what does not stand after an identifier is in a block before, or in the same one
pub block_cases : (a b : Identifier) → IsAtMost a b → IsBefore (block_of a) (block_of b) ⊎ (block_of a ≡ block_of b)
block_cases a b (inl h) = inl (inl h)
block_cases a b (inr h) = at_most_cases (block_of a) (block_of b) (inr (h.0, steps_rise a.counter b.counter h.1))

-- in one block the counters decide
pub at_most_in_block : (a b : Identifier) → block_of a ≡ block_of b → a.counter ≤ b.counter → IsAtMost a b
at_most_in_block a b same le = inr (ap (λ (x : Identifier). x.replica) same, le)

pub counter_at_most : (a b : Identifier) → block_of a ≡ block_of b → IsAtMost a b → a.counter ≤ b.counter
counter_at_most a b same (inl h) = let r : a.replica ≡ b.replica = ap (λ (x : Identifier). x.replica) same in absurd (omega (arith, h, r))
counter_at_most a b same (inr h) = h.1
