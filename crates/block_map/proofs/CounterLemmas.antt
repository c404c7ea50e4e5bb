-- The greatest counter of a block that has a value.
use Rattle.std.proofs.Common.{◌≡◌, ℕ, ◌-◌, ◌<◌, ◌≤◌, false, List, length, get_or, Option, Some, None, IfNone, IsSome, refl, sym, subst, arith}
use Rattle.std.specs.Ordering.{is_lt, nat_cmp}
use Rattle.std.proofs.lemmas.Bool.Decides.{nat_tests}
use Rattle.block_map.specs.Columns.{IsAscending, IsGapFor, value_beside}
use Rattle.block_map.specs.Floors.{HasNone, IsGreatestKey}
use Rattle.block_map.proofs.ColumnLemmas.{place_of_value, rises}
use Rattle.fugue_ids.proofs.OptionLemmas.{none_unless}

-- a counter is not less than one that is at most it
not_less : (a b : ℕ) → b ≤ a → is_lt (nat_cmp a b) ≡ false
not_less a b le = grind (arith, nat_tests)

-- what follows where there is none
pub none_then : {X P Q : Type 0} (o : Option X) → IfNone o P → (P → Q) → IfNone o Q
none_then None p f = f p
none_then (Some x) p f = tt

-- a counter with a value is the greatest of those up to it
pub greatest_itself : {V : Type 0} (f : ℕ → Option V) (c : ℕ) (v : V) → f c ≡ Some v → IsGreatestKey nat_cmp (λ d. d ≤ c) f (c, v)
greatest_itself f c v held = record { among = omega arith; held = held; greatest = λ d le h. not_less c d le }

module _ {V : Type 0} (cs : List ℕ) (vs : List V) (up : IsAscending cs) (P : ℕ → Type 0) (at : ℕ) (before : (i : ℕ) → i < length cs → P (get_or cs i 0) → i < at) where
  -- where those for which P holds stand before a place, the entry before it is the greatest
  pub greatest_before : at ≤ length cs → (e : ℕ × V) → 0 < at → get_or cs (at - 1) 0 ≡ e.0 → value_beside cs vs e.0 ≡ Some e.1 → P e.0
      → IsGreatestKey nat_cmp P (value_beside cs vs) e
  greatest_before le e some here held among = record {
    among = among;
    held = held;
    greatest = λ c p h. (
        let there = place_of_value cs vs c h in
        let below : there.0 < at = before there.0 there.1.inside (subst P (sym there.1.here) p) in
        let up_to = rises cs up there.0 (at - 1) (omega (arith, below)) (omega (arith, le, some)) in
        not_less e.0 c (omega (arith, up_to, there.1.here, here)));
  }

  -- and where no place is before it, there is none
  pub none_before : at ≡ 0 → HasNone P (value_beside cs vs)
  none_before none c p = none_unless (value_beside cs vs c) (λ h. (
      let there = place_of_value cs vs c h in
      let below : there.0 < at = before there.0 there.1.inside (subst P (sym there.1.here) p) in
      omega (arith, below, none)))

-- what is at most the counter stands before the gap for it
pub before_gap : (cs : List ℕ) (c at : ℕ) → IsGapFor cs c at → (i : ℕ) → i < length cs → get_or cs i 0 ≤ c → i < at
before_gap cs c at gap i inside le = grind (arith, gap.behind i)
