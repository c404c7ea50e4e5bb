-- The greatest identifier of blocks that has a value.
use Rattle.std.proofs.Common.{◌≡◌, ◌≤◌, ℕ, length, Option, Some, None, IfNone, IfSome, IsSome, refl, inl, inr, sym, ap, subst, arith, ◌∙◌, false}
use Rattle.std.specs.Prelude.{option_map, ⊤}
use Rattle.std.specs.Ordering.{is_lt, nat_cmp}
use Rattle.std.specs.BTreeMap.{BTreeMap, get}
use Rattle.std.specs.BTreeMap.Range.{IsLtBy}
use Rattle.std.proofs.lemmas.Map.Keys.{ge_from_not_lt}
use Rattle.fugue_ids.specs.Identifiers.{Identifier, id_cmp}
use Rattle.fugue_ids.proofs.OrderLemmas.{IsBefore, at_most_cases, at_most_from_le, at_most_from_not_lt, before_from_lt, le_from_at_most, lt_from_before, not_lt_from_at_most}
use Rattle.block_map.specs.Blocks.{AreBlocks, IsInBlockBefore, IsUpToInBlock, block_of, value_at, block_value, value_within, with_counter}
use Rattle.block_map.specs.Floors.{HasNone, IsFloorKey, IsGreatestKey}
use Rattle.block_map.specs.declared.block.Block.{Block}
use Rattle.block_map.proofs.ChangeLemmas.{no_value}
use Rattle.block_map.proofs.OrderLemmas.{at_most_by_block, at_most_in_block, block_cases, counter_at_most}

some_block : {V : Type 0} (o : Option (Block V)) (c : ℕ) → IsSome (value_within o c) → IsSome o
some_block None c h = h
some_block (Some b) c h = refl

is_some_by : {V : Type 0} (o : Option V) (v : V) → o ≡ Some v → IsSome o
is_some_by None v e = absurd (cc)
is_some_by (Some w) v e = refl

-- the entry of a block, under its identifier
abbrev entry_under : {V : Type 0} → Identifier → Option (ℕ × V) → Option (Identifier × V)
entry_under key o = option_map (λ e. (with_counter key e.0, e.1)) o

module _ {V : Type 0} (m : BTreeMap Identifier (Block V)) (are : AreBlocks m) where
  -- no block has no value
  none_in : (q key : Identifier) → block_of q ≡ key → get id_cmp m key ≡ None → block_value m q ≡ None
  none_in q key same e = ap (λ (o : Option (Block V)). value_within o q.counter) (ap (get id_cmp m) same ∙ e)

  module _ (key : Identifier) (b : Block V) (there : get id_cmp m key ≡ Some b) where
    -- the values of a block
    found_in : (q : Identifier) → block_of q ≡ key → block_value m q ≡ value_at b q.counter
    found_in q same = ap (λ (o : Option (Block V)). value_within o q.counter) (ap (get id_cmp m) same ∙ there)

    -- a counter that has a value belongs to the block
    belongs_to : (c : ℕ) → IsSome (value_at b c) → block_of (with_counter key c) ≡ key
    belongs_to c h = let step = (are key b there).belongs c h in λ i. record { replica = key.replica; counter = step i }

    module _ (id : Identifier) (c : ℕ) (at : key ≡ block_of id) (is : c ≡ id.counter) where
      up_to_counter : (q : Identifier) → IsUpToInBlock id q → q.counter ≤ c
      up_to_counter q p = let h = counter_at_most q id p.0 (at_most_from_le q id p.1) in omega (arith, h, is)

      -- the floor of a counter in its block
      entry_within : (o : Option (ℕ × V)) → IfNone o (HasNone (λ d. d ≤ c) (value_at b)) → IfSome o (IsGreatestKey nat_cmp (λ d. d ≤ c) (value_at b))
          → IfNone (entry_under key o) (HasNone (IsUpToInBlock id) (block_value m)) × IfSome (entry_under key o) (IsGreatestKey id_cmp (IsUpToInBlock id) (block_value m))
      entry_within None n s = (λ q p. found_in q (p.0 ∙ sym at) ∙ n q.counter (up_to_counter q p), tt)
      entry_within (Some x) n s =
          let e = with_counter key x.0 in
          let own = belongs_to x.0 (is_some_by (value_at b x.0) x.1 s.held) in
          let low : x.0 ≤ c = s.among in (
            tt,
            record {
              among = (own ∙ at, le_from_at_most e id (at_most_in_block e id (own ∙ at) (omega (arith, low, is))));
              held = found_in e own ∙ s.held;
              greatest = λ q p h. (
                  let le = ge_from_not_lt x.0 q.counter (s.greatest q.counter (up_to_counter q p) (subst IsSome (found_in q (p.0 ∙ sym at)) h)) in
                  not_lt_from_at_most e q (at_most_in_block q e (p.0 ∙ sym at ∙ sym own) le));
            },
          )

    -- the last entry of the last block before a key
    entry_before : (bound : Identifier) → IsLtBy id_cmp key bound → ((q : Identifier) → IsLtBy id_cmp q bound → IsSome (get id_cmp m q) → is_lt (id_cmp key q) ≡ false)
        → (o : Option (ℕ × V))
        → IfNone o (length b.counters.items ≡ 0) → IfSome o (IsGreatestKey nat_cmp (λ _. ⊤) (value_at b))
        → IfNone (entry_under key o) (HasNone (IsInBlockBefore bound) (block_value m)) × IfSome (entry_under key o) (IsGreatestKey id_cmp (IsInBlockBefore bound) (block_value m))
    entry_before bound lt last None n s = let some = (are key b there).some in absurd (omega (arith, some, n))
    entry_before bound lt last (Some x) n s =
        let e = with_counter key x.0 in
        let own = belongs_to x.0 (is_some_by (value_at b x.0) x.1 s.held) in (
          tt,
          record {
            among = subst (λ k. IsLtBy id_cmp k bound) (sym own) lt;
            held = found_in e own ∙ s.held;
            greatest = λ q p h. not_lt_from_at_most e q
                (elim (at_most_cases (block_of q) key (at_most_from_not_lt key (block_of q) (last (block_of q) p (some_block (get id_cmp m (block_of q)) q.counter h)))) [
                  | inl k ↦ at_most_by_block q e (subst (λ z. IsBefore (block_of q) z) (sym own) k)
                  | inr same ↦ at_most_in_block q e (same ∙ sym own) (ge_from_not_lt x.0 q.counter (s.greatest q.counter tt (subst IsSome (found_in q same) h)))
                ]);
          },
        )

  -- what the two searches answer
  pub within_some : (id key : Identifier) (c : ℕ) → key ≡ block_of id → c ≡ id.counter → (b : Block V) → get id_cmp m key ≡ Some b → (o : Option (ℕ × V))
      → IfNone o (HasNone (λ d. d ≤ c) (value_at b))
      → IfSome o (IsGreatestKey nat_cmp (λ d. d ≤ c) (value_at b)) → (r : Option (Identifier × V)) → r ≡ option_map (λ e. (with_counter key e.0, e.1)) o
      → IfNone r (HasNone (IsUpToInBlock id) (block_value m)) × IfSome r (IsGreatestKey id_cmp (IsUpToInBlock id) (block_value m))
  within_some id key c at is b there o n s r e =
      subst (λ (z : Option (Identifier × V)). IfNone z (HasNone (IsUpToInBlock id) (block_value m)) × IfSome z (IsGreatestKey id_cmp (IsUpToInBlock id) (block_value m))) (sym e)
      (entry_within key b there id c at is o n s)

  pub before_some : (bound key : Identifier) (b : Block V) → get id_cmp m key ≡ Some b → IsLtBy id_cmp key bound
      → ((q : Identifier) → IsLtBy id_cmp q bound → IsSome (get id_cmp m q) → is_lt (id_cmp key q) ≡ false)
      → (o : Option (ℕ × V)) → IfNone o (length b.counters.items ≡ 0) → IfSome o (IsGreatestKey nat_cmp (λ _. ⊤) (value_at b)) → (r : Option (Identifier × V))
      → r ≡ option_map (λ e. (with_counter key e.0, e.1)) o
      → IfNone r (HasNone (IsInBlockBefore bound) (block_value m)) × IfSome r (IsGreatestKey id_cmp (IsInBlockBefore bound) (block_value m))
  before_some bound key b there lt last o n s r e =
      subst (λ (z : Option (Identifier × V)). IfNone z (HasNone (IsInBlockBefore bound) (block_value m)) × IfSome z (IsGreatestKey id_cmp (IsInBlockBefore bound) (block_value m)))
      (sym e)
      (entry_before key b there bound lt last o n s)

  pub before_none : (bound : Identifier) → ((q : Identifier) → IsLtBy id_cmp q bound → get id_cmp m q ≡ None) → HasNone (IsInBlockBefore bound) (block_value m)
  before_none bound none q p = none_in q (block_of q) refl (none (block_of q) p)

module _ {V : Type 0} (f : Identifier → Option V) (id : Identifier) where
  -- what is found in the own block is the floor
  pub floor_within : (x : Identifier × V) → IsGreatestKey id_cmp (IsUpToInBlock id) f x → IsFloorKey f id (Some x.0)
  floor_within x g = (
    is_some_by (f x.0) x.1 g.held,
    g.among.1,
    λ q le h. elim (block_cases q id (at_most_from_le q id le)) [
      | inl k ↦ not_lt_from_at_most x.0 q (at_most_by_block q x.0 (subst (λ z. IsBefore (block_of q) z) (sym g.among.0) k))
      | inr same ↦ g.greatest q (same, le) h
    ],
  )

  -- and else what is found in the blocks before
  pub floor_before : (key : Identifier) → key ≡ block_of id → HasNone (IsUpToInBlock id) f → (o : Option (Identifier × V)) → IfNone o (HasNone (IsInBlockBefore key) f)
      → IfSome o (IsGreatestKey id_cmp (IsInBlockBefore key) f)
      → IsFloorKey f id (option_map (λ x. x.0) o)
  floor_before key at own None n s = λ q le. elim (block_cases q id (at_most_from_le q id le)) [
    | inl k ↦ n q (subst (λ z. IsLtBy id_cmp (block_of q) z) (sym at) (lt_from_before (block_of q) (block_of id) k))
    | inr same ↦ own q (same, le)
  ]
  floor_before key at own (Some x) n s = (
    is_some_by (f x.0) x.1 s.held,
    le_from_at_most x.0 id (at_most_by_block x.0 id (before_from_lt (block_of x.0) (block_of id) (subst (λ z. IsLtBy id_cmp (block_of x.0) z) at s.among))),
    λ q le h. elim (block_cases q id (at_most_from_le q id le)) [
      | inl k ↦ s.greatest q (subst (λ z. IsLtBy id_cmp (block_of q) z) (sym at) (lt_from_before (block_of q) (block_of id) k)) h
      | inr same ↦ absurd (no_value (f q) (own q (same, le)) h)
    ],
  )

  pub held_by : (P : Identifier → Type 0) (o : Option (Identifier × V)) → IfSome o (IsGreatestKey id_cmp P f) → IfSome o (λ x. f x.0 ≡ Some x.1)
  held_by P None s = tt
  held_by P (Some x) s = s.held
