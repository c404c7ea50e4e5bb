-- What a change of one block makes of the values.
use Rattle.std.proofs.Common.{◌≡◌, ◌≢◌, ◌<◌, ◌/◌, ℕ, zero, suc, true, false, List, [], ◌∷◌, length, Option, Some, None, Result, Ok, Err, OnOk, OnErr, IsSome, refl, inl, inr, sym}
use Rattle.std.proofs.Common.{ap, subst, arith, ◌∙◌}
use Rattle.std.specs.BTreeMap.{BTreeMap, UpdatesBy, get}
use Rattle.std.proofs.lemmas.Bool.{cases_eq, false≢true}
use Rattle.std.proofs.lemmas.Option.{same_Some}
use Rattle.fugue_ids.specs.Identifiers.{Identifier, id_cmp}
use Rattle.fugue_ids.specs.Keyed.{IsReplaced}
use Rattle.fugue_ids.proofs.IdentifierLemmas.{cases_id, id_at-other}
use Rattle.block_map.specs.Blocks.{AreBlocks, IsBlockAt, block_of, value_at, block_value, value_within}
use Rattle.block_map.specs.Columns.{value_beside}
use Rattle.block_map.specs.declared.block.Block.{Block}

-- one block is another then, or goes
pub block_replaced : {V : Type 0} (m n : BTreeMap Identifier (Block V)) (key : Identifier) (o : Option (Block V)) → UpdatesBy id_cmp (id_cmp key) m n o
    → IsReplaced (get id_cmp m) (get id_cmp n) key o
block_replaced m n key o u = record { here = u.1; others = λ k apart. u.2 k (id_at-other key k apart) }

-- a block that changed, and was taken out then
pub block_gone : {V : Type 0} (m mid n : BTreeMap Identifier (Block V)) (key : Identifier) (d : Block V) → UpdatesBy id_cmp (id_cmp key) m mid (Some d)
    → UpdatesBy id_cmp (id_cmp key) mid n None
    → IsReplaced (get id_cmp m) (get id_cmp n) key None
block_gone m mid n key d changed gone =
    let first = block_replaced m mid key (Some d) changed in
    let second = block_replaced mid n key None gone in
    record { here = second.here; others = λ k apart. second.others k apart ∙ first.others k apart }

-- what has no value there loses none
pub replaced_none : {K X : Type 0} (f : K → X) (key : K) (w : X) → f key ≡ w → IsReplaced f f key w
replaced_none f key w e = record { here = e; others = λ k apart. refl }

module _ {V : Type 0} (m n : BTreeMap Identifier (Block V)) (key : Identifier) (o : Option (Block V)) (change : IsReplaced (get id_cmp m) (get id_cmp n) key o) where
  -- the values in another block
  pub others_far : (q : Identifier) → block_of q ≢ key → block_value n q ≡ block_value m q
  others_far q far = ap (λ (b : Option (Block V)). value_within b q.counter) (change.others (block_of q) far)

  -- and in the block, where they are the same
  pub near : (q : Identifier) → block_of q ≡ key → value_within o q.counter ≡ value_within (get id_cmp m key) q.counter → block_value n q ≡ block_value m q
  near q at same =
      ap (λ (k : Identifier). value_within (get id_cmp n k) q.counter) at ∙ ap (λ (b : Option (Block V)). value_within b q.counter) change.here ∙ same
      ∙ ap (λ (k : Identifier). value_within (get id_cmp m k) q.counter) (sym at)

  -- a change of a block's values is one of the map's
  pub value_replaced : (id : Identifier) (c : ℕ) → key ≡ block_of id → c ≡ id.counter → (w : Option V) → IsReplaced (value_within (get id_cmp m key)) (value_within o) c w
      → IsReplaced (block_value m) (block_value n) id w
  value_replaced id c at is w r = record {
    here = ap (λ (k : Identifier). value_within (get id_cmp n k) id.counter) (sym at) ∙ ap (λ (b : Option (Block V)). value_within b id.counter) change.here
        ∙ ap (value_within o) (sym is) ∙ r.here;
    others = λ q apart. elim (cases_id (block_of q) key) as (λ _. block_value n q ≡ block_value m q) [
      | inl own ↦ (
          let replica : q.replica ≡ id.replica = ap (λ (x : Identifier). x.replica) (own ∙ at) in
          near q own (r.others q.counter (λ e. apart (let counter : q.counter ≡ id.counter = e ∙ is in λ i. record { replica = replica i; counter = counter i }))))
      | inr far ↦ others_far q far
    ];
  }

  -- where the block keeps its values, so does the map
  pub values_same : ((d : ℕ) → value_within o d ≡ value_within (get id_cmp m key) d) → (q : Identifier) → block_value n q ≡ block_value m q
  values_same same q = elim (cases_id (block_of q) key) as (λ _. block_value n q ≡ block_value m q) [ inl own ↦ near q own (same q.counter) | inr far ↦ others_far q far ]

  -- the other blocks are as they were
  pub blocks_changed : AreBlocks m → ((b : Block V) → o ≡ Some b → IsBlockAt key b) → AreBlocks n
  blocks_changed are own k b e = elim (cases_id k key) as (λ _. IsBlockAt k b) [
    | inl same ↦ subst (λ z. IsBlockAt z b) (sym same) (own b (sym change.here ∙ ap (get id_cmp n) (sym same) ∙ e))
    | inr apart ↦ are k b (sym (change.others k apart) ∙ e)
  ]

-- what holds of a block holds of the one that is there
pub that_block : {V : Type 0} (P : Block V → Type 0) (d b : Block V) → P d → Some d ≡ Some b → P b
that_block P d b p e = subst P (same_Some d b e) p

module _ {V : Type 0} (key : Identifier) (d : Block V) where
  -- a block in which the values of one counter changed
  pub block_after : (f : ℕ → Option V) (c : ℕ) (w : Option V) → IsReplaced f (value_at d) c w → 0 < length d.counters.items → c / 64 ≡ key.counter
      → ((e : ℕ) → IsSome (f e) → e / 64 ≡ key.counter) → IsBlockAt key d
  block_after f c w r some belongs old = record {
    some = some;
    belongs = λ e h. elim (cases_eq e c) as (λ _. e / 64 ≡ key.counter) [
      | inl same ↦ ap (λ (x : ℕ). x / 64) same ∙ belongs
      | inr apart ↦ old e (subst IsSome (r.others e apart) h)
    ];
  }

  -- a block with the same values
  pub block_kept : (b : Block V) → IsBlockAt key b → ((e : ℕ) → value_at d e ≡ value_at b e) → length d.counters.items ≡ length b.counters.items → IsBlockAt key d
  block_kept b at same long = record { some = omega (arith, at.some, long); belongs = λ e h. at.belongs e (subst IsSome (same e) h) }

-- a block without counters has no value
pub empty_block : {V : Type 0} (b : Block V) → b.counters.items ≡ [] → (c : ℕ) → value_at b c ≡ None
empty_block b none c = ap (λ (cs : List ℕ). value_beside cs b.values.items c) none

pub no_value : {V : Type 0} (o : Option V) → o ≡ None → IsSome o → ⊥
no_value None e h = absurd (cc)
no_value (Some v) e h = absurd (cc)

-- the key of a counter's block
pub key_step : (id key : Identifier) (c : ℕ) → key ≡ block_of id → c ≡ id.counter → c / 64 ≡ key.counter
key_step id key c at is = ap (λ (x : ℕ). x / 64) is ∙ sym (ap (λ (k : Identifier). k.counter) at)

-- what two answers say together, and what either says
pub on_ok_both : {T E P Q R : Type 0} (r : Result T E) → OnOk r P → OnOk r Q → (P → Q → R) → OnOk r R
on_ok_both (Ok x) p q f = f p q
on_ok_both (Err e) p q f = tt

pub either : {T E P Q R : Type 0} (r : Result T E) → OnOk r P → OnErr r Q → (P → R) → (Q → R) → R
either (Ok x) p q f g = f p
either (Err e) p q f g = g q

pub on_err_both : {T E P Q R : Type 0} (r : Result T E) → OnErr r P → OnErr r Q → (P → Q → R) → OnErr r R
on_err_both (Ok x) p q f = tt
on_err_both (Err e) p q f = f p q

-- a number that is not 0
pub some_length : (n : ℕ) → (n ≡ 0 → false ≡ true) → 0 < n
some_length zero f = absurd (false≢true (f refl))
some_length (suc n) f = omega arith
