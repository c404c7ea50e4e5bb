-- The order of keys: those of one replica stand together, by their counters.
use Rattle.std.proofs.Common.{ap, arith, refl, sym, true, false, ℕ, List, inl, inr, Bor, ◌≡◌, ◌∙◌, ◌≤◌, ◌+◌}
use Rattle.std.proofs.lemmas.Grind.{common_steps}
use Rattle.std.proofs.lemmas.Bool.{cases_Bool}
use Rattle.std.specs.Prelude.{Option, Some, None, is_some, option_map}
use Rattle.std.specs.BTreeMap.{BTreeMap, get}
use Rattle.std.specs.Ordering.{is_eq, is_lt}
use Rattle.std.specs.BTreeMap.Range.{IsRangeOf}
use Rattle.std.specs.Map.Iter.{TakesLast, deref_pair}
use Rattle.std.specs.declared.ops.Bound.TheVariants.{Excluded, Unbounded}
use Rattle.std.specs.declared.cmp.Ordering.TheVariants.{Less}
use Rattle.fugue_ids.specs.Keyed.{IsReplaced, IsReplacedBy}
use Rattle.causal_inbox.specs.Greatest.{IsGreatestUnder, IsLastKey}
use Rattle.causal_inbox.specs.Key.{own_key_of}
use Rattle.causal_inbox.specs.Lists.{key_cmp}
use Rattle.causal_inbox.specs.declared.key.Key.{Key}
use Rattle.fugue_ids.proofs.OptionLemmas.{none_unless}

-- keys that the order does not tell apart are equal
pub same_key : (a b : Key) → is_eq (key_cmp a b) ≡ true → a ≡ b
same_key a b e = grind (arith, common_steps)

pub other_key : (a b : Key) → (b ≡ a → ⊥) → is_eq (key_cmp a b) ≡ false
other_key a b apart = elim (cases_Bool (is_eq (key_cmp a b))) [ inl e ↦ absurd (apart (sym (same_key a b e))) | inr e ↦ e ]

-- what is replaced by the order of keys is so by equality
pub replaced_by : (key : Key) (old new : Key → List ℕ) (value other : List ℕ) → value ≡ other → IsReplacedBy key_cmp old new key value → IsReplaced old new key other
replaced_by key old new value other same r = record { here = r.here ∙ same; others = λ k apart. r.others k (other_key key k apart) }

-- no key of a greater replica stands before one of a lesser
pub replicas_rise : (a b : Key) → is_lt (key_cmp a b) ≡ false → b.id.replica ≤ a.id.replica
replicas_rise a b e = grind (arith, common_steps)

-- nor does one of a lesser counter, of the same replica
pub counters_rise : (a b : Key) → a.id.replica ≡ b.id.replica → is_lt (key_cmp a b) ≡ false → b.id.counter ≤ a.id.counter
counters_rise a b same e = grind (arith, common_steps)

-- the first key of the next replica parts those of a replica and of lesser ones from the others
pub within_first : (k : Key) (r : ℕ) → key_cmp k (own_key_of (record { replica = r + 1; counter = 0 })) ≡ Less → k.id.replica ≤ r
within_first k r e = grind (arith, common_steps)

pub before_first : (k : Key) (r : ℕ) → k.id.replica ≤ r → key_cmp k (own_key_of (record { replica = r + 1; counter = 0 })) ≡ Less
before_first k r e = grind (arith, common_steps)

-- the greatest counter by the last key
pub greatest_last : (m : BTreeMap Key (List ℕ)) (r : ℕ) (key : Key) → IsLastKey m r (Some key) → key.id.replica ≡ r → IsGreatestUnder m r (Some key.id.counter)
greatest_last m r key l same = record {
  none = λ e. cc;
  member = (key, same, refl, l.some);
  bound = λ k at there. counters_rise key k (same ∙ sym at) (l.last k (omega (arith, at)) there);
}

pub greatest_other : (m : BTreeMap Key (List ℕ)) (r : ℕ) (key : Key) → IsLastKey m r (Some key) → (key.id.replica ≡ r → ⊥) → IsGreatestUnder m r None
greatest_other m r key l other = record {
  none = λ e k at. none_unless (get key_cmp m k) (λ there.
      let rise = replicas_rise key k (l.last k (omega (arith, at)) there) in
      let within = l.within in
      other (omega (arith, rise, within, at)));
  member = tt;
  bound = tt;
}

pub greatest_none : (m : BTreeMap Key (List ℕ)) (r : ℕ) → IsLastKey m r None → IsGreatestUnder m r None
greatest_none m r l = record { none = λ e k at. l.none refl k (omega (arith, at)); member = tt; bound = tt }

-- the last key of a range that ends before the next replica
pub last_in_range : (m : BTreeMap Key (List ℕ)) (r : ℕ) (seen left : List (Key × List ℕ)) (o : Option (Bor Key × Bor (List ℕ)))
    → IsRangeOf key_cmp Unbounded (Excluded (own_key_of (record { replica = r + 1; counter = 0 }))) m seen → TakesLast deref_pair seen o left
    → IsLastKey m r (option_map (λ e. e.0.now) o)
last_in_range m r seen left None range step = record { none = λ e k at. range.5 step.0 k (tt, before_first k r at); some = tt; within = tt; last = tt }
last_in_range m r seen left (Some e) range step =
    let there = range.3 (deref_pair e) left step in
    record {
      none = λ e. cc;
      some = ap is_some there.1;
      within = within_first e.0.now r there.0.1;
      last = λ k at is. range.4 (deref_pair e) left step k (tt, before_first k r at) is;
    }
