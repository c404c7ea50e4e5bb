-- The keys of sections and parts in a map.
use Rattle.std.proofs.Common.{ℕ, ◌+◌, List, Bool, true, false, cond, sym, ap, arith, rules, ◌≡◌, ◌⊎◌, inl, inr, ◌∙◌, Some, Option}
use Rattle.std.specs.Prelude.{IsSome, None}
use Rattle.std.specs.BTreeMap.{BTreeMap, UpdatesBy}
use Rattle.std.specs.Cmp.Lexicographic.{slice_cmp}
use Rattle.std.specs.Ordering.{nat_cmp}
use Rattle.std.specs.Str.{bytes_eq}
use denote.Ref.{Bor}
use Rattle.std.proofs.lemmas.Bool.{cases_eq}
use Rattle.std.proofs.lemmas.Map.Text.{btree_map_updates_str}
use Rattle.std.proofs.lemmas.Slice.Eq.{bytes_eq-Decides}
use Rattle.section_plan.specs.Completing.{HasKeysOfFree, found_for}
use Rattle.section_plan.specs.Matching.{key_at, part_of}
use Rattle.section_plan.specs.declared.keys.Key.{Key}
use Rattle.section_plan.specs.declared.pairs.Pairs.{Pairs}
use Rattle.section_plan.specs.declared.part.Part.{Part}

either : (b : Bool) (v : ℕ) (o : Option ℕ) → (b ≡ true) ⊎ IsSome o → IsSome (cond b (Some v) o)
either true v o h = search rules
either false v o (inl e) = cc
either false v o (inr h) = h

-- a text that was set or found is found
key_inserted : (bs : List ℕ) (m n : BTreeMap (Bor (List ℕ)) ℕ) (v : ℕ) → UpdatesBy (λ x y. slice_cmp nat_cmp x.now y.now) (λ k. slice_cmp nat_cmp bs k.now) m n (Some v)
    → (cs : List ℕ)
    → (bs ≡ cs) ⊎ IsSome (found_for m cs) → IsSome (found_for n cs)
key_inserted bs m n v u cs (inl e) = rw (btree_map_updates_str bs m n (Some v) u cs) (either (bytes_eq bs cs) v (found_for m cs) (inl ((bytes_eq-Decides bs cs).1 e)))
key_inserted bs m n v u cs (inr h) = rw (btree_map_updates_str bs m n (Some v) u cs) (either (bytes_eq bs cs) v (found_for m cs) (inr h))

-- the next section's key is in the map too
pub keys_more : (p : Pairs) (sections : List Part) (key : Key) (place : ℕ) (bs : List ℕ) (m n : BTreeMap (Bor (List ℕ)) ℕ) → bs ≡ key_at key sections place
    → HasKeysOfFree p sections key place m
    → UpdatesBy (λ x y. slice_cmp nat_cmp x.now y.now) (λ k. slice_cmp nat_cmp bs k.now) m n (Some place) → HasKeysOfFree p sections key (place + 1) n
keys_more p sections key place bs m n is has u i wanted l free = by (cases_eq i place)
  where
    by : (i ≡ place) ⊎ (i ≡ place → ⊥) → IsSome (found_for n wanted)
    by (inl e) = key_inserted bs m n place u wanted (inl (is ∙ (ap (λ k. key_at key sections k) (sym e) ∙ free.same)))
    by (inr ne) = key_inserted bs m n place u wanted (inr (has i wanted (omega arith) free))

-- a section that has a part needs no key
pub keys_same : (p : Pairs) (sections : List Part) (key : Key) (place : ℕ) (m : BTreeMap (Bor (List ℕ)) ℕ) → HasKeysOfFree p sections key place m → (part_of p place ≡ None → ⊥)
    → HasKeysOfFree p sections key (place + 1) m
keys_same p sections key place m has taken i wanted l free = by (cases_eq i place)
  where
    by : (i ≡ place) ⊎ (i ≡ place → ⊥) → IsSome (found_for m wanted)
    by (inl e) = absurd (taken (ap (part_of p) (sym e) ∙ free.free))
    by (inr ne) = has i wanted (omega arith) free
