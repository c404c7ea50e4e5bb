-- What becomes of stretches as a value is taken out.
use Rattle.std.proofs.Common.{ap, arith, inl, inr, refl, subst, sym, List, ℕ, ◌+◌, ◌-◌, ◌<◌, ◌∙◌, ◌≡◌, ◌≢◌, ◌≤◌, ◌⊎◌, cond}
use Rattle.std.specs.Prelude.{None, Option, Some, option_map}
use Rattle.std.specs.BTreeMap.{BTreeMap, IsOrdered, UpdatesBy}
use Rattle.std.specs.Ordering.{is_eq}
use Rattle.fugue_ids.specs.Identifiers.{Identifier, id_cmp}
use Rattle.fugue_ids.proofs.IdentifierLemmas.{cases_id, id_at-other}
use Rattle.fugue_ids.specs.Runs.{id_after}
use Rattle.stretch_map.specs.Contents.{StretchEntry, Latest, Layout}
use Rattle.stretch_map.specs.Stretches.{AreStretches, Covers, IsSplit, IsFloor, IsLatest, IsLatestUpTo, IsSplitAfter, IsReadIn, IsSame, IsShorter, IsTakenFrom, IsTakenFromLatest}
use Rattle.stretch_map.specs.Stretches.{KeepsEntry, KeptBecomes, LatestBecomes, Loses, tail_from, up_to}
use Rattle.stretch_map.specs.declared.stretches.Stretch.{Stretch}
use Rattle.stretch_map.proofs.FoundLemmas.{not_both, one_covers, same_kept, same_latest}
use Rattle.stretch_map.proofs.KeptLemmas.{drops_kept, drops_latest, kept_becomes, sets_kept, sets_latest}
use Rattle.stretch_map.proofs.LessenedLemmas.{Splits, dropped, loses_none, shortened}
use Rattle.stretch_map.proofs.PartedLemmas.{parted_are, parted_found}
use Rattle.stretch_map.proofs.ReadLemmas.{floor_covers, value_kept}

-- what two changes of a map make of a stretch
pub cut_by : {V : Type 0} (nth : Identifier → V → ℕ → V) (m k n : BTreeMap Identifier (Stretch V)) (e : StretchEntry V) (key : Identifier) → Covers e key
    → UpdatesBy id_cmp (id_cmp (tail_from nth e (key.counter - e.0.counter + 1)).0) m k (Some (tail_from nth e (key.counter - e.0.counter + 1)).1)
    → UpdatesBy id_cmp (id_cmp e.0) k n (Some (up_to e key.counter).1) → IsOrdered id_cmp n → IsSplit nth m.entries n.entries e key
cut_by nth m k n e key cover u w ordered =
    let g : Identifier = id_after e.0 (key.counter - e.0.counter + 1) in
    let apart : g ≢ e.0 = λ d. let same : e.0.counter + (key.counter - e.0.counter + 1) ≡ e.0.counter = ap (λ (x : Identifier). x.counter) d in absurd (omega arith) in
    record {
      head = w.1;
      tail = w.2 g (id_at-other e.0 g apart) ∙ u.1;
      others = λ q d f. w.2 q (id_at-other e.0 q d) ∙ u.2 q (id_at-other g q f);
      ordered = ordered;
    }

module _ {V : Type 0} (nth : Identifier → V → ℕ → V) (reaches : Identifier → V → ℕ → Type 0) (l : Layout V) (are : AreStretches reaches l) (key : Identifier) where
  -- a last stretch is without its last identifier
  pub shorter_latest : (e : StretchEntry V) → IsLatest l.0 e → Covers e key → e.1.last ≡ key.counter → (ls : List (ℕ × Latest V)) → IsTakenFromLatest l.0 ls e
      → Loses nth reaches l (ls, l.1) key
  shorter_latest e old cover ends ls taken = by_rest taken.left taken.shorter taken.becomes
    where
      by_rest : (r : Option (StretchEntry V)) → IsShorter e r → LatestBecomes l.0 ls e.0.replica (option_map (λ x. (x.0.counter, x.1)) r) → Loses nth reaches l (ls, l.1) key
      by_rest None short becomes = dropped nth reaches l (ls, l.1) are key e (inl old) cover ends short.0 (drops_latest l (ls, l.1) are.laid e old becomes refl)
      by_rest (Some x) short becomes =
          shortened nth reaches l (ls, l.1) are key e (inl old) cover ends short.1.0
          (sets_latest l (ls, l.1) are.laid (up_to e (e.1.last - 1)) (λ y a r. ap (λ (z : StretchEntry V). z.0) (same_latest l.0 y e a old r))
          (λ y h r. are.laid.before e y old h r)
          (subst (λ (z : StretchEntry V). LatestBecomes l.0 ls e.0.replica (Some (z.0.counter, z.1))) short.1.1 becomes) refl)

  -- a kept stretch is without its last identifier
  pub shorter_kept : (e : StretchEntry V) → KeepsEntry l.1 e → Covers e key → e.1.last ≡ key.counter → (es : List (StretchEntry V)) → IsTakenFrom l.1 es e
      → Loses nth reaches l (l.0, es) key
  shorter_kept e old cover ends es taken = by_rest taken.left taken.shorter taken.becomes
    where
      by_rest : (r : Option (StretchEntry V)) → IsShorter e r → KeptBecomes l.1 es e.0 (option_map (λ x. x.1) r) → Loses nth reaches l (l.0, es) key
      by_rest None short becomes = dropped nth reaches l (l.0, es) are key e (inr old) cover ends short.0 (drops_kept l (l.0, es) are.laid e old becomes refl)
      by_rest (Some x) short becomes =
          shortened nth reaches l (l.0, es) are key e (inr old) cover ends short.1.0
          (sets_kept l (l.0, es) are.laid (up_to e (e.1.last - 1)) (λ y a r. are.laid.before y e a old r)
          (subst (λ (z : StretchEntry V). KeptBecomes l.1 es e.0 (Some z.1)) short.1.1 becomes) refl)

  -- a stretch that ends with the key already
  pub parted_there : (e : StretchEntry V) → KeepsEntry l.1 e → Covers e key → e.1.last ≤ key.counter → IsSplitAfter nth reaches l l e key
  parted_there e kept cover low =
      let to : key.counter ≤ e.1.last = cover.to in
      let same : e.1.last ≡ key.counter = omega arith in
      record { are = are; found = λ q. refl; head = kept ∙ ap (λ c. Some (up_to e c).1) same }

  -- a kept stretch cut in two
  pub parted_kept : ((first : Identifier) (value : V) (j k : ℕ) → nth (id_after first j) (nth first value j) k ≡ nth first value (j + k))
      → ((first : Identifier) (value : V) (j k : ℕ) → reaches first value (j + k) → reaches (id_after first j) (nth first value j) k)
      → (e : StretchEntry V) → KeepsEntry l.1 e → Covers e key → key.counter < e.1.last → (es : List (StretchEntry V)) → IsSplit nth l.1 es e key
      → IsSplitAfter nth reaches l (l.0, es) e key
  parted_kept adds goes_on e old cover inside es cut =
      record {
        are = parted_are nth reaches adds goes_on l (l.0, es) are e (inr old) (key.counter - e.0.counter + 1) (omega arith) within splits;
        found = parted_found nth reaches adds goes_on l (l.0, es) are e (inr old) (key.counter - e.0.counter + 1) (omega arith) within splits;
        head = cut.head;
      }
    where
      within : e.0.counter + (key.counter - e.0.counter + 1) ≤ e.1.last
      within = let from : e.0.counter ≤ key.counter = cover.from in omega (arith, inside)

      same_head : up_to e key.counter ≡ up_to e (e.0.counter + (key.counter - e.0.counter + 1) - 1)
      same_head = let from : e.0.counter ≤ key.counter = cover.from in let c : key.counter ≡ e.0.counter + (key.counter - e.0.counter + 1) - 1 = omega arith in ap (up_to e) c

      -- a last stretch begins elsewhere than the rest
      not_rest : (x : StretchEntry V) → IsLatest l.0 x → x.0 ≢ id_after e.0 (key.counter - e.0.counter + 1)
      not_rest x a d =
          let begun : x.0.counter ≤ x.1.last = are.begun x (inl a) in
          let there : e.0.counter + (key.counter - e.0.counter + 1) ≤ e.1.last = within in
          let own : Covers x (id_after e.0 (key.counter - e.0.counter + 1)) = subst (Covers x) d (record { replica = refl; from = omega arith; to = begun }) in
          let rest : Covers e (id_after e.0 (key.counter - e.0.counter + 1)) = record { replica = refl; from = omega arith; to = there } in
          not_both l are.laid x e a old (sym (one_covers nth reaches l are (id_after e.0 (key.counter - e.0.counter + 1)) x e (inl a) (inr old) own rest))

      -- a kept stretch after the cut is one of both parts, or was kept
      kept_parts : (x : StretchEntry V) → KeepsEntry es x
          → (x ≡ up_to e key.counter)
          ⊎ ((x ≡ tail_from nth e (key.counter - e.0.counter + 1)) ⊎ ((x.0 ≢ e.0) × (x.0 ≢ id_after e.0 (key.counter - e.0.counter + 1)) × KeepsEntry l.1 x))
      kept_parts x a =
          elim (cases_id x.0 e.0) [
            | inl d ↦ let value = same_kept es x (up_to e key.counter) a cut.head d in inl (λ i. (d i, value i))
            | inr d ↦
                elim (cases_id x.0 (id_after e.0 (key.counter - e.0.counter + 1))) [
                  | inl f ↦ let value = same_kept es x (tail_from nth e (key.counter - e.0.counter + 1)) a cut.tail f in inr (inl (λ i. (f i, value i)))
                  | inr f ↦ inr (inr (d, f, sym (cut.others x.0 d f) ∙ a))
                ]
          ]

      -- they begin before the last stretch of their replica
      before : (y x : StretchEntry V) → IsLatest l.0 y → KeepsEntry es x → x.0.replica ≡ y.0.replica → x.0.counter < y.0.counter
      before y x a h r =
          elim (kept_parts x h) [
            | inl d ↦
                let c : x.0.counter ≡ e.0.counter = ap (λ (z : StretchEntry V). z.0.counter) d in
                let less : e.0.counter < y.0.counter = are.laid.before y e a old (sym (ap (λ (z : StretchEntry V). z.0.replica) d) ∙ r) in
                omega arith
            | inr d ↦
                elim d [
                  | inl f ↦
                      let c : x.0.counter ≡ e.0.counter + (key.counter - e.0.counter + 1) = ap (λ (z : StretchEntry V). z.0.counter) f in
                      let rr : e.0.replica ≡ y.0.replica = sym (ap (λ (z : StretchEntry V). z.0.replica) f) ∙ r in
                      let far : e.1.last < y.0.counter = are.apart e y (inr old) (inl a) rr (are.laid.before y e a old rr) in
                      omega (arith, c, far, within)
                  | inr f ↦ are.laid.before y x a f.2 r
                ]
          ]

      splits : Splits l (l.0, es) (up_to e (e.0.counter + (key.counter - e.0.counter + 1) - 1)) (tail_from nth e (key.counter - e.0.counter + 1))
      splits =
          record {
            head = inr (subst (λ (z : StretchEntry V). KeepsEntry es z) same_head cut.head);
            tail = inr cut.tail;
            cases = λ x h. elim h [
              | inl a ↦ inr (inr ((λ d. not_both l are.laid x e a old (sym d)), not_rest x a, inl a))
              | inr a ↦ elim (kept_parts x a) [
                | inl d ↦ inl (d ∙ same_head)
                | inr d ↦ elim d [ inl f ↦ inr (inl f) | inr f ↦ inr (inr (f.0, f.1, inr f.2)) ]
              ]
            ];
            stays = λ x d f h. elim h [ inl a ↦ inl a | inr a ↦ inr (cut.others x.0 d f ∙ a) ];
            laid = record { before = before; latest = are.laid.latest; kept = cut.ordered };
          }

  -- a stretch cut in two, and then its last value gone
  pub loses_after : (k t : Layout V) (e : StretchEntry V) → IsSplitAfter nth reaches l k e key → Loses nth reaches k t key → Loses nth reaches l t key
  loses_after k t e cut lost = record { are = lost.are; found = λ q. lost.found q ∙ ap (cond (is_eq (id_cmp q key)) None) (cut.found q) }

  -- the same after stretches were kept differently
  pub loses_same : (k t : Layout V) → IsSame nth reaches l k → Loses nth reaches k t key → Loses nth reaches l t key
  loses_same k t same lost = record { are = lost.are; found = λ q. lost.found q ∙ ap (cond (is_eq (id_cmp q key)) None) (same.found q) }

  -- where no stretch has the key, nothing is lost
  pub none_to_lose : ((e : StretchEntry V) → IsLatest l.0 e → Covers e key → ⊥) → IsReadIn nth (KeepsEntry l.1) key None → Loses nth reaches l l key
  none_to_lose apart none = loses_none nth reaches l l are key (sym (value_kept nth reaches l are key None apart none))

  -- what the last stretch of the replica does not have, no other one does
  pub no_other : (e : StretchEntry V) → IsLatestUpTo l.0 key e → (Covers e key → ⊥) → (x : StretchEntry V) → IsLatest l.0 x → Covers x key → ⊥
  no_other e is not x a c = not (subst (λ (z : StretchEntry V). Covers z key) (same_latest l.0 x e a is.latest (c.replica ∙ sym is.replica)) c)

  -- nor where the floor does not have it
  pub none_by_floor : (e : StretchEntry V) → IsFloor l.1 key e → (Covers e key → ⊥) → IsReadIn nth (KeepsEntry l.1) key None
  none_by_floor e floor not = record { none = λ f h c. not (floor_covers reaches l are key e floor f h c); some = tt }

-- a kept stretch cut in two, and then its last value taken
pub taken_after : {V : Type 0} (nth : Identifier → V → ℕ → V) (reaches : Identifier → V → ℕ → Type 0) (l : Layout V) → AreStretches reaches l
    → (key : Identifier) (k : Layout V) (e : StretchEntry V)
    → IsSplitAfter nth reaches l k e key → Covers e key → (es : List (StretchEntry V)) (last : ℕ) → last ≡ key.counter → IsTakenFrom k.1 es (up_to e last)
    → Loses nth reaches l (k.0, es) key
taken_after nth reaches l are key k e parted cover es last same taken =
    loses_after nth reaches l are key k (k.0, es) e parted
    (shorter_kept nth reaches k parted.are key (up_to e key.counter) parted.head (record { replica = cover.replica; from = cover.from; to = omega arith }) refl es
    (subst (λ (c : ℕ). IsTakenFrom k.1 es (up_to e c)) same taken))

-- what is left of a stretch is written in the map of kept ones
pub taken_from : {V : Type 0} (m n : BTreeMap Identifier (Stretch V)) (e : StretchEntry V) (left : Option (StretchEntry V)) → IsShorter e left
    → UpdatesBy id_cmp (id_cmp e.0) m n (option_map (λ x. x.1) left)
    → IsOrdered id_cmp n → IsTakenFrom m.entries n.entries e
taken_from m n e left short u ordered = record { left = left; shorter = short; becomes = kept_becomes m n e.0 (option_map (λ x. x.1) left) u ordered }
