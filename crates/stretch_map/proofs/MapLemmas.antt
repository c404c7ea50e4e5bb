-- The finite map that stretches stand for, as it is read, grows and shrinks.
use Rattle.std.proofs.Common.{ap, arith, cond, inl, inr, refl, suc, sym, zero, ℕ, ◌+◌, ◌-◌, ◌<◌, ◌∙◌, ◌≡◌, ◌≢◌, ◌≤◌}
use Rattle.std.specs.Prelude.{◌↔◌, Bool, false, true, IfSome, IsFalse, IsTrue, None, Option, Some}
use Rattle.std.specs.FinMap.{FinMap, get, get-from_entries, get-insert, get-remove, insert, remove, same_map}
use Rattle.std.specs.Ordering.{is_eq}
use Rattle.fugue_ids.specs.Identifiers.{Identifier, id_cmp}
use Rattle.fugue_ids.proofs.IdentifierLemmas.{cases_id, id_at-other, id_at-same}
use Rattle.fugue_ids.proofs.RunLemmas.{none_after}
use Rattle.stretch_map.specs.Contents.{StretchEntry, Layout, entries_with, contents, spread, value_in}
use Rattle.stretch_map.specs.Rules.{AreFree, IsFollowedBy, ReachesRun, with_run}
use Rattle.stretch_map.specs.Stretches.{Adds, AreFreeTo, AreStretches, CanCome, EndsAt, IsAmong, IsSame, Loses}
use Rattle.stretch_map.proofs.FoundLemmas.{cases_covers, cases_le, covered}
use Rattle.fugue_ids.proofs.OrderLemmas.{id_cmp-IsAntisymmetric, id_cmp_total}
use Rattle.fugue_ids.specs.Runs.{id_after}

-- identifiers are free where all of them are among those that are
pub all_free : {V : Type 0} (value_of : Identifier → Option V) (first : Identifier) (count last : ℕ) → 0 < count → last ≡ first.counter + (count - 1)
    → AreFree value_of first count → (q : Identifier)
    → IsAmong first last q → value_of q ≡ None
all_free value_of first count last some is free q c =
    let from : first.counter ≤ q.counter = c.from in
    let to : q.counter ≤ last = c.to in
    let there : first.counter + (q.counter - first.counter) ≡ q.counter = omega (arith, from) in
    let same : id_after first (q.counter - first.counter) ≡ q = λ i. record { replica = c.replica i; counter = there i } in
    sym (ap value_of same) ∙ free (q.counter - first.counter) (omega (arith, from, to, is, some))

-- and the other way round
pub free_all : {V : Type 0} (value_of : Identifier → Option V) (first : Identifier) (count last : ℕ) → last ≡ first.counter + (count - 1)
    → ((q : Identifier) → IsAmong first last q → value_of q ≡ None) → AreFree value_of first count
free_all value_of first count last is free k less = free (id_after first k) (record { replica = refl; from = omega arith; to = omega (arith, less, is) })

-- one identifier is free where it has no value
pub only_first : {V : Type 0} (value_of : Identifier → Option V) (key : Identifier) → value_of key ≡ None → AreFree value_of key 1
only_first value_of key none zero less = ap value_of (none_after key) ∙ none
only_first value_of key none (suc k) less = absurd (omega (arith, less))

-- and the rule reaches to one value
pub reaches_one : {V : Type 0} (reaches : Identifier → V → ℕ → Type 0) → ((first : Identifier) (v : V) → reaches first v 0) → (key : Identifier) (v : V)
    → ReachesRun reaches key v 1
reaches_one reaches starts key v zero less = starts key v
reaches_one reaches starts key v (suc k) less = absurd (omega (arith, less))

-- an answer decides whether identifiers are free
pub free_by : {V : Type 0} (nth : Identifier → V → ℕ → V) (l : Layout V) (value_of : Identifier → Option V) → ((q : Identifier) → value_of q ≡ value_in nth l q)
    → (first : Identifier) (count last : ℕ) → 0 < count
    → last ≡ first.counter + (count - 1) → (b : Bool) → (IsTrue b → AreFreeTo nth l first last) → (IsFalse b → AreFreeTo nth l first last → ⊥)
    → IsTrue b ↔ AreFree value_of first count
free_by nth l value_of seen first count last some is b on off = (
  (λ t. free_all value_of first count last is (λ q c. seen q ∙ on t q c)),
  (λ free. elim b as (λ x. (IsFalse x → AreFreeTo nth l first last → ⊥) → IsTrue x) [
    | true ↦ λ _. refl
    | false ↦ λ n. absurd (n refl (λ q c. sym (seen q) ∙ all_free value_of first count last some is free q c))
  ] off),
)

module _ {V : Type 0} (nth : Identifier → V → ℕ → V) where
  -- a value of the finite map is the one that is found in the entries
  pub get-contents : (l : Layout V) (q : Identifier) → get (contents nth l) q ≡ value_in nth l q
  get-contents l q = get-from_entries id_cmp_total (spread nth (entries_with l.0 l.1)) q

  -- equal values make equal maps
  pub contents-same : (l k : Layout V) → ((q : Identifier) → value_in nth k q ≡ value_in nth l q) → contents nth k ≡ contents nth l
  contents-same l k same = same_map id_cmp_total id_cmp-IsAntisymmetric (contents nth k) (contents nth l) (λ q. get-contents k q ∙ same q ∙ sym (get-contents l q))

  -- a value of a run is there
  run_inside : (first : Identifier) (v : V) (n : ℕ) (m : FinMap id_cmp V) (q : Identifier) → first.replica ≡ q.replica → first.counter ≤ q.counter → q.counter < first.counter + n
      → get (with_run nth first v n m) q ≡ Some (nth first v (q.counter - first.counter))
  run_inside first v zero m q r from to = absurd (omega (arith, from, to))
  run_inside first v (suc n) m q r from to =
      let older : FinMap id_cmp V = with_run nth first v n m in
      get-insert id_cmp_total older (id_after first n) (nth first v n) q
      ∙ elim (cases_id q (id_after first n)) [
        | inl e ↦
            let there : q.counter ≡ first.counter + n = ap (λ (x : Identifier). x.counter) e in
            let steps : n ≡ q.counter - first.counter = omega (arith, there) in
            ap (λ b. cond b (Some (nth first v n)) (get older q)) (ap (λ z. is_eq (id_cmp z (id_after first n))) e ∙ id_at-same (id_after first n))
            ∙ ap (λ k. Some (nth first v k)) steps
        | inr d ↦
            let apart : q.counter ≢ first.counter + n = λ e. d (λ i. record { replica = sym r i; counter = e i }) in
            ap (λ b. cond b (Some (nth first v n)) (get older q)) (id_at-other q (id_after first n) (λ e. d (sym e))) ∙ run_inside first v n m q r from (omega (arith, apart, to))
      ]

  -- and every other value stays
  run_outside : (first : Identifier) (v : V) (n : ℕ) (m : FinMap id_cmp V) (q : Identifier)
      → (first.replica ≡ q.replica → first.counter ≤ q.counter → q.counter < first.counter + n → ⊥)
      → get (with_run nth first v n m) q ≡ get m q
  run_outside first v zero m q out = refl
  run_outside first v (suc n) m q out =
      let older : FinMap id_cmp V = with_run nth first v n m in
      let other : id_after first n ≢ q = λ e.
      let there : first.counter + n ≡ q.counter = ap (λ (x : Identifier). x.counter) e in
      out (ap (λ (x : Identifier). x.replica) e) (omega (arith, there)) (omega (arith, there))
      in
      get-insert id_cmp_total older (id_after first n) (nth first v n) q ∙ ap (λ b. cond b (Some (nth first v n)) (get older q)) (id_at-other q (id_after first n) other)
      ∙ run_outside first v n m q (λ r from to. out r from (omega (arith, to)))

  -- a run more
  pub contents-adds : (reaches : Identifier → V → ℕ → Type 0) (l k : Layout V) (first : Identifier) (v : V) (count last : ℕ) → 0 < count → last ≡ first.counter + (count - 1)
      → Adds nth reaches l k (first, record { value = v; last = last }) → contents nth k ≡ with_run nth first v count (contents nth l)
  contents-adds reaches l k first v count last some is adds =
      let run : StretchEntry V = (first, record { value = v; last = last }) in
      same_map id_cmp_total id_cmp-IsAntisymmetric (contents nth k) (with_run nth first v count (contents nth l))
      (λ q.
      get-contents k q
      ∙ elim (cases_covers run q) [
        | inl c ↦
            let to : q.counter ≤ last = c.to in
            adds.inside q c ∙ sym (run_inside first v count (contents nth l) q c.replica c.from (omega (arith, to, is, some)))
        | inr d ↦
            adds.outside q d ∙ sym (get-contents l q)
            ∙ sym (run_outside first v count (contents nth l) q (λ r from to. d (record { replica = r; from = from; to = omega (arith, to, is, some) })))
      ])

  -- a run of one is one value
  pub run_of_one : ((first : Identifier) (v : V) → nth first v 0 ≡ v) → (key : Identifier) (v : V) (m : FinMap id_cmp V) → with_run nth key v 1 m ≡ insert m key v
  run_of_one at_start key v m = λ i. insert m (none_after key i) (at_start key v i)

  -- a run may come where its identifiers are free
  pub can_come : (reaches : Identifier → V → ℕ → Type 0) (l : Layout V) (value_of : Identifier → Option V) → ((q : Identifier) → value_of q ≡ value_in nth l q)
      → (first : Identifier) (v : V) (count last : ℕ)
      → 0 < count → last ≡ first.counter + (count - 1) → ReachesRun reaches first v count → AreFree value_of first count
      → CanCome nth reaches l (first, record { value = v; last = last })
  can_come reaches l value_of seen first v count last some is reached free = record {
    begun = omega (arith, is);
    reached = λ n to. reached n (omega (arith, to, is, some));
    free = λ q c. sym (seen q) ∙ all_free value_of first count last some is free q c;
  }

  module _ (reaches : Identifier → V → ℕ → Type 0) (l k : Layout V) (key : Identifier) where
    -- one value less
    pub contents-loses : Loses nth reaches l k key → contents nth k ≡ remove (contents nth l) key
    contents-loses loses =
        same_map id_cmp_total id_cmp-IsAntisymmetric (contents nth k) (remove (contents nth l) key)
        (λ q.
        get-contents k q ∙ loses.found q ∙ ap (λ o. cond (is_eq (id_cmp q key)) None o) (sym (get-contents l q)) ∙ sym (get-remove id_cmp_total (contents nth l) key q))

  -- where the next identifier has not the value that follows, a stretch ends with the key
  pub ends_unless_followed : (reaches : Identifier → V → ℕ → Type 0)
      → ((first : Identifier) (value : V) (j k : ℕ) → nth (id_after first j) (nth first value j) k ≡ nth first value (j + k))
      → (l : Layout V) → AreStretches reaches l → (key : Identifier) → (IsFollowedBy nth (value_in nth l) key → ⊥) → EndsAt l key
  ends_unless_followed reaches adds l are key not e has cover =
      elim (cases_le e.1.last key.counter) [
        | inl low ↦ low
        | inr over ↦
            let from : e.0.counter ≤ key.counter = cover.from in
            let j : ℕ = key.counter - e.0.counter in
            let steps : key.counter + 1 - e.0.counter ≡ key.counter - e.0.counter + 1 = omega arith in
            let there : id_after e.0 (key.counter - e.0.counter) ≡ key = let c : e.0.counter + (key.counter - e.0.counter) ≡ key.counter =
            omega arith in λ i. record { replica = cover.replica i; counter = c i } in
            let next = covered nth reaches l are (id_after key 1) e has (record { replica = cover.replica; from = omega arith; to = omega arith }) in
            absurd (not (record {
              value = nth e.0 e.1.value (key.counter - e.0.counter);
              held = covered nth reaches l are key e has cover;
              followed = next ∙ ap (λ n. Some (nth e.0 e.1.value n)) steps ∙ ap Some (sym (adds e.0 e.1.value (key.counter - e.0.counter) 1))
                  ∙ ap (λ x. Some (nth x (nth e.0 e.1.value (key.counter - e.0.counter)) 1)) there;
            }))
      ]

-- where the stretches are the same, one still ends with a key
pub still_ends : {V : Type 0} (nth : Identifier → V → ℕ → V) (reaches : Identifier → V → ℕ → Type 0) (l k : Layout V) → IsSame nth reaches l k → (o : Option Identifier)
    → IfSome o (EndsAt l) → IfSome o (EndsAt k)
still_ends nth reaches l k same None ends = tt
still_ends nth reaches l k same (Some key) ends = λ e h c. ends e (same.among e h) c
