-- What is found in stretches.
use Rattle.std.proofs.Common.{[], List, ap, arith, inl, inr, refl, subst, suc, sym, zero, ℕ, ◌++◌, ◌+◌, ◌-◌, ◌<◌, ◌∙◌, ◌∷◌, ◌≡◌, ◌≢◌, ◌≤◌, ◌⊎◌, cond, nat_eq}
use Rattle.std.specs.Prelude.{None, Option, Some}
use Rattle.std.specs.BTreeMap.{is_at}
use Rattle.std.specs.FinMap.{find}
use Rattle.std.specs.List.{Contains}
use Rattle.std.specs.Cmp.{eq_by_cmp_equiv, nat_cmp_total}
use Rattle.std.specs.List.Sorted.{IsStrictlySortedBy}
use Rattle.std.specs.Map.{keys_of, lookup}
use Rattle.std.specs.Ordering.{is_eq, nat_cmp}
use Rattle.std.proofs.lemmas.Bool.{cases_Bool, eq-eqb, eqb-true, true≢false}
use Rattle.std.proofs.lemmas.Map.Views.{lookup-from_Contains}
use Rattle.std.proofs.lemmas.Map.Keys.{IsDistinct-from_sorted}
use Rattle.fugue_ids.proofs.ListLemmas.{contains_cases, contains_here, contains_none, contains_there}
use Rattle.fugue_ids.specs.Identifiers.{Identifier, id_cmp}
use Rattle.fugue_ids.proofs.IdentifierLemmas.{cases_id, id_at-other, id_at-same, nat_at-other, nat_at-same}
use Rattle.stretch_map.specs.Contents.{StretchEntry, Latest, Layout, entries_with, run, spread, value_in}
use Rattle.stretch_map.specs.Stretches.{AreStretches, Covers, Has, IsLaid, IsLatest, IsReadIn, KeepsEntry, kept_at, latest_at}
use Rattle.stretch_map.specs.declared.stretches.Stretch.{Stretch}
use Rattle.fugue_ids.proofs.OrderLemmas.{id_cmp_total}
use Rattle.fugue_ids.specs.Runs.{id_after}
use Rattle.fugue_ids.proofs.OptionLemmas.{cases_number}

-- what is found where the first entry is the one that is looked for
find-own : {V : Type 0} (q k : Identifier) (v : V) (es : List (Identifier × V)) → k ≡ q → find id_cmp q ((k, v) ∷ es) ≡ Some v
find-own q k v es e = ap (λ b. cond b (Some v) (find id_cmp q es)) (ap (λ x. is_eq (id_cmp q x)) e ∙ id_at-same q)

-- and where it is another
find-other : {V : Type 0} (q k : Identifier) (v : V) (es : List (Identifier × V)) → k ≢ q → find id_cmp q ((k, v) ∷ es) ≡ find id_cmp q es
find-other q k v es n = ap (λ b. cond b (Some v) (find id_cmp q es)) (id_at-other q k n)

-- an identifier of a stretch is found in it
found_in_run : {V : Type 0} (nth : Identifier → V → ℕ → V) (f : Identifier) (v : V) (n : ℕ) (q : Identifier) (rest : List (Identifier × V))
    → f.replica ≡ q.replica → f.counter ≤ q.counter → q.counter < f.counter + n → find id_cmp q (run nth f v n ++ rest) ≡ Some (nth f v (q.counter - f.counter))
found_in_run nth f v zero q rest r a b = absurd (omega arith)
found_in_run nth f v (suc n) q rest r a b =
    elim (cases_id (id_after f n) q) [
      | inl e ↦
          let there : f.counter + n ≡ q.counter = ap (λ x. x.counter) e in
          let steps : n ≡ q.counter - f.counter = omega arith in
          find-own q (id_after f n) (nth f v n) (run nth f v n ++ rest) e ∙ ap (λ k. Some (nth f v k)) steps
      | inr d ↦
          let apart : f.counter + n ≢ q.counter = λ e. d (λ i. record { replica = r i; counter = e i }) in
          find-other q (id_after f n) (nth f v n) (run nth f v n ++ rest) d ∙ found_in_run nth f v n q rest r a (omega (arith, apart))
    ]

-- another identifier is not
past_run : {V : Type 0} (nth : Identifier → V → ℕ → V) (f : Identifier) (v : V) (n : ℕ) (q : Identifier) (rest : List (Identifier × V))
    → (f.replica ≡ q.replica → f.counter ≤ q.counter → q.counter < f.counter + n → ⊥) → find id_cmp q (run nth f v n ++ rest) ≡ find id_cmp q rest
past_run nth f v zero q rest out = refl
past_run nth f v (suc n) q rest out =
    let other : id_after f n ≢ q = λ e.
    let there : f.counter + n ≡ q.counter = ap (λ x. x.counter) e in
    out (ap (λ x. x.replica) e) (omega arith) (omega arith)
    in
    find-other q (id_after f n) (nth f v n) (run nth f v n ++ rest) other ∙ past_run nth f v n q rest (λ r a b. out r a (omega arith))

-- numbers are in order or the other way round
pub cases_le : (a b : ℕ) → (a ≤ b) ⊎ (b < a)
cases_le a b = grind arith

-- a stretch has an identifier or not
pub cases_covers : {V : Type 0} (e : StretchEntry V) (q : Identifier) → Covers e q ⊎ (Covers e q → ⊥)
cases_covers e q =
    elim (cases_number e.0.replica q.replica) [
      | inr n ↦ inr (λ c. n c.replica)
      | inl r ↦
          elim (cases_le e.0.counter q.counter) [
            | inr l ↦ inr (λ c. let h : e.0.counter ≤ q.counter = c.from in omega arith)
            | inl a ↦
                elim (cases_le q.counter e.1.last) [
                  | inr l ↦ inr (λ c. let h : q.counter ≤ e.1.last = c.to in omega arith)
                  | inl b ↦ inl (record { replica = r; from = a; to = b })
                ]
          ]
    ]

-- what is found is the value of a stretch
found_in : {V : Type 0} (nth : Identifier → V → ℕ → V) (q : Identifier) (es : List (StretchEntry V))
    → ((find id_cmp q (spread nth es) ≡ None) × ((e : StretchEntry V) → Contains es e → Covers e q → ⊥))
    ⊎ ((e : StretchEntry V) × Contains es e × Covers e q × (find id_cmp q (spread nth es) ≡ Some (nth e.0 e.1.value (q.counter - e.0.counter))))
found_in nth q [] = inl (refl, λ e m c. contains_none e m)
found_in {V} nth q (x ∷ xs) =
    elim (cases_covers x q) [
      | inl c ↦
          let low : x.0.counter ≤ q.counter = c.from in
          let high : q.counter ≤ x.1.last = c.to in
          inr (x, contains_here x xs, c, found_in_run nth x.0 x.1.value (suc x.1.last - x.0.counter) q (spread nth xs) c.replica low (omega arith))
      | inr n ↦
          let past : find id_cmp q (run nth x.0 x.1.value (suc x.1.last - x.0.counter) ++ spread nth xs) ≡ find id_cmp q (spread nth xs) =
          past_run nth x.0 x.1.value (suc x.1.last - x.0.counter) q (spread nth xs) (λ r a b. n (record { replica = r; from = a; to = omega arith })) in
          elim (found_in nth q xs) [
            | inl w ↦ inl (past ∙ w.0, λ e m c. elim (contains_cases x xs e m) [ inl d ↦ n (subst (λ (y : StretchEntry V). Covers y q) (sym d) c) | inr k ↦ w.1 e k c ])
            | inr w ↦ inr (w.0, contains_there x xs w.0 w.1, w.2, past ∙ w.3)
          ]
    ]

-- what a look-up finds is an entry
kept_in : {V : Type 0} (f : Identifier) (s : Stretch V) (es : List (StretchEntry V)) → lookup (is_at (id_cmp f)) es ≡ Some s → Contains es (f, s)
kept_in f s [] e = absurd (cc e)
kept_in f s (x ∷ xs) e =
    elim (cases_id x.0 f) [
      | inl d ↦
          let here : Some x.1 ≡ Some s = sym (ap (λ b. cond b (Some x.1) (lookup (is_at (id_cmp f)) xs)) (ap (λ y. is_eq (id_cmp f y)) d ∙ id_at-same f)) ∙ e in
          let same : x.1 ≡ s = cc in
          subst (Contains (x ∷ xs)) (λ i. (d i, same i)) (contains_here x xs)
      | inr n ↦ contains_there x xs (f, s) (kept_in f s xs (sym (ap (λ b. cond b (Some x.1) (lookup (is_at (id_cmp f)) xs)) (id_at-other f x.0 n)) ∙ e))
    ]

-- an entry is found by a look-up
in_kept : {V : Type 0} (es : List (StretchEntry V)) → IsStrictlySortedBy id_cmp (keys_of es) → (e : StretchEntry V) → Contains es e → KeepsEntry es e
in_kept es ordered e i = lookup-from_Contains (eq_by_cmp_equiv id_cmp_total) e.0 e.1 es (IsDistinct-from_sorted id_cmp (keys_of es) ordered) i

-- one stretch is kept under an identifier
pub same_kept : {V : Type 0} (es : List (StretchEntry V)) (e f : StretchEntry V) → KeepsEntry es e → KeepsEntry es f → e.0 ≡ f.0 → e.1 ≡ f.1
same_kept es e f k l d = let both : Some e.1 ≡ Some f.1 = sym k ∙ ap (kept_at es) d ∙ l in cc

-- a replica has one last stretch
pub same_latest : {V : Type 0} (ls : List (ℕ × Latest V)) (e f : StretchEntry V) → IsLatest ls e → IsLatest ls f → e.0.replica ≡ f.0.replica → e ≡ f
same_latest {V} ls e f k l d =
    let a : Latest V = (e.0.counter, e.1) in
    let b : Latest V = (f.0.counter, f.1) in
    let both : Some a ≡ Some b = sym k ∙ ap (latest_at ls) d ∙ l in
    let same : a ≡ b = cc in
    λ i. (record { replica = d i; counter = (same i).0 }, (same i).1)

-- a last stretch is not kept
pub not_both : {V : Type 0} (l : Layout V) → IsLaid l → (x y : StretchEntry V) → IsLatest l.0 x → KeepsEntry l.1 y → y.0 ≢ x.0
not_both l laid x y a b d =
    let r : y.0.replica ≡ x.0.replica = ap (λ (z : Identifier). z.replica) d in
    let c : y.0.counter ≡ x.0.counter = ap (λ (z : Identifier). z.counter) d in
    let less : y.0.counter < x.0.counter = laid.before x y a b r in
    omega arith

-- one stretch has a first identifier
pub same_has : {V : Type 0} (reaches : Identifier → V → ℕ → Type 0) (l : Layout V) → AreStretches reaches l → (e f : StretchEntry V) → Has l e → Has l f → e.0 ≡ f.0 → e.1 ≡ f.1
same_has {V} reaches l are e f h k d =
    elim h [
      | inl a ↦
          elim k [
            | inl b ↦ ap (λ (x : StretchEntry V). x.1) (same_latest l.0 e f a b (ap (λ (x : Identifier). x.replica) d))
            | inr b ↦ absurd (not_both l are.laid e f a b (sym d))
          ]
      | inr a ↦
          elim k [
            | inl b ↦ absurd (not_both l are.laid f e b a d)
            | inr b ↦ same_kept l.1 e f a b d
          ]
    ]

-- what a look-up of a replica finds is a member
latest_in : {V : Type 0} (r : ℕ) (x : Latest V) (ls : List (ℕ × Latest V)) → latest_at ls r ≡ Some x → Contains ls (r, x)
latest_in r x [] e = absurd (cc e)
latest_in r x (y ∷ ys) e =
    elim (cases_number y.0 r) [
      | inl d ↦
          let here : Some y.1 ≡ Some x = sym (ap (λ b. cond b (Some y.1) (latest_at ys r)) (ap (λ z. is_eq (nat_cmp r z)) d ∙ nat_at-same r)) ∙ e in
          let same : y.1 ≡ x = cc in
          subst (Contains (y ∷ ys)) (λ i. (d i, same i)) (contains_here y ys)
      | inr n ↦ contains_there y ys (r, x) (latest_in r x ys (sym (ap (λ b. cond b (Some y.1) (latest_at ys r)) (nat_at-other r y.0 n)) ∙ e))
    ]

-- a member is found by a look-up of its replica
in_latest : {V : Type 0} (ls : List (ℕ × Latest V)) → IsStrictlySortedBy nat_cmp (keys_of ls) → (r : ℕ) (x : Latest V) → Contains ls (r, x) → latest_at ls r ≡ Some x
in_latest ls ordered r x i = lookup-from_Contains (eq_by_cmp_equiv nat_cmp_total) r x ls (IsDistinct-from_sorted nat_cmp (keys_of ls) ordered) i

-- a member of all stretches is a last one or a kept one
parts : {V : Type 0} (ls : List (ℕ × Latest V)) (es : List (StretchEntry V)) (e : StretchEntry V) → Contains (entries_with ls es) e
    → Contains ls (e.0.replica, (e.0.counter, e.1)) ⊎ Contains es e
parts [] es e i = inr i
parts {V} (x ∷ xs) es e i =
    elim (contains_cases (record { replica = x.0; counter = x.1.0 }, x.1.1) (entries_with xs es) e i) [
      | inl d ↦ inl (subst (Contains (x ∷ xs)) (ap (λ (z : StretchEntry V). (z.0.replica, (z.0.counter, z.1))) d) (contains_here x xs))
      | inr k ↦ elim (parts xs es e k) [ inl h ↦ inl (contains_there x xs _ h) | inr h ↦ inr h ]
    ]

-- and each of these is a member of all
kept_part : {V : Type 0} (ls : List (ℕ × Latest V)) (es : List (StretchEntry V)) (e : StretchEntry V) → Contains es e → Contains (entries_with ls es) e
kept_part [] es e i = i
kept_part (x ∷ xs) es e i = contains_there (record { replica = x.0; counter = x.1.0 }, x.1.1) (entries_with xs es) e (kept_part xs es e i)

latest_part : {V : Type 0} (ls : List (ℕ × Latest V)) (es : List (StretchEntry V)) (e : StretchEntry V) → Contains ls (e.0.replica, (e.0.counter, e.1))
    → Contains (entries_with ls es) e
latest_part [] es e i = absurd (contains_none _ i)
latest_part {V} (x ∷ xs) es e i =
    let f : StretchEntry V = (record { replica = x.0; counter = x.1.0 }, x.1.1) in
    elim (contains_cases x xs (e.0.replica, (e.0.counter, e.1)) i) [
      | inl d ↦ subst (Contains (f ∷ entries_with xs es)) (λ j. (record { replica = (d j).0; counter = (d j).1.0 }, (d j).1.1)) (contains_here f (entries_with xs es))
      | inr k ↦ contains_there f (entries_with xs es) e (latest_part xs es e k)
    ]

-- a member of all stretches is one of them
has_from_in : {V : Type 0} (l : Layout V) → IsLaid l → (e : StretchEntry V) → Contains (entries_with l.0 l.1) e → Has l e
has_from_in l laid e i =
    elim (parts l.0 l.1 e i) [ inl h ↦ inl (in_latest l.0 laid.latest e.0.replica (e.0.counter, e.1) h) | inr h ↦ inr (in_kept l.1 laid.kept e h) ]

in_from_has : {V : Type 0} (l : Layout V) (e : StretchEntry V) → Has l e → Contains (entries_with l.0 l.1) e
in_from_has l e h =
    elim h [
      | inl a ↦ latest_part l.0 l.1 e (latest_in e.0.replica (e.0.counter, e.1) l.0 a)
      | inr k ↦ kept_part l.0 l.1 e (kept_in e.0 e.1 l.1 k)
    ]

module _ {V : Type 0} (nth : Identifier → V → ℕ → V) (reaches : Identifier → V → ℕ → Type 0) (l : Layout V) (are : AreStretches reaches l) where
  -- what is found is the value of a stretch
  pub found : (q : Identifier)
      → ((value_in nth l q ≡ None) × ((e : StretchEntry V) → Has l e → Covers e q → ⊥))
      ⊎ ((e : StretchEntry V) × Has l e × Covers e q × (value_in nth l q ≡ Some (nth e.0 e.1.value (q.counter - e.0.counter))))
  found q =
      elim (found_in nth q (entries_with l.0 l.1)) [
        | inl w ↦ inl (w.0, λ e k c. w.1 e (in_from_has l e k) c)
        | inr w ↦ inr (w.0, has_from_in l are.laid w.0 w.1, w.2, w.3)
      ]

  -- nothing is found that no stretch has
  pub uncovered : (q : Identifier) → ((e : StretchEntry V) → Has l e → Covers e q → ⊥) → value_in nth l q ≡ None
  uncovered q none = elim (found q) [ inl w ↦ w.0 | inr w ↦ absurd (none w.0 w.1 w.2) ]

  -- and no stretch has what is not found
  pub not_covered : (q : Identifier) → value_in nth l q ≡ None → (e : StretchEntry V) → Has l e → Covers e q → ⊥
  not_covered q none e k c = elim (found q) [ inl w ↦ w.1 e k c | inr w ↦ let both = sym none ∙ w.3 in cc ]

  -- no two stretches have one identifier
  pub one_covers : (q : Identifier) (e f : StretchEntry V) → Has l e → Has l f → Covers e q → Covers f q → e.0 ≡ f.0
  one_covers q e f k h c d =
      let r : e.0.replica ≡ f.0.replica = c.replica ∙ sym d.replica in
      let a1 : e.0.counter ≤ q.counter = c.from in
      let a2 : q.counter ≤ e.1.last = c.to in
      let b1 : f.0.counter ≤ q.counter = d.from in
      let b2 : q.counter ≤ f.1.last = d.to in
      elim (cases_le e.0.counter f.0.counter) [
        | inl i ↦
            elim (cases_le f.0.counter e.0.counter) [
              | inl j ↦ let same : e.0.counter ≡ f.0.counter = omega arith in λ i. record { replica = r i; counter = same i }
              | inr j ↦ let over : e.1.last < f.0.counter = are.apart e f k h r j in absurd (omega arith)
            ]
        | inr i ↦ let over : f.1.last < e.0.counter = are.apart f e h k (sym r) i in absurd (omega arith)
      ]

  -- the value at an identifier is that of the stretch that has it
  pub covered : (q : Identifier) (e : StretchEntry V) → Has l e → Covers e q → value_in nth l q ≡ Some (nth e.0 e.1.value (q.counter - e.0.counter))
  covered q e k c =
      elim (found q) [
        | inl w ↦ absurd (w.1 e k c)
        | inr w ↦
            let first = one_covers q w.0 e w.1 k w.2 c in
            let value = same_has reaches l are w.0 e w.1 k first in
            w.3 ∙ (λ i. Some (nth (first i) (value i).value (q.counter - (first i).counter)))
      ]

  -- what is read in the stretches is what is found
  pub read : (q : Identifier) (o : Option V) → IsReadIn nth (Has l) q o → o ≡ value_in nth l q
  read q None is = sym (uncovered q is.none)
  read q (Some v) is = let e = is.some in ap Some e.3 ∙ sym (covered q e.0 e.1 e.2)
