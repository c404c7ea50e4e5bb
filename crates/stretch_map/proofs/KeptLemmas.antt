-- What changes of the kept stretches and of the last ones make of all stretches.
use Rattle.std.proofs.Common.{ap, arith, inl, inr, refl, subst, sym, List, ℕ, ◌<◌, ◌∙◌, ◌≡◌, ◌≢◌, ◌⊎◌}
use Rattle.std.specs.Prelude.{None, Option, Some}
use Rattle.std.specs.BTreeMap.{BTreeMap, IsOrdered, UpdatesBy}
use Rattle.std.specs.List.Sorted.{IsStrictlySortedBy}
use Rattle.std.specs.Map.{keys_of}
use Rattle.std.specs.Ordering.{nat_cmp}
use Rattle.fugue_ids.specs.Identifiers.{Identifier, id_cmp}
use Rattle.fugue_ids.proofs.IdentifierLemmas.{cases_id, id_at-other, nat_at-other}
use Rattle.stretch_map.specs.Contents.{StretchEntry, Latest, Layout}
use Rattle.stretch_map.specs.Stretches.{AreStretches, Has, IsLaid, IsLatest, IsSame, KeepsEntry, KeptBecomes, LatestBecomes, kept_at, latest_at}
use Rattle.stretch_map.specs.declared.stretches.Stretch.{Stretch}
use Rattle.stretch_map.proofs.FoundLemmas.{not_both, same_kept, same_latest}
use Rattle.stretch_map.proofs.LessenedLemmas.{Drops}
use Rattle.stretch_map.proofs.SetLemmas.{Sets, value_stays}
use Rattle.fugue_ids.proofs.OptionLemmas.{cases_number}

-- one entry of the map of kept stretches changes
pub kept_becomes : {V : Type 0} (m n : BTreeMap Identifier (Stretch V)) (at : Identifier) (o : Option (Stretch V)) → UpdatesBy id_cmp (id_cmp at) m n o → IsOrdered id_cmp n
    → KeptBecomes m.entries n.entries at o
kept_becomes m n at o u ordered = record { here = u.1; others = λ q d. u.2 q (id_at-other at q d); ordered = ordered }

-- one entry of the map of last stretches changes
pub latest_becomes : {V : Type 0} (m n : BTreeMap ℕ (Latest V)) (r : ℕ) (o : Option (Latest V)) → UpdatesBy nat_cmp (nat_cmp r) m n o → IsOrdered nat_cmp n
    → LatestBecomes m.entries n.entries r o
latest_becomes m n r o u ordered = record { here = u.1; others = λ q d. u.2 q (nat_at-other r q d); ordered = ordered }

module _ {V : Type 0} (es fs : List (StretchEntry V)) where
  -- a kept stretch after the change is the one that was set or was kept
  pub kept_cases : (f : StretchEntry V) → KeptBecomes es fs f.0 (Some f.1) → (x : StretchEntry V) → KeepsEntry fs x → (x ≡ f) ⊎ ((x.0 ≢ f.0) × KeepsEntry es x)
  kept_cases f becomes x h =
      elim (cases_id x.0 f.0) [
        | inl d ↦ let value = same_kept fs x f h becomes.here d in inl (λ i. (d i, value i))
        | inr d ↦ inr (d, sym (becomes.others x.0 d) ∙ h)
      ]

  -- where none is left under the identifier, it was kept elsewhere
  pub kept_left : (at : Identifier) → KeptBecomes es fs at None → (x : StretchEntry V) → KeepsEntry fs x → (x.0 ≢ at) × KeepsEntry es x
  kept_left at becomes x h =
      elim (cases_id x.0 at) [
        | inl d ↦ let both : None ≡ Some x.1 = sym becomes.here ∙ ap (kept_at fs) (sym d) ∙ h in absurd cc
        | inr d ↦ (d, sym (becomes.others x.0 d) ∙ h)
      ]

module _ {V : Type 0} (ls ks : List (ℕ × Latest V)) where
  -- a last stretch after the change is the one that was set or was one before
  pub latest_cases : (f : StretchEntry V) → LatestBecomes ls ks f.0.replica (Some (f.0.counter, f.1)) → (x : StretchEntry V) → IsLatest ks x
      → (x ≡ f) ⊎ ((x.0.replica ≢ f.0.replica) × IsLatest ls x)
  latest_cases f becomes x h =
      elim (cases_number x.0.replica f.0.replica) [
        | inl d ↦ inl (same_latest ks x f h becomes.here d)
        | inr d ↦ inr (d, sym (becomes.others x.0.replica d) ∙ h)
      ]

  -- where none is left of the replica, it was one before
  pub latest_left : (r : ℕ) → LatestBecomes ls ks r None → (x : StretchEntry V) → IsLatest ks x → (x.0.replica ≢ r) × IsLatest ls x
  latest_left r becomes x h =
      elim (cases_number x.0.replica r) [
        | inl d ↦ let own : Latest V = (x.0.counter, x.1) in let both : None ≡ Some own = sym becomes.here ∙ ap (latest_at ks) (sym d) ∙ h in absurd cc
        | inr d ↦ (d, sym (becomes.others x.0.replica d) ∙ h)
      ]

module _ {V : Type 0} (l k : Layout V) (laid : IsLaid l) where
  -- a last stretch is set, after the kept ones of its replica: each other one was there before
  set_cases : (f : StretchEntry V) → LatestBecomes l.0 k.0 f.0.replica (Some (f.0.counter, f.1))
      → ((x : StretchEntry V) → KeepsEntry k.1 x → x.0.replica ≡ f.0.replica → x.0.counter < f.0.counter)
      → ((x : StretchEntry V) → KeepsEntry k.1 x → Has l x) → (x : StretchEntry V) → Has k x → (x ≡ f) ⊎ ((x.0 ≢ f.0) × Has l x)
  set_cases f becomes before was x h =
      elim h [
        | inl a ↦
            elim (latest_cases l.0 k.0 f becomes x a) [
              | inl d ↦ inl d
              | inr d ↦ inr (λ e. d.0 (ap (λ (z : Identifier). z.replica) e), inl d.1)
            ]
        | inr a ↦
            inr (
              λ e.
                  let less : x.0.counter < f.0.counter = before x a (ap (λ (z : Identifier). z.replica) e) in
                  let same : x.0.counter ≡ f.0.counter = ap (λ (z : Identifier). z.counter) e in
                  absurd (omega arith),
              was x a,
            )
      ]

  -- one kept stretch changes: those under other identifiers stay
  kept_stays : (at : Identifier) (o : Option (Stretch V)) → KeptBecomes l.1 k.1 at o → k.0 ≡ l.0 → (x : StretchEntry V) → x.0 ≢ at → Has l x → Has k x
  kept_stays at o becomes rest x d h =
      elim h [
        | inl a ↦ inl (subst (λ ls. IsLatest ls x) (sym rest) a)
        | inr a ↦ inr (becomes.others x.0 d ∙ a)
      ]

  -- a last stretch is set, after the kept ones of its replica: it is a new one, or that one has another end
  pub sets_latest : (f : StretchEntry V) → ((x : StretchEntry V) → IsLatest l.0 x → x.0.replica ≡ f.0.replica → x.0 ≡ f.0)
      → ((x : StretchEntry V) → KeepsEntry l.1 x → x.0.replica ≡ f.0.replica → x.0.counter < f.0.counter)
      → LatestBecomes l.0 k.0 f.0.replica (Some (f.0.counter, f.1)) → k.1 ≡ l.1 → Sets l k f
  sets_latest f old before becomes rest =
      let was : (x : StretchEntry V) → KeepsEntry k.1 x → KeepsEntry l.1 x = λ x h. subst (λ es. KeepsEntry es x) rest h in
      record {
        here = inl becomes.here;
        cases = set_cases f becomes (λ x h. before x (was x h)) (λ x h. inr (was x h));
        stays = λ x d h.
            elim h [
              | inl a ↦ inl (becomes.others x.0.replica (λ e. d (old x a e)) ∙ a)
              | inr a ↦ inr (subst (λ es. KeepsEntry es x) (sym rest) a)
            ];
        laid = record {
          before = λ e x a h r.
              elim (latest_cases l.0 k.0 f becomes e a) [
                | inl d ↦ subst (λ (z : StretchEntry V). x.0.counter < z.0.counter) (sym d) (before x (was x h) (r ∙ ap (λ (z : StretchEntry V). z.0.replica) d))
                | inr d ↦ laid.before e x d.1 (was x h) r
              ];
          latest = becomes.ordered;
          kept = subst (λ (es : List (StretchEntry V)). IsStrictlySortedBy id_cmp (keys_of es)) (sym rest) laid.kept;
        };
      }

  -- a kept stretch is set, before the last one of its replica
  pub sets_kept : (f : StretchEntry V) → ((x : StretchEntry V) → IsLatest l.0 x → f.0.replica ≡ x.0.replica → f.0.counter < x.0.counter) → KeptBecomes l.1 k.1 f.0 (Some f.1)
      → k.0 ≡ l.0 → Sets l k f
  sets_kept f behind becomes rest =
      let was : (x : StretchEntry V) → IsLatest k.0 x → IsLatest l.0 x = λ x h. subst (λ ls. IsLatest ls x) rest h in
      record {
        here = inr becomes.here;
        cases = λ x h.
            elim h [
              | inl a ↦
                  inr (
                    λ e.
                        let less : f.0.counter < x.0.counter = behind x (was x a) (sym (ap (λ (z : Identifier). z.replica) e)) in
                        let same : x.0.counter ≡ f.0.counter = ap (λ (z : Identifier). z.counter) e in
                        absurd (omega arith),
                    inl (was x a),
                  )
              | inr a ↦ elim (kept_cases l.1 k.1 f becomes x a) [ inl d ↦ inl d | inr d ↦ inr (d.0, inr d.1) ]
            ];
        stays = kept_stays f.0 (Some f.1) becomes rest;
        laid = record {
          before = λ e x a h r.
              elim (kept_cases l.1 k.1 f becomes x h) [
                | inl d ↦ subst (λ (z : StretchEntry V). z.0.counter < e.0.counter) (sym d) (behind e (was e a) (sym (ap (λ (z : StretchEntry V). z.0.replica) d) ∙ r))
                | inr d ↦ laid.before e x (was e a) d.1 r
              ];
          latest = subst (λ (ls : List (ℕ × Latest V)). IsStrictlySortedBy nat_cmp (keys_of ls)) (sym rest) laid.latest;
          kept = becomes.ordered;
        };
      }

  -- another stretch is the last one of a replica, and the one before it is kept
  pub sets_after : (e f : StretchEntry V) → IsLatest l.0 e → e.0.replica ≡ f.0.replica → e.0.counter < f.0.counter → LatestBecomes l.0 k.0 f.0.replica (Some (f.0.counter, f.1))
      → KeptBecomes l.1 k.1 e.0 (Some e.1) → Sets l k f
  sets_after e f old rep less becomes keeps =
      let kept_before : (x : StretchEntry V) → KeepsEntry k.1 x → x.0.replica ≡ f.0.replica → x.0.counter < f.0.counter = λ x h r.
      elim (kept_cases l.1 k.1 e keeps x h) [
        | inl d ↦ subst (λ (z : StretchEntry V). z.0.counter < f.0.counter) (sym d) less
        | inr d ↦ let low : x.0.counter < e.0.counter = laid.before e x old d.1 (r ∙ sym rep) in omega (arith, less, low)
      ]
      in
      record {
        here = inl becomes.here;
        cases = set_cases f becomes kept_before
            (λ x h. elim (kept_cases l.1 k.1 e keeps x h) [ inl d ↦ inl (subst (λ (z : StretchEntry V). IsLatest l.0 z) (sym d) old) | inr d ↦ inr d.1 ]);
        stays = λ x d h.
            elim h [
              | inl a ↦
                  elim (cases_number x.0.replica f.0.replica) [
                    | inl r ↦ inr (subst (λ (z : StretchEntry V). KeepsEntry k.1 z) (sym (same_latest l.0 x e a old (r ∙ sym rep))) keeps.here)
                    | inr r ↦ inl (becomes.others x.0.replica r ∙ a)
                  ]
              | inr a ↦ inr (keeps.others x.0 (not_both l laid e x old a) ∙ a)
            ];
        laid = record {
          before = λ y x a h r.
              elim (latest_cases l.0 k.0 f becomes y a) [
                | inl d ↦ subst (λ (z : StretchEntry V). x.0.counter < z.0.counter) (sym d) (kept_before x h (r ∙ ap (λ (z : StretchEntry V). z.0.replica) d))
                | inr d ↦
                    elim (kept_cases l.1 k.1 e keeps x h) [
                      | inl c ↦ absurd (d.0 (sym r ∙ ap (λ (z : StretchEntry V). z.0.replica) c ∙ rep))
                      | inr c ↦ laid.before y x d.1 c.1 r
                    ]
              ];
          latest = becomes.ordered;
          kept = keeps.ordered;
        };
      }

  -- a last stretch goes
  pub drops_latest : (e : StretchEntry V) → IsLatest l.0 e → LatestBecomes l.0 k.0 e.0.replica None → k.1 ≡ l.1 → Drops l k e.0
  drops_latest e old becomes rest =
      let was : (x : StretchEntry V) → KeepsEntry k.1 x → KeepsEntry l.1 x = λ x h. subst (λ es. KeepsEntry es x) rest h in
      record {
        cases = λ x h.
            elim h [
              | inl a ↦ let left = latest_left l.0 k.0 e.0.replica becomes x a in (λ c. left.0 (ap (λ (z : Identifier). z.replica) c), inl left.1)
              | inr a ↦ (not_both l laid e x old (was x a), inr (was x a))
            ];
        stays = λ x d h.
            elim h [
              | inl a ↦ inl (becomes.others x.0.replica (λ r. d (ap (λ (z : StretchEntry V). z.0) (same_latest l.0 x e a old r))) ∙ a)
              | inr a ↦ inr (subst (λ es. KeepsEntry es x) (sym rest) a)
            ];
        laid = record {
          before = λ y x a h r. laid.before y x (latest_left l.0 k.0 e.0.replica becomes y a).1 (was x h) r;
          latest = becomes.ordered;
          kept = subst (λ (es : List (StretchEntry V)). IsStrictlySortedBy id_cmp (keys_of es)) (sym rest) laid.kept;
        };
      }

  -- a kept stretch goes
  pub drops_kept : (e : StretchEntry V) → KeepsEntry l.1 e → KeptBecomes l.1 k.1 e.0 None → k.0 ≡ l.0 → Drops l k e.0
  drops_kept e old becomes rest =
      let was : (x : StretchEntry V) → IsLatest k.0 x → IsLatest l.0 x = λ x h. subst (λ ls. IsLatest ls x) rest h in
      record {
        cases = λ x h.
            elim h [
              | inl a ↦ (λ c. not_both l laid x e (was x a) old (sym c), inl (was x a))
              | inr a ↦ let left = kept_left l.1 k.1 e.0 becomes x a in (left.0, inr left.1)
            ];
        stays = kept_stays e.0 None becomes rest;
        laid = record {
          before = λ y x a h r. laid.before y x (was y a) (kept_left l.1 k.1 e.0 becomes x h).1 r;
          latest = subst (λ (ls : List (ℕ × Latest V)). IsStrictlySortedBy nat_cmp (keys_of ls)) (sym rest) laid.latest;
          kept = becomes.ordered;
        };
      }

module _ {V : Type 0} (nth : Identifier → V → ℕ → V) (reaches : Identifier → V → ℕ → Type 0) (l k : Layout V) (are : AreStretches reaches l) where
  -- where the stretches are the same, the values are
  moved : ((e : StretchEntry V) → Has k e → Has l e) → ((e : StretchEntry V) → Has l e → Has k e) → IsLaid k → IsSame nth reaches l k
  moved among stays laid =
      let new_are : AreStretches reaches k = record {
        begun = λ e h. are.begun e (among e h);
        apart = λ e f h j. are.apart e f (among e h) (among f j);
        reached = λ e h. are.reached e (among e h);
        laid = laid;
      } in
      record {
        are = new_are;
        found = λ q. value_stays nth reaches l k are new_are q (λ e h c. (e, among e h, c)) (λ e h c. (e, stays e h, c, refl));
        among = among;
      }

  -- a last stretch goes among the kept ones
  pub shelved : (e : StretchEntry V) → IsLatest l.0 e → LatestBecomes l.0 k.0 e.0.replica None → KeptBecomes l.1 k.1 e.0 (Some e.1) → IsSame nth reaches l k
  shelved e old becomes keeps =
      moved
      (λ x h.
      elim h [
        | inl a ↦ inl (latest_left l.0 k.0 e.0.replica becomes x a).1
        | inr a ↦ elim (kept_cases l.1 k.1 e keeps x a) [ inl d ↦ inl (subst (λ (z : StretchEntry V). IsLatest l.0 z) (sym d) old) | inr d ↦ inr d.1 ]
      ])
      (λ x h.
      elim h [
        | inl a ↦
            elim (cases_number x.0.replica e.0.replica) [
              | inl r ↦ inr (subst (λ (z : StretchEntry V). KeepsEntry k.1 z) (sym (same_latest l.0 x e a old r)) keeps.here)
              | inr r ↦ inl (becomes.others x.0.replica r ∙ a)
            ]
        | inr a ↦ inr (keeps.others x.0 (not_both l are.laid e x old a) ∙ a)
      ])
      (record {
        before = λ y x a h r.
            let left = latest_left l.0 k.0 e.0.replica becomes y a in
            elim (kept_cases l.1 k.1 e keeps x h) [
              | inl d ↦ absurd (left.0 (sym r ∙ ap (λ (z : StretchEntry V). z.0.replica) d))
              | inr d ↦ are.laid.before y x left.1 d.1 r
            ];
        latest = becomes.ordered;
        kept = keeps.ordered;
      })
