-- Valid claims, and the one that wins.
use Rattle.std.proofs.Common.{Bool, List, [], ap, arith, false, inl, inr, refl, subst, sym, true, ℕ, ◌&&◌, ◌++◌, ◌<◌, ◌||◌, ◌∙◌, ◌∷◌, ◌≡◌}
use Rattle.std.specs.Prelude.{None, Option, Some, if◌then◌else◌, nat_eq, nat_lt, option_to_list}
use Rattle.std.specs.List.{All, Contains}
use Rattle.std.proofs.lemmas.Bool.{cases_Bool, true≢false}
use Rattle.std.proofs.lemmas.Bool.Decides.{nat_tests}
use Rattle.fugue_ids.specs.Identifiers.{Identifier, id_eq, id_lt}
use Rattle.fugue_ids.specs.Ops.{id_of}
use Rattle.fugue_ids.specs.declared.op.Op.{Op}
use Rattle.fugue_ids.proofs.IdentifierLemmas.{id_eq-true}
use Rattle.fugue_ids.proofs.ListLemmas.{contains_cases, contains_here, contains_none, contains_there}
use Rattle.origin_model.specs.operations.History.{holder, is_own}
use Rattle.origin_model.specs.operations.Verdict.{Lawful, names}
use Rattle.origin_model.proofs.SharedLemmas.{Fits, holder-other, holder-own, is_own-id}
use Rattle.catalogue_notes.specs.Arranged.{beats, best, better}
use Rattle.catalogue_notes.specs.Claims.{Claim}
use Rattle.catalogue_notes.specs.Lift.{passing}
use Rattle.catalogue_notes.specs.Lift.{claims}
use Rattle.catalogue_notes.proofs.HolderLemmas.{Joins, cases_option, holder-kept, joins, names_held, not_both, same_value}
use Rattle.catalogue_notes.proofs.LiftLemmas.{passing_from, some_inj}

module _ {V : Type 0} (says : Op → Option (Claim V)) (test : List Op → Claim V → Bool) where
  claims-nil : claims says test [] ≡ []
  unfolding claims
  claims-nil = refl

  claims-cons : (e : Op) (h : List Op) → claims says test (e ∷ h) ≡ option_to_list (passing (test h) (says e)) ++ claims says test h
  unfolding claims
  claims-cons e h = refl

  pub claims-none : (e : Op) (h : List Op) → passing (test h) (says e) ≡ None → claims says test (e ∷ h) ≡ claims says test h
  claims-none e h k = claims-cons e h ∙ ap (λ o. option_to_list o ++ claims says test h) k

  pub claims-some : (e : Op) (h : List Op) (c : Claim V) → passing (test h) (says e) ≡ Some c → claims says test (e ∷ h) ≡ c ∷ claims says test h
  claims-some e h c k = claims-cons e h ∙ ap (λ o. option_to_list o ++ claims says test h) k

  module _ (own : (e : Op) (c : Claim V) → says e ≡ Some c → id_of e ≡ Some c.id)
      (kept : (e : Op) (h : List Op) (f : Op) → Joins h e → All (Fits h) (names f) → passing (test (e ∷ h)) (says f) ≡ passing (test h) (says f)) where
    -- a valid claim is that of the operation with its identifier
    pub claim_found : (h : List Op) (c : Claim V) → Lawful h → Contains (claims says test h) c → (e : Op) × (holder h c.id ≡ Some e) × (passing (test h) (says e) ≡ Some c)
    claim_found [] c w m = absurd (contains_none c (subst (λ l. Contains l c) claims-nil m))
    claim_found (e ∷ h) c w m =
        let older : Contains (claims says test h) c → (e' : Op) × (holder (e ∷ h) c.id ≡ Some e') × (passing (test (e ∷ h)) (says e') ≡ Some c) = λ k.
        let r = claim_found h c w.1 k in
        (r.0, holder-kept e r.0 h c.id (joins h e w.0) r.1, kept e h r.0 (joins h e w.0) (names_held h c.id r.0 w.1 r.1) ∙ r.2) in
        elim (cases_option (passing (test h) (says e))) [
          | inl n ↦ older (subst (λ l. Contains l c) (claims-none e h n) m)
          | inr o ↦ elim (contains_cases o.0 (claims says test h) c (subst (λ l. Contains l c) (claims-some e h o.0 o.1) m)) [
            | inl d ↦
                let k : passing (test h) (says e) ≡ Some c = o.1 ∙ ap Some d in
                let p = passing_from (test h) (says e) c k in
                (e, holder-own e h c.id (is_own-id e c.id (own e c p.0)), kept e h e (joins h e w.0) (joins h e w.0).fit ∙ k)
            | inr k ↦ older k
          ]
        ]

    -- and each operation that says one has it among the valid claims
    pub found_claim : (h : List Op) (x : Identifier) (e : Op) (c : Claim V) → Lawful h → holder h x ≡ Some e → passing (test h) (says e) ≡ Some c → Contains (claims says test h) c
    found_claim [] x e c w k q = cc
    found_claim (o ∷ h) x e c w k q =
        elim (cases_Bool (owns_x o)) [
          | inl t ↦
              let d : o ≡ e = same_value (holder (o ∷ h) x) o e (holder-own o h x t) k in
              let p : passing (test h) (says o) ≡ Some c = sym (kept o h o (joins h o w.0) (joins h o w.0).fit) ∙ ap (λ z. passing (test (o ∷ h)) (says z)) d ∙ q in
              subst (λ l. Contains l c) (sym (claims-some o h c p)) (contains_here c (claims says test h))
          | inr t ↦
              let j : holder h x ≡ Some e = sym (holder-other o h x t) ∙ k in
              let m : Contains (claims says test h) c = found_claim h x e c w.1 j (sym (kept o h e (joins h o w.0) (names_held h x e w.1 j)) ∙ q) in
              elim (cases_option (passing (test h) (says o))) [
                | inl n ↦ subst (λ l. Contains l c) (sym (claims-none o h n)) m
                | inr p ↦ subst (λ l. Contains l c) (sym (claims-some o h p.0 p.1)) (contains_there p.0 (claims says test h) c m)
              ]
        ]
      where
        owns_x : Op → Bool
        owns_x o = is_own x o

    -- a claim is fixed by its identifier
    pub one_claim : (h : List Op) (c d : Claim V) → Lawful h → Contains (claims says test h) c → Contains (claims says test h) d → c.id ≡ d.id → c ≡ d
    one_claim h c d w m n k =
        let a = claim_found h c w m in
        let b = claim_found h d w n in
        let e : a.0 ≡ b.0 = same_value (holder h d.id) a.0 b.0 (ap (holder h) (sym k) ∙ a.1) b.1 in
        same_value (passing (test h) (says b.0)) c d (ap (λ z. passing (test h) (says z)) (sym e) ∙ a.2) b.2

-- one claim wins over another by stamps and identifiers
wins-irrefl : (n : ℕ) (a : Identifier) → (nat_lt n n || (nat_eq n n && id_lt a a)) ≡ false
wins-irrefl n a = grind (arith, nat_tests)

wins-trans : (l m n : ℕ) (a b c : Identifier) → (nat_lt m l || (nat_eq m l && id_lt b a)) ≡ true → (nat_lt n m || (nat_eq n m && id_lt c b)) ≡ true
    → (nat_lt n l || (nat_eq n l && id_lt c a)) ≡ true
wins-trans l m n a b c h k = grind (arith, nat_tests)

wins-total : (m n : ℕ) (a b : Identifier) → (nat_lt n m || (nat_eq n m && id_lt b a)) ≡ false → (nat_lt m n || (nat_eq m n && id_lt a b)) ≡ false → id_eq a b ≡ true
wins-total m n a b h k = grind (arith, nat_tests)

wins-stamp : (m n : ℕ) (a b : Identifier) → n < m → (nat_lt n m || (nat_eq n m && id_lt b a)) ≡ true
wins-stamp m n a b h = grind (arith, nat_tests)

module _ {V : Type 0} where
  pub beats-stamp : (c b : Claim V) → b.stamp < c.stamp → beats c b ≡ true
  beats-stamp c b l = wins-stamp c.stamp b.stamp c.id b.id l

  beats-irrefl : (c : Claim V) → beats c c ≡ false
  beats-irrefl c = wins-irrefl c.stamp c.id

  beats-trans : (a b c : Claim V) → beats a b ≡ true → beats b c ≡ true → beats a c ≡ true
  beats-trans a b c = wins-trans a.stamp b.stamp c.stamp a.id b.id c.id

  beats-total : (a b : Claim V) → beats a b ≡ false → beats b a ≡ false → a.id ≡ b.id
  beats-total a b h k = id_eq-true a.id b.id (wins-total a.stamp b.stamp a.id b.id h k)

  -- the best is a member
  pub best_in : (cs : List (Claim V)) (b : Claim V) → best cs ≡ Some b → Contains cs b
  best_in [] b k = cc
  best_in (c ∷ cs) b k =
      let d : better c (best cs) ≡ b = some_inj (better c (best cs)) b k in
      elim (cases_option (best cs)) [
        | inl n ↦ subst (Contains (c ∷ cs)) (sym (ap (better c) n) ∙ d) (contains_here c cs)
        | inr f ↦
            let e : (if beats c f.0 then c else f.0) ≡ b = sym (ap (better c) f.1) ∙ d in
            elim (cases_Bool (beats c f.0)) [
              | inl t ↦ subst (Contains (c ∷ cs)) (sym (ap (λ z. if z then c else f.0) t) ∙ e) (contains_here c cs)
              | inr t ↦ subst (Contains (c ∷ cs)) (sym (ap (λ z. if z then c else f.0) t) ∙ e) (contains_there c cs f.0 (best_in cs f.0 f.1))
            ]
      ]

  -- there is one where there are members
  pub best_some : (cs : List (Claim V)) (c : Claim V) → Contains cs c → best cs ≡ None → ⊥
  best_some [] c m n = contains_none c m
  best_some (x ∷ cs) c m n = not_both (best (x ∷ cs)) (better x (best cs)) n refl

  -- no member wins over it
  pub best_top : (cs : List (Claim V)) (b c : Claim V) → best cs ≡ Some b → Contains cs c → beats c b ≡ false
  best_top [] b c k m = cc
  best_top (x ∷ cs) b c k m =
      let d : better x (best cs) ≡ b = some_inj (better x (best cs)) b k in
      elim (cases_option (best cs)) [
        | inl n ↦
            let e : x ≡ b = sym (ap (better x) n) ∙ d in
            elim (contains_cases x cs c m) [
              | inl j ↦ ap (beats c) (sym e ∙ j) ∙ beats-irrefl c
              | inr j ↦ absurd (best_some cs c j n)
            ]
        | inr f ↦
            let e : (if beats x f.0 then x else f.0) ≡ b = sym (ap (better x) f.1) ∙ d in
            elim (cases_Bool (beats x f.0)) [
              | inl t ↦
                  let e' : x ≡ b = sym (ap (λ z. if z then x else f.0) t) ∙ e in
                  elim (contains_cases x cs c m) [
                    | inl j ↦ ap (beats c) (sym e' ∙ j) ∙ beats-irrefl c
                    | inr j ↦ elim (cases_Bool (beats c b)) [
                      | inl s ↦ absurd (true≢false (sym (beats-trans c x f.0 (ap (beats c) e' ∙ s) t) ∙ best_top cs f.0 c f.1 j))
                      | inr s ↦ s
                    ]
                  ]
              | inr t ↦
                  let e' : f.0 ≡ b = sym (ap (λ z. if z then x else f.0) t) ∙ e in
                  elim (contains_cases x cs c m) [
                    | inl j ↦ (λ i. beats (sym j i) (sym e' i)) ∙ t
                    | inr j ↦ ap (beats c) (sym e') ∙ best_top cs f.0 c f.1 j
                  ]
            ]
      ]

  -- a first member that wins over all others is the best
  pub best-first : (c : Claim V) (cs : List (Claim V)) → ((b : Claim V) → Contains cs b → beats c b ≡ true) → best (c ∷ cs) ≡ Some c
  best-first c cs w =
      elim (cases_option (best cs)) [
        | inl n ↦ ap (λ o. Some (better c o)) n
        | inr f ↦ ap (λ o. Some (better c o)) f.1 ∙ ap (λ z. Some (if z then c else f.0)) (w f.0 (best_in cs f.0 f.1))
      ]

  -- two lists with the same members have the same best, where members are specified by their identifiers
  pub best-same : (cs ds : List (Claim V)) → ((c : Claim V) → Contains cs c → Contains ds c) → ((d : Claim V) → Contains ds d → Contains cs d)
      → ((c d : Claim V) → Contains cs c → Contains cs d → c.id ≡ d.id → c ≡ d) → best cs ≡ best ds
  best-same cs ds f g one =
      elim (cases_option (best cs)) [
        | inl n ↦ elim (cases_option (best ds)) [
          | inl m ↦ n ∙ sym m
          | inr d ↦ absurd (best_some cs d.0 (g d.0 (best_in ds d.0 d.1)) n)
        ]
        | inr c ↦ elim (cases_option (best ds)) [
          | inl m ↦ absurd (best_some ds c.0 (f c.0 (best_in cs c.0 c.1)) m)
          | inr d ↦
              let a = best_in cs c.0 c.1 in
              let b = g d.0 (best_in ds d.0 d.1) in
              c.1 ∙ ap Some (one c.0 d.0 a b (beats-total c.0 d.0 (best_top ds d.0 c.0 d.1 (f c.0 a)) (best_top cs c.0 d.0 c.1 b))) ∙ sym d.1
        ]
      ]
