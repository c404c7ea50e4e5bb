-- The versions of a file, one by one: each is given by an operation, and each that is given is there.
use Rattle.version_views.proofs.Words.{Bool, List, None, Op, Option, Some, [], ap, arith, cases_Bool, eq-eqb, false, if◌then◌else◌, inl, inr, length, nat_eq, ne_eqb, option_map}
use Rattle.version_views.proofs.Words.{option_to_list, refl, subst, sym, ℕ, ◌<◌, ◌∙◌, ◌∷◌, ◌≡◌}
use Rattle.std.specs.List.{Contains}
use Rattle.std.proofs.lemmas.Bool.{eqb-true}
use Rattle.std.proofs.lemmas.List.Elements.{Contains-append_cases, Contains-append_left, Contains-append_right}
use Rattle.fugue_ids.proofs.ListLemmas.{contains_cases, contains_here, contains_none}
use Rattle.version_views.specs.Laws.{GivesName, VersionsAreGiven}
use Rattle.version_views.specs.Versions.{Version, is_withdrawn_version, name_given, name_in, op_after, versions_up_to}

-- an operation among the oldest ones names the version
record Names (r : ℕ) (history ops : List Op) (v : Version) : Type 0 where
  op : Op
  op_is : op_after ops v.count ≡ Some op
  named : name_in r history op ≡ Some v.name

-- the version of an operation that has n before it, by the name that it gives
abbrev one : ℕ → Option (List ℕ) → List Version
one n o = option_to_list (option_map (λ name. record { name = name; count = n }) o)

-- the name of a version, by whether its operation is withdrawn
abbrev named_by : ℕ → Op → Bool → Option (List ℕ)
named_by r op b = if b then None else name_given r op

-- an operation with n before it, by whether the newest one is that
abbrev step : Op → List Op → ℕ → Bool → Option Op
step op older n b = if b then Some op else op_after older n

after_within : (ops : List Op) (n : ℕ) (op : Op) → op_after ops n ≡ Some op → n < length ops
after_within [] n op e = cc
after_within (o ∷ older) n op e =
    elim (cases_Bool (nat_eq (length older) n)) [
      | inl k ↦ let same : length older ≡ n = eqb-true (length older) n k in omega (arith, same)
      | inr k ↦ omega (arith, after_within older n op (sym (ap (step o older n) k) ∙ e))
    ]

-- each version is named by an operation
names_it : (r : ℕ) (history ops : List Op) (v : Version) → Contains (versions_up_to r history ops) v → Names r history ops v
names_it r history [] v c = absurd (contains_none v c)
names_it r history (op ∷ older) v c =
    elim (Contains-append_cases (versions_up_to r history older) (one (length older) (name_in r history op)) v c) [
      | inl k ↦
          let n : Names r history older v = names_it r history older v k in
          let other : nat_eq (length older) v.count ≡ false = ne_eqb (length older) v.count (λ d. omega (arith, d, after_within older v.count n.op n.op_is)) in
          record { op = n.op; op_is = ap (step op older v.count) other ∙ n.op_is; named = n.named }
      | inr k ↦ newest (name_in r history op) refl k
    ]
  where
    newest : (o : Option (List ℕ)) → name_in r history op ≡ o → Contains (one (length older) o) v → Names r history (op ∷ older) v
    newest None e k = absurd (contains_none v k)
    newest (Some name) e k =
        elim (contains_cases (record { name = name; count = length older }) [] v k) [
          | inl same ↦ record {
            op = op;
            op_is = ap (step op older v.count) (eq-eqb (length older) v.count (ap (λ (w : Version). w.count) same));
            named = e ∙ ap (λ (w : Version). Some w.name) same;
          }
          | inr there ↦ absurd (contains_none v there)
        ]

-- and what an operation names is a version
is_there : (r : ℕ) (history ops : List Op) (v : Version) → Names r history ops v → Contains (versions_up_to r history ops) v
is_there r history [] v n = let e : None ≡ Some n.op = n.op_is in cc
is_there r history (op ∷ older) v n =
    elim (cases_Bool (nat_eq (length older) v.count)) [
      | inl k ↦
          let is : Some op ≡ Some n.op = sym (ap (step op older v.count) k) ∙ n.op_is in
          let same : op ≡ n.op = cc in
          let name : name_in r history op ≡ Some v.name = ap (name_in r history) same ∙ n.named in
          let here : Contains (one (length older) (Some v.name)) v =
          subst (λ m. Contains (record { name = v.name; count = m } ∷ []) v) (sym (eqb-true (length older) v.count k)) (contains_here v []) in
          Contains-append_right (versions_up_to r history older) (one (length older) (name_in r history op)) v (subst (λ o. Contains (one (length older) o) v) (sym name) here)
      | inr k ↦ Contains-append_left (versions_up_to r history older) (one (length older) (name_in r history op)) v
          (is_there r history older v (record { op = n.op; op_is = sym (ap (step op older v.count) k) ∙ n.op_is; named = n.named }))
    ]

pub versions_are_given : VersionsAreGiven
versions_are_given h r v =
    ((λ c. by_names (names_it r h h v c)), (λ g. is_there r h h v (record { op = g.op; op_is = g.op_is; named = ap (named_by r g.op) g.not_withdrawn ∙ g.gives })))
  where
    by_names : Names r h h v → GivesName h r v
    by_names n =
        elim (cases_Bool (is_withdrawn_version h n.op)) [
          | inl k ↦ let e : None ≡ Some v.name = sym (ap (named_by r n.op) k) ∙ n.named in cc
          | inr k ↦ record { op = n.op; op_is = n.op_is; gives = sym (ap (named_by r n.op) k) ∙ n.named; not_withdrawn = k }
        ]
