-- The greatest counter of a replica: an identifier that a lawful history's operations have or name is one that it holds.
use Rattle.std.proofs.Common.{Bool, ◌≡◌, ℕ, ◌≤◌, List, [], ◌∷◌, ◌++◌, true, refl, sym, ap, subst, ◌∙◌, inl, inr, nat_eq, arith, max}
use Rattle.std.specs.Prelude.{◌⊎◌, Option, Some, None, is_some, option_to_list, Contains, filter, flat_map, map}
use Rattle.std.proofs.lemmas.Bool.{cases_Bool, eq-eqb, eqb-true, true≢false}
use Rattle.std.proofs.lemmas.List.{append-nil}
use Rattle.std.proofs.lemmas.List.Elements.{All-append, All-weaker, Contains-append_left, Contains-append_right, Contains-append_cases}
use Rattle.fugue_ids.specs.Identifiers.{Identifier, id_cmp, origin_eq}
use Rattle.fugue_ids.specs.Ops.{id_of}
use Rattle.fugue_ids.specs.declared.op.Op.{Op}
use Rattle.fugue_ids.proofs.IdentifierLemmas.{id_eq-refl}
use Rattle.fugue_ids.proofs.ListLemmas.{all_from_contains, contains_cases, contains_filter, contains_filter_from, contains_here, contains_map, contains_map_from, contains_none}
use Rattle.origin_model.specs.edits.Edits.{id_at}
use Rattle.origin_model.specs.operations.Counters.{counters, mentioned_ids, IsGreatest}
use Rattle.origin_model.specs.operations.History.{holder, holds, is_own}
use Rattle.origin_model.specs.operations.Verdict.{Lawful, first_missing, names, verdict}
use Rattle.origin_model.specs.declared.operations.Role.{Role}
use Rattle.origin_model.specs.declared.operations.Verdict.TheVariants.{Ready}
use Rattle.origin_model.proofs.SharedLemmas.{cases_held, holds-older, holds-other, holds-own, missing-held, own_id, when_ready}
use Rattle.replica_core.specs.Index.{ArePositions, newest_position}
use Rattle.std.specs.FinMap.{FinMap, get}
use Rattle.stretch_map.specs.Rules.{IsGreatestIn}
use Rattle.stretch_map.specs.declared.follows.Position.{Position}
use Rattle.replica_core.proofs.IndexLemmas.{has_position, is_some-as}
use Rattle.causal_inbox.proofs.GreatestLemmas.{greatest_of, no_member}

-- where none is missing, each name is held
names_held : (h : List Op) (ns : List (Identifier × Role)) (x : Identifier) → first_missing h ns ≡ None → Contains (map (λ named. named.0) ns) x → holds h x ≡ true
names_held h [] x none c = absurd (contains_none x c)
names_held h (n ∷ ns) x none c =
    elim (cases_held (holder h n.0)) [
      | inl gone ↦ absurd (missing_some (rw (gone, first_missing) at none))
      | inr there ↦ elim (contains_cases n.0 (map (λ named. named.0) ns) x c) [
        | inl same ↦ ap is_some (ap (holder h) (sym same) ∙ there.1)
        | inr behind ↦ names_held h ns x (sym (missing-held h n ns there.0 there.1) ∙ none) behind
      ]
    ]
  where
    missing_some : Some n.0 ≡ None → ⊥
    missing_some e = cc

own_or_named : (op : Op) (h : List Op) (x : Identifier) → verdict h op ≡ Ready → Contains (mentioned_ids op) x → (id_of op ≡ Some x) ⊎ (holds h x ≡ true)
own_or_named op h x ready c =
    elim (Contains-append_cases (option_to_list (id_of op)) (map (λ named. named.0) (names op)) x c) [
      | inl own ↦ inl (the_own (id_of op) own)
      | inr named ↦ inr (names_held h (names op) x (when_ready h op ready).none_missing named)
    ]
  where
    the_own : (o : Option Identifier) → Contains (option_to_list o) x → o ≡ Some x
    the_own None c = absurd (contains_none x c)
    the_own (Some i) c = elim (contains_cases i [] x c) [ inl same ↦ ap (λ j. Some j) same | inr none ↦ absurd (contains_none x none) ]

mentioned_held : (h : List Op) (x : Identifier) → Lawful h → Contains (flat_map mentioned_ids h) x → holds h x ≡ true
mentioned_held [] x lawful c = absurd (contains_none x c)
mentioned_held (op ∷ h) x lawful c =
    elim (Contains-append_cases (mentioned_ids op) (flat_map mentioned_ids h) x c) [
      | inl newest ↦ elim (own_or_named op h x lawful.0 newest) [
        | inl own ↦ holds-own op h x (ap (λ o. is_own_id o) own ∙ id_eq-refl x)
        | inr held ↦ holds-older op h x held
      ]
      | inr older ↦ holds-older op h x (mentioned_held h x lawful.1 older)
    ]
  where
    is_own_id : Option Identifier → Bool
    is_own_id o = origin_eq o (Some x)

held_mentioned : (h : List Op) (x : Identifier) → holds h x ≡ true → Contains (flat_map mentioned_ids h) x
held_mentioned [] x held = cc
held_mentioned (op ∷ h) x held =
    elim (cases_Bool (is_own x op)) [
      | inl own ↦
          Contains-append_left (mentioned_ids op) (flat_map mentioned_ids h) x
          (Contains-append_left (option_to_list (id_of op)) (map (λ named. named.0) (names op)) x
          (subst (λ o. Contains (option_to_list o) x) (sym (own_id op x own)) (contains_here x [])))
      | inr other ↦ Contains-append_right (mentioned_ids op) (flat_map mentioned_ids h) x (held_mentioned h x (sym (holds-other op h x other) ∙ held))
    ]

-- a counter of the replica is one of an identifier that is held
counter_held : (r n : ℕ) (h : List Op) → Lawful h → Contains (counters r h) n → holds h (id_at r n) ≡ true
counter_held r n h lawful c =
    let m = contains_map_from (λ (id : Identifier). id.counter) (filter (λ id. nat_eq id.replica r) (flat_map mentioned_ids h)) n c in
    let f = contains_filter_from (λ (id : Identifier). nat_eq id.replica r) (flat_map mentioned_ids h) m.0 m.1 in
    subst (λ x. holds h x ≡ true) (λ i. record { replica = eqb-true m.0.replica r f.1 i; counter = m.2 i }) (mentioned_held h m.0 lawful f.0)

held_counter : (r n : ℕ) (h : List Op) → holds h (id_at r n) ≡ true → Contains (counters r h) n
held_counter r n h held =
    contains_map (λ (id : Identifier). id.counter) (filter (λ id. nat_eq id.replica r) (flat_map mentioned_ids h)) (id_at r n)
    (contains_filter (λ (id : Identifier). nat_eq id.replica r) (flat_map mentioned_ids h) (id_at r n) (held_mentioned h (id_at r n) held) (eq-eqb r r refl))

-- the greatest counter with a position is the greatest that the operations of the history have or name
pub greatest_held : (r : ℕ) (m : FinMap id_cmp Position) (h : List Op) (greatest : Option ℕ) → ArePositions m h → Lawful h
    → IsGreatestIn (get m) r greatest → IsGreatest (counters r h) greatest
greatest_held r m h greatest are lawful g = by_greatest greatest g
  where
    found : (n : ℕ) → is_some (get m (id_at r n)) ≡ holds h (id_at r n)
    found n = ap is_some (are (id_at r n)) ∙ is_some-as (newest_position (is_own (id_at r n)) h) ∙ has_position h (id_at r n)

    by_greatest : (o : Option ℕ) → IsGreatestIn (get m) r o → IsGreatest (counters r h) o
    by_greatest None g =
        let empty : counters r h ≡ [] = no_member (counters r h) (λ n c. absurd (true≢false (sym (counter_held r n h lawful c) ∙ sym (found n) ∙ ap is_some (g.none refl n)))) in
        record { none = (λ e. empty, λ e. refl); member = tt; bound = tt }
    by_greatest (Some n) g =
        greatest_of (counters r h) n (held_counter r n h (sym (found n) ∙ g.held))
        (all_from_contains (λ k. k ≤ n) (counters r h) (λ k c. g.bound k (found k ∙ counter_held r k h lawful c)))

-- the greatest of two lists, by those of each
pub greatest_none : (ns ms : List ℕ) (o : Option ℕ) → IsGreatest ns None → IsGreatest ms o → IsGreatest (ns ++ ms) o
greatest_none ns ms o a b = subst (λ l. IsGreatest (l ++ ms) o) (sym (a.none.0 refl)) b

pub greatest_first : (ns ms : List ℕ) (n : ℕ) → IsGreatest ns (Some n) → IsGreatest ms None → IsGreatest (ns ++ ms) (Some n)
greatest_first ns ms n a b = subst (λ l. IsGreatest l (Some n)) (sym (ap (λ l. ns ++ l) (b.none.0 refl) ∙ append-nil ns)) a

pub greatest_both : (ns ms : List ℕ) (n m : ℕ) → IsGreatest ns (Some n) → IsGreatest ms (Some m) → IsGreatest (ns ++ ms) (Some (max n m))
greatest_both ns ms n m a b =
    greatest_of (ns ++ ms) (max n m)
    (elim (max_one n m) [
      | inl e ↦ subst (Contains (ns ++ ms)) (sym e) (Contains-append_left ns ms n a.member)
      | inr e ↦ subst (Contains (ns ++ ms)) (sym e) (Contains-append_right ns ms m b.member)
    ])
    (All-append (λ k. k ≤ max n m) ns ms
    (All-weaker (λ k. k ≤ n) (λ k. k ≤ max n m) (λ k le. omega (arith, le)) ns a.bound)
    (All-weaker (λ k. k ≤ m) (λ k. k ≤ max n m) (λ k le. omega (arith, le)) ms b.bound))
  where
    max_one : (n m : ℕ) → (max n m ≡ n) ⊎ (max n m ≡ m)
    max_one n m = grind arith
