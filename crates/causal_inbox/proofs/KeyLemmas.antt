-- Equality of keys, and lists under keys as one key after another changes.
use Rattle.std.proofs.Common.{ap, arith, false, get_or, length, subst, suc, zero, ◌<◌, inl, inr, refl, sym, true, take, ℕ, List, [], ◌∷◌, ◌++◌, Bool, ◌&&◌, ◌||◌, ◌+◌, ◌∙◌, ◌≡◌}
use Rattle.std.proofs.Math.Bool.{and-false, and-true, or-false}
use Rattle.std.proofs.lemmas.Bool.{and_parts, cases_Bool, true≢false}
use Rattle.std.proofs.lemmas.List.Folds.{list_any-append}
use Rattle.fugue_ids.specs.Identifiers.{Identifier, id_eq, origin_eq}
use Rattle.std.specs.Prelude.{Some, if◌then◌else◌, map}
use Rattle.std.specs.List.{list_any}
use Rattle.fugue_ids.specs.Ops.{key_of, own_in, target_in}
use Rattle.fugue_ids.specs.declared.op.OpKey.{OpKey}
use Rattle.fugue_ids.specs.declared.op.OpKey.TheVariants.{Own as OwnKey, Target as TargetKey}
use Rattle.fugue_ids.proofs.IdentifierLemmas.{id_eq-true, id_eq-refl}
use Rattle.fugue_ids.specs.declared.op.Op.{Op}
use Rattle.origin_model.specs.operations.History.{is_own}
use Rattle.origin_model.specs.operations.Verdict.{names}
use Rattle.origin_model.specs.order.Printed.{deletes}
use Rattle.origin_model.specs.declared.operations.Role.{Role}
use Rattle.causal_inbox.specs.Key.{as_key, has_key, has_kind, is_among, key_eq, keys_of, kind_eq, main_key, name_key, key_of_naming, own_key_of, key_of_target}
use Rattle.causal_inbox.specs.Index.{with_age}
use Rattle.causal_inbox.specs.Lists.{Changed, FrontAdded}
use Rattle.fugue_ids.specs.Keyed.{IsReplaced}
use Rattle.causal_inbox.specs.declared.key.Key.{Key}
use Rattle.causal_inbox.specs.declared.key.Kind.{Kind}
use Rattle.causal_inbox.specs.declared.key.Kind.TheVariants.{Own, Target, Named}

-- keys that pass the test are equal
pub key_eq-true : (a b : Key) → key_eq a b ≡ true → a ≡ b
key_eq-true a b e =
    let both = and_parts (id_eq a.id b.id) (kind_eq a.kind b.kind) e in
    λ i. record { id = id_eq-true a.id b.id both.0 i; kind = kind_eq-true a.kind b.kind both.1 i }
  where
    kind_eq-true : (k l : Kind) → kind_eq k l ≡ true → k ≡ l
    kind_eq-true Own Own e = refl
    kind_eq-true Own Target e = cc
    kind_eq-true Own Named e = cc
    kind_eq-true Target Own e = cc
    kind_eq-true Target Target e = refl
    kind_eq-true Target Named e = cc
    kind_eq-true Named Own e = cc
    kind_eq-true Named Target e = cc
    kind_eq-true Named Named e = refl

-- a key passes the test with itself
pub key_eq-refl : (a : Key) → key_eq a a ≡ true
key_eq-refl a = λ i. id_eq-refl a.id i && kind_eq-refl a.kind i
  where
    kind_eq-refl : (k : Kind) → kind_eq k k ≡ true
    kind_eq-refl Own = refl
    kind_eq-refl Target = refl
    kind_eq-refl Named = refl

-- keys that fail the test are distinct
pub key_eq-false : (a b : Key) → key_eq a b ≡ false → b ≡ a → ⊥
key_eq-false a b e same = true≢false (sym (key_eq-refl a) ∙ ap (key_eq a) (sym same) ∙ e)

-- one key more
among_more : (key : Key) (keys : List Key) (i : ℕ) (x : Key) → take (i + 1) keys ≡ take i keys ++ x ∷ []
    → is_among (take (i + 1) keys) key ≡ (is_among (take i keys) key || key_eq x key)
among_more key keys i x e =
    ap (λ l. is_among l key) e ∙ list_any-append (λ other. key_eq other key) (take i keys) (x ∷ []) ∙ ap (λ b. is_among (take i keys) key || b) (or-false (key_eq x key))

-- a change made where it may have been made before
merged : (change : List ℕ → List ℕ) → ((l : List ℕ) → change (change l) ≡ change l) → (p : Bool) (l : List ℕ)
    → change (if p then change l else l) ≡ (if p || true then change l else l)
merged change twice true l = twice l
merged change twice false l = refl

-- a change that is made once where it is made twice
pub changed_more : (change : List ℕ → List ℕ) → ((l : List ℕ) → change (change l) ≡ change l) → (keys : List Key) (i : ℕ) (x : Key) (old mid new : Key → List ℕ)
    → take (i + 1) keys ≡ take i keys ++ x ∷ [] → Changed (is_among (take i keys)) change old mid → IsReplaced mid new x (change (mid x))
    → Changed (is_among (take (i + 1) keys)) change old new
changed_more change twice keys i x old mid new e before step key =
    let more : is_among (take (i + 1) keys) key ≡ (is_among (take i keys) key || key_eq x key) = among_more key keys i x e in
    elim (cases_Bool (key_eq x key)) [
      | inl y ↦
          let same : x ≡ key = key_eq-true x key y in
          ap new (sym same) ∙ step.here ∙ ap (λ (k : Key). change (mid k)) same ∙ ap change (before key)
          ∙ merged change twice (is_among (take i keys) key) (old key)
          ∙ sym (ap (λ (b : Bool). if b then change (old key) else old key) (more ∙ ap (λ (b : Bool). is_among (take i keys) key || b) y))
      | inr n ↦
          step.others key (key_eq-false x key n) ∙ before key
          ∙ sym (ap (λ (b : Bool). if b then change (old key) else old key) (more ∙ ap (λ (b : Bool). is_among (take i keys) key || b) n ∙ or-false (is_among (take i keys) key)))
    ]

-- an allocation failure at one key leaves the age under those before it
pub front_added : (keys : List Key) (i a : ℕ) (x : Key) (old mid new : Key → List ℕ) → Changed (is_among (take i keys)) (λ l. with_age l a) old mid
    → IsReplaced mid new x (mid x) → FrontAdded keys a old new
front_added keys i a x old mid new before step = record { count = i; front = λ (key : Key). same key ∙ before key }
  where
    same : (key : Key) → new key ≡ mid key
    same key =
        elim (cases_Bool (key_eq x key)) [
          | inl y ↦ let e : x ≡ key = key_eq-true x key y in ap new (sym e) ∙ step.here ∙ ap mid e
          | inr n ↦ step.others key (key_eq-false x key n)
        ]

-- the keys are just those of the operation
abbrev pub AreKeys : List Key → Op → Type 0
AreKeys keys op = (key : Key) → is_among keys key ≡ has_key key op

-- the main key of an operation and those of its names are just its keys
pub keys_are : (op : Op) → AreKeys (keys_of op) op
keys_are op key = by_kind key.kind key.id
  where
    its_own : (k : OpKey) (x : Identifier) → key_eq (as_key k) (own_key_of x) ≡ origin_eq (own_in k) (Some x)
    its_own (OwnKey i) x = and-true (id_eq i x)
    its_own (TargetKey i) x = and-false (id_eq i x)

    its_target : (k : OpKey) (x : Identifier) → key_eq (as_key k) (key_of_target x) ≡ origin_eq (target_in k) (Some x)
    its_target (OwnKey i) x = and-false (id_eq i x)
    its_target (TargetKey i) x = and-true (id_eq i x)

    never_named : (k : OpKey) (x : Identifier) → key_eq (as_key k) (key_of_naming x) ≡ false
    never_named (OwnKey i) x = and-false (id_eq i x)
    never_named (TargetKey i) x = and-false (id_eq i x)

    no_name : (ns : List (Identifier × Role)) (key : Key) → kind_eq Named key.kind ≡ false → is_among (map name_key ns) key ≡ false
    no_name [] key other = refl
    no_name (n ∷ ns) key other = λ i. (ap (λ k. id_eq n.0 key.id && k) other ∙ and-false (id_eq n.0 key.id)) i || no_name ns key other i

    same_names : (ns : List (Identifier × Role)) (x : Identifier) → is_among (map name_key ns) (key_of_naming x) ≡ list_any (λ n. id_eq n.0 x) ns
    same_names [] x = refl
    same_names (n ∷ ns) x = λ i. and-true (id_eq n.0 x) i || same_names ns x i

    by_kind : (kind : Kind) (x : Identifier) → is_among (keys_of op) (record { id = x; kind = kind }) ≡ has_kind kind x op
    by_kind Own x = (λ i. its_own (key_of op) x i || no_name (names op) (own_key_of x) refl i) ∙ or-false (is_own x op)
    by_kind Target x = (λ i. its_target (key_of op) x i || no_name (names op) (key_of_target x) refl i) ∙ or-false (deletes x op)
    by_kind Named x = λ i. never_named (key_of op) x i || same_names (names op) x i

names_next : (ns : List (Identifier × Role)) (k : ℕ) (d : Identifier × Role) → k < length ns
    → take (suc k) (map name_key ns) ≡ take k (map name_key ns) ++ name_key (get_or ns k d) ∷ []
names_next [] k d below = absurd (omega (arith, below))
names_next (n ∷ ns) zero d below = refl
names_next (n ∷ ns) (suc k) d below = ap (λ l. name_key n ∷ l) (names_next ns k d (omega (arith, below)))

-- the next key is that of the next name
pub keys_next : (op : Op) (named : List (Identifier × Role)) (k : ℕ) (n : Identifier × Role) (x : Key) → named ≡ names op → k < length named → x ≡ name_key n → n ≡ get_or named k n
    → take (k + 1 + 1) (keys_of op) ≡ take (k + 1) (keys_of op) ++ x ∷ []
keys_next op named k n x is below next at =
    let one : k + 1 ≡ suc k = omega arith in
    let two : k + 1 + 1 ≡ suc (suc k) = omega arith in
    let more : take (suc k) (map name_key (names op)) ≡ take k (map name_key (names op)) ++ x ∷ [] =
    subst (λ ns. take (suc k) (map name_key ns) ≡ take k (map name_key ns) ++ x ∷ []) is
    (names_next named k n below ∙ ap (λ y. take k (map name_key named) ++ y ∷ []) (sym (next ∙ ap name_key at))) in
    ap (λ n. take n (keys_of op)) two ∙ ap (λ l. main_key op ∷ l) more ∙ ap (λ n. take n (keys_of op) ++ x ∷ []) (sym one)

-- the first key is the main one
pub keys_first : (op : Op) (x : Key) → x ≡ main_key op → take (0 + 1) (keys_of op) ≡ take 0 (keys_of op) ++ x ∷ []
keys_first op x is = ap (λ y. y ∷ []) (sym is)

-- under none of the keys nothing is changed
pub none_changed : (op : Op) (change : List ℕ → List ℕ) (at : Key → List ℕ) → Changed (is_among (take 0 (keys_of op))) change at at
none_changed op change at key = refl
