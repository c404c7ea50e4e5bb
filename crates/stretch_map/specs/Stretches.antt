-- The stretches of a map, and what becomes of them.
use Rattle.std.specs.Prelude.{◌≡◌, ◌≢◌, ◌⊎◌, ℕ, ◌+◌, ◌-◌, ◌<◌, ◌≤◌, None, Option, Some, List, IfNone, IfSome, IsOk, OnErr, OnOk, Result}
use Rattle.std.specs.Prelude.{cond, option_map}
use Rattle.std.specs.BTreeMap.{is_at}
use Rattle.std.specs.List.Sorted.{IsStrictlySortedBy}
use Rattle.std.specs.Map.{keys_of, lookup}
use Rattle.std.specs.Ordering.{is_eq, nat_cmp}
use Rattle.fugue_ids.specs.Identifiers.{Identifier, IsAtMost, id_cmp}
use Rattle.fugue_ids.specs.Runs.{id_after}
use Rattle.stretch_map.specs.Contents.{StretchEntry, Latest, Layout, value_in}
use Rattle.stretch_map.specs.Rules.{FollowsByRule}
use Rattle.stretch_map.specs.declared.stretches.Stretch.{Stretch}

-- the stretch that is kept under an identifier
abbrev pub kept_at : {V : Type 0} → List (StretchEntry V) → Identifier → Option (Stretch V)
kept_at es q = lookup (is_at (id_cmp q)) es

-- the stretch is kept
abbrev pub KeepsEntry : {V : Type 0} → List (StretchEntry V) → StretchEntry V → Type 0
KeepsEntry es e = kept_at es e.0 ≡ Some e.1

-- the last stretch of a replica, where it is not kept with the others
abbrev pub latest_at : {V : Type 0} → List (ℕ × Latest V) → ℕ → Option (Latest V)
latest_at ls r = lookup (is_at (nat_cmp r)) ls

-- the stretch is the last one of its replica, and is not kept with the others
abbrev pub IsLatest : {V : Type 0} → List (ℕ × Latest V) → StretchEntry V → Type 0
IsLatest ls e = latest_at ls e.0.replica ≡ Some (e.0.counter, e.1)

-- the stretch is kept, or is the last one of its replica
abbrev pub Has : {V : Type 0} → Layout V → StretchEntry V → Type 0
Has l e = IsLatest l.0 e ⊎ KeepsEntry l.1 e

-- no two stretches of one kind have one key, and the kept ones of a replica begin before its last one
pub record IsLaid {V : Type 0} (l : Layout V) : Type 0 where
  pub before : (e f : StretchEntry V) → IsLatest l.0 e → KeepsEntry l.1 f → f.0.replica ≡ e.0.replica → f.0.counter < e.0.counter
  pub latest : IsStrictlySortedBy nat_cmp (keys_of l.0)
  pub kept : IsStrictlySortedBy id_cmp (keys_of l.1)

-- q is one of the identifiers from the first to that of the last counter
pub record IsAmong (first : Identifier) (last : ℕ) (q : Identifier) : Type 0 where
  pub replica : first.replica ≡ q.replica
  pub from : first.counter ≤ q.counter
  pub to : q.counter ≤ last

-- q is one of the identifiers of a stretch
abbrev pub Covers : {V : Type 0} → StretchEntry V → Identifier → Type 0
Covers e q = IsAmong e.0 e.1.last q

-- the rule reaches to the end of a stretch
abbrev pub IsReachedByRule : {V : Type 0} → (Identifier → V → ℕ → Type 0) → StretchEntry V → Type 0
IsReachedByRule reaches e = (k : ℕ) → e.0.counter + k ≤ e.1.last → reaches e.0 e.1.value k

-- no stretch is empty, none overlap, and the rule reaches to the end of each
pub record AreStretches {V : Type 0} (reaches : Identifier → V → ℕ → Type 0) (l : Layout V) : Type 0 where
  pub begun : (e : StretchEntry V) → Has l e → e.0.counter ≤ e.1.last
  pub apart : (e f : StretchEntry V) → Has l e → Has l f → e.0.replica ≡ f.0.replica → e.0.counter < f.0.counter → e.1.last < f.0.counter
  pub reached : (e : StretchEntry V) → Has l e → IsReachedByRule reaches e
  pub laid : IsLaid l

-- a stretch ends at the key, if it has it
abbrev pub EndsAt : {V : Type 0} → Layout V → Identifier → Type 0
EndsAt {V} l key = (e : StretchEntry V) → Has l e → Covers e key → e.1.last ≤ key.counter

-- what one of the stretches for which P holds has at the key, and None where none of them has it
pub record IsReadIn {V : Type 0} (nth : Identifier → V → ℕ → V) (P : StretchEntry V → Type 0) (key : Identifier)
    (value : Option V) : Type 0 where
  pub none : IfNone value ((e : StretchEntry V) → P e → Covers e key → ⊥)
  pub some : IfSome value (λ v. (e : StretchEntry V) × P e × Covers e key × (v ≡ nth e.0 e.1.value (key.counter - e.0.counter)))

-- no stretch begins at the key or before
abbrev pub NoneUpTo : {V : Type 0} → List (StretchEntry V) → Identifier → Type 0
NoneUpTo {V} es key = (e : StretchEntry V) → KeepsEntry es e → IsAtMost e.0 key → ⊥

-- the last stretch that begins at the key or before
pub record IsFloor {V : Type 0} (es : List (StretchEntry V)) (key : Identifier) (e : StretchEntry V) : Type 0 where
  pub kept : KeepsEntry es e
  pub up_to : IsAtMost e.0 key
  pub last : (f : StretchEntry V) → KeepsEntry es f → IsAtMost f.0 key → IsAtMost f.0 e.0

-- the last stretch of the key's replica begins at the key or before
pub record IsLatestUpTo {V : Type 0} (ls : List (ℕ × Latest V)) (key : Identifier) (e : StretchEntry V) : Type 0 where
  pub latest : IsLatest ls e
  pub replica : e.0.replica ≡ key.replica
  pub from : e.0.counter ≤ key.counter

-- the key's replica has no last stretch that begins at the key or before
abbrev pub NoLatestUpTo : {V : Type 0} → List (ℕ × Latest V) → Identifier → Type 0
NoLatestUpTo {V} ls key = (e : StretchEntry V) → IsLatest ls e → e.0.replica ≡ key.replica → key.counter < e.0.counter

-- all stretches of the key's replica are kept, and begin before the key
pub record IsAfterAll {V : Type 0} (l : Layout V) (key : Identifier) : Type 0 where
  pub none : latest_at l.0 key.replica ≡ None
  pub before : (e : StretchEntry V) → KeepsEntry l.1 e → e.0.replica ≡ key.replica → e.0.counter < key.counter

-- the stretch ends right before the key, and the rule leads from it to the value
pub record GoesOn {V : Type 0} (nth : Identifier → V → ℕ → V) (reaches : Identifier → V → ℕ → Type 0) (e : StretchEntry V)
    (key : Identifier) (value : V) : Type 0 where
  pub replica : e.0.replica ≡ key.replica
  pub next : e.1.last + 1 ≡ key.counter
  pub reached : reaches e.0 e.1.value (key.counter - e.0.counter)
  pub follows : nth e.0 e.1.value (key.counter - e.0.counter) ≡ value

-- the stretch as it is where this counter is its last one
abbrev pub up_to : {V : Type 0} → StretchEntry V → ℕ → StretchEntry V
up_to e last = (e.0, record { value = e.1.value; last = last })

-- the kept stretches fs are es, but for what is kept under one identifier
pub record KeptBecomes {V : Type 0} (es fs : List (StretchEntry V)) (at : Identifier) (o : Option (Stretch V)) : Type 0 where
  pub here : kept_at fs at ≡ o
  pub others : (q : Identifier) → q ≢ at → kept_at fs q ≡ kept_at es q
  pub ordered : IsStrictlySortedBy id_cmp (keys_of fs)

-- the last stretches ks are ls, but for that of one replica
pub record LatestBecomes {V : Type 0} (ls ks : List (ℕ × Latest V)) (replica : ℕ) (o : Option (Latest V)) : Type 0 where
  pub here : latest_at ks replica ≡ o
  pub others : (q : ℕ) → q ≢ replica → latest_at ks q ≡ latest_at ls q
  pub ordered : IsStrictlySortedBy nat_cmp (keys_of ks)

-- the identifier of a stretch's last value
abbrev pub last_identifier : {V : Type 0} → StretchEntry V → Identifier
last_identifier e = record { replica = e.0.replica; counter = e.1.last }

-- none of the identifiers from the first to that of the last counter has a value
abbrev pub AreFreeTo : {V : Type 0} → (Identifier → V → ℕ → V) → Layout V → Identifier → ℕ → Type 0
AreFreeTo nth l first last = (q : Identifier) → IsAmong first last q → value_in nth l q ≡ None

-- a stretch may come to these: it is not empty, the rule reaches to its end, and none of its identifiers has a value
pub record CanCome {V : Type 0} (nth : Identifier → V → ℕ → V) (reaches : Identifier → V → ℕ → Type 0) (l : Layout V)
    (run : StretchEntry V) : Type 0 where
  pub begun : run.0.counter ≤ run.1.last
  pub reached : IsReachedByRule reaches run
  pub free : AreFreeTo nth l run.0 run.1.last

-- the kept stretches fs are es, but that one goes on with the new one, and has its identifiers too
pub record Grows {V : Type 0} (nth : Identifier → V → ℕ → V) (reaches : Identifier → V → ℕ → Type 0) (es fs : List (StretchEntry V))
    (run : StretchEntry V) : Type 0 where
  pub stretch : StretchEntry V
  pub kept : KeepsEntry es stretch
  pub goes_on : GoesOn nth reaches stretch run.0 run.1.value
  pub becomes : KeptBecomes es fs stretch.0 (Some (up_to stretch run.1.last).1)

-- k has the values of the new stretch, and else those of l; a stretch ends where the new one does
pub record Adds {V : Type 0} (nth : Identifier → V → ℕ → V) (reaches : Identifier → V → ℕ → Type 0) (l k : Layout V)
    (run : StretchEntry V) : Type 0 where
  pub are : AreStretches reaches k
  pub inside : (q : Identifier) → Covers run q → value_in nth k q ≡ Some (nth run.0 run.1.value (q.counter - run.0.counter))
  pub outside : (q : Identifier) → (Covers run q → ⊥) → value_in nth k q ≡ value_in nth l q
  pub ends : EndsAt k (last_identifier run)

-- l becomes k as the new stretch is put: an error leaves all as before, and there is none where its first value follows
-- that of the identifier before
pub record PutsStretch {V T E : Type 0} (nth : Identifier → V → ℕ → V) (reaches : Identifier → V → ℕ → Type 0) (l k : Layout V)
    (run : StretchEntry V) (result : Result T E) : Type 0 where
  pub ok : OnOk result (Adds nth reaches l k run)
  pub err : OnErr result (k ≡ l)
  pub sure : FollowsByRule nth reaches (value_in nth l) run.0 run.1.value → IsOk result

-- k has the values of l, but none at the key
pub record Loses {V : Type 0} (nth : Identifier → V → ℕ → V) (reaches : Identifier → V → ℕ → Type 0) (l k : Layout V)
    (key : Identifier) : Type 0 where
  pub are : AreStretches reaches k
  pub found : (q : Identifier) → value_in nth k q ≡ cond (is_eq (id_cmp q key)) None (value_in nth l q)

-- k has the stretches of l, and the same values
pub record IsSame {V : Type 0} (nth : Identifier → V → ℕ → V) (reaches : Identifier → V → ℕ → Type 0) (l k : Layout V) : Type 0 where
  pub are : AreStretches reaches k
  pub found : (q : Identifier) → value_in nth k q ≡ value_in nth l q
  pub among : (e : StretchEntry V) → Has k e → Has l e

-- what is left of a stretch without its last identifier
abbrev pub IsShorter : {V : Type 0} → StretchEntry V → Option (StretchEntry V) → Type 0
IsShorter e r = IfNone r (e.0.counter ≡ e.1.last) × IfSome r (λ x. (e.0.counter < e.1.last) × (x ≡ up_to e (e.1.last - 1)))

-- the kept stretches fs are es, but that this one is without its last identifier
pub record IsTakenFrom {V : Type 0} (es fs : List (StretchEntry V)) (e : StretchEntry V) : Type 0 where
  pub left : Option (StretchEntry V)
  pub shorter : IsShorter e left
  pub becomes : KeptBecomes es fs e.0 (option_map (λ x. x.1) left)

-- the last stretches ks are ls, but that this one is without its last identifier
pub record IsTakenFromLatest {V : Type 0} (ls ks : List (ℕ × Latest V)) (e : StretchEntry V) : Type 0 where
  pub left : Option (StretchEntry V)
  pub shorter : IsShorter e left
  pub becomes : LatestBecomes ls ks e.0.replica (option_map (λ x. (x.0.counter, x.1)) left)

-- what is left of a stretch after so many steps
abbrev pub tail_from : {V : Type 0} → (Identifier → V → ℕ → V) → StretchEntry V → ℕ → StretchEntry V
tail_from nth e j = (id_after e.0 j, record { value = nth e.0 e.1.value j; last = e.1.last })

-- the kept stretches fs are es, but that this one ends with the key, and what was after is another one
pub record IsSplit {V : Type 0} (nth : Identifier → V → ℕ → V) (es fs : List (StretchEntry V)) (e : StretchEntry V)
    (key : Identifier) : Type 0 where
  pub head : KeepsEntry fs (up_to e key.counter)
  pub tail : KeepsEntry fs (tail_from nth e (key.counter - e.0.counter + 1))
  pub others : (q : Identifier) → q ≢ e.0 → q ≢ id_after e.0 (key.counter - e.0.counter + 1) → kept_at fs q ≡ kept_at es q
  pub ordered : IsStrictlySortedBy id_cmp (keys_of fs)

-- k has the values of l, and this stretch ends with the key
pub record IsSplitAfter {V : Type 0} (nth : Identifier → V → ℕ → V) (reaches : Identifier → V → ℕ → Type 0) (l k : Layout V)
    (e : StretchEntry V) (key : Identifier) : Type 0 where
  pub are : AreStretches reaches k
  pub found : (q : Identifier) → value_in nth k q ≡ value_in nth l q
  pub head : KeepsEntry k.1 (up_to e key.counter)

-- P holds for no stretch of the replica
abbrev pub NoneOf : {V : Type 0} → (StretchEntry V → Type 0) → ℕ → Type 0
NoneOf {V} P replica = (e : StretchEntry V) → P e → e.0.replica ≡ replica → ⊥

-- the last stretch of the replica of those for which P holds
pub record IsLastOf {V : Type 0} (P : StretchEntry V → Type 0) (replica : ℕ) (e : StretchEntry V) : Type 0 where
  pub one : P e
  pub own : e.0.replica ≡ replica
  pub last : (f : StretchEntry V) → P f → f.0.replica ≡ replica → f.0.counter ≤ e.0.counter

-- the greatest counter of the replica in the stretches for which P holds
pub record IsGreatestOf {V : Type 0} (P : StretchEntry V → Type 0) (replica : ℕ) (greatest : Option ℕ) : Type 0 where
  pub none : IfNone greatest (NoneOf P replica)
  pub some : IfSome greatest (λ n. ((e : StretchEntry V) × P e × (e.0.replica ≡ replica) × (e.1.last ≡ n))
      × ((f : StretchEntry V) → P f → f.0.replica ≡ replica → f.1.last ≤ n))
