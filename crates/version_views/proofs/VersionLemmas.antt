-- The version with a name, found from the newest operation on, and what later operations leave of it.
use Rattle.version_views.proofs.Words.{All, All-head, All-tail, All-weaker, Bool, Identifier, List, None, Op, Option, Some, [], ap, append-nil, arith, cases_Bool, deletes, eq-eqb}
use Rattle.version_views.proofs.Words.{false, id_of, if◌then◌else◌, inl, inr, is_hidden, length, nat_eq, ne_eqb, not, option_map, option_to_list, pointwise, refl, sym, true}
use Rattle.version_views.proofs.Words.{true≢false, ℕ, ◌&&◌, ◌++◌, ◌<◌, ◌∙◌, ◌∷◌, ◌≡◌, ◌||◌}
use Rattle.std.proofs.Common.{get_or, reverse, ◌+◌}
use Rattle.std.proofs.lemmas.Bool.{not-true, or_right}
use Rattle.std.specs.Prelude.{option_and_then, slice_get}
use Rattle.std.proofs.lemmas.List.{length-reverse, length-take-le}
use Rattle.version_views.proofs.Words.{Delete, Note, Section, Text, take}
use Rattle.replica_core.specs.Index.{is_section_or_note}
use Rattle.replica_core.proofs.WalkLemmas.{passed_more}
use Rattle.version_views.specs.Laws.{LaterOpsLeaveVersion, LaterOpsLeaveWritten, VersionIsWithin, leaves_version}
use Rattle.version_views.specs.Versions.{Version, is_version, is_version_at, is_withdrawn_version, last_named, name_given, name_in, name_in_at, op_after, version_with}
use Rattle.version_views.specs.Versions.{versions_up_to, withdraws, withdraws_note}
use Rattle.version_views.specs.Views.{view}
use Rattle.version_views.proofs.ViewLemmas.{later_ops_leave_view}

abbrev count_of : Option Version → Option ℕ
count_of o = option_map (λ v. v.count) o

-- a version before others with the name is theirs, where they have one
abbrev before_last : List ℕ → Version → Option Version → Option Version
before_last name w o = elim o [ Some u ↦ Some u | None ↦ if pointwise nat_eq w.name name then Some w else None ]

-- the last version of a list with one more is that one, where it has the name
last_named-push : (name : List ℕ) (vs : List Version) (v : Version)
    → last_named name (vs ++ v ∷ []) ≡ (if pointwise nat_eq v.name name then Some v else last_named name vs)
last_named-push name [] v = refl
last_named-push name (w ∷ vs) v =
    ap (before_last name w) (last_named-push name vs v)
    ∙ elim (pointwise nat_eq v.name name) as (λ (b : Bool). before_last name w (if b then Some v else last_named name vs) ≡ (if b then Some v else last_named name (w ∷ vs)))
    [ true ↦ refl | false ↦ refl ]

-- the newest operation that is a version with the name: how many are before it
abbrev pub newest : ℕ → List Op → List ℕ → List Op → Option ℕ
newest r history name [] = None
newest r history name (op ∷ older) = if is_version r history name op then Some (length older) else newest r history name older

-- that one is the last of the versions with the name
pub last_is_newest : (r : ℕ) (history : List Op) (name : List ℕ) (ops : List Op) → count_of (last_named name (versions_up_to r history ops)) ≡ newest r history name ops
last_is_newest r history name [] = refl
last_is_newest r history name (op ∷ older) =
    let vs : List Version = versions_up_to r history older in
    let rest : count_of (last_named name vs) ≡ newest r history name older = last_is_newest r history name older in
    elim (name_in r history op) as (λ (o : Option (List ℕ)). count_of (last_named name (vs ++ option_to_list (option_map (λ n. record { name = n; count = length older }) o)))
    ≡ (if (elim o [ None ↦ false | Some body ↦ pointwise nat_eq body name ]) then Some (length older) else newest r history name older)) [
      | None ↦ ap (λ l. count_of (last_named name l)) (append-nil vs) ∙ rest
      | Some body ↦ ap count_of (last_named-push name vs (record { name = body; count = length older }))
          ∙ elim (pointwise nat_eq body name) as (λ (b : Bool). count_of (if b then Some (record { name = body; count = length older }) else last_named name vs)
          ≡ (if b then Some (length older) else newest r history name older)) [ true ↦ refl | false ↦ rest ]
    ]

-- what is neither a Section nor a Note gives no name
pub no_name : (r : ℕ) (h : List Op) (op : Op) → is_section_or_note op ≡ false → name_in r h op ≡ None
no_name r h (Section i l t n) e = absurd (true≢false e)
no_name r h (Text i s l t c) e = either_way (is_hidden h i) None refl
  where
    either_way : (b : Bool) (o : Option (List ℕ)) → o ≡ None → (if b then None else o) ≡ None
    either_way true o e = refl
    either_way false o e = e
no_name r h (Delete i) e = refl
no_name r h (Note i ns c b) e = absurd (true≢false e)

pub no_version : (r : ℕ) (h : List Op) (name : List ℕ) (op : Op) → is_section_or_note op ≡ false → is_version r h name op ≡ false
no_version r h name op e = ap (λ (o : Option (List ℕ)). elim o [ None ↦ false | Some body ↦ pointwise nat_eq body name ]) (no_name r h op e)

-- what is so of a position is so of the operation there
pub name_there : (r : ℕ) (h : List Op) (n : ℕ) (op : Op) → slice_get (reverse h) n ≡ Some op → name_in_at r h n ≡ name_in r h op
name_there r h n op e = ap (option_and_then (name_in r h)) e

pub version_there : (r : ℕ) (h : List Op) (name : List ℕ) (n : ℕ) (op : Op) → slice_get (reverse h) n ≡ Some op → is_version_at r h name n ≡ is_version r h name op
version_there r h name n op e = ap (λ (o : Option (List ℕ)). elim o [ None ↦ false | Some body ↦ pointwise nat_eq body name ]) (name_there r h n op e)

-- one operation more
pub newest_more : (r : ℕ) (history : List Op) (name : List ℕ) (ops : List Op) (i : ℕ) (op : Op) → i < length ops → op ≡ get_or ops i op
    → newest r history name (reverse (take (i + 1) ops)) ≡ (if is_version r history name op then Some i else newest r history name (reverse (take i ops)))
newest_more r history name ops i op below is =
    let count : length (reverse (take i ops)) ≡ i = length-reverse (take i ops) ∙ length-take-le i ops (omega (arith, below)) in
    ap (newest r history name) (passed_more ops i op below is)
    ∙ ap (λ k. if is_version r history name op then Some k else newest r history name (reverse (take i ops))) count

-- one that is found is among the operations
newest_within : (r : ℕ) (history : List Op) (name : List ℕ) (ops : List Op) (n : ℕ) → newest r history name ops ≡ Some n → n < length ops
newest_within r history name [] n e = cc
newest_within r history name (op ∷ older) n e =
    elim (cases_Bool (is_version r history name op)) [
      | inl k ↦ let here : Some (length older) ≡ Some n = sym (ap (λ b. if b then Some (length older) else newest r history name older) k) ∙ e in
          let same : length older ≡ n = cc here in omega (arith, same)
      | inr k ↦ let there : newest r history name older ≡ Some n = sym (ap (λ b. if b then Some (length older) else newest r history name older) k) ∙ e in
          omega (arith, newest_within r history name older n there)
    ]

pub version_is_within : VersionIsWithin
version_is_within h r name n e = newest_within r h name h n (sym (last_is_newest r h name h) ∙ e)

-- what a longer history hides
hidden-append : (new h : List Op) (x : Identifier) → is_hidden (new ++ h) x ≡ (is_hidden new x || is_hidden h x)
hidden-append [] h x = refl
hidden-append (op ∷ new) h x =
    elim (deletes x op) as (λ (b : Bool). (b || is_hidden (new ++ h) x) ≡ ((b || is_hidden new x) || is_hidden h x)) [ true ↦ refl | false ↦ hidden-append new h x ]

-- the name of an operation, by whether it is withdrawn
abbrev named_by : ℕ → List ℕ → Op → Bool → Bool
named_by r name op b = elim (if b then None else name_given r op) [ None ↦ false | Some body ↦ pointwise nat_eq body name ]

-- what is withdrawn stays so
withdrawn_stays : (new h : List Op) (op : Op) → is_withdrawn_version h op ≡ true → is_withdrawn_version (new ++ h) op ≡ true
withdrawn_stays new h op e =
    elim (id_of op) as (λ (o : Option Identifier). (elim o [ None ↦ false | Some i ↦ is_hidden h i ]) ≡ true → (elim o [ None ↦ false | Some i ↦ is_hidden (new ++ h) i ]) ≡ true) [
      | None ↦ λ k. k
      | Some i ↦ λ k. hidden-append new h i ∙ or_right (is_hidden new i) (is_hidden h i) k
    ] e

-- what is no version becomes none
none_stays : (r : ℕ) (new h : List Op) (name : List ℕ) (op : Op) → is_version r h name op ≡ false → is_version r (new ++ h) name op ≡ false
none_stays r new h name op e =
    elim (cases_Bool (is_withdrawn_version (new ++ h) op)) [
      | inl k ↦ ap (named_by r name op) k
      | inr k ↦ elim (cases_Bool (is_withdrawn_version h op)) [
        | inl w ↦ absurd (true≢false (sym (withdrawn_stays new h op w) ∙ k))
        | inr w ↦ ap (named_by r name op) (k ∙ sym w) ∙ e
      ]
    ]

-- an operation that no later one withdraws is withdrawn as before
abbrev kept_by : List Op → Op → Bool
kept_by new op = elim (id_of op) [ None ↦ true | Some i ↦ not (is_hidden new i) ]

withdrawn_same : (new h : List Op) (op : Op) → kept_by new op ≡ true → is_withdrawn_version (new ++ h) op ≡ is_withdrawn_version h op
withdrawn_same new h op e =
    elim (id_of op) as (λ (o : Option Identifier). (elim o [ None ↦ true | Some i ↦ not (is_hidden new i) ]) ≡ true
    → (elim o [ None ↦ false | Some i ↦ is_hidden (new ++ h) i ]) ≡ (elim o [ None ↦ false | Some i ↦ is_hidden h i ])) [
      | None ↦ λ k. refl
      | Some i ↦ λ k. hidden-append new h i ∙ ap (λ b. b || is_hidden h i) (not-true (is_hidden new i) k)
    ] e

-- where the newest version of some operations is kept, it is found in a longer history too
newest_stays : (r : ℕ) (new h : List Op) (name : List ℕ) (ops : List Op)
    → ((n : ℕ) (note : Op) → newest r h name ops ≡ Some n → op_after ops n ≡ Some note → kept_by new note ≡ true)
    → newest r (new ++ h) name ops ≡ newest r h name ops
newest_stays r new h name [] f = refl
newest_stays r new h name (op ∷ older) f =
    let step : (List Op) → Bool → Option ℕ = λ g b. if b then Some (length older) else newest r g name older in
    elim (cases_Bool (is_version r h name op)) [
      | inl k ↦
          let found : newest r h name (op ∷ older) ≡ Some (length older) = ap (step h) k in
          let at : op_after (op ∷ older) (length older) ≡ Some op = ap (λ b. if b then Some op else op_after older (length older)) (eq-eqb (length older) (length older) refl) in
          let same : is_withdrawn_version (new ++ h) op ≡ is_withdrawn_version h op = withdrawn_same new h op (f (length older) op found at) in
          ap (step (new ++ h)) (ap (named_by r name op) same ∙ k) ∙ sym found
      | inr k ↦
          ap (step (new ++ h)) (none_stays r new h name op k)
          ∙ newest_stays r new h name older (λ n note e g. f n note (ap (step h) k ∙ e)
          (ap (λ b. if b then Some op else op_after older n) (ne_eqb (length older) n (λ d. omega (arith, d, newest_within r h name older n e))) ∙ g))
          ∙ sym (ap (step h) k)
    ]

-- operations of which none is a version with the name are passed over
passed_over : (r : ℕ) (h : List Op) (name : List ℕ) (front back : List Op) → All (λ op. is_version r h name op ≡ false) front
    → newest r h name (front ++ back) ≡ newest r h name back
passed_over r h name [] back a = refl
passed_over r h name (op ∷ front) back a =
    ap (λ b. if b then Some (length (front ++ back)) else newest r h name (front ++ back)) (All-head (λ o. is_version r h name o ≡ false) op front a)
    ∙ passed_over r h name front back (All-tail (λ o. is_version r h name o ≡ false) op front a)

-- what each of some operations does not hide is not hidden by them
none_hides : (x : Identifier) (new : List Op) → All (λ op. deletes x op ≡ false) new → is_hidden new x ≡ false
none_hides x [] a = refl
none_hides x (op ∷ new) a =
    ap (λ b. b || is_hidden new x) (All-head (λ o. deletes x o ≡ false) op new a) ∙ none_hides x new (All-tail (λ o. deletes x o ≡ false) op new a)

-- both parts of a test that fails both
neither : (a b : Bool) → (not a && not b) ≡ true → (a ≡ false) × (b ≡ false)
neither true b e = cc
neither false true e = cc
neither false false e = (refl, refl)

pub later_ops_leave_version : LaterOpsLeaveVersion
later_ops_leave_version r name new h a =
    last_is_newest r (new ++ h) name (new ++ h)
    ∙ passed_over r (new ++ h) name new h (All-weaker (λ op. leaves_version new h r name op ≡ true) (λ op. is_version r (new ++ h) name op ≡ false)
    (λ op k. (neither (is_version r (new ++ h) name op) (withdraws h r name op) k).0) new a)
    ∙ newest_stays r new h name h kept
    ∙ sym (last_is_newest r h name h)
  where
    kept : (n : ℕ) (note : Op) → newest r h name h ≡ Some n → op_after h n ≡ Some note → kept_by new note ≡ true
    kept n note e g =
        let is : version_with h r name ≡ Some n = last_is_newest r h name h ∙ e in
        let each : All (λ op. withdraws h r name op ≡ false) new = All-weaker (λ op. leaves_version new h r name op ≡ true) (λ op. withdraws h r name op ≡ false)
        (λ op k. (neither (is_version r (new ++ h) name op) (withdraws h r name op) k).1) new a in
        by_id (id_of note) refl is each
      where
        by_id : (o : Option Identifier) → id_of note ≡ o → version_with h r name ≡ Some n → All (λ op. withdraws h r name op ≡ false) new → kept_by new note ≡ true
        by_id None i is each = ap (λ o. elim o [ None ↦ true | Some j ↦ not (is_hidden new j) ]) i
        by_id (Some x) i is each =
            let one : (op : Op) → withdraws h r name op ≡ deletes x op = λ op.
            ap (λ o. elim o [ None ↦ false | Some m ↦ withdraws_note h m op ]) is
            ∙ ap (λ o. elim o [ None ↦ false | Some t ↦ elim (id_of t) [ None ↦ false | Some j ↦ deletes j op ] ]) g
            ∙ ap (λ o. elim o [ None ↦ false | Some j ↦ deletes j op ]) i in
            ap (λ o. elim o [ None ↦ true | Some j ↦ not (is_hidden new j) ]) i
            ∙ ap not (none_hides x new (All-weaker (λ op. withdraws h r name op ≡ false) (λ op. deletes x op ≡ false) (λ op k. sym (one op) ∙ k) new each))

-- and so they leave what is written for the name
pub later_ops_leave_written : LaterOpsLeaveWritten
later_ops_leave_written r name new h a = ap (option_map (view (new ++ h))) (later_ops_leave_version r name new h a) ∙ by (version_with h r name) refl
  where
    by : (o : Option ℕ) → version_with h r name ≡ o → option_map (view (new ++ h)) o ≡ option_map (view h) o
    by None e = refl
    by (Some n) e = ap Some (later_ops_leave_view n new h (omega (arith, version_is_within h r name n e)))
