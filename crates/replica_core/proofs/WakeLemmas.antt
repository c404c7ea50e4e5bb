-- When an operation joins the history, what does not rest on it is decided as before.
use Rattle.std.proofs.Common.{◌≡◌, refl, sym, ◌∙◌, ap, ℕ, zero, suc, ◌+◌, ◌<◌, ◌≤◌, length, List, [], ◌∷◌, ◌++◌, Bool, true, false, nat_eq, arith, append_assoc, length-append, inl}
use Rattle.std.proofs.Common.{inr, drop, get_or, subst, ◌≢◌}
use Rattle.std.specs.Prelude.{if◌then◌else◌, Option, Some, None, All, AllPairs, map, set, slice_get}
use Rattle.std.specs.List.{list_any}
use Rattle.std.proofs.lemmas.Bool.{cases_Bool, or_parts, eqb-true, eq-eqb, true≢false, and_parts, and_from}
use Rattle.std.proofs.lemmas.List.{set_at}
use Rattle.std.proofs.lemmas.Option.{slice_get-get_or}
use Rattle.fugue_ids.specs.Identifiers.{Identifier, id_eq, origin_eq}
use Rattle.fugue_ids.specs.Ops.{id_of}
use Rattle.fugue_ids.specs.declared.op.Op.{Op}
use Rattle.origin_model.proofs.SharedLemmas.{holder-other, holds-cons}
use Rattle.origin_model.specs.operations.History.{has_op, holder, is_own}
use Rattle.origin_model.specs.operations.Verdict.{verdict, first_line, first_stray, first_missing, fits, names, id_held}
use Rattle.origin_model.specs.declared.operations.Role.{Role}
use Rattle.origin_model.specs.taking.Taking.{is_decided, decided_on}
use Rattle.causal_inbox.specs.Naming.{is_naming, naming}
use Rattle.causal_inbox.specs.Positions.{positions_from}
use Rattle.origin_model.specs.operations.History.{HaveOtherIds}
use Rattle.replica_core.specs.Due.{due_marks, newest_id}
use Rattle.replica_core.proofs.StandingLemmas.{absent_before, id_unheld}

-- where the operation has an identifier, no name is it
abbrev NamesNot : Op → List (Identifier × Role) → Type 0
NamesNot op ns = (i : Identifier) → id_of op ≡ Some i → list_any (λ named. id_eq named.0 i) ns ≡ false

id_eq-turned : (a b : Identifier) → id_eq a b ≡ true → id_eq b a ≡ true
id_eq-turned a b e =
    let p = and_parts (nat_eq a.replica b.replica) (nat_eq a.counter b.counter) e in
    and_from _ _ (eq-eqb _ _ (sym (eqb-true _ _ p.0))) (eq-eqb _ _ (sym (eqb-true _ _ p.1)))

not_own : (o : Option Identifier) (n : Identifier) → ((i : Identifier) → o ≡ Some i → id_eq n i ≡ false) → origin_eq o (Some n) ≡ false
not_own None n apart = refl
not_own (Some i) n apart =
    elim (cases_Bool (id_eq i n)) [
      | inl e ↦ absurd (true≢false (sym (id_eq-turned i n e) ∙ apart i refl))
      | inr e ↦ e
    ]

-- a name is looked up as before
name_older : (op : Op) (h : List Op) (n : Identifier × Role) (ns : List (Identifier × Role)) → NamesNot op (n ∷ ns) → holder (op ∷ h) n.0 ≡ holder h n.0
name_older op h n ns apart =
    holder-other op h n.0 (not_own (id_of op) n.0 (λ i own. (or_parts (id_eq n.0 i) (list_any (λ named. id_eq named.0 i) ns) (apart i own)).0))

names_further : (op : Op) (n : Identifier × Role) (ns : List (Identifier × Role)) → NamesNot op (n ∷ ns) → NamesNot op ns
names_further op n ns apart = λ i own. (or_parts (id_eq n.0 i) (list_any (λ named. id_eq named.0 i) ns) (apart i own)).1

-- the first stray one and the first missing one, by what is found of the first name
abbrev stray_by : Identifier × Role → Option Op → Option Identifier → Option Identifier
stray_by n found rest = elim found [ None ↦ rest | Some op ↦ if fits n.1 op then rest else Some n.0 ]

abbrev missing_by : Identifier × Role → Option Op → Option Identifier → Option Identifier
missing_by n found rest = elim found [ None ↦ Some n.0 | Some op ↦ rest ]

stray-older : (op : Op) (h : List Op) (ns : List (Identifier × Role)) → NamesNot op ns → first_stray (op ∷ h) ns ≡ first_stray h ns
stray-older op h [] apart = refl
stray-older op h (n ∷ ns) apart =
    let found = name_older op h n ns apart in
    let rest = stray-older op h ns (names_further op n ns apart) in
    λ k. stray_by n (found k) (rest k)

missing-older : (op : Op) (h : List Op) (ns : List (Identifier × Role)) → NamesNot op ns → first_missing (op ∷ h) ns ≡ first_missing h ns
missing-older op h [] apart = refl
missing-older op h (n ∷ ns) apart =
    let found = name_older op h n ns apart in
    let rest = missing-older op h ns (names_further op n ns apart) in
    λ k. missing_by n (found k) (rest k)

id_held-older : (op : Op) (h : List Op) (o : Option Identifier) → id_held (op ∷ h) o ≡ false → id_held h o ≡ false
id_held-older op h None e = refl
id_held-older op h (Some i) e = (or_parts (is_own i op) _ (sym (holds-cons op h i) ∙ e)).1

-- an operation that does not rest on the one that joined is decided as before
decided-older : (op x : Op) (h : List Op) → has_op (op ∷ h) x ≡ false → id_held (op ∷ h) (id_of x) ≡ false → NamesNot op (names x) → decided_on (op ∷ h) x ≡ decided_on h x
unfolding verdict
decided-older op x h absent unheld apart =
    let again : has_op (op ∷ h) x ≡ has_op h x = absent ∙ sym (or_parts _ (has_op h x) absent).1 in
    let taken : id_held (op ∷ h) (id_of x) ≡ id_held h (id_of x) = unheld ∙ sym (id_held-older op h (id_of x) unheld) in
    let stray = stray-older op h (names x) apart in
    let missing = missing-older op h (names x) apart in
    λ k. is_decided (first_line (again k) (taken k) (stray k) (missing k))

-- the same of an operation that waits after the history
waiting-older : (op : Op) (h w : List Op) → AllPairs (λ (a b : Op). a ≢ b) ((op ∷ h) ++ w) → AllPairs HaveOtherIds ((op ∷ h) ++ w)
    → All (λ x. NamesNot op (names x) → decided_on (op ∷ h) x ≡ decided_on h x) w
waiting-older op h w once own_ids k d below apart =
    let x : Op = get_or w k d in
    let at = slice_get-get_or w k d below in
    decided-older op x h (absent_before (op ∷ h) w k x at once) (id_unheld (op ∷ h) w k x (id_of x) at refl own_ids) apart

-- the marks after the operation at a position was tried, and after those at several
abbrev pub tried : (Op → Bool) → List Op → ℕ → List Bool → List Bool
tried test ops position marks = elim (slice_get ops position) [ None ↦ marks | Some op ↦ set marks position (test op) ]

abbrev pub all_tried : (Op → Bool) → List Op → List ℕ → List Bool → List Bool
all_tried test ops [] marks = marks
all_tried test ops (position ∷ positions) marks = all_tried test ops positions (tried test ops position marks)

tried-some : (test : Op → Bool) (ops : List Op) (position : ℕ) (marks : List Bool) (op : Op) → slice_get ops position ≡ Some op
    → tried test ops position marks ≡ set marks position (test op)
tried-some test ops position marks op e = rw (e, tried)

naming-yes : (at : ℕ) (i : Identifier) (x : Op) (ops : List Op) → is_naming i x ≡ true → positions_from at (is_naming i) (x ∷ ops) ≡ at ∷ positions_from (suc at) (is_naming i) ops
naming-yes at i x ops e = rw (e, positions_from)

naming-no : (at : ℕ) (i : Identifier) (x : Op) (ops : List Op) → is_naming i x ≡ false → positions_from at (is_naming i) (x ∷ ops) ≡ positions_from (suc at) (is_naming i) ops
naming-no at i x ops e = rw (e, positions_from)

member_after : (front : List Op) (x : Op) (ops : List Op) (at : ℕ) → length front ≡ at → slice_get (front ++ x ∷ ops) at ≡ Some x
member_after [] x ops at e = ap (slice_get (x ∷ ops)) (sym e)
member_after (o ∷ front) x ops at e = ap (slice_get (o ∷ (front ++ x ∷ ops))) (sym e) ∙ member_after front x ops (length front) refl

-- the marks of those that rest on the identifier are tried, the others are right
tried_all : (f g : Op → Bool) (i : Identifier) (whole front ops : List Op) (at : ℕ) (before marks : List Bool)
    → whole ≡ front ++ ops → length front ≡ at → length before ≡ at → marks ≡ before ++ map f ops
    → All (λ x. is_naming i x ≡ false → g x ≡ f x) ops
    → all_tried g whole (positions_from at (is_naming i) ops) marks ≡ before ++ map g ops
tried_all f g i whole front [] at before marks is at_front at_before marked others = marked
tried_all f g i whole front (x ∷ ops) at before marks is at_front at_before marked others =
    let go : (b : Bool) (after : List Bool) → b ≡ g x → after ≡ before ++ b ∷ map f ops
    → all_tried g whole (positions_from (suc at) (is_naming i) ops) after ≡ before ++ g x ∷ map g ops =
    λ b after same now.
    tried_all f g i whole (front ++ x ∷ []) ops (suc at) (before ++ b ∷ []) after
    (is ∙ sym (append_assoc front (x ∷ []) ops))
    (omega (arith, at_front, length-append front (x ∷ [])))
    (omega (arith, at_before, length-append before (b ∷ [])))
    (now ∙ sym (append_assoc before (b ∷ []) (map f ops)))
    (λ k d below. others (suc k) d (omega (arith, below)))
    ∙ append_assoc before (b ∷ []) (map g ops)
    ∙ ap (λ (c : Bool). before ++ c ∷ map g ops) same in
    elim (cases_Bool (is_naming i x)) [
      | inl e ↦
          let here : slice_get whole at ≡ Some x = ap (λ (l : List Op). slice_get l at) is ∙ member_after front x ops at at_front in
          let now : tried g whole at marks ≡ before ++ g x ∷ map f ops =
          tried-some g whole at marks x here ∙ ap (λ (l : List Bool). set l at (g x)) marked ∙ set_at before (f x) (map f ops) (g x) at at_before in
          ap (λ (positions : List ℕ). all_tried g whole positions marks) (naming-yes at i x ops e) ∙ go (g x) (tried g whole at marks) refl now
      | inr e ↦
          ap (λ (positions : List ℕ). all_tried g whole positions marks) (naming-no at i x ops e)
          ∙ go (f x) marks (sym (others 0 x (omega arith) e)) marked
    ]

-- trying those that rest on the newest operation makes the marks right that were right before it joined
pub woken_right : (h w : List Op) (marks : List Bool) (i : Identifier) → newest_id h ≡ Some i → marks ≡ due_marks (drop 1 h) w
    → AllPairs (λ (a b : Op). a ≢ b) (h ++ w) → AllPairs HaveOtherIds (h ++ w)
    → all_tried (decided_on h) w (naming i w) marks ≡ due_marks h w
woken_right [] w marks i e marked once own_ids = cc
woken_right (op ∷ h) w marks i e marked once own_ids =
    tried_all (decided_on h) (decided_on (op ∷ h)) i w [] w 0 [] marks refl refl refl marked
    (λ k d below apart. waiting-older op h w once own_ids k d below (λ j own. subst (λ (n : Identifier). is_naming n (get_or w k d) ≡ false) (same_id i j (sym e ∙ own)) apart))
  where
    same_id : (a b : Identifier) → Some a ≡ Some b → a ≡ b
    same_id a b e = cc

map_same : (f g : Op → Bool) (ops : List Op) → All (λ x. g x ≡ f x) ops → map f ops ≡ map g ops
map_same f g [] same = refl
map_same f g (x ∷ ops) same =
    let here : f x ≡ g x = sym (same 0 x (omega arith)) in
    let rest : map f ops ≡ map g ops = map_same f g ops (λ k d below. same (suc k) d (omega (arith, below))) in
    λ k. here k ∷ rest k

-- where the newest operation has no identifier, the marks stay right
pub unwoken_right : (h w : List Op) → newest_id h ≡ None → AllPairs (λ (a b : Op). a ≢ b) (h ++ w) → AllPairs HaveOtherIds (h ++ w)
    → due_marks (drop 1 h) w ≡ due_marks h w
unwoken_right [] w e once own_ids = refl
unwoken_right (op ∷ h) w e once own_ids =
    map_same (decided_on h) (decided_on (op ∷ h)) w
    (λ k d below. waiting-older op h w once own_ids k d below (λ i own. absurd (no_id i (sym own ∙ e))))
  where
    no_id : (i : Identifier) → Some i ≡ None → ⊥
    no_id i e = cc

-- a position of an operation that rests on the identifier is one of the list
naming_below : (at : ℕ) (i : Identifier) (ops : List Op) (k p : ℕ) → slice_get (positions_from at (is_naming i) ops) k ≡ Some p → p < at + length ops
naming_below at i [] k p e = cc
naming_below at i (x ∷ ops) k p e =
    elim (cases_Bool (is_naming i x)) [
      | inl yes_ ↦ first (positions_from (suc at) (is_naming i) ops) k (λ j d. naming_below (suc at) i ops j p d)
          (ap (λ (l : List ℕ). slice_get l k) (sym (naming-yes at i x ops yes_)) ∙ e)
      | inr no_ ↦ omega (arith, naming_below (suc at) i ops k p (ap (λ (l : List ℕ). slice_get l k) (sym (naming-no at i x ops no_)) ∙ e))
    ]
  where
    first : (l : List ℕ) (k : ℕ) → ((j : ℕ) → slice_get l j ≡ Some p → p < suc at + length ops) → slice_get (at ∷ l) k ≡ Some p → p < at + suc (length ops)
    first l zero rest d = let same : at ≡ p = cc d in omega (arith, same)
    first l (suc k) rest d = omega (arith, rest k d)

pub naming_within : (i : Identifier) (ops : List Op) (k p : ℕ) → slice_get (naming i ops) k ≡ Some p → p < length ops
naming_within i ops k p e = omega (arith, naming_below 0 i ops k p e)

few_from : (at : ℕ) (i : Identifier) (ops : List Op) → length (positions_from at (is_naming i) ops) ≤ length ops
few_from at i [] = omega arith
few_from at i (x ∷ ops) =
    elim (cases_Bool (is_naming i x)) [
      | inl e ↦ omega (arith, ap length (naming-yes at i x ops e), few_from (suc at) i ops)
      | inr e ↦ omega (arith, ap length (naming-no at i x ops e), few_from (suc at) i ops)
    ]

-- no more operations rest on the identifier than there are
pub few_naming : (i : Identifier) (ops : List Op) → length (naming i ops) ≤ length ops
few_naming i ops = few_from 0 i ops

-- the positions from the next one on
pub drop-next : (positions : List ℕ) (k next p : ℕ) → next ≡ suc k → slice_get positions k ≡ Some p → drop k positions ≡ p ∷ drop next positions
drop-next [] k next p is e = cc
drop-next (x ∷ positions) zero next p is e =
    let same : x ≡ p = cc e in
    ap (λ (y : ℕ). y ∷ positions) same ∙ ap (λ (n : ℕ). p ∷ drop n (x ∷ positions)) (sym is)
drop-next (x ∷ positions) (suc k) next p is e =
    drop-next positions k (suc k) p refl e ∙ ap (λ (n : ℕ). p ∷ drop n (x ∷ positions)) (sym is)

-- past the last one no position is left
pub drop-none : (positions : List ℕ) (k : ℕ) → slice_get positions k ≡ None → drop k positions ≡ []
drop-none [] zero e = refl
drop-none [] (suc k) e = refl
drop-none (x ∷ positions) zero e = cc
drop-none (x ∷ positions) (suc k) e = drop-none positions k e

-- trying one leaves those after it to be tried
pub next_tried : (test : Op → Bool) (ops : List Op) (positions : List ℕ) (k p : ℕ) (marks : List Bool) (op : Op) → slice_get positions k ≡ Some p → slice_get ops p ≡ Some op
    → all_tried test ops (drop k positions) marks ≡ all_tried test ops (drop (k + 1) positions) (set marks p (test op))
next_tried test ops positions k p marks op at here =
    ap (λ (l : List ℕ). all_tried test ops l marks) (drop-next positions k (k + 1) p (omega arith) at)
    ∙ ap (all_tried test ops (drop (k + 1) positions)) (tried-some test ops p marks op here)
