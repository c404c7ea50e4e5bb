-- What a replica holds, taken in again: by itself it changes nothing, and from nothing it leads to the same.
use Rattle.origin_model.proofs.Words.{All, All-head, All-nil, All-tail, All-weaker, AllPairs, Identifier, Lawful, List, None, Op, Option, Ready, Some, Verdict, [], accepted}
use Rattle.origin_model.proofs.Words.{all_before, all_after, ap, append-nil, append_assoc, arith, false, false_from_ne_true, has_op, holds, id_held, id_of, if◌then◌else◌, is_own}
use Rattle.origin_model.proofs.Words.{length, length-append, nat_eq, ne_eqb, op_eq, op_eq-true, refl, reverse-append, subst, sym, true, true≢false, verdict, ℕ, ◌++◌, ◌+◌, ◌∙◌, ◌∷◌}
use Rattle.origin_model.proofs.Words.{◌≡◌, ◌≢◌, ◌≤◌}
use Rattle.std.proofs.lemmas.Bool.{or_from}
use Rattle.fugue_ids.proofs.ListLemmas.{all_pairs_across}
use Rattle.origin_model.specs.declared.operations.Verdict.TheVariants.{Stray}
use Rattle.origin_model.specs.operations.History.{HaveOtherIds}
use Rattle.origin_model.specs.taking.Repeats.{RepeatsChangeNothing, ReplicaIsRebuilt}
use Rattle.origin_model.specs.taking.Taking.{Accepted, Again as AnsweredAgain, Conflict as AnsweredConflict, Held, Waits, answer, answer_by, decided_on, held, held_from, intake}
use Rattle.origin_model.specs.taking.Taking.{is_again, is_decided, is_taken, nothing_held, settle, held_after}
use Rattle.origin_model.proofs.operations.LookupLemmas.{holds-cons, own_id, when_ready}
use Rattle.origin_model.proofs.taking.KeptLemmas.{held-append}
use Rattle.origin_model.proofs.taking.SettlingLemmas.{settle-settled}

-- operations that are there change nothing
pub repeats_change_nothing : RepeatsChangeNothing
repeats_change_nothing hold most s [] z there = refl
repeats_change_nothing hold most s (op ∷ ops) z there =
    let again : is_again s op ≡ true = All-head (λ o. is_again s o ≡ true) op ops there in
    let is : answer hold most s op ≡ AnsweredAgain =
    λ i. if again i then AnsweredAgain else if is_taken s op then AnsweredConflict else
    answer_by (nat_eq (length s.history + length s.waiting) most) (nat_eq (length s.waiting) hold) (verdict s.history op) in
    let stays : intake hold most s op ≡ s = ap (λ r. settle (held_after r s op)) is ∙ settle-settled s z in
    ap (λ u. held_from hold most u ops) stays ∙ repeats_change_nothing hold most s ops z (All-tail (λ o. is_again s o ≡ true) op ops there)

-- an operation is absent where all others are other ones
absent : (ops : List Op) (op : Op) → All (λ o. o ≢ op) ops → has_op ops op ≡ false
absent [] op others = refl
absent (o ∷ ops) op others =
    or_from (op_eq o op) (has_op ops op)
    (false_from_ne_true (op_eq o op) (λ t. All-head (λ o. o ≢ op) o ops others (op_eq-true o op t)))
    (absent ops op (All-tail (λ o. o ≢ op) o ops others))

-- an identifier is not held where it is no operation's own
not_held : (ops : List Op) (op : Op) (i : Identifier) → id_of op ≡ Some i → All (λ o. HaveOtherIds o op) ops → holds ops i ≡ false
not_held [] op i e others = refl
not_held (o ∷ ops) op i e others =
    holds-cons o ops i
    ∙ or_from (is_own i o) (holds ops i)
    (false_from_ne_true (is_own i o) (λ t. All-head (λ o. HaveOtherIds o op) o ops others i (own_id o i t) e))
    (not_held ops op i e (All-tail (λ o. HaveOtherIds o op) o ops others))

-- so the identifier of an operation is free where all others have other ones
free_id : (ops : List Op) (op : Op) → All (λ o. HaveOtherIds o op) ops → id_held ops (id_of op) ≡ false
free_id ops op others = by_id (id_of op) refl
  where
    by_id : (o : Option Identifier) → id_of op ≡ o → id_held ops o ≡ false
    by_id None e = refl
    by_id (Some i) e = not_held ops op i e others

-- accepted operations are accepted again, one after the other
history_again : (hold most : ℕ) (h : List Op) → Lawful h → length h ≤ most → held hold most (accepted h) ≡ record { history = h; waiting = [] }
history_again hold most [] w few = refl
history_again hold most (op ∷ h) w few =
    let s : Held = record { history = h; waiting = [] } in
    let r = when_ready h op w.0 in
    let again : is_again s op ≡ false = or_from (has_op h op) false r.absent refl in
    let free : is_taken s op ≡ false = or_from (id_held h (id_of op)) (id_held [] (id_of op)) r.fresh (free_id [] op (All-nil (λ o. HaveOtherIds o op))) in
    let room : nat_eq (length h + 0) most ≡ false = ne_eqb (length h + 0) most (λ e. omega (arith, few, e)) in
    let is : answer hold most s op ≡ Accepted = λ i. if again i then AnsweredAgain else if free i then AnsweredConflict else answer_by (room i) (nat_eq 0 hold) (w.0 i) in
    ap (held hold most) (reverse-append (op ∷ []) h)
    ∙ sym (held-append hold most nothing_held (accepted h) (op ∷ []))
    ∙ ap (λ u. intake hold most u op) (history_again hold most h w.1 (omega (arith, few)))
    ∙ ap (λ a. settle (held_after a s op)) is
    ∙ settle-settled (record { history = op ∷ h; waiting = [] }) (All-nil (λ o. decided_on (op ∷ h) o ≡ false))

-- what is not decided waits, where there is room
waits_by : (v : Verdict) → is_decided v ≡ false → answer_by false false v ≡ Waits
waits_by Ready e = absurd (true≢false e)
waits_by (Stray i) e = absurd (true≢false e)
waits_by _ e = refl

-- of some operations no two are the same, or have one identifier
record AreApart (ops : List Op) : Type 0 where
  once : AllPairs (λ a b. a ≢ b) ops
  own_ids : AllPairs HaveOtherIds ops

-- an operation is apart from each of those before it
apart_from : (R : Op → Op → Type 0) (ops : List Op) (op : Op) (more : List Op) → AllPairs R (ops ++ op ∷ more) → All (λ o. R o op) ops
apart_from R ops op more pairs = All-weaker (λ o. All (R o) (op ∷ more)) (λ o. R o op) (λ o all. All-head (R o) op more all) ops (all_pairs_across R ops (op ∷ more) pairs)

-- operations that wait and are not decided wait again, one after the other
waiting_again : (hold most : ℕ) (h front ops : List Op) → All (λ o. decided_on h o ≡ false) (front ++ ops) → AreApart (h ++ (front ++ ops))
    → length (front ++ ops) ≤ hold → length h + length (front ++ ops) ≤ most
    → held_from hold most (record { history = h; waiting = front }) ops ≡ record { history = h; waiting = front ++ ops }
waiting_again hold most h front [] z apart few_wait few = ap (λ w. record { history = h; waiting = w }) (sym (append-nil front))
waiting_again hold most h front (op ∷ ops) z apart few_wait few =
    let s : Held = record { history = h; waiting = front } in
    let long = length-append front (op ∷ ops) in
    let all : h ++ (front ++ op ∷ ops) ≡ (h ++ front) ++ op ∷ ops = sym (append_assoc h front (op ∷ ops)) in
    let others : All (λ o. o ≢ op) (h ++ front) = apart_from (λ a b. a ≢ b) (h ++ front) op ops (subst (AllPairs (λ a b. a ≢ b)) all apart.once) in
    let ids : All (λ o. HaveOtherIds o op) (h ++ front) = apart_from HaveOtherIds (h ++ front) op ops (subst (AllPairs HaveOtherIds) all apart.own_ids) in
    let undecided : decided_on h op ≡ false = All-head (λ o. decided_on h o ≡ false) op ops (all_after (λ o. decided_on h o ≡ false) front (op ∷ ops) z) in
    let again : is_again s op ≡ false = or_from (has_op h op) (has_op front op)
    (absent h op (all_before (λ o. o ≢ op) h front others)) (absent front op (all_after (λ o. o ≢ op) h front others)) in
    let free : is_taken s op ≡ false = or_from (id_held h (id_of op)) (id_held front (id_of op))
    (free_id h op (all_before (λ o. HaveOtherIds o op) h front ids)) (free_id front op (all_after (λ o. HaveOtherIds o op) h front ids)) in
    let room : nat_eq (length h + length front) most ≡ false = ne_eqb (length h + length front) most (λ e. omega (arith, few, long, e)) in
    let space : nat_eq (length front) hold ≡ false = ne_eqb (length front) hold (λ e. omega (arith, few_wait, long, e)) in
    let is : answer hold most s op ≡ Waits =
    (λ i. if again i then AnsweredAgain else if free i then AnsweredConflict else answer_by (room i) (space i) (verdict h op)) ∙ waits_by (verdict h op) undecided in
    let joins : (front ++ op ∷ []) ++ ops ≡ front ++ op ∷ ops = append_assoc front (op ∷ []) ops in
    let settled : All (λ o. decided_on h o ≡ false) ((front ++ op ∷ []) ++ ops) = subst (All (λ o. decided_on h o ≡ false)) (sym joins) z in
    let stays = settle-settled (record { history = h; waiting = front ++ op ∷ [] }) (all_before (λ o. decided_on h o ≡ false) (front ++ op ∷ []) ops settled) in
    ap (λ u. held_from hold most u ops) (ap (λ a. settle (held_after a s op)) is ∙ stays)
    ∙ waiting_again hold most h (front ++ op ∷ []) ops settled (subst (λ l. AreApart (h ++ l)) (sym joins) apart)
    (omega (arith, few_wait, ap length joins)) (omega (arith, few, ap length joins))
    ∙ ap (λ w. record { history = h; waiting = w }) joins

-- what a settled replica gives leads from nothing to what it holds
pub replica_is_rebuilt : ReplicaIsRebuilt
replica_is_rebuilt s hold most stands z wide far =
    let h : List Op = s.held.history in
    let w : List Op = s.held.waiting in
    sym (held-append hold most nothing_held (accepted h) w)
    ∙ ap (λ u. held_from hold most u w) (history_again hold most h stands.lawful (omega (arith, stands.few, far)))
    ∙ waiting_again hold most h [] w z (record { once = stands.once; own_ids = stands.own_ids }) (omega (arith, stands.few_wait, wide)) (omega (arith, stands.few, far))
