-- What is so of every replica stays so.
use Rattle.std.proofs.Common.{◌≡◌, ◌≢◌, refl, sym, ◌∙◌, ap, subst, ℕ, zero, suc, ◌+◌, ◌<◌, ◌≤◌, length, List, [], ◌∷◌, ◌++◌, Bool, true, false, nat_eq, arith, append_assoc}
use Rattle.std.proofs.Common.{length-append, get_or}
use Rattle.std.specs.Prelude.{if◌then◌else◌, Option, Some, None, All, AllPairs, remove, slice_get}
use Rattle.std.proofs.lemmas.Bool.{or_parts, or_from, true≢false, eqb-false, ne_eqb, false_from_ne_true}
use Rattle.std.proofs.lemmas.List.Elements.{All-nil, All-cons, All-append}
use Rattle.std.proofs.lemmas.List.Kept.{AllPairs-cons}
use Rattle.std.proofs.lemmas.List.Quantifiers.{all_pairs_push, all_pairs_remove}
use Rattle.std.proofs.lemmas.Option.{slice_get_within, slice_get-get_or, get_or_from_slice_get}
use Rattle.std.proofs.lemmas.List.{length_push}
use Rattle.fugue_ids.specs.Identifiers.{Identifier}
use Rattle.fugue_ids.specs.Ops.{id_of, op_eq}
use Rattle.fugue_ids.proofs.IdentifierLemmas.{origin_eq-true}
use Rattle.fugue_ids.proofs.OpLemmas.{op_eq-refl, op_eq-true}
use Rattle.fugue_ids.specs.declared.op.Op.{Op}
use Rattle.origin_model.proofs.SharedLemmas.{holds-cons}
use Rattle.origin_model.specs.operations.History.{has_op, holds, is_own}
use Rattle.origin_model.specs.operations.Verdict.{verdict, first_line, first_stray, first_missing, names, id_held}
use Rattle.origin_model.specs.declared.operations.Verdict.TheVariants.{Ready}
use Rattle.origin_model.specs.taking.Taking.{Held, answer, is_kept, Accepted, Full, Waits}
use Rattle.origin_model.specs.operations.History.{HaveOtherIds}
use Rattle.origin_model.specs.edits.State.{State, IsSound, IsOpen}
use Rattle.causal_inbox.specs.Waiting.{OpenWaiting}
use Rattle.origin_model.proofs.SharedLemmas.{accepted_is_ready, other_ids}
use Rattle.replica_core.proofs.DecisionLemmas.{IsNew, kept_new}

-- an operation that is not in a list differs from its members
differs : (ops : List Op) (op : Op) → has_op ops op ≡ false → All (λ x. op ≢ x) ops
differs [] op e = All-nil (λ x. op ≢ x)
differs (o ∷ ops) op e =
    let p = or_parts (op_eq o op) (has_op ops op) e in
    All-cons (λ x. op ≢ x) o ops (λ same. true≢false (sym (op_eq-refl op) ∙ subst (λ x. op_eq x op ≡ false) (sym same) p.0)) (differs ops op p.1)

-- an accepted operation
pub stands_accepted : (s : State) (op : Op) → IsSound s → IsNew s.most s.held op → verdict s.held.history op ≡ Ready
    → IsSound (record s { held = record { history = op ∷ s.held.history; waiting = s.held.waiting } })
stands_accepted s op t new ready =
    let h : List Op = s.held.history in
    let w : List Op = s.held.waiting in
    let p = or_parts (has_op h op) (has_op w op) new.absent in
    let q = or_parts (id_held h (id_of op)) (id_held w (id_of op)) new.own_id in
    let few : length h + length w ≢ s.most = eqb-false _ _ new.below in
    record {
      some_number = t.some_number;
      hold_within = t.hold_within;
      most_within = t.most_within;
      lawful = (ready, t.lawful);
      once = AllPairs-cons (λ (a b : Op). a ≢ b) op (h ++ w) (All-append (λ x. op ≢ x) h w (differs h op p.0) (differs w op p.1)) t.once;
      own_ids = AllPairs-cons HaveOtherIds op (h ++ w) (All-append (HaveOtherIds op) h w (other_ids h op q.0) (other_ids w op q.1)) t.own_ids;
      few_wait = t.few_wait;
      few = omega (arith, few, t.few);
    }

-- an operation that comes to wait
pub stands_waiting : (s : State) (op : Op) → IsSound s → IsNew s.most s.held op → length (s.held.waiting ++ op ∷ []) ≤ s.hold
    → IsSound (record s { held = record { history = s.held.history; waiting = s.held.waiting ++ op ∷ [] } })
stands_waiting s op t new within =
    let h : List Op = s.held.history in
    let w : List Op = s.held.waiting in
    let p = or_parts (has_op h op) (has_op w op) new.absent in
    let q = or_parts (id_held h (id_of op)) (id_held w (id_of op)) new.own_id in
    let few : length h + length w ≢ s.most = eqb-false _ _ new.below in
    let apart : All (λ x. op ≢ x) (h ++ w) = All-append (λ x. op ≢ x) h w (differs h op p.0) (differs w op p.1) in
    let others : All (HaveOtherIds op) (h ++ w) = All-append (HaveOtherIds op) h w (other_ids h op q.0) (other_ids w op q.1) in
    record {
      some_number = t.some_number;
      hold_within = t.hold_within;
      most_within = t.most_within;
      lawful = t.lawful;
      once = subst (AllPairs (λ (a b : Op). a ≢ b)) (append_assoc h w (op ∷ []))
          (all_pairs_push (λ (a b : Op). a ≢ b) (h ++ w) op t.once (λ k d below same. apart k d below (sym same)));
      own_ids = subst (AllPairs HaveOtherIds) (append_assoc h w (op ∷ []))
          (all_pairs_push HaveOtherIds (h ++ w) op t.own_ids (λ k d below i own other. others k d below i other own));
      few_wait = within;
      few = omega (arith, few, t.few, length-append w (op ∷ []));
    }

remove-behind : (h w : List Op) (k : ℕ) → remove (h ++ w) (length h + k) ≡ h ++ remove w k
remove-behind [] w k = ap (remove w) (omega arith)
remove-behind (o ∷ h) w k =
    let n : suc (length h) + k ≡ suc (length h + k) = omega arith in
    ap (remove (o ∷ (h ++ w))) n ∙ ap (λ (t : List Op). o ∷ t) (remove-behind h w k)

-- a member has the relation to the others
picked : (R : Op → Op → Type 0) → ((a b : Op) → R a b → R b a) → (xs : List Op) (n : ℕ) (op : Op) → slice_get xs n ≡ Some op → AllPairs R xs → All (R op) (remove xs n)
picked R turn [] n op at pairs = cc
picked R turn (x ∷ xs) zero op at pairs =
    let same : x ≡ op = cc at in
    subst (λ y. All (R y) xs) same (λ k d below. pairs 0 (suc k) d (omega arith) (omega (arith, below)))
picked R turn (x ∷ xs) (suc n) op at pairs =
    let here : R x (get_or xs n op) = pairs 0 (suc n) op (omega arith) (omega (arith, slice_get_within xs n op at)) in
    All-cons (R op) x (remove xs n) (turn x op (subst (R x) (get_or_from_slice_get xs n op op at) here))
    (picked R turn xs n op at (λ i j d less below. pairs (suc i) (suc j) d (omega (arith, less)) (omega (arith, below))))

slice_get-behind : (h w : List Op) (k : ℕ) (op : Op) → slice_get w k ≡ Some op → slice_get (h ++ w) (length h + k) ≡ Some op
slice_get-behind [] w k op at = ap (slice_get w) (omega arith) ∙ at
slice_get-behind (o ∷ h) w k op at =
    let n : suc (length h) + k ≡ suc (length h + k) = omega arith in
    ap (slice_get (o ∷ (h ++ w))) n ∙ slice_get-behind h w k op at

length-remove : (xs : List Op) (k : ℕ) → k < length xs → length xs ≡ suc (length (remove xs k))
length-remove [] k below = absurd (omega (arith, below))
length-remove (x ∷ xs) zero below = refl
length-remove (x ∷ xs) (suc k) below = ap suc (length-remove xs k (omega (arith, below)))

-- a waiting operation is dropped
pub stands_dropped : (s : State) (k : ℕ) → IsSound s → k < length s.held.waiting
    → IsSound (record s { held = record { history = s.held.history; waiting = remove s.held.waiting k } })
stands_dropped s k t below =
    let h : List Op = s.held.history in
    let w : List Op = s.held.waiting in
    let inside : length h + k < length (h ++ w) = omega (arith, below, length-append h w) in
    let shorter : length w ≡ suc (length (remove w k)) = length-remove w k below in
    record {
      some_number = t.some_number;
      hold_within = t.hold_within;
      most_within = t.most_within;
      lawful = t.lawful;
      once = subst (AllPairs (λ (a b : Op). a ≢ b)) (remove-behind h w k) (all_pairs_remove (λ (a b : Op). a ≢ b) (h ++ w) (length h + k) inside t.once);
      own_ids = subst (AllPairs HaveOtherIds) (remove-behind h w k) (all_pairs_remove HaveOtherIds (h ++ w) (length h + k) inside t.own_ids);
      few_wait = omega (arith, shorter, t.few_wait);
      few = omega (arith, shorter, t.few);
    }

-- a waiting operation is accepted
pub stands_joined : (s : State) (k : ℕ) (op : Op) → IsSound s → slice_get s.held.waiting k ≡ Some op → verdict s.held.history op ≡ Ready
    → IsSound (record s { held = record { history = op ∷ s.held.history; waiting = remove s.held.waiting k } })
stands_joined s k op t at ready =
    let h : List Op = s.held.history in
    let w : List Op = s.held.waiting in
    let below : k < length w = slice_get_within w k op at in
    let rest = stands_dropped s k t below in
    let shorter : length w ≡ suc (length (remove w k)) = length-remove w k below in
    let there = slice_get-behind h w k op at in
    record {
      some_number = t.some_number;
      hold_within = t.hold_within;
      most_within = t.most_within;
      lawful = (ready, t.lawful);
      once = AllPairs-cons (λ (a b : Op). a ≢ b) op (h ++ remove w k)
          (subst (All (λ x. op ≢ x)) (remove-behind h w k) (picked (λ (a b : Op). a ≢ b) (λ a b apart same. apart (sym same)) (h ++ w) (length h + k) op there t.once))
          rest.once;
      own_ids = AllPairs-cons HaveOtherIds op (h ++ remove w k)
          (subst (All (HaveOtherIds op)) (remove-behind h w k) (picked HaveOtherIds (λ a b others i own other. others i other own) (h ++ w) (length h + k) op there t.own_ids))
          rest.own_ids;
      few_wait = rest.few_wait;
      few = omega (arith, shorter, t.few);
    }

-- the histories are the same
pub stands_same : (s : State) (held : Held) → held ≡ s.held → IsSound s → IsSound (record s { held = held })
stands_same s held same t = subst (λ (x : Held). IsSound (record s { held = x })) (sym same) t

-- an operation whose answer is Accepted joined the history
pub stands_by_accept : (s : State) (new : List Op) (op : Op) → answer s.hold s.most s.held op ≡ Accepted → new ≡ op ∷ s.held.history → IsSound s
    → IsSound (record s { held = record { history = new; waiting = s.held.waiting } })
stands_by_accept s new op answered is t =
    subst (λ (h : List Op). IsSound (record s { held = record { history = h; waiting = s.held.waiting } })) (sym is)
    (stands_accepted s op t (kept_new s.hold s.most s.held op (ap is_kept answered)) (accepted_is_ready s.hold s.most s.held op answered))

-- an operation whose answer was to be looked up came to wait
pub stands_by_push : (s : State) (inbox new : OpenWaiting) (op : Op) → inbox.ops ≡ s.held.waiting → inbox.hold ≡ s.hold
    → answer s.hold s.most s.held op ≡ (if nat_eq (length s.held.waiting) s.hold then Full else Waits)
    → new ≡ record inbox { ops = inbox.ops ++ op ∷ [] } → length new.ops ≤ new.hold → IsSound s
    → IsSound (record s { held = record { history = s.held.history; waiting = new.ops } })
stands_by_push s inbox new op waits holds answered is within t =
    let ops : new.ops ≡ s.held.waiting ++ op ∷ [] = ap (λ (i : OpenWaiting). i.ops) is ∙ ap (λ (w : List Op). w ++ op ∷ []) waits in
    let hold : new.hold ≡ s.hold = ap (λ (i : OpenWaiting). i.hold) is ∙ holds in
    let longer : length new.ops ≡ length s.held.waiting + 1 = ap length ops ∙ length_push s.held.waiting op in
    let room : length s.held.waiting ≢ s.hold = λ full. absurd (omega (arith, full, longer, hold, within)) in
    let answered_waits : answer s.hold s.most s.held op ≡ Waits = answered ∙ ap (λ b. if b then Full else Waits) (ne_eqb _ _ room) in
    let fits : length (s.held.waiting ++ op ∷ []) ≤ s.hold = omega (arith, longer, ap length ops, hold, within) in
    subst (λ (w : List Op). IsSound (record s { held = record { history = s.held.history; waiting = w } })) (sym ops)
    (stands_waiting s op t (kept_new s.hold s.most s.held op (ap is_kept answered_waits)) fits)

-- an operation after a list that differs from its members is not in it
pub absent_before : (h rest : List Op) (k : ℕ) (x : Op) → slice_get rest k ≡ Some x → AllPairs (λ (a b : Op). a ≢ b) (h ++ rest) → has_op h x ≡ false
absent_before [] rest k x at pairs = refl
absent_before (o ∷ h) rest k x at pairs =
    let there = slice_get-behind h rest k x at in
    let apart : o ≢ get_or (h ++ rest) (length h + k) x =
    pairs 0 (suc (length h + k)) x (omega arith) (omega (arith, slice_get_within (h ++ rest) (length h + k) x there)) in
    or_from (op_eq o x) (has_op h x)
    (false_from_ne_true (op_eq o x) (λ same. apart (op_eq-true o x same ∙ sym (get_or_from_slice_get (h ++ rest) (length h + k) x x there))))
    (absent_before h rest k x at (λ i j d less below. pairs (suc i) (suc j) d (omega (arith, less)) (omega (arith, below))))

-- an identifier of an operation after a list whose members have others is not held by it
unheld_before : (h rest : List Op) (k : ℕ) (x : Op) (i : Identifier) → slice_get rest k ≡ Some x → id_of x ≡ Some i → AllPairs HaveOtherIds (h ++ rest) → holds h i ≡ false
unheld_before [] rest k x i at is pairs = refl
unheld_before (o ∷ h) rest k x i at is pairs =
    let there = slice_get-behind h rest k x at in
    let others : HaveOtherIds o (get_or (h ++ rest) (length h + k) x) =
    pairs 0 (suc (length h + k)) x (omega arith) (omega (arith, slice_get_within (h ++ rest) (length h + k) x there)) in
    holds-cons o h i
    ∙ or_from (is_own i o) (holds h i)
    (false_from_ne_true (is_own i o) (λ own. others i (origin_eq-true (id_of o) (Some i) own) (ap id_of (get_or_from_slice_get (h ++ rest) (length h + k) x x there) ∙ is)))
    (unheld_before h rest k x i at is (λ a b d less below. pairs (suc a) (suc b) d (omega (arith, less)) (omega (arith, below))))

pub id_unheld : (h rest : List Op) (k : ℕ) (x : Op) (o : Option Identifier) → slice_get rest k ≡ Some x → id_of x ≡ o → AllPairs HaveOtherIds (h ++ rest) → id_held h o ≡ false
id_unheld h rest k x None at is pairs = refl
id_unheld h rest k x (Some i) at is pairs = unheld_before h rest k x i at is pairs

open_line : (stray missing : Option Identifier) → IsOpen (first_line false false stray missing)
open_line (Some i) missing = tt
open_line None (Some i) = tt
open_line None None = tt

open_by : (again taken : Bool) (stray missing : Option Identifier) → again ≡ false → taken ≡ false → IsOpen (first_line again taken stray missing)
open_by true taken stray missing a t = absurd (true≢false a)
open_by false true stray missing a t = absurd (true≢false t)
open_by false false stray missing a t = open_line stray missing

open_verdict : (h : List Op) (x : Op) → has_op h x ≡ false → id_held h (id_of x) ≡ false → IsOpen (verdict h x)
unfolding verdict
open_verdict h x a t = open_by (has_op h x) (id_held h (id_of x)) (first_stray h (names x)) (first_missing h (names x)) a t

-- a waiting operation is never accepted already, and neither is another with its identifier
pub waiting_open : (s : State) → IsSound s → All (λ op. IsOpen (verdict s.held.history op)) s.held.waiting
waiting_open s t k d below =
    let at : slice_get s.held.waiting k ≡ Some (get_or s.held.waiting k d) = slice_get-get_or s.held.waiting k d below in
    open_verdict s.held.history (get_or s.held.waiting k d)
    (absent_before s.held.history s.held.waiting k (get_or s.held.waiting k d) at t.once)
    (id_unheld s.held.history s.held.waiting k (get_or s.held.waiting k d) (id_of (get_or s.held.waiting k d)) at refl t.own_ids)
