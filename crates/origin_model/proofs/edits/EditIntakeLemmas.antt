-- On a settled state an edit is the taking in of its operations: each is accepted, and nothing that waits is decided.
use Rattle.origin_model.proofs.Words.{All, All-head, All-tail, List, Op, Ready, [], ap, arith, false, false_from_ne_true, has_op, id_held, id_of, if◌then◌else◌, length, nat_eq}
use Rattle.origin_model.proofs.Words.{ne_eqb, refl, sym, true≢false, verdict, ℕ, ◌+◌, ◌||◌, ◌∙◌, ◌∷◌, ◌≡◌, ◌≤◌}
use Rattle.origin_model.specs.edits.Edits.{Command, ReadyInTurn, history_with, made}
use Rattle.origin_model.specs.taking.Taking.{Accepted, Again, IsSettled, Conflict, Held, answer, answer_by, held_from, intake, is_again, is_decided, is_kept, is_taken, kept_from}
use Rattle.origin_model.specs.taking.Taking.{settle, held_after}
use Rattle.origin_model.proofs.edits.FreshIdLemmas.{IsUnknown}
use Rattle.origin_model.proofs.edits.UndecidedLemmas.{Undecided, made_unknown, stays}
use Rattle.origin_model.proofs.operations.CauseLemmas.{ready_absent}
use Rattle.origin_model.proofs.operations.LookupLemmas.{when_ready}
use Rattle.origin_model.proofs.taking.SettlingLemmas.{settle-settled, undecided_found}

-- taking in the operations gives the state that the edit leaves, and all are kept
pub record IsTakenIn (hold most : ℕ) (h w ops : List Op) : Type 0 where
  pub state : held_from hold most (record { history = h; waiting = w }) ops ≡ record { history = history_with h ops; waiting = w }
  pub all_kept : kept_from hold most (record { history = h; waiting = w }) ops ≡ ops

-- the state of a history and of what waits
abbrev pub state_of : List Op → List Op → Held
state_of h w = record { history = h; waiting = w }

-- a Ready operation does not wait
pub not_waiting : (h w : List Op) (op : Op) → Undecided h w → verdict h op ≡ Ready → has_op w op ≡ false
not_waiting h w op a r = false_from_ne_true _ (λ t. true≢false (sym (ap is_decided r) ∙ undecided_found h w a op t))

-- a Ready operation whose identifier does not wait is accepted where there is room
pub accepts : (hold most : ℕ) (h w : List Op) (op : Op) → Undecided h w → verdict h op ≡ Ready → id_held w (id_of op) ≡ false → nat_eq (length h + length w) most ≡ false
    → answer hold most (state_of h w) op ≡ Accepted
accepts hold most h w op a r n room =
    let again : is_again (state_of h w) op ≡ false = λ i. ready_absent h op r i || not_waiting h w op a r i in
    let clash : is_taken (state_of h w) op ≡ false = λ i. (when_ready h op r).fresh i || n i in
    λ i. if again i then Again else if clash i then Conflict else answer_by (room i) (nat_eq (length w) hold) (r i)

-- each operation is Ready in its turn, its identifier does not wait, and nothing is decided by it
abbrev pub Comes : List Op → List Op → List Op → Type 0
Comes w h [] = Unit {0}
Comes w h (op ∷ ops) = (verdict h op ≡ Ready) × (id_held w (id_of op) ≡ false) × Undecided (op ∷ h) w × Comes w (op ∷ h) ops

-- unknown operations that are Ready in turn come so
pub comes : (ops h w : List Op) → Undecided h w → ReadyInTurn h ops → All (IsUnknown w) ops → Comes w h ops
comes [] h w a r n = tt
comes (op ∷ ops) h w a r n =
    let new : IsUnknown w op = All-head (IsUnknown w) op ops n in
    let later = stays op h w new a in
    (r.0, new.0, later, comes ops (op ∷ h) w later r.1 (All-tail (IsUnknown w) op ops n))

-- the operations of an edit come so
pub made_comes : (r : ℕ) (h w : List Op) (command : Command) → Undecided h w → ReadyInTurn h (made r h w command) → Comes w h (made r h w command)
made_comes r h w command a e = comes (made r h w command) h w a e (made_unknown r h w command)

-- such operations are taken in one after another
pub takes : (hold most : ℕ) (ops h w : List Op) → Undecided h w → Comes w h ops → length h + length w + length ops ≤ most → IsTakenIn hold most h w ops
takes hold most [] h w a c l = record { state = refl; all_kept = refl }
takes hold most (op ∷ ops) h w a c l =
    let room : nat_eq (length h + length w) most ≡ false = ne_eqb (length h + length w) most (λ e. omega (arith, e, l)) in
    let ok : answer hold most (state_of h w) op ≡ Accepted = accepts hold most h w op a c.0 c.1 room in
    let next : intake hold most (state_of h w) op ≡ state_of (op ∷ h) w = ap (λ z. settle (held_after z (state_of h w) op)) ok ∙ settle-settled (state_of (op ∷ h) w) c.2 in
    let rest = takes hold most ops (op ∷ h) w c.2 c.3 (omega (arith, l)) in
    record {
      state = ap (λ s. held_from hold most s ops) next ∙ rest.state;
      all_kept = (λ i. if is_kept (ok i) then op ∷ kept_from hold most (next i) ops else kept_from hold most (next i) ops) ∙ ap (λ z. op ∷ z) rest.all_kept;
    }

-- on a settled state with room, an edit is the taking in of its operations
pub edits_are_taken_in : (hold most r : ℕ) (h w : List Op) (command : Command) → IsSettled (record { history = h; waiting = w })
    → ReadyInTurn h (made r h w command) → length h + length w + length (made r h w command) ≤ most
    → IsTakenIn hold most h w (made r h w command)
edits_are_taken_in hold most r h w command a e l = takes hold most (made r h w command) h w a (made_comes r h w command a e) l
