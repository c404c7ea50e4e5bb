-- Operations of a frame that join a log one after another, up to one that finds it full.
use Rattle.std.proofs.Common.{[], Bool, List, ap, arith, false, get_or, inl, inr, length, length-append, nat_eq, refl, subst, sym, true, ℕ, ◌++◌, ◌∙◌, ◌∷◌, ◌≡◌, ◌≢◌, ◌≤◌, ◌⊎◌}
use Rattle.std.specs.Prelude.{Err, IfOk, None, Ok, Option, Result, Some, if◌then◌else◌, is_some}
use Rattle.std.proofs.lemmas.Bool.{eq-eqb, eqb-true, true≢false}
use Rattle.std.proofs.lemmas.List.{append-nil}
use Rattle.fugue_ids.specs.declared.op.Op.{Op}
use Rattle.origin_model.specs.declared.grammar.Grammar.TheVariants.{Version2}
use Rattle.origin_model.specs.frames.Frames.{Single, frame}
use Rattle.origin_model.specs.relay.Session.{Taken, is_logged, log_joined, refusal_message, session_goes_on, session_refused}
use Rattle.op_frame.specs.FrameFronts.{IsFrameOf, IsOwnFrame}
use Rattle.op_frame.proofs.DecodingLemmas.{no_run}
use Rattle.relay_core.specs.Joins.{JoinsAll, JoinsFrame, JoinsOne}
use Rattle.relay_core.specs.Texts.{with_op, log_with_ops}

-- an operation, by whether its own frame is logged and whether the log is full, and then those after it
abbrev by_tests : (limit : ℕ) → List (List ℕ) → (cursor : ℕ) → (own : List ℕ) → List Op → (p q : Bool) → Taken
by_tests limit log cursor own ops p q = if p then log_joined limit log cursor ops else if q then session_refused log 2 else log_joined limit (log ++ own ∷ []) cursor ops

-- the log with a frame, by whether it is logged
abbrev with_own : List (List ℕ) → (own : List ℕ) → Bool → List (List ℕ)
with_own log own p = if p then log else log ++ own ∷ []

pub with_ops-append : (xs ys : List Op) (log : List (List ℕ)) → log_with_ops log (xs ++ ys) ≡ log_with_ops (log_with_ops log xs) ys
with_ops-append [] ys log = refl
with_ops-append (op ∷ xs) ys log = with_ops-append xs ys (with_op log op)

-- a log does not lose operations
longer : (p : Bool) (log : List (List ℕ)) (own : List ℕ) → length log ≤ length (with_own log own p)
longer true log own = omega arith
longer false log own = omega (arith, length-append log (own ∷ []))

pub grown : (log : List (List ℕ)) (ops : List Op) → length log ≤ length (log_with_ops log ops)
grown log [] = omega arith
grown log (op ∷ ops) = omega (arith, longer (is_logged log (frame op)) log (frame op), grown (with_op log op) ops)

-- an operation for which there is room
room_for : (limit cursor : ℕ) (log : List (List ℕ)) (own : List ℕ) (ops : List Op) (p q : Bool) → nat_eq (length log) limit ≡ q → length (with_own log own p) ≤ limit
    → by_tests limit log cursor own ops p q ≡ log_joined limit (with_own log own p) cursor ops
room_for limit cursor log own ops true q is room = refl
room_for limit cursor log own ops false true is room = absurd (omega (arith, room, eqb-true (length log) limit is, length-append log (own ∷ [])))
room_for limit cursor log own ops false false is room = refl

-- operations for which there is room, and then others
pub joined_past : (limit cursor : ℕ) (xs ys : List Op) (log : List (List ℕ)) → length (log_with_ops log xs) ≤ limit
    → log_joined limit log cursor (xs ++ ys) ≡ log_joined limit (log_with_ops log xs) cursor ys
joined_past limit cursor [] ys log room = refl
joined_past limit cursor (op ∷ xs) ys log room =
    room_for limit cursor log (frame op) (xs ++ ys) (is_logged log (frame op)) (nat_eq (length log) limit) refl (omega (arith, room, grown (with_op log op) xs))
    ∙ joined_past limit cursor xs ys (with_op log op) room

-- operations of a frame all join, also where others follow in later frames
pub all_join : (limit cursor : ℕ) (xs ys : List Op) (log : List (List ℕ)) → length (log_with_ops log (xs ++ ys)) ≤ limit
    → log_joined limit log cursor xs ≡ session_goes_on (log_with_ops log xs) cursor
all_join limit cursor xs ys log room =
    ap (log_joined limit log cursor) (sym (append-nil xs))
    ∙ joined_past limit cursor xs [] log (omega (arith, room, ap length (with_ops-append xs ys log), grown (log_with_ops log xs) ys))

-- an operation that a full log lacks is refused, and with it those after it
pub one_too_many : (limit cursor : ℕ) (before : List Op) (op : Op) (later : List Op) (log : List (List ℕ)) → is_logged (log_with_ops log before) (frame op) ≡ false
    → length (log_with_ops log before) ≡ limit
    → log_joined limit log cursor (before ++ op ∷ later) ≡ session_refused (log_with_ops log before) 2
one_too_many limit cursor before op later log lacks full =
    joined_past limit cursor before (op ∷ later) log (omega (arith, full))
    ∙ (λ i. by_tests limit (log_with_ops log before) cursor (frame op) later (lacks i) (eq-eqb (length (log_with_ops log before)) limit full i))

-- one of the operations finds the log full
pub record IsRefused (limit : ℕ) (log : List (List ℕ)) (ops : List Op) : Type 0 where
  pub before : List Op
  pub op : Op
  pub later : List Op
  pub split : ops ≡ before ++ op ∷ later
  pub lacks : is_logged (log_with_ops log before) (frame op) ≡ false
  pub full : length (log_with_ops log before) ≡ limit

-- operations all join, or one of them finds the log full
pub all_or_refused : (limit : ℕ) (ops : List Op) (log : List (List ℕ)) → length log ≤ limit → (length (log_with_ops log ops) ≤ limit) ⊎ IsRefused limit log ops
all_or_refused limit [] log room = inl room
all_or_refused limit (op ∷ ops) log room = by (is_logged log (frame op)) (nat_eq (length log) limit) refl refl (λ fits. next (all_or_refused limit ops (with_op log op) fits))
  where
    own : List ℕ
    own = frame op

    next : (length (log_with_ops (with_op log op) ops) ≤ limit) ⊎ IsRefused limit (with_op log op) ops
        → (length (log_with_ops log (op ∷ ops)) ≤ limit) ⊎ IsRefused limit log (op ∷ ops)
    next (inl fits) = inl fits
    next (inr f) = inr (record { before = op ∷ f.before; op = f.op; later = f.later; split = ap (λ (l : List Op). op ∷ l) f.split; lacks = f.lacks; full = f.full })

    by : (p q : Bool) → is_logged log own ≡ p → nat_eq (length log) limit ≡ q
        → (length (with_op log op) ≤ limit → (length (log_with_ops log (op ∷ ops)) ≤ limit) ⊎ IsRefused limit log (op ∷ ops))
        → (length (log_with_ops log (op ∷ ops)) ≤ limit) ⊎ IsRefused limit log (op ∷ ops)
    by true q is full more = more (subst (λ (b : Bool). length (with_own log own b) ≤ limit) (sym is) room)
    by false true is full more = inr (record { before = []; op = op; later = ops; split = refl; lacks = is; full = eqb-true (length log) limit full })
    by false false is full more =
        let other : length log ≢ limit = λ e. true≢false (sym (eq-eqb (length log) limit e) ∙ full) in
        more (subst (λ (b : Bool). length (with_own log own b) ≤ limit) (sym is) (omega (arith, room, other, length-append log (own ∷ []))))

-- what one operation does to the log, by its own frame: it is there already
pub joins_logged : (limit : ℕ) (log : List (List ℕ)) (own : List ℕ) → is_logged log own ≡ true → JoinsOne limit log own log None
joins_logged limit log own is op cursor left same = ap (λ (p : Bool). by_tests limit log cursor (frame op) left p (nat_eq (length log) limit)) (ap (is_logged log) (sym same) ∙ is)

-- the log is full
pub joins_full : (limit : ℕ) (log : List (List ℕ)) (own : List ℕ) → is_logged log own ≡ false → length log ≡ limit → JoinsOne limit log own log (Some (refusal_message 2))
joins_full limit log own lacks full op cursor left same =
    let e : is_logged log (frame op) ≡ false = ap (is_logged log) (sym same) ∙ lacks in λ i. by_tests limit log cursor (frame op) left (e i) (eq-eqb (length log) limit full i)

-- there is room
pub joins_new : (limit : ℕ) (log : List (List ℕ)) (own : List ℕ) → is_logged log own ≡ false → length log ≢ limit → JoinsOne limit log own (log ++ own ∷ []) None
joins_new limit log own lacks other op cursor left same =
    let e : is_logged log (frame op) ≡ false = ap (is_logged log) (sym same) ∙ lacks in
    (λ i. by_tests limit log cursor (frame op) left (e i) (apart (nat_eq (length log) limit) refl i)) ∙ ap (λ (f : List ℕ). log_joined limit (log ++ f ∷ []) cursor left) (sym same)
  where
    apart : (q : Bool) → nat_eq (length log) limit ≡ q → nat_eq (length log) limit ≡ false
    apart true is = absurd (other (eqb-true (length log) limit is))
    apart false is = is

-- a frame that is no run's is its operation's own
pub joins_single : {E : Type 0} (limit : ℕ) (old : List (List ℕ)) (bytes : List ℕ) (new : List (List ℕ)) (result : Result (Option (List ℕ)) E) → IsFrameOf Version2 bytes
    → (get_or bytes 0 0 ≡ 4 → ⊥)
    → IfOk result (λ reply. JoinsOne limit old bytes new reply) → IfOk result (λ reply. JoinsFrame limit old bytes new [] reply)
joins_single limit old bytes new (Ok reply) f other one =
    let own : IsOwnFrame bytes = no_run bytes f other in
    record { ops = own.0 ∷ []; is_frame = record { item = Single own.0; is_item = own.1; bytes_are = own.2; ops_are = refl }; joins = λ cursor. one own.0 cursor [] own.2 }
joins_single limit old bytes new (Err e) f other one = one

-- one operation more of those that are left
pub joins_more : (limit : ℕ) (old : List (List ℕ)) (ops : List Op) (now new : List (List ℕ)) (before left : List Op) (op : Op) (own : List ℕ) (reply : Option (List ℕ))
    → JoinsAll limit old ops now before None
    → before ≡ op ∷ left → own ≡ frame op → is_some reply ≡ false → JoinsOne limit now own new reply → JoinsAll limit old ops new left None
joins_more limit old ops now new before left op own None h given is goes one cursor = h cursor ∙ ap (log_joined limit now cursor) given ∙ one op cursor left is
joins_more limit old ops now new before left op own (Some r) h given is goes one cursor = absurd (true≢false goes)
