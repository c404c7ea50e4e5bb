-- A note of a replica: it is Ready where its names are held, decides nothing that waits, and changes nothing that is shown.
use Rattle.origin_model.proofs.Words.{All, All-cons, All-head, All-nil, All-tail, Bool, Identifier, if◌then◌else◌, ◌-◌, ◌^◌, ◌&&◌, ◌≢◌, Lawful, List, None, Note, Op, Place, Ready}
use Rattle.origin_model.proofs.Words.{Some, [], ap, filter, holds, id_eq-refl, is_hidden, length, not, order, refl, shown, subst, sym, true, false, verdict, ℕ, ◌+◌, ◌∷◌, ◌≡◌, ◌≤◌}
use Rattle.origin_model.proofs.Words.{map, names}
use Rattle.std.specs.Prelude.{nat_lt}
use Rattle.std.proofs.Math.Nat.{le_refl}
use Rattle.origin_model.specs.declared.operations.Role.TheVariants.{Any}
use Rattle.origin_model.specs.edits.Edits.{id_at, next_counter, noted}
use Rattle.origin_model.specs.edits.Effect.{with_ops}
use Rattle.origin_model.specs.edits.Noting.{AreHeld, ShowsAsBefore, note_by, note_refusal}
use Rattle.origin_model.specs.edits.Refusal.{held_count, next_of_own}
use Rattle.origin_model.specs.declared.edit_fault.EditFault.{EditFault}
use Rattle.origin_model.specs.declared.edit_fault.EditFault.TheVariants.{IdsSpent, NoSection, OutOfRange, TooMany}
use Rattle.origin_model.specs.edits.State.{State}
use Rattle.origin_model.specs.taking.Taking.{IsSettled}
use Rattle.origin_model.proofs.edits.EditIntakeLemmas.{Comes, IsTakenIn, comes, takes}
use Rattle.origin_model.proofs.edits.FreshIdLemmas.{IsUnknown, history_below, new_unknown, none_from, waiting_below}
use Rattle.origin_model.proofs.edits.PutLemmas.{new_op}
use Rattle.origin_model.proofs.edits.RefusalLemmas.{elements_fit}
use Rattle.origin_model.proofs.operations.CauseLemmas.{becomes_ready}
use Rattle.origin_model.proofs.operations.LookupLemmas.{Fits, all_fit, found}
use Rattle.origin_model.proofs.order.{order-none}

-- names that are held fit a note
names_fit : (h : List Op) (named : List Identifier) → AreHeld h named → All (Fits h) (map (λ i. (i, Any)) named)
names_fit h [] a = All-nil (Fits h)
names_fit h (i ∷ named) a =
    let o = found _ (All-head (λ i. holds h i ≡ true) i named a) in
    All-cons (Fits h) (i, Any) (map (λ i. (i, Any)) named) (o.0, o.1, refl) (names_fit h named (All-tail (λ i. holds h i ≡ true) i named a))

-- a note whose identifier is new and whose names are held is Ready
pub note_ready : (h : List Op) (id : Identifier) (named : List Identifier) (code : ℕ) (body : List ℕ) → Lawful h → holds h id ≡ false → AreHeld h named
    → verdict h (Note id named code body) ≡ Ready
note_ready h id named code body w new held =
    let op : Op = Note id named code body in
    let f = all_fit h (names op) (names_fit h named held) in
    becomes_ready h op (new_op h op id w refl (id_eq-refl id) new) new f.0 f.1

-- a note leaves the order of each place
pub note_orders : (p : Place) (id : Identifier) (named : List Identifier) (code : ℕ) (body : List ℕ) (h : List Op) → order p (Note id named code body ∷ h) ≡ order p h
note_orders p id named code body h = order-none p (Note id named code body) h refl

-- and what is shown of it
pub note_shown : (p : Place) (id : Identifier) (named : List Identifier) (code : ℕ) (body : List ℕ) (h : List Op) → shown p (Note id named code body ∷ h) ≡ shown p h
note_shown p id named code body h = ap (filter (λ x. not (is_hidden h x))) (note_orders p id named code body h)

-- the note of a replica has an identifier that is new
noted_new : (r : ℕ) (h w : List Op) → holds h (id_at r (next_counter r h w)) ≡ false
noted_new r h w = none_from r (next_counter r h w) h (history_below r h w) (next_counter r h w) (le_refl (next_counter r h w))

-- so it is Ready where its names are held
pub noted_ready : (r : ℕ) (h w : List Op) (named : List Identifier) (code : ℕ) (body : List ℕ) → Lawful h → AreHeld h named → verdict h (noted h w r named code body) ≡ Ready
noted_ready r h w named code body l held = note_ready h (id_at r (next_counter r h w)) named code body l (noted_new r h w) held

-- nothing that waits has or names its identifier
pub noted_unknown : (r : ℕ) (h w : List Op) (named : List Identifier) (code : ℕ) (body : List ℕ) → IsUnknown w (noted h w r named code body)
noted_unknown r h w named code body =
    new_unknown r (next_counter r h w) (next_counter r h w) w (noted h w r named code body) refl (waiting_below r h w) (le_refl (next_counter r h w))

-- it comes in its turn, and decides nothing that waits
pub noted_comes : (r : ℕ) (h w : List Op) (named : List Identifier) (code : ℕ) (body : List ℕ) → Lawful h → IsSettled (record { history = h; waiting = w }) → AreHeld h named
    → Comes w h (noted h w r named code body ∷ [])
noted_comes r h w named code body l settled held =
    comes (noted h w r named code body ∷ []) h w settled (noted_ready r h w named code body l held, tt)
    (All-cons (IsUnknown w) (noted h w r named code body) [] (noted_unknown r h w named code body) (All-nil (IsUnknown w)))

-- on a settled state with room, making a note is taking it in
pub note_is_taken_in : (hold most r : ℕ) (h w : List Op) (named : List Identifier) (code : ℕ) (body : List ℕ) → Lawful h → IsSettled (record { history = h; waiting = w })
    → AreHeld h named
    → length h + length w + 1 ≤ most → IsTakenIn hold most h w (noted h w r named code body ∷ [])
note_is_taken_in hold most r h w named code body l settled held room =
    takes hold most (noted h w r named code body ∷ []) h w settled (noted_comes r h w named code body l settled held) room

-- what is shown is as before
pub noted_shows : (old new : State) (named : List Identifier) (code : ℕ) (body : List ℕ) → new ≡ with_ops old (note_by old named code body ∷ []) → ShowsAsBefore old new
noted_shows old new named code body is =
    let id : Identifier = id_at old.number (next_counter old.number old.held.history old.held.waiting) in
    subst (λ s. ShowsAsBefore old s) (sym is) (record {
      orders = λ p. note_orders p id named code body old.held.history;
      lists = λ p. note_shown p id named code body old.held.history;
    })

-- where nothing changed, so is what is shown
pub unchanged_shows : (old new : State) → new ≡ old → ShowsAsBefore old new
unchanged_shows old new is = subst (λ s. ShowsAsBefore old s) (sym is) (record { orders = λ p. refl; lists = λ p. refl })

-- a note that is not refused is not too many
pub note_fits : (s : State) → note_refusal s ≡ None → held_count s + 1 ≤ s.most
note_fits s e = elements_fit s 1 e

-- of two causes that have no position, the first
without_position : (b c : Bool) (greatest held : ℕ) (fault : EditFault) → (if b then Some (IdsSpent greatest) else (if c then Some (TooMany held) else None)) ≡ Some fault
    → (fault ≢ NoSection) × (fault ≢ OutOfRange)
without_position true c greatest held fault e = let same : IdsSpent greatest ≡ fault = cc e in ((λ d. cc (same, d)), (λ d. cc (same, d)))
without_position false true greatest held fault e = let same : TooMany held ≡ fault = cc e in ((λ d. cc (same, d)), (λ d. cc (same, d)))
without_position false false greatest held fault e = cc e

-- a note is never refused for a section or a position
pub note_without_position : (s : State) (fault : EditFault) → note_refusal s ≡ Some fault → (fault ≢ NoSection) × (fault ≢ OutOfRange)
note_without_position s fault e =
    without_position (nat_lt 0 1 && nat_lt (2 ^ 32) (next_of_own s + 1)) (nat_lt s.most (held_count s + 1)) (next_of_own s - 1) (held_count s) fault e
