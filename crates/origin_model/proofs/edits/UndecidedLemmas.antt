-- The operations of an edit decide nothing that waits.
use Rattle.origin_model.proofs.Words.{All, All-cons, All-head, All-nil, All-tail, Bool, Delete, Identifier, List, None, Op, Option, Role, Section, Some, Text, [], all_before}
use Rattle.origin_model.proofs.Words.{all_after, all_from_contains, all_from_map, arith, catalogue, drop, false, false≢true, first_line, first_missing, first_stray, fits}
use Rattle.origin_model.proofs.Words.{flat_map, has_op, id_held, id_of, if◌then◌else◌, is_own, map, names, op_eq, option_to_list, or_right, refl, shown, slice_get, suc, take, true}
use Rattle.origin_model.proofs.Words.{verdict, within, ℕ, ◌∙◌, ◌∷◌, ◌≡◌, ◌≤◌}
use Rattle.std.proofs.Math.Nat.{le_refl}
use Rattle.std.proofs.lemmas.List.Elements.{All-map}
use Rattle.origin_model.specs.edits.Edits.{Add, Command, Cut, DropSection, Put, cut_in, deletes_of, history_with, id_at, left_for, made, next_counter, put_in, right_for}
use Rattle.origin_model.specs.edits.Edits.{typed_texts}
use Rattle.origin_model.specs.operations.Counters.{mentioned_ids}
use Rattle.origin_model.specs.taking.Taking.{IsSettled, decided_on, is_decided}
use Rattle.origin_model.proofs.edits.FreshIdLemmas.{BelowAll, IsUnknown, delete_unknown, new_unknown, waiting_below}
use Rattle.origin_model.proofs.operations.LookupLemmas.{holder-other, holds-older}

-- the operation's own identifier is none of the names
abbrev Apart : Op → List (Identifier × Role) → Type 0
Apart op ns = All (λ n. is_own n.0 op ≡ false) ns

-- then they are found as before
stray_same : (op : Op) (h : List Op) (ns : List (Identifier × Role)) → Apart op ns → first_stray (op ∷ h) ns ≡ first_stray h ns
stray_same op h [] a = refl
stray_same op h (n ∷ ns) a =
    let rest = stray_same op h ns (All-tail (λ n. is_own n.0 op ≡ false) n ns a) in
    λ i. elim (holder-other op h n.0 (All-head (λ n. is_own n.0 op ≡ false) n ns a) i) [ None ↦ rest i | Some o ↦ if fits n.1 o then rest i else Some n.0 ]

-- nor is another one missing
missing_same : (op : Op) (h : List Op) (ns : List (Identifier × Role)) → Apart op ns → first_missing (op ∷ h) ns ≡ first_missing h ns
missing_same op h [] a = refl
missing_same op h (n ∷ ns) a =
    let rest = missing_same op h ns (All-tail (λ n. is_own n.0 op ≡ false) n ns a) in
    λ i. elim (holder-other op h n.0 (All-head (λ n. is_own n.0 op ≡ false) n ns a) i) [ None ↦ Some n.0 | Some o ↦ rest i ]

-- an operation or an identifier that comes to be there decides nothing
undecided_line : (b c d e : Bool) (s m : Option Identifier) → (b ≡ true → d ≡ true) → (c ≡ true → e ≡ true) → is_decided (first_line b c s m) ≡ false
    → is_decided (first_line d e s m) ≡ false
undecided_line b c true e s m f g k = refl
undecided_line b c false true s m f g k = refl
undecided_line true c false false s m f g k = absurd (false≢true (f refl))
undecided_line false true false false s m f g k = absurd (false≢true (g refl))
undecided_line false false false false s m f g k = k

-- what is held stays held
id_stays : (op : Op) (h : List Op) (o : Option Identifier) → id_held h o ≡ true → id_held (op ∷ h) o ≡ true
id_stays op h None e = e
id_stays op h (Some i) e = holds-older op h i e

-- an operation that another does not speak of does not decide it
undecided_one : (op : Op) (h : List Op) (o : Op) → All (λ i. is_own i op ≡ false) (mentioned_ids o) → decided_on h o ≡ false → decided_on (op ∷ h) o ≡ false
unfolding verdict
undecided_one op h o a e =
    let P : Identifier → Type 0 = λ i. is_own i op ≡ false in
    let apart : Apart op (names o) = all_from_map (λ named. named.0) P (names o) (all_after P (option_to_list (id_of o)) (map (λ named. named.0) (names o)) a) in
    (λ i. is_decided (first_line (has_op (op ∷ h) o) (id_held (op ∷ h) (id_of o)) (stray_same op h (names o) apart i) (missing_same op h (names o) apart i)))
    ∙ undecided_line (has_op h o) (id_held h (id_of o)) (has_op (op ∷ h) o) (id_held (op ∷ h) (id_of o)) (first_stray h (names o)) (first_missing h (names o))
    (or_right (op_eq op o) (has_op h o)) (id_stays op h (id_of o)) e

-- nothing that waits is Ready or Stray
abbrev pub Undecided : List Op → List Op → Type 0
Undecided h w = All (λ op. decided_on h op ≡ false) w

-- so it is of all that waits
pub stays : (op : Op) (h w : List Op) → IsUnknown w op → Undecided h w → Undecided (op ∷ h) w
stays op h w u a = each w u.1 a
  where
    each : (w : List Op) → All (λ i. is_own i op ≡ false) (flat_map mentioned_ids w) → Undecided h w → Undecided (op ∷ h) w
    each [] u a = All-nil (λ o. decided_on (op ∷ h) o ≡ false)
    each (o ∷ w) u a =
        let P : Identifier → Type 0 = λ i. is_own i op ≡ false in
        let rest = each w (all_after P (mentioned_ids o) (flat_map mentioned_ids w) u) (All-tail (λ z. decided_on h z ≡ false) o w a) in
        All-cons (λ z. decided_on (op ∷ h) z ≡ false) o w
        (undecided_one op h o (all_before P (mentioned_ids o) (flat_map mentioned_ids w) u) (All-head (λ z. decided_on h z ≡ false) o w a)) rest

-- typed texts are unknown
typed_unknown : (chs : List ℕ) (r c n : ℕ) (s : Identifier) (l q : Option Identifier) (w : List Op) → BelowAll r c w → c ≤ n → All (IsUnknown w) (typed_texts r n s l q chs)
typed_unknown [] r c n s l q w b k = All-nil (IsUnknown w)
typed_unknown (ch ∷ chs) r c n s l q w b k =
    All-cons (IsUnknown w) (Text (id_at r n) s l q ch) (typed_texts r (suc n) s (Some (id_at r n)) q chs)
    (new_unknown r c n w (Text (id_at r n) s l q ch) refl b k) (typed_unknown chs r c (suc n) s (Some (id_at r n)) q w b (omega (arith, k)))

-- so are Deletes
deletes_unknown : (xs : List Identifier) (w : List Op) → All (IsUnknown w) (deletes_of xs)
deletes_unknown xs w = All-map (IsUnknown w) (λ x. Delete x) xs (all_from_contains (λ x. IsUnknown w (Delete x)) xs (λ x m. delete_unknown w x))

-- so are the operations of each edit
pub made_unknown : (r : ℕ) (h w : List Op) (command : Command) → All (IsUnknown w) (made r h w command)
made_unknown r h w (Put k at new) =
    let c : ℕ = next_counter r h w in
    elim (slice_get (shown catalogue h) k) as (λ z. All (IsUnknown w) (elim z [ None ↦ [] | Some s ↦ put_in r h w s at new ])) [
      | None ↦ All-nil (IsUnknown w)
      | Some s ↦ typed_unknown new r c c s (left_for (within s) h at) (right_for (within s) h at) w (waiting_below r h w) (le_refl c)
    ]
made_unknown r h w (Cut k at n) =
    elim (slice_get (shown catalogue h) k) as (λ z. All (IsUnknown w) (elim z [ None ↦ [] | Some s ↦ cut_in h s at n ])) [
      | None ↦ All-nil (IsUnknown w)
      | Some s ↦ deletes_unknown (take n (drop at (shown (within s) h))) w
    ]
made_unknown r h w (Add at title) =
    let c : ℕ = next_counter r h w in
    let op : Op = Section (id_at r c) (left_for catalogue h at) (right_for catalogue h at) title in
    All-cons (IsUnknown w) op [] (new_unknown r c c w op refl (waiting_below r h w) (le_refl c)) (All-nil (IsUnknown w))
made_unknown r h w (DropSection k) =
    elim (slice_get (shown catalogue h) k) as (λ z. All (IsUnknown w) (elim z [ None ↦ [] | Some s ↦ Delete s ∷ [] ])) [
      | None ↦ All-nil (IsUnknown w)
      | Some s ↦ deletes_unknown (s ∷ []) w
    ]

-- unknown operations decide nothing, one after another
pub all_stay : (ops h w : List Op) → All (IsUnknown w) ops → Undecided h w → Undecided (history_with h ops) w
all_stay [] h w u a = a
all_stay (op ∷ ops) h w u a = all_stay ops (op ∷ h) w (All-tail (IsUnknown w) op ops u) (stays op h w (All-head (IsUnknown w) op ops u) a)

-- what waits stays undecided
pub stays_undecided : (r : ℕ) (h w : List Op) (command : Command) → IsSettled (record { history = h; waiting = w })
    → IsSettled (record { history = history_with h (made r h w command); waiting = w })
stays_undecided r h w command s = all_stay (made r h w command) h w (made_unknown r h w command) s
