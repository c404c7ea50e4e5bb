-- The marks of the waiting operations: how many are set, and what they say of those that wait.
use Rattle.std.proofs.Common.{◌≡◌, ◌<◌, ◌≤◌, refl, sym, ap, ◌∙◌, ◌+◌, ◌-◌, ℕ, suc, min, List, [], ◌∷◌, ◌++◌, length, Bool, true, false, not, ltb, set, take, drop, get_or, inl, inr}
use Rattle.std.proofs.Common.{arith}
use Rattle.std.specs.Prelude.{Option, Some, None, All, cond, count_by, position, remove, slice_get}
use Rattle.std.proofs.lemmas.Option.{get_or_from_slice_get, slice_get_within}
use Rattle.std.specs.List.{position_or_len}
use Rattle.std.proofs.lemmas.Bool.{cases_eq, cases_lt}
use Rattle.std.proofs.lemmas.List.{get_or-set_other, get_or-set_same, get_or_append_left, length-map, length-set, map-append, take-map, drop-map}
use Rattle.std.proofs.lemmas.List.Edits.{get_or-remove_above, get_or-remove_below, length-remove}
use Rattle.std.proofs.lemmas.List.Elements.{All-nil, All-cons, All-head, All-tail, All-map}
use Rattle.std.proofs.lemmas.List.Sums.{count_by-le-length, get_or-le-sum_by, sum_by-cons, sum_by-remove, sum_by-set, sum_by_push}
use Rattle.fugue_ids.specs.declared.op.Op.{Op}
use Rattle.origin_model.specs.taking.Taking.{decided_on}
use Rattle.replica_core.specs.Due.{IsClearBefore, due_marks}

count-cons : (mark : Bool) (marks : List Bool) → count_by (λ m. m) (mark ∷ marks) ≡ cond mark 1 0 + count_by (λ m. m) marks
count-cons mark marks = sum_by-cons (λ m. cond m 1 0) mark marks

-- where none is counted, none is set
pub clear_if : (marks : List Bool) → count_by (λ m. m) marks ≡ 0 → All (λ m. m ≡ false) marks
clear_if [] none = All-nil (λ m. m ≡ false)
clear_if (true ∷ marks) none = absurd (omega (arith, none, count-cons true marks))
clear_if (false ∷ marks) none = All-cons (λ m. m ≡ false) false marks refl (clear_if marks (omega (arith, none, count-cons false marks)))

-- where none is set, none is counted
pub none_counted : (marks : List Bool) → All (λ m. m ≡ false) marks → count_by (λ m. m) marks ≡ 0
none_counted [] clear = refl
none_counted (mark ∷ marks) clear =
    let front : mark ≡ false = All-head (λ m. m ≡ false) mark marks clear in
    let rest : count_by (λ m. m) marks ≡ 0 = none_counted marks (All-tail (λ m. m ≡ false) mark marks clear) in
    count-cons mark marks ∙ (rw (front, rest) refl)

-- a mark that is counted
pub counted_at : (marks : List Bool) (p : ℕ) → p < length marks → cond (get_or marks p false) 1 0 ≤ count_by (λ m. m) marks
counted_at marks p within = get_or-le-sum_by (λ m. cond m 1 0) marks p false within

-- the count after a mark is set or not
pub counted_put : (marks : List Bool) (p : ℕ) (mark : Bool) → p < length marks
    → count_by (λ m. m) (set marks p mark) + cond (get_or marks p false) 1 0 ≡ count_by (λ m. m) marks + cond mark 1 0
counted_put marks p mark within = sum_by-set (λ m. cond m 1 0) marks p mark false within

-- one mark less counts as one that is not set
pub counted_removed : (marks : List Bool) (p : ℕ) → p < length marks → count_by (λ m. m) (set marks p false) ≡ count_by (λ m. m) (remove marks p)
counted_removed marks p within = omega (arith, counted_put marks p false within, sum_by-remove (λ m. cond m 1 0) marks p false within)

-- one more that is not set is not counted
pub counted_pushed : (marks : List Bool) → count_by (λ m. m) (marks ++ false ∷ []) ≡ count_by (λ m. m) marks
counted_pushed marks = omega (arith, sum_by_push (λ m. cond m 1 0) marks false)

-- the marks in front after one is set or not
pub clear_put : (marks : List Bool) (clear n p : ℕ) (mark : Bool) → IsClearBefore clear marks → clear ≤ length marks → n ≡ cond mark (min clear p) clear
    → IsClearBefore n (set marks p mark)
clear_put marks clear n p true front within is k below =
    get_or-set_other marks p k true false (λ same. omega (arith, is, below, same)) ∙ front k (omega (arith, is, below))
clear_put marks clear n p false front within is k below = elim (cases_eq k p) [
  | inl same ↦ ap (λ j. get_or (set marks p false) j false) same ∙ get_or-set_same marks p false false (omega (arith, is, below, within, same))
  | inr other ↦ get_or-set_other marks p k false false other ∙ front k (omega (arith, is, below))
]

-- they are marks that are there
pub clear_within : (marks put : List Bool) (clear n p : ℕ) (mark : Bool) → clear ≤ length marks → n ≡ cond mark (min clear p) clear → put ≡ set marks p mark → n ≤ length put
clear_within marks put clear n p true within is same = omega (arith, within, is, ap length same, length-set marks p true)
clear_within marks put clear n p false within is same = omega (arith, within, is, ap length same, length-set marks p false)

-- the marks in front with one mark less
pub clear_removed : (marks : List Bool) (clear n p : ℕ) → IsClearBefore clear marks → p < length marks → (p < clear → n ≡ clear - 1) → (clear ≤ p → n ≡ clear)
    → IsClearBefore n (remove marks p)
clear_removed marks clear n p front within before behind k below = elim (cases_lt p clear) [
  | inl in_front ↦ elim (cases_lt k p) [
    | inl lower ↦ get_or-remove_below marks p false k lower within ∙ front k (omega (arith, lower, in_front))
    | inr higher ↦ get_or-remove_above marks p false k higher within ∙ front (k + 1) (omega (arith, below, before in_front))
  ]
  | inr past ↦ get_or-remove_below marks p false k (omega (arith, below, behind past, past)) within ∙ front k (omega (arith, below, behind past))
]

-- they are marks that are left
pub clear_left : (marks left : List Bool) (clear n p : ℕ) → clear ≤ length marks → p < length marks → (p < clear → n ≡ clear - 1) → (clear ≤ p → n ≡ clear) → left ≡ remove marks p
    → n ≤ length left
clear_left marks left clear n p within there before behind same =
    let one_less : length (remove marks p) + 1 ≡ length marks = length-remove marks p there in
    elim (cases_lt p clear) [
      | inl in_front ↦ omega (arith, within, one_less, ap length same, before in_front)
      | inr past ↦ omega (arith, there, one_less, ap length same, behind past, past)
    ]

-- the marks in front with one mark more
pub clear_pushed : (marks : List Bool) (clear : ℕ) (mark : Bool) → IsClearBefore clear marks → clear ≤ length marks → IsClearBefore clear (marks ++ mark ∷ [])
clear_pushed marks clear mark front within k below = get_or_append_left marks (mark ∷ []) false k (omega (arith, below, within)) ∙ front k below

-- no mark is set exactly where nothing that waits is decided
pub clear_settled : (h w : List Op) → All (λ m. m ≡ false) (due_marks h w) → All (λ op. decided_on h op ≡ false) w
clear_settled h [] clear = All-nil (λ op. decided_on h op ≡ false)
clear_settled h (op ∷ w) clear =
    All-cons (λ x. decided_on h x ≡ false) op w (All-head (λ m. m ≡ false) (decided_on h op) (due_marks h w) clear)
    (clear_settled h w (All-tail (λ m. m ≡ false) (decided_on h op) (due_marks h w) clear))

pub settled_clear : (h w : List Op) → All (λ op. decided_on h op ≡ false) w → All (λ m. m ≡ false) (due_marks h w)
settled_clear h w settled = All-map (λ m. m ≡ false) (decided_on h) w settled

first-or-length : (h w : List Op) → position_or_len (λ m. m) (due_marks h w) ≡ position_or_len (decided_on h) w
first-or-length h [] = refl
first-or-length h (op ∷ w) = ap (λ (n : ℕ). cond (not (decided_on h op)) (1 + n) 0) (first-or-length h w)

-- the first mark that is set stands where the first decided operation does
pub first_due : (h w : List Op) (marks : List Bool) → marks ≡ due_marks h w → position (λ m. m) marks ≡ position (decided_on h) w
first_due h w marks is =
    ap (position (λ m. m)) is
    ∙ ap (λ (n : ℕ). cond (ltb n (length (due_marks h w))) (Some n) None) (first-or-length h w)
    ∙ ap (λ (n : ℕ). cond (ltb (position_or_len (decided_on h) w) n) (Some (position_or_len (decided_on h) w)) None) (length-map w (decided_on h))

pub due_position : (h w : List Op) (marks : List Bool) (first : Option ℕ) (k : ℕ) → marks ≡ due_marks h w → first ≡ position (λ m. m) marks → first ≡ Some k
    → position (decided_on h) w ≡ Some k
due_position h w marks first k right is found = sym (first_due h w marks right) ∙ sym is ∙ found

-- one more that waits and is not decided
pub marks_pushed : (h w : List Op) (op : Op) → decided_on h op ≡ false → due_marks h w ++ false ∷ [] ≡ due_marks h (w ++ op ∷ [])
marks_pushed h [] op e = ap (λ (m : Bool). m ∷ []) (sym e)
marks_pushed h (x ∷ w) op e = ap (λ (l : List Bool). decided_on h x ∷ l) (marks_pushed h w op e)

-- one less that waits
pub marks_removed : (h w : List Op) (k : ℕ) → remove (due_marks h w) k ≡ due_marks h (remove w k)
marks_removed h w k =
    let f : Op → Bool = decided_on h in
    (λ i. take-map f k w i ++ drop-map f (suc k) w i) ∙ sym (map-append f (take k w) (drop (suc k) w))

-- the marks after the operation at a position has left, and another has joined the history or none
pub marks_left : (h w older ops : List Op) (k : ℕ) (marks left : List Bool) → marks ≡ due_marks h w → left ≡ remove marks k → older ≡ h → ops ≡ remove w k
    → left ≡ due_marks older ops
marks_left h w older ops k marks left is leaves same rest =
    leaves
    ∙ ap (λ (l : List Bool). remove l k) is
    ∙ marks_removed h w k
    ∙ (λ i. due_marks (sym same i) (sym rest i))

-- where none is set, none is set in front of any
pub all_clear : (marks : List Bool) (p : ℕ) → count_by (λ m. m) marks ≡ 0 → p < length marks → IsClearBefore p marks
all_clear marks p none within k below = clear_if marks none k false (omega (arith, below, within))

-- one for a mark that is set
abbrev pub as_number : Bool → ℕ
as_number mark = cond mark 1 0

-- how many are set, after one of which it is known whether it was set
pub recounted : (marks : List Bool) (p count : ℕ) (was mark : Bool) → slice_get marks p ≡ Some was → count ≡ count_by (λ m. m) marks
    → (count_by (λ m. m) (set marks p mark) + as_number was ≡ count + as_number mark) × (as_number was ≤ count) × (count_by (λ m. m) (set marks p mark) ≤ length marks)
recounted marks p count was mark there is =
    let within : p < length marks = slice_get_within marks p was there in
    let stood : as_number (get_or marks p false) ≡ as_number was = ap as_number (get_or_from_slice_get marks p was false there) in (
      omega (arith, is, stood, counted_put marks p mark within),
      omega (arith, is, stood, counted_at marks p within),
      omega (arith, count_by-le-length (λ m. m) (set marks p mark), length-set marks p mark),
    )
