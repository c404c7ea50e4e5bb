-- What edits, moves and retitles take of the room that a replica has, and why they are refused.
use Rattle.std.proofs.Common.{Bool, List, [], ap, arith, cond, false, length, nat_eq, nat_lt, refl, subst, suc, sym, true, ℕ, ◌+◌, ◌++◌, ◌-◌, ◌<◌, ◌≤◌, ◌^◌, ◌&&◌, ◌∙◌, ◌∷◌, ◌≡◌}
use Rattle.std.proofs.Common.{◌≢◌}
use Rattle.std.specs.Prelude.{All, Err, None, Ok, Option, Result, Some, flat_map, is_some, map, option_map, option_to_list}
use Rattle.std.specs.Option.{option_or}
use Rattle.std.proofs.lemmas.Bool.{eqb-true}
use Rattle.std.proofs.lemmas.Grind.{flat_map-append}
use Rattle.std.proofs.lemmas.List.Elements.{All-append, All-cons, All-head, All-map, All-nil, All-tail, All-weaker}
use Rattle.std.proofs.lemmas.Option.{none-some, same_Some}
use Rattle.fugue_ids.specs.Identifiers.{Identifier}
use Rattle.fugue_ids.specs.Ops.{id_of}
use Rattle.fugue_ids.specs.declared.op.Op.{Op}
use Rattle.fugue_ids.specs.declared.op.Op.TheVariants.{Delete, Text}
use Rattle.origin_model.specs.declared.edit_fault.EditFault.{EditFault}
use Rattle.origin_model.specs.declared.edit_fault.EditFault.TheVariants as edit
use Rattle.origin_model.specs.declared.operations.Role.{Role}
use Rattle.origin_model.specs.edits.Edits.{ReadyInTurn, above_all, deletes_of, history_with, id_at, typed_texts}
use Rattle.origin_model.specs.edits.Effect.{Gains}
use Rattle.origin_model.specs.edits.Refusal.{held_count, in_range, in_section, next_of_own, refused_elements, refused_ops}
use Rattle.origin_model.specs.edits.State.{State}
use Rattle.origin_model.specs.operations.Counters.{counters, mentioned_ids}
use Rattle.origin_model.specs.operations.Verdict.{names}
use Rattle.origin_model.proofs.SharedLemmas.{Fits}
use Rattle.origin_model.proofs.edits.FreshIdLemmas.{above_below, BelowAll, counters_below, held_below, history_below, IsBelow, waiting_below}
use Rattle.origin_model.proofs.edits.MadeLemmas.{extended_length}
use Rattle.catalogue_notes.specs.Lift.{stamp}
use Rattle.catalogue_notes.specs.Moving.{as_move_fault, note_cause}
use Rattle.catalogue_notes.specs.declared.moving.MoveFault.{MoveFault}
use Rattle.catalogue_notes.specs.declared.moving.MoveFault.TheVariants as moving
use Rattle.catalogue_notes.proofs.HolderLemmas.{joins}
use Rattle.draft_plan.specs.Limits.{Cost, Costs, IsOutOfMemory, LacksRoom, TakesUpTo, cost, counters_left, operations_left, plus, stamps_left}
use Rattle.draft_plan.specs.declared.fault.ReviseFault.{ReviseFault}
use Rattle.draft_plan.specs.declared.fault.ReviseFault.TheVariants as fault

-- the operation's own identifier has a counter below
abbrev pub MakesBelow : (r c : ℕ) → Op → Type 0
MakesBelow r c op = All (IsBelow r c) (option_to_list (id_of op))

-- operations that join in turn, and make no counter from c on, leave all below
joined_below : (ops h : List Op) (r c : ℕ) → BelowAll r c h → ReadyInTurn h ops → All (MakesBelow r c) ops → BelowAll r c (history_with h ops)
joined_below [] h r c a ready own = a
joined_below (op ∷ ops) h r c a ready own =
    let P : Identifier → Type 0 = IsBelow r c in
    let named : All P (map (λ named. named.0) (names op)) =
    All-map P (λ (named : Identifier × Role). named.0) (names op)
    (All-weaker (Fits h) (λ (named : Identifier × Role). P named.0) (λ named k. held_below r c h named.0 a (ap is_some k.1)) (names op) (joins h op ready.0).fit) in
    joined_below ops (op ∷ h) r c
    (All-append P (mentioned_ids op) (flat_map mentioned_ids h)
    (All-append P (option_to_list (id_of op)) (map (λ named. named.0) (names op)) (All-head (MakesBelow r c) op ops own) named) a)
    ready.1 (All-tail (MakesBelow r c) op ops own)

-- the next counter after operations that join, of which each makes a counter below that
next_joined : (old new : State) (ops : List Op) (k : ℕ) → Gains old new ops → ReadyInTurn old.held.history ops → All (MakesBelow old.number (next_of_own old + k)) ops
    → next_of_own new ≤ next_of_own old + k
next_joined old new ops k g ready own =
    let r : ℕ = old.number in
    let h : List Op = old.held.history in
    let w : List Op = old.held.waiting in
    let n : ℕ = next_of_own old in
    let P : Identifier → Type 0 = IsBelow r (n + k) in
    let more : (i : Identifier) → IsBelow r n i → IsBelow r (n + k) i = λ i b own. let l : i.counter < n = b own in omega (arith, l) in
    let front : BelowAll r (n + k) (history_with h ops) =
    joined_below ops h r (n + k) (All-weaker (IsBelow r n) P more (flat_map mentioned_ids h) (history_below r h w)) ready own in
    let rest : BelowAll r (n + k) w = All-weaker (IsBelow r n) P more (flat_map mentioned_ids w) (waiting_below r h w) in
    let all : BelowAll r (n + k) (history_with h ops ++ w) =
    subst (All P) (sym (flat_map-append mentioned_ids (history_with h ops) w)) (All-append P (flat_map mentioned_ids (history_with h ops)) (flat_map mentioned_ids w) front rest) in
    let next : above_all (counters r (history_with h ops ++ w)) ≤ n + k =
    above_below (counters r (history_with h ops ++ w)) (n + k) (counters_below r (n + k) (flat_map mentioned_ids (history_with h ops ++ w)) all) in
    subst (λ (s : State). next_of_own s ≤ n + k) (sym g.others) next

-- what operations take that join
pub joined_take : (old new : State) (ops : List Op) (k t : ℕ) → Gains old new ops → ReadyInTurn old.held.history ops → All (MakesBelow old.number (next_of_own old + k)) ops
    → stamp new.held.history ≤ stamp old.held.history + t → TakesUpTo old new (cost (length ops) k t)
joined_take old new ops k t g ready own stamps =
    let history : length new.held.history ≡ length old.held.history + length ops =
    ap (λ (s : State). length s.held.history) g.others ∙ extended_length old.held.history ops in
    let waiting : length new.held.waiting ≡ length old.held.waiting = ap (λ (s : State). length s.held.waiting) g.others in
    let most : new.most ≡ old.most = ap (λ (s : State). s.most) g.others in
    let next = next_joined old new ops k g ready own in
    record { operations = omega (arith, history, waiting, most); counters = omega (arith, next); stamps = omega (arith, stamps) }

-- nothing was made
pub costs_none : (s : State) (c : Cost) → Costs s s c (Ok 0)
costs_none s c = (omega arith, record { operations = omega arith; counters = omega arith; stamps = omega arith })

pub record IsUpTo (a b : Cost) : Type 0 where
  pub operations : a.operations ≤ b.operations
  pub counters : a.counters ≤ b.counters
  pub stamps : a.stamps ≤ b.stamps

pub up : {a b : Cost} → a.operations ≤ b.operations → a.counters ≤ b.counters → a.stamps ≤ b.stamps → IsUpTo a b
up l m n = record { operations = l; counters = m; stamps = n }

-- where less is left than a cost, there is less than a greater one
pub lacks_more : (s : State) (a b : Cost) (why : ReviseFault) → IsUpTo a b → LacksRoom s a why → LacksRoom s b why
lacks_more s a b (fault.Edit edit.NoSection) u l = tt
lacks_more s a b (fault.Edit edit.OutOfRange) u l = tt
lacks_more s a b (fault.Edit (edit.IdsSpent n)) u l = omega (arith, u.counters, l)
lacks_more s a b (fault.Edit (edit.TooMany n)) u l = omega (arith, u.operations, l)
lacks_more s a b (fault.Edit edit.NoMemory) u l = tt
lacks_more s a b (fault.Move moving.NoSection) u l = tt
lacks_more s a b (fault.Move moving.NoPlace) u l = tt
lacks_more s a b (fault.Move moving.StampsSpent) u l = omega (arith, u.stamps, l)
lacks_more s a b (fault.Move (moving.IdsSpent n)) u l = omega (arith, u.counters, l)
lacks_more s a b (fault.Move (moving.TooMany n)) u l = omega (arith, u.operations, l)
lacks_more s a b (fault.Move moving.NoMemory) u l = tt

-- where memory ran out, no room was
pub wants_room : (s : State) (c : Cost) (why : ReviseFault) → IsOutOfMemory why → LacksRoom s c why
wants_room s c (fault.Edit edit.NoSection) w = tt
wants_room s c (fault.Edit edit.OutOfRange) w = tt
wants_room s c (fault.Edit (edit.IdsSpent n)) w = absurd w
wants_room s c (fault.Edit (edit.TooMany n)) w = absurd w
wants_room s c (fault.Edit edit.NoMemory) w = tt
wants_room s c (fault.Move moving.NoSection) w = tt
wants_room s c (fault.Move moving.NoPlace) w = tt
wants_room s c (fault.Move moving.StampsSpent) w = absurd w
wants_room s c (fault.Move (moving.IdsSpent n)) w = absurd w
wants_room s c (fault.Move (moving.TooMany n)) w = absurd w
wants_room s c (fault.Move moving.NoMemory) w = tt

pub costs_more : (old new : State) (a b : Cost) (result : Result ℕ ReviseFault) → IsUpTo a b → Costs old new a result → Costs old new b result
costs_more old new a b (Ok n) u c = (
  omega (arith, u.operations, c.0),
  record {
    operations = omega (arith, u.operations, c.1.operations);
    counters = omega (arith, u.counters, c.1.counters);
    stamps = omega (arith, u.stamps, c.1.stamps);
  },
)
costs_more old new a b (Err why) u c = lacks_more old a b why u c

-- some was made, and then there was too little room
lacks_after : (old mid : State) (a b : Cost) (why : ReviseFault) → TakesUpTo old mid a → LacksRoom mid b why → LacksRoom old (plus a b) why
lacks_after old mid a b (fault.Edit edit.NoSection) t l = tt
lacks_after old mid a b (fault.Edit edit.OutOfRange) t l = tt
lacks_after old mid a b (fault.Edit (edit.IdsSpent n)) t l = omega (arith, t.counters, l)
lacks_after old mid a b (fault.Edit (edit.TooMany n)) t l = omega (arith, t.operations, l)
lacks_after old mid a b (fault.Edit edit.NoMemory) t l = tt
lacks_after old mid a b (fault.Move moving.NoSection) t l = tt
lacks_after old mid a b (fault.Move moving.NoPlace) t l = tt
lacks_after old mid a b (fault.Move moving.StampsSpent) t l = omega (arith, t.stamps, l)
lacks_after old mid a b (fault.Move (moving.IdsSpent n)) t l = omega (arith, t.counters, l)
lacks_after old mid a b (fault.Move (moving.TooMany n)) t l = omega (arith, t.operations, l)
lacks_after old mid a b (fault.Move moving.NoMemory) t l = tt

pub costs_stop : (old mid : State) (a b c : Cost) (n : ℕ) (why : ReviseFault) → IsUpTo (plus a b) c → Costs old mid a (Ok n) → LacksRoom mid b why → LacksRoom old c why
costs_stop old mid a b c n why u first l = lacks_more old (plus a b) c why u (lacks_after old mid a b why first.1 l)

-- or more was made
pub costs_join : (old mid new : State) (a b c : Cost) (n m : ℕ) → IsUpTo (plus a b) c → Costs old mid a (Ok n) → Costs mid new b (Ok m) → Costs old new c (Ok (n + m))
costs_join old mid new a b c n m u first next = (
  omega (arith, first.0, next.0, u.operations),
  record {
    operations = omega (arith, first.1.operations, next.1.operations, u.operations);
    counters = omega (arith, first.1.counters, next.1.counters, u.counters);
    stamps = omega (arith, first.1.stamps, next.1.stamps, u.stamps);
  },
)

-- why an edit is refused, where its section and its position are there
peeled : (o : Option Identifier) (p : ℕ) (count : Identifier → ℕ) (cause : Option EditFault) (why : EditFault) → why ≢ edit.NoSection → why ≢ edit.OutOfRange
    → in_section o (λ x. in_range p (count x) cause) ≡ Some why → cause ≡ Some why
peeled None p count cause why a b e = absurd (a (sym (same_Some edit.NoSection why e)))
peeled (Some x) p count cause why a b e = by (nat_lt (count x) p) e
  where
    by : (t : Bool) → cond t (Some edit.OutOfRange) cause ≡ Some why → cause ≡ Some why
    by true e = absurd (b (sym (same_Some edit.OutOfRange why e)))
    by false e = e

pub in_place : (o : Option Identifier) (p : ℕ) (count : Identifier → ℕ) (cause : Option EditFault) (why : EditFault) → why ≢ edit.NoSection → why ≢ edit.OutOfRange
    → in_section o (λ x. in_range p (count x) cause) ≡ Some why → cause ≡ Some why
in_place o p count cause why a b e = peeled o p count cause why a b e

-- operations that are too many find too little room
too_many : (s : State) (n : ℕ) → held_count s ≤ s.most → nat_lt s.most (held_count s + n) ≡ true → operations_left s < n
too_many s n few t = let l : s.most < held_count s + n = grind arith in omega (arith, l, few)

spent : (s : State) (n : ℕ) → (nat_lt 0 n && nat_lt (2 ^ 32) (next_of_own s + n)) ≡ true → counters_left s < n
spent s n t = let l : (0 < n) × (2 ^ 32 < next_of_own s + n) = grind arith in omega (arith, l.0, l.1)

lacks_ops_by : (s : State) (n : ℕ) (c : Cost) (why : EditFault) (b : Bool) → (b ≡ true → operations_left s < n) → n ≤ c.operations
    → cond b (Some (edit.TooMany (held_count s))) None ≡ Some why
    → LacksRoom s c (fault.Edit why)
lacks_ops_by s n c why true lacks l e =
    subst (λ w. LacksRoom s c (fault.Edit w)) (same_Some (edit.TooMany (held_count s)) why e) (omega (arith, lacks refl, l))
lacks_ops_by s n c why false lacks l e = absurd (none-some why e)

pub lacks_ops : (s : State) (n : ℕ) (c : Cost) (why : EditFault) → held_count s ≤ s.most → n ≤ c.operations → refused_ops s n ≡ Some why → LacksRoom s c (fault.Edit why)
lacks_ops s n c why few l e = lacks_ops_by s n c why (nat_lt s.most (held_count s + n)) (too_many s n few) l e

pub lacks_elements : (s : State) (n : ℕ) (c : Cost) (why : EditFault) → held_count s ≤ s.most → n ≤ c.operations → n ≤ c.counters → refused_elements s n ≡ Some why
    → LacksRoom s c (fault.Edit why)
lacks_elements s n c why few l m e = by (nat_lt 0 n && nat_lt (2 ^ 32) (next_of_own s + n)) (spent s n) e
  where
    by : (b : Bool) → (b ≡ true → counters_left s < n) → cond b (Some (edit.IdsSpent (next_of_own s - 1))) (refused_ops s n) ≡ Some why → LacksRoom s c (fault.Edit why)
    by true lacks e = subst (λ w. LacksRoom s c (fault.Edit w)) (same_Some (edit.IdsSpent (next_of_own s - 1)) why e) (omega (arith, lacks refl, m))
    by false lacks e = lacks_ops s n c why few l e

-- a note that is refused
abbrev pub note_cost : Cost
note_cost = cost 1 1 1

no_stamp : (s : State) → nat_eq (stamp s.held.history) (2 ^ 32 - 1) ≡ true → stamps_left s < 1
no_stamp s t = let e : stamp s.held.history ≡ 2 ^ 32 - 1 = eqb-true (stamp s.held.history) (2 ^ 32 - 1) t in omega (arith, e)

pub lacks_note : (s : State) (why : MoveFault) → note_cause s ≡ Some why → held_count s ≤ s.most → LacksRoom s note_cost (fault.Move why)
lacks_note s why e few =
    by (nat_eq (stamp s.held.history) (2 ^ 32 - 1)) (nat_lt 0 1 && nat_lt (2 ^ 32) (next_of_own s + 1)) (nat_lt s.most (held_count s + 1)) (no_stamp s) (spent s 1)
    (too_many s 1 few) e
  where
    by : (a b c : Bool) → (a ≡ true → stamps_left s < 1) → (b ≡ true → counters_left s < 1) → (c ≡ true → operations_left s < 1)
        → option_or (cond a (Some moving.StampsSpent) None)
        (option_map as_move_fault (cond b (Some (edit.IdsSpent (next_of_own s - 1))) (cond c (Some (edit.TooMany (held_count s))) None))) ≡ Some why
        → LacksRoom s note_cost (fault.Move why)
    by true b c f g h e = subst (λ w. LacksRoom s note_cost (fault.Move w)) (same_Some moving.StampsSpent why e) (f refl)
    by false true c f g h e = subst (λ w. LacksRoom s note_cost (fault.Move w)) (same_Some (moving.IdsSpent (next_of_own s - 1)) why e) (g refl)
    by false false true f g h e = subst (λ w. LacksRoom s note_cost (fault.Move w)) (same_Some (moving.TooMany (held_count s)) why e) (h refl)
    by false false false f g h e = absurd (none-some why e)

-- texts that are typed make counters up to their number
pub typed_below : (chs : List ℕ) (r c d : ℕ) (s : Identifier) (left right : Option Identifier) → c + length chs ≤ d → All (MakesBelow r d) (typed_texts r c s left right chs)
typed_below [] r c d s left right l = All-nil (MakesBelow r d)
typed_below (ch ∷ chs) r c d s left right l =
    All-cons (MakesBelow r d) (Text (id_at r c) s left right ch) (typed_texts r (suc c) s (Some (id_at r c)) right chs) (own_id_below r c d (omega (arith, l)))
    (typed_below chs r (suc c) d s (Some (id_at r c)) right (omega (arith, l)))
  where
    own_id_below : (r c d : ℕ) → c < d → All (IsBelow r d) (id_at r c ∷ [])
    own_id_below r c d l = All-cons (IsBelow r d) (id_at r c) [] (λ own. l) (All-nil (IsBelow r d))

pub one_below : (r c d : ℕ) → c < d → All (IsBelow r d) (id_at r c ∷ [])
one_below r c d l = All-cons (IsBelow r d) (id_at r c) [] (λ own. l) (All-nil (IsBelow r d))

-- Deletes make none
pub deletes_below : (xs : List Identifier) (r d : ℕ) → All (MakesBelow r d) (deletes_of xs)
deletes_below [] r d = All-nil (MakesBelow r d)
deletes_below (x ∷ xs) r d = All-cons (MakesBelow r d) (Delete x) (deletes_of xs) (All-nil (IsBelow r d)) (deletes_below xs r d)
