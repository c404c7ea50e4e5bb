-- What was made on the replica as it was comes after all that the whole has accepted.
use Rattle.std.proofs.Common.{Bool, List, [], ap, arith, cond, eqb-true, false, inl, inr, length, nat_eq, nat_lt, not, refl, subst, suc, sym, true, ℕ, ◌+◌, ◌++◌, ◌-◌, ◌||◌, ◌∙◌}
use Rattle.std.proofs.Common.{◌∷◌, ◌≡◌, ◌≤◌, ◌⊎◌, take}
use Rattle.std.specs.Prelude.{All, None, Option, Some, drop, flat_map, if◌then◌else◌, is_some, slice_get}
use Rattle.std.proofs.lemmas.Bool.{cases_Bool, false_from_ne_true, or_cases, or_left, or_parts, or_right, true≢false}
use Rattle.std.proofs.lemmas.List.{append-nil, append_cancel_left}
use Rattle.std.proofs.lemmas.List.Elements.{All-append, All-cons, All-head, All-map, All-nil, All-tail, All-weaker}
use Rattle.fugue_ids.specs.Identifiers.{Identifier, origin_eq}
use Rattle.fugue_ids.specs.Ops.{id_of, op_eq}
use Rattle.fugue_ids.specs.declared.op.Op.{Op}
use Rattle.fugue_ids.specs.declared.op.Op.TheVariants.{Delete, Note, Section, Text}
use Rattle.fugue_ids.proofs.IdentifierLemmas.{id_eq-refl}
use Rattle.fugue_ids.proofs.ListLemmas.{all_from_contains}
use Rattle.fugue_ids.proofs.OpLemmas.{op_eq-refl, op_eq-true}
use Rattle.origin_model.specs.declared.operations.Place.TheVariants.{Catalogue as catalogue, Section as within}
use Rattle.origin_model.specs.declared.operations.Verdict.TheVariants.{Ready}
use Rattle.origin_model.specs.edits.Edits.{Add, Command, Cut, DropSection, Put, ReadyInTurn, above_all, cut_in, deletes_of, history_with, id_at, left_for, made, next_counter}
use Rattle.origin_model.specs.edits.Edits.{op_of_add, put_in, right_for, typed_texts}
use Rattle.origin_model.specs.edits.Refusal.{next_of_own}
use Rattle.origin_model.specs.edits.State.{State as Replica, IsSound}
use Rattle.origin_model.specs.operations.Counters.{counters, mentioned_ids}
use Rattle.origin_model.specs.operations.History.{accepted, has_op, holds, is_own}
use Rattle.origin_model.specs.operations.Verdict.{Lawful, id_held, names, verdict}
use Rattle.origin_model.specs.order.Laws.{IsPartOf}
use Rattle.origin_model.specs.order.Printed.{shown}
use Rattle.origin_model.specs.taking.Taking.{Accepted, Again, Answer, Conflict, MeetsNoLimit, Held, IsSettled, TooMany, answer, answer_by, answers_from, held_from, intake}
use Rattle.origin_model.specs.taking.Taking.{is_again, is_taken, settle, held_after}
use Rattle.origin_model.proofs.SharedLemmas.{becomes_ready, counters-append, has-holder, holds-older, holds-other, holds-own, Lawful-append, names_within, part_at_end}
use Rattle.origin_model.proofs.SharedLemmas.{settle-settled, when_ready, Within-part}
use Rattle.origin_model.proofs.edits.EditIntakeLemmas.{accepts, not_waiting, state_of}
use Rattle.origin_model.proofs.edits.FreshIdLemmas.{BelowAll, IsUnknown, history_below, new_unknown, waiting_below}
use Rattle.origin_model.proofs.edits.MadeLemmas.{join_at_end}
use Rattle.origin_model.proofs.edits.UndecidedLemmas.{Undecided, stays}
use Rattle.catalogue_notes.specs.Moving.{move_by, retitle_by, section_placed}
use Rattle.draft_plan.specs.Changes.{PlanChange, MakesChanges, Edit, Move, Retitle, all_made, replica_after, made_of}
use Rattle.version_views.specs.Fronts.{replica_at}
use Rattle.version_views.specs.Views.{first_ops}
use Rattle.version_views.proofs.ViewLemmas.{parts}
use Rattle.command_kinds.specs.Saving.{Outcome, Suffices}
use Rattle.command_kinds.specs.declared.refusal.Refusal.TheVariants as refusal
use Rattle.command_kinds.proofs.LawfulLemmas.{held_lawful}
use Rattle.manuscript_cli.specs.Revising.{IsHandedBack, Revises}
use Rattle.manuscript_cli.specs.RevisingSince.{ComesAfterAccepted, lacking_ops, moment_refusal, same_next}
use Rattle.manuscript_cli.proofs.RevisionTakenLemmas.{in_turn}

-- ---- the identifiers that changes make
-- the operation has no identifier, or one of the replica's from c on
abbrev IsFrom : (r c : ℕ) → Op → Type 0
IsFrom r c op = (id_of op ≡ None) ⊎ ((n : ℕ) × (id_of op ≡ Some (id_at r n)) × (c ≤ n))

typed_from : (chs : List ℕ) (r c n : ℕ) (s : Identifier) (l q : Option Identifier) → c ≤ n → All (IsFrom r c) (typed_texts r n s l q chs)
typed_from [] r c n s l q k = All-nil (IsFrom r c)
typed_from (ch ∷ chs) r c n s l q k =
    All-cons (IsFrom r c) (Text (id_at r n) s l q ch) (typed_texts r (suc n) s (Some (id_at r n)) q chs) (inr (n, refl, k))
    (typed_from chs r c (suc n) s (Some (id_at r n)) q (omega (arith, k)))

deletes_from : (r c : ℕ) (xs : List Identifier) → All (IsFrom r c) (deletes_of xs)
deletes_from r c xs = All-map (IsFrom r c) (λ x. Delete x) xs (all_from_contains (λ x. IsFrom r c (Delete x)) xs (λ x m. inl refl))

edit_from : (r c : ℕ) (h w : List Op) (command : Command) → c ≤ next_counter r h w → All (IsFrom r c) (made r h w command)
edit_from r c h w (Put k at new) l =
    elim (slice_get (shown catalogue h) k) as (λ z. All (IsFrom r c) (elim z [ None ↦ [] | Some s ↦ put_in r h w s at new ])) [
      | None ↦ All-nil (IsFrom r c)
      | Some s ↦ typed_from new r c (next_counter r h w) s (left_for (within s) h at) (right_for (within s) h at) l
    ]
edit_from r c h w (Cut k at n) l =
    elim (slice_get (shown catalogue h) k) as (λ z. All (IsFrom r c) (elim z [ None ↦ [] | Some s ↦ cut_in h s at n ])) [
      | None ↦ All-nil (IsFrom r c)
      | Some s ↦ deletes_from r c (take n (drop at (shown (within s) h)))
    ]
edit_from r c h w (Add at title) l = All-cons (IsFrom r c) (op_of_add r h w at title) [] (inr (next_counter r h w, refl, l)) (All-nil (IsFrom r c))
edit_from r c h w (DropSection k) l =
    elim (slice_get (shown catalogue h) k) as (λ z. All (IsFrom r c) (elim z [ None ↦ [] | Some s ↦ Delete s ∷ [] ])) [
      | None ↦ All-nil (IsFrom r c)
      | Some s ↦ deletes_from r c (s ∷ [])
    ]

change_from : (s : Replica) (c : ℕ) (change : PlanChange) → c ≤ next_of_own s → All (IsFrom s.number c) (made_of s change)
change_from s c (Edit command) l = edit_from s.number c s.held.history s.held.waiting command l
change_from s c (Move k j) l = by (section_placed s k)
  where
    by : (o : Option Identifier) → All (IsFrom s.number c) (elim o [ None ↦ [] | Some section ↦ move_by s section k j ∷ [] ])
    by None = All-nil (IsFrom s.number c)
    by (Some section) = All-cons (IsFrom s.number c) (move_by s section k j) [] (inr (next_of_own s, refl, l)) (All-nil (IsFrom s.number c))
change_from s c (Retitle k title) l = by (section_placed s k)
  where
    by : (o : Option Identifier) → All (IsFrom s.number c) (elim o [ None ↦ [] | Some section ↦ retitle_by s section title ∷ [] ])
    by None = All-nil (IsFrom s.number c)
    by (Some section) = All-cons (IsFrom s.number c) (retitle_by s section title) [] (inr (next_of_own s, refl, l)) (All-nil (IsFrom s.number c))

-- the next counter does not fall
above_after : (xs ys : List ℕ) → above_all ys ≤ above_all (xs ++ ys)
above_after [] ys = omega arith
above_after (x ∷ xs) ys = let rest : above_all ys ≤ above_all (xs ++ ys) = above_after xs ys in omega (arith, rest)

next_joined : (r : ℕ) (op : Op) (h w : List Op) → next_counter r h w ≤ next_counter r (op ∷ h) w
next_joined r op h w =
    subst (λ l. next_counter r h w ≤ above_all l) (sym (counters-append r (op ∷ []) (h ++ w))) (above_after (counters r (op ∷ [])) (counters r (h ++ w)))

next_grows : (r : ℕ) (ops h w : List Op) → next_counter r h w ≤ next_counter r (history_with h ops) w
next_grows r [] h w = omega arith
next_grows r (op ∷ ops) h w =
    let one : next_counter r h w ≤ next_counter r (op ∷ h) w = next_joined r op h w in
    let rest : next_counter r (op ∷ h) w ≤ next_counter r (history_with (op ∷ h) ops) w = next_grows r ops (op ∷ h) w in
    omega (arith, one, rest)

all_from : (s : Replica) (c : ℕ) (changes : List PlanChange) → c ≤ next_of_own s → All (IsFrom s.number c) (all_made s changes)
all_from s c [] l = All-nil (IsFrom s.number c)
all_from s c (change ∷ changes) l =
    let grows : next_of_own s ≤ next_of_own (replica_after s change) = next_grows s.number (made_of s change) s.held.history s.held.waiting in
    All-append (IsFrom s.number c) (made_of s change) (all_made (replica_after s change) changes) (change_from s c change l)
    (all_from (replica_after s change) c changes (omega (arith, l, grows)))

-- operations below whose counter c is neither have nor name such an identifier
unknown_from : (r c : ℕ) (ops : List Op) (op : Op) → BelowAll r c ops → IsFrom r c op → IsUnknown ops op
unknown_from r c ops op b (inl e) = (ap (id_held ops) e, all_from_contains (λ i. is_own i op ≡ false) (flat_map mentioned_ids ops) (λ i m. ap (λ o. origin_eq o (Some i)) e))
unknown_from r c ops op b (inr f) = new_unknown r c f.0 ops op f.1 b f.2

-- ---- what a history has accepted of it is a Delete
never_held : (h : List Op) (op : Op) (i : Identifier) → Lawful h → IsUnknown h op → id_of op ≡ Some i → has_op h op ≡ true → ⊥
never_held h op i w u e m =
    let own : is_own i op ≡ true = ap (λ o. origin_eq o (Some i)) e ∙ id_eq-refl i in
    true≢false (sym (ap is_some (has-holder h i op w m own)) ∙ sym (ap (id_held h) e) ∙ u.0)

is_delete : (h : List Op) (op : Op) → Lawful h → IsUnknown h op → has_op h op ≡ true → (x : Identifier) × (op ≡ Delete x)
is_delete h (Delete x) w u m = (x, refl)
is_delete h (Section id left right title) w u m = absurd (never_held h (Section id left right title) id w u refl m)
is_delete h (Text id section left right ch) w u m = absurd (never_held h (Text id section left right ch) id w u refl m)
is_delete h (Note id named code body) w u m = absurd (never_held h (Note id named code body) id w u refl m)

-- ---- the members of an extended history
stays_in : (ops h : List Op) (x : Op) → has_op h x ≡ true → has_op (history_with h ops) x ≡ true
stays_in [] h x e = e
stays_in (op ∷ ops) h x e = stays_in ops (op ∷ h) x (or_right (op_eq op x) (has_op h x) e)

all_in : (ops h : List Op) → All (λ o. has_op (history_with h ops) o ≡ true) ops
all_in [] h = All-nil (λ o. has_op (history_with h []) o ≡ true)
all_in (op ∷ ops) h =
    All-cons (λ o. has_op (history_with h (op ∷ ops)) o ≡ true) op ops (stays_in ops (op ∷ h) op (or_left (op_eq op op) (has_op h op) (op_eq-refl op))) (all_in ops (op ∷ h))

-- operations that are Ready in turn are others than those before them
later_absent : (h ops : List Op) → ReadyInTurn h ops → All (λ o. has_op h o ≡ false) ops
later_absent h [] r = All-nil (λ o. has_op h o ≡ false)
later_absent h (op ∷ ops) r =
    All-cons (λ o. has_op h o ≡ false) op ops (when_ready h op r.0).absent
    (All-weaker (λ o. has_op (op ∷ h) o ≡ false) (λ o. has_op h o ≡ false) (λ o e. (or_parts (op_eq op o) (has_op h o) e).1) ops (later_absent (op ∷ h) ops r.1))

-- ---- those that a history lacks
lacked-had : (p ops : List Op) (op : Op) → has_op p op ≡ true → lacking_ops p (op ∷ ops) ≡ lacking_ops p ops
lacked-had p ops op t = ap (λ b. cond (not b) (op ∷ lacking_ops p ops) (lacking_ops p ops)) t

lacked-new : (p ops : List Op) (op : Op) → has_op p op ≡ false → lacking_ops p (op ∷ ops) ≡ op ∷ lacking_ops p ops
lacked-new p ops op f = ap (λ b. cond (not b) (op ∷ lacking_ops p ops) (lacking_ops p ops)) f

lacked-other : (p h ops : List Op) (op : Op) → All (λ o. has_op (op ∷ h) o ≡ false) ops → lacking_ops (op ∷ p) ops ≡ lacking_ops p ops
lacked-other p h [] op a = refl
lacked-other p h (o ∷ ops) op a =
    let e : op_eq op o ≡ false = (or_parts (op_eq op o) (has_op h o) (All-head (λ o. has_op (op ∷ h) o ≡ false) o ops a)).0 in
    let rest = lacked-other p h ops op (All-tail (λ o. has_op (op ∷ h) o ≡ false) o ops a) in
    λ i. cond (not (e i || has_op p o)) (o ∷ rest i) (rest i)

-- ---- what is Ready in turn on a part is taken in by the whole
module _ (hold most : ℕ) (start w : List Op) where
  -- the whole has the part, and no identifier but those that it began with and those of the part
  record IsBeside (h p : List Op) : Type 0 where
    lawful : Lawful p
    part : IsPartOf h p
    own : (i : Identifier) → holds p i ≡ true → (holds start i ≡ true) ⊎ (holds h i ≡ true)

  fresh_beside : (h p : List Op) (o : Option Identifier) → IsBeside h p → id_held h o ≡ false → id_held start o ≡ false → id_held p o ≡ false
  fresh_beside h p None b e f = refl
  fresh_beside h p (Some i) b e f =
      false_from_ne_true _ (λ t. elim (b.own i t) [ inl a ↦ true≢false (sym a ∙ f) | inr a ↦ true≢false (sym a ∙ e) ])

  ready_beside : (h p : List Op) (op : Op) → IsBeside h p → verdict h op ≡ Ready → IsUnknown start op → has_op p op ≡ false → verdict p op ≡ Ready
  ready_beside h p op b v u new =
      let ready = when_ready h op v in
      let named = names_within h p (names op) (Within-part h p b.lawful b.part) ready.none_stray ready.none_missing in
      becomes_ready p op new (fresh_beside h p (id_of op) b ready.fresh u.0) named.0 named.1

  -- one that the whole has comes to the part
  beside_had : (h p : List Op) (op : Op) → IsBeside h p → has_op p op ≡ true → IsBeside (op ∷ h) p
  beside_had h p op b t =
      record {
        lawful = b.lawful;
        part = λ x k. elim (or_cases (op_eq op x) (has_op h x) k) [ inl q ↦ subst (λ y. has_op p y ≡ true) (op_eq-true op x q) t | inr j ↦ b.part x j ];
        own = λ i k. elim (b.own i k) [ inl a ↦ inl a | inr a ↦ inr (holds-older op h i a) ];
      }

  -- one comes to both
  beside_new : (h p : List Op) (op : Op) → IsBeside h p → verdict p op ≡ Ready → IsBeside (op ∷ h) (op ∷ p)
  beside_new h p op b v =
      record {
        lawful = (v, b.lawful);
        part = λ x k. elim (or_cases (op_eq op x) (has_op h x) k) [ inl q ↦ or_left (op_eq op x) (has_op p x) q | inr j ↦ or_right (op_eq op x) (has_op p x) (b.part x j) ];
        own = own;
      }
    where
      own : (i : Identifier) → holds (op ∷ p) i ≡ true → (holds start i ≡ true) ⊎ (holds (op ∷ h) i ≡ true)
      own i k =
          elim (cases_Bool (is_own i op)) [
            | inl t ↦ inr (holds-own op h i t)
            | inr f ↦ elim (b.own i (sym (holds-other op p i f) ∙ k)) [ inl a ↦ inl a | inr a ↦ inr (holds-older op h i a) ]
          ]

  -- the answers of the whole, and the state after them
  had_again : (p : List Op) (op : Op) → Undecided p w → has_op p op ≡ true → intake hold most (state_of p w) op ≡ state_of p w
  had_again p op u t =
      let is : answer hold most (state_of p w) op ≡ Again =
      ap (λ z. if z || has_op w op then Again else if is_taken (state_of p w) op then Conflict else
      answer_by (nat_eq (length p + length w) most) (nat_eq (length w) hold) (verdict p op)) t in
      ap (λ a. settle (held_after a (state_of p w) op)) is ∙ settle-settled (state_of p w) u

  has_room : (p : List Op) (op : Op) → Undecided p w → verdict p op ≡ Ready → IsUnknown w op → (answer hold most (state_of p w) op ≡ TooMany → ⊥)
      → nat_eq (length p + length w) most ≡ false
  has_room p op u v k other =
      let again : is_again (state_of p w) op ≡ false = λ i. (when_ready p op v).absent i || not_waiting p w op u v i in
      let clash : is_taken (state_of p w) op ≡ false = λ i. (when_ready p op v).fresh i || k.0 i in
      false_from_ne_true _ (λ full. other (λ i. if again i then Again else if clash i then Conflict else answer_by (full i) (nat_eq (length w) hold) (v i)))

  new_accepted : (p : List Op) (op : Op) → Undecided p w → verdict p op ≡ Ready → IsUnknown w op → (answer hold most (state_of p w) op ≡ TooMany → ⊥)
      → intake hold most (state_of p w) op ≡ state_of (op ∷ p) w
  new_accepted p op u v k other =
      let ok : answer hold most (state_of p w) op ≡ Accepted = accepts hold most p w op u v k.0 (has_room p op u v k other) in
      ap (λ a. settle (held_after a (state_of p w) op)) ok ∙ settle-settled (state_of (op ∷ p) w) (stays op p w k u)

  record IsTaken (h p ops : List Op) : Type 0 where
    state : held_from hold most (state_of p w) ops ≡ state_of (history_with p (lacking_ops p ops)) w
    part : IsPartOf (history_with h ops) (history_with p (lacking_ops p ops))

  -- one that the whole has is taken in
  had_taken : (op : Op) (ops h p : List Op) → has_op p op ≡ true → intake hold most (state_of p w) op ≡ state_of p w → IsTaken (op ∷ h) p ops → IsTaken h p (op ∷ ops)
  had_taken op ops h p t next later =
      let is : lacking_ops p ops ≡ lacking_ops p (op ∷ ops) = sym (lacked-had p ops op t) in
      record {
        state = ap (λ s. held_from hold most s ops) next ∙ later.state ∙ ap (λ z. state_of (history_with p z) w) is;
        part = subst (λ z. IsPartOf (history_with (op ∷ h) ops) (history_with p z)) is later.part;
      }

  -- so is one that it lacks
  new_taken : (op : Op) (ops h p : List Op) → has_op p op ≡ false → ReadyInTurn (op ∷ h) ops → intake hold most (state_of p w) op ≡ state_of (op ∷ p) w
      → IsTaken (op ∷ h) (op ∷ p) ops
      → IsTaken h p (op ∷ ops)
  new_taken op ops h p f turn next later =
      let is : op ∷ lacking_ops (op ∷ p) ops ≡ lacking_ops p (op ∷ ops) =
      ap (λ z. op ∷ z) (lacked-other p h ops op (later_absent (op ∷ h) ops turn)) ∙ sym (lacked-new p ops op f) in
      record {
        state = ap (λ s. held_from hold most s ops) next ∙ later.state ∙ ap (λ z. state_of (history_with p z) w) is;
        part = subst (λ z. IsPartOf (history_with (op ∷ h) ops) (history_with p z)) is later.part;
      }

  all_taken : (ops h p : List Op) → IsBeside h p → Undecided p w → ReadyInTurn h ops → All (IsUnknown start) ops → All (IsUnknown w) ops
      → MeetsNoLimit hold most (state_of p w) ops → IsTaken h p ops
  all_taken [] h p b u r k l place = record { state = refl; part = b.part }
  all_taken (op ∷ ops) h p b u r k l place =
      let is_place : Answer → Type 0 = λ a. a ≡ TooMany → ⊥ in
      let other : answer hold most (state_of p w) op ≡ TooMany → ⊥ =
      All-head is_place (answer hold most (state_of p w) op) (answers_from hold most (intake hold most (state_of p w) op) ops) place in
      let rest : MeetsNoLimit hold most (intake hold most (state_of p w) op) ops =
      All-tail is_place (answer hold most (state_of p w) op) (answers_from hold most (intake hold most (state_of p w) op) ops) place in
      let later_unknown = All-tail (IsUnknown start) op ops k in
      let later_apart = All-tail (IsUnknown w) op ops l in
      elim (cases_Bool (has_op p op)) [
        | inl t ↦
            let next = had_again p op u t in
            had_taken op ops h p t next (all_taken ops (op ∷ h) p (beside_had h p op b t) u r.1 later_unknown later_apart (subst (λ s. MeetsNoLimit hold most s ops) next rest))
        | inr f ↦
            let v : verdict p op ≡ Ready = ready_beside h p op b r.0 (All-head (IsUnknown start) op ops k) f in
            let unknown : IsUnknown w op = All-head (IsUnknown w) op ops l in
            let next = new_accepted p op u v unknown other in
            new_taken op ops h p f r.1 next
            (all_taken ops (op ∷ h) (op ∷ p) (beside_new h p op b v) (stays op p w unknown u) r.1 later_unknown later_apart (subst (λ s. MeetsNoLimit hold most s ops) next rest))
      ]

-- ---- so it is of what a draft made of the replica as it was
-- where the moment does not refuse, no own identifier was made since
none_since : (few same : Bool) (n : ℕ) → (if few then Some (refusal.NoMoment n) else (if not same then Some (refusal.OwnSince n) else None)) ≡ None → same ≡ true
none_since true same n e = cc e
none_since false true n e = refl
none_since false false n e = cc e

none_after : (old : Held) → ComesAfterAccepted old [] old
none_after old =
    record {
      behind = sym (append-nil (accepted old.history));
      each = All-nil (λ op. has_op old.history op ≡ true);
      had = All-nil (λ op. has_op old.history op ≡ true → (x : Identifier) × (op ≡ Delete x));
      waiting = refl;
    }

module _ (n : ℕ) (replica : Replica) (settled : IsSettled replica.held) (sound : IsSound replica) (may : moment_refusal n replica ≡ None) where
  abbrev past : Replica
  past = replica_at n replica

  past_lawful : Lawful past.held.history
  past_lawful = Lawful-append (take (length replica.held.history - n) replica.held.history) (first_ops n replica.held.history)
      (subst Lawful (sym (parts n replica.held.history)) sound.lawful)

  past_part : IsPartOf past.held.history replica.held.history
  past_part = subst (IsPartOf (first_ops n replica.held.history)) (parts n replica.held.history)
      (part_at_end (take (length replica.held.history - n) replica.held.history) (first_ops n replica.held.history))

  next_same : next_of_own replica ≡ next_of_own past
  next_same = eqb-true (next_of_own replica) (next_of_own past) (none_since (nat_lt (length replica.held.history) n) (same_next replica past) n may)

  changes_after : (last : Replica) (changes : List PlanChange) → MakesChanges past last changes → Lawful last.held.history
      → MeetsNoLimit replica.hold replica.most replica.held (all_made past changes)
      → ComesAfterAccepted replica.held (all_made past changes) (held_from replica.hold replica.most replica.held (all_made past changes))
  changes_after last changes changed lawful place =
      let r : ℕ = replica.number in
      let c : ℕ = next_of_own replica in
      let old : List Op = replica.held.history in
      let w : List Op = replica.held.waiting in
      let ops : List Op = all_made past changes in
      let from : All (IsFrom r c) ops = all_from past c changes (omega (arith, next_same)) in
      let unknown : All (IsUnknown old) ops = All-weaker (IsFrom r c) (IsUnknown old) (λ op f. unknown_from r c old op (history_below r old w) f) ops from in
      let apart : All (IsUnknown w) ops = All-weaker (IsFrom r c) (IsUnknown w) (λ op f. unknown_from r c w op (waiting_below r old w) f) ops from in
      let turn : ReadyInTurn past.held.history ops = in_turn ops past.held.history (subst (λ (s : Replica). Lawful s.held.history) changed.gained.others lawful) in
      let beside : IsBeside replica.hold replica.most old w past.held.history old = record { lawful = sound.lawful; part = past_part; own = λ i k. inl k } in
      let all = all_taken replica.hold replica.most old w ops past.held.history old beside settled turn unknown apart place in
      subst (ComesAfterAccepted replica.held ops) (sym all.state)
      (record {
        behind = join_at_end old (lacking_ops old ops);
        each = All-weaker (λ op. has_op (history_with past.held.history ops) op ≡ true) (λ op. has_op (history_with old (lacking_ops old ops)) op ≡ true)
            (λ op m. all.part op m) ops (all_in ops past.held.history);
        had = All-weaker (IsUnknown old) (λ op. has_op old op ≡ true → (x : Identifier) × (op ≡ Delete x)) (λ op u m. is_delete old op sound.lawful u m) ops unknown;
        waiting = refl;
      })

  revises_after : (draft : List ℕ) (outcome : Outcome) → Suffices past outcome → Revises past draft outcome → MeetsNoLimit replica.hold replica.most replica.held outcome.saved
      → ComesAfterAccepted replica.held outcome.saved (held_from replica.hold replica.most replica.held outcome.saved)
  revises_after draft outcome suffices revises place =
      let makes = revises.revised.makes in
      let joined : accepted past.held.history ++ outcome.saved ≡ accepted past.held.history ++ all_made past makes.changes =
      ap (λ (o : Outcome). accepted past.held.history ++ o.saved) revises.outcome_is ∙ sym revises.made_are ∙ makes.changed.gained.accepted_are in
      let saved : outcome.saved ≡ all_made past makes.changes = append_cancel_left (accepted past.held.history) outcome.saved (all_made past makes.changes) joined in
      let held : held_from past.hold past.most past.held outcome.saved ≡ revises.last.held = suffices.same_state ∙ ap (λ (o : Outcome). o.held) revises.outcome_is in
      let lawful : Lawful revises.last.held.history = subst (λ (s : Held). Lawful s.history) held (held_lawful past.hold past.most past.held outcome.saved past_lawful) in
      subst (λ l. ComesAfterAccepted replica.held l (held_from replica.hold replica.most replica.held l)) (sym saved)
      (changes_after revises.last makes.changes makes.changed lawful (subst (MeetsNoLimit replica.hold replica.most replica.held) saved place))

  pub comes_after : (draft : List ℕ) (outcome : Outcome) → Suffices past outcome → IsHandedBack past draft outcome ⊎ Revises past draft outcome
      → MeetsNoLimit replica.hold replica.most replica.held outcome.saved
      → ComesAfterAccepted replica.held outcome.saved (held_from replica.hold replica.most replica.held outcome.saved)
  comes_after draft outcome suffices (inl back) place =
      subst (λ (o : Outcome). ComesAfterAccepted replica.held o.saved (held_from replica.hold replica.most replica.held o.saved)) (sym back.outcome_is) (none_after replica.held)
  comes_after draft outcome suffices (inr revises) place = revises_after draft outcome suffices revises place
