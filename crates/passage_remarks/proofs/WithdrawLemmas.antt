-- The Delete of a remark's comment, and what a replica answers to it.
use Rattle.std.proofs.Common.{List, [], zero, ap, arith, false, inl, inr, length, refl, subst, suc, sym, true, ◌+◌, ◌∙◌, ◌∷◌, ◌≡◌, ◌≤◌, ℕ}
use Rattle.std.proofs.Common.{◌-◌}
use Rattle.std.specs.Prelude.{Bool, Err, IfSome, Result, ◌⊎◌, Ok, None, Option, Some, if◌then◌else◌, nat_eq, nat_lt, option_map, slice_get, ◌||◌}
use Rattle.std.specs.List.{Contains}
use Rattle.std.proofs.lemmas.List.{reverse-append}
use Rattle.std.proofs.lemmas.Bool.{eqb-true}
use Rattle.std.proofs.lemmas.Bool.Decides.{nat_tests}
use Rattle.fugue_ids.specs.Identifiers.{Identifier}
use Rattle.fugue_ids.specs.Ops.{id_of}
use Rattle.fugue_ids.specs.declared.op.Op.{Op}
use Rattle.fugue_ids.specs.declared.op.Op.TheVariants.{Delete}
use Rattle.fugue_ids.proofs.ListLemmas.{contains_cases, contains_here, contains_none, contains_there}
use Rattle.origin_model.specs.declared.operations.Verdict.TheVariants.{Ready}
use Rattle.origin_model.specs.declared.edit_fault.EditFault.TheVariants as edit
use Rattle.origin_model.specs.edits.Effect.{Gains, with_ops}
use Rattle.origin_model.specs.edits.Refusal.{held_count, refused_ops}
use Rattle.origin_model.specs.edits.State.{State}
use Rattle.origin_model.specs.operations.History.{accepted, holds}
use Rattle.origin_model.specs.operations.Verdict.{verdict}
use Rattle.origin_model.specs.taking.Taking.{Accepted, Again, Answer, Held, IsSettled, TooMany, answer, answer_by, is_again, held_after}
use Rattle.origin_model.proofs.SharedLemmas.{holds-older, holds-own, is_own-id, ready_absent, shown_can_go}
use Rattle.origin_model.proofs.edits.EditIntakeLemmas.{not_waiting}
use Rattle.origin_model.proofs.edits.FreshIdLemmas.{delete_unknown}
use Rattle.origin_model.proofs.edits.UndecidedLemmas.{stays}
use Rattle.replica_core.specs.Answering.{Answers}
use Rattle.replica_core.specs.declared.replica.Taken.{Taken}
use Rattle.replica_core.specs.declared.replica.Taken.TheVariants.{Accepted as TakenAccepted, Again as TakenAgain, Waits as TakenWaits}
use Rattle.margin_notes.proofs.MemberLemmas.{comment_says, from_comments}
use Rattle.passage_remarks.specs.Remarks.{Remark, remarks}
use Rattle.passage_remarks.specs.Withdrawing.{RefusesWithdrawal, as_withdraw_fault, remark_numbered, withdraw_refusal}
use Rattle.passage_remarks.specs.declared.withdrawing.WithdrawFault.{WithdrawFault}
use Rattle.passage_remarks.specs.declared.withdrawing.WithdrawFault.TheVariants.{NoComment, NoMemory}
use Rattle.passage_remarks.proofs.LawLemmas.{remark_is}

-- what is in a list by its place is a member
member : (rs : List Remark) (n : ℕ) (r : Remark) → slice_get rs n ≡ Some r → Contains rs r
member [] n r e = cc
member (x ∷ rs) zero r e = let d : x ≡ r = cc in subst (Contains (x ∷ rs)) d (contains_here x rs)
member (x ∷ rs) (suc n) r e = contains_there x rs r (member rs n r e)

-- an operation of a history is held by its identifier
member_held : (h : List Op) (op : Op) (i : Identifier) → Contains h op → id_of op ≡ Some i → holds h i ≡ true
member_held [] op i m e = absurd (contains_none op m)
member_held (o ∷ h) op i m e =
    elim (contains_cases o h op m) [ inl d ↦ holds-own o h i (is_own-id o i (ap id_of d ∙ e)) | inr k ↦ holds-older o h i (member_held h op i k e) ]

-- the comment of a remark can be withdrawn
pub can_go : (h : List Op) (n : ℕ) (r : Remark) → remark_numbered h n ≡ Some r → verdict h (Delete r.id) ≡ Ready
can_go h n r e =
    let i = remark_is h r (member (remarks h) (n - 1) r e) in
    let c = from_comments h r.section i.comment i.listed in
    let own : i.comment.id ≡ r.id = sym (ap (λ (x : Remark). x.id) i.says) in
    subst (λ x. verdict h (Delete x) ≡ Ready) own (shown_can_go h i.comment.id (member_held h c.op i.comment.id c.member (comment_says c.op i.comment c.says).own) c.not_withdrawn)

-- a Delete that is Ready is accepted where there is room
pub answered : (hold most : ℕ) (s : Held) (x : Identifier) → IsSettled s → verdict s.history (Delete x) ≡ Ready
    → answer hold most s (Delete x) ≡ (if nat_eq (length s.history + length s.waiting) most then TooMany else Accepted)
answered hold most s x settled ready =
    let again : is_again s (Delete x) ≡ false = λ i. ready_absent s.history (Delete x) ready i || not_waiting s.history s.waiting (Delete x) settled ready i in
    let full : Bool = nat_eq (length s.history + length s.waiting) most in
    (λ i. if again i then Again else answer_by full (nat_eq (length s.waiting) hold) (ready i))
    ∙ elim full as (λ (b : Bool). answer_by b (nat_eq (length s.waiting) hold) Ready ≡ (if b then TooMany else Accepted)) [ true ↦ refl | false ↦ refl ]

-- so it was accepted where the answer is no refusal
pub room_left : (hold most : ℕ) (op : Op) (a : Answer) (t : Taken) (full : Bool) → Answers hold most op a (Ok t) → a ≡ (if full then TooMany else Accepted) → full ≡ false
room_left hold most op a t false reported is = refl
room_left hold most op a TakenAccepted true reported is = let no_way : TooMany ≡ Accepted = sym is ∙ reported in cc
room_left hold most op a TakenWaits true reported is = let no_way = sym is ∙ reported in cc
room_left hold most op a TakenAgain true reported is = let no_way = sym is ∙ reported in cc

-- the remark whose comment was found
pub numbered : (o : Option Remark) (x : Identifier) → Some x ≡ option_map (λ (r : Remark). r.id) o → (r : Remark) × (o ≡ Some r) × (r.id ≡ x)
numbered None x e = cc
numbered (Some r) x e = let d : x ≡ r.id = cc in (r, refl, sym d)

-- there is room where as many are not held as may be
pub room_is : (count most : ℕ) → nat_eq count most ≡ false → count ≤ most → nat_lt most (count + 1) ≡ false
room_is count most n l = grind (arith, nat_tests)

-- and none where they are
pub no_room : (count most : ℕ) → nat_eq count most ≡ true → nat_lt most (count + 1) ≡ true
no_room count most e = grind (arith, nat_tests)

-- the Delete was accepted: there was room for it, it was gained, and nothing that waits is decided by it
pub record IsAccepted (old new : State) (x : Identifier) : Type 0 where
  pub room : refused_ops old 1 ≡ None
  pub gained : Gains old new (Delete x ∷ [])
  pub settled : IsSettled new.held

pub is_accepted : (old new : State) (x : Identifier) (t : Taken) → length old.held.history + length old.held.waiting ≤ old.most → IsSettled old.held
    → verdict old.held.history (Delete x) ≡ Ready
    → Answers old.hold old.most (Delete x) (answer old.hold old.most old.held (Delete x)) (Ok t)
    → new ≡ record old { held = held_after (answer old.hold old.most old.held (Delete x)) old.held (Delete x) }
    → IsAccepted old new x
is_accepted old new x t few settled ready reported is =
    let h : List Op = old.held.history in
    let w : List Op = old.held.waiting in
    let a = answered old.hold old.most old.held x settled ready in
    let full = room_left old.hold old.most (Delete x) (answer old.hold old.most old.held (Delete x)) t (nat_eq (length h + length w) old.most) reported a in
    let ok : answer old.hold old.most old.held (Delete x) ≡ Accepted = a ∙ ap (λ (b : Bool). if b then TooMany else Accepted) full in
    let now : new ≡ with_ops old (Delete x ∷ []) = is ∙ ap (λ z. record old { held = held_after z old.held (Delete x) }) ok in
    record {
      room = ap (λ (b : Bool). if b then Some (edit.TooMany (held_count old)) else None) (room_is (length h + length w) old.most full few);
      gained = record { accepted_are = ap (λ (s : State). accepted s.held.history) now ∙ reverse-append (Delete x ∷ []) h; others = now };
      settled = subst (λ (s : State). IsSettled s.held) (sym now) (stays (Delete x) h w (delete_unknown w x) settled);
    }

-- where it was refused for want of room, there was none
pub is_full : (old : State) (x : Identifier) → IsSettled old.held → verdict old.held.history (Delete x) ≡ Ready → answer old.hold old.most old.held (Delete x) ≡ TooMany
    → (refused_ops old 1 ≡ Some (edit.TooMany old.most)) × (held_count old ≡ old.most)
is_full old x settled ready reported =
    let count : ℕ = length old.held.history + length old.held.waiting in
    let full : nat_eq count old.most ≡ true = by (nat_eq count old.most) (sym (answered old.hold old.most old.held x settled ready) ∙ reported) in
    let same : count ≡ old.most = eqb-true count old.most full in (
      ap (λ (b : Bool). if b then Some (edit.TooMany count) else None) (no_room count old.most full) ∙ ap (λ n. Some (edit.TooMany n)) same,
      same,
    )
  where
    by : (b : Bool) → (if b then TooMany else Accepted) ≡ TooMany → b ≡ true
    by true e = refl
    by false e = cc

pub withdrawn_ready : (h : List Op) (n : ℕ) (r : Remark) (x : Identifier) → remark_numbered h n ≡ Some r → r.id ≡ x → verdict h (Delete x) ≡ Ready
withdrawn_ready h n r x reported own = subst (λ i. verdict h (Delete i) ≡ Ready) own (can_go h n r reported)

abbrev pub gained_of : (old new : State) → Identifier → Type 0
gained_of old new x = Gains old new (Delete x ∷ [])

-- a remark whose comment can be withdrawn is refused for nothing
pub not_refused : (s : State) (n : ℕ) (r : Remark) → remark_numbered s.held.history n ≡ Some r → refused_ops s 1 ≡ None → RefusesWithdrawal s n (Ok tt)
not_refused s n r reported room =
    let none : withdraw_refusal s n ≡ None =
    ap (λ o. elim o [ None ↦ Some NoComment | Some q ↦ option_map as_withdraw_fault (refused_ops s 1) ]) reported ∙ ap (option_map as_withdraw_fault) room in
    record {
      only = λ fault some e. cc;
      always = subst (λ o. IfSome o
          (λ (fault : WithdrawFault). ◌⊎◌ (◌≡◌ {A = Result (Unit {0}) WithdrawFault} (Ok tt) (Err fault)) (◌≡◌ {A = Result (Unit {0}) WithdrawFault} (Ok tt) (Err NoMemory))))
          (sym none) tt;
    }
