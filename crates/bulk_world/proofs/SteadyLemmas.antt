-- Each turn makes one operation: no edit is refused as long as there is room.
use Rattle.std.proofs.Common.{Bool, List, [], ap, append-nil, arith, drop, false, inl, inr, length, nat_eq, nat_lt, refl, slice_get, subst, sym, take, true, ◌%◌, ◌+◌, ◌++◌, ◌-◌}
use Rattle.std.proofs.Common.{◌<◌, ◌^◌, ◌∙◌, ◌∷◌, ◌≡◌, ◌≤◌, ℕ, suc, zero}
use Rattle.std.specs.Prelude.{All, None, Option, Some, filter, flat_map, if◌then◌else◌, is_some, map, option_to_list}
use Rattle.std.proofs.lemmas.Bool.{cases_lt, eqb-true, le-ltb, true≢false}
use Rattle.std.proofs.lemmas.List.Elements.{All-append, All-cons, All-drop, All-head, All-map, All-nil, All-tail, All-take, All-weaker}
use Rattle.std.proofs.lemmas.Nat.{mod_below}
use Rattle.fugue_ids.specs.Identifiers.{Identifier}
use Rattle.fugue_ids.specs.declared.op.Op.{Op}
use Rattle.fugue_ids.specs.declared.op.Op.TheVariants.{Delete, Text}
use Rattle.fugue_ids.specs.declared.limits.TheConstants.{MOST_OPERATIONS}
use Rattle.origin_model.specs.declared.operations.Place.TheVariants.{Catalogue as catalogue, Section as within}
use Rattle.origin_model.specs.declared.operations.Role.{Role}
use Rattle.fugue_ids.specs.Ops.{id_of}
use Rattle.origin_model.specs.declared.edit_fault.EditFault.TheVariants.{IdsSpent, TooMany}
use Rattle.list_spec.proofs.PoolLemmas.{IsBy}
use Rattle.origin_model.specs.declared.operations.Verdict.TheVariants.{Ready}
use Rattle.origin_model.specs.operations.Counters.{counters, mentioned_ids}
use Rattle.origin_model.specs.operations.History.{holder, holds}
use Rattle.origin_model.specs.operations.Verdict.{Lawful, first_missing, names, verdict}
use Rattle.origin_model.specs.order.Printed.{shown, text}
use Rattle.origin_model.specs.edits.Edits.{Cut, IsEdit, Put, above_all, deletes_of, id_at, left_for, made, next_counter, right_for}
use Rattle.origin_model.proofs.SharedLemmas.{missing-held, when_ready}
use Rattle.origin_model.proofs.edits.CutLemmas.{cut_takes}
use Rattle.origin_model.proofs.edits.EditedTextLemmas.{text_length}
use Rattle.origin_model.proofs.edits.FreshIdLemmas.{above_below, BelowAll, counters_below, held_below, history_below, IsBelow, none_from}
use Rattle.origin_model.proofs.edits.MadeLemmas.{cut_made, put_made}
use Rattle.origin_model.proofs.edits.PutLemmas.{put_lands}
use Rattle.origin_model.specs.edits.State.{State}
use Rattle.origin_model.specs.edits.Refusal.{held_count, in_range, in_section, next_of_own, refusal_message, refused_elements, refused_ops, shown_count}
use Rattle.list_spec.specs.Worlds.{effect}
use Rattle.list_spec.proofs.CallLemmas.{range_none}
use Rattle.list_spec.proofs.EffectLemmas.{made_whole}
use Rattle.bulk_world.specs.Generator.{drawn_command, cuts, letter}
use Rattle.bulk_world.specs.Turns.{first_text}
use Rattle.bulk_world.proofs.MergeLemmas.{IsOf, quiet}
use Rattle.bulk_world.proofs.TurnLemmas.{asked, numbered}

abbrev pub section_id : Identifier
section_id = id_at 1 0

-- an author with whom nothing waits
abbrev pub quiet_author : ℕ → List Op → State
quiet_author n h = numbered n (quiet h)

-- the number of who made an element
abbrev IsFrom : ℕ → Identifier → Type 0
IsFrom n x = x.replica ≡ n

-- an author in the midst of the turns: the section alone is shown, and of it elements of its own alone
pub record IsSteady (n : ℕ) (h : List Op) : Type 0 where
  pub lawful : Lawful h
  pub section : shown catalogue h ≡ section_id ∷ []
  pub own : All (IsFrom n) (shown (within section_id) h)
  pub counters : next_counter n h [] ≤ length h

next_within : (r c : ℕ) (h : List Op) → BelowAll r c h → next_counter r h [] ≤ c
next_within r c h a = omega (arith, ap (λ l. above_all (counters r l)) (append-nil h), above_below (counters r h) c (counters_below r c (flat_map mentioned_ids h) a))

-- what is named is held
held_or_not : (h : List Op) (n : Identifier × Role) (ns : List (Identifier × Role)) (o : Option Op) → holder h n.0 ≡ o → first_missing h (n ∷ ns) ≡ None
    → (holds h n.0 ≡ true) × (first_missing h ns ≡ None)
held_or_not h n ns None f e =
    let gone : first_missing h (n ∷ ns) ≡ Some n.0 = ap (λ (o : Option Op). elim o [ None ↦ Some n.0 | Some op ↦ first_missing h ns ]) f in
    let clash : Some n.0 ≡ None = sym gone ∙ e in cc clash
held_or_not h n ns (Some op) f e = (ap is_some f, sym (missing-held h n ns op f) ∙ e)

all_held : (h : List Op) (ns : List (Identifier × Role)) → first_missing h ns ≡ None → All (λ n. holds h n.0 ≡ true) ns
all_held h [] e = All-nil (λ n. holds h n.0 ≡ true)
all_held h (n ∷ ns) e =
    let k = held_or_not h n ns (holder h n.0) refl e in
    All-cons (λ n. holds h n.0 ≡ true) n ns k.0 (all_held h ns k.1)

-- a Ready operation mentions nothing further but its own identifier
names_below : (n : ℕ) (h : List Op) (op : Op) → verdict h op ≡ Ready → All (IsBelow n (suc (next_counter n h []))) (map (λ named. named.0) (names op))
names_below n h op ready =
    let c : ℕ = next_counter n h [] in
    All-map (IsBelow n (suc c)) (λ (named : Identifier × Role). named.0) (names op)
    (All-weaker (λ (named : Identifier × Role). holds h named.0 ≡ true) (λ (named : Identifier × Role). IsBelow n (suc c) named.0)
    (λ named k own. let l : named.0.counter < c = held_below n c h named.0 (history_below n h []) k own in omega (arith, l)) (names op)
    (all_held h (names op) (when_ready h op ready).none_missing))

older_below : (n : ℕ) (h : List Op) → BelowAll n (suc (next_counter n h [])) h
older_below n h =
    let c : ℕ = next_counter n h [] in
    All-weaker (IsBelow n c) (IsBelow n (suc c)) (λ i b own. let l : i.counter < c = b own in omega (arith, l)) (flat_map mentioned_ids h) (history_below n h [])

-- so the next counter rises by one at most
counters_more : (n : ℕ) (h : List Op) (op : Op) → verdict h op ≡ Ready → All (IsBelow n (suc (next_counter n h []))) (option_to_list (id_of op)) → next_counter n h [] ≤ length h
    → next_counter n (op ∷ h) [] ≤ length (op ∷ h)
counters_more n h op ready id l =
    let P : Identifier → Type 0 = IsBelow n (suc (next_counter n h [])) in
    let all : BelowAll n (suc (next_counter n h [])) (op ∷ h) =
    All-append P (mentioned_ids op) (flat_map mentioned_ids h) (All-append P (option_to_list (id_of op)) (map (λ named. named.0) (names op)) id (names_below n h op ready))
    (older_below n h) in
    omega (arith, next_within n (suc (next_counter n h [])) (op ∷ h) all, l)

-- what a turn makes: one operation, and the author goes on
pub record IsOneStep (n : ℕ) (h : List Op) (ops : List Op) : Type 0 where
  pub op : Op
  pub is : ops ≡ op ∷ []
  pub ready : verdict h op ≡ Ready
  pub by : IsBy n op
  pub of : IsOf n op
  pub steady : IsSteady n (op ∷ h)

-- an edit of the section that makes one operation
by_edit : (n : ℕ) (h ops : List Op) (op : Op) (at k : ℕ) (ids : List Identifier) → ops ≡ op ∷ [] → IsSteady n h → IsEdit (within section_id) h ops at k ids → All (IsFrom n) ids
    → IsBy n op → IsOf n op
    → All (IsBelow n (suc (next_counter n h []))) (option_to_list (id_of op)) → IsOneStep n h ops
by_edit n h ops op at k ids is s edit new by of id =
    let e : IsEdit (within section_id) h (op ∷ []) at k ids = subst (λ o. IsEdit (within section_id) h o at k ids) is edit in
    let list : List Identifier = shown (within section_id) h in
    record {
      op = op;
      is = is;
      ready = e.ready.0;
      by = by;
      of = of;
      steady = record {
        lawful = e.lawful;
        section = e.elsewhere catalogue (λ same. cc same) ∙ s.section;
        own = subst (All (IsFrom n)) (sym e.here)
            (All-append (IsFrom n) (take at list ++ ids) (drop (at + k) list) (All-append (IsFrom n) (take at list) ids (All-take (IsFrom n) at list s.own) new)
            (All-drop (IsFrom n) (at + k) list s.own));
        counters = counters_more n h op e.ready.0 id s.counters;
      };
    }

-- the section is the first
module _ (n : ℕ) (h : List Op) (s : IsSteady n h) where
  there : slice_get (shown catalogue h) 0 ≡ Some section_id
  there = ap (λ l. slice_get l 0) s.section

  abbrev shown_scalars : ℕ
  shown_scalars = length (shown (within section_id) h)

  abbrev text_at : Option Identifier → List ℕ
  text_at o = elim o [ None ↦ [] | Some x ↦ text h x ]

  text_is : length (first_text (quiet_author n h)) ≡ shown_scalars
  text_is = ap (λ o. length (text_at o)) there ∙ text_length h section_id s.lawful

  module _ (room : length h + 1 ≤ MOST_OPERATIONS) where
    ops_fit : refused_ops (quiet_author n h) 1 ≡ None
    ops_fit = ap (λ b. if b then Some (TooMany (held_count (quiet_author n h))) else None) (le-ltb MOST_OPERATIONS (held_count (quiet_author n h) + 1) (omega (arith, room)))

    few_counters : nat_lt (2 ^ 32) (next_of_own (quiet_author n h) + 1) ≡ false
    few_counters = le-ltb (2 ^ 32) (next_of_own (quiet_author n h) + 1) (omega (arith, room, s.counters))

    elements_fit : refused_elements (quiet_author n h) 1 ≡ None
    elements_fit = ap (λ b. if b then Some (IdsSpent (next_of_own (quiet_author n h) - 1)) else refused_ops (quiet_author n h) 1) few_counters ∙ ops_fit

    -- a letter that is put
    put_step : (at ch : ℕ) → at ≤ shown_scalars → IsOneStep n h (effect (quiet_author n h) (Put 0 at (ch ∷ [])))
    put_step at ch l =
        let c : ℕ = next_counter n h [] in
        let new : List ℕ = ch ∷ [] in
        let allowed : refusal_message (quiet_author n h) (Put 0 at new) ≡ None =
        ap (λ o. in_section o (λ x. in_range at (shown_count (quiet_author n h) (within x)) (refused_elements (quiet_author n h) 1))) there
        ∙ range_none at shown_scalars (refused_elements (quiet_author n h) 1) l elements_fit in
        let is : effect (quiet_author n h) (Put 0 at new) ≡ made n h [] (Put 0 at new) = made_whole (Put 0 at new) (quiet_author n h) allowed in
        subst (IsOneStep n h) (sym is)
        (by_edit n h (made n h [] (Put 0 at new)) (Text (id_at n c) section_id (left_for (within section_id) h at) (right_for (within section_id) h at) ch) at 0 (id_at n c ∷ [])
        (put_made n h [] 0 section_id at new there) s (put_lands n h [] 0 at new section_id s.lawful there l).0
        (All-cons (IsFrom n) (id_at n c) [] refl (All-nil (IsFrom n))) refl refl
        (All-cons (IsBelow n (suc c)) (id_at n c) [] (λ own. omega arith) (All-nil (IsBelow n (suc c)))))

    -- the member at a position
    drop_some : (list : List Identifier) (at : ℕ) → at < length list → (x : Identifier) × (rest : List Identifier) × (drop at list ≡ x ∷ rest)
    drop_some [] at l = absurd (omega (arith, l))
    drop_some (x ∷ list) zero l = (x, list, refl)
    drop_some (x ∷ list) (suc at) l = drop_some list at (omega (arith, l))

    -- a scalar that is cut
    cut_step : (at : ℕ) → at < shown_scalars → IsOneStep n h (effect (quiet_author n h) (Cut 0 at 1))
    cut_step at l =
        let list : List Identifier = shown (within section_id) h in
        let d = drop_some list at l in
        let allowed : refusal_message (quiet_author n h) (Cut 0 at 1) ≡ None =
        ap (λ o. in_section o (λ x. in_range (at + 1) (shown_count (quiet_author n h) (within x)) (refused_ops (quiet_author n h) 1))) there
        ∙ range_none (at + 1) shown_scalars (refused_ops (quiet_author n h) 1) (omega (arith, l)) ops_fit in
        let is : effect (quiet_author n h) (Cut 0 at 1) ≡ made n h [] (Cut 0 at 1) = made_whole (Cut 0 at 1) (quiet_author n h) allowed in
        let one : made n h [] (Cut 0 at 1) ≡ Delete d.0 ∷ [] = cut_made n h [] 0 section_id at 1 there ∙ ap (λ k. deletes_of (take 1 k)) d.2 in
        let own : IsFrom n d.0 = All-head (IsFrom n) d.0 d.1 (subst (All (IsFrom n)) d.2 (All-drop (IsFrom n) at list s.own)) in
        subst (IsOneStep n h) (sym is)
        (by_edit n h (made n h [] (Cut 0 at 1)) (Delete d.0) at 1 [] one s (cut_takes n h [] 0 at 1 section_id s.lawful there).0 (All-nil (IsFrom n)) tt own
        (All-nil (IsBelow n (suc (next_counter n h [])))))

    -- whatever the number asks
    pub one_step : (y : ℕ) → IsOneStep n h (effect (quiet_author n h) (asked y (quiet_author n h)))
    one_step y = subst (λ m. IsOneStep n h (effect (quiet_author n h) (drawn_command y m))) (sym text_is) (by_test (cuts y shown_scalars) refl)
      where
        by_test : (b : Bool) → cuts y shown_scalars ≡ b
            → IsOneStep n h (effect (quiet_author n h) (if b then Cut 0 (y % shown_scalars) 1 else Put 0 (y % (shown_scalars + 1)) (letter y ∷ [])))
        by_test true t = cut_step (y % shown_scalars) (mod_below y shown_scalars (some_shown shown_scalars t))
          where
            some_shown : (m : ℕ) → cuts y m ≡ true → 0 < m
            some_shown zero t = cc t
            some_shown (suc m) t = omega arith
        by_test false t = put_step (y % (shown_scalars + 1)) (letter y)
            (let l : y % (shown_scalars + 1) < shown_scalars + 1 = mod_below y (shown_scalars + 1) (omega arith) in omega (arith, l))
