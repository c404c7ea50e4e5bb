-- Each operation of a revision is Ready in its turn, so a revision leaves a lawful history.
use Rattle.std.proofs.Common.{List, [], drop, refl, subst, suc, take, zero, ℕ, ◌+◌, ◌++◌, ◌∷◌, ◌≡◌, inl, inr}
use Rattle.std.specs.Prelude.{All, None, Option, Some, option_map, option_to_list}
use Rattle.std.specs.List.{Contains}
use Rattle.std.specs.Str.{encode_utf8_all}
use Rattle.std.proofs.lemmas.List.{take-append-drop}
use Rattle.std.proofs.lemmas.List.Elements.{All-append, All-cons, All-nil, Contains-append_cases, Contains-append_left, Contains-append_right}
use Rattle.fugue_ids.specs.Identifiers.{Identifier}
use Rattle.fugue_ids.specs.declared.op.Op.{Op}
use Rattle.origin_model.specs.declared.operations.Place.TheVariants.{Catalogue as catalogue}
use Rattle.origin_model.specs.edits.Edits.{ReadyInTurn, history_with, in_front}
use Rattle.origin_model.specs.edits.Landing.{following}
use Rattle.origin_model.specs.edits.Noting.{AreHeld}
use Rattle.origin_model.specs.edits.Refusal.{refusal_message}
use Rattle.origin_model.specs.edits.State.{State}
use Rattle.origin_model.specs.operations.Verdict.{Lawful}
use Rattle.origin_model.specs.order.Order.{order}
use Rattle.origin_model.proofs.edits.MadeLemmas.{ready-append, ready_lawful}
use Rattle.origin_model.proofs.edits.NotedLemmas.{noted_ready}
use Rattle.origin_model.proofs.edits.RefusalLemmas.{made_ready}
use Rattle.catalogue_notes.specs.Arranged.{arranged, position}
use Rattle.catalogue_notes.specs.Lift.{lift, stamp}
use Rattle.catalogue_notes.specs.Making.{left_of_move, move_body, move_names, origins_for, retitle_body, without_member}
use Rattle.catalogue_notes.specs.Moving.{move_by, retitle_by, section_placed}
use Rattle.catalogue_notes.specs.declared.limits.TheConstants.{MOVE_CODE, RETITLE_CODE}
use Rattle.catalogue_notes.proofs.ArrangedLemmas.{arranged_shown, position_in, shown_is}
use Rattle.catalogue_notes.proofs.HolderLemmas.{IsHeld, are_held}
use Rattle.catalogue_notes.proofs.LiftLemmas.{lift_lawful, lifted_from, order_held}
use Rattle.catalogue_notes.proofs.PartLemmas.{following_in}
use Rattle.draft_plan.specs.Changes.{AreAllowed, PlanChange, Edit, Move, Retitle, all_made, replica_after, change_refusal, made_of}
use Rattle.draft_plan.specs.declared.fault.ReviseFault.TheVariants as fault
use Rattle.origin_model.proofs.edits.SplitLemmas.{get_in}

module _ (h : List Op) (w : Lawful h) where
  -- ---- what a move names is held
  section_held : (s : Identifier) → Contains (arranged h) s → IsHeld h s
  section_held s m = let f = shown_is h s w (arranged_shown h s m) in (f.0, f.1)

  lifted_held : (x : Identifier) → Contains (order catalogue (lift h)) x → IsHeld h x
  lifted_held x m =
      let o = order_held (lift h) x (lift_lawful h w) m in
      let f = lifted_from h x o.0 w o.1 in
      (f.0, f.1)

  without_in : (xs : List Identifier) (k : ℕ) (x : Identifier) → Contains (without_member xs k) x → Contains xs x
  without_in xs k x m =
      elim (Contains-append_cases (take k xs) (drop (suc k) xs) x m) [
        | inl a ↦ subst (λ z. Contains z x) (take-append-drop k xs) (Contains-append_left (take k xs) (drop k xs) x a)
        | inr b ↦ subst (λ z. Contains z x) (take-append-drop (suc k) xs) (Contains-append_right (take (suc k) xs) (drop (suc k) xs) x b)
      ]

  front_in : (xs : List Identifier) (j : ℕ) (x : Identifier) → in_front xs j ≡ Some x → Contains xs x
  front_in xs zero x e = cc e
  front_in xs (suc i) x e = get_in xs i x e

  left_held : (k j : ℕ) → All (IsHeld h) (option_to_list (left_of_move h k j))
  left_held k j = by (in_front (without_member (arranged h) k) j) refl
    where
      by : (o : Option Identifier) → in_front (without_member (arranged h) k) j ≡ o → All (IsHeld h) (option_to_list (option_map (position h) o))
      by None e = All-nil (IsHeld h)
      by (Some t) e =
          let m : Contains (arranged h) t = without_in (arranged h) k t (front_in (without_member (arranged h) k) j t e) in
          All-cons (IsHeld h) (position h t) [] (lifted_held (position h t) (position_in h t w (shown_is h t w (arranged_shown h t m)))) (All-nil (IsHeld h))

  right_held : (l : Option Identifier) → All (IsHeld h) (option_to_list (following (order catalogue (lift h)) l))
  right_held l = by (following (order catalogue (lift h)) l) refl
    where
      by : (o : Option Identifier) → following (order catalogue (lift h)) l ≡ o → All (IsHeld h) (option_to_list o)
      by None e = All-nil (IsHeld h)
      by (Some r) e = All-cons (IsHeld h) r [] (lifted_held r (following_in (order catalogue (lift h)) l r e)) (All-nil (IsHeld h))

  move_held : (s : Identifier) (k j : ℕ) → Contains (arranged h) s → AreHeld h (move_names s (origins_for h k j))
  move_held s k j m =
      let o = origins_for h k j in
      are_held h (move_names s o)
      (All-cons (IsHeld h) s (option_to_list o.left ++ option_to_list o.right) (section_held s m)
      (All-append (IsHeld h) (option_to_list o.left) (option_to_list o.right) (left_held k j) (right_held o.left)))

-- ---- a change that is allowed
none_refused : {A B : Type 0} (f : A → B) (o : Option A) → option_map f o ≡ None → o ≡ None
none_refused f None e = refl
none_refused f (Some a) e = cc e

change_ready : (s : State) (change : PlanChange) → Lawful s.held.history → change_refusal s change ≡ None → ReadyInTurn s.held.history (made_of s change)
change_ready s (Edit command) w e = made_ready command s w (none_refused fault.Edit (refusal_message s command) e)
change_ready s (Move k j) w e = by (section_placed s k) refl
  where
    by : (o : Option Identifier) → section_placed s k ≡ o → ReadyInTurn s.held.history (elim o [ None ↦ [] | Some section ↦ move_by s section k j ∷ [] ])
    by None is = tt
    by (Some section) is = (
      noted_ready s.number s.held.history s.held.waiting (move_names section (origins_for s.held.history k j)) MOVE_CODE
          (move_body (stamp s.held.history + 1) (origins_for s.held.history k j)) w
          (move_held s.held.history w section k j (get_in (arranged s.held.history) k section is)),
      tt,
    )
change_ready s (Retitle k title) w e = by (section_placed s k) refl
  where
    by : (o : Option Identifier) → section_placed s k ≡ o → ReadyInTurn s.held.history (elim o [ None ↦ [] | Some section ↦ retitle_by s section title ∷ [] ])
    by None is = tt
    by (Some section) is = (
      noted_ready s.number s.held.history s.held.waiting (section ∷ []) RETITLE_CODE (retitle_body (stamp s.held.history + 1) (encode_utf8_all title)) w
          (are_held s.held.history (section ∷ [])
          (All-cons (IsHeld s.held.history) section [] (section_held s.held.history w section (get_in (arranged s.held.history) k section is))
          (All-nil (IsHeld s.held.history)))),
      tt,
    )

-- ---- all of them
all_ready : (s : State) (changes : List PlanChange) → Lawful s.held.history → AreAllowed s changes → ReadyInTurn s.held.history (all_made s changes)
all_ready s [] w a = tt
all_ready s (change ∷ changes) w a =
    let one = change_ready s change w a.0 in
    ready-append s.held.history (made_of s change) (all_made (replica_after s change) changes) one
    (all_ready (replica_after s change) changes (ready_lawful s.held.history (made_of s change) w one) a.1)

pub changes_lawful : (s : State) (changes : List PlanChange) → Lawful s.held.history → AreAllowed s changes → Lawful (history_with s.held.history (all_made s changes))
changes_lawful s changes w a = ready_lawful s.held.history (all_made s changes) w (all_ready s changes w a)
