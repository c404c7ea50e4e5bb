-- What a crash may leave at each exit of a write after a gate.
use Rattle.std.proofs.Common.{◌≡◌, inl, inr, ℕ, ◌+◌, List, [], ◌∷◌, length, take, ap, sym, subst, ◌∙◌, arith}
use Rattle.std.specs.Prelude.{Option, Some, None, IfSome, Result, Ok, Err, OnOk, OnErr}
use Rattle.fugue_ids.specs.declared.out.Failed.{Failed}
use Rattle.outer_ports.specs.disk.States.{IsCrashImage, torn_state, wrote, durable}
use Rattle.outer_ports.specs.disk.Moments.{History, history_after_step, past_after_step, LeavesOnly, LeavesOnlyTo, MayHaveWritten}
use Rattle.outer_ports.proofs.SharedLemmas.{image_at_rest}
use Rattle.outer_ports.proofs.SharedLemmas.{leaves_none, leaves_more}
use Rattle.replica_file.specs.Ends.{Agrees}
use Rattle.replica_file.specs.Gates.{IsWrittenAfter, BeforeOrWritten, OpenedTo}
use Rattle.replica_file.proofs.GateLemmas.{agrees_before, behind, front_kept, while_opened, open_gate, once_opened, is_opened}

-- one step more, or none
may_more : (h k : History) (p : Option History) (at n : ℕ) (P : List ℕ → Type 0) → LeavesOnly h k P → MayHaveWritten at n (Some k) p
    → ((seen image : List ℕ) → IsCrashImage (torn_state at n seen k.last) image → P image) → LeavesOnlyTo h p P
may_more h k p at n P leaves may step = elim may [
  | inl is ↦ subst (λ q. LeavesOnlyTo h q P) (sym is) leaves
  | inr torn_so ↦ subst (λ q. LeavesOnlyTo h q P) (sym torn_so.1) (leaves_more P h k (torn_state at n torn_so.0) leaves (step torn_so.0))
]

module _ (gate : ℕ) (bytes : List ℕ) where
  abbrev P : History → List ℕ → Type 0
  P h = BeforeOrWritten h.last.seen gate bytes

  abbrev one : History → History
  one h = history_after_step (wrote (gate + 1) bytes) h

  abbrev two : History → History
  two h = history_after_step durable (one h)

  abbrev three : History → History
  three h = history_after_step (wrote gate (1 ∷ [])) (two h)

  abbrev four : History → History
  four h = history_after_step durable (three h)

  leaves_one : (h : History) → Agrees h.last (gate + 1) → LeavesOnly h (one h) (P h)
  leaves_one h agrees = leaves_more (P h) h h (wrote (gate + 1) bytes) (leaves_none (P h) h)
      (λ image is. inl (agrees_before h.last (gate + 1) (gate + 1) (length bytes) (behind h.last.seen gate bytes agrees.inside) image agrees (omega arith) is))

  leaves_two : (h : History) → Agrees h.last (gate + 1) → LeavesOnly h (two h) (P h)
  leaves_two h agrees = leaves_more (P h) h (one h) durable (leaves_one h agrees)
      (λ image is. inl (ap (take (gate + 1)) (image_at_rest (behind h.last.seen gate bytes agrees.inside) image is) ∙ front_kept h.last.seen gate bytes agrees.inside))

  leaves_three : (h : History) → Agrees h.last (gate + 1) → LeavesOnly h (three h) (P h)
  leaves_three h agrees = leaves_more (P h) h (two h) (wrote gate (1 ∷ [])) (leaves_two h agrees)
      (λ image is. inr (while_opened h.last.seen gate bytes agrees.inside (open_gate h.last.seen gate bytes agrees.inside) image is))

  leaves_four : (h : History) → Agrees h.last (gate + 1) → LeavesOnly h (four h) (P h)
  leaves_four h agrees = leaves_more (P h) h (three h) durable (leaves_three h agrees)
      (λ image is. inr (subst (IsWrittenAfter h.last.seen gate bytes) (sym (image_at_rest (open_gate h.last.seen gate bytes agrees.inside) image is))
      (once_opened h.last.seen gate bytes agrees.inside)))

  pub at_write : (old p : Option History) → IfSome old (λ h. Agrees h.last (gate + 1)) → MayHaveWritten (gate + 1) (length bytes) old p → IfSome old (λ h. LeavesOnlyTo h p (P h))
  at_write None p agrees may = tt
  at_write (Some h) p agrees may = may_more h h p (gate + 1) (length bytes) (P h) (leaves_none (P h) h) may
      (λ seen image is. inl (agrees_before h.last (gate + 1) (gate + 1) (length bytes) seen image agrees (omega arith) is))

  pub at_sync : (old p q : Option History) → IfSome old (λ h. Agrees h.last (gate + 1)) → p ≡ past_after_step (wrote (gate + 1) bytes) old → q ≡ p
      → IfSome old (λ h. LeavesOnlyTo h q (P h))
  at_sync None p q agrees wrote_so stays = tt
  at_sync (Some h) p q agrees wrote_so stays = subst (λ r. LeavesOnlyTo h r (P h)) (sym (stays ∙ wrote_so)) (leaves_one h agrees)

  pub at_open : (old p q r : Option History) → IfSome old (λ h. Agrees h.last (gate + 1)) → p ≡ past_after_step (wrote (gate + 1) bytes) old → q ≡ past_after_step durable p
      → MayHaveWritten gate 1 q r → IfSome old (λ h. LeavesOnlyTo h r (P h))
  at_open None p q r agrees wrote_so settled_so may = tt
  at_open (Some h) p q r agrees wrote_so settled_so may =
      let is : q ≡ Some (two h) = settled_so ∙ ap (past_after_step durable) wrote_so in
      may_more h (two h) r gate 1 (P h) (leaves_two h agrees) (subst (λ o. MayHaveWritten gate 1 o r) is may)
      (λ seen image im. inr (while_opened h.last.seen gate bytes agrees.inside seen image im))

  all_four : (old p q r t : Option History) → p ≡ past_after_step (wrote (gate + 1) bytes) old → q ≡ past_after_step durable p → r ≡ past_after_step (wrote gate (1 ∷ [])) q
      → t ≡ past_after_step durable r
      → t ≡ past_after_step durable (past_after_step (wrote gate (1 ∷ [])) (past_after_step durable (past_after_step (wrote (gate + 1) bytes) old)))
  all_four old p q r t wrote_so settled_so opened_so ends =
      ends ∙ ap (past_after_step durable) (opened_so ∙ ap (past_after_step (wrote gate (1 ∷ []))) (settled_so ∙ ap (past_after_step durable) wrote_so))

  pub at_end : (old p q r t : Option History) (result : Result (Unit {0}) Failed) → IfSome old (λ h. Agrees h.last (gate + 1)) → p ≡ past_after_step (wrote (gate + 1) bytes) old
      → q ≡ past_after_step durable p
      → r ≡ past_after_step (wrote gate (1 ∷ [])) q → OnOk result (t ≡ past_after_step durable r) → OnErr result (t ≡ r) → IfSome old (λ h. LeavesOnlyTo h t (P h))
  at_end None p q r t result agrees wrote_so settled_so opened_so ends stays = tt
  at_end (Some h) p q r t (Ok x) agrees wrote_so settled_so opened_so ends stays =
      subst (λ o. LeavesOnlyTo h o (P h)) (sym (all_four (Some h) p q r t wrote_so settled_so opened_so ends)) (leaves_four h agrees)
  at_end (Some h) p q r t (Err e) agrees wrote_so settled_so opened_so ends stays =
      subst (λ o. LeavesOnlyTo h o (P h)) (sym (stays ∙ opened_so ∙ ap (past_after_step (wrote gate (1 ∷ []))) (settled_so ∙ ap (past_after_step durable) wrote_so)))
      (leaves_three h agrees)

  pub at_done : (old p q r t : Option History) (result : Result (Unit {0}) Failed) → IfSome old (λ h. Agrees h.last (gate + 1)) → p ≡ past_after_step (wrote (gate + 1) bytes) old
      → q ≡ past_after_step durable p
      → r ≡ past_after_step (wrote gate (1 ∷ [])) q → OnOk result (t ≡ past_after_step durable r) → OnOk result (IfSome old (λ h. OpenedTo h.last.seen gate bytes t))
  at_done old p q r t (Err e) agrees wrote_so settled_so opened_so ends = tt
  at_done None p q r t (Ok x) agrees wrote_so settled_so opened_so ends = tt
  at_done (Some h) p q r t (Ok x) agrees wrote_so settled_so opened_so ends =
      subst (λ o. OpenedTo h.last.seen gate bytes o) (sym (all_four (Some h) p q r t wrote_so settled_so opened_so ends))
      (is_opened h.last.seen gate bytes agrees.inside)
