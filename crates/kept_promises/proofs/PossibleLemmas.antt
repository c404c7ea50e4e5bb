-- A valid certificate tells identifiers that the history holds, so each of them is one that there is.
use Rattle.std.proofs.Common.{List, [], ap, refl, subst, sym, true, ◌++◌, ◌∙◌, ◌∷◌, ◌≡◌}
use Rattle.std.specs.Prelude.{All, Some}
use Rattle.std.proofs.lemmas.List.Elements.{All-append, All-cons, All-nil, All-weaker}
use Rattle.fugue_ids.specs.Identifiers.{Identifier}
use Rattle.fugue_ids.specs.Ops.{id_of}
use Rattle.fugue_ids.specs.declared.op.Op.{Op}
use Rattle.fugue_ids.proofs.ListLemmas.{all_after}
use Rattle.origin_model.specs.frames.Frames.{IsIdentifier}
use Rattle.origin_model.specs.operations.History.{has_op, holder}
use Rattle.origin_model.specs.operations.Verdict.{Lawful}
use Rattle.origin_model.specs.order.Order.{lefts, next_left, next_right, right_at}
use Rattle.origin_model.proofs.SharedLemmas.{IsHeld, IsIn-held, chain-held, found, holder-has, holder_owns, own_id, right_by, right_origin_held}
use Rattle.order_proof.specs.declared.step.Reason.{Reason}
use Rattle.order_proof.specs.declared.step.Reason.TheVariants.{Inner, Later, Prefix}
use Rattle.order_proof.specs.declared.step.Step.{Step}
use Rattle.order_proof.specs.Certificates.{ByRightChains, ByRightOrigins, Certificate, Chain, HoldsBy, IsFork, IsSiblingStep, IsStep, IsValid}
use Rattle.order_proof.specs.Readings.{IsPossible, IsValidText}
use Rattle.order_proof.specs.Texts.{ProofLine, chain_lines, claim, down, proof_line, proof_lines, proof_text, reason_line, right, step_lines}
use Rattle.order_proof.proofs.PartedLemmas.{parted-in}

-- each identifier of the line is held
abbrev IsHeldLine : List Op → ProofLine → Type 0
IsHeldLine h l = All (IsHeld h) l.ids

module _ (h : List Op) (w : Lawful h) where
  suffix_held : (xs common from : Chain) → xs ≡ common ++ from → All (IsHeld h) xs → All (IsHeld h) from
  suffix_held xs common from e all = all_after (IsHeld h) common from (subst (All (IsHeld h)) e all)

  right_held : (c p : Identifier) → IsHeld h c → right_at h c ≡ Some p → IsHeld h p
  right_held c p k e = let o = found (holder h c) k in right_origin_held h c o.0 p w o.1 (sym (ap right_by o.1) ∙ e)

  pair_held : (x y : Identifier) → IsHeld h x → IsHeld h y → All (IsHeld h) (x ∷ y ∷ [])
  pair_held x y k l = All-cons (IsHeld h) x (y ∷ []) k (All-cons (IsHeld h) y [] l (All-nil (IsHeld h)))

  origins_held : (c d : Identifier) (r : Reason) → IsHeld h c → IsHeld h d → ByRightOrigins h c d r → All (IsHeld h) ((reason_line r).ids)
  origins_held c d (Later p q) k l t = pair_held p q (right_held c p k t.0) (right_held d q l t.1)
  origins_held c d _ k l t = All-nil (IsHeld h)

  fork_held : (xs ys : Chain) (r : Reason) → All (IsHeld h) xs → All (IsHeld h) ys → IsFork h xs ys r → All (IsHeld h) ((reason_line r).ids)
  fork_held xs ys r k l t =
      let ins = parted-in (IsHeld h) xs ys t.from_c t.from_d t.c t.d t.parts k l in
      origins_held t.c t.d r ins.0 ins.1 t.decides

  reason_held : (xs ys : Chain) (r : Reason) → All (IsHeld h) xs → All (IsHeld h) ys → ByRightChains h xs ys r → All (IsHeld h) ((reason_line r).ids)
  reason_held xs ys Inner k l t = All-nil (IsHeld h)
  reason_held xs ys r k l t = fork_held xs ys r k l t

  -- the five lines of a step at siblings, and its reason
  sibling_held : (s : Step) (r : Reason) → IsHeld h s.x → IsHeld h s.y → IsSiblingStep h s r
      → All (IsHeldLine h) ((proof_line claim (s.x ∷ s.y ∷ []) ∷ proof_line down s.down_x ∷ proof_line down s.down_y ∷ proof_line right s.right_x ∷ proof_line right s.right_y
      ∷ []) ++ reason_line r ∷ [])
  sibling_held s r k l t =
      let P : ProofLine → Type 0 = IsHeldLine h in
      let right_x : All (IsHeld h) s.right_x = subst (All (IsHeld h)) (sym t.right_x) (chain-held next_right h t.a) in
      let right_y : All (IsHeld h) s.right_y = subst (All (IsHeld h)) (sym t.right_y) (chain-held next_right h t.b) in
      let reason : List ProofLine = reason_line r ∷ [] in
      let ys : List ProofLine = proof_line right s.right_y ∷ reason in
      let xs : List ProofLine = proof_line right s.right_x ∷ ys in
      let downs : List ProofLine = proof_line down s.down_y ∷ xs in
      All-cons P (proof_line claim (s.x ∷ s.y ∷ [])) (proof_line down s.down_x ∷ downs) (pair_held s.x s.y k l)
      (All-cons P (proof_line down s.down_x) downs (suffix_held (lefts h s.x) t.parts.common s.down_x t.parts.whole_x (chain-held next_left h s.x))
      (All-cons P (proof_line down s.down_y) xs (suffix_held (lefts h s.y) t.parts.common s.down_y t.parts.whole_y (chain-held next_left h s.y))
      (All-cons P (proof_line right s.right_x) ys right_x
      (All-cons P (proof_line right s.right_y) reason right_y
      (All-cons P (reason_line r) [] (reason_held s.right_x s.right_y r right_x right_y t.decides) (All-nil P))))))

  held_by : (s : Step) (r : Reason) → IsHeld h s.x → IsHeld h s.y → HoldsBy h s r → All (IsHeldLine h) (chain_lines s r ++ reason_line r ∷ [])
  held_by s Prefix k l t =
      let P : ProofLine → Type 0 = IsHeldLine h in
      All-cons P (proof_line claim (s.x ∷ s.y ∷ [])) (proof_line down s.down_y ∷ reason_line Prefix ∷ []) (pair_held s.x s.y k l)
      (All-cons P (proof_line down s.down_y) (reason_line Prefix ∷ []) (suffix_held (lefts h s.y) t.above s.down_y t.suffix (chain-held next_left h s.y))
      (All-cons P (reason_line Prefix) [] (All-nil (IsHeld h)) (All-nil P)))
  held_by s r k l t = sibling_held s r k l t

  step_held : (s : Step) → IsStep h s → All (IsHeldLine h) (chain_lines s s.reason ++ reason_line s.reason ∷ [])
  step_held s t =
      let o = t.one_place in
      held_by s s.reason (IsIn-held o.0 h s.x o.1) (IsIn-held o.0 h s.y o.2) t.holds

  lines_held : (c : Certificate) → IsValid h c → All (IsHeldLine h) (proof_lines c)
  lines_held [] t = absurd t
  lines_held (s ∷ []) t = All-append (IsHeldLine h) (step_lines s) [] (step_held s t.0) (All-nil (IsHeldLine h))
  lines_held (s ∷ g ∷ more) t = All-append (IsHeldLine h) (step_lines s) (proof_lines (g ∷ more)) (step_held s t.0) (lines_held (g ∷ more) t.2)

  -- ---- identifiers that there are
  module _ (possible : (op : Op) → has_op h op ≡ true → (i : Identifier) → id_of op ≡ Some i → IsIdentifier i) where
    id_possible : (i : Identifier) → IsHeld h i → IsPossible i
    id_possible i k =
        let o = found (holder h i) k in
        let is = possible o.0 (holder-has h i o.0 o.1) i (own_id o.0 i (holder_owns h i o.0 o.1)) in
        (is.some_replica, (is.replica_fits, is.counter_fits))

    -- so its text is one that is read
    pub text_valid : (c : Certificate) → IsValid h c → IsValidText h (proof_text c)
    text_valid c valid = (c, record { text_is = refl; has_step = some c valid; possible = each }, valid)
      where
        some : (c : Certificate) → IsValid h c → c ≡ [] → ⊥
        some c v e = subst (IsValid h) e v

        each : All (λ (l : ProofLine). All IsPossible l.ids) (proof_lines c)
        each = All-weaker (IsHeldLine h) (λ (l : ProofLine). All IsPossible l.ids) (λ l held. All-weaker (IsHeld h) IsPossible id_possible l.ids held) (proof_lines c)
            (lines_held c valid)
