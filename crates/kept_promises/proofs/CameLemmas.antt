-- What is accepted later was taken in later, or it waited for what came.
use Rattle.std.proofs.Common.{List, [], ap, false, inl, inr, refl, subst, sym, true, ℕ, ◌++◌, ◌∙◌, ◌∷◌, ◌≡◌, ◌⊎◌}
use Rattle.std.specs.Prelude.{All, None, Option, Some}
use Rattle.std.proofs.lemmas.Bool.{false_from_ne_true, false≢true, or_cases, or_left, or_right, true≢false}
use Rattle.std.proofs.lemmas.List.Elements.{All-cons, All-head, All-nil, All-tail}
use Rattle.fugue_ids.specs.Identifiers.{Identifier}
use Rattle.fugue_ids.specs.Ops.{id_of, op_eq}
use Rattle.fugue_ids.specs.declared.op.Op.{Op}
use Rattle.fugue_ids.proofs.OpLemmas.{op_eq-refl, op_eq-true}
use Rattle.origin_model.specs.declared.operations.Role.{Role}
use Rattle.origin_model.specs.declared.operations.Verdict.{Verdict}
use Rattle.origin_model.specs.declared.operations.Verdict.TheVariants.{Ready}
use Rattle.origin_model.specs.operations.History.{has_op, holder}
use Rattle.origin_model.specs.operations.Verdict.{Lawful, first_missing, fits, id_held, names, verdict}
use Rattle.origin_model.specs.order.Laws.{IsPartOf}
use Rattle.origin_model.specs.taking.Taking.{Accepted, Answer, Held, Waits, answer, decided_on, held_from, intake, is_decided, joined, settle, settled_within, held_after}
use Rattle.origin_model.proofs.SharedLemmas.{Fits, IsEarliest, Within-part, accepted_is_ready, all_fit, becomes_ready, cases_held, earliest_found, fit_each, found, has-append}
use Rattle.origin_model.proofs.SharedLemmas.{missing-held, when_ready, within-none, within-some, without}
use Rattle.fugue_ids.proofs.IdentifierLemmas.{not_some}

-- ---- what each operation that is accepted has
module _ (P : Op → Type 0) (old : List Op) where
  -- the operation has it as soon as it is Ready on a longer history
  abbrev pub BecomesSo : Op → Type 0
  BecomesSo x = (h : List Op) → Lawful h → IsPartOf old h → verdict h x ≡ Ready → P x

  pub record Came (s : Held) : Type 0 where
    pub lawful : Lawful s.history
    pub part : IsPartOf old s.history
    pub each : (x : Op) → has_op s.history x ≡ true → (has_op old x ≡ true) ⊎ P x
    pub waiting : (x : Op) → has_op s.waiting x ≡ true → BecomesSo x

  -- one more
  joins : (h w v : List Op) (op : Op) → Came (record { history = h; waiting = w }) → verdict h op ≡ Ready → P op → ((x : Op) → has_op v x ≡ true → BecomesSo x)
      → Came (record { history = op ∷ h; waiting = v })
  joins h w v op c ready p rest =
      record {
        lawful = (ready, c.lawful);
        part = λ x m. or_right (op_eq op x) (has_op h x) (c.part x m);
        each = λ x m. elim (or_cases (op_eq op x) (has_op h x) m) [ inl q ↦ inr (subst P (op_eq-true op x q) p) | inr j ↦ c.each x j ];
        waiting = rest;
      }

  leaves : (s : Held) (r : Op × List Op) → Came s → IsEarliest s.history s.waiting r → Came (without s r)
  leaves s r c e = by_verdict (verdict s.history r.0) refl
    where
      rest : (x : Op) → has_op r.1 x ≡ true → BecomesSo x
      rest x m = c.waiting x (e.same x ∙ or_right (op_eq r.0 x) (has_op r.1 x) m)

      first : BecomesSo r.0
      first = c.waiting r.0 (e.same r.0 ∙ or_left (op_eq r.0 r.0) (has_op r.1 r.0) (op_eq-refl r.0))

      by_verdict : (v : Verdict) → verdict s.history r.0 ≡ v → Came (record { history = joined v r.0 s.history; waiting = r.1 })
      by_verdict Ready ready = joins s.history s.waiting r.1 r.0 c ready (first s.history c.lawful c.part ready) rest
      by_verdict _ other = record { lawful = c.lawful; part = c.part; each = c.each; waiting = rest }

  steps : (room : List Op) (s : Held) → Came s → Came (settled_within room s)
  steps [] s c = c
  steps (o ∷ room) s c =
      elim (earliest_found s.history s.waiting) [
        | inl k ↦ subst Came (sym (within-none o room s k.0)) c
        | inr k ↦ subst Came (sym (within-some o room s k.0 k.1)) (steps room (without s k.0) (leaves s k.0 c k.2))
      ]

  settling : (s : Held) → Came s → Came (settle s)
  unfolding settle
  settling s c = steps s.waiting s c

  answered : (hold most : ℕ) (s : Held) (op : Op) (a : Answer) → answer hold most s op ≡ a → Came s → P op → Came (held_after a s op)
  answered hold most s op Accepted e c p = joins s.history s.waiting s.waiting op c (accepted_is_ready hold most s op e) p c.waiting
  answered hold most s op Waits e c p = record { lawful = c.lawful; part = c.part; each = c.each; waiting = more }
    where
      more : (x : Op) → has_op (s.waiting ++ op ∷ []) x ≡ true → BecomesSo x
      more x m = elim (or_cases (has_op s.waiting x) (has_op (op ∷ []) x) (sym (has-append s.waiting (op ∷ []) x) ∙ m)) [
        | inl j ↦ c.waiting x j
        | inr j ↦ elim (or_cases (op_eq op x) false j) [ inl q ↦ λ h w f v. subst P (op_eq-true op x q) p | inr k ↦ absurd (false≢true k) ]
      ]
  answered hold most s op _ e c p = c

  pub came : (hold most : ℕ) (s : Held) (ops : List Op) → Came s → All P ops → Came (held_from hold most s ops)
  came hold most s [] c p = c
  came hold most s (op ∷ ops) c p =
      came hold most (intake hold most s op) ops
      (settling (held_after (answer hold most s op) s op) (answered hold most s op (answer hold most s op) refl c (All-head P op ops p))) (All-tail P op ops p)

-- ---- what an operation waits for
id_stays : (a b : List Op) → Lawful b → IsPartOf a b → (o : Option Identifier) → id_held a o ≡ true → id_held b o ≡ true
id_stays a b w f None e = e
id_stays a b w f (Some i) e = let o = found (holder a i) e in ap (λ z. elim z [ None ↦ false | Some op ↦ true ]) (Within-part a b w f i o.0 o.1)

-- names that fit later fit before, where none was missing
fitted : (old h : List Op) (ns : List (Identifier × Role)) → Lawful h → IsPartOf old h → first_missing old ns ≡ None → All (Fits h) ns → All (Fits old) ns
fitted old h [] w f none all = All-nil (Fits old)
fitted old h (n ∷ ns) w f none all =
    elim (cases_held (holder old n.0)) [
      | inl k ↦ absurd (not_some n.0 (sym (ap (λ o. elim o [ None ↦ Some n.0 | Some op ↦ first_missing old ns ]) k) ∙ none))
      | inr k ↦
          let later : Fits h n = All-head (Fits h) n ns all in
          let same : later.0 ≡ k.0 = cc (later.1, Within-part old h w f n.0 k.0 k.1) in
          All-cons (Fits old) n ns (k.0, k.1, subst (λ o. fits n.1 o ≡ true) same later.2)
          (fitted old h ns w f (sym (missing-held old n ns k.0 k.1) ∙ none) (All-tail (Fits h) n ns all))
    ]

-- one that was not decided and becomes Ready named an identifier that was missing
pub names_missing : (old h : List Op) (op : Op) → Lawful h → IsPartOf old h → decided_on old op ≡ false → verdict h op ≡ Ready → first_missing old (names op) ≡ None → ⊥
names_missing old h op w f u v none =
    let ready = when_ready h op v in
    let absent : has_op old op ≡ false = false_from_ne_true (has_op old op) (λ t. true≢false (sym (f op t) ∙ ready.absent)) in
    let fresh : id_held old (id_of op) ≡ false = false_from_ne_true (id_held old (id_of op)) (λ t. true≢false (sym (id_stays old h w f (id_of op) t) ∙ ready.fresh)) in
    let fit = all_fit old (names op) (fitted old h (names op) w f none (fit_each h (names op) ready.none_stray ready.none_missing)) in
    true≢false (sym (ap is_decided (becomes_ready old op absent fresh fit.0 fit.1)) ∙ u)
