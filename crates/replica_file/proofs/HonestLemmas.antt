-- What a read gives stays one of the images while bytes are written after a gate.
use Rattle.std.proofs.Common.{◌≡◌, inl, inr, ℕ, ◌+◌, ◌≤◌, List, [], ◌∷◌, length, subst, sym, ◌∙◌, ap, arith}
use Rattle.std.specs.Prelude.{Option, Some, None, IfSome, Result, Ok, Err, OnOk, OnErr}
use Rattle.fugue_ids.specs.declared.out.Failed.{Failed}
use Rattle.outer_ports.specs.disk.States.{IsHonest, durable, wrote}
use Rattle.outer_ports.specs.disk.Moments.{History, MayHaveWritten, past_after_step}
use Rattle.outer_ports.proofs.SharedLemmas.{honest_at_rest, honest_torn, honest_wrote, same_outside}
use Rattle.replica_file.specs.Ends.{Agrees}

-- what a read gives now is one of the images
abbrev pub AreHonest : Option History → Type 0
AreHonest past = IfSome past (λ h. IsHonest h.last)

-- a sync leaves a disk honest
pub settled_honest : (p q : Option History) → q ≡ past_after_step durable p → AreHonest q
settled_honest None q is = subst AreHonest (sym is) tt
settled_honest (Some h) q is = subst AreHonest (sym is) (honest_at_rest h.last.seen)

wrote_honest : (at : ℕ) (bytes : List ℕ) (p q : Option History) → IfSome p (λ h. at ≤ length h.last.seen) → q ≡ past_after_step (wrote at bytes) p → AreHonest p → AreHonest q
wrote_honest at bytes None q inside is honest = subst AreHonest (sym is) tt
wrote_honest at bytes (Some h) q inside is honest = subst AreHonest (sym is) (honest_wrote h.last at bytes honest inside)

may_honest : (at n : ℕ) (p q : Option History) → MayHaveWritten at n p q → AreHonest p → AreHonest q
may_honest at n p q (inl same) honest = subst AreHonest (sym same) honest
may_honest at n None q (inr torn_so) honest = subst AreHonest (sym torn_so.1) tt
may_honest at n (Some h) q (inr torn_so) honest = subst AreHonest (sym torn_so.1) (honest_torn h.last at n torn_so.0 honest torn_so.2)

module _ (gate : ℕ) (bytes : List ℕ) (old p : Option History) (agrees : IfSome old (λ h. Agrees h.last (gate + 1))) where
  after_gate : (past : Option History) → IfSome past (λ h. Agrees h.last (gate + 1)) → IfSome past (λ h. gate + 1 ≤ length h.last.seen)
  after_gate None a = tt
  after_gate (Some h) a = a.inside

  -- at the gate of what was written after it and settled
  at_gate : (past q r : Option History) → IfSome past (λ h. gate + 1 ≤ length h.last.seen) → q ≡ past_after_step (wrote (gate + 1) bytes) past → r ≡ past_after_step durable q
      → IfSome r (λ h. gate ≤ length h.last.seen)
  at_gate None q r inside wrote_so settled_so = subst (λ o. IfSome o (λ h. gate ≤ length h.last.seen)) (sym (settled_so ∙ ap (past_after_step durable) wrote_so)) tt
  at_gate (Some h) q r inside wrote_so settled_so =
      subst (λ o. IfSome o (λ h. gate ≤ length h.last.seen)) (sym (settled_so ∙ ap (past_after_step durable) wrote_so))
      (let same = same_outside (gate + 1) bytes h.last.seen inside in omega (arith, same.no_shorter, inside))

  pub honest_at_write : MayHaveWritten (gate + 1) (length bytes) old p → AreHonest old → AreHonest p
  honest_at_write may honest = may_honest (gate + 1) (length bytes) old p may honest

  module _ (wrote_so : p ≡ past_after_step (wrote (gate + 1) bytes) old) where
    pub honest_at_sync : (q : Option History) → q ≡ p → AreHonest old → AreHonest q
    honest_at_sync q stays honest = subst AreHonest (sym stays) (wrote_honest (gate + 1) bytes old p (after_gate old agrees) wrote_so honest)

    module _ (q : Option History) (settled_so : q ≡ past_after_step durable p) where
      pub honest_at_open : (r : Option History) → MayHaveWritten gate 1 q r → AreHonest old → AreHonest r
      honest_at_open r may honest = may_honest gate 1 q r may (settled_honest p q settled_so)

      pub honest_at_end : (r t : Option History) (result : Result (Unit {0}) Failed) → r ≡ past_after_step (wrote gate (1 ∷ [])) q → OnOk result (t ≡ past_after_step durable r)
          → OnErr result (t ≡ r) → AreHonest old → AreHonest t
      honest_at_end r t (Ok x) opened_so ends stays honest = settled_honest r t ends
      honest_at_end r t (Err e) opened_so ends stays honest =
          subst AreHonest (sym stays) (wrote_honest gate (1 ∷ []) q r (at_gate old p q (after_gate old agrees) wrote_so settled_so) opened_so (settled_honest p q settled_so))
