-- Taking in leaves a lawful history lawful.
use Rattle.std.proofs.Common.{◌≡◌, Bool, true, false, inl, inr, ℕ, List, [], ◌∷◌, refl, subst, sym}
use Rattle.std.specs.Prelude.{if◌then◌else◌}
use Rattle.fugue_ids.specs.declared.op.Op.{Op}
use Rattle.origin_model.proofs.SharedLemmas.{accepted_by, earliest_found, within-none, within-some, without}
use Rattle.origin_model.specs.declared.operations.Verdict.{Verdict}
use Rattle.origin_model.specs.declared.operations.Verdict.TheVariants.{Ready}
use Rattle.origin_model.specs.operations.Verdict.{Lawful, verdict}
use Rattle.origin_model.specs.taking.Taking.{Accepted, Again, Answer, Conflict, Held, answer, held_from, intake, is_again, is_taken, joined, settle, settled_within}
use Rattle.origin_model.specs.taking.Taking.{held_after}

-- a Ready operation joins a history lawfully, and any other one leaves it
joined_lawful : (v : Verdict) (op : Op) (h : List Op) → verdict h op ≡ v → Lawful h → Lawful (joined v op h)
joined_lawful Ready op h is lawful = (is, lawful)
joined_lawful _ op h is lawful = lawful

settled_lawful : (room : List Op) (s : Held) → Lawful s.history → Lawful (settled_within room s).history
settled_lawful [] s lawful = lawful
settled_lawful (o ∷ room) s lawful =
    elim (earliest_found s.history s.waiting) [
      | inl k ↦ subst (λ (t : Held). Lawful t.history) (sym (within-none o room s k.0)) lawful
      | inr k ↦ subst (λ (t : Held). Lawful t.history) (sym (within-some o room s k.0 k.1))
          (settled_lawful room (without s k.0) (joined_lawful (verdict s.history k.0.0) k.0.0 s.history refl lawful))
    ]

settle_lawful : (s : Held) → Lawful s.history → Lawful (settle s).history
unfolding settle
settle_lawful s lawful = settled_lawful s.waiting s lawful

-- and neither there nor in conflict
answer_new : (again conflict : Bool) (a : Answer) → (if again then Again else if conflict then Conflict else a) ≡ Accepted → a ≡ Accepted
answer_new true conflict a is = cc is
answer_new false true a is = cc is
answer_new false false a is = is

taken_lawful : (hold most : ℕ) (s : Held) (op : Op) (a : Answer) → answer hold most s op ≡ a → Lawful s.history → Lawful (held_after a s op).history
taken_lawful hold most s op Accepted is lawful = (accepted_by _ _ (verdict s.history op) (answer_new (is_again s op) (is_taken s op) _ is), lawful)
taken_lawful hold most s op _ is lawful = lawful

pub held_lawful : (hold most : ℕ) (s : Held) (ops : List Op) → Lawful s.history → Lawful (held_from hold most s ops).history
held_lawful hold most s [] lawful = lawful
held_lawful hold most s (op ∷ ops) lawful =
    held_lawful hold most (intake hold most s op) ops (settle_lawful (held_after (answer hold most s op) s op) (taken_lawful hold most s op (answer hold most s op) refl lawful))
