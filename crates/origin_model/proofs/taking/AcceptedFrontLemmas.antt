-- What was accepted stays at the front of the accepted operations.
use Rattle.origin_model.proofs.Words.{List, Op, Ready, Verdict, [], accepted, ap, inl, inr, refl, reverse, reverse-append, subst, sym, verdict, ℕ, ◌++◌, ◌∙◌, ◌∷◌, ◌≡◌}
use Rattle.origin_model.specs.taking.Taking.{Accepted, Answer, Held, answer, held_from, intake, joined, settle, settled_within, held_after}
use Rattle.origin_model.proofs.taking.SettlingLemmas.{earliest_found, within-none, within-some, without}

-- the older history is the end of the newer one
abbrev pub EndsIn : List Op → Held → Type 0
EndsIn h s = (more : List Op) × (s.history ≡ more ++ h)

-- one step of settling keeps it
leaves : (h : List Op) (s : Held) (r : Op × List Op) → EndsIn h s → EndsIn h (without s r)
leaves h s r e = by_verdict (verdict s.history r.0)
  where
    by_verdict : (v : Verdict) → EndsIn h (record { history = joined v r.0 s.history; waiting = r.1 })
    by_verdict Ready = (r.0 ∷ e.0, ap (λ l. r.0 ∷ l) e.1)
    by_verdict _ = e

steps : (h room : List Op) (s : Held) → EndsIn h s → EndsIn h (settled_within room s)
steps h [] s e = e
steps h (o ∷ room) s e =
    elim (earliest_found s.history s.waiting) [
      | inl k ↦ subst (EndsIn h) (sym (within-none o room s k.0)) e
      | inr k ↦ subst (EndsIn h) (sym (within-some o room s k.0 k.1)) (steps h room (without s k.0) (leaves h s k.0 e))
    ]

pub settling : (h : List Op) (s : Held) → EndsIn h s → EndsIn h (settle s)
unfolding settle
settling h s e = steps h s.waiting s e

answering : (h : List Op) (a : Answer) (s : Held) (op : Op) → EndsIn h s → EndsIn h (held_after a s op)
answering h Accepted s op e = (op ∷ e.0, ap (λ l. op ∷ l) e.1)
answering h _ s op e = e

-- what was accepted stays at the end of the history
pub hears_on : (hold most : ℕ) (h : List Op) (s : Held) (ops : List Op) → EndsIn h s → EndsIn h (held_from hold most s ops)
hears_on hold most h s [] e = e
hears_on hold most h s (op ∷ ops) e =
    hears_on hold most h (intake hold most s op) ops (settling h (held_after (answer hold most s op) s op) (answering h (answer hold most s op) s op e))

-- so the accepted operations begin with those that were accepted before
pub first_accepted : (hold most : ℕ) (s : Held) (ops : List Op) → (more : List Op) × (accepted (held_from hold most s ops).history ≡ accepted s.history ++ more)
first_accepted hold most s ops =
    let e : EndsIn s.history (held_from hold most s ops) = hears_on hold most s.history s ops ([], refl) in
    (reverse e.0, ap reverse e.1 ∙ reverse-append e.0 s.history)
