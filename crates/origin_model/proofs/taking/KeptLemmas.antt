-- The kept operations of a list stand for all of it: what is refused changes nothing, and what is kept is kept again.
use Rattle.origin_model.proofs.Words.{All, All-append, All-cons, All-nil, All-weaker, List, Op, [], ap, cases_Bool, false, inl, inr, refl, subst, sym, true, true≢false, ℕ, ◌++◌}
use Rattle.origin_model.proofs.Words.{◌∙◌, ◌∷◌, ◌≡◌, ◌≢◌}
use Rattle.origin_model.specs.taking.Closure.{answers, KeptSuffice, PartsAsOne, SavedSuffice, StaysSettled}
use Rattle.origin_model.specs.taking.Taking.{Held, IsSettled, Answer, Accepted, Full, TooMany, Waits, answer, answers_from, decided_on, held, held_from, intake, intake_counted}
use Rattle.origin_model.specs.taking.Taking.{is_kept, kept_from, nothing_held, settle, held_after, tally_from}
use Rattle.origin_model.specs.declared.taking.Tally.{Tally}
use Rattle.origin_model.proofs.taking.SettlingLemmas.{settle-settled, settles}

-- an answer by which nothing is kept changes nothing
taken-refused : (a : Answer) (s : Held) (op : Op) → is_kept a ≡ false → held_after a s op ≡ s
taken-refused Accepted s op e = absurd (true≢false e)
taken-refused Waits s op e = absurd (true≢false e)
taken-refused _ s op e = refl

-- a refused operation leaves a settled state
intake-refused : (hold most : ℕ) (s : Held) (op : Op) → IsSettled s → is_kept (answer hold most s op) ≡ false → intake hold most s op ≡ s
intake-refused hold most s op z e = ap settle (taken-refused (answer hold most s op) s op e) ∙ settle-settled s z

-- what is taken in leaves a settled state settled
pub stays_settled : StaysSettled
stays_settled hold most s [] z = z
stays_settled hold most s (op ∷ ops) z =
    stays_settled hold most (intake hold most s op) ops (settles (held_after (answer hold most s op) s op))

-- one after the other, or as one list
pub held-append : (hold most : ℕ) (s : Held) (a b : List Op) → held_from hold most (held_from hold most s a) b ≡ held_from hold most s (a ++ b)
held-append hold most s [] b = refl
held-append hold most s (op ∷ a) b = held-append hold most (intake hold most s op) a b

-- the answers to two lists, one after the other
pub answers-append : (hold most : ℕ) (s : Held) (a b : List Op)
    → answers_from hold most s (a ++ b) ≡ answers_from hold most s a ++ answers_from hold most (held_from hold most s a) b
answers-append hold most s [] b = refl
answers-append hold most s (op ∷ a) b = ap (λ t. answer hold most s op ∷ t) (answers-append hold most (intake hold most s op) a b)

-- how two lists, one after the other, are counted
pub tally-append : (hold most : ℕ) (s : Held) (a b : List Op) (t : Tally)
    → tally_from hold most (held_from hold most s a) b (tally_from hold most s a t) ≡ tally_from hold most s (a ++ b) t
tally-append hold most s [] b t = refl
tally-append hold most s (op ∷ a) b t = tally-append hold most (intake hold most s op) a b (intake_counted hold most s op t)

-- a kept operation
pub kept-yes : (hold most : ℕ) (s : Held) (op : Op) (ops : List Op) → is_kept (answer hold most s op) ≡ true
    → kept_from hold most s (op ∷ ops) ≡ op ∷ kept_from hold most (intake hold most s op) ops
kept-yes hold most s op ops e = rw (e, kept_from)

-- a refused one
pub kept-no : (hold most : ℕ) (s : Held) (op : Op) (ops : List Op) → is_kept (answer hold most s op) ≡ false
    → kept_from hold most s (op ∷ ops) ≡ kept_from hold most (intake hold most s op) ops
kept-no hold most s op ops e = rw (e, kept_from)

-- what is kept of two lists, one after the other
pub kept-append : (hold most : ℕ) (s : Held) (a b : List Op) → kept_from hold most s a ++ kept_from hold most (held_from hold most s a) b ≡ kept_from hold most s (a ++ b)
kept-append hold most s [] b = refl
kept-append hold most s (op ∷ a) b =
    let t : Held = intake hold most s op in
    elim (cases_Bool (is_kept (answer hold most s op))) [
      | inl e ↦ ap (λ k. k ++ kept_from hold most (held_from hold most t a) b) (kept-yes hold most s op a e)
          ∙ ap (λ k. op ∷ k) (kept-append hold most t a b) ∙ sym (kept-yes hold most s op (a ++ b) e)
      | inr e ↦ ap (λ k. k ++ kept_from hold most (held_from hold most t a) b) (kept-no hold most s op a e)
          ∙ kept-append hold most t a b ∙ sym (kept-no hold most s op (a ++ b) e)
    ]

-- parts that are taken in one after the other are taken in as one list
pub parts_as_one : PartsAsOne
parts_as_one hold most s a b = (held-append hold most s a b, kept-append hold most s a b)

-- the operations k lead from s to the state `end`, and each is kept
abbrev LeadsTo : (hold most : ℕ) → Held → List Op → Held → Type 0
LeadsTo hold most s k end = (held_from hold most s k ≡ end) × All (λ a. is_kept a ≡ true) (answers_from hold most s k)

-- the kept operations lead from a settled state to where all of them lead
kept_leads : (hold most : ℕ) (s : Held) (ops : List Op) → IsSettled s → LeadsTo hold most s (kept_from hold most s ops) (held_from hold most s ops)
kept_leads hold most s [] z = (refl, All-nil (λ a. is_kept a ≡ true))
kept_leads hold most s (op ∷ ops) z =
    let t : Held = intake hold most s op in
    let end : Held = held_from hold most t ops in
    let rest : LeadsTo hold most t (kept_from hold most t ops) end = kept_leads hold most t ops (settles (held_after (answer hold most s op) s op)) in
    elim (cases_Bool (is_kept (answer hold most s op))) [
      | inl e ↦ subst (λ k. LeadsTo hold most s k end) (sym (kept-yes hold most s op ops e))
          (rest.0, All-cons (λ a. is_kept a ≡ true) (answer hold most s op) (answers_from hold most t (kept_from hold most t ops)) e rest.1)
      | inr e ↦ subst (λ k. LeadsTo hold most s k end) (sym (kept-no hold most s op ops e))
          (subst (λ u. LeadsTo hold most u (kept_from hold most t ops) end) (intake-refused hold most s op z e) rest)
    ]

-- a kept operation meets no limit
kept_within : (a : Answer) → is_kept a ≡ true → (a ≢ Full) × (a ≢ TooMany)
kept_within a k = (λ e. true≢false (sym k ∙ ap is_kept e), λ e. true≢false (sym k ∙ ap is_kept e))

-- from any settled state the kept operations of a list stand for all of it
pub kept_suffice : KeptSuffice
kept_suffice hold most s ops z =
    let leads = kept_leads hold most s ops z in
    record {
      same_state = leads.0;
      kept_again = leads.1;
      within_limits = All-weaker (λ a. is_kept a ≡ true) (λ a. (a ≢ Full) × (a ≢ TooMany)) kept_within (answers_from hold most s (kept_from hold most s ops)) leads.1;
    }

-- where nothing is held, nothing waits
pub nothing_settled : IsSettled nothing_held
nothing_settled = All-nil (λ op. decided_on [] op ≡ false)

-- a file that gains the kept operations of a list comes to what the list led to, and meets no limit that it did not meet before
pub saved_suffice : SavedSuffice
saved_suffice hold most file ops =
    let before : Held = held hold most file in
    let leads = kept_suffice hold most before ops (stays_settled hold most nothing_held file nothing_settled) in
    let more : List Op = kept_from hold most before ops in
    let still : (Q : Answer → Type 0) → ((a : Answer) → is_kept a ≡ true → Q a) → All Q (answers hold most file) → All Q (answers hold most (file ++ more)) = λ Q f n.
    subst (All Q) (sym (answers-append hold most nothing_held file more))
    (All-append Q (answers hold most file) (answers_from hold most before more) n (All-weaker (λ a. is_kept a ≡ true) Q f (answers_from hold most before more) leads.kept_again)) in
    record {
      same_state = sym (held-append hold most nothing_held file more) ∙ leads.same_state;
      within_limits = still (λ a. (a ≢ Full) × (a ≢ TooMany)) kept_within;
      has_place = still (λ a. a ≢ TooMany) (λ a k. (kept_within a k).1);
    }
