-- Operations that are taken in, with copies of those that are kept: what one more of them makes of it.
use Rattle.std.proofs.Common.{[], Bool, List, ap, append_assoc, false, length, nat_eq, refl, subst, sym, true, ℕ, ◌+◌, ◌++◌, ◌∙◌, ◌∷◌, ◌≡◌, ◌≢◌}
use Rattle.std.specs.Prelude.{if◌then◌else◌}
use Rattle.std.proofs.lemmas.Bool.{eq-eqb, ne_eqb, true≢false}
use Rattle.std.proofs.lemmas.List.{append-nil}
use Rattle.fugue_ids.specs.declared.op.Op.{Op}
use Rattle.origin_model.specs.declared.taking.Tally.{Tally}
use Rattle.origin_model.specs.operations.Verdict.{verdict}
use Rattle.origin_model.specs.declared.operations.Verdict.{Verdict}
use Rattle.origin_model.specs.declared.operations.Verdict.TheVariants.{Again as VerdictAgain, Conflict as VerdictConflict, Missing as VerdictMissing, Ready as VerdictReady}
use Rattle.origin_model.specs.declared.operations.Verdict.TheVariants.{Stray as VerdictStray}
use Rattle.origin_model.specs.taking.Taking.{Again, Answer, Conflict, Held, TooMany, answer, answer_by, held_from, intake_counted, is_again, is_kept, is_taken, kept_from}
use Rattle.origin_model.proofs.SharedLemmas.{held-append, kept-append, places-append, places-none, places-one, tally-append}
use Rattle.replica_core.specs.Keeping.{TakesIn, TakesInKeeping, OpsTaking}
use Rattle.origin_model.specs.edits.State.{State}

-- nothing was taken in yet
pub takes_none : (start : OpsTaking) → TakesIn start start []
takes_none start = record { has_place = places-none start.replica.hold start.replica.most start.replica.held; replica = refl; counts = refl; kept = sym (append-nil start.kept) }

-- one operation more
pub takes_more : (start now next : OpsTaking) (ops : List Op) (op : Op) → TakesIn start now ops → answer now.replica.hold now.replica.most now.replica.held op ≢ TooMany
    → TakesInKeeping now.replica next.replica op now.counts next.counts now.kept next.kept → TakesIn start next (ops ++ op ∷ [])
takes_more start now next ops op s place t =
    let hold : ℕ = start.replica.hold in
    let most : ℕ = start.replica.most in
    let held : Held = held_from hold most start.replica.held ops in
    let reached : State = record start.replica { held = held } in
    let place : answer hold most held op ≢ TooMany = subst (λ (r : State). answer r.hold r.most r.held op ≢ TooMany) s.replica place in
    let t : TakesInKeeping reached next.replica op now.counts next.counts now.kept next.kept =
    subst (λ (r : State). TakesInKeeping r next.replica op now.counts next.counts now.kept next.kept) s.replica t in
    record {
      has_place = places-append hold most start.replica.held ops (op ∷ []) s.has_place (places-one hold most held op place);
      replica = t.replica ∙ ap (λ (h : Held). record start.replica { held = h }) (held-append hold most start.replica.held ops (op ∷ []));
      counts = t.counts ∙ ap (λ (c : Tally). intake_counted hold most held op c) s.counts ∙ tally-append hold most start.replica.held ops (op ∷ []) start.counts;
      kept = t.kept_are ∙ ap (λ (k : List Op). k ++ kept_from hold most held (op ∷ [])) s.kept
          ∙ append_assoc start.kept (kept_from hold most start.replica.held ops) (kept_from hold most held (op ∷ []))
          ∙ ap (λ (k : List Op). start.kept ++ k) (kept-append hold most start.replica.held ops (op ∷ []));
    }

-- what is equal in each part is equal
pub same_taking : (a b : OpsTaking) → a.replica ≡ b.replica → a.counts ≡ b.counts → a.kept ≡ b.kept → a ≡ b
same_taking a b p q r = λ i. record { replica = p i; counts = q i; kept = r i }

-- where as many are held as may be, nothing more is kept
abbrev answer_by_tests : (again taken full at_hold : Bool) → Verdict → Answer
answer_by_tests again taken full at_hold v = if again then Again else if taken then Conflict else answer_by full at_hold v

none_kept : (again taken at_hold : Bool) (v : Verdict) → is_kept (answer_by_tests again taken true at_hold v) ≡ false
none_kept true taken at_hold v = refl
none_kept false true at_hold v = refl
none_kept false false at_hold VerdictAgain = refl
none_kept false false at_hold VerdictConflict = refl
none_kept false false at_hold (VerdictStray i) = refl
none_kept false false at_hold (VerdictMissing i) = refl
none_kept false false at_hold VerdictReady = refl

pub full_keeps_none : (hold most : ℕ) (s : Held) (op : Op) → length s.history + length s.waiting ≡ most → is_kept (answer hold most s op) ≡ false
full_keeps_none hold most s op full =
    ap (λ (b : Bool). is_kept (answer_by_tests (is_again s op) (is_taken s op) b (nat_eq (length s.waiting) hold) (verdict s.history op)))
    (eq-eqb (length s.history + length s.waiting) most full)
    ∙ none_kept (is_again s op) (is_taken s op) (nat_eq (length s.waiting) hold) (verdict s.history op)

-- and where fewer are, none is one too many
not_too_many : (again taken at_hold : Bool) (v : Verdict) → answer_by_tests again taken false at_hold v ≢ TooMany
not_too_many true taken at_hold v is = cc is
not_too_many false true at_hold v is = cc is
not_too_many false false true VerdictAgain is = cc is
not_too_many false false true VerdictConflict is = cc is
not_too_many false false true (VerdictStray i) is = cc is
not_too_many false false true (VerdictMissing i) is = cc is
not_too_many false false true VerdictReady is = cc is
not_too_many false false false VerdictAgain is = cc is
not_too_many false false false VerdictConflict is = cc is
not_too_many false false false (VerdictStray i) is = cc is
not_too_many false false false (VerdictMissing i) is = cc is
not_too_many false false false VerdictReady is = cc is

pub room_for_one : (hold most : ℕ) (s : Held) (op : Op) → length s.history + length s.waiting ≢ most → answer hold most s op ≢ TooMany
room_for_one hold most s op other is =
    not_too_many (is_again s op) (is_taken s op) (nat_eq (length s.waiting) hold) (verdict s.history op)
    (ap (λ (b : Bool). answer_by_tests (is_again s op) (is_taken s op) b (nat_eq (length s.waiting) hold) (verdict s.history op))
    (sym (ne_eqb (length s.history + length s.waiting) most other)) ∙ is)

-- what is kept is not one too many
pub kept_has_place : (hold most : ℕ) (s : Held) (op : Op) → is_kept (answer hold most s op) ≡ true → answer hold most s op ≢ TooMany
kept_has_place hold most s op is many = true≢false (sym is ∙ ap is_kept many)
