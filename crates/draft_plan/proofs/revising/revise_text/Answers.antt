use Rattle.std.proofs.lemmas.Result.{err_from_is_err_and}
use Rattle.std.proofs.lemmas.Option.{none-some}
use Rattle.draft_plan.proofs.FillCostLemmas.{same_costs, text_chosen}
use Rattle.draft_plan.proofs.ReviseLemmas.{text_none, text_reads}
use Rattle.std.proofs.Common.{List, ap, sym, subst, ℕ, ◌∙◌, ◌≡◌}
use Rattle.std.specs.Prelude.{IfOk, Some}
use Rattle.std.specs.Str.{chars}
use Rattle.std.proofs.lemmas.Bool.Decides.{Decides-eqb}
use Rattle.std.proofs.lemmas.Slice.Eq.{slice_eq-Decides}
use Rattle.origin_model.specs.edits.Effect.{OfSection}
use Rattle.draft_plan.specs.Texts.{IsRevised}
use Rattle.draft_plan.proofs.ReviseLemmas.{call_few, call_keeps, call_revised, call_touches, none_touches, text_found, text_kept, text_none_made, text_same, text_transforms}
use Rattle.draft_plan.proofs.revising.revise_text.Goals as goal

pub returns-then-eq-clause-revised : goal.returns-then-eq-clause-revised
returns-then-eq-clause-revised c =
    let s = c.args.replica.now in
    let k = c.args.section in
    let bytes = c.as_str.result.now in
    let t = text_found s k bytes c.as_str.utf8 (ap Some c.as_str.ensures.value ∙ rw c.in-Some.is at c.in_ok-old.ensures.text) in
    let same = (slice_eq-Decides Decides-eqb bytes c.args.new.now c.eq.result c.eq.ensures).0 c.if-eq.true in
    subst (λ (b : List ℕ). OfSection s k (λ x. IsRevised s s k x (chars b) 0)) same (text_same s k bytes t)

pub returns-then-eq-clause-keeps : goal.returns-then-eq-clause-keeps
returns-then-eq-clause-keeps c =
    let s = c.args.replica.now in
    let t = text_found s c.args.section c.as_str.result.now c.as_str.utf8 (ap Some c.as_str.ensures.value ∙ rw c.in-Some.is at c.in_ok-old.ensures.text) in
    text_kept s c.args.section c.as_str.result.now t

pub revise_hunks-requires-clause-hunks : goal.revise_hunks-requires-clause-hunks
revise_hunks-requires-clause-hunks c =
    let s = c.args.replica.now in
    let t = text_found s c.args.section c.as_str-2.result.now c.as_str-2.utf8 (ap Some c.as_str-2.ensures.value ∙ rw c.in-Some.is at c.in_ok-old.ensures.text) in
    text_transforms s c.args.section c.as_str-2.result.now c.as_slice-2.result.now c.as_slice.result.now t
    (rw (c.as_slice.ensures.value, c.as_slice-2.ensures.value, c.in_ok-scalars.ensures) c.in_ok-hunks.ensures.transforms)

pub returns-clause-revised : goal.returns-clause-revised
returns-clause-revised c =
    let s = c.args.replica.now in
    let k = c.args.section in
    let now = c.revise_hunks.new.replica in
    let t = text_found s k c.as_str-2.result.now c.as_str-2.utf8 (ap Some c.as_str-2.ensures.value ∙ rw c.in-Some.is at c.in_ok-old.ensures.text) in
    let scalars : c.as_slice-2.result.now ≡ chars c.args.new.now = c.as_slice-2.ensures.value ∙ c.in_ok-scalars.ensures in
    subst (λ (r : List ℕ). IfOk c.revise_hunks.result (λ n. OfSection s k (λ x. IsRevised s now k x r n))) scalars
    (call_revised s now k c.as_str-2.result.now c.as_slice-2.result.now c.as_slice.result.now c.revise_hunks.result t
    (rw (c.as_slice.ensures.value, scalars) c.in_ok-hunks.ensures.replaced) c.revise_hunks.ensures.made)

pub returns-then-eq-clause-touches : goal.returns-then-eq-clause-touches
returns-then-eq-clause-touches c =
    let s = c.args.replica.now in
    let t = text_found s c.args.section c.as_str.result.now c.as_str.utf8 (ap Some c.as_str.ensures.value ∙ rw c.in-Some.is at c.in_ok-old.ensures.text) in
    none_touches s c.args.section c.as_str.result.now t

pub returns-clause-touches : goal.returns-clause-touches
returns-clause-touches c =
    call_touches c.args.replica.now c.revise_hunks.new.replica c.args.section c.as_slice.result.now c.as_slice-2.result.now c.revise_hunks.result c.revise_hunks.ensures.made

pub returns-then-eq-clause-few : goal.returns-then-eq-clause-few
returns-then-eq-clause-few c =
    let s = c.args.replica.now in
    let t = text_found s c.args.section c.as_str.result.now c.as_str.utf8 (ap Some c.as_str.ensures.value ∙ rw c.in-Some.is at c.in_ok-old.ensures.text) in
    text_none_made s c.args.section c.as_str.result.now (chars c.args.new.now) t

pub returns-clause-keeps : goal.returns-clause-keeps
returns-clause-keeps c =
    let s = c.args.replica.now in
    let k = c.args.section in
    let bytes = c.as_str-2.result.now in
    let t = text_found s k bytes c.as_str-2.utf8 (ap Some c.as_str-2.ensures.value ∙ rw c.in-Some.is at c.in_ok-old.ensures.text) in
    let scalars : c.as_slice-2.result.now ≡ chars c.args.new.now = c.as_slice-2.ensures.value ∙ c.in_ok-scalars.ensures in
    call_keeps s c.revise_hunks.new.replica k bytes c.as_slice-2.result.now c.as_slice.result.now c.revise_hunks.result t
    (rw (c.as_slice.ensures.value, scalars) c.in_ok-hunks.ensures.replaced)
    (rw (c.as_slice.ensures.value, scalars) c.in_ok-hunks.ensures.transforms)
    (rw (c.as_slice.ensures.value, scalars) c.in_ok-hunks.ensures.words)
    (rw (c.as_slice.ensures.value, scalars) c.in_ok-hunks.ensures.tight)
    (rw (c.as_slice.ensures.value, scalars) c.in_ok-hunks.ensures.unchanged)
    (rw (c.as_slice.ensures.value, scalars) c.in_ok-hunks.ensures.lines) c.revise_hunks.ensures.made

pub returns-clause-few : goal.returns-clause-few
returns-clause-few c =
    let s = c.args.replica.now in
    let k = c.args.section in
    let bytes = c.as_str-2.result.now in
    let t = text_found s k bytes c.as_str-2.utf8 (ap Some c.as_str-2.ensures.value ∙ rw c.in-Some.is at c.in_ok-old.ensures.text) in
    let scalars : c.as_slice-2.result.now ≡ chars c.args.new.now = c.as_slice-2.ensures.value ∙ c.in_ok-scalars.ensures in
    rw (sym scalars)
    (call_few s c.revise_hunks.new.replica k bytes c.as_slice-2.result.now c.as_slice.result.now c.revise_hunks.result t
    (rw (c.as_slice.ensures.value, scalars) c.in_ok-hunks.ensures.replaced)
    (rw (c.as_slice.ensures.value, scalars) c.in_ok-hunks.ensures.transforms) c.revise_hunks.ensures.made)

pub returns-then-eq-clause-costs : goal.returns-then-eq-clause-costs
returns-then-eq-clause-costs c = λ x e.
    let s = c.args.replica.now in
    let k = c.args.section in
    let bytes = c.as_str.result.now in
    let t = text_found s k bytes c.as_str.utf8 (ap Some c.as_str.ensures.value ∙ rw c.in-Some.is at c.in_ok-old.ensures.text) in
    let same = (slice_eq-Decides Decides-eqb bytes c.args.new.now c.eq.result c.eq.ensures).0 c.if-eq.true in
    same_costs s x (chars c.args.new.now) (text_reads s k bytes t x e ∙ ap chars same)

pub returns-clause-costs : goal.returns-clause-costs
returns-clause-costs c = λ x e.
    let s = c.args.replica.now in
    let k = c.args.section in
    let bytes = c.as_str-2.result.now in
    let t = text_found s k bytes c.as_str-2.utf8 (ap Some c.as_str-2.ensures.value ∙ rw c.in-Some.is at c.in_ok-old.ensures.text) in
    let scalars : c.as_slice-2.result.now ≡ chars c.args.new.now = c.as_slice-2.ensures.value ∙ c.in_ok-scalars.ensures in
    text_chosen s c.revise_hunks.new.replica k x bytes (chars c.args.new.now) c.as_slice.result.now c.revise_hunks.result (text_reads s k bytes t x e)
    (rw c.as_slice.ensures.value c.in_ok-hunks.ensures.transforms)
    (rw c.as_slice.ensures.value c.in_ok-hunks.ensures.words)
    (rw c.as_slice.ensures.value c.in_ok-hunks.ensures.tight)
    (rw c.as_slice.ensures.value c.in_ok-hunks.ensures.unchanged)
    (rw c.as_slice.ensures.value c.in_ok-hunks.ensures.lines) c.revise_hunks.ensures.costs

pub returns-in_err-old-clause-costs : goal.returns-in_err-old-clause-costs
returns-in_err-old-clause-costs c = λ x e.
    let p = err_from_is_err_and c.from_residual.result c.from_residual.ensures.1 in
    rw (p.1, p.2) tt

pub returns-in_default-clause-costs : goal.returns-in_default-clause-costs
returns-in_default-clause-costs c = λ x e. absurd (none-some x (sym (text_none _ _ (rw c.in_default.is at c.in_ok-old.ensures.text)) ∙ e))

pub returns-in_err-hunks-clause-costs : goal.returns-in_err-hunks-clause-costs
returns-in_err-hunks-clause-costs c = λ x e.
    let p = err_from_is_err_and c.from_residual-in_err-hunks.result c.from_residual-in_err-hunks.ensures.1 in
    rw (p.1, p.2) tt

pub returns-in_err-scalars-clause-costs : goal.returns-in_err-scalars-clause-costs
returns-in_err-scalars-clause-costs c = λ x e.
    let p = err_from_is_err_and c.from_residual-in_err-scalars.result c.from_residual-in_err-scalars.ensures.1 in
    rw (p.1, p.2) tt
