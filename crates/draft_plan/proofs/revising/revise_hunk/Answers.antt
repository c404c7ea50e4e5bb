use Rattle.draft_plan.proofs.FillCostLemmas.{cut_costs, cut_lacks, hunk_costs, put_lacks, put_long}
use Rattle.std.proofs.Common.{List, ap, arith, drop, take, ℕ, ◌+◌, ◌-◌, ◌∙◌, ◌≡◌}
use Rattle.std.specs.Str.{chars}
use Rattle.std.proofs.lemmas.Result.{err_from_is_err_and}
use Rattle.draft_plan.proofs.ReviseLemmas.{hunk_few, typed_whole}
use Rattle.draft_plan.proofs.TextLemmas.{cut_and_put, cut_limit, cut_stops, hunk_made, put_after_limit, put_stops}
use Rattle.draft_plan.proofs.revising.revise_hunk.Goals as goal

pub returns-in_err-cut-clause-stops : goal.returns-in_err-cut-clause-stops
returns-in_err-cut-clause-stops c =
    let p = err_from_is_err_and c.from_residual-in_err-cut.result c.from_residual-in_err-cut.ensures.1 in
    rw (p.1, p.2) (cut_stops c.args.replica.now c.cut.new.self c.args.section c.args.hunk.old_at c.args.hunk.old_len c.in_err-cut.field-0.0 c.in_err-cut.ensures.unmade
    c.in_err-cut.ensures.refused)

pub returns-in_err-cut-clause-limits : goal.returns-in_err-cut-clause-limits
returns-in_err-cut-clause-limits c =
    let p = err_from_is_err_and c.from_residual-in_err-cut.result c.from_residual-in_err-cut.ensures.1 in
    rw (p.1, p.2)
    (cut_limit c.args.replica.now c.args.section c.args.hunk.old_at c.args.hunk.old_len c.in_err-cut.field-0.0 c.requires.sound.lawful c.requires.old c.in_err-cut.ensures.refused)

pub returns-in_err-put-clause-stops : goal.returns-in_err-put-clause-stops
returns-in_err-put-clause-stops c =
    let p = err_from_is_err_and c.from_residual-in_err-put.result c.from_residual-in_err-put.ensures.1 in
    rw (p.1, p.2)
    (put_stops c.args.replica.now c.cut.new.self c.put.new.self c.args.section c.args.hunk.old_at c.args.hunk.old_len c.in_ok-cut.cut
    (chars c.as_str.result.now) c.in_err-put.field-0.0
    c.in_ok-cut.ensures.refused c.in_ok-cut.ensures.made c.in_err-put.ensures.unmade c.in_err-put.ensures.refused)

pub returns-in_err-put-clause-limits : goal.returns-in_err-put-clause-limits
returns-in_err-put-clause-limits c =
    let p = err_from_is_err_and c.from_residual-in_err-put.result c.from_residual-in_err-put.ensures.1 in
    rw (p.1, p.2)
    (put_after_limit c.args.replica.now c.cut.new.self c.args.section c.args.hunk.old_at c.args.hunk.old_len c.in_ok-cut.cut (chars c.as_str.result.now) c.in_err-put.field-0.0
    c.requires.sound.lawful c.requires.old c.in_ok-cut.ensures.refused c.in_ok-cut.ensures.made c.in_err-put.ensures.refused)

-- the text that is put
put_text : (at n : ℕ) (new bytes : List ℕ) → chars bytes ≡ take (at + n - at) (drop at new) → chars bytes ≡ take n (drop at new)
put_text at n new bytes e = e ∙ ap (λ m. take m (drop at new)) (omega arith)

pub overflow_add-result : goal.overflow_add-result
overflow_add-result c =
    let h = c.args.hunk in
    let old = c.args.replica.now in
    let text = typed_whole c.as_str.result.now _ c.as_str.utf8 (c.as_str.ensures.value ∙ c.in_ok-text.ensures) in
    let made = hunk_made old c.cut.new.self c.put.new.self c.args.section c.in_ok-cut.cut c.in_ok-put.put h c.args.new.now (chars c.as_str.result.now) c.requires.old c.requires.new
    (put_text h.new_at h.new_len c.args.new.now c.as_str.result.now text)
    (cut_and_put c.requires.sound.lawful c.in_ok-cut.ensures.sound.lawful c.in_ok-cut.ensures.refused c.in_ok-cut.ensures.made
    c.in_ok-put.ensures.refused c.in_ok-put.ensures.made) in
    omega (arith, hunk_few old c.put.new.self c.args.section (c.in_ok-cut.cut + c.in_ok-put.put) h c.args.new.now made c.in_ok-put.ensures.sound)

pub returns-clause-made : goal.returns-clause-made
returns-clause-made c =
    let h = c.args.hunk in
    let text = typed_whole c.as_str.result.now _ c.as_str.utf8 (c.as_str.ensures.value ∙ c.in_ok-text.ensures) in
    hunk_made c.args.replica.now c.cut.new.self c.put.new.self c.args.section c.in_ok-cut.cut c.in_ok-put.put h c.args.new.now
    (chars c.as_str.result.now) c.requires.old c.requires.new
    (put_text h.new_at h.new_len c.args.new.now c.as_str.result.now text)
    (cut_and_put c.requires.sound.lawful c.in_ok-cut.ensures.sound.lawful c.in_ok-cut.ensures.refused c.in_ok-cut.ensures.made
    c.in_ok-put.ensures.refused c.in_ok-put.ensures.made)

pub returns-in_err-text-clause-costs : goal.returns-in_err-text-clause-costs
returns-in_err-text-clause-costs c =
    let p = err_from_is_err_and c.from_residual.result c.from_residual.ensures.1 in
    rw (p.1, p.2) tt

pub returns-in_err-cut-clause-costs : goal.returns-in_err-cut-clause-costs
returns-in_err-cut-clause-costs c =
    let p = err_from_is_err_and c.from_residual-in_err-cut.result c.from_residual-in_err-cut.ensures.1 in
    rw (p.1, p.2) (cut_lacks c.args.replica.now c.args.section c.args.hunk c.in_err-cut.field-0.0 c.requires.sound c.in_err-cut.ensures.refused)

pub returns-in_err-put-clause-costs : goal.returns-in_err-put-clause-costs
returns-in_err-put-clause-costs c =
    let h = c.args.hunk in
    let text = typed_whole c.as_str.result.now _ c.as_str.utf8 (c.as_str.ensures.value ∙ c.in_ok-text.ensures) in
    let long = put_long h.new_at h.new_len c.args.new.now (chars c.as_str.result.now) c.requires.new (put_text h.new_at h.new_len c.args.new.now c.as_str.result.now text) in
    let first = cut_costs c.args.replica.now c.cut.new.self c.args.section c.in_ok-cut.cut h c.requires.sound.lawful c.in_ok-cut.ensures.refused c.in_ok-cut.ensures.made in
    let p = err_from_is_err_and c.from_residual-in_err-put.result c.from_residual-in_err-put.ensures.1 in
    rw (p.1, p.2)
    (put_lacks c.args.replica.now c.cut.new.self c.args.section c.in_ok-cut.cut h
    (chars c.as_str.result.now) c.in_err-put.field-0.0 c.in_ok-cut.ensures.sound first long c.in_err-put.ensures.refused)

pub returns-clause-costs : goal.returns-clause-costs
returns-clause-costs c =
    let h = c.args.hunk in
    let text = typed_whole c.as_str.result.now _ c.as_str.utf8 (c.as_str.ensures.value ∙ c.in_ok-text.ensures) in
    let long = put_long h.new_at h.new_len c.args.new.now (chars c.as_str.result.now) c.requires.new (put_text h.new_at h.new_len c.args.new.now c.as_str.result.now text) in
    hunk_costs c.args.replica.now c.cut.new.self c.put.new.self c.args.section c.in_ok-cut.cut c.in_ok-put.put h (chars c.as_str.result.now) long
    (cut_and_put c.requires.sound.lawful c.in_ok-cut.ensures.sound.lawful c.in_ok-cut.ensures.refused c.in_ok-cut.ensures.made
    c.in_ok-put.ensures.refused c.in_ok-put.ensures.made)
