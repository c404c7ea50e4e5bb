use Rattle.std.proofs.Common.{◌≡◌, ◌+◌, ap, inl, inr, length, refl, ◌∙◌, arith}
use Rattle.std.specs.Prelude.{Err}
use Rattle.std.proofs.lemmas.Result.{err_from_is_err_and}
use Rattle.replica_file.specs.Append.{after_gate}
use Rattle.replica_file.specs.declared.appending.AppendFault.TheVariants.{BatchTooLong}
use Rattle.replica_file.proofs.AppendLemmas.{append_done, append_failed, not_appended, nothing_appended}
use Rattle.replica_file.proofs.appending.append.Goals as goal

pub returns-then-len-eq0 : goal.returns-then-len-eq0
returns-then-len-eq0 g c = let none = c.len.ensures in nothing_appended c.args.end c.args.ops _ (omega (arith, none, c.if-len-eq0.true)) c.requires.reaches

pub returns-then-end-eq4294967295 : goal.returns-then-end-eq4294967295
returns-then-end-eq4294967295 g c =
    not_appended c.args.end c.args.ops _ BatchTooLong (λ is. c.if-len-eq0.false (c.len.ensures ∙ ap length is)) (λ is. cc is)
    (λ not. (λ is. inr (λ none. c.if-len-eq0.false (c.len.ensures ∙ ap length none), c.if-end-eq4294967295.true), λ long. refl))

pub returns-in_err-bytes : goal.returns-in_err-bytes
returns-in_err-bytes g c =
    let p = err_from_is_err_and c.from_residual.result c.from_residual.ensures.1 in
    let fails = c.in_err-bytes.ensures in
    let fault = c.in_err-bytes.field-0.0 in
    rw (p.1, p.2) (not_appended c.args.end c.args.ops _ fault (λ is. c.if-len-eq0.false (c.len.ensures ∙ ap length is)) (λ is. fails.no_disk (ap Err is))
    (λ not. let exactly = fails.too_long (λ is. not (cc is)) in (
      λ is. inl (exactly.0 (ap Err is)),
      λ long. elim long [ inl bytes ↦ (let same = exactly.1 bytes in cc same) | inr spent ↦ absurd (c.if-end-eq4294967295.false spent.1) ],
    )))

pub returns-in_err-write_after : goal.returns-in_err-write_after
returns-in_err-write_after g c =
    let p = err_from_is_err_and c.from_residual-in_err-write_after.result c.from_residual-in_err-write_after.ensures.1 in
    let made = c.in_ok-bytes.ensures in
    let wrote = c.in_err-write_after.ensures in
    rw (p.1, p.2) (append_failed c.args.end c.args.ops made.have_frames made.short (omega (arith, c.if-end-eq4294967295.false)) _ (c.deref.ensures.value ∙ made.bytes)
    (g.H.Disk.seen c.args.disk.now)
    (g.H.Disk.seen c.write_after.new.disk) (λ is. c.if-len-eq0.false (c.len.ensures ∙ ap length is))
    c.requires.ends wrote.moments wrote.honest wrote.cause.later wrote.counts_no_fault
    wrote.cause.failed
    wrote.sure)

pub returns : goal.returns
returns g c =
    let made = c.in_ok-bytes.ensures in
    let wrote = c.in_ok-write_after.ensures in
    let long : c.len-2.result ≡ length (after_gate c.args.ops) = omega (arith, c.len-2.ensures, c.in_ok-bytes.bytes.ok.0, ap length made.bytes) in
    append_done c.args.end c.args.ops made.have_frames made.short (omega (arith, c.if-end-eq4294967295.false)) _ (c.deref.ensures.value ∙ made.bytes)
    (g.H.Disk.seen c.args.disk.now)
    (g.H.Disk.seen c.write_after.new.disk) (λ is. c.if-len-eq0.false (c.len.ensures ∙ ap length is))
    c.requires.ends wrote.moments wrote.honest wrote.cause.later wrote.counts_no_fault _
    (λ i. record { at = c.args.end.at + long i; slots = c.args.end.slots + 1 }) c.requires.reaches wrote.past wrote.room wrote.opened wrote.specified_no_fault
