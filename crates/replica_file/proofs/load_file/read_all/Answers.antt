use Rattle.std.proofs.Common.{ap, arith, subst, sym, ◌+◌, ◌∙◌}
use Rattle.std.specs.Prelude.{IfSome}
use Rattle.std.proofs.lemmas.Result.{err_from_is_err_and}
use Rattle.origin_model.specs.edits.State.{State}
use Rattle.replica_file.specs.Load.{Loads}
use Rattle.replica_file.specs.Moments.{WalkedWith, WalksOutWith}
use Rattle.replica_file.proofs.MomentLemmas.{walk_begins, walk_ends}
use Rattle.replica_file.proofs.PartLemmas.{specified_one}
use Rattle.replica_file.proofs.ReachLemmas.{reaches_then}
use Rattle.replica_file.proofs.WalkLemmas.{walk_begin, walk_out}
use Rattle.replica_file.proofs.load_file.read_all.Goals as goal

pub returns-in_err-front-clause-cause : goal.returns-in_err-front-clause-cause
returns-in_err-front-clause-cause g c =
    let p = err_from_is_err_and c.from_residual.result c.from_residual.ensures.1 in
    rw (p.1, p.2) (specified_one (g.H.Disk.seen c.args.disk.now).past (λ h all. all c.args.most) c.in_err-front.ensures.stops)

pub take_slots-requires-clause-walked : goal.take_slots-requires-clause-walked
take_slots-requires-clause-walked g c =
    let made = c.new-loading.ensures.replica in
    subst (λ o. IfSome o (λ h. WalkedWith h.last.seen 0 c.in_ok-front.front.gate c.new-loading.result.replica c.new-moments.result.items)) (sym c.in_ok-front.ensures.looks.past)
    (specified_one (g.H.Disk.seen c.args.disk.now).past
    (λ h front. walk_begins h.last.seen c.in_ok-front.front.gate c.new-loading.result.replica c.new-moments.result.items c.new-moments.ensures.items
    (walk_begin h.last.seen c.in_ok-front.front.gate c.new-loading.result.replica front.has c.in_ok-front.ensures.at front.is_gate
    (ap (λ (s : State). s.number) made ∙ front.header_is.replica_is)
    (ap (λ (s : State). s.hold) made ∙ front.header_is.hold_is) (ap (λ (s : State). s.held) made))) c.in_ok-front.ensures.specified)

pub returns-in-Ok-clause-cause : goal.returns-in-Ok-clause-cause
returns-in-Ok-clause-cause g c =
    let limit = ap (λ (s : State). s.most) c.in-Ok.ensures.same ∙ ap (λ (s : State). s.most) c.new-loading.ensures.replica in
    specified_one (g.H.Disk.seen c.args.disk.now).past
    (λ h out. subst (λ (s : State). Loads c.args.most h.last.seen s c.in-Ok.end) (sym c.into_replica.ensures)
    (walk_out h.last.seen c.args.most c.in-Ok.end c.take_slots.new.loading.replica limit out.out))
    (subst (λ o. IfSome o (λ h. WalksOutWith h.last.seen c.in-Ok.end c.take_slots.new.loading.replica c.take_slots.new.moments.items)) c.in_ok-front.ensures.looks.past
    c.in-Ok.ensures.ends)

pub returns-in-Ok-clause-reach : goal.returns-in-Ok-clause-reach
returns-in-Ok-clause-reach g c =
    reaches_then 14 (c.in-Ok.end.at + 1) (c.in-Ok.end.at + 1) (g.H.Disk.seen c.args.disk.now).reach (g.H.Disk.seen c.read_front.new.disk).reach
    (g.H.Disk.seen c.take_slots.new.disk).reach (omega (arith, c.in-Ok.ensures.behind)) (omega arith)
    c.in_ok-front.ensures.reach c.in-Ok.ensures.reach

pub returns-in-Ok-clause-moments_are : goal.returns-in-Ok-clause-moments_are
returns-in-Ok-clause-moments_are g c =
    specified_one (g.H.Disk.seen c.args.disk.now).past (λ h out. walk_ends h.last.seen c.in-Ok.end c.take_slots.new.loading.replica c.take_slots.new.moments.items out)
    (subst (λ o. IfSome o (λ h. WalksOutWith h.last.seen c.in-Ok.end c.take_slots.new.loading.replica c.take_slots.new.moments.items)) c.in_ok-front.ensures.looks.past
    c.in-Ok.ensures.ends)
