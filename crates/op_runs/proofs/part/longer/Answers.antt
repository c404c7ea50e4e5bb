use Rattle.std.proofs.Common.{◌≡◌, ◌∙◌, ◌+◌, ap, subst, sym}
use Rattle.op_runs.specs.Growing.{HasMoreDeletes}
use Rattle.op_runs.proofs.DeletionLemmas.{longer_by, longer_is}
use Rattle.op_runs.proofs.part.longer.Goals.{else-down, then-down}
use Rattle.op_runs.proofs.part.longer.Goals as goal

pub returns-clause-some : goal.returns-clause-some
returns-clause-some c =
    let d = c.args.part.now in
    let down = c.in-Some.down in
    let most = c.args.most in
    let by : c.if-down.count ≡ longer_by down most =
    elim c.if-down.branch [
      | then-down w ↦ w.count-is ∙ sym (ap (λ b. longer_by b most) w.if-down.true)
      | else-down w ↦ w.count-is ∙ sym (ap (λ b. longer_by b most) w.if-down.false)
    ] in
    subst (λ n. HasMoreDeletes d c.args.target most (record { target = d.target; count = d.count + n; down = down })) (sym by)
    (longer_is d c.args.target most down c.requires.some c.requires.counters c.in-Some.ensures.some)
