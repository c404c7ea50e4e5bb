use Rattle.std.proofs.Common.{◌∙◌}
use Rattle.std.proofs.lemmas.Result.{err_from_is_err_and}
use Rattle.replica_core.proofs.PlanLemmas.{ids_left, ids_spent, next_is}
use Rattle.replica_core.proofs.replica.Replica.check_elements.Goals as goal

pub returns-then-count-next-clause-err : goal.returns-then-count-next-clause-err
returns-then-count-next-clause-err c =
    let greatest = c.greatest_counter-greatest in
    let next = c.next_after-next in
    ids_spent c.args.self.now greatest.result next.result c.args.count c.unwrap_or.result greatest.ensures.greatest next.ensures.value next.ensures.within c.if-count-next.true
    c.unwrap_or.ensures

pub returns-in_err-check_room-clause-err : goal.returns-in_err-check_room-clause-err
returns-in_err-check_room-clause-err c =
    let greatest = c.greatest_counter-greatest in
    let next = c.next_after-next in
    let p = err_from_is_err_and c.from_residual.result c.from_residual.ensures.1 in
    rw (p.1, p.2)
    (ids_left c.args.self.now greatest.result next.result c.args.count greatest.ensures.greatest next.ensures.value c.if-count-next.false next.ensures.within
    ∙ c.in_err-check_room.ensures.err)

pub returns-clause-ok : goal.returns-clause-ok
returns-clause-ok c =
    let greatest = c.greatest_counter-greatest in
    next_is c.args.self.now greatest.result c.next_after-next.result greatest.ensures.greatest c.next_after-next.ensures.value

pub returns-clause-may : goal.returns-clause-may
returns-clause-may c =
    let greatest = c.greatest_counter-greatest in
    let next = c.next_after-next in
    ids_left c.args.self.now greatest.result next.result c.args.count greatest.ensures.greatest next.ensures.value c.if-count-next.false next.ensures.within
    ∙ c.in_ok-check_room.ensures.ok
