use Rattle.std.proofs.Common.{ap, length, subst, sym, take, ◌+◌, ◌∙◌, ◌≤◌}
use Rattle.replica_core.proofs.DeletingLemmas.{deleting_each, each_deleted, row_can_join, row_deleted, row_stopped, row_within, tail_is}
use Rattle.replica_core.proofs.replica.Replica.delete_each.Goals as goal

pub deleted-init : goal.deleted-init
deleted-init c = deleting_each c.args.section.now c.args.self.now c.args.targets.now c.requires.can_join c.requires.sound c.requires.within

pub join_deletes-requires-clause-can : goal.join_deletes-requires-clause-can
join_deletes-requires-clause-can c =
    let xs = c.args.targets.now in
    let at = c.deleted.at in
    let n = c.followers-count.result in
    let tail = tail_is xs (at + 1) in
    let row = ap (take n) (sym tail) ∙ c.followers-count.ensures.row in
    let few = subst (λ ys. n ≤ length ys) tail c.followers-count.ensures.within in
    row_can_join c.args.section.now c.args.self.now c.deleted.self xs at c.deleted.invariant c.index-targets-at.result c.deleted-test.true c.index-targets-at.is n row few

pub join_deletes-requires-clause-within : goal.join_deletes-requires-clause-within
join_deletes-requires-clause-within c =
    let xs = c.args.targets.now in
    let at = c.deleted.at in
    let n = c.followers-count.result in
    let tail = tail_is xs (at + 1) in
    let row = ap (take n) (sym tail) ∙ c.followers-count.ensures.row in
    let few = subst (λ ys. n ≤ length ys) tail c.followers-count.ensures.within in
    row_within c.args.section.now c.args.self.now c.deleted.self xs at c.deleted.invariant c.index-targets-at.result c.deleted-test.true c.index-targets-at.is n row few

pub returns-in_default-clause-err : goal.returns-in_default-clause-err
returns-in_default-clause-err c =
    let xs = c.args.targets.now in
    let at = c.deleted.at in
    let n = c.followers-count.result in
    let tail = tail_is xs (at + 1) in
    let row = ap (take n) (sym tail) ∙ c.followers-count.ensures.row in
    let few = subst (λ ys. n ≤ length ys) tail c.followers-count.ensures.within in
    let stopped = c.in_default.ensures in
    row_stopped c.args.section.now c.args.self.now c.deleted.self xs at c.deleted.invariant c.index-targets-at.result c.deleted-test.true c.index-targets-at.is n row few
    c.join_deletes.new.self c.in_default.field-0.done stopped.fewer stopped.err stopped.sound

pub deleted-preserved : goal.deleted-preserved
deleted-preserved c =
    let xs = c.args.targets.now in
    let at = c.deleted.at in
    let n = c.followers-count.result in
    let tail = tail_is xs (at + 1) in
    let row = ap (take n) (sym tail) ∙ c.followers-count.ensures.row in
    let few = subst (λ ys. n ≤ length ys) tail c.followers-count.ensures.within in
    row_deleted c.args.section.now c.args.self.now c.deleted.self xs at c.deleted.invariant c.index-targets-at.result c.deleted-test.true c.index-targets-at.is n row few
    c.join_deletes.new.self c.in-Ok.ensures.ok c.in-Ok.ensures.sound

pub returns-clause-ok : goal.returns-clause-ok
returns-clause-ok c = each_deleted c.args.section.now c.args.self.now c.deleted.self c.args.targets.now c.deleted.at c.deleted.invariant c.deleted-test.false
