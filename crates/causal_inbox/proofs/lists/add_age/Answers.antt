use Rattle.std.proofs.Common.{◌+◌, ◌∙◌}
use Rattle.std.proofs.lemmas.Result.{err_from_is_err_and}
use Rattle.causal_inbox.specs.Index.{with_age}
use Rattle.causal_inbox.specs.Key.{keys_of}
use Rattle.causal_inbox.specs.Lists.{ages_under}
use Rattle.causal_inbox.proofs.AgeLemmas.{added_twice}
use Rattle.causal_inbox.proofs.KeyLemmas.{changed_more, front_added, keys_first, keys_next, none_changed}
use Rattle.causal_inbox.proofs.lists.add_age.Goals as goal

pub names-init : goal.names-init
names-init c =
    let op = c.args.op.now in (
      changed_more (λ l. with_age l c.args.age) (added_twice c.args.age) (keys_of op) 0 c.main_key.result (ages_under c.args.lists.now) (ages_under c.args.lists.now)
          (ages_under c.add_under.new.lists)
          (keys_first op c.main_key.result c.main_key.ensures) (none_changed op (λ l. with_age l c.args.age) (ages_under c.args.lists.now)) c.in_ok-add_under.ensures.ok,
      c.add_under.ensures.no_empty,
    )

pub names-preserved : goal.names-preserved
names-preserved c =
    let op = c.args.op.now in
    let k = c.names.named-index in
    let named = c.as_slice-named-items.result.now in
    let more = keys_next op named k c.named-item.result c.named_key.result
    (c.as_slice-named-items.ensures ∙ c.names_of-names.ensures) c.names-test.true c.named_key.ensures c.named-item.is in (
      changed_more (λ l. with_age l c.args.age) (added_twice c.args.age) (keys_of op) (k + 1) c.named_key.result (ages_under c.args.lists.now) (ages_under c.names.lists)
          (ages_under c.add_under-in-names.new.lists)
          more c.names.invariant.0 c.in_ok-add_under-2.ensures.ok,
      λ none. c.add_under-in-names.ensures.no_empty (c.names.invariant.1 none),
    )

pub returns-in_err-add_under-clause-err : goal.returns-in_err-add_under-clause-err
returns-in_err-add_under-clause-err c =
    let op = c.args.op.now in
    let p = err_from_is_err_and c.from_residual.result c.from_residual.ensures.1 in
    rw p.1 (front_added (keys_of op) 0 c.args.age c.main_key.result (ages_under c.args.lists.now) (ages_under c.args.lists.now) (ages_under c.add_under.new.lists)
    (none_changed op (λ l. with_age l c.args.age) (ages_under c.args.lists.now)) c.in_err-add_under.ensures.err)

pub returns-in_err-add_under-2-clause-err : goal.returns-in_err-add_under-2-clause-err
returns-in_err-add_under-2-clause-err c =
    let p = err_from_is_err_and c.from_residual-in_err-add_under-2.result c.from_residual-in_err-add_under-2.ensures.1 in
    rw p.1 (front_added (keys_of c.args.op.now) (c.names.named-index + 1) c.args.age c.named_key.result (ages_under c.args.lists.now) (ages_under c.names.lists)
    (ages_under c.add_under-in-names.new.lists)
    c.names.invariant.0 c.in_err-add_under-2.ensures.err)
