use Rattle.std.proofs.Common.{◌+◌, ◌<◌, ◌∙◌, sym, subst, take}
use Rattle.std.specs.Prelude.{AllPairs}
use Rattle.std.proofs.lemmas.Bool.{cond_both}
use Rattle.std.proofs.lemmas.List.Kept.{AllPairs-filter}
use Rattle.causal_inbox.specs.Index.{without_age}
use Rattle.causal_inbox.specs.Key.{is_among, keys_of}
use Rattle.causal_inbox.specs.Lists.{ages_under}
use Rattle.causal_inbox.proofs.AgeLemmas.{dropped_twice}
use Rattle.causal_inbox.proofs.KeyLemmas.{changed_more, keys_first, keys_next, none_changed}
use Rattle.causal_inbox.proofs.lists.drop_age.Goals as goal

pub names-init : goal.names-init
names-init c =
    let op = c.args.op.now in (
      changed_more (λ l. without_age l c.args.age) (dropped_twice c.args.age) (keys_of op) 0 c.main_key.result (ages_under c.args.lists.now) (ages_under c.args.lists.now)
          (ages_under c.drop_under.new.lists)
          (keys_first op c.main_key.result c.main_key.ensures) (none_changed op (λ l. without_age l c.args.age) (ages_under c.args.lists.now)) c.drop_under.ensures.dropped,
      c.drop_under.ensures.no_empty,
    )

-- the lists rise after some of the keys
pub drop_under-requires-in-names : goal.drop_under-requires-in-names
drop_under-requires-in-names c =
    let x = c.named_key.result in
    let list = ages_under c.args.lists.now x in
    subst (AllPairs ◌<◌) (sym (c.names.invariant.0 x))
    (cond_both (is_among (take (c.names.named-index + 1) (keys_of c.args.op.now)) x) (without_age list c.args.age) list (AllPairs ◌<◌)
    (λ _. AllPairs-filter ◌<◌ _ list (c.requires x)) (λ _. c.requires x))

pub names-preserved : goal.names-preserved
names-preserved c =
    let op = c.args.op.now in
    let named = c.as_slice-named-items.result.now in
    let more = keys_next op named c.names.named-index c.named-item.result c.named_key.result
    (c.as_slice-named-items.ensures ∙ c.names_of-names.ensures) c.names-test.true c.named_key.ensures c.named-item.is in (
      changed_more (λ l. without_age l c.args.age) (dropped_twice c.args.age) (keys_of op) (c.names.named-index + 1) c.named_key.result (ages_under c.args.lists.now)
          (ages_under c.names.lists) (ages_under c.drop_under-in-names.new.lists)
          more c.names.invariant.0 c.drop_under-in-names.ensures.dropped,
      λ none. c.drop_under-in-names.ensures.no_empty (c.names.invariant.1 none),
    )
