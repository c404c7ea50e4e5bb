use Rattle.std.proofs.Common.{arith, length, ◌<◌, ◌≤◌}
use Rattle.std.proofs.lemmas.Option.{none-some, same_Some}
use Rattle.order_proof.proofs.ReadingLemmas.{read_ends, read_more, read_none, read_stops}
use Rattle.order_proof.proofs.text_parts.read_ids.Goals as goal

pub ids-init : goal.ids-init
ids-init c = rw c.new-ids.ensures.items (read_none c.args.text.now)

pub ids-preserved : goal.ids-preserved
ids-preserved c =
    rw c.in_ok-push-in-Some.ensures.items
    (read_more c.args.text.now c.ids.ids.items c.ids.words.rest.now _ c.take_id.new.self.rest.now c.ids.invariant c.in-Some.ensures.parts.0 c.in-Some.ensures.parts.1
    (λ y more q k. let r = c.in-Some.ensures.every y more q k in (same_Some _ _ r.0, r.1)))

pub returns-in-None-clause-every : goal.returns-in-None-clause-every
returns-in-None-clause-every c xs p e =
    let some : 0 < length c.ids.words.rest.now = grind arith in
    read_stops c.args.text.now c.ids.ids.items c.ids.words.rest.now c.ids.invariant some (λ y more q k. none-some y (c.in-None.ensures.every y more q k).0) xs p e

pub returns-clause-every : goal.returns-clause-every
returns-clause-every c xs p e =
    let none : length c.ids.words.rest.now ≤ 0 = grind arith in
    read_ends c.args.text.now c.ids.ids.items c.ids.words.rest.now c.ids.invariant none xs p e
