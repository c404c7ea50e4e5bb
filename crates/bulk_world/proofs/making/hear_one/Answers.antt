use Rattle.bulk_world.proofs.DeliveryLemmas.{copy_delivered}
use Rattle.bulk_world.proofs.making.hear_one.Goals as goal

pub returns-in-Err-TooMany-clause-heard : goal.returns-in-Err-TooMany-clause-heard
returns-in-Err-TooMany-clause-heard c =
    let fed = c.in-Err-TooMany in
    copy_delivered _ _ _ _ _ _ c.feed.result (λ e. cc (fed.is, fed.field-0-is, e)) c.in_ok-op.ensures c.requires
    (record { held = c.feed.ensures.held; too_many = c.feed.ensures.too_many; err = c.feed.ensures.err })
