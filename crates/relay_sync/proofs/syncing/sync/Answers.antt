use Rattle.std.proofs.Common.{inl, ◌∙◌}
use Rattle.std.proofs.lemmas.Result.{IfErr-weaker, IfOk-weaker}
use Rattle.origin_model.specs.taking.Taking.{no_counts}
use Rattle.relay_sync.proofs.HeardLemmas.{heard_after, hears_exactly, up_to_after}
use Rattle.relay_sync.proofs.SyncingLemmas.{fails_at_once, fails_to_say}
use Rattle.relay_sync.proofs.syncing.sync.Goals as goal

pub returns-in_default-clause-err : goal.returns-in_default-clause-err
returns-in_default-clause-err g c = (no_counts, inl (fails_at_once _ _ _ _))

pub returns-in_default-say-clause-err : goal.returns-in_default-say-clause-err
returns-in_default-say-clause-err g c = (
  no_counts,
  inl (fails_to_say c.say.result c.in_default-say.field-0 _ _ _ c.args.port _ _ c.in_default-say.is
      (c.as_slice.ensures.value ∙ c.in-Ok.ensures.text) c.say.ensures.says),
)

pub returns-clause-reply : goal.returns-clause-reply
returns-clause-reply g c =
    IfOk-weaker c.hear.result _ _ (λ synced h. heard_after (g.W.Wire.seen c.args.wire.now) (g.W.Wire.seen c.say.new.wire) _ _ _ _ c.say.ensures.says.left h) c.hear.ensures.ok

pub returns-clause-up_to : goal.returns-clause-up_to
returns-clause-up_to g c =
    IfErr-weaker c.hear.result _ _ (λ fault h. (h.0, up_to_after fault (g.W.Wire.seen c.args.wire.now) (g.W.Wire.seen c.say.new.wire) _ _ _ c.say.ensures.says.left h.1))
    c.hear.ensures.err

pub returns-clause-exactly : goal.returns-clause-exactly
returns-clause-exactly g c =
    hears_exactly c.hear.result (g.W.Wire.seen c.args.wire.now) (g.W.Wire.seen c.say.new.wire) _ _ _ _ c.say.ensures.says.left c.hear.ensures.ok c.hear.ensures.err
