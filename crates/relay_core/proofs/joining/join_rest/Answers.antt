use Rattle.std.proofs.Common.{refl, sym, ◌∙◌}
use Rattle.relay_core.specs.Logs.{frames_in}
use Rattle.relay_core.proofs.JoiningLemmas.{joins_more}
use Rattle.relay_core.proofs.TakingLemmas.{grows_on}
use Rattle.relay_core.proofs.joining.join_rest.Goals as goal

pub ops-preserved-else-is_some : goal.ops-preserved-else-is_some
ops-preserved-else-is_some g c = record {
  joins = joins_more c.args.limit (frames_in c.args.log.now) c.args.left.now _ _ _ _ c.in-Some.op _ c.in_ok-reply.reply c.ops.invariant.joins c.in-Some.ensures refl
      (sym c.is_some.ensures ∙ c.if-is_some.false) c.in_ok-reply.ensures.ok;
  grows = grows_on _ _ _ c.ops.invariant.grows c.in_ok-reply.ensures.grows;
  within = c.in_ok-reply.ensures.within;
}
