use Rattle.std.proofs.Common.{arith, sym, ◌∙◌}
use Rattle.relay_core.proofs.TakingLemmas.{goes_there, grows_on, stops_there}
use Rattle.relay_core.proofs.taking.take_all.Goals as goal

pub returns-then-is_some-clause-ok : goal.returns-then-is_some-clause-ok
returns-then-is_some-clause-ok g c =
    stops_there c.args.limit c.args.piece.now c.loop-byte.byte-index _ _ _ c.in_ok-reply.reply _ (sym c.is_some.ensures ∙ c.if-is_some.true) (omega (arith, c.loop-byte-test.true))
    c.loop-byte.invariant.taken c.in_ok-reply.ensures.ok

pub loop-byte-preserved : goal.loop-byte-preserved
loop-byte-preserved g c = record {
  taken = goes_there c.args.limit c.args.piece.now c.loop-byte.byte-index _ _ _ c.in_ok-reply.reply _ (sym c.is_some.ensures ∙ c.if-is_some.false)
      (omega (arith, c.loop-byte-test.true))
      c.loop-byte.invariant.taken c.in_ok-reply.ensures.ok;
  grows = grows_on _ _ _ c.loop-byte.invariant.grows c.in_ok-reply.ensures.grows;
  within = c.in_ok-reply.ensures.within;
}
