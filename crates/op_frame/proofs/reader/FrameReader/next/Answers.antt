use Rattle.std.proofs.Common.{Ok, Some, ap, subst, ◌∙◌}
use Rattle.op_frame.specs.Readers.{FrameReading, Nexts}
use Rattle.op_frame.proofs.ReaderLemmas.{nexts_held, reading_at}
use Rattle.op_frame.proofs.StreamLemmas.{chains, in_order}
use Rattle.op_frame.proofs.reader.FrameReader.next.Goals as goal

pub returns-in-None-clause-chains : goal.returns-in-None-clause-chains
returns-in-None-clause-chains g c no_fault = chains _ _ _ _ _ c.advance.ensures.nexts

pub returns-in-None-clause-in_order : goal.returns-in-None-clause-in_order
returns-in-None-clause-in_order g c no_fault = in_order _ _ _ _ _ c.advance.ensures.nexts

pub returns-in-Some-held-clause-in_order : goal.returns-in-Some-held-clause-in_order
returns-in-Some-held-clause-in_order g c no_fault =
    let r = c.self.inside in
    let given = c.take_held-op in
    in_order _ _ _ _ _
    (subst (λ (v : FrameReading). Nexts v (reading_at r.grammar r.limit given.result.1 given.new.unread.bytes r.offset r.last r.fault) (g.S.Source.seen c.args.source.now)
    (g.S.Source.seen c.args.source.now) (Ok (Some given.result.0)))
    c.self.view_is
    (nexts_held r.grammar r.limit r.offset r.last r.fault r.unread.bytes given.new.unread.bytes _ r.held c.in-Some-held.header given.result.0 given.result.1 c.in-Some-held.is
    c.self.invariant.0
    (ap (λ (v : FrameReading). v.fault) c.self.view_is ∙ no_fault) given.ensures))

pub returns-in-Some-held-clause-chains : goal.returns-in-Some-held-clause-chains
returns-in-Some-held-clause-chains g c no_fault =
    let r = c.self.inside in
    let given = c.take_held-op in
    chains _ _ _ _ _
    (subst (λ (v : FrameReading). Nexts v (reading_at r.grammar r.limit given.result.1 given.new.unread.bytes r.offset r.last r.fault) (g.S.Source.seen c.args.source.now)
    (g.S.Source.seen c.args.source.now) (Ok (Some given.result.0)))
    c.self.view_is
    (nexts_held r.grammar r.limit r.offset r.last r.fault r.unread.bytes given.new.unread.bytes _ r.held c.in-Some-held.header given.result.0 given.result.1 c.in-Some-held.is
    c.self.invariant.0
    (ap (λ (v : FrameReading). v.fault) c.self.view_is ∙ no_fault) given.ensures))
