use Rattle.std.proofs.Common.{None, Ok, Err, Option, Some, ap, arith, subst, sym, ◌∙◌, ◌-◌, ◌+◌, ◌≡◌}
use Rattle.std.specs.Prelude.{IfSome}
use Rattle.op_frame.specs.Readers.{FrameReading, Nexts, kept_fault}
use Rattle.op_frame.specs.Steps.{TakesFrontFrame}
use Rattle.op_frame.specs.declared.fault.FrameFault.{FrameFault}
use Rattle.op_frame.specs.declared.step.Taken.{Taken}
use Rattle.op_frame.proofs.ReaderLemmas.{kept_on, nexts_fault, nexts_first, nexts_none, none_held, reading_at, still_within}
use Rattle.op_frame.proofs.reader.FrameReader.advance.Goals as goal

pub invariant_of-self : goal.invariant_of-self
invariant_of-self g c =
    let r = c.self.inside in
    let none : r.held ≡ None = none_held r.held r.unread.bytes c.self.invariant.2 (ap (λ (v : FrameReading). v.todo) c.self.view_is ∙ c.requires.none_held) in
    let t = subst (λ (given : Option Taken). TakesFrontFrame r.grammar r.unread.bytes c.take_next.new.unread.bytes (g.S.Source.seen c.args.source.now)
    (g.S.Source.seen c.take_next.new.source) r.offset (r.limit - r.offset) (Ok given))
    c.in-Ok-None.field-0-is c.in-Ok-None.ensures in
    let kept = still_within r.held r.limit r.offset r.unread.bytes c.take_next.new.unread.bytes none c.self.invariant.0 (omega (arith, t.within)) in
    (kept.0, c.self.invariant.1, kept.1)

pub invariant_of-self-in-Err : goal.invariant_of-self-in-Err
invariant_of-self-in-Err g c =
    let r = c.self.inside in
    let none : r.held ≡ None = none_held r.held r.unread.bytes c.self.invariant.2 (ap (λ (v : FrameReading). v.todo) c.self.view_is ∙ c.requires.none_held) in
    let kept = still_within r.held r.limit r.offset r.unread.bytes c.take_next.new.unread.bytes none c.self.invariant.0 (omega (arith, c.in-Err.ensures.within)) in
    (kept.0, subst (λ (f : Option FrameFault). IfSome f (λ e. kept_fault e ≡ Some e)) (sym c.kept-self-inside.ensures) (kept_on c.in-Err.fault), kept.1)

pub returns-in-Ok-None-clause-nexts : goal.returns-in-Ok-None-clause-nexts
returns-in-Ok-None-clause-nexts g c =
    let r = c.self.inside in
    let none : r.held ≡ None = none_held r.held r.unread.bytes c.self.invariant.2 (ap (λ (v : FrameReading). v.todo) c.self.view_is ∙ c.requires.none_held) in
    let no_fault : r.fault ≡ None = ap (λ (v : FrameReading). v.fault) c.self.view_is ∙ c.requires.fault in
    let t = subst (λ (given : Option Taken). TakesFrontFrame r.grammar r.unread.bytes c.take_next.new.unread.bytes (g.S.Source.seen c.args.source.now)
    (g.S.Source.seen c.take_next.new.source) r.offset (r.limit - r.offset) (Ok given))
    c.in-Ok-None.field-0-is c.in-Ok-None.ensures in
    subst (λ (v : FrameReading). Nexts v (reading_at r.grammar r.limit r.held c.take_next.new.unread.bytes r.offset r.last r.fault) (g.S.Source.seen c.args.source.now)
    (g.S.Source.seen c.take_next.new.source) (Ok None)) c.self.view_is
    (nexts_none r.grammar r.limit r.offset r.last r.fault r.unread.bytes c.take_next.new.unread.bytes _ _ r.held none c.self.invariant.0 no_fault t)

pub returns-in-Ok-Some-clause-nexts : goal.returns-in-Ok-Some-clause-nexts
returns-in-Ok-Some-clause-nexts g c =
    let r = c.self.inside in
    let none : r.held ≡ None = none_held r.held r.unread.bytes c.self.invariant.2 (ap (λ (v : FrameReading). v.todo) c.self.view_is ∙ c.requires.none_held) in
    let no_fault : r.fault ≡ None = ap (λ (v : FrameReading). v.fault) c.self.view_is ∙ c.requires.fault in
    let t = subst (λ (given : Option Taken). TakesFrontFrame r.grammar r.unread.bytes c.take_next.new.unread.bytes (g.S.Source.seen c.args.source.now)
    (g.S.Source.seen c.take_next.new.source) r.offset (r.limit - r.offset) (Ok given))
    c.in-Ok-Some.field-0-is c.in-Ok-Some.ensures in
    subst (λ (v : FrameReading). Nexts v (reading_at r.grammar r.limit c.in-Ok-Some.taken.held c.take_next.new.unread.bytes (r.offset + c.in-Ok-Some.taken.len) r.offset r.fault)
    (g.S.Source.seen c.args.source.now) (g.S.Source.seen c.take_next.new.source) (Ok (Some c.in-Ok-Some.taken.op))) c.self.view_is
    (nexts_first r.grammar r.limit r.offset r.last r.fault r.unread.bytes c.take_next.new.unread.bytes _ _ r.held c.in-Ok-Some.taken none c.self.invariant.0 no_fault t)

pub returns-in-Err-clause-nexts : goal.returns-in-Err-clause-nexts
returns-in-Err-clause-nexts g c =
    let r = c.self.inside in
    let none : r.held ≡ None = none_held r.held r.unread.bytes c.self.invariant.2 (ap (λ (v : FrameReading). v.todo) c.self.view_is ∙ c.requires.none_held) in
    subst (λ (v : FrameReading). Nexts v (reading_at r.grammar r.limit r.held c.take_next.new.unread.bytes r.offset r.last c.kept-self-inside.result)
    (g.S.Source.seen c.args.source.now) (g.S.Source.seen c.take_next.new.source) (Err c.in-Err.fault)) c.self.view_is
    (nexts_fault r.grammar r.limit r.offset r.last r.fault r.unread.bytes c.take_next.new.unread.bytes _ _ r.held c.in-Err.fault c.kept-self-inside.result none c.self.invariant.0
    c.kept-self-inside.ensures c.in-Err.ensures)
