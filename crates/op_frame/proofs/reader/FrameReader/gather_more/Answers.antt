use Rattle.std.proofs.Common.{None, ap, subst, ◌∙◌, ◌≡◌, ◌+◌}
use Rattle.op_frame.specs.Headers.{IsHeld}
use Rattle.op_frame.specs.Readers.{FrameReading}
use Rattle.op_frame.proofs.GatherLemmas.{GathersSome, gathers_frame_at, gathers_held_at}
use Rattle.op_frame.proofs.ReaderLemmas.{reading_at}
use Rattle.op_frame.proofs.SpecifiedLemmas.{some_is}
use Rattle.op_frame.proofs.reader.FrameReader.gather_more.Goals as goal

pub returns-else-not-take_held_texts-clause-gathers : goal.returns-else-not-take_held_texts-clause-gathers
returns-else-not-take_held_texts-clause-gathers c =
    let r = c.self.inside in
    let none : r.fault ≡ None = ap (λ (v : FrameReading). v.fault) c.self.view_is ∙ c.requires in
    let bytes = c.take_held_texts.new.unread.bytes in
    subst (λ (v : FrameReading). GathersSome c.args.start.now c.args.text.now.items c.take_held_texts.new.text.items v
    (reading_at r.grammar r.limit None bytes r.offset r.last r.fault)) c.self.view_is
    (gathers_held_at r.grammar r.limit r.offset r.last c.args.start.now c.args.text.now.items c.take_held_texts.new.text.items r.unread.bytes bytes r.held r.fault none
    c.self.invariant.0 c.in-Some.header c.in-Some.is
    (some_is (IsHeld r.unread.bytes) r.held c.in-Some.header c.self.invariant.2 c.in-Some.is) c.if-not-take_held_texts.ensures.takes)

pub returns-in-Some-take_texts-clause-gathers : goal.returns-in-Some-take_texts-clause-gathers
returns-in-Some-take_texts-clause-gathers c =
    let r = c.self.inside in
    let none : r.fault ≡ None = ap (λ (v : FrameReading). v.fault) c.self.view_is ∙ c.requires in
    let bytes = c.take_texts.new.unread.bytes in
    let len = c.in-Some-take_texts.len in
    subst (λ (v : FrameReading). GathersSome c.args.start.now c.args.text.now.items c.take_texts.new.text.items v
    (reading_at r.grammar r.limit r.held bytes (r.offset + len) r.offset r.fault)) c.self.view_is
    (gathers_frame_at r.grammar r.limit r.offset r.last c.args.start.now c.args.text.now.items c.take_texts.new.text.items r.unread.bytes bytes r.held r.fault none
    c.self.invariant.0 len c.in-None.is c.in-Some-take_texts.ensures.takes)
