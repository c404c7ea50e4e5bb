use Rattle.std.proofs.Common.{None, ap, subst, sym, ◌∙◌, ◌≡◌, ◌+◌}
use Rattle.fugue_ids.specs.Identifiers.{Identifier}
use Rattle.fugue_ids.specs.declared.op.Op.TheVariants.{Delete}
use Rattle.fugue_ids.proofs.OptionLemmas.{is_some-false}
use Rattle.op_frame.specs.NextRuns.{GathersOne, IsOpFront}
use Rattle.op_frame.specs.Readers.{FrameReading}
use Rattle.op_frame.proofs.GatherLemmas.{gathers_delete_at}
use Rattle.op_frame.proofs.ReaderLemmas.{reading_at}
use Rattle.op_frame.proofs.reader.FrameReader.gather_delete.Goals as goal

pub returns : goal.returns
returns c =
    let r = c.self.inside in
    let len = c.in-Some-take_delete.len in
    let bytes = c.take_delete.new.unread.bytes in
    let no_fault : r.fault ≡ None = ap (λ (v : FrameReading). v.fault) c.self.view_is ∙ c.requires in
    let none : r.held ≡ None = is_some-false r.held (sym c.is_some.ensures ∙ c.if-is_some.false) in
    subst (λ (v : FrameReading). GathersOne c.args.first c.args.count v (reading_at r.grammar r.limit r.held bytes (r.offset + len) r.offset r.fault)) c.self.view_is
    (gathers_delete_at r.grammar r.limit r.offset r.last c.args.first c.args.count len r.unread.bytes bytes r.held r.fault no_fault c.self.invariant.0 none c.in-Some.ensures.fits
    (subst (λ (x : Identifier). IsOpFront (Delete x) len r.unread.bytes) c.in-Some.ensures.is c.in-Some-take_delete.ensures.0) c.in-Some-take_delete.ensures.1)
