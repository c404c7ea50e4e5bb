use Rattle.op_frame.proofs.HeaderLemmas.{header_read}
use Rattle.op_frame.proofs.header.RunHeader.read.Goals as goal

pub returns : goal.returns
returns c =
    header_read _ _ _ _ _ _ _ _ _ _ c.requires c.identifier-id.ensures.is c.identifier-section.ensures.is c.origin-left.ensures.is c.origin-right.ensures.is
    c.identifier-id.ensures.split
    c.identifier-section.ensures.split c.origin-left.ensures.split c.origin-right.ensures.split c.short_number-count.ensures.small c.short_number-count.ensures.bytes
