use Rattle.op_frame.proofs.DecodingLemmas.{code_after}
use Rattle.op_frame.proofs.decoding.note.Goals as goal

pub bounds-fields-0 : goal.bounds-fields-0
bounds-fields-0 c = (code_after _ _ _ _ _ c.requires c.identifier-id.ensures.is c.identifier-id.ensures.split c.names-names.ensures.are c.names-names.ensures.split).some

pub slice_bounds-body-count : goal.slice_bounds-body-count
slice_bounds-body-count c = (code_after _ _ _ _ _ c.requires c.identifier-id.ensures.is c.identifier-id.ensures.split c.names-names.ensures.are c.names-names.ensures.split).some

pub body-requires : goal.body-requires
body-requires c = (code_after _ _ _ _ _ c.requires c.identifier-id.ensures.is c.identifier-id.ensures.split c.names-names.ensures.are c.names-names.ensures.split).body

pub slice_bounds-body-start : goal.slice_bounds-body-start
slice_bounds-body-start c = (code_after _ _ _ _ _ c.requires c.identifier-id.ensures.is c.identifier-id.ensures.split c.names-names.ensures.are c.names-names.ensures.split).some
