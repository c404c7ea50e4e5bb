use Rattle.op_frame.proofs.HeaderLemmas.{gives_held, scalar_first}
use Rattle.op_frame.proofs.header.RunHeader.first.Goals as goal

pub first_scalar-requires : goal.first_scalar-requires
first_scalar-requires c = scalar_first c.args.self c.args.bytes.now c.requires

pub returns : goal.returns
returns c = gives_held c.args.self c.args.bytes.now c.first_scalar.result c.requires c.first_scalar.ensures.split c.first_scalar.ensures.is c.next.result c.next.ensures
