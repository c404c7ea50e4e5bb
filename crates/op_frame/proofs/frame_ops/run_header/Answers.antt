use Rattle.origin_model.specs.declared.grammar.Grammar.TheVariants.{Version2}
use Rattle.op_frame.proofs.DecodingLemmas.{fields_there}
use Rattle.op_frame.proofs.DueLemmas.{run_due}
use Rattle.op_frame.proofs.ReadingLemmas.{framed_some}
use Rattle.op_frame.proofs.frame_ops.run_header.Goals as goal

pub read-requires : goal.read-requires
read-requires c = fields_there Version2 4 _ c.args.frame.now run_due c.requires.frame (framed_some Version2 _ c.requires.frame.1) c.requires.run
