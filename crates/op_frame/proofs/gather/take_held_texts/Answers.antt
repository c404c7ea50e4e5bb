use Rattle.op_frame.proofs.GatherLemmas.{scalars_within}
use Rattle.op_frame.proofs.gather.take_held_texts.Goals as goal

pub skip-requires : goal.skip-requires
skip-requires c = scalars_within c.args.header.now c.args.unread.now.bytes c.requires
