use Rattle.op_frame.proofs.GatherLemmas.{run_held, run_within, takes_run_texts}
use Rattle.op_frame.proofs.gather.take_run.Goals as goal

pub overflow_sub-len : goal.overflow_sub-len
overflow_sub-len c = run_within c.args.grammar c.args.header.now c.args.len c.args.unread.now.bytes c.requires

pub put_scalars-requires : goal.put_scalars-requires
put_scalars-requires c = run_held c.args.grammar c.args.header.now c.args.len c.args.unread.now.bytes c.requires c.as_slice.result.now c.as_slice.ensures

pub returns-clause-takes : goal.returns-clause-takes
returns-clause-takes c =
    takes_run_texts c.args.grammar c.args.header.now c.args.len c.args.unread.now.bytes c.requires c.args.start.now c.as_slice.result.now c.args.text.now.items
    c.put_scalars.new.text.items c.skip.new.self.bytes
    c.as_slice.ensures (c.is_next.ensures c.if-not-is_next.false) c.if-not-put_scalars.ensures.puts c.skip.ensures
