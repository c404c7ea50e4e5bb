use Rattle.std.proofs.lemmas.Result.{on_ok_weaker}
use Rattle.op_frame.proofs.RunFrameLemmas.{many_written}
use Rattle.op_frame.proofs.encoding.encode_texts.Goals as goal

pub returns-then-text-gt1-clause-ok : goal.returns-then-text-gt1-clause-ok
returns-then-text-gt1-clause-ok c =
    on_ok_weaker c.encode_run.result (many_written c.args.start.now c.args.text.now c.args.out.now.items c.encode_run.new.out.items c.if-text-gt1.true c.requires.short)
    c.encode_run.ensures.ok
