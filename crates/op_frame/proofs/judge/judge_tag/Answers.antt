use Rattle.op_frame.proofs.DueLemmas.{start_done, tag_done}
use Rattle.op_frame.proofs.judge.judge_tag.Goals as goal

pub returns-in-0 : goal.returns-in-0
returns-in-0 c = rw c.in-0.is (start_done c.args.origins c.args.last c.requires.some c.requires.sound)

pub returns-in-1 : goal.returns-in-1
returns-in-1 c = rw c.in-1.is (tag_done c.args.origins c.args.last c.requires.some c.requires.sound)
