use Rattle.std.proofs.Common.{List, length, refl, subst, ℕ}
use Rattle.op_frame.specs.NextRuns.{IsTextAfter}
use Rattle.op_frame.proofs.GatherLemmas.{takes_text}
use Rattle.op_frame.proofs.gather.take_text.Goals as goal

pub returns-in-Ok-clause-takes : goal.returns-in-Ok-clause-takes
returns-in-Ok-clause-takes c =
    takes_text c.args.grammar c.args.start.now (length c.args.text.now.items) c.in_ok-ch.ch c.in_ok-ch.len c.args.unread.now.bytes c.args.text.now.items c.push.new.self.items
    c.skip.new.self.bytes refl
    (subst (λ (b : List ℕ). IsTextAfter c.args.start.now (length c.args.text.now.items) c.in_ok-ch.ch c.in_ok-ch.len b) c.as_slice.ensures c.in_ok-ch.ensures)
    c.in-Ok.ensures.items c.skip.ensures
