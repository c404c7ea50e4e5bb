use Rattle.std.proofs.Common.{List, Some, subst, sym, ℕ, ◌∙◌}
use Rattle.std.proofs.lemmas.Bool.{true≢false}
use Rattle.op_frame.specs.OpenRuns.{MakesRoom}
use Rattle.op_frame.proofs.OpenRunLemmas.{begins}
use Rattle.op_frame.proofs.open_run.OpenRun.make_room.Goals as goal

pub returns-clause-ok : goal.returns-clause-ok
returns-clause-ok c =
    let run = c.args.self.now in
    subst (λ (text : List ℕ). MakesRoom run.start run.text.items (Some c.args.next.now) text c.args.next.now c.args.out.now.items c.close.new.out.items)
    (sym c.in_ok-close.ensures.text)
    (begins run.start run.text.items c.args.next.now c.args.out.now.items c.close.new.out.items c.requires.is_open
    (λ goes. true≢false (sym (c.is_next.ensures.1 goes) ∙ c.if-is_next.false)) c.requires.counter c.in_ok-close.ensures.have_frames c.in_ok-close.ensures.ok)
