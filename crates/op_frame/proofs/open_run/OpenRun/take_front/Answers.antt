use Rattle.std.proofs.Common.{List, arith, subst, sym, take, ℕ}
use Rattle.std.proofs.lemmas.List.{length-take-le}
use Rattle.fugue_ids.specs.Runs.{run_from}
use Rattle.op_frame.specs.OpenRuns.{TakesInOps, open_ops}
use Rattle.op_frame.proofs.OpenRunLemmas.{room_taken, room_there}
use Rattle.op_frame.proofs.open_run.OpenRun.take_front.Goals as goal

pub returns-clause-takes : goal.returns-clause-takes
returns-clause-takes c =
    let run = c.args.self.now in
    let made = c.make_room.new.self in
    let front : List ℕ = take c.min-count.result c.args.text.now in
    subst (λ (text : List ℕ). TakesInOps (open_ops run.start run.text.items) (open_ops made.start text) c.args.out.now.items c.make_room.new.out.items
    (run_from c.args.start.now front))
    (sym c.in_ok-extend_from_slice.ensures.items)
    (room_taken run.start made.start run.text.items made.text.items c.args.start.now c.args.out.now.items c.make_room.new.out.items front c.in_ok-make_room.ensures.ok
    (omega (arith, length-take-le c.min-count.result c.args.text.now (omega arith), room_there made.start made.text.items c.args.start.now c.in_ok-make_room.ensures.ok.goes_on)))
