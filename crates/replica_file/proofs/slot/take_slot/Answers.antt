use Rattle.std.proofs.Common.{◌+◌, ◌∙◌, arith}
use Rattle.std.proofs.lemmas.Result.{err_from_is_err_and}
use Rattle.replica_file.proofs.PartLemmas.{specified_one, specified_two}
use Rattle.replica_file.proofs.ReachLemmas.{gate_reaches, reaches_then}
use Rattle.replica_file.proofs.SlotLemmas.{bad_frames, no_gate, slot_begins, slot_ends, slot_lacks}
use Rattle.replica_file.proofs.slot.take_slot.Goals as goal

pub returns-in_err-take_frames-clause-bad : goal.returns-in_err-take_frames-clause-bad
returns-in_err-take_frames-clause-bad g c is =
    let p = err_from_is_err_and c.from_residual-in_err-take_frames.result c.from_residual-in_err-take_frames.ensures.1 in
    specified_two (g.H.Disk.seen c.args.disk.now).past (g.H.Disk.seen c.read_word.new.disk).past c.in_ok-word.ensures.looks.past
    (λ h specified bad. bad_frames h.last.seen c.args.at c.in_ok-word.word specified bad) c.in_ok-word.ensures.specified (c.in_err-take_frames.ensures.bad (cc (is, p.1, p.2)))

pub returns-clause-took : goal.returns-clause-took
returns-clause-took g c =
    slot_ends (g.H.Disk.seen c.args.disk.now).past (g.H.Disk.seen c.read_word.new.disk).past
    (g.H.Disk.seen c.take_frames.new.disk).past c.read_gate.result c.args.at c.in_ok-word.word
    c.args.loading.now.finds_place c.take_frames.new.loading.finds_place c.args.loading.now.replica c.take_frames.new.loading.replica c.in_ok-word.ensures.looks.past
    (c.in_ok-take_frames.ensures.looks.past ∙ c.in_ok-word.ensures.looks.past) c.in_ok-word.ensures.specified c.in_ok-word.ensures.short c.in_ok-take_frames.ensures.took
    c.read_gate.ensures.specified c.read_gate.ensures.at

pub returns-clause-bad : goal.returns-clause-bad
returns-clause-bad g c is =
    no_gate (g.H.Disk.seen c.args.disk.now).past (g.H.Disk.seen c.read_word.new.disk).past (g.H.Disk.seen c.take_frames.new.disk).past c.args.at c.in_ok-word.word
    c.args.loading.now.finds_place c.take_frames.new.loading.finds_place c.args.loading.now.replica c.take_frames.new.loading.replica c.in_ok-word.ensures.looks.past
    (c.in_ok-take_frames.ensures.looks.past ∙ c.in_ok-word.ensures.looks.past) c.in_ok-word.ensures.specified c.in_ok-take_frames.ensures.took (c.read_gate.ensures.bad is)

pub returns-in_err-take_frames-clause-memory : goal.returns-in_err-take_frames-clause-memory
returns-in_err-take_frames-clause-memory g c is =
    let p = err_from_is_err_and c.from_residual-in_err-take_frames.result c.from_residual-in_err-take_frames.ensures.1 in
    specified_two (g.H.Disk.seen c.args.disk.now).past (g.H.Disk.seen c.read_word.new.disk).past c.in_ok-word.ensures.looks.past
    (λ h specified lacks. slot_lacks h.last.seen c.args.at c.in_ok-word.word specified _ _ c.in_ok-word.ensures.short lacks) c.in_ok-word.ensures.specified
    (c.in_err-take_frames.ensures.memory (cc (is, p.1, p.2)))

pub returns-clause-reach : goal.returns-clause-reach
returns-clause-reach g c =
    let at = c.args.at + 5 + c.in_ok-word.word.len in
    gate_reaches c.read_gate.result at (g.H.Disk.seen c.args.disk.now).reach (g.H.Disk.seen c.take_frames.new.disk).reach
    (g.H.Disk.seen c.read_gate.new.disk).reach c.read_gate.ensures.at c.read_gate.ensures.reach
    (reaches_then (c.args.at + 1 + 4) at at (g.H.Disk.seen c.args.disk.now).reach (g.H.Disk.seen c.read_word.new.disk).reach (g.H.Disk.seen c.take_frames.new.disk).reach
    (omega arith) (omega arith) c.in_ok-word.ensures.reach
    c.in_ok-take_frames.ensures.reach)

pub returns-in_err-make_room-clause-memory : goal.returns-in_err-make_room-clause-memory
returns-in_err-make_room-clause-memory g c is =
    specified_one (g.H.Disk.seen c.args.disk.now).past
    (λ h specified. slot_begins h.last.seen c.args.at c.in_ok-word.word specified c.args.loading.now.finds_place c.args.loading.now.replica c.in_ok-word.ensures.short)
    c.in_ok-word.ensures.specified
