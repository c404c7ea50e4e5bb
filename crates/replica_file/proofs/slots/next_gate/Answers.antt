use Rattle.std.proofs.Common.{refl, arith, ◌++◌, ◌∙◌}
use Rattle.origin_model.specs.files.Image.{LastSlot}
use Rattle.replica_file.proofs.PartLemmas.{specified_one, specified_two}
use Rattle.replica_file.proofs.WalkLemmas.{walk_bad, walk_lacks, walk_many}
use Rattle.replica_file.specs.Moments.{new_moment}
use Rattle.replica_file.proofs.MomentLemmas.{walk_noting}
use Rattle.replica_file.proofs.slots.next_gate.Goals as goal

pub returns-then-slots-eq4294967295-clause-stops : goal.returns-then-slots-eq4294967295-clause-stops
returns-then-slots-eq4294967295-clause-stops g c =
    specified_one (g.H.Disk.seen c.args.disk.now).past
    (λ h w. walk_bad h.last.seen c.args.slots c.args.gate c.args.loading.now.replica w.walked c.requires.open c.args.most c.requires.most (LastSlot c.if-slots-eq4294967295.true))
    c.requires.walked

pub returns-then-not-loading-clause-stops : goal.returns-then-not-loading-clause-stops
returns-then-not-loading-clause-stops g c =
    specified_two (g.H.Disk.seen c.args.disk.now).past (g.H.Disk.seen c.args.disk.now).past refl
    (λ h w took. (
      refl,
      walk_many h.last.seen c.args.slots c.args.gate c.args.loading.now.replica w.walked c.requires.open c.in-Ok.next c.args.loading.now.finds_place
          c.take_slot.new.loading.finds_place
          c.take_slot.new.loading.replica c.requires.finds_place (omega arith) c.in-Ok.ensures.same took c.args.most c.requires.most c.if-not-loading.true,
    )) c.requires.walked c.in-Ok.ensures.took

pub returns-else-not-loading-clause-walked : goal.returns-else-not-loading-clause-walked
returns-else-not-loading-clause-walked g c =
    specified_two (g.H.Disk.seen c.args.disk.now).past (g.H.Disk.seen c.args.disk.now).past refl
    (λ h w took. walk_noting h.last.seen c.args.slots c.args.gate c.args.loading.now.replica c.args.moments.now.items w c.requires.open c.in-Ok.next c.args.loading.now.finds_place
    c.take_slot.new.loading.finds_place c.take_slot.new.loading.replica c.requires.finds_place
    (omega arith) c.in-Ok.ensures.same took c.if-not-loading.false c.note_moment.new.moments.items
    (c.note_moment.ensures ∙ (λ i. c.in-Ok.ensures.moments i ++ new_moment (c.accepted_count-before.ensures.count i) (c.accepted_count.ensures.count i)))) c.requires.walked
    c.in-Ok.ensures.took

pub returns-in-Err-Bad-clause-stops : goal.returns-in-Err-Bad-clause-stops
returns-in-Err-Bad-clause-stops g c =
    specified_two (g.H.Disk.seen c.args.disk.now).past (g.H.Disk.seen c.args.disk.now).past refl
    (λ h w bad. walk_bad h.last.seen c.args.slots c.args.gate c.args.loading.now.replica w.walked c.requires.open c.args.most c.requires.most (bad c.args.slots)) c.requires.walked
    (c.in-Err-Bad.ensures.bad (cc c.in-Err-Bad.field-0-is))

pub returns-in-Err-NoMemory-clause-stops : goal.returns-in-Err-NoMemory-clause-stops
returns-in-Err-NoMemory-clause-stops g c =
    specified_two (g.H.Disk.seen c.args.disk.now).past (g.H.Disk.seen c.args.disk.now).past refl
    (λ h w lacks. walk_lacks h.last.seen c.args.slots c.args.gate c.args.loading.now.replica w.walked c.requires.open c.args.most c.requires.most _ c.requires.finds_place
    (omega arith) lacks) c.requires.walked
    (c.in-Err-NoMemory.ensures.memory (cc c.in-Err-NoMemory.field-0-is))
