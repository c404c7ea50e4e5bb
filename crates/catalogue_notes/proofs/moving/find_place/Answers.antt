use Rattle.std.proofs.Common.{arith}
use Rattle.catalogue_notes.proofs.RefusalLemmas.{place_absent, place_there}
use Rattle.catalogue_notes.proofs.moving.find_place.Goals as goal

pub returns-then-j-section_count-clause-err : goal.returns-then-j-section_count-clause-err
returns-then-j-section_count-clause-err c =
    place_absent c.args.replica.now c.section_count.ensures.sound.lawful c.args.k c.args.j c.in_ok-find_section.ensures.ok
    (omega (arith, c.section_count.ensures.count, c.if-j-section_count.true))

pub returns-clause-ok : goal.returns-clause-ok
returns-clause-ok c =
    place_there c.args.replica.now c.section_count.ensures.sound.lawful c.args.k c.args.j c.in_ok-find_section.ensures.ok
    (omega (arith, c.section_count.ensures.count, c.if-j-section_count.false))
