use Rattle.std.proofs.Common.{arith}
use Rattle.catalogue_notes.proofs.RefusalLemmas.{section_absent, section_there}
use Rattle.catalogue_notes.proofs.moving.find_section.Goals as goal

pub returns-then-k-section_count-clause-err : goal.returns-then-k-section_count-clause-err
returns-then-k-section_count-clause-err c =
    section_absent c.args.replica.now c.section_count.ensures.sound.lawful c.args.k (omega (arith, c.section_count.ensures.count, c.if-k-section_count.true))

pub returns-clause-ok : goal.returns-clause-ok
returns-clause-ok c = section_there c.args.replica.now c.section_count.ensures.sound.lawful c.args.k (omega (arith, c.section_count.ensures.count, c.if-k-section_count.false))
