use Rattle.std.proofs.Common.{ap, refl}
use Rattle.origin_model.specs.edits.Edits.{Add, DropSection}
use Rattle.edit_script.specs.Commands.{replica_command}
use Rattle.edit_script.proofs.MakingLemmas.{made_in, unmade_in}
use Rattle.edit_script.proofs.SectionLemmas.{add_kept, drop_kept}
use Rattle.edit_script.proofs.making.make.Goals as goal

pub returns-in-Add-clause-made : goal.returns-in-Add-clause-made
returns-in-Add-clause-made c =
    made_in _ _ (Add c.in-Add.at c.in-Add.title) (Add c.in-Add.at c.in-Add.title) _ c.add.result (ap replica_command c.in-Add.is) refl refl c.add.ensures.refused c.add.ensures.made

pub returns-in-Add-clause-unmade : goal.returns-in-Add-clause-unmade
returns-in-Add-clause-unmade c =
    unmade_in _ _ (Add c.in-Add.at c.in-Add.title) (Add c.in-Add.at c.in-Add.title) _ c.add.result
    (ap replica_command c.in-Add.is) refl refl c.add.ensures.refused c.add.ensures.unmade

pub returns-in-DropSection-clause-made : goal.returns-in-DropSection-clause-made
returns-in-DropSection-clause-made c =
    made_in _ _ (DropSection c.in-DropSection.section) (DropSection c.in-DropSection.section) _ c.drop_section.result (ap replica_command c.in-DropSection.is) refl refl
    c.drop_section.ensures.refused c.drop_section.ensures.made

pub returns-in-DropSection-clause-unmade : goal.returns-in-DropSection-clause-unmade
returns-in-DropSection-clause-unmade c =
    unmade_in _ _ (DropSection c.in-DropSection.section) (DropSection c.in-DropSection.section) _ c.drop_section.result (ap replica_command c.in-DropSection.is) refl refl
    c.drop_section.ensures.refused c.drop_section.ensures.unmade

pub returns-in-Add-clause-sections : goal.returns-in-Add-clause-sections
returns-in-Add-clause-sections c = add_kept _ _ _ c.in-Add.at c.in-Add.title c.add.result c.add.ensures.sound.lawful c.add.ensures.refused c.add.ensures.made c.requires.sections

pub returns-in-DropSection-clause-sections : goal.returns-in-DropSection-clause-sections
returns-in-DropSection-clause-sections c =
    drop_kept _ _ _ c.in-DropSection.section c.drop_section.result c.drop_section.ensures.sound.lawful c.drop_section.ensures.refused c.drop_section.ensures.made
    c.requires.sections
