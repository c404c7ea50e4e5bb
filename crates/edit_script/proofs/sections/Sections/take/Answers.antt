use Rattle.std.proofs.Common.{◌∙◌, sym}
use Rattle.edit_script.proofs.SectionLemmas.{passage_found}
use Rattle.edit_script.proofs.sections.Sections.take.Goals as goal

pub returns-in-Some-span-clause-found : goal.returns-in-Some-span-clause-found
returns-in-Some-span-clause-found c =
    passage_found c.args.replica.now c.args.section c.args.at c.args.n c.in-Some.id c.in_ok-index.index (c.in-Some-span.at, c.in-Some-span.len)
    (sym (c.section_at.ensures.section c.args.replica.now.held.history c.places.ensures.places) ∙ c.in-Some.is) c.in_ok-index.ensures.text
    c.places.ensures.sound.lawful c.span.ensures.utf8 c.in-Some-span.ensures.span c.in-Some-span.ensures.none c.in-Some-span.ensures.within
