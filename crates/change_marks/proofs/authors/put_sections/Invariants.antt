use Rattle.std.proofs.Common.{drop, suc}
use Rattle.section_catalogue.proofs.PrintingLemmas.{IsUnderWay}
use Rattle.catalogue_notes.specs.Arranged.{arranged}
use Rattle.change_marks.specs.Authors.{authors_from, authors_text}
use Rattle.change_marks.proofs.authors.put_sections.Given as goal

-- what is reported of the sections that were passed is gathered, and the others are to come
abbrev pub invariant-walk : goal.invariant-walk
invariant-walk g l =
    IsUnderWay (g.O.Out.seen l.initial.output) (g.O.Out.seen l.output) l.initial.gather l.gather
    (authors_text l.now) (authors_from l.now (suc l.at) (drop l.at (arranged l.now)))
