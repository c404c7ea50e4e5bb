use Rattle.std.proofs.Common.{drop, map, reverse, suc}
use Rattle.section_catalogue.proofs.PrintingLemmas.{IsUnderWay}
use Rattle.passage_remarks.specs.Listing.{entry_remark}
use Rattle.passage_remarks.specs.Remarks.{remarks_from}
use Rattle.passage_remarks.proofs.printing.put_remarks.Given as goal

-- what is reported of the remarks that were passed is gathered, and the others are to come
abbrev pub invariant-remarks : goal.invariant-remarks
invariant-remarks g l =
    IsUnderWay (g.O.Out.seen l.initial.output) (g.O.Out.seen l.output) l.initial.gather l.gather
    (remarks_from l.replica.held.history 1 (map (entry_remark (reverse l.replica.held.history)) l.entries))
    (remarks_from l.replica.held.history (suc l.at) (drop l.at (map (entry_remark (reverse l.replica.held.history)) l.entries)))
