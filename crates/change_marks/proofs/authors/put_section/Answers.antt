use Rattle.std.proofs.Common.{ap, subst}
use Rattle.std.specs.Prelude.{flat_map}
use Rattle.std.proofs.lemmas.Result.{err_from_is_err_and}
use Rattle.fugue_ids.specs.Gathers.{GathersText}
use Rattle.fugue_ids.proofs.GatherLemmas.{gathers_join, gathers_stop}
use Rattle.change_marks.specs.Authors.{author_line, passages, section_line}
use Rattle.change_marks.specs.Stretches.{by_replica}
use Rattle.change_marks.proofs.authors.put_section.Goals as goal

pub returns-in_err-put_section_line : goal.returns-in_err-put_section_line
returns-in_err-put_section_line g c =
    let lines = flat_map author_line (passages c.args.replica.now.held.history c.args.section) in
    let p = err_from_is_err_and c.from_residual.result c.from_residual.ensures.1 in
    rw p.1 (gathers_stop {T = Unit {0}} {S = Unit {0}} _ _ _ _ (section_line c.args.place c.args.section) lines c.in_err-put_section_line.ensures)

pub returns : goal.returns
returns g c =
    let lines = flat_map author_line (passages c.args.replica.now.held.history c.args.section) in
    gathers_join {T = Unit {0}} {S = Unit {0}} tt c.put_passages.result _ _ _ _ _ _ (section_line c.args.place c.args.section) lines c.in_ok-put_section_line.ensures
    (subst (GathersText {T = Unit {0}} (g.O.Out.seen c.put_section_line.new.output)
    (g.O.Out.seen c.put_passages.new.output) c.put_section_line.new.gather c.put_passages.new.gather c.put_passages.result)
    (ap (λ ids. flat_map author_line (by_replica ids)) c.elements_of-list.ensures.shown) c.put_passages.ensures)
