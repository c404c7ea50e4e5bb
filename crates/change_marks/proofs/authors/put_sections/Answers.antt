use Rattle.std.proofs.Common.{List, ap, arith, get_or, length, subst, ◌+◌, ◌<◌, ◌∙◌, ◌≡◌}
use Rattle.std.specs.Prelude.{Err, Ok}
use Rattle.std.proofs.lemmas.Result.{err_from_is_err_and}
use Rattle.fugue_ids.specs.Gathers.{GathersText}
use Rattle.fugue_ids.specs.Identifiers.{Identifier}
use Rattle.section_catalogue.proofs.PrintingLemmas.{under_way_grows, under_way_start, under_way_stops}
use Rattle.catalogue_notes.specs.Arranged.{arranged}
use Rattle.change_marks.specs.Authors.{authors_text, section_authors}
use Rattle.change_marks.proofs.PassageLemmas.{authors_next}
use Rattle.change_marks.proofs.LaterLemmas.{arranged_at}
use Rattle.change_marks.proofs.authors.put_sections.Goals as goal

pub walk-init : goal.walk-init
walk-init g c = under_way_start _ _ (authors_text c.args.now.now)

pub put_section-requires : goal.put_section-requires
put_section-requires g c =
    let xs : List Identifier = arranged c.args.now.now in
    let below : c.walk.at < length xs = omega (arith, c.walk-test.true, ap length c.sections-sections.ensures) in
    let is : c.index-sections-at.result ≡ get_or xs c.walk.at c.index-sections-at.result =
    c.index-sections-at.is ∙ ap (λ ys. get_or ys c.walk.at c.index-sections-at.result) c.sections-sections.ensures in
    arranged_at c.args.now.now c.walk.at c.index-sections-at.result c.replica-replica.ensures below is

pub walk-preserved : goal.walk-preserved
walk-preserved g c =
    let h = c.args.now.now in
    let xs : List Identifier = arranged h in
    let below : c.walk.at < length xs = omega (arith, c.walk-test.true, ap length c.sections-sections.ensures) in
    let is : c.index-sections-at.result ≡ get_or xs c.walk.at c.index-sections-at.result =
    c.index-sections-at.is ∙ ap (λ ys. get_or ys c.walk.at c.index-sections-at.result) c.sections-sections.ensures in
    under_way_grows _ _ _ _ _ _ _ _ _ _ c.walk.invariant (authors_next h xs c.walk.at c.index-sections-at.result below is)
    (subst (λ l. GathersText {T = Unit {0}} (g.O.Out.seen c.walk.output) (g.O.Out.seen c.put_section.new.output) c.walk.gather c.put_section.new.gather (Ok tt)
    (section_authors l (c.walk.at + 1) c.index-sections-at.result)) c.replica-replica.ensures c.in_ok-put_section.ensures)

pub returns-in_err-put_section : goal.returns-in_err-put_section
returns-in_err-put_section g c =
    let h = c.args.now.now in
    let xs : List Identifier = arranged h in
    let below : c.walk.at < length xs = omega (arith, c.walk-test.true, ap length c.sections-sections.ensures) in
    let is : c.index-sections-at.result ≡ get_or xs c.walk.at c.index-sections-at.result =
    c.index-sections-at.is ∙ ap (λ ys. get_or ys c.walk.at c.index-sections-at.result) c.sections-sections.ensures in
    let p = err_from_is_err_and c.from_residual.result c.from_residual.ensures.1 in
    rw p.1 (under_way_stops _ _ _ _ _ _ _ _ _ _ c.walk.invariant (authors_next h xs c.walk.at c.index-sections-at.result below is)
    (subst (λ l. GathersText {T = Unit {0}} (g.O.Out.seen c.walk.output) (g.O.Out.seen c.put_section.new.output) c.walk.gather c.put_section.new.gather (Err (record {}))
    (section_authors l (c.walk.at + 1) c.index-sections-at.result)) c.replica-replica.ensures c.in_err-put_section.ensures))
