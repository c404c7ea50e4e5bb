use Rattle.std.proofs.Common.{ap}
use Rattle.section_list.specs.SectionList.{Listing, with_elements}
use Rattle.section_catalogue.specs.declared.tables.Section.{Section as Titled}
use Rattle.fugue_ids.proofs.IdentifierLemmas.{id_at-other}
use Rattle.std.proofs.lemmas.Result.{on_err_weaker, on_ok_weaker}
use Rattle.section_catalogue.proofs.TextLemmas.{changed, kept}
use Rattle.section_catalogue.proofs.growth.insert_text.Goals as goal

pub returns-in-Some-clause-ok : goal.returns-in-Some-clause-ok
returns-in-Some-clause-ok c =
    let e = c.in-Some.entry.now in
    let w : Titled = record { title = e.title; text = c.insert_run.new.self } in
    let u = (c.get_mut.follows.holds w).3 c.requires.there in
    on_ok_weaker c.insert_run.result
    (λ d. changed c.args.sections.now.entries (c.get_mut.follows.lender w).entries c.args.section.now e w c.in-Some.ensures.value u.1
    (λ y n. u.2 y (id_at-other c.args.section.now y n))
    (λ (t : Titled). record t { text = with_elements c.args.first.now c.args.text.now t.text }) (ap (λ (t : Listing). record e { text = t }) d)) c.insert_run.ensures.ok

pub returns-in-Some-clause-err : goal.returns-in-Some-clause-err
returns-in-Some-clause-err c =
    let e = c.in-Some.entry.now in
    let w : Titled = record { title = e.title; text = c.insert_run.new.self } in
    let u = (c.get_mut.follows.holds w).3 c.requires.there in
    on_err_weaker c.insert_run.result
    (λ d. kept c.args.sections.now.entries (c.get_mut.follows.lender w).entries c.args.section.now e w c.in-Some.ensures.value u.1
    (λ y n. u.2 y (id_at-other c.args.section.now y n))
    (ap (λ (t : Listing). record e { text = t }) d)) c.insert_run.ensures.err
