use Rattle.std.proofs.Common.{subst, sym}
use Rattle.std.specs.Prelude.{Err, Ok, flat_map}
use Rattle.std.proofs.lemmas.Result.{err_from_is_err_and}
use Rattle.fugue_ids.specs.Gathers.{GathersText}
use Rattle.fugue_ids.specs.Outs.{WritesBytes}
use Rattle.fugue_ids.specs.declared.out.Failed.{Failed}
use Rattle.fugue_ids.proofs.GatherLemmas.{flush_writes, stop_writes}
use Rattle.run_store.specs.Cells.{cell_ids, cells_shown}
use Rattle.section_catalogue.specs.Section.{printed_at}
use Rattle.section_catalogue.specs.Contents.{contents_of}
use Rattle.section_catalogue.specs.Manuscript.{Represents}
use Rattle.section_catalogue.proofs.ShownLemmas.{manuscript_parts}
use Rattle.section_catalogue.proofs.manuscript.Manuscript.write_all.Goals as goal

pub returns-in_err-put_sections-clause-text : goal.returns-in_err-put_sections-clause-text
returns-in_err-put_sections-clause-text g c = λ h s.
    let p = err_from_is_err_and c.from_residual.result c.from_residual.ensures.1 in
    rw p.1 (subst (WritesBytes {E = Failed} {T = Unit {0}} (g.O.Out.seen c.args.output.now) (g.O.Out.seen c.put_sections.new.output) (Err (record {})))
    (manuscript_parts (contents_of c.self.inside.tables) h (subst (λ m. Represents m h) (sym c.self.view_is) s))
    (stop_writes {T = Unit {0}} {S = Unit {0}} _ _ _ _
    (subst (λ w. GathersText {T = Unit {0}} (g.O.Out.seen c.args.output.now) (g.O.Out.seen c.put_sections.new.output) w c.put_sections.new.gather (Err (record {}))
    (flat_map (printed_at c.self.inside.tables.sections.entries) (cell_ids (cells_shown c.self.inside.tables.catalogue.cells)))) c.new-gather.ensures
    c.in_err-put_sections.ensures)))

pub returns-clause-text : goal.returns-clause-text
returns-clause-text g c = λ h s.
    subst (WritesBytes {E = Failed} {T = Unit {0}} (g.O.Out.seen c.args.output.now) (g.O.Out.seen c.flush.new.out) c.flush.result)
    (manuscript_parts (contents_of c.self.inside.tables) h (subst (λ m. Represents m h) (sym c.self.view_is) s))
    (flush_writes {T = Unit {0}} {S = Unit {0}} tt c.flush.result _ _ _ _ _
    (subst (λ w. GathersText {T = Unit {0}} (g.O.Out.seen c.args.output.now) (g.O.Out.seen c.put_sections.new.output) w c.put_sections.new.gather (Ok tt)
    (flat_map (printed_at c.self.inside.tables.sections.entries) (cell_ids (cells_shown c.self.inside.tables.catalogue.cells)))) c.new-gather.ensures
    c.in_ok-put_sections.ensures)
    c.flush.ensures.text)
