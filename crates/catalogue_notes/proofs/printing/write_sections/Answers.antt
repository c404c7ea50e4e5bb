use Rattle.std.proofs.Common.{subst}
use Rattle.std.specs.Prelude.{Err, Ok, flat_map}
use Rattle.std.proofs.lemmas.Result.{err_from_is_err_and}
use Rattle.fugue_ids.specs.Gathers.{GathersText}
use Rattle.fugue_ids.proofs.GatherLemmas.{flush_writes, stop_writes}
use Rattle.catalogue_notes.specs.Printing.{printed_by}
use Rattle.catalogue_notes.proofs.printing.write_sections.Goals as goal

pub returns-in_err-put_sections : goal.returns-in_err-put_sections
returns-in_err-put_sections g c =
    let p = err_from_is_err_and c.from_residual.result c.from_residual.ensures.1 in
    rw p.1 (stop_writes {T = Unit {0}} {S = Unit {0}} _ _ _ _
    (subst (λ w. GathersText {T = Unit {0}} (g.O.Out.seen c.args.output.now) (g.O.Out.seen c.put_sections.new.output) w c.put_sections.new.gather (Err (record {}))
    (flat_map (printed_by c.args.places.now c.args.replica.now.held.history c.args.layout.now) c.args.layout.now.arrangement.sections.items)) c.new-gather.ensures
    c.in_err-put_sections.ensures))

pub returns : goal.returns
returns g c =
    flush_writes {T = Unit {0}} {S = Unit {0}} tt c.flush.result _ _ _ _ _
    (subst (λ w. GathersText {T = Unit {0}} (g.O.Out.seen c.args.output.now) (g.O.Out.seen c.put_sections.new.output) w c.put_sections.new.gather (Ok tt)
    (flat_map (printed_by c.args.places.now c.args.replica.now.held.history c.args.layout.now) c.args.layout.now.arrangement.sections.items)) c.new-gather.ensures
    c.in_ok-put_sections.ensures)
    c.flush.ensures.text
