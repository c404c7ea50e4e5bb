use Rattle.std.proofs.Common.{subst}
use Rattle.std.specs.Prelude.{Err, Ok, flat_map}
use Rattle.std.proofs.lemmas.Result.{err_from_is_err_and}
use Rattle.fugue_ids.specs.Gathers.{GathersText}
use Rattle.fugue_ids.specs.Outs.{WritesBytes}
use Rattle.fugue_ids.specs.declared.out.Failed.{Failed}
use Rattle.fugue_ids.proofs.GatherLemmas.{flush_writes, gathers_join, gathers_stop, stop_writes}
use Rattle.catalogue_notes.specs.Arranged.{arranged}
use Rattle.change_marks.specs.Changes.{section_changes}
use Rattle.change_marks.specs.Steps.{dropped_part}
use Rattle.change_marks.proofs.WritingLemmas.{changes_found}
use Rattle.change_marks.proofs.changes.write_sections.Goals as goal

pub returns-in_err-put_sections : goal.returns-in_err-put_sections
returns-in_err-put_sections g c =
    let first = flat_map (section_changes c.args.then.now c.args.now.now) (arranged c.args.now.now) in
    let last = flat_map (dropped_part c.args.then.now c.args.now.now) (arranged c.args.then.now) in
    let p = err_from_is_err_and c.from_residual.result c.from_residual.ensures.1 in
    rw p.1 (subst (WritesBytes {E = Failed} {T = Unit {0}} (g.O.Out.seen c.args.output.now) (g.O.Out.seen c.put_sections.new.output) (Err (record {})))
    (changes_found c.args.then.now c.args.now.now c.requires.lawful c.requires.later)
    (stop_writes {T = Unit {0}} {S = Unit {0}} _ _ _ _ (gathers_stop {T = Unit {0}} {S = Unit {0}} _ _ _ _ first last
    (subst (λ w. GathersText {T = Unit {0}} (g.O.Out.seen c.args.output.now) (g.O.Out.seen c.put_sections.new.output) w c.put_sections.new.gather (Err (record {})) first)
    c.new-gather.ensures c.in_err-put_sections.ensures))))

pub returns-in_err-put_all_dropped : goal.returns-in_err-put_all_dropped
returns-in_err-put_all_dropped g c =
    let first = flat_map (section_changes c.args.then.now c.args.now.now) (arranged c.args.now.now) in
    let last = flat_map (dropped_part c.args.then.now c.args.now.now) (arranged c.args.then.now) in
    let p = err_from_is_err_and c.from_residual-in_err-put_all_dropped.result c.from_residual-in_err-put_all_dropped.ensures.1 in
    rw p.1 (subst (WritesBytes {E = Failed} {T = Unit {0}} (g.O.Out.seen c.args.output.now) (g.O.Out.seen c.put_all_dropped.new.output) (Err (record {})))
    (changes_found c.args.then.now c.args.now.now c.requires.lawful c.requires.later)
    (stop_writes {T = Unit {0}} {S = Unit {0}} _ _ _ _ (gathers_join {T = Unit {0}} {S = Unit {0}} tt (Err (record {})) _ _ _ _ _ _ first last
    (subst (λ w. GathersText {T = Unit {0}} (g.O.Out.seen c.args.output.now) (g.O.Out.seen c.put_sections.new.output) w c.put_sections.new.gather (Ok tt) first)
    c.new-gather.ensures c.in_ok-put_sections.ensures)
    c.in_err-put_all_dropped.ensures)))

pub returns : goal.returns
returns g c =
    let first = flat_map (section_changes c.args.then.now c.args.now.now) (arranged c.args.now.now) in
    let last = flat_map (dropped_part c.args.then.now c.args.now.now) (arranged c.args.then.now) in
    subst (WritesBytes {E = Failed} {T = Unit {0}} (g.O.Out.seen c.args.output.now) (g.O.Out.seen c.flush.new.out) c.flush.result)
    (changes_found c.args.then.now c.args.now.now c.requires.lawful c.requires.later)
    (flush_writes {T = Unit {0}} {S = Unit {0}} tt c.flush.result _ _ _ _ _
    (gathers_join {T = Unit {0}} {S = Unit {0}} tt (Ok tt) _ _ _ _ _ _ first last
    (subst (λ w. GathersText {T = Unit {0}} (g.O.Out.seen c.args.output.now) (g.O.Out.seen c.put_sections.new.output) w c.put_sections.new.gather (Ok tt) first)
    c.new-gather.ensures c.in_ok-put_sections.ensures)
    c.in_ok-put_all_dropped.ensures)
    c.flush.ensures.text)
