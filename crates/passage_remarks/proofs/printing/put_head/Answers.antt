use Rattle.std.proofs.Common.{reverse, subst}
use Rattle.std.specs.Prelude.{Err}
use Rattle.std.proofs.lemmas.Result.{err_from_is_err_and}
use Rattle.fugue_ids.specs.Gathers.{GathersText}
use Rattle.fugue_ids.proofs.GatherLemmas.{gathers_join, gathers_stop}
use Rattle.passage_remarks.specs.Listing.{entry_remark}
use Rattle.passage_remarks.specs.Remarks.{head_line}
use Rattle.passage_remarks.specs.declared.entry.Entry.{Entry}
use Rattle.passage_remarks.proofs.printing.put_head.Goals as goal

pub returns-in_err-put_place : goal.returns-in_err-put_place
returns-in_err-put_place g c =
    let p = err_from_is_err_and c.from_residual.result c.from_residual.ensures.1 in
    rw p.1 (subst (λ (e : Entry). GathersText {T = Unit {0}} (g.O.Out.seen c.args.output.now) (g.O.Out.seen c.put_place.new.output) c.args.gather.now c.put_place.new.gather
    (Err (record {})) (head_line c.args.number (entry_remark (reverse c.args.replica.now.held.history) e) c.args.first c.args.count)) c.entry.view_is
    (gathers_stop {T = Unit {0}} {S = Unit {0}} _ _ _ _ _ _ c.in_err-put_place.ensures))

pub returns : goal.returns
returns g c =
    subst (λ (e : Entry). GathersText {T = Unit {0}} (g.O.Out.seen c.args.output.now)
    (g.O.Out.seen c.put_text.new.output) c.args.gather.now c.put_text.new.gather c.put_text.result
    (head_line c.args.number (entry_remark (reverse c.args.replica.now.held.history) e) c.args.first c.args.count)) c.entry.view_is
    (gathers_join {T = Unit {0}} {S = Unit {0}} tt c.put_text.result _ _ _ _ _ _ _ _ c.in_ok-put_place.ensures c.put_text.ensures)
