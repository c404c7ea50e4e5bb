use Rattle.std.proofs.Common.{ap, reverse, subst}
use Rattle.std.specs.Prelude.{Err, Ok}
use Rattle.std.proofs.lemmas.Result.{err_from_is_err_and}
use Rattle.fugue_ids.specs.Gathers.{GathersText}
use Rattle.fugue_ids.proofs.GatherLemmas.{flush_writes, stop_writes}
use Rattle.std.specs.List.{Contains}
use Rattle.fugue_ids.proofs.ListLemmas.{all_from_contains, contains_map}
use Rattle.passage_remarks.specs.Listing.{IsRemarkPlaced, entry_remark}
use Rattle.passage_remarks.specs.Remarks.{remarks_from, remarks_text}
use Rattle.passage_remarks.proofs.RemarkLemmas.{remark_placed}
use Rattle.passage_remarks.proofs.printing.write_all.Goals as goal

pub returns-in_err-put_remarks : goal.returns-in_err-put_remarks
returns-in_err-put_remarks g c =
    let h = c.args.replica.now.held.history in
    let p = err_from_is_err_and c.from_residual.result c.from_residual.ensures.1 in
    rw p.1 (stop_writes {T = Unit {0}} {S = Unit {0}} _ _ _ _
    (subst (λ w. GathersText {T = Unit {0}} (g.O.Out.seen c.args.output.now) (g.O.Out.seen c.put_remarks.new.output) w c.put_remarks.new.gather (Err (record {})) (remarks_text h))
    c.new-gather.ensures
    (subst (GathersText {T = Unit {0}} (g.O.Out.seen c.args.output.now) (g.O.Out.seen c.put_remarks.new.output) c.new-gather.result c.put_remarks.new.gather (Err (record {})))
    (ap (remarks_from h 1) c.requires.entries) c.in_err-put_remarks.ensures)))

pub returns : goal.returns
returns g c =
    let h = c.args.replica.now.held.history in
    flush_writes {T = Unit {0}} {S = Unit {0}} tt c.flush.result _ _ _ _ (remarks_text h)
    (subst (λ w. GathersText {T = Unit {0}} (g.O.Out.seen c.args.output.now) (g.O.Out.seen c.put_remarks.new.output) w c.put_remarks.new.gather (Ok tt) (remarks_text h))
    c.new-gather.ensures
    (subst (GathersText {T = Unit {0}} (g.O.Out.seen c.args.output.now) (g.O.Out.seen c.put_remarks.new.output) c.new-gather.result c.put_remarks.new.gather (Ok tt))
    (ap (remarks_from h 1) c.requires.entries) c.in_ok-put_remarks.ensures))
    c.flush.ensures.text

-- each entry stands at the place of its section
pub put_remarks-requires-clause-placed : goal.put_remarks-requires-clause-placed
put_remarks-requires-clause-placed g c =
    let h = c.args.replica.now.held.history in
    let f = entry_remark (reverse h) in
    all_from_contains (λ e. IsRemarkPlaced h (f e)) c.args.entries.now
    (λ e m. remark_placed h (f e) (subst (λ l. Contains l (f e)) c.requires.entries (contains_map f c.args.entries.now e m)))
