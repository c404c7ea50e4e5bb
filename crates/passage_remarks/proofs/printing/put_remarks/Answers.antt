use Rattle.std.proofs.Common.{List, ap, arith, get_or, length, reverse, subst, sym, ◌+◌, ◌<◌, ◌∙◌, ◌≡◌, ℕ}
use Rattle.std.specs.Prelude.{Err, Ok}
use Rattle.std.specs.Str.{encode_utf8_all}
use Rattle.std.proofs.lemmas.Result.{err_from_is_err_and}
use Rattle.fugue_ids.specs.Gathers.{GathersText}
use Rattle.fugue_ids.specs.declared.op.Op.{Op}
use Rattle.origin_model.specs.order.Printed.{text}
use Rattle.section_catalogue.proofs.PrintingLemmas.{under_way_ends, under_way_grows, under_way_start, under_way_stops}
use Rattle.cluster_text.specs.Clusters.{clusters}
use Rattle.margin_notes.specs.Commenting.{clusters_of}
use Rattle.passage_remarks.specs.Listing.{IsRemarkPlaced, entry_remark}
use Rattle.passage_remarks.specs.Remarks.{remark_text}
use Rattle.passage_remarks.specs.declared.entry.Entry.{Entry}
use Rattle.passage_remarks.proofs.WritingLemmas.{page_there, remarks_next, remarks_none}
use Rattle.passage_remarks.proofs.printing.put_remarks.Goals as goal

-- the entry at a place of the list stands at the place of its section
entry_placed : (h : List Op) (es : List Entry) (i : ℕ) (e : Entry) → ((k : ℕ) (d : Entry) → k < length es → IsRemarkPlaced h (entry_remark (reverse h) (get_or es k d)))
    → i < length es → e ≡ get_or es i e
    → IsRemarkPlaced h (entry_remark (reverse h) e)
entry_placed h es i e each below is = subst (λ x. IsRemarkPlaced h (entry_remark (reverse h) x)) (sym is) (each i e below)

pub remarks-init : goal.remarks-init
remarks-init g c = under_way_start _ _ _

pub overflow_sub-place : goal.overflow_sub-place
overflow_sub-place g c =
    (entry_placed c.args.replica.now.held.history c.args.entries.now c.remarks.at c.index-entries-at.result c.requires.placed
    (omega (arith, c.remarks-test.true)) c.index-entries-at.is).first

pub bounds-pages-place : goal.bounds-pages-place
bounds-pages-place g c =
    let h : List Op = c.args.replica.now.held.history in
    let e : Entry = c.index-entries-at.result in
    let p = entry_placed h c.args.entries.now c.remarks.at e c.requires.placed (omega (arith, c.remarks-test.true)) c.index-entries-at.is in
    (page_there h (entry_remark (reverse h) e) c.args.pages.now (encode_utf8_all (text h e.section)) c.requires.pages p).0

-- what was reported of an entry, by its page
reported : (h : List Op) (page : List ℕ) (n : ℕ) (e : Entry) → page ≡ encode_utf8_all (text h e.section)
    → remark_text (clusters page) n (entry_remark (reverse h) e) ≡ remark_text (clusters_of h e.section) n (entry_remark (reverse h) e)
reported h page n e p = ap (λ z. remark_text (clusters z) n (entry_remark (reverse h) e)) p

pub remarks-preserved : goal.remarks-preserved
remarks-preserved g c =
    let h : List Op = c.args.replica.now.held.history in
    let xs : List Entry = c.args.entries.now in
    let i : ℕ = c.remarks.at in
    let e : Entry = c.index-entries-at.result in
    let below : i < length xs = omega (arith, c.remarks-test.true) in
    let p = entry_placed h xs i e c.requires.placed below c.index-entries-at.is in
    let page : List ℕ = c.index-pages-place.result in
    let page_is = c.index-pages-place.is ∙ (page_there h (entry_remark (reverse h) e) c.args.pages.now page c.requires.pages p).1 in
    under_way_grows _ _ _ _ _ _ _ _ _ _ c.remarks.invariant (remarks_next h (entry_remark (reverse h)) xs i e below c.index-entries-at.is)
    (subst (GathersText {T = Unit {0}} (g.O.Out.seen c.remarks.output) (g.O.Out.seen c.put_remark.new.output) c.remarks.gather c.put_remark.new.gather (Ok tt))
    (reported h page (i + 1) e page_is) c.in_ok-put_remark.ensures)

pub returns-in_err-put_remark : goal.returns-in_err-put_remark
returns-in_err-put_remark g c =
    let h : List Op = c.args.replica.now.held.history in
    let xs : List Entry = c.args.entries.now in
    let i : ℕ = c.remarks.at in
    let e : Entry = c.index-entries-at.result in
    let below : i < length xs = omega (arith, c.remarks-test.true) in
    let placed = entry_placed h xs i e c.requires.placed below c.index-entries-at.is in
    let page : List ℕ = c.index-pages-place.result in
    let page_is = c.index-pages-place.is ∙ (page_there h (entry_remark (reverse h) e) c.args.pages.now page c.requires.pages placed).1 in
    let p = err_from_is_err_and c.from_residual.result c.from_residual.ensures.1 in
    rw p.1 (under_way_stops _ _ _ _ _ _ _ _ _ _ c.remarks.invariant (remarks_next h (entry_remark (reverse h)) xs i e below c.index-entries-at.is)
    (subst (GathersText {T = Unit {0}} (g.O.Out.seen c.remarks.output) (g.O.Out.seen c.put_remark.new.output) c.remarks.gather c.put_remark.new.gather (Err (record {})))
    (reported h page (i + 1) e page_is) c.in_err-put_remark.ensures))

pub returns : goal.returns
returns g c =
    let h : List Op = c.args.replica.now.held.history in
    under_way_ends _ _ _ _ _ _ c.remarks.invariant (remarks_none h (entry_remark (reverse h)) c.args.entries.now c.remarks.at (omega (arith, c.remarks-test.false)))
