use Rattle.std.proofs.Common.{List, arith, reverse, subst, ◌++◌, ◌≡◌, ℕ}
use Rattle.std.specs.Prelude.{Err}
use Rattle.std.proofs.lemmas.Result.{err_from_is_err_and}
use Rattle.fugue_ids.specs.Gathers.{GathersText}
use Rattle.fugue_ids.proofs.GatherLemmas.{gathers_join, gathers_stop}
use Rattle.cluster_text.specs.Clusters.{clusters}
use Rattle.passage_remarks.specs.Clusters.{passage_cluster_count, cluster_text, first_cluster}
use Rattle.passage_remarks.specs.Listing.{entry_remark}
use Rattle.passage_remarks.specs.Remarks.{Remark, head_line, quotation_line, remark_text}
use Rattle.passage_remarks.proofs.WritingLemmas.{clusters_within}
use Rattle.passage_remarks.proofs.printing.put_remark.Goals as goal

-- what is reported, by the clusters that were found
reported : (cs : List (List ℕ)) (n : ℕ) (r : Remark) (first count : ℕ) → first ≡ first_cluster cs r.from → count ≡ passage_cluster_count cs r.from r.to
    → head_line n r first count ++ quotation_line count (cluster_text cs first count) ≡ remark_text cs n r
reported cs n r first count f k = λ i. head_line n r (f i) (k i) ++ quotation_line (k i) (cluster_text cs (f i) (k i))

pub cluster_text-requires : goal.cluster_text-requires
cluster_text-requires g c =
    let w = clusters_within (clusters c.args.page.now) c.args.entry.now.from c.args.entry.now.to in
    omega (arith, w, c.first_cluster-first.ensures, c.cluster_count-count.ensures)

pub returns-in_err-put_head : goal.returns-in_err-put_head
returns-in_err-put_head g c =
    let cs = clusters c.args.page.now in
    let r : Remark = entry_remark (reverse c.args.replica.now.held.history) c.args.entry.now in
    let first = c.first_cluster-first.result in
    let count = c.cluster_count-count.result in
    let p = err_from_is_err_and c.from_residual.result c.from_residual.ensures.1 in
    rw p.1 (subst (GathersText {T = Unit {0}} (g.O.Out.seen c.args.output.now) (g.O.Out.seen c.put_head.new.output) c.args.gather.now c.put_head.new.gather (Err (record {})))
    (reported cs c.args.number r first count c.first_cluster-first.ensures c.cluster_count-count.ensures)
    (gathers_stop {T = Unit {0}} {S = Unit {0}} _ _ _ _ (head_line c.args.number r first count) (quotation_line count (cluster_text cs first count)) c.in_err-put_head.ensures))

pub returns : goal.returns
returns g c =
    let cs = clusters c.args.page.now in
    let r : Remark = entry_remark (reverse c.args.replica.now.held.history) c.args.entry.now in
    let first = c.first_cluster-first.result in
    let count = c.cluster_count-count.result in
    subst (GathersText {T = Unit {0}} (g.O.Out.seen c.args.output.now) (g.O.Out.seen c.put_passage.new.output) c.args.gather.now c.put_passage.new.gather c.put_passage.result)
    (reported cs c.args.number r first count c.first_cluster-first.ensures c.cluster_count-count.ensures)
    (gathers_join {T = Unit {0}} {S = Unit {0}} tt c.put_passage.result _ _ _ _ _ _ (head_line c.args.number r first count)
    (quotation_line count (cluster_text cs first count)) c.in_ok-put_head.ensures
    (subst (λ t. GathersText {T = Unit {0}} (g.O.Out.seen c.put_head.new.output)
    (g.O.Out.seen c.put_passage.new.output) c.put_head.new.gather c.put_passage.new.gather c.put_passage.result (quotation_line count t)) c.cluster_text.ensures
    c.put_passage.ensures))
