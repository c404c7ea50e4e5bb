use Rattle.std.proofs.Common.{List, ap, arith, length, sym, true, ◌-◌, ◌∙◌, ◌≡◌}
use Rattle.std.specs.Prelude.{count_by, if◌then◌else◌, nat_lt, string_bytes}
use Rattle.std.proofs.lemmas.Bool.Decides.{nat_tests}
use Rattle.std.proofs.lemmas.List.Sorted.{IsNonDecreasingBy-take}
use Rattle.cluster_text.specs.Clusters.{clusters}
use Rattle.passage_remarks.specs.declared.page.Boundary.{Boundary}
use Rattle.passage_remarks.specs.Clusters.{passage_cluster_count, first_cluster, cluster_starts}
use Rattle.passage_remarks.proofs.BoundaryLemmas.{kept_len, rises, scalars_before, starts_counted}
use Rattle.passage_remarks.proofs.page.Page.cluster_count.Goals as goal

pub overflow_sub-count : goal.overflow_sub-count
overflow_sub-count c =
    let k = kept_len (clusters (string_bytes c.self.inside.text)) c.self.inside.boundaries.items c.self.invariant in
    omega (arith, k, c.len-count.ensures)

pub count_before-behind-requires : goal.count_before-behind-requires
count_before-behind-requires c =
    let xs : List Boundary = c.deref.result.now in
    let cs = clusters (string_bytes c.self.inside.text) in
    IsNonDecreasingBy-take scalars_before (c.len-count.result - 1) xs (rises cs xs (c.deref.ensures.value ∙ c.self.invariant))

pub returns : goal.returns
returns c =
    let xs : List Boundary = c.deref.result.now in
    let cs = clusters (string_bytes c.self.inside.text) in
    let to = c.args.to in
    let from = c.args.from in
    let k = kept_len cs c.self.inside.boundaries.items c.self.invariant in
    let n : c.len-count.result - 1 ≡ length cs = omega (arith, k, c.len-count.ensures) in
    let behind = c.count_before-behind.ensures ∙ starts_counted cs xs (c.deref.ensures.value ∙ c.self.invariant) to (c.len-count.result - 1) n in
    let some : nat_lt from to ≡ true = grind (arith, nat_tests) in
    c.saturating_sub.ensures
    ∙ (λ i. behind i - (c.first_cluster.ensures ∙ ap (λ t. first_cluster (clusters t) from) (sym c.self.view_is)) i)
    ∙ sym (ap (λ b. if b then count_by (λ start. nat_lt start to) (cluster_starts cs) - first_cluster cs from else 0) some)
    ∙ ap (λ t. passage_cluster_count (clusters t) from to) c.self.view_is
