use Rattle.std.proofs.Common.{List, ap, drop, subst, sym, ◌∙◌}
use Rattle.std.specs.List.Sorted.{IsNonDecreasingBy}
use Rattle.std.specs.Prelude.{count_by, nat_le, string_bytes}
use Rattle.std.proofs.lemmas.List.Sorted.{IsNonDecreasingBy-drop}
use Rattle.cluster_text.specs.Clusters.{clusters}
use Rattle.passage_remarks.specs.declared.page.Boundary.{Boundary}
use Rattle.passage_remarks.specs.Clusters.{first_cluster}
use Rattle.passage_remarks.proofs.BoundaryLemmas.{ends_counted, rises, scalars_before}
use Rattle.passage_remarks.proofs.page.Page.first_cluster.Goals as goal

pub count_up_to-requires : goal.count_up_to-requires
count_up_to-requires c =
    let xs : List Boundary = c.self.inside.boundaries.items in
    subst (IsNonDecreasingBy scalars_before) (sym (c.after_first.ensures ∙ ap (drop 1) c.as_slice.ensures.value))
    (IsNonDecreasingBy-drop scalars_before 1 xs (rises (clusters (string_bytes c.self.inside.text)) xs c.self.invariant))

pub returns : goal.returns
returns c =
    let xs : List Boundary = c.self.inside.boundaries.items in
    let cs = clusters (string_bytes c.self.inside.text) in
    c.count_up_to.ensures
    ∙ ap (count_by (λ (b : Boundary). nat_le b.scalars c.args.from)) (c.after_first.ensures ∙ ap (drop 1) c.as_slice.ensures.value)
    ∙ ends_counted cs xs c.self.invariant c.args.from
    ∙ ap (λ t. first_cluster (clusters t) c.args.from) c.self.view_is
