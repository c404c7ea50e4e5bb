use Rattle.std.proofs.Common.{ap, arith, length, take, ◌∙◌}
use Rattle.std.specs.Prelude.{string_bytes}
use Rattle.std.specs.List.{concat}
use Rattle.cluster_text.specs.Clusters.{clusters}
use Rattle.passage_remarks.specs.declared.page.Boundary.{Boundary}
use Rattle.passage_remarks.proofs.BoundaryLemmas.{bytes_are, kept_len}
use Rattle.passage_remarks.proofs.page.Page.bytes_before.Goals as goal

pub index-requires : goal.index-requires
index-requires c =
    let k = kept_len (clusters (string_bytes c.self.inside.text)) c.self.inside.boundaries.items c.self.invariant in
    let v = ap (λ t. length (clusters t)) c.self.view_is in
    omega (arith, k, v, c.requires)

pub returns-clause-few : goal.returns-clause-few
returns-clause-few c =
    let k = kept_len (clusters (string_bytes c.self.inside.text)) c.self.inside.boundaries.items c.self.invariant in
    let v = ap (λ t. length (clusters t)) c.self.view_is in
    omega (arith, k, v, c.self.inside.boundaries.ok.0, c.self.inside.boundaries.ok.1, c.self.inside.boundaries.small)

pub returns-clause-bytes : goal.returns-clause-bytes
returns-clause-bytes c =
    let cs = clusters (string_bytes c.self.inside.text) in
    let v = ap (λ t. length (clusters t)) c.self.view_is in
    ap (λ (b : Boundary). b.bytes) c.index.ensures
    ∙ bytes_are cs c.self.inside.boundaries.items c.self.invariant c.args.count c.index.result.now (omega (arith, v, c.requires))
    ∙ ap (λ t. length (concat (take c.args.count (clusters t)))) c.self.view_is
