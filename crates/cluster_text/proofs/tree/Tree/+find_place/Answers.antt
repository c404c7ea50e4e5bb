use Rattle.std.proofs.Common.{◌≡◌, ◌+◌, ◌-◌, List, length, refl, sym, ap, ◌∙◌, rules, arith}
use Rattle.std.specs.Prelude.{string_bytes}
use Rattle.std.proofs.lemmas.Option.{IfSome_then}
use Rattle.cluster_text.specs.Clusters.{clusters}
use Rattle.cluster_text.specs.Parts.{whole}
use Rattle.cluster_text.specs.declared.part.Part.{Part}
use Rattle.cluster_text.proofs.TextLemmas.{clusters-nil}
use Rattle.cluster_text.proofs.TreeLemmas.{cluster_counts, left_clusters, left_scalars, lengths_are, place-here, place-left, place-right, scalars_are}
use Rattle.cluster_text.proofs.tree.Tree.+find_place.Goals as goal

pub returns-in_default-clause-none : goal.returns-in_default-clause-none
returns-in_default-clause-none t c =
    let none = ap (λ (ps : List Part). length (clusters (whole ps))) c.in_default.ensures.none ∙ ap length clusters-nil in
    (λ _. omega (arith, none), λ _. refl)

pub find_place-requires : goal.find_place-requires
find_place-requires t c =
    let node = c.in-Some.node.now in
    let is = c.in-Some.ensures.some in
    let lengths = lengths_are _ node.left node.part node.right is in
    (search (rules, lengths), omega (arith, scalars_are _ node.left node.part node.right is, c.requires))

pub returns-then-at-before-clause-some : goal.returns-then-at-before-clause-some
returns-then-at-before-clause-some t c =
    let node = c.in-Some.node.now in
    let is = c.in-Some.ensures.some in
    let before = left_clusters _ node.left node.part node.right is c.requires _ c.clusters-before.ensures in
    let same = place-left _ node.left node.part node.right is c.args.at (omega (arith, before, c.if-at-before.true)) in
    IfSome_then c.find_place.result c.find_place.ensures.some (λ found e. e ∙ sym same)

pub returns-then-at-before-clause-none : goal.returns-then-at-before-clause-none
returns-then-at-before-clause-none t c =
    let node = c.in-Some.node.now in
    let is = c.in-Some.ensures.some in
    let before = left_clusters _ node.left node.part node.right is c.requires _ c.clusters-before.ensures in
    let counts = cluster_counts _ node.left node.part node.right is in (
      λ none. absurd (omega (arith, c.find_place.ensures.none.0 none, before, c.if-at-before.true)),
      λ few. absurd (omega (arith, few, counts, before, c.if-at-before.true)),
    )

pub overflow_add-result : goal.overflow_add-result
overflow_add-result t c =
    let node = c.in-Some.node.now in
    let is = c.in-Some.ensures.some in
    let before = left_clusters _ node.left node.part node.right is c.requires _ c.clusters-before.ensures in
    let passed = left_scalars _ node.left node.part node.right is c.requires _ c.scalars-passed.ensures in
    let within = c.args.at - c.clusters-before.result in
    let here = place-here _ node.left node.part node.right is c.args.at within (omega (arith, before, c.if-at-before.false))
    (omega (arith, c.if-within-node.true, node.part.clusters_are)) in
    omega (arith, here.1, passed, c.scalars_before-here.ensures, c.requires)

pub returns-then-within-node-clause-some : goal.returns-then-within-node-clause-some
returns-then-within-node-clause-some t c =
    let node = c.in-Some.node.now in
    let is = c.in-Some.ensures.some in
    let before = left_clusters _ node.left node.part node.right is c.requires _ c.clusters-before.ensures in
    let passed = left_scalars _ node.left node.part node.right is c.requires _ c.scalars-passed.ensures in
    let within = c.args.at - c.clusters-before.result in
    let here = place-here _ node.left node.part node.right is c.args.at within (omega (arith, before, c.if-at-before.false))
    (omega (arith, c.if-within-node.true, node.part.clusters_are)) in
    omega (arith, here.0, passed, c.scalars_before-here.ensures)

pub returns-then-within-node-clause-none : goal.returns-then-within-node-clause-none
returns-then-within-node-clause-none t c =
    let node = c.in-Some.node.now in
    let is = c.in-Some.ensures.some in
    let before = left_clusters _ node.left node.part node.right is c.requires _ c.clusters-before.ensures in
    let counts = cluster_counts _ node.left node.part node.right is in
    (λ none. cc, λ few. absurd (omega (arith, few, counts, before, c.if-at-before.false, c.if-within-node.true, node.part.clusters_are)))

pub find_place-requires-2 : goal.find_place-requires-2
find_place-requires-2 t c =
    let node = c.in-Some.node.now in
    let is = c.in-Some.ensures.some in
    let lengths = lengths_are _ node.left node.part node.right is in
    (search (rules, lengths), omega (arith, scalars_are _ node.left node.part node.right is, c.requires))

pub overflow_add-result-in-Some-find_place : goal.overflow_add-result-in-Some-find_place
overflow_add-result-in-Some-find_place t c =
    let node = c.in-Some.node.now in
    let is = c.in-Some.ensures.some in
    let passed = left_scalars _ node.left node.part node.right is c.requires _ c.scalars-passed.ensures in
    omega (arith, passed, scalars_are _ node.left node.part node.right is, node.part.scalars_are, c.requires)

pub overflow_add-result-in-Some-find_place-2 : goal.overflow_add-result-in-Some-find_place-2
overflow_add-result-in-Some-find_place-2 t c =
    let node = c.in-Some.node.now in
    let is = c.in-Some.ensures.some in
    let before = left_clusters _ node.left node.part node.right is c.requires _ c.clusters-before.ensures in
    let passed = left_scalars _ node.left node.part node.right is c.requires _ c.scalars-passed.ensures in
    let within = c.args.at - c.clusters-before.result - node.part.clusters in
    let place : c.args.at ≡ length (clusters (whole node.left)) + (length (clusters (string_bytes node.part.text)) + within) =
    omega (arith, before, c.if-at-before.false, c.if-within-node.false, node.part.clusters_are) in
    let right = place-right _ node.left node.part node.right is c.args.at within place in
    omega (arith, right.1, passed, node.part.scalars_are, c.in-Some-find_place.ensures.some, c.requires)

pub returns-in-Some-find_place-clause-some : goal.returns-in-Some-find_place-clause-some
returns-in-Some-find_place-clause-some t c =
    let node = c.in-Some.node.now in
    let is = c.in-Some.ensures.some in
    let before = left_clusters _ node.left node.part node.right is c.requires _ c.clusters-before.ensures in
    let passed = left_scalars _ node.left node.part node.right is c.requires _ c.scalars-passed.ensures in
    let within = c.args.at - c.clusters-before.result - node.part.clusters in
    let place : c.args.at ≡ length (clusters (whole node.left)) + (length (clusters (string_bytes node.part.text)) + within) =
    omega (arith, before, c.if-at-before.false, c.if-within-node.false, node.part.clusters_are) in
    let right = place-right _ node.left node.part node.right is c.args.at within place in
    omega (arith, right.0, passed, node.part.scalars_are, c.in-Some-find_place.ensures.some)

pub returns-in-Some-find_place-clause-none : goal.returns-in-Some-find_place-clause-none
returns-in-Some-find_place-clause-none t c =
    let node = c.in-Some.node.now in
    let is = c.in-Some.ensures.some in
    let before = left_clusters _ node.left node.part node.right is c.requires _ c.clusters-before.ensures in
    let counts = cluster_counts _ node.left node.part node.right is in
    let found = c.in-Some-find_place.ensures.none in
    (λ none. cc, λ few. found.1 (omega (arith, few, counts, before, c.if-at-before.false, c.if-within-node.false, node.part.clusters_are)))

pub returns-in-None-clause-none : goal.returns-in-None-clause-none
returns-in-None-clause-none t c =
    let node = c.in-Some.node.now in
    let is = c.in-Some.ensures.some in
    let before = left_clusters _ node.left node.part node.right is c.requires _ c.clusters-before.ensures in
    let counts = cluster_counts _ node.left node.part node.right is in
    let found = c.in-None.ensures.none.0 cc in
    (λ none. omega (arith, found, counts, before, c.if-at-before.false, c.if-within-node.false, node.part.clusters_are), λ few. refl)
