use Rattle.std.proofs.Common.{◌≡◌, ◌+◌, ◌-◌, length, subst, arith}
use Rattle.cluster_text.specs.Trees.{IsAt}
use Rattle.cluster_text.proofs.TreeLemmas.{at-right, lengths_are}
use Rattle.cluster_text.proofs.tree.Tree.+get.Goals as goal

pub returns-else-index-before-2 : goal.returns-else-index-before-2
returns-else-index-before-2 t c =
    let node = c.in-Some.node.now in
    let is = c.in-Some.ensures.some in
    let count = lengths_are _ node.left node.part node.right is in
    let before : c.len-before.result ≡ length node.left = omega (arith, c.len-before.ensures, count, c.requires.few) in
    let index : length node.left + 1 + (c.args.index - c.len-before.result - 1) ≡ c.args.index = omega (arith, before, c.if-index-before.false, c.if-index-before-2.false) in
    subst (λ n. IsAt c.args.self.now n c.get-else-index-before-2.result.now) index
    (at-right _ node.left node.part node.right is _ _ c.get-else-index-before-2.ensures)
