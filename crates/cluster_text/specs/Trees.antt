-- Parts in a tree.
use Rattle.std.specs.Prelude.{◌≡◌, ℕ, ◌-◌, ◌^◌, min, Option, None, Some, List, [], ◌∷◌, ◌++◌, length}
use Rattle.std.proofs.Common.{Box}
use Rattle.std.specs.declared.alloc.Global.{Global}
use Rattle.std.specs.List.{sum_by}
use Rattle.cluster_text.specs.declared.part.Part.{Part}
use Rattle.cluster_text.specs.declared.tree.Node.{Node}

-- the parts below a node, in order
abbrev pub parts_below : Option (Box Node Global) → List Part
parts_below None = []
parts_below (Some node) = node.value.left ++ node.value.part ∷ node.value.right

-- a sum as it is kept: none goes beyond the greatest number of 64 bits
abbrev pub capped_sum : ℕ → ℕ
capped_sum n = min n (2 ^ 64 - 1)

-- how many scalars parts have
abbrev pub count_scalars_in : List Part → ℕ
count_scalars_in parts = sum_by (λ part. part.scalars) parts

-- how many clusters parts have
abbrev pub clusters_in : List Part → ℕ
clusters_in parts = sum_by (λ part. part.clusters) parts

-- a node has the sums of the parts below it
pub record HasSums (node : Node) (parts : List Part) : Type 0 where
  pub parts_are : node.parts ≡ capped_sum (length parts)
  pub scalars_are : node.scalars ≡ capped_sum (count_scalars_in parts)
  pub clusters_are : node.clusters ≡ capped_sum (clusters_in parts)

-- a tree knows the numbers of its parts, of their scalars and of their clusters, as they are capped
abbrev pub HasRightSums : Option (Box Node Global) → Type 0
HasRightSums None = Unit {0}
HasRightSums (Some node) = HasSums node.value (node.value.left ++ node.value.part ∷ node.value.right)

-- the part at an index
pub record IsAt (parts : List Part) (index : ℕ) (part : Part) : Type 0 where
  pub front : List Part
  pub back : List Part
  pub parts_are : parts ≡ front ++ part ∷ back
  pub index_is : index ≡ length front
