-- The tree that the shapes of a store make.
use Rattle.std.specs.Prelude.{◌≡◌, ℕ, suc, ◌<◌, ◌≤◌, ◌⊎◌, List, slice_index_or, Option, None, Some, option_map}
use Rattle.node_rope.specs.declared.store.Store.{Store}
use Rattle.node_rope.specs.declared.cells.Shape.{Shape}
use Rattle.node_rope.specs.declared.cells.Link.{Link}
use Rattle.node_rope.specs.Made.{IsMade, shapes_of, made_count}
use Rattle.node_rope.specs.Walk.{Tree, all_nodes, HasCounts, IsLinked}
use Rattle.node_rope.specs.Sums.{sum_measure, lesser, no_rank, IsSummed, fold}

-- what stands for a number past the last: a node alone
abbrev pub lone_shape : Shape
lone_shape = record {
  key = record { replica = 0; counter = 0 };
  left = None;
  right = None;
  parent = None;
  count = 1;
  weight = 0;
  least = no_rank;
  own = record { weight = 0; rank = no_rank };
}

-- the shape with this number
abbrev pub shape_at : List Shape → ℕ → Shape
shape_at ss i = slice_index_or ss i lone_shape

-- the number to which a link leads
abbrev pub link_number : Option Link → Option ℕ
link_number = option_map (λ l. l.number)

-- the tree of the shapes' links
abbrev pub tree_of : List Shape → Tree
tree_of ss = record {
  left = λ i. link_number (shape_at ss i).left;
  right = λ i. link_number (shape_at ss i).right;
  parent = λ i. link_number (shape_at ss i).parent;
  count = λ i. (shape_at ss i).count;
}

-- the weights of subtrees, and of single values
abbrev pub weights : List Shape → ℕ → ℕ
weights ss i = (shape_at ss i).weight

-- the weight of a node alone
abbrev pub owns : List Shape → ℕ → ℕ
owns ss i = (shape_at ss i).own.weight

-- the weight of the subtree to which a link leads
abbrev pub weight_at : List Shape → Option Link → ℕ
weight_at ss None = 0
weight_at ss (Some l) = (shape_at ss l.number).weight

-- the least ranks of subtrees, and the ranks of single values
abbrev pub leasts : List Shape → ℕ → ℕ
leasts ss i = (shape_at ss i).least

-- the rank of a node alone
abbrev pub ranks : List Shape → ℕ → ℕ
ranks ss i = (shape_at ss i).own.rank

-- each rank has 64 bits
abbrev pub AreRanksFit : List Shape → Type 0
AreRanksFit ss = (i : ℕ) → ranks ss i ≤ no_rank

-- the least rank of the subtree to which a link leads
abbrev pub least_at : List Shape → Option Link → ℕ
least_at ss None = no_rank
least_at ss (Some l) = (shape_at ss l.number).least

-- the weight of nodes
abbrev pub weigh : List Shape → List ℕ → ℕ
weigh ss = fold sum_measure (owns ss)

-- each node knows the weight of its subtree
abbrev pub IsWeighed : List Shape → Type 0
IsWeighed ss = IsSummed sum_measure (tree_of ss) (owns ss) (weights ss)

-- each node knows the least rank of its subtree
abbrev pub IsRanked : List Shape → Type 0
IsRanked ss = IsSummed lesser (tree_of ss) (ranks ss) (leasts ss)

-- the link leads to a node that was made
abbrev pub AreMade : {T : Type 0} → Store T → Option Link → Type 0
AreMade s o = (l : Link) → o ≡ Some l → IsMade s l

-- the store's nodes make one tree below root, of whose weights and least ranks this holds
pub record IsTree {T : Type 0} (s : Store T) (root : Option Link) (OfWeights OfRanks : Type 0) : Type 0 where
  pub counted : HasCounts (tree_of (shapes_of s))
  pub weighed : OfWeights
  pub ranked : OfRanks
  pub linked : IsLinked (tree_of (shapes_of s))
  pub top : (i : ℕ) → i < made_count s → (shape_at (shapes_of s) i).parent ≡ None → link_number root ≡ Some i
  pub crown : (i : ℕ) → link_number root ≡ Some i → (shape_at (shapes_of s) i).parent ≡ None
  pub below : (i p : ℕ) → link_number (shape_at (shapes_of s) i).parent ≡ Some p
      → (link_number (shape_at (shapes_of s) p).left ≡ Some i) ⊎ (link_number (shape_at (shapes_of s) p).right ≡ Some i)
  pub made_left : (i : ℕ) → AreMade s (shape_at (shapes_of s) i).left
  pub made_right : (i : ℕ) → AreMade s (shape_at (shapes_of s) i).right
  pub made_parent : (i : ℕ) → AreMade s (shape_at (shapes_of s) i).parent
  pub made_root : AreMade s root
  pub small : (i : ℕ) → (shape_at (shapes_of s) i).count ≤ suc (made_count s)

-- and they are right
abbrev pub HasRightLinks : {T : Type 0} → Store T → Option Link → Type 0
HasRightLinks s root = IsTree s root (IsWeighed (shapes_of s)) (IsRanked (shapes_of s))

-- the numbers of the nodes in order
abbrev pub nodes_in_order : {T : Type 0} → Store T → Option Link → List ℕ
nodes_in_order s root = all_nodes (tree_of (shapes_of s)) (link_number root)
