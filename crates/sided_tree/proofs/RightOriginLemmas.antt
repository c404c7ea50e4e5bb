-- The right origins of nodes are nodes, so they stand in the order of the nodes.
use Rattle.std.proofs.Common.{List, [], ap, inl, inr, refl, subst, sym, true, ◌∙◌, ◌∷◌, ◌≡◌}
use Rattle.std.specs.Prelude.{None, Option, Some, is_some, if◌then◌else◌}
use Rattle.fugue_ids.specs.Identifiers.{Identifier}
use Rattle.fugue_ids.specs.declared.op.Op.{Op}
use Rattle.fugue_ids.proofs.IdentifierLemmas.{cases_id, eq-id_eq, ne-id_eq}
use Rattle.origin_model.specs.sides.Node.{AreNodes, as_op, as_ops, find_node, has_node, has_origin, node_order}
use Rattle.origin_model.specs.operations.History.{holder, right_of}
use Rattle.origin_model.specs.order.Order.{right_at}
use Rattle.origin_model.specs.declared.operations.node.Node.{Node}
use Rattle.origin_model.proofs.SharedLemmas.{holder-nodes, nodes_listed, op_of}
use Rattle.fugue_ids.specs.Listed.{HoldsOrigin}

-- a node stays there as one comes
node_stays : (n : Node) (ns : List Node) (x : Identifier) → has_node ns x ≡ true → has_node (n ∷ ns) x ≡ true
node_stays n ns x k =
    elim (cases_id n.id x) [
      | inl e ↦ ap (λ b. is_some (if b then Some n else find_node ns x)) (eq-id_eq n.id x e)
      | inr e ↦ ap (λ b. is_some (if b then Some n else find_node ns x)) (ne-id_eq n.id x e) ∙ k
    ]

-- so does an origin
origin_stays : (n : Node) (ns : List Node) (o : Option Identifier) → has_origin ns o ≡ true → has_origin (n ∷ ns) o ≡ true
origin_stays n ns None k = refl
origin_stays n ns (Some x) k = node_stays n ns x k

-- the right origin of what a look-up found
abbrev right_by : Option Op → Option Identifier
right_by o = elim o [ None ↦ None | Some op ↦ right_of op ]

-- the right origin of a node is there
right_there : (ns : List Node) (x : Identifier) → AreNodes ns → has_origin ns (right_at (as_ops ns) x) ≡ true
right_there [] x a = refl
right_there (n ∷ ns) x a =
    elim (cases_id n.id x) [
      | inl e ↦
          let own : right_at (as_ops (n ∷ ns)) x ≡ n.right = ap (λ b. right_by (if b then Some (as_op n) else holder (as_ops ns) x)) (eq-id_eq n.id x e) in
          ap (has_origin (n ∷ ns)) own ∙ origin_stays n ns n.right a.0.right
      | inr e ↦
          let other : right_at (as_ops (n ∷ ns)) x ≡ right_at (as_ops ns) x = ap (λ b. right_by (if b then Some (as_op n) else holder (as_ops ns) x)) (ne-id_eq n.id x e) in
          ap (has_origin (n ∷ ns)) other ∙ origin_stays n ns (right_at (as_ops ns) x) (right_there ns x a.1)
    ]

-- an origin that is there stands in the order
pub origin_stands : (ns : List Node) (list : List Identifier) (o : Option Identifier) → AreNodes ns → list ≡ node_order ns → has_origin ns o ≡ true → HoldsOrigin list o
origin_stands ns list None a e k = tt
origin_stands ns list (Some x) a e k = subst (λ l. HoldsOrigin l (Some x)) (sym e) ((nodes_listed ns a x).0 k)

-- so does the right origin of a node
pub right_stands : (ns : List Node) (list : List Identifier) (x : Identifier) → AreNodes ns → list ≡ node_order ns → HoldsOrigin list (right_at (as_ops ns) x)
right_stands ns list x a e = origin_stands ns list (right_at (as_ops ns) x) a e (right_there ns x a)

-- the history of nodes holds what a look-up among them finds
pub held_nodes : (ns : List Node) (x : Identifier) → holder (as_ops ns) x ≡ op_of (find_node ns x)
held_nodes ns x = holder-nodes ns x
