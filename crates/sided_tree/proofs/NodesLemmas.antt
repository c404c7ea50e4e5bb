-- The map of origins has the nodes, as one more comes or one goes.
use Rattle.std.proofs.Common.{Bool, List, [], ap, arith, cond, inl, inr, subst, sym, true, ◌+◌, ◌∙◌, ◌∷◌, ◌≡◌, ◌≢◌}
use Rattle.std.specs.FinMap.{FinMap, empty, get, get-empty, get-insert, get-remove, insert, remove}
use Rattle.std.specs.Ordering.{is_eq}
use Rattle.std.specs.Prelude.{None, Option, Some, if◌then◌else◌, option_map}
use Rattle.fugue_ids.specs.Identifiers.{Identifier, id_cmp}
use Rattle.fugue_ids.proofs.IdentifierLemmas.{cases_id, eq-id_eq, id_at-other, id_at-same, ne-id_eq}
use Rattle.origin_model.specs.sides.Detached.{NoOrigin, without}
use Rattle.origin_model.specs.sides.Node.{find_node}
use Rattle.origin_model.specs.declared.operations.node.Node.{Node}
use Rattle.origin_model.proofs.SharedLemmas.{found_without}
use Rattle.stretch_map.specs.Rules.{IsFollowedBy, typed_after}
use Rattle.stretch_map.specs.declared.follows.Typed.{Typed}
use Rattle.fugue_ids.proofs.OrderLemmas.{id_cmp_total}
use Rattle.fugue_ids.specs.Runs.{id_after}
use Rattle.sided_tree.specs.Nodes.{IsNodeMap, node_with}

-- at first there are none
pub no_nodes : (m : FinMap id_cmp Typed) → m ≡ empty → IsNodeMap m []
no_nodes m is x = ap (λ k. option_map (node_with x) (get k x)) is ∙ ap (option_map (node_with x)) (get-empty id_cmp x)

-- one more node
pub pushed : (m n : FinMap id_cmp Typed) (ns : List Node) (node : Node) → IsNodeMap m ns
    → n ≡ insert m node.id (record { left = node.left; right = node.right }) → IsNodeMap n (node ∷ ns)
pushed m n ns node is made x =
    let own : Typed = record { left = node.left; right = node.right } in
    let found : Bool → Option Node = λ b. option_map (node_with x) (cond b (Some own) (get m x)) in
    ap (λ k. option_map (node_with x) (get k x)) made ∙ ap (option_map (node_with x)) (get-insert id_cmp_total m node.id own x) ∙ elim (cases_id node.id x) [
      | inl e ↦
          ap found (subst (λ z. is_eq (id_cmp z node.id) ≡ true) e (id_at-same node.id))
          ∙ (λ i. Some (record { id = sym e i; left = node.left; right = node.right }))
          ∙ sym (ap (λ b. if b then Some node else find_node ns x) (eq-id_eq node.id x e))
      | inr e ↦
          ap found (id_at-other x node.id e) ∙ is x ∙ sym (ap (λ b. if b then Some node else find_node ns x) (ne-id_eq node.id x e))
    ]

-- one node less
pub removed : (m n : FinMap id_cmp Typed) (ns : List Node) (x : Identifier) → IsNodeMap m ns → n ≡ remove m x → IsNodeMap n (without x ns)
removed m n ns x is made y =
    let found : Bool → Option Node = λ b. option_map (node_with y) (cond b None (get m y)) in
    ap (λ k. option_map (node_with y) (get k y)) made ∙ ap (option_map (node_with y)) (get-remove id_cmp_total m x y) ∙ elim (cases_id x y) [
      | inl e ↦
          ap found (subst (λ z. is_eq (id_cmp z x) ≡ true) e (id_at-same x))
          ∙ sym (found_without ns x y ∙ ap (λ b. if b then None else find_node ns y) (eq-id_eq x y e))
      | inr e ↦
          ap found (id_at-other y x e) ∙ is y
          ∙ sym (found_without ns x y ∙ ap (λ b. if b then None else find_node ns y) (ne-id_eq x y e))
    ]

-- the left origin of the node that a look-up found
abbrev left_by : Option Node → Option Identifier
left_by o = elim o [ None ↦ None | Some n ↦ n.left ]

-- a node does not have as its left origin what no node has as an origin
other_left : (x y : Identifier) (ns : List Node) (n : Node) → NoOrigin x ns → find_node ns y ≡ Some n → n.left ≢ Some x
other_left x y [] n free e = cc
other_left x y (k ∷ ns) n free e =
    elim (cases_id k.id y) [
      | inl d ↦
          let own : Some k ≡ Some n = sym (ap (λ b. if b then Some k else find_node ns y) (eq-id_eq k.id y d)) ∙ e in
          λ l. free.0 (ap left_by own ∙ l)
      | inr d ↦ other_left x y ns n free.2 (sym (ap (λ b. if b then Some k else find_node ns y) (ne-id_eq k.id y d)) ∙ e)
    ]

-- the element after what no node has as an origin was not typed there
pub not_followed : (m : FinMap id_cmp Typed) (ns : List Node) (x : Identifier) → IsNodeMap m ns → NoOrigin x ns → IsFollowedBy typed_after (get m) x → ⊥
not_followed m ns x is free followed =
    let next : Identifier = id_after x 1 in
    let typed : Typed = typed_after x followed.value 1 in
    let here : x.counter + 0 ≡ x.counter = omega arith in
    other_left x next ns (node_with next typed) free (sym (is next) ∙ ap (option_map (node_with next)) followed.followed)
    (λ i. Some (record { replica = x.replica; counter = here i }))
