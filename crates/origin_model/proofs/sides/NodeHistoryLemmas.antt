-- Nodes are a lawful history exactly where each was new, and its origins were there, when it came.
use Rattle.origin_model.proofs.Words.{All, All-append, All-cons, All-nil, Identifier, Lawful, List, None, Op, Option, Ready, SectionRole, Some, [], ap, false, false_from_ne_true}
use Rattle.origin_model.proofs.Words.{false≢true, given_as, has_op, holder, holds, id_eq, id_eq-refl, if◌then◌else◌, is_some, names, refl, sym, true, true≢false, verdict, ◌↔◌, ◌∙◌}
use Rattle.origin_model.proofs.Words.{◌∷◌, ◌≡◌}
use Rattle.origin_model.specs.sides.Node.{AreNodes, IsNew, as_op, as_ops, find_node, has_node, has_origin}
use Rattle.origin_model.specs.declared.operations.node.Node.{Node}
use Rattle.origin_model.proofs.operations.LookupLemmas.{Fits, IsHeld, all_fit, has-holder, left_named, right_named, when_ready}
use Rattle.origin_model.proofs.operations.CauseLemmas.{becomes_ready}

-- what a history holds where a look-up finds the node
abbrev pub op_of : Option Node → Option Op
op_of None = None
op_of (Some n) = Some (as_op n)

-- the history of nodes holds what a look-up finds
pub holder-nodes : (ns : List Node) (x : Identifier) → holder (as_ops ns) x ≡ op_of (find_node ns x)
holder-nodes [] x = refl
holder-nodes (n ∷ ns) x =
    elim (id_eq n.id x) as (λ b. (if b then Some (as_op n) else holder (as_ops ns) x) ≡ op_of (if b then Some n else find_node ns x)) [
      | true ↦ refl
      | false ↦ holder-nodes ns x
    ]

-- a node is held where it is there
held_some : (o : Option Node) → is_some (op_of o) ≡ is_some o
held_some None = refl
held_some (Some n) = refl

-- the history holds the identifiers of the nodes
pub holds-nodes : (ns : List Node) (x : Identifier) → holds (as_ops ns) x ≡ has_node ns x
holds-nodes ns x = ap is_some (holder-nodes ns x) ∙ held_some (find_node ns x)

-- an origin is there where its identifier is
pub has_origin-by : (ns : List Node) (o : Option Identifier) → ((x : Identifier) → o ≡ Some x → has_node ns x ≡ true) → has_origin ns o ≡ true
has_origin-by ns None f = refl
has_origin-by ns (Some x) f = f x refl

-- an origin that is there fits
origin_there : (ns : List Node) (o : Option Identifier) → has_origin ns o ≡ true → All (Fits (as_ops ns)) (given_as SectionRole o)
origin_there ns None k = All-nil (Fits (as_ops ns))
origin_there ns (Some x) k =
    let node : (o : Option Node) → find_node ns x ≡ o → is_some o ≡ true
    → Fits (as_ops ns) (x, SectionRole) = λ o. elim o as (λ o. find_node ns x ≡ o → is_some o ≡ true → Fits (as_ops ns) (x, SectionRole)) [
      | None ↦ (λ e j. absurd (false≢true j))
      | Some n ↦ (λ e j. (as_op n, holder-nodes ns x ∙ ap op_of e, refl))
    ] in
    All-cons (Fits (as_ops ns)) (x, SectionRole) [] (node (find_node ns x) refl k) (All-nil (Fits (as_ops ns)))

-- a new node whose origins are there is Ready
new_ready : (ns : List Node) (n : Node) → Lawful (as_ops ns) → IsNew ns n → verdict (as_ops ns) (as_op n) ≡ Ready
new_ready ns n w k =
    let h : List Op = as_ops ns in
    let taken : holds h n.id ≡ false = holds-nodes ns n.id ∙ k.fresh in
    let new : has_op h (as_op n) ≡ false = false_from_ne_true _ (λ e. true≢false (sym (ap is_some (has-holder h n.id (as_op n) w e (id_eq-refl n.id))) ∙ taken)) in
    let f = all_fit h (names (as_op n))
    (All-append (Fits h) (given_as SectionRole n.left) (given_as SectionRole n.right) (origin_there ns n.left k.left) (origin_there ns n.right k.right)) in
    becomes_ready h (as_op n) new taken f.0 f.1

-- a Ready node is new, and its origins are there
ready_new : (ns : List Node) (n : Node) → verdict (as_ops ns) (as_op n) ≡ Ready → IsNew ns n
ready_new ns n e =
    let r = when_ready (as_ops ns) (as_op n) e in
    let there : (x : Identifier) → IsHeld (as_ops ns) x → has_node ns x ≡ true = λ x k. sym (holds-nodes ns x) ∙ k in
    record {
      fresh = sym (holds-nodes ns n.id) ∙ r.fresh;
      left = has_origin-by ns n.left (λ x d. there x (left_named (as_ops ns) (as_op n) x r d));
      right = has_origin-by ns n.right (λ x d. there x (right_named (as_ops ns) (as_op n) x r d));
    }

-- nodes are a lawful history
pub nodes-lawful : (ns : List Node) → AreNodes ns → Lawful (as_ops ns)
nodes-lawful [] k = tt
nodes-lawful (n ∷ ns) k = let w = nodes-lawful ns k.1 in (new_ready ns n w k.0, w)

-- the nodes of a lawful history
lawful-nodes : (ns : List Node) → Lawful (as_ops ns) → AreNodes ns
lawful-nodes [] w = tt
lawful-nodes (n ∷ ns) w = (ready_new ns n w.0, lawful-nodes ns w.1)

-- nodes are a lawful history, and only they are
pub nodes_lawful : (ns : List Node) → AreNodes ns ↔ Lawful (as_ops ns)
nodes_lawful ns = (nodes-lawful ns, lawful-nodes ns)
