-- The order of a place depends on its nodes alone: they have the chains of its elements, and so compare alike.
use Rattle.origin_model.proofs.Words.{All, All-contains, All-head, All-tail, Bool, Contains, Identifier, IsIn, Lawful, List, None, Op, Option, Place, Some, [], all_from_contains}
use Rattle.origin_model.proofs.Words.{ap, before_in, cases_Bool, cases_id, cases_origin, catalogue, count_by, drop, element_of, false, false_from_ne_true, false≢true, fork_before}
use Rattle.origin_model.proofs.Words.{holder, id_eq-refl, id_eq-true, if◌then◌else◌, index_of_origin, inl, inr, is_own, is_some, left_of, lefts, ne-id_eq, next_left, next_right}
use Rattle.origin_model.proofs.Words.{order, placed, precedes, refl, right_at, right_of, rights, subst, suc, sym, take, true, true≢false, ◌++◌, ◌↔◌, ◌∙◌, ◌∷◌, ◌≡◌}
use Rattle.origin_model.specs.sides.Node.{AreNodes, IsNew, as_op, as_ops, find_node, has_node, node_order, nodes, with_node}
use Rattle.origin_model.specs.declared.operations.node.Node.{Node}
use Rattle.origin_model.proofs.order.{IsIn-held, IsIn-older, IsIn-own, IsIn-split, above-same, before_agree, beside-same, beside_is, chain-other, chain-own, chain_above, count-no}
use Rattle.origin_model.proofs.order.{count-yes, has_left_by, left_in, lefts-in, order-has, order-in, order-member, order-none, order-some, right_in, rights-in}
use Rattle.origin_model.proofs.operations.LookupLemmas.{held_not_own, holder-other, holder-own, holder_owns, right_by, when_ready}
use Rattle.origin_model.proofs.operations.ElementLemmas.{element_own}
use Rattle.origin_model.proofs.sides.NodeHistoryLemmas.{has_origin-by, holder-nodes, holds-nodes, nodes-lawful, op_of}

-- the nodes of a place, as a history
abbrev node_ops : Place → List Op → List Op
node_ops p h = as_ops (nodes p h)

-- the node of an element
abbrev node_of : Identifier → Op → Node
node_of x op = record { id = x; left = left_of op; right = right_of op }

-- the node of an element, as an operation
abbrev bare : Identifier → Op → Op
bare x op = as_op (node_of x op)

-- an operation that is no element adds no node
pub nodes-none : (p : Place) (op : Op) (older : List Op) → element_of p op ≡ None → nodes p (op ∷ older) ≡ nodes p older
nodes-none p op older e = ap (λ o. with_node o op (nodes p older)) e

-- an element adds its node
nodes-some : (p : Place) (op : Op) (older : List Op) (x : Identifier) → element_of p op ≡ Some x → nodes p (op ∷ older) ≡ node_of x op ∷ nodes p older
nodes-some p op older x e = ap (λ o. with_node o op (nodes p older)) e

-- the same, of the histories
node_ops-some : (p : Place) (op : Op) (older : List Op) (x : Identifier) → element_of p op ≡ Some x → node_ops p (op ∷ older) ≡ bare x op ∷ node_ops p older
node_ops-some p op older x e = ap as_ops (nodes-some p op older x e)

-- what the nodes have of an element
record Same (p : Place) (h : List Op) (x : Identifier) : Type 0 where
  op : Op
  held : holder h x ≡ Some op
  node_held : holder (node_ops p h) x ≡ Some (bare x op)
  lefts_same : lefts h x ≡ lefts (node_ops p h) x
  rights_same : rights h x ≡ rights (node_ops p h) x

-- the nodes have each element with its origins and chains
same : (p : Place) (h : List Op) (x : Identifier) → Lawful h → IsIn p h x → Same p h x
same p [] x w m = cc (m.held)
same p (op ∷ older) x w m =
    let rd = when_ready older op w.0 in
    let h : List Op = op ∷ older in
    elim (IsIn-split p op older x m) [
      | inl k ↦
          let own : is_own x op ≡ true = element_own p op x k in
          let n : List Op = node_ops p older in
          let t : node_ops p h ≡ bare x op ∷ n = node_ops-some p op older x k in
          let right : (r : Identifier) → right_of op ≡ Some r → Same p older r = λ r e. same p older r w.1 (right_in p op older x r rd k e) in
          record {
            op = op;
            held = holder-own op older x own;
            node_held = ap (λ g. holder g x) t ∙ holder-own (bare x op) n x (id_eq-refl x);
            lefts_same = chain-own next_left op older x own
                ∙ ap (λ c. c ++ x ∷ []) (above-same next_left older n (left_of op) (λ l e. (same p older l w.1 (left_in p op older x l rd k e)).lefts_same))
                ∙ sym (ap (λ g. lefts g x) t ∙ chain-own next_left (bare x op) n x (id_eq-refl x));
            rights_same = chain-own next_right op older x own
                ∙ ap (λ c. c ++ x ∷ [])
                (above-same next_right older n (next_right older op) (λ r e. (right r (beside_is older (left_of op) (right_of op) r e).0).rights_same)
                ∙ ap (chain_above next_right n) (beside-same older n (left_of op) (right_of op) (λ r e.
                let s = right r e in ap (has_left_by (left_of op)) s.held ∙ sym (ap (has_left_by (left_of op)) s.node_held))))
                ∙ sym (ap (λ g. rights g x) t ∙ chain-own next_right (bare x op) n x (id_eq-refl x));
          }
      | inr k ↦
          let s = same p older x w.1 k in
          let no : is_own x op ≡ false = held_not_own op older x rd (IsIn-held p older x k) in
          let from : (g : List Op) → node_ops p h ≡ g → (holder g x ≡ holder (node_ops p older) x) → (lefts g x ≡ lefts (node_ops p older) x)
          → (rights g x ≡ rights (node_ops p older) x) → Same p h x = λ g t a b c.
          record {
            op = s.op;
            held = holder-other op older x no ∙ s.held;
            node_held = ap (λ z. holder z x) t ∙ a ∙ s.node_held;
            lefts_same = chain-other next_left op older x no ∙ s.lefts_same ∙ sym (ap (λ z. lefts z x) t ∙ b);
            rights_same = chain-other next_right op older x no ∙ s.rights_same ∙ sym (ap (λ z. rights z x) t ∙ c);
          } in
          elim (cases_origin (element_of p op)) [
            | inl e ↦ from (node_ops p older) (ap as_ops (nodes-none p op older e)) refl refl refl
            | inr f ↦
                let n : is_own x (bare f.0 op) ≡ false = ne-id_eq f.0 x (λ d. true≢false (sym (element_own p op f.0 f.1) ∙ ap (λ z. is_own z op) d ∙ no)) in
                from (bare f.0 op ∷ node_ops p older) (node_ops-some p op older f.0 f.1)
                (holder-other (bare f.0 op) (node_ops p older) x n) (chain-other next_left (bare f.0 op) (node_ops p older) x n)
                (chain-other next_right (bare f.0 op) (node_ops p older) x n)
          ]
    ]

-- a place of a lawful history, and a finished list
module _ (p : Place) (h : List Op) (w : Lawful h) (o : List Identifier) where
  -- the nodes as a history
  abbrev t : List Op
  t = node_ops p h

  -- an element has the same right origin
  right_same : (c : Identifier) → IsIn p h c → right_at h c ≡ right_at t c
  right_same c m = let s = same p h c w m in ap right_by s.held ∙ sym (ap right_by s.node_held)

  -- elements compare at a fork as the nodes do
  fork_alike : (c d : Identifier) → IsIn p h c → IsIn p h d → fork_before o h c d ≡ fork_before o t c d
  fork_alike c d m n = λ i. precedes (index_of_origin o (right_same c m i)) (index_of_origin o (right_same d n i)) c d

  -- elements compare as the nodes do
  before_alike : (a b : Identifier) → IsIn p h a → IsIn p h b → before_in o h a b ≡ before_in o t a b
  before_alike =
      before_agree o o h t (IsIn p h) fork_alike (λ a m. (same p h a w m).lefts_same) (λ a m. (same p h a w m).rights_same) (λ a m. lefts-in p h a w m) (λ a m. rights-in p h a w m)

-- tests that agree on the members count alike
pub count_alike : (q r : Identifier → Bool) (es : List Identifier) → All (λ e. q e ≡ r e) es → count_by q es ≡ count_by r es
count_alike q r [] f = refl
count_alike q r (e ∷ es) f =
    let here : q e ≡ r e = All-head (λ x. q x ≡ r x) e es f in
    let rest = count_alike q r es (All-tail (λ x. q x ≡ r x) e es f) in
    elim (cases_Bool (q e)) [
      | inl k ↦ count-yes q e es k ∙ ap suc rest ∙ sym (count-yes r e es (sym here ∙ k))
      | inr k ↦ count-no q e es k ∙ rest ∙ sym (count-no r e es (sym here ∙ k))
    ]

-- tests that agree on the members place alike
placed_alike : (q r : Identifier → Bool) (es : List Identifier) (x : Identifier) → All (λ e. q e ≡ r e) es → placed q es x ≡ placed r es x
placed_alike q r es x f = ap (λ n. take n es ++ x ∷ drop n es) (count_alike q r es f)

-- the order of a place is that of its nodes
order-nodes : (p : Place) (h : List Op) → Lawful h → order p h ≡ order catalogue (node_ops p h)
unfolding order
order-nodes p [] w = refl
order-nodes p (op ∷ older) w =
    let h : List Op = op ∷ older in
    let o : List Identifier = order p older in
    elim (cases_origin (element_of p op)) [
      | inl e ↦ order-none p op older e ∙ order-nodes p older w.1 ∙ sym (ap (order catalogue) (ap as_ops (nodes-none p op older e)))
      | inr f ↦
          let x : Identifier = f.0 in
          let t : node_ops p h ≡ bare x op ∷ node_ops p older = node_ops-some p op older x f.1 in
          order-some p op older x f.1
          ∙ placed_alike (λ e. before_in o h e x) (λ e. before_in o (bare x op ∷ node_ops p older) e x) o x
          (all_from_contains (λ e. before_in o h e x ≡ before_in o (bare x op ∷ node_ops p older) e x) o (λ e m.
          before_alike p h w o e x (IsIn-older p op older e (when_ready older op w.0) (All-contains (IsIn p older) o e (order-in p older w.1) m)) (IsIn-own p op older x f.1)
          ∙ ap (λ g. before_in o g e x) t))
          ∙ ap (λ z. placed (λ e. before_in z (bare x op ∷ node_ops p older) e x) z x) (order-nodes p older w.1)
          ∙ sym (ap (order catalogue) t ∙ order-some catalogue (bare x op) (node_ops p older) x refl)
    ]

-- an element has its node
element_node : (p : Place) (h : List Op) (x : Identifier) → Lawful h → IsIn p h x → has_node (nodes p h) x ≡ true
element_node p h x w m = sym (holds-nodes (nodes p h) x) ∙ ap is_some (same p h x w m).node_held

-- a node is an element's
node_element : (p : Place) (h : List Op) (x : Identifier) → Lawful h → has_node (nodes p h) x ≡ true → IsIn p h x
node_element p [] x w k = absurd (false≢true k)
node_element p (op ∷ older) x w k =
    let rd = when_ready older op w.0 in
    let further : has_node (nodes p older) x ≡ true → IsIn p (op ∷ older) x = λ j. IsIn-older p op older x rd (node_element p older x w.1 j) in
    elim (cases_origin (element_of p op)) [
      | inl e ↦ further (ap (λ ns. has_node ns x) (sym (nodes-none p op older e)) ∙ k)
      | inr f ↦
          elim (cases_id f.0 x) [
            | inl d ↦ IsIn-own p op older x (f.1 ∙ ap Some d)
            | inr n ↦
                let other : has_node (node_of f.0 op ∷ nodes p older) x ≡ has_node (nodes p older) x =
                ap (λ b. is_some (if b then Some (node_of f.0 op) else find_node (nodes p older) x)) (ne-id_eq f.0 x n) in
                further (sym other ∙ ap (λ ns. has_node ns x) (sym (nodes-some p op older f.0 f.1)) ∙ k)
          ]
    ]

-- the node of the newest element is new, and its origins are there
newest_new : (p : Place) (op : Op) (older : List Op) (x : Identifier) → Lawful (op ∷ older) → element_of p op ≡ Some x → IsNew (nodes p older) (node_of x op)
newest_new p op older x w e =
    let rd = when_ready older op w.0 in
    record {
      fresh = false_from_ne_true _ (λ k. true≢false (sym (element_own p op x e) ∙ held_not_own op older x rd (IsIn-held p older x (node_element p older x w.1 k))));
      left = has_origin-by (nodes p older) (left_of op) (λ l d. element_node p older l w.1 (left_in p op older x l rd e d));
      right = has_origin-by (nodes p older) (right_of op) (λ r d. element_node p older r w.1 (right_in p op older x r rd e d));
    }

-- each node of a place was new, and its origins were there, when it came
are_nodes : (p : Place) (h : List Op) → Lawful h → AreNodes (nodes p h)
are_nodes p [] w = tt
are_nodes p (op ∷ older) w =
    elim (cases_origin (element_of p op)) [
      | inl e ↦ subst AreNodes (sym (nodes-none p op older e)) (are_nodes p older w.1)
      | inr f ↦ subst AreNodes (sym (nodes-some p op older f.0 f.1)) (newest_new p op older f.0 w f.1, are_nodes p older w.1)
    ]

-- the order of a place is that of its nodes
pub record IsByNodes (p : Place) (h : List Op) : Type 0 where
  pub are_nodes : AreNodes (nodes p h)
  pub same_order : order p h ≡ node_order (nodes p h)
  pub same_members : (x : Identifier) → IsIn p h x ↔ (has_node (nodes p h) x ≡ true)

-- that holds of each place of every lawful history
pub order_by_nodes : (p : Place) (h : List Op) → Lawful h → IsByNodes p h
order_by_nodes p h w =
    record { are_nodes = are_nodes p h w; same_order = order-nodes p h w; same_members = λ x. (element_node p h x w, node_element p h x w) }

-- what a look-up among nodes finds has the identifier
found_id : (ns : List Node) (x : Identifier) (n : Node) → find_node ns x ≡ Some n → n.id ≡ x
found_id ns x n e = id_eq-true n.id x (holder_owns (as_ops ns) x (as_op n) (holder-nodes ns x ∙ ap op_of e))

-- a node is an element of the catalogue
node_in : (ns : List Node) (x : Identifier) → has_node ns x ≡ true → IsIn catalogue (as_ops ns) x
node_in ns x k =
    let from : (o : Option Node) → find_node ns x ≡ o → is_some o ≡ true
    → IsIn catalogue (as_ops ns) x = λ o. elim o as (λ o. find_node ns x ≡ o → is_some o ≡ true → IsIn catalogue (as_ops ns) x) [
      | None ↦ (λ e j. absurd (false≢true j))
      | Some n ↦ (λ e j. record { op = as_op n; held = holder-nodes ns x ∙ ap op_of e; place = ap Some (found_id ns x n e) })
    ] in
    from (find_node ns x) refl k

-- the order lists exactly the nodes
pub nodes_listed : (ns : List Node) → AreNodes ns → (x : Identifier) → (has_node ns x ≡ true) ↔ Contains (node_order ns) x
nodes_listed ns a x =
    let h : List Op = as_ops ns in (
      λ k. order-has catalogue h x (node_in ns x k),
      λ k. sym (holds-nodes ns x) ∙ IsIn-held catalogue h x (order-member catalogue h x (nodes-lawful ns a) k),
    )
