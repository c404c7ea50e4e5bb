-- A node that is no origin taken out: the others are nodes still.
use Rattle.origin_model.proofs.Words.{Identifier, List, None, Option, Some, [], ap, cases_id, eq-id_eq, false, filter, id_eq, if◌then◌else◌, inl, inr, is_some, ne-id_eq, not, refl}
use Rattle.origin_model.proofs.Words.{subst, sym, true, true≢false, ◌∙◌, ◌∷◌, ◌≡◌, ◌≢◌}
use Rattle.origin_model.specs.sides.Detached.{NoOrigin, without}
use Rattle.origin_model.specs.sides.Node.{AreNodes, IsNew, find_node, has_node, has_origin}
use Rattle.origin_model.specs.declared.operations.node.Node.{Node}

-- the node itself is left out
without-own : (x : Identifier) (n : Node) (ns : List Node) → n.id ≡ x → without x (n ∷ ns) ≡ without x ns
without-own x n ns e = let k : not (id_eq n.id x) ≡ false = ap not (eq-id_eq n.id x e) in rw (k, filter)

-- any other node stays
without-other : (x : Identifier) (n : Node) (ns : List Node) → n.id ≢ x → without x (n ∷ ns) ≡ n ∷ without x ns
without-other x n ns e = let k : not (id_eq n.id x) ≡ true = ap not (ne-id_eq n.id x e) in rw (k, filter)

-- a look-up past the first node
find-other : (n : Node) (ns : List Node) (v : Identifier) → n.id ≢ v → find_node (n ∷ ns) v ≡ find_node ns v
find-other n ns v e = ap (λ b. if b then Some n else find_node ns v) (ne-id_eq n.id v e)

-- a look-up of the first node
find-own : (n : Node) (ns : List Node) (v : Identifier) → n.id ≡ v → find_node (n ∷ ns) v ≡ Some n
find-own n ns v e = ap (λ b. if b then Some n else find_node ns v) (eq-id_eq n.id v e)

-- the node is gone
gone : (x : Identifier) (ns : List Node) → find_node (without x ns) x ≡ None
gone x [] = refl
gone x (n ∷ ns) =
    elim (cases_id n.id x) [
      | inl e ↦ ap (λ l. find_node l x) (without-own x n ns e) ∙ gone x ns
      | inr e ↦ ap (λ l. find_node l x) (without-other x n ns e) ∙ find-other n (without x ns) x e ∙ gone x ns
    ]

-- the others are there
others_there : (x : Identifier) (ns : List Node) (v : Identifier) → v ≢ x → find_node (without x ns) v ≡ find_node ns v
others_there x [] v d = refl
others_there x (n ∷ ns) v d =
    elim (cases_id n.id x) [
      | inl e ↦ ap (λ l. find_node l v) (without-own x n ns e) ∙ others_there x ns v d ∙ sym (find-other n ns v (λ k. d (sym k ∙ e)))
      | inr e ↦ ap (λ l. find_node l v) (without-other x n ns e) ∙ elim (cases_id n.id v) [
        | inl k ↦ find-own n (without x ns) v k ∙ sym (find-own n ns v k)
        | inr k ↦ find-other n (without x ns) v k ∙ others_there x ns v d ∙ sym (find-other n ns v k)
      ]
    ]

-- a look-up without the node finds the others
pub found_without : (ns : List Node) (x v : Identifier) → find_node (without x ns) v ≡ (if id_eq x v then None else find_node ns v)
found_without ns x v =
    elim (cases_id x v) [
      | inl e ↦ subst (λ z. find_node (without x ns) z ≡ None) e (gone x ns) ∙ ap (λ b. if b then None else find_node ns v) (sym (eq-id_eq x v e))
      | inr e ↦ others_there x ns v (λ k. e (sym k)) ∙ ap (λ b. if b then None else find_node ns v) (sym (ne-id_eq x v e))
    ]

-- what is no node need not be left out
pub absent_stays : (ns : List Node) (x : Identifier) → has_node ns x ≡ false → without x ns ≡ ns
absent_stays [] x k = refl
absent_stays (n ∷ ns) x k =
    elim (cases_id n.id x) [
      | inl e ↦ absurd (true≢false (sym (ap is_some (find-own n ns x e)) ∙ k))
      | inr e ↦ without-other x n ns e ∙ ap (λ t. n ∷ t) (absent_stays ns x (sym (ap is_some (find-other n ns x e)) ∙ k))
    ]

-- an origin other than the node is there still
origin_stays : (x : Identifier) (ns : List Node) (o : Option Identifier) → o ≢ Some x → has_origin ns o ≡ true → has_origin (without x ns) o ≡ true
origin_stays x ns None d k = refl
origin_stays x ns (Some v) d k = ap is_some (others_there x ns v (λ e. d (ap Some e))) ∙ k

-- the others are nodes still
pub nodes_stay : (x : Identifier) (ns : List Node) → AreNodes ns → NoOrigin x ns → AreNodes (without x ns)
nodes_stay x [] a f = tt
nodes_stay x (n ∷ ns) a f =
    elim (cases_id n.id x) [
      | inl e ↦ subst AreNodes (sym (without-own x n ns e)) (nodes_stay x ns a.1 f.2)
      | inr e ↦
          let new : IsNew (without x ns) n = record {
            fresh = ap is_some (others_there x ns n.id e) ∙ a.0.fresh;
            left = origin_stays x ns n.left f.0 a.0.left;
            right = origin_stays x ns n.right f.1 a.0.right;
          } in
          subst AreNodes (sym (without-other x n ns e)) (new, nodes_stay x ns a.1 f.2)
    ]
