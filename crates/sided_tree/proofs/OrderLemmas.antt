-- An order that lists the nodes with their keys.
use Rattle.std.proofs.Common.{List, [], ap, refl, subst, sym, true, ◌∙◌, ◌∷◌, ◌≡◌}
use Rattle.std.specs.List.{Contains}
use Rattle.std.specs.Prelude.{Some, if◌then◌else◌, is_some, ◌↔◌}
use Rattle.fugue_ids.specs.Keys.{Keyed, ids}
use Rattle.fugue_ids.specs.declared.key.Gap.{Gap}
use Rattle.fugue_ids.specs.declared.key.Gap.TheVariants.{Alone}
use Rattle.fugue_ids.proofs.IdentifierLemmas.{eq-id_eq}
use Rattle.fugue_ids.proofs.ListLemmas.{contains_none}
use Rattle.origin_model.specs.order.Order.{order}
use Rattle.origin_model.specs.sides.Keys.{keyed_order}
use Rattle.origin_model.specs.sides.Node.{AreNodes, find_node, has_node, node_order}
use Rattle.origin_model.specs.sides.Slot.{IsBeside, IsPlace, at_gap}
use Rattle.origin_model.specs.declared.operations.node.Node.{Node}
use Rattle.origin_model.proofs.SharedLemmas.{keyed_ids, nodes_listed}

-- only without nodes is the order empty
none_ordered : (ns : List Node) → AreNodes ns → node_order ns ≡ [] → ns ≡ []
none_ordered [] a e = refl
none_ordered (n ∷ ns) a e =
    let there : has_node (n ∷ ns) n.id ≡ true = ap (λ b. is_some (if b then Some n else find_node ns n.id)) (eq-id_eq n.id n.id refl) in
    absurd (contains_none n.id (subst (λ l. Contains l n.id) e ((nodes_listed (n ∷ ns) a n.id).0 there)))

-- without nodes the order is empty
empty_order : node_order [] ≡ []
unfolding order
empty_order = refl

-- a gap of the new node n, in what is listed
pub record IsGapOf (n : Node) (ns : List Node) (es : List Keyed) (g : Gap) : Type 0 where
  pub place : node_order (n ∷ ns) ≡ at_gap g n.id (ids es)
  pub beside : IsBeside g (ids es)
  pub alone : (g ≡ Alone) ↔ (ns ≡ [])

-- it is the place of the node
pub gap_of : (n : Node) (ns : List Node) (es : List Keyed) (g : Gap) → AreNodes ns → es ≡ keyed_order ns → IsPlace g n.id (node_order ns) (node_order (n ∷ ns)) → IsGapOf n ns es g
gap_of n ns es g a e p =
    let list : node_order ns ≡ ids es = sym (ap ids e ∙ keyed_ids ns) in
    record {
      place = p.place ∙ ap (at_gap g n.id) list;
      beside = subst (IsBeside g) list p.beside;
      alone = (λ d. none_ordered ns a (p.alone.0 d), λ d. p.alone.1 (ap node_order d ∙ empty_order));
    }
