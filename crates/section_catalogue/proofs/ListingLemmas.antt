-- A place that lists a history's elements, as one more comes or one is hidden.
use Rattle.std.proofs.Common.{List, ap, false, refl, subst, sym, true, ℕ, ◌∙◌, ◌∷◌, ◌≡◌, ◌≢◌}
use Rattle.std.specs.Prelude.{None, Option, Some, if◌then◌else◌, is_some}
use Rattle.std.specs.List.{Contains, insert}
use Rattle.std.proofs.lemmas.Bool.{true≢false}
use Rattle.std.proofs.lemmas.List.Elements.{All-contains, All-map}
use Rattle.std.proofs.lemmas.List.Sums.{count_by-le-length}
use Rattle.fugue_ids.specs.Identifiers.{Identifier, id_eq}
use Rattle.fugue_ids.specs.Listed.{index_of}
use Rattle.fugue_ids.proofs.IdentifierLemmas.{index_of-insert}
use Rattle.fugue_ids.proofs.ListLemmas.{all_from_contains, all_insert, contains_map}
use Rattle.fugue_ids.specs.declared.op.Op.{Op}
use Rattle.origin_model.specs.order.Laws.{IsIn}
use Rattle.origin_model.specs.sides.Node.{AreNodes, IsNew, find_node, has_node, has_origin, node_order, nodes, with_node}
use Rattle.origin_model.specs.operations.History.{element_of, holder, holds, left_of, right_of}
use Rattle.origin_model.specs.order.Order.{before_in, order}
use Rattle.origin_model.specs.operations.Verdict.{Lawful}
use Rattle.origin_model.specs.declared.operations.node.Node.{Node}
use Rattle.origin_model.specs.declared.operations.Place.{Place}
use Rattle.origin_model.proofs.SharedLemmas.{order-some, order_by_nodes, order_total, same_nodes_same_order}
use Rattle.run_store.specs.Cells.{cell_hiding, cell_ids}
use Rattle.run_store.specs.declared.cell.Cell.{Cell}
use Rattle.section_list.specs.SectionList.{IsInOrder, Listing, newest_cell, with_element, with_hidden}
use Rattle.section_list.proofs.KeptLemmas.{keeps_hidden, one_more}
use Rattle.section_catalogue.specs.Place.{IsCellIn, Lists, place_held}
use Rattle.section_catalogue.proofs.HolderLemmas.{in_place}
use Rattle.std.specs.Prelude.{count_by}

-- nodes that are found alike
module _ (ns ms : List Node) (f : (x : Identifier) → find_node ns x ≡ find_node ms x) where
  pub node_alike : (x : Identifier) → has_node ns x ≡ has_node ms x
  node_alike x = ap is_some (f x)

  pub origin_alike : (o : Option Identifier) → has_origin ns o ≡ has_origin ms o
  origin_alike None = refl
  origin_alike (Some x) = ap is_some (f x)

  pub new_alike : (n : Node) → IsNew ms n → IsNew ns n
  new_alike n k = record { fresh = node_alike n.id ∙ k.fresh; left = origin_alike n.left ∙ k.left; right = origin_alike n.right ∙ k.right }

-- an operation's node
abbrev pub node_of : Op → Identifier → Node
node_of op x = record { id = x; left = left_of op; right = right_of op }

-- the nodes with the newest one
nodes-own : (p : Place) (op : Op) (h : List Op) (x : Identifier) → element_of p op ≡ Some x → nodes p (op ∷ h) ≡ node_of op x ∷ nodes p h
nodes-own p op h x e = ap (λ o. with_node o op (nodes p h)) e

-- the node of an operation is new where its place is listed
pub is_new : (p : Place) (op : Op) (h : List Op) (x : Identifier) (s : Listing) → Lawful (op ∷ h) → element_of p op ≡ Some x → Lists p h s → IsNew s.nodes (node_of op x)
is_new p op h x s w e l =
    new_alike s.nodes (nodes p h) l.same_nodes (node_of op x) ((subst AreNodes (nodes-own p op h x e) (order_by_nodes p (op ∷ h) w).are_nodes).0)

-- an element of the place is held
held_in : (p : Place) (h : List Op) (x : Identifier) → IsIn p h x → holds h x ≡ true
held_in p h x m = ap is_some m.held

-- the element of a cell is in the order
is_listed : (p : Place) (h : List Op) (s : Listing) → Lists p h s → (c : Cell) → Contains s.cells c → Contains (order p h) c.id
is_listed p h s l c m = subst (λ xs. Contains xs c.id) l.listed (contains_map (λ (z : Cell). z.id) s.cells c m)

-- one element more
pub grown : (p : Place) (op : Op) (h : List Op) (x : Identifier) (ch : ℕ) (s : Listing)
    → Lawful (op ∷ h) → element_of p op ≡ Some x → Lists p h s → holds h x ≡ false
    → IsCellIn (op ∷ h) (newest_cell (node_of op x) s.nodes ch) → ((c : Cell) → c.id ≢ x → IsCellIn h c → IsCellIn (op ∷ h) c)
    → Lists p (op ∷ h) (with_element (node_of op x) ch s)
grown p op h x ch s w e l fresh here others =
    let n : Node = node_of op x in
    let b = order_by_nodes p (op ∷ h) w in
    let now : nodes p (op ∷ h) ≡ n ∷ nodes p h = nodes-own p op h x e in
    let new : IsNew s.nodes n = is_new p op h x s w e l in
    let alike : (y : Identifier) → find_node (n ∷ s.nodes) y ≡ find_node (nodes p (op ∷ h)) y =
    λ y. ap (λ o. if id_eq n.id y then Some n else o) (l.same_nodes y) ∙ ap (λ ns. find_node ns y) (sym now) in
    let old : List Identifier = order p h in
    let at : ℕ = count_by (λ z. before_in old (op ∷ h) z x) old in
    let is : order p (op ∷ h) ≡ insert old at x = order-some p op h x e in
    let absent : Contains old x → ⊥ = λ m. true≢false (sym (held_in p h x (((order_total p h w.1).lists x).1 m)) ∙ fresh) in
    let ordered : node_order (n ∷ s.nodes) ≡ order p (op ∷ h) =
    same_nodes_same_order (n ∷ s.nodes) (nodes p (op ∷ h)) (new, l.in_order.are_nodes) b.are_nodes alike ∙ sym b.same_order in
    let i : ℕ = index_of (node_order (n ∷ s.nodes)) x in
    let index : i ≡ at = ap (λ xs. index_of xs x) (ordered ∙ is) ∙ index_of-insert old at x (count_by-le-length (λ z. before_in old (op ∷ h) z x) old) absent in
    let placed : node_order (n ∷ s.nodes) ≡ insert (cell_ids s.cells) i x = ordered ∙ is ∙ (λ j. insert (sym l.listed j) (sym index j) x) in
    let kept : IsInOrder (with_element n ch s) = one_more s.nodes s.cells l.in_order n new i ch placed in
    record {
      in_order = kept;
      same_nodes = alike;
      listed = kept.in_order ∙ ordered;
      each = all_insert (IsCellIn (op ∷ h)) s.cells i (newest_cell n s.nodes ch) here
          (all_from_contains (IsCellIn (op ∷ h)) s.cells
          (λ c m. others c (λ d. absent (subst (Contains old) d (is_listed p h s l c m))) (All-contains (IsCellIn h) s.cells c l.each m)));
    }

-- a place in which nothing happens: x is not there
pub unmoved : (q : Place) (h now : List Op) (x : Identifier) (s : Listing) → Lawful h → Lists q h s → place_held (holder h x) ≢ Some q
    → nodes q now ≡ nodes q h → order q now ≡ order q h → ((c : Cell) → c.id ≢ x → IsCellIn h c → IsCellIn now c) → Lists q now s
unmoved q h now x s w l apart en eo others =
    let away : (c : Cell) → Contains s.cells c → c.id ≢ x = λ c m d.
    apart (subst (λ z. place_held (holder h z) ≡ Some q) d (in_place q h c.id (((order_total q h w).lists c.id).1 (is_listed q h s l c m)))) in
    record {
      in_order = l.in_order;
      same_nodes = λ y. l.same_nodes y ∙ ap (λ ns. find_node ns y) (sym en);
      listed = l.listed ∙ sym eo;
      each = all_from_contains (IsCellIn now) s.cells (λ c m. others c (away c m) (All-contains (IsCellIn h) s.cells c l.each m));
    }

-- one element hidden
pub hidden : (p : Place) (h now : List Op) (x : Identifier) (s : Listing) → Lists p h s → nodes p now ≡ nodes p h → order p now ≡ order p h
    → ((c : Cell) → IsCellIn h c → IsCellIn now (cell_hiding x c)) → Lists p now (with_hidden x s)
hidden p h now x s l en eo hides =
    let kept : IsInOrder (with_hidden x s) = keeps_hidden s.nodes s.cells l.in_order x in
    record {
      in_order = kept;
      same_nodes = λ y. l.same_nodes y ∙ ap (λ ns. find_node ns y) (sym en);
      listed = kept.in_order ∙ sym l.in_order.in_order ∙ l.listed ∙ sym eo;
      each = All-map (IsCellIn now) (cell_hiding x) s.cells
          (all_from_contains (λ c. IsCellIn now (cell_hiding x c)) s.cells (λ c m. hides c (All-contains (IsCellIn h) s.cells c l.each m)));
    }
