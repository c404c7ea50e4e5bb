-- A store that has the nodes of a place in order has their keys, gives a new one its key, and has the longer list of
-- nodes once it is put in.
use Rattle.std.proofs.Common.{Bool, List, [], ap, false, inl, inr, refl, subst, suc, sym, true, ℕ, ◌∙◌, ◌∷◌, ◌≡◌, ◌≢◌, ◌↔◌, zero}
use Rattle.std.specs.Prelude.{Err, IfErr, None, Ok, OnErr, OnOk, Option, Result, Some, if◌then◌else◌, is_some, map, option_map}
use Rattle.std.specs.List.{All, Contains, insert}
use Rattle.std.proofs.lemmas.Bool.{cases_Bool, false≢true, true≢false}
use Rattle.std.proofs.lemmas.Bool.Decides.{same_from_decides}
use Rattle.std.proofs.lemmas.List.Elements.{All-contains, All-head, All-map, All-tail}
use Rattle.fugue_ids.specs.Identifiers.{Identifier, id_eq, origin_eq}
use Rattle.fugue_ids.specs.declared.key.Key.{Key}
use Rattle.fugue_ids.specs.declared.op.Op.{Op}
use Rattle.fugue_ids.proofs.IdentifierLemmas.{cases_id, eq-id_eq, ne-id_eq, origin_eq-true}
use Rattle.fugue_ids.proofs.ListLemmas.{all_from_contains, all_insert, contains_cases, contains_here, contains_none, contains_there}
use Rattle.fugue_ids.specs.Keys.{Keyed}
use Rattle.fugue_ids.specs.Runs.{id_after}
use Rattle.origin_model.specs.operations.History.{holder, left_of}
use Rattle.origin_model.specs.order.Order.{has_left, right_beside}
use Rattle.origin_model.specs.sides.Keys.{depth_above, forest_above, search_key_of, with_keys as keyed_in, keyed_order, new_key}
use Rattle.origin_model.specs.sides.Node.{IsNew, as_op, as_ops, find_node, has_node, has_origin, node_order}
use Rattle.origin_model.specs.declared.operations.node.Node.{Node}
use Rattle.origin_model.proofs.SharedLemmas.{holder-nodes, key-other, never_both, newest_key, nodes-lawful, nodes_listed, op_of}
use Rattle.run_store.specs.Cells.{cell_of, cell_hiding, cell_ids, cells_hiding, keyed_cells, origins_in_cell}
use Rattle.run_store.specs.NewCells.{cell_depth, depth_under, forest_beside, cell_forest as forest_held, has_right, new_cell, new_cell_key as stored_key, shares_right}
use Rattle.run_store.specs.declared.cell.Cell.{Cell}
use Rattle.run_store.proofs.CellLemmas.{cell-none, others-absent}
use Rattle.run_store.proofs.HideLemmas.{hiding-ids}
use Rattle.section_list.specs.SectionList.{IsInOrder, IsOfNode, newest_cell, node_of}
use Rattle.fugue_ids.proofs.OptionLemmas.{is_some-false}

-- the cells are the nodes in order
abbrev pub AreInOrder : List Node → List Cell → Type 0
AreInOrder ns cs = IsInOrder (record { nodes = ns; cells = cs })

-- the keys of cells that have those of their nodes
keyed-each : (ns : List Node) (cs : List Cell) → All (IsOfNode ns) cs → keyed_cells cs ≡ keyed_in (as_ops ns) (cell_ids cs)
keyed-each ns [] a = refl
keyed-each ns (c ∷ cs) a =
    let e = (All-head (IsOfNode ns) c cs a).key in
    let r = keyed-each ns cs (All-tail (IsOfNode ns) c cs a) in
    λ i. record { id = c.id; key = e i } ∷ r i

-- the store lists the nodes with their keys
pub keyed_kept : (ns : List Node) (cs : List Cell) → AreInOrder ns cs → keyed_cells cs ≡ keyed_order ns
keyed_kept ns cs k = keyed-each ns cs k.each ∙ ap (keyed_in (as_ops ns)) k.in_order

-- the first cell of an identifier
pub record Found (cs : List Cell) (x : Identifier) : Type 0 where
  pub cell : Cell
  pub found : cell_of cs x ≡ Some cell
  pub own : cell.id ≡ x
  pub member : Contains cs cell

-- a member has one
pub find_cell : (cs : List Cell) (x : Identifier) → Contains (cell_ids cs) x → Found cs x
find_cell [] x m = absurd (contains_none x m)
find_cell (c ∷ cs) x m =
    elim (cases_id c.id x) [
      | inl d ↦ record { cell = c; found = ap (λ b. if b then Some c else cell_of cs x) (eq-id_eq c.id x d); own = d; member = contains_here c cs }
      | inr n ↦
          let r = find_cell cs x (elim (contains_cases c.id (cell_ids cs) x m) [ inl d ↦ absurd (n d) | inr j ↦ j ]) in
          record { cell = r.cell; found = ap (λ b. if b then Some c else cell_of cs x) (ne-id_eq c.id x n) ∙ r.found; own = r.own; member = contains_there c cs r.cell r.member }
    ]

-- the origins of a cell
abbrev cell_origins : Cell → Option Identifier × Option Identifier
cell_origins c = (c.left, c.right)

-- the node of an identifier with these origins
abbrev pub node_with : Identifier → Option Identifier × Option Identifier → Node
node_with x o = record { id = x; left = o.0; right = o.1 }

-- a store with the nodes in order
module _ (ns : List Node) (cs : List Cell) (k : AreInOrder ns cs) where
  -- the nodes as a history
  abbrev h : List Op
  h = as_ops ns

  -- the cell of a node
  cell_at : (x : Identifier) → has_node ns x ≡ true → Found cs x
  cell_at x n = find_cell cs x (subst (λ t. Contains t x) (sym k.in_order) ((nodes_listed ns k.are_nodes x).0 n))

  -- has the node's origins
  held_at : (x : Identifier) (f : Found cs x) → holder h x ≡ Some (as_op (node_of f.cell))
  held_at x f =
      let o = All-contains (IsOfNode ns) cs f.cell k.each f.member in
      holder-nodes ns x ∙ ap op_of (ap (find_node ns) (sym f.own) ∙ o.node)

  -- and the node's key
  key_at : (x : Identifier) (f : Found cs x) → f.cell.key ≡ search_key_of h x
  key_at x f = (All-contains (IsOfNode ns) cs f.cell k.each f.member).key ∙ ap (search_key_of h) f.own

  -- a look-up among the nodes finds what the store has of its cell
  pub found_kept : (x : Identifier) → find_node ns x ≡ option_map (node_with x) (origins_in_cell cs x)
  found_kept x =
      elim (cases_Bool (has_node ns x)) [
        | inl t ↦
            let f = cell_at x t in
            let o = All-contains (IsOfNode ns) cs f.cell k.each f.member in
            ap (find_node ns) (sym f.own) ∙ o.node ∙ (λ i. Some (record { id = f.own i; left = f.cell.left; right = f.cell.right }))
            ∙ sym (ap (λ c. option_map (node_with x) (option_map cell_origins c)) f.found)
        | inr n ↦
            let none = others-absent x cs (λ m. true≢false (sym ((nodes_listed ns k.are_nodes x).1 (subst (λ t. Contains t x) k.in_order m)) ∙ n)) in
            is_some-false (find_node ns x) n ∙ sym (ap (λ c. option_map (node_with x) (option_map cell_origins c)) (cell-none x cs none))
      ]

  -- the store holds the cell of each node, and no other
  pub held_kept : (x : Identifier) (b : Bool) → (b ≡ true) ↔ Contains (cell_ids cs) x → b ≡ has_node ns x
  held_kept x b h =
      same_from_decides b (has_node ns x) h (subst (λ t. (has_node ns x ≡ true) ↔ Contains t x) (sym k.in_order) (nodes_listed ns k.are_nodes x))

  -- a new cell is deeper by one than its left origin
  depth_kept : (l : Option Identifier) → has_origin ns l ≡ true → depth_under cs l ≡ depth_above h l
  depth_kept None o = refl
  depth_kept (Some l) o = let f = cell_at l o in ap cell_depth f.found ∙ ap (λ (z : Key). z.depth) (key_at l f)

  -- what has this left origin
  left_kept : (r : Identifier) (l : Option Identifier) (f : Found cs r) → has_left h r l ≡ origin_eq f.cell.left l
  left_kept r l f = ap (λ (o : Option Op). elim o [ None ↦ false | Some op ↦ origin_eq (left_of op) l ]) (held_at r f)

  -- its forest is greater by one than that of its right origin, where that has the same left origin
  beside_kept : (l r : Option Identifier) → has_origin ns r ≡ true → forest_beside cs l r ≡ forest_above h (right_beside h l r)
  beside_kept l None o = refl
  beside_kept l (Some r) o =
      let f = cell_at r o in
      ap (λ c. forest_held c l) f.found
      ∙ elim (cases_Bool (origin_eq f.cell.left l)) [
        | inl t ↦ ap (λ b. if b then suc f.cell.key.forest else 0) t ∙ ap (λ (z : Key). suc z.forest) (key_at r f)
            ∙ ap (λ b. forest_above h (if b then Some r else None)) (sym (left_kept r l f ∙ t))
        | inr t ↦ ap (λ b. if b then suc f.cell.key.forest else 0) t ∙ ap (λ b. forest_above h (if b then Some r else None)) (sym (left_kept r l f ∙ t))
      ]

  -- where the left origin has the right origin itself, that has another left origin
  shared_apart : (l r : Option Identifier) → has_origin ns l ≡ true → has_origin ns r ≡ true → shares_right cs l r ≡ true → forest_above h (right_beside h l r) ≡ 0
  shared_apart None r p q s = absurd (false≢true s)
  shared_apart (Some l) None p q s = refl
  shared_apart (Some l) (Some r) p q s =
      let f = cell_at l p in
      let g = cell_at r q in
      let right : f.cell.right ≡ Some r = origin_eq-true f.cell.right (Some r) (sym (ap (λ c. has_right c (Some r)) f.found) ∙ s) in
      elim (cases_Bool (has_left h r (Some l))) [
        | inr t ↦ ap (λ b. forest_above h (if b then Some r else None)) t
        | inl t ↦
            let left : g.cell.left ≡ Some l = origin_eq-true g.cell.left (Some l) (sym (left_kept r (Some l) g) ∙ t) in
            absurd (never_both h l r (as_op (node_of f.cell)) (as_op (node_of g.cell)) (nodes-lawful ns k.are_nodes) (held_at l f) (held_at r g) right left)
      ]

  -- so the store gives a new cell its key
  pub new_key_kept : (l r : Option Identifier) → has_origin ns l ≡ true → has_origin ns r ≡ true → stored_key cs l r ≡ new_key h l r
  new_key_kept l r p q =
      let d = depth_kept l p in
      let f : (if shares_right cs l r then 0 else forest_beside cs l r) ≡ forest_above h (right_beside h l r) = elim (cases_Bool (shares_right cs l r)) [
        | inl s ↦ ap (λ b. if b then 0 else forest_beside cs l r) s ∙ sym (shared_apart l r p q s)
        | inr s ↦ ap (λ b. if b then 0 else forest_beside cs l r) s ∙ beside_kept l r q
      ] in
      λ i. record { depth = suc (d i); forest = f i }

  -- a new node
  module _ (n : Node) (new : IsNew ns n) where
    -- an older cell is not its
    apart : (c : Cell) → IsOfNode ns c → n.id ≢ c.id
    apart c o d = true≢false (sym (ap is_some (ap (find_node ns) d ∙ o.node)) ∙ new.fresh)

    -- older cells keep their nodes and keys
    stays : (c : Cell) → IsOfNode ns c → IsOfNode (n ∷ ns) c
    stays c o =
        let other : id_eq n.id c.id ≡ false = ne-id_eq n.id c.id (apart c o) in
        record {
          node = ap (λ b. if b then Some n else find_node ns c.id) other ∙ o.node;
          key = o.key ∙ sym (ap (λ (z : Keyed). z.key) (key-other (as_op n) h c.id other));
        }

    -- the newest cell has the newest node
    pub own_cell : (ch : ℕ) → IsOfNode (n ∷ ns) (newest_cell n ns ch)
    own_cell ch = record { node = ap (λ b. if b then Some n else find_node ns n.id) (eq-id_eq n.id n.id refl); key = refl }

    -- it is the one that the store makes
    pub is_newest : (ch : ℕ) → new_cell cs n.id n.left n.right ch ≡ newest_cell n ns ch
    is_newest ch =
        let key = new_key_kept n.left n.right new.left new.right ∙ sym (newest_key (as_op n) h n.id (eq-id_eq n.id n.id refl)) in
        λ i. record { id = n.id; left = n.left; right = n.right; ch = ch; hidden = false; key = key i }

    -- the identifiers with one more
    ids-insert : (cells : List Cell) (i : ℕ) (c : Cell) → cell_ids (insert cells i c) ≡ insert (cell_ids cells) i c.id
    ids-insert cells zero c = refl
    ids-insert [] (suc i) c = refl
    ids-insert (d ∷ cells) (suc i) c = ap (λ t. d.id ∷ t) (ids-insert cells i c)

    -- the cells with the newest one are in order
    pub one_more : (i ch : ℕ) → node_order (n ∷ ns) ≡ insert (cell_ids cs) i n.id → AreInOrder (n ∷ ns) (insert cs i (newest_cell n ns ch))
    one_more i ch e =
        let c : Cell = newest_cell n ns ch in
        record {
          are_nodes = (new, k.are_nodes);
          in_order = ids-insert cs i c ∙ sym e;
          each = all_insert (IsOfNode (n ∷ ns)) cs i c (own_cell ch) (all_from_contains (IsOfNode (n ∷ ns)) cs (λ d m. stays d (All-contains (IsOfNode ns) cs d k.each m)));
        }

    -- so are those with the one that the store makes
    pub keeps_more : (i ch : ℕ) → node_order (n ∷ ns) ≡ insert (cell_ids cs) i n.id → AreInOrder (n ∷ ns) (insert cs i (new_cell cs n.id n.left n.right ch))
    keeps_more i ch e = subst (λ c. AreInOrder (n ∷ ns) (insert cs i c)) (sym (is_newest ch)) (one_more i ch e)

  -- a hidden cell keeps its node
  hides : (x : Identifier) (c : Cell) → IsOfNode ns c → IsOfNode ns (cell_hiding x c)
  hides x c o = elim (id_eq c.id x) as (λ b. IsOfNode ns (if b then record c { hidden = true } else c)) [ true ↦ record { node = o.node; key = o.key } | false ↦ o ]

  -- so the store keeps the nodes
  pub keeps_hidden : (x : Identifier) → AreInOrder ns (map (cell_hiding x) cs)
  keeps_hidden x = record {
    are_nodes = k.are_nodes;
    in_order = hiding-ids 1 x cs ∙ k.in_order;
    each = All-map (IsOfNode ns) (cell_hiding x) cs (all_from_contains (λ c. IsOfNode ns (cell_hiding x c)) cs (λ c m. hides x c (All-contains (IsOfNode ns) cs c k.each m)));
  }

-- whether or not the cell was hidden, the store keeps the nodes
pub kept_hidden : {T E : Type 0} (ns : List Node) (cs after : List Cell) (x : Identifier) → AreInOrder ns cs → (r : Result T E) → OnOk r (after ≡ map (cell_hiding x) cs)
    → OnErr r (after ≡ cs) → AreInOrder ns after
kept_hidden ns cs after x k (Ok v) ok err = subst (AreInOrder ns) (sym ok) (keeps_hidden ns cs k x)
kept_hidden ns cs after x k (Err e) ok err = subst (AreInOrder ns) (sym err) k

-- some are hidden, and the store keeps the nodes
keeps_run_hidden : (n : ℕ) (x : Identifier) (ns : List Node) (cs : List Cell) → AreInOrder ns cs → AreInOrder ns (cells_hiding x n cs)
keeps_run_hidden zero x ns cs k = k
keeps_run_hidden (suc n) x ns cs k = keeps_run_hidden n (id_after x 1) ns (map (cell_hiding x) cs) (keeps_hidden ns cs k x)

-- however many were hidden, the store keeps the nodes
pub kept_run_hidden : {T E : Type 0} (ns : List Node) (cs after : List Cell) (x : Identifier) (n : ℕ) (done : E → ℕ) → AreInOrder ns cs → (r : Result T E)
    → OnOk r (after ≡ cells_hiding x n cs)
    → IfErr r (λ e. after ≡ cells_hiding x (done e) cs) → AreInOrder ns after
kept_run_hidden ns cs after x n done k (Ok v) ok err = subst (AreInOrder ns) (sym ok) (keeps_run_hidden n x ns cs k)
kept_run_hidden ns cs after x n done k (Err e) ok err = subst (AreInOrder ns) (sym err) (keeps_run_hidden (done e) x ns cs k)
