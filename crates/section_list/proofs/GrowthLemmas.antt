-- A place as readers see it, and one element more in it.
use Rattle.std.proofs.Common.{List, [], ap, append_assoc, arith, drop, length, length-append, refl, subst, suc, sym, take, ℕ, ◌++◌, ◌+◌, ◌<◌, ◌∙◌, ◌∷◌, ◌≡◌, ◌≢◌, ◌≤◌, ◌↔◌, false}
use Rattle.std.proofs.Common.{true}
use Rattle.std.specs.Prelude.{Option, Some, None, if◌then◌else◌, is_some}
use Rattle.std.specs.List.{Contains, insert}
use Rattle.std.proofs.lemmas.Bool.{true≢false}
use Rattle.std.proofs.lemmas.List.{length-map, map-append}
use Rattle.std.proofs.lemmas.List.Elements.{All-contains, All-nil, Contains-append_left}
use Rattle.fugue_ids.specs.Identifiers.{Identifier, id_eq, origin_eq}
use Rattle.fugue_ids.specs.Listed.{index_of}
use Rattle.fugue_ids.specs.Runs.{id_after, next_id}
use Rattle.fugue_ids.specs.declared.key.Key.{Key}
use Rattle.fugue_ids.proofs.IdentifierLemmas.{eq-id_eq, index_of-insert, ne-id_eq, origin_eq-refl}
use Rattle.fugue_ids.proofs.ListLemmas.{contains_map, contains_middle, contains_none}
use Rattle.fugue_ids.proofs.RunLemmas.{none_after, one_after}
use Rattle.fugue_ids.specs.declared.key.Gap.{Gap}
use Rattle.fugue_ids.specs.declared.key.Gap.TheVariants.{Alone}
use Rattle.origin_model.specs.order.Order.{order}
use Rattle.origin_model.specs.sides.KeyedGap.{gap_index}
use Rattle.origin_model.specs.sides.Keys.{search_key_of}
use Rattle.origin_model.specs.sides.Node.{IsNew, as_op, as_ops, find_node, has_node, has_origin, node_order}
use Rattle.origin_model.specs.sides.Slot.{IsBeside, at_gap}
use Rattle.origin_model.specs.declared.operations.node.Node.{Node}
use Rattle.origin_model.specs.declared.operations.Place.TheVariants.{Catalogue as catalogue}
use Rattle.origin_model.proofs.SharedLemmas.{gap_at, gap_within, nodes-lawful, nodes_listed}
use Rattle.origin_model.proofs.edits.LandsBehindLeafLemmas.{lands_behind_newest}
use Rattle.run_store.specs.Cells.{cell_ids}
use Rattle.run_store.specs.Growth.{AreFresh, inserted_at}
use Rattle.run_store.specs.Heads.{cell_with_letter, next_head, typed_cells}
use Rattle.run_store.specs.NewCells.{cell_depth, forest_beside, has_right, new_cell, new_cell_key, new_cells, new_head, shares_right}
use Rattle.run_store.specs.Stored.{IsAloneWhereEmpty}
use Rattle.run_store.specs.declared.cell.Cell.{Cell}
use Rattle.run_store.specs.declared.cell.Head.{Head}
use Rattle.run_store.proofs.CellLemmas.{inserted-at}
use Rattle.section_list.specs.SectionList.{AreNoNodes, IsOfNode, Listing, node_of, with_element, with_elements}
use Rattle.sided_tree.specs.Rows.{next_node, run_nodes}
use Rattle.section_list.proofs.KeptLemmas.{AreInOrder, find_cell, is_newest, keeps_more}

-- the nodes and cells of a place
abbrev pub seen : List Node → List Cell → Listing
seen ns cs = record { nodes = ns; cells = cs }

-- no nodes have no order
none_in_order : node_order [] ≡ []
unfolding order
none_in_order = refl

-- cells without identifiers are none
no_cells : (cs : List Cell) → cell_ids cs ≡ [] → cs ≡ []
no_cells [] e = refl
no_cells (c ∷ cs) e = cc

-- a store with the nodes in order
module _ (ns : List Node) (cs : List Cell) (k : AreInOrder ns cs) where
  -- a node has a cell
  pub cell_held : (x : Identifier) → has_node ns x ≡ true → Contains (cell_ids cs) x
  cell_held x n = subst (λ t. Contains t x) (sym k.in_order) ((nodes_listed ns k.are_nodes x).0 n)

  -- it is empty where there are no nodes
  alone_kept : (gap : Gap) → (gap ≡ Alone) ↔ (ns ≡ []) → IsAloneWhereEmpty gap cs
  alone_kept gap a = (
    λ g. no_cells cs (k.in_order ∙ ap node_order (a.0 g) ∙ none_in_order),
    λ e. a.1 (no_nodes ns (λ x n. contains_none x (subst (λ t. Contains (cell_ids t) x) e (cell_held x n)))),
  )
    where
      no_nodes : (ms : List Node) → ((x : Identifier) → has_node ms x ≡ true → ⊥) → ms ≡ []
      no_nodes [] f = refl
      no_nodes (m ∷ ms) f = absurd (f m.id (own m ms))
        where
          own : (m : Node) (ms : List Node) → has_node (m ∷ ms) m.id ≡ true
          own m ms = ap (λ b. is_some (if b then Some m else find_node ms m.id)) (eq-id_eq m.id m.id refl)

-- a new node, and the gap into which it goes, of a store
pub record Joins (ns : List Node) (cs : List Cell) (n : Node) (gap : Gap) : Type 0 where
  pub kept : AreInOrder ns cs
  pub new : IsNew ns n
  pub place : node_order (n ∷ ns) ≡ at_gap gap n.id (cell_ids cs)
  pub beside : IsBeside gap (cell_ids cs)
  pub alone : IsAloneWhereEmpty gap cs

-- the gap was found in what readers see
pub joins : (ns : List Node) (cs : List Cell) → AreInOrder ns cs → (now : Listing) → seen ns cs ≡ now → (n : Node) → IsNew now.nodes n
    → (gap : Gap) → node_order (n ∷ now.nodes) ≡ at_gap gap n.id (cell_ids now.cells) → IsBeside gap (cell_ids now.cells) → (gap ≡ Alone) ↔ (now.nodes ≡ []) → Joins ns cs n gap
joins ns cs k now see n new gap place beside alone =
    let same : cell_ids now.cells ≡ cell_ids cs = ap (λ (s : Listing). cell_ids s.cells) (sym see) in
    record {
      kept = k;
      new = subst (λ (s : Listing). IsNew s.nodes n) (sym see) new;
      place = ap (λ (s : Listing). node_order (n ∷ s.nodes)) see ∙ place ∙ ap (at_gap gap n.id) same;
      beside = subst (IsBeside gap) same beside;
      alone = alone_kept ns cs k gap (subst (λ (s : Listing). (gap ≡ Alone) ↔ (s.nodes ≡ [])) (sym see) alone);
    }

-- a new node of a store, and its place in the order
module _ (ns : List Node) (cs : List Cell) (k : AreInOrder ns cs) (n : Node) (new : IsNew ns n) (index : ℕ) (within : index ≤ length (cell_ids cs))
    (placed : node_order (n ∷ ns) ≡ insert (cell_ids cs) index n.id) where
  -- the node has no cell yet
  unheld : Contains (cell_ids cs) n.id → ⊥
  unheld m = true≢false (sym ((nodes_listed ns k.are_nodes n.id).1 (subst (λ t. Contains t n.id) k.in_order m)) ∙ new.fresh)

  -- the longer place
  one_grown : (ch : ℕ) → seen (n ∷ ns) (insert cs index (new_cell cs n.id n.left n.right ch)) ≡ with_element n ch (seen ns cs)
  one_grown ch =
      let here : index_of (node_order (n ∷ ns)) n.id ≡ index = ap (λ xs. index_of xs n.id) placed ∙ index_of-insert (cell_ids cs) index n.id within unheld in
      λ i. record { nodes = n ∷ ns; cells = insert cs (sym here i) (is_newest ns cs k n new ch i) }

-- an origin of an older node is there still
origin_stays : (ns : List Node) (n : Node) (o : Option Identifier) → has_origin ns o ≡ true → has_origin (n ∷ ns) o ≡ true
origin_stays ns n None k = refl
origin_stays ns n (Some x) k = elim (id_eq n.id x) as (λ b. is_some (if b then Some n else find_node ns x) ≡ true) [ true ↦ refl | false ↦ k ]

-- what a place of nodes and cells is once others have come to it
abbrev Grown : List Node → List Cell → Listing → Type 0
Grown ns cs s = AreInOrder ns cs × (seen ns cs ≡ s)

-- the cell of the newest node, the last one of a part, is what the next one follows
module _ (older : List Node) (n : Node) (front : List Cell) (c : Cell) (back : List Cell) (own : c.id ≡ n.id) (k : AreInOrder (n ∷ older) ((front ++ c ∷ []) ++ back)) where
  abbrev ns : List Node
  ns = n ∷ older

  abbrev cs : List Cell
  cs = (front ++ c ∷ []) ++ back

  c_in : Contains cs c
  c_in = Contains-append_left (front ++ c ∷ []) back c (contains_middle front c [])

  n_held : has_node ns n.id ≡ true
  n_held = ap (λ b. is_some (if b then Some n else find_node older n.id)) (eq-id_eq n.id n.id refl)

  -- the next node is new
  next_new : has_node ns (next_id n.id) ≡ false → IsNew ns (next_node n)
  next_new fresh = record { fresh = fresh; left = n_held; right = origin_stays older n n.right k.are_nodes.0.right }

  -- it stands directly after
  ids-are : cell_ids cs ≡ cell_ids front ++ n.id ∷ cell_ids back
  ids-are =
      map-append (λ (z : Cell). z.id) (front ++ c ∷ []) back ∙ ap (λ ids. ids ++ cell_ids back) (map-append (λ (z : Cell). z.id) front (c ∷ []))
      ∙ append_assoc (cell_ids front) (c.id ∷ []) (cell_ids back) ∙ ap (λ x. cell_ids front ++ x ∷ cell_ids back) own

  next_order : has_node ns (next_id n.id) ≡ false → node_order (next_node n ∷ ns) ≡ insert (cell_ids cs) (length (front ++ c ∷ [])) (next_id n.id)
  next_order fresh =
      let ids = cell_ids (front ++ c ∷ []) in
      let same : ids ≡ cell_ids front ++ n.id ∷ [] = map-append (λ (z : Cell). z.id) front (c ∷ []) ∙ ap (λ x. cell_ids front ++ x ∷ []) own in
      lands_behind_newest catalogue (as_op (next_node n)) (as_op n) (as_ops older) (next_id n.id) n.id (cell_ids front) (cell_ids back)
      (nodes-lawful (next_node n ∷ ns) (next_new fresh, k.are_nodes))
      refl refl refl (sym k.in_order ∙ ids-are)
      ∙ sym (append_assoc (cell_ids front) (n.id ∷ []) (next_id n.id ∷ cell_ids back))
      ∙ ap (λ xs. xs ++ next_id n.id ∷ cell_ids back) (sym same)
      ∙ sym (insert_at_end ids (cell_ids back) (next_id n.id))
      ∙ (λ i. insert (sym (map-append (λ (z : Cell). z.id) (front ++ c ∷ []) back) i) (length-map (front ++ c ∷ []) (λ (z : Cell). z.id) i) (next_id n.id))
    where
      insert_at_end : (xs ys : List Identifier) (x : Identifier) → insert (xs ++ ys) (length xs) x ≡ xs ++ x ∷ ys
      insert_at_end [] ys x = refl
      insert_at_end (y ∷ xs) ys x = ap (λ zs. y ∷ zs) (insert_at_end xs ys x)

  -- and its key is that of a letter after the newest one
  next_key : new_cell_key cs (Some n.id) n.right ≡ record { depth = suc c.key.depth; forest = 0 }
  next_key =
      let f = find_cell cs n.id (subst (λ x. Contains (cell_ids cs) x) own (contains_map (λ (z : Cell). z.id) cs c c_in)) in
      let its = All-contains (IsOfNode ns) cs f.cell k.each f.member in
      let mine = All-contains (IsOfNode ns) cs c k.each c_in in
      let both : Some n ≡ Some (node_of f.cell) = sym (ap (λ b. if b then Some n else find_node older f.cell.id) (eq-id_eq n.id f.cell.id (sym f.own))) ∙ its.node in
      let same : n ≡ node_of f.cell = cc in
      let key : f.cell.key ≡ c.key = its.key ∙ ap (search_key_of (as_ops ns)) (f.own ∙ sym own) ∙ sym mine.key in
      let shares : shares_right cs (Some n.id) n.right ≡ true =
      ap (λ o. has_right o n.right) f.found ∙ ap (λ (m : Node). origin_eq m.right n.right) (sym same) ∙ origin_eq-refl n.right in
      λ i. record {
        depth = suc ((ap cell_depth f.found ∙ ap (λ (z : Key). z.depth) key) i);
        forest = ap (λ b. if b then 0 else forest_beside cs (Some n.id) n.right) shares i;
      }

-- the letters after the newest one go in one after another
rest_grown : (older : List Node) (n : Node) (front : List Cell) (h : Head) (ch : ℕ) (back : List Cell) → h.id ≡ n.id → h.right ≡ n.right → h.hidden ≡ false
    → AreInOrder (n ∷ older) ((front ++ cell_with_letter h ch ∷ []) ++ back) → (text : List ℕ) → AreNoNodes (n ∷ older) (next_id n.id) (length text)
    → Grown (run_nodes (next_node n) (length text) (n ∷ older)) ((front ++ cell_with_letter h ch ∷ []) ++ (typed_cells (next_head h) text ++ back))
    (with_elements (next_node n) text (seen (n ∷ older) ((front ++ cell_with_letter h ch ∷ []) ++ back)))
rest_grown older n front h ch back own right shown k [] fresh = (k, refl)
rest_grown older n front h ch back own right shown k (next ∷ text) fresh =
    let c : Cell = cell_with_letter h ch in
    let ns : List Node = n ∷ older in
    let one : List Cell = front ++ c ∷ [] in
    let cs : List Cell = one ++ back in
    let first : has_node ns (next_id n.id) ≡ false = ap (has_node ns) (sym (none_after (next_id n.id))) ∙ fresh 0 (omega arith) in
    let new : IsNew ns (next_node n) = next_new older n front c back own k first in
    let order = next_order older n front c back own k first in
    let within : length one ≤ length (cell_ids cs) = omega (arith, length-append one back, length-map cs (λ (z : Cell). z.id)) in
    let key = next_key older n front c back own k in
    let cell : new_cell cs (next_id n.id) (Some n.id) n.right next ≡ cell_with_letter (next_head h) next =
    λ i. record { id = next_id (sym own i); left = Some (sym own i); right = sym right i; ch = next; hidden = sym shown i; key = key i } in
    let cells : insert cs (length one) (new_cell cs (next_id n.id) (Some n.id) n.right next) ≡ (one ++ cell_with_letter (next_head h) next ∷ []) ++ back =
    ap (insert cs (length one)) cell ∙ inserted-at one (cell_with_letter (next_head h) next ∷ []) back ∙ sym (append_assoc one (cell_with_letter (next_head h) next ∷ []) back) in
    let kept : AreInOrder (next_node n ∷ ns) ((one ++ cell_with_letter (next_head h) next ∷ []) ++ back) =
    subst (AreInOrder (next_node n ∷ ns)) cells (keeps_more ns cs k (next_node n) new (length one) next order) in
    let is : seen (next_node n ∷ ns) ((one ++ cell_with_letter (next_head h) next ∷ []) ++ back) ≡ with_element (next_node n) next (seen ns cs) =
    ap (seen (next_node n ∷ ns)) (sym cells) ∙ one_grown ns cs k (next_node n) new (length one) within order next in
    let more : AreNoNodes (next_node n ∷ ns) (next_id (next_id n.id)) (length text) = λ j less.
    let up : next_id n.id ≢ id_after (next_id (next_id n.id)) j = λ e. let c : n.id.counter + 1 ≡ n.id.counter + 1 + 1 + j =
    ap (λ (x : Identifier). x.counter) e in absurd (omega (arith, c)) in
    ap (λ b. is_some (if b then Some (next_node n) else find_node ns (id_after (next_id (next_id n.id)) j))) (ne-id_eq (next_id n.id) (id_after (next_id (next_id n.id)) j) up)
    ∙ ap (has_node ns) (one_after (next_id n.id) j) ∙ fresh (suc j) (omega (arith, less)) in
    let grown = rest_grown ns (next_node n) one (next_head h) next back (ap next_id own) right shown kept text more in
    let same : (one ++ cell_with_letter (next_head h) next ∷ []) ++ (typed_cells (next_head (next_head h)) text ++ back) ≡ one
    ++ (typed_cells (next_head h) (next ∷ text) ++ back) =
    append_assoc one (cell_with_letter (next_head h) next ∷ []) (typed_cells (next_head (next_head h)) text ++ back) in (
      subst (AreInOrder (run_nodes (next_node (next_node n)) (length text) (next_node n ∷ ns))) same grown.0,
      ap (seen (run_nodes (next_node (next_node n)) (length text) (next_node n ∷ ns))) (sym same) ∙ grown.1 ∙ ap (with_elements (next_node (next_node n)) text) is,
    )

module _ (ns : List Node) (cs : List Cell) (n : Node) (gap : Gap) (j : Joins ns cs n gap) where
  -- how many cells stand before it
  abbrev index : ℕ
  index = gap_index gap (cell_ids cs)

  placed : node_order (n ∷ ns) ≡ insert (cell_ids cs) index n.id
  placed = j.place ∙ gap_at gap n.id (cell_ids cs) j.beside

  -- cells with identifiers that no node has are fresh
  pub are_fresh : (count : ℕ) → AreNoNodes ns n.id count → AreFresh cs n.id count
  are_fresh count free i less m =
      true≢false (sym ((nodes_listed ns j.kept.are_nodes (id_after n.id i)).1 (subst (λ t. Contains t (id_after n.id i)) j.kept.in_order m)) ∙ free i less)

  -- the longer place
  module _ (longer : List Node) (more : List Cell) (text : List ℕ) (some : 0 < length text) (free : AreNoNodes ns n.id (length text)) (l : longer ≡ run_nodes n (length text) ns)
      (m : more ≡ inserted_at index (new_cells cs n.id n.left n.right text) cs) where
    all_grown : (letters : List ℕ) → 0 < length letters → AreNoNodes ns n.id (length letters)
        → Grown (run_nodes n (length letters) ns) (inserted_at index (new_cells cs n.id n.left n.right letters) cs) (with_elements n letters (seen ns cs))
    all_grown [] none unheld = absurd (omega (arith, none))
    all_grown (ch ∷ rest) _ unheld =
        let h : Head = new_head cs n.id n.left n.right in
        let front : List Cell = take index cs in
        let back : List Cell = drop index cs in
        let c : Cell = cell_with_letter h ch in
        let same : (front ++ c ∷ []) ++ back ≡ insert cs index c = append_assoc front (c ∷ []) back in
        let within : index ≤ length (cell_ids cs) = gap_within gap (cell_ids cs) j.beside in
        let kept : AreInOrder (n ∷ ns) ((front ++ c ∷ []) ++ back) = subst (AreInOrder (n ∷ ns)) (sym same) (keeps_more ns cs j.kept n j.new index ch placed) in
        let is : seen (n ∷ ns) ((front ++ c ∷ []) ++ back) ≡ with_element n ch (seen ns cs) = ap (seen (n ∷ ns)) same ∙ one_grown ns cs j.kept n j.new index within placed ch in
        let behind : AreNoNodes (n ∷ ns) (next_id n.id) (length rest) = λ i less.
        let up : n.id ≢ id_after (next_id n.id) i = λ e. let k : n.id.counter ≡ n.id.counter + 1 + i = ap (λ (x : Identifier). x.counter) e in absurd (omega (arith, k)) in
        ap (λ b. is_some (if b then Some n else find_node ns (id_after (next_id n.id) i))) (ne-id_eq n.id (id_after (next_id n.id) i) up)
        ∙ ap (has_node ns) (one_after n.id i) ∙ unheld (suc i) (omega (arith, less)) in
        let grown = rest_grown ns n front h ch back refl refl refl kept rest behind in
        let all : (front ++ c ∷ []) ++ (typed_cells (next_head h) rest ++ back) ≡ inserted_at index (typed_cells h (ch ∷ rest)) cs =
        append_assoc front (c ∷ []) (typed_cells (next_head h) rest ++ back) in (
          subst (AreInOrder (run_nodes (next_node n) (length rest) (n ∷ ns))) all grown.0,
          ap (seen (run_nodes (next_node n) (length rest) (n ∷ ns))) (sym all) ∙ grown.1 ∙ ap (with_elements (next_node n) rest) is,
        )

    pub grown_kept : AreInOrder longer more
    grown_kept = subst (λ t. AreInOrder t more) (sym l) (subst (AreInOrder (run_nodes n (length text) ns)) (sym m) (all_grown text some free).0)

    pub is_grown : seen longer more ≡ with_elements n text (seen ns cs)
    is_grown = (λ i. record { nodes = l i; cells = m i }) ∙ (all_grown text some free).1

-- a store without cells keeps no nodes
pub nothing_kept : (ns : List Node) (cs : List Cell) → ns ≡ [] → cs ≡ [] → AreInOrder ns cs
nothing_kept ms cs e f =
    subst (λ t. AreInOrder t cs) (sym e) (subst (AreInOrder []) (sym f) (record { are_nodes = tt; in_order = sym none_in_order; each = All-nil (IsOfNode []) }))
