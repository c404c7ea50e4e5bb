-- What is lifted grows by what each operation adds.
use Rattle.std.proofs.Common.{Bool, List, [], ap, append_assoc, arith, drop, false, get_or, inl, inr, length, map, not, refl, reverse, subst, sym, take, ℕ, ◌&&◌, ◌+◌, ◌++◌, ◌<◌}
use Rattle.std.proofs.Common.{◌∙◌, ◌∷◌, ◌≡◌, ◌≤◌}
use Rattle.std.specs.Prelude.{None, Option, Some, if◌then◌else◌, is_some, option_map, option_to_list}
use Rattle.std.specs.List.{All, insert}
use Rattle.std.proofs.lemmas.Bool.{cases_Bool, true≢false}
use Rattle.std.proofs.lemmas.List.{drop_more, length-append, reverse-append, take-append-drop}
use Rattle.std.proofs.lemmas.List.Elements.{All-contains, All-nil}
use Rattle.fugue_ids.specs.Identifiers.{Identifier}
use Rattle.fugue_ids.specs.Listed.{index_of}
use Rattle.fugue_ids.specs.declared.op.Op.{Op}
use Rattle.fugue_ids.specs.declared.op.Op.TheVariants.{Delete, Note, Section, Text}
use Rattle.fugue_ids.proofs.ListLemmas.{all_insert}
use Rattle.origin_model.specs.declared.operations.Place.TheVariants.{Catalogue as catalogue}
use Rattle.origin_model.specs.declared.operations.node.Node.{Node}
use Rattle.origin_model.specs.operations.History.{holder, holds}
use Rattle.origin_model.specs.operations.Verdict.{Lawful}
use Rattle.origin_model.specs.order.Order.{order}
use Rattle.origin_model.specs.sides.Node.{AreNodes, IsNew, has_node, has_origin, node_order, nodes}
use Rattle.origin_model.proofs.SharedLemmas.{Lawful-append, found, order_by_nodes, order_total}
use Rattle.run_store.specs.Cells.{cell_ids, cells_shown}
use Rattle.run_store.specs.declared.cell.Cell.{Cell}
use Rattle.section_list.specs.SectionList.{IsInOrder, Listing, empty_listing, newest_cell, with_element}
use Rattle.replica_core.specs.Index.{is_section_or_note}
use Rattle.catalogue_notes.specs.Claims.{Move, move_in}
use Rattle.catalogue_notes.specs.Lift.{as_section, is_section, is_valid, lift, moves, passing, is_present}
use Rattle.catalogue_notes.specs.Lift.{claims}
use Rattle.catalogue_notes.specs.Lifting.{IsLiftOf, IsLifting, lift_by, lift_move, node_at}
use Rattle.catalogue_notes.specs.Readings.{candidate_of}
use Rattle.catalogue_notes.specs.declared.lifting.Lift.{Lift}
use Rattle.catalogue_notes.specs.declared.reading.Candidate.{Candidate}
use Rattle.catalogue_notes.proofs.ArrangedLemmas.{move_test}
use Rattle.catalogue_notes.proofs.ClaimLemmas.{claims-none, claims-some}
use Rattle.catalogue_notes.proofs.HolderLemmas.{IsHeld, cases_option, holder-kept, joins}
use Rattle.catalogue_notes.proofs.LiftLemmas.{in_order, lift-nil, lift-none, lift-some, lift_fits, lift_lawful, rests_of, section-kept, shape}
use Rattle.catalogue_notes.proofs.PartLemmas.{filter_full}
use Rattle.replica_core.proofs.WalkLemmas.{passed_step}
use Rattle.std.specs.Cmp.{both_ways}

abbrev N : List Op → List Node
N h = nodes catalogue (lift h)

-- an origin is a lifted node exactly where it stands among what was lifted
node_held : (h : List Op) (x : Identifier) → Lawful h → has_node (N h) x ≡ holds (lift h) x
node_held h x w =
    let v = lift_lawful h w in
    let n = order_by_nodes catalogue (lift h) v in
    both_ways (has_node (N h) x) (holds (lift h) x)
    (λ k. let i = (n.same_members x).1 k in ap is_some i.held)
    (λ k.
    let q = found (holder (lift h) x) k in
    (n.same_members x).0 (((order_total catalogue (lift h) v).lists x).1 (in_order (lift h) x q.0 v (lift_fits h x q.0 w q.1) q.1)))

origin_there : (h : List Op) (o : Option Identifier) → Lawful h → has_origin (N h) o ≡ is_present (lift h) o
origin_there h None w = refl
origin_there h (Some x) w = node_held h x w

-- the node that is added, and the candidate
abbrev node_in : Option Lift → List Node
node_in o = option_to_list (option_map (λ (l : Lift). l.node) o)

abbrev candidate_in : Option Lift → List Candidate
candidate_in o = elim o [ None ↦ [] | Some l ↦ option_to_list l.candidate ]

-- what is lifted of one operation more
record IsStep (h : List Op) (op : Op) (o : Option Lift) : Type 0 where
  pub grows : N (op ∷ h) ≡ node_in o ++ N h
  pub candidates : map candidate_of (moves (op ∷ h)) ≡ candidate_in o ++ map candidate_of (moves h)

step : (known : Identifier → Bool) (h : List Op) (op : Op) → Lawful h → ((m : Move) → move_in op ≡ Some m → known m.section ≡ is_section h m.section)
    → IsStep h op (lift_by known (N h) op)
step known h (Section i l r t) w k = record {
  grows = ap (nodes catalogue) (lift-some (Section i l r t) h (Section i l r t) refl);
  candidates = ap (map candidate_of) (claims-none move_in move_test (Section i l r t) h refl);
}
step known h (Text i s l r c) w k = record {
  grows = ap (nodes catalogue) (lift-none (Text i s l r c) h refl);
  candidates = ap (map candidate_of) (claims-none move_in move_test (Text i s l r c) h refl);
}
step known h (Delete i) w k = record {
  grows = ap (nodes catalogue) (lift-none (Delete i) h refl);
  candidates = ap (map candidate_of) (claims-none move_in move_test (Delete i) h refl);
}
step known h (Note id named code body) w k =
    let e : Op = Note id named code body in
    let lifted : Option Move → Option Op = λ o. option_map as_section (passing (is_valid h (lift h)) o) in
    let valid : Option Move → Option Move = λ o. passing (is_valid h (lift h)) o in
    elim (cases_option (move_in e)) [
      | inl n ↦ record {
        grows = ap (nodes catalogue) (lift-none e h (ap lifted n)) ∙ sym (ap (λ o. node_in (lift_move known (N h) o) ++ N h) n);
        candidates = ap (map candidate_of) (claims-none move_in move_test e h (ap valid n))
            ∙ sym (ap (λ o. candidate_in (lift_move known (N h) o) ++ map candidate_of (moves h)) n);
      }
      | inr m ↦
          let l = origin_there h m.0.value.left w in
          let r = origin_there h m.0.value.right w in
          let s = k m.0 m.1 in
          let same' : (known m.0.section && (has_origin (N h) m.0.value.left && has_origin (N h) m.0.value.right)) ≡ is_valid h (lift h) m.0 = λ i. s i && (l i && r i) in
          let pick : Bool → Option Lift = λ b. if b then Some (record { node = node_at m.0.id m.0.value.left m.0.value.right; candidate = Some (candidate_of m.0) }) else None in
          let is : lift_move known (N h) (move_in e) ≡ pick (is_valid h (lift h) m.0) = ap (lift_move known (N h)) m.1 ∙ ap pick same' in
          elim (cases_Bool (is_valid h (lift h) m.0)) [
            | inl t ↦ record {
              grows = ap (nodes catalogue) (lift-some e h (as_section m.0) (ap lifted m.1 ∙ ap (λ b. option_map as_section (if b then Some m.0 else None)) t))
                  ∙ sym (ap (λ o. node_in o ++ N h) (is ∙ ap pick t));
              candidates = ap (map candidate_of) (claims-some move_in move_test e h m.0 (ap valid m.1 ∙ ap (λ b. if b then Some m.0 else None) t))
                  ∙ sym (ap (λ o. candidate_in o ++ map candidate_of (moves h)) (is ∙ ap pick t));
            }
            | inr t ↦ record {
              grows = ap (nodes catalogue) (lift-none e h (ap lifted m.1 ∙ ap (λ b. option_map as_section (if b then Some m.0 else None)) t))
                  ∙ sym (ap (λ o. node_in o ++ N h) (is ∙ ap pick t));
              candidates = ap (map candidate_of) (claims-none move_in move_test e h (ap valid m.1 ∙ ap (λ b. if b then Some m.0 else None) t))
                  ∙ sym (ap (λ o. candidate_in o ++ map candidate_of (moves h)) (is ∙ ap pick t));
            }
          ]
    ]

-- a later history tells the Sections among what was held
later_section : (new h : List Op) (s : Identifier) → Lawful (new ++ h) → IsHeld h s → is_section (new ++ h) s ≡ is_section h s
later_section [] h s w k = refl
later_section (e ∷ new) h s w k = section-kept e (new ++ h) s (joins (new ++ h) e w.0) (later_held new h s w.1 k) ∙ later_section new h s w.1 k
  where
    later_held : (new h : List Op) (s : Identifier) → Lawful (new ++ h) → IsHeld h s → IsHeld (new ++ h) s
    later_held [] h s w k = k
    later_held (e ∷ new) h s w k = let f = later_held new h s w.1 k in (f.0, holder-kept e f.0 (new ++ h) s (joins (new ++ h) e w.0) f.1)

-- the history at a place of the list
pub split_at : {X : Type 0} → (xs : List X) (i : ℕ) (d : X) → i < length xs → reverse xs ≡ reverse (drop (i + 1) xs) ++ get_or xs i d ∷ reverse (take i xs)
split_at xs i d l =
    ap reverse (sym (take-append-drop i xs) ∙ ap (λ z. take i xs ++ z) (drop_more xs i d l))
    ∙ reverse-append (take i xs) (get_or xs i d ∷ drop (i + 1) xs)
    ∙ ap (λ z. z ++ reverse (take i xs)) (reverse-append (get_or xs i d ∷ []) (drop (i + 1) xs))
    ∙ append_assoc (reverse (drop (i + 1) xs)) (get_or xs i d ∷ []) (reverse (take i xs))

abbrev pub Passed : List Op → ℕ → List Op
Passed ops i = reverse (take i ops)

pub lawful_at : (ops : List Op) (i : ℕ) (op : Op) → Lawful (reverse ops) → i < length ops → op ≡ get_or ops i op → Lawful (op ∷ Passed ops i)
lawful_at ops i op w l e =
    subst (λ z. Lawful (z ∷ Passed ops i)) (sym e) (Lawful-append (reverse (drop (i + 1) ops)) (get_or ops i op ∷ Passed ops i) (subst Lawful (split_at ops i op l) w))

-- what an operation names is a Section of the whole list where it is one of those before it
pub section_at : (ops : List Op) (i : ℕ) (op : Op) (s : Identifier) → Lawful (reverse ops) → i < length ops → op ≡ get_or ops i op → IsHeld (Passed ops i) s
    → is_section (reverse ops) s ≡ is_section (Passed ops i) s
section_at ops i op s w l e k =
    let h : List Op = Passed ops i in
    let o : Op = get_or ops i op in
    let new : List Op = reverse (drop (i + 1) ops) in
    let v : Lawful (new ++ o ∷ h) = subst Lawful (split_at ops i op l) w in
    let u : Lawful (o ∷ h) = Lawful-append new (o ∷ h) v in
    let j = joins h o u.0 in
    ap (λ z. is_section z s) (split_at ops i op l)
    ∙ later_section new (o ∷ h) s v (k.0, holder-kept o k.0 h s j k.1)
    ∙ section-kept o h s j k

-- what the step at a place of the list adds
step_at : (ops : List Op) (i : ℕ) (op : Op) (known : Identifier → Bool) → Lawful (reverse ops) → ((s : Identifier) → known s ≡ is_section (reverse ops) s) → i < length ops
    → op ≡ get_or ops i op
    → IsStep (Passed ops i) op (lift_by known (N (Passed ops i)) op)
step_at ops i op known w k l e =
    let h : List Op = Passed ops i in
    let v = lawful_at ops i op w l e in
    step known h op v.1 (λ m q.
    let r = rests_of h op m (joins h op v.0).fit (shape op m q) in
    k m.section ∙ section_at ops i op m.section w l e r.section)

-- its node is new
pub new_at : (ops : List Op) (i : ℕ) (op : Op) (known : Identifier → Bool) (list : Listing) (candidates : List Candidate) (x : Lift) → Lawful (reverse ops)
    → ((s : Identifier) → known s ≡ is_section (reverse ops) s) → i < length ops → op ≡ get_or ops i op
    → IsLifting (Passed ops i) list candidates → lift_by known list.nodes op ≡ Some x → IsNew list.nodes x.node
new_at ops i op known list candidates x w k l e f q =
    let h : List Op = Passed ops i in
    let s = step_at ops i op known w k l e in
    let v = lawful_at ops i op w l e in
    let a : AreNodes (N (op ∷ h)) = (order_by_nodes catalogue (lift (op ∷ h)) (lift_lawful (op ∷ h) v)).are_nodes in
    let q' : lift_by known (N h) op ≡ Some x = ap (λ z. lift_by known z op) (sym f.nodes_are) ∙ q in
    let b : AreNodes (x.node ∷ N h) = subst AreNodes (s.grows ∙ ap (λ o. node_in o ++ N h) q') a in
    subst (λ z. IsNew z x.node) (sym f.nodes_are) b.0

length-insert : (cs : List Cell) (i : ℕ) (c : Cell) → length (insert cs i c) ≡ length cs + 1
length-insert cs i c = omega (arith, length-append (take i cs) (c ∷ drop i cs), length-append (take i cs) (drop i cs), ap length (take-append-drop i cs))

-- a step that adds nothing
pub lifting_same : (ops : List Op) (i : ℕ) (op : Op) (known : Identifier → Bool) (list : Listing) (candidates : List Candidate) → Lawful (reverse ops)
    → ((s : Identifier) → known s ≡ is_section (reverse ops) s) → i < length ops → op ≡ get_or ops i op
    → IsLifting (Passed ops i) list candidates → lift_by known list.nodes op ≡ None → IsLifting (op ∷ Passed ops i) list candidates
lifting_same ops i op known list candidates w k l e f q =
    let h : List Op = Passed ops i in
    let s = step_at ops i op known w k l e in
    let q' : lift_by known (N h) op ≡ None = ap (λ z. lift_by known z op) (sym f.nodes_are) ∙ q in
    let few = f.few in
    record {
      nodes_are = f.nodes_are ∙ sym (s.grows ∙ ap (λ o. node_in o ++ N h) q');
      few = omega (arith, few);
      shown = f.shown;
      in_order = f.in_order;
      candidates_are = f.candidates_are ∙ sym (s.candidates ∙ ap (λ o. candidate_in o ++ map candidate_of (moves h)) q');
    }

-- what is neither a Section nor a Note adds nothing
pub nothing_lifted : (known : Identifier → Bool) (ns : List Node) (op : Op) → is_section_or_note op ≡ false → lift_by known ns op ≡ None
nothing_lifted known ns (Section i l r t) e = absurd (true≢false e)
nothing_lifted known ns (Text i s l r c) e = refl
nothing_lifted known ns (Delete i) e = refl
nothing_lifted known ns (Note i ns' c b) e = absurd (true≢false e)

-- so it is passed over
pub lifting_between : (ops : List Op) (known : Identifier → Bool) (list : Listing) (candidates : List Candidate) → Lawful (reverse ops)
    → ((s : Identifier) → known s ≡ is_section (reverse ops) s)
    → (i : ℕ) (op : Op) → i < length ops → op ≡ get_or ops i op → is_section_or_note op ≡ false → IsLifting (Passed ops i) list candidates
    → IsLifting (Passed ops (i + 1)) list candidates
lifting_between ops known list candidates w k i op l e other f =
    passed_step (λ h. IsLifting h list candidates) ops i op l e (lifting_same ops i op known list candidates w k l e f (nothing_lifted known list.nodes op other))

-- and one that adds a node
pub lifting_more : (ops : List Op) (i : ℕ) (op : Op) (known : Identifier → Bool) (list more : Listing) (candidates longer : List Candidate) (x : Lift) → Lawful (reverse ops)
    → ((s : Identifier) → known s ≡ is_section (reverse ops) s) → i < length ops → op ≡ get_or ops i op
    → IsLifting (Passed ops i) list candidates → lift_by known list.nodes op ≡ Some x → more ≡ with_element x.node 45 list → IsInOrder more → longer ≡ candidates
    ++ option_to_list x.candidate
    → IsLifting (op ∷ Passed ops i) more longer
lifting_more ops i op known list more candidates longer x w k l e f q is o b =
    let h : List Op = Passed ops i in
    let s = step_at ops i op known w k l e in
    let q' : lift_by known (N h) op ≡ Some x = ap (λ z. lift_by known z op) (sym f.nodes_are) ∙ q in
    let at : ℕ = index_of (node_order (x.node ∷ list.nodes)) x.node.id in
    let c : Cell = newest_cell x.node list.nodes 45 in
    let few = f.few in
    let count : length more.cells ≡ length list.cells + 1 = ap (λ (z : Listing). length z.cells) is ∙ length-insert list.cells at c in
    record {
      nodes_are = ap (λ (z : Listing). z.nodes) is ∙ ap (λ z. x.node ∷ z) f.nodes_are ∙ sym (s.grows ∙ ap (λ o. node_in o ++ N h) q');
      few = omega (arith, few, count);
      shown = subst (λ (z : Listing). All (λ (c : Cell). c.hidden ≡ false) z.cells) (sym is) (all_insert (λ (c : Cell). c.hidden ≡ false) list.cells at c refl f.shown);
      in_order = o;
      candidates_are = ap reverse b ∙ reverse-append candidates (option_to_list x.candidate) ∙ (λ i. reverse-one x.candidate i ++ f.candidates_are i)
          ∙ sym (s.candidates ∙ ap (λ o. candidate_in o ++ map candidate_of (moves h)) q');
    }
  where
    reverse-one : (o : Option Candidate) → reverse (option_to_list o) ≡ option_to_list o
    reverse-one None = refl
    reverse-one (Some b) = refl

moves-nil : moves [] ≡ []
unfolding claims
moves-nil = refl

-- nothing is lifted yet
pub lifting_none : (list : Listing) (candidates : List Candidate) → list ≡ empty_listing → IsInOrder list → candidates ≡ [] → IsLifting [] list candidates
lifting_none list candidates is o b = record {
  nodes_are = ap (λ (z : Listing). z.nodes) is ∙ sym (ap (nodes catalogue) lift-nil);
  few = subst (λ (z : Listing). length z.cells ≤ 0) (sym is) (omega arith);
  shown = subst (λ (z : Listing). All (λ (c : Cell). c.hidden ≡ false) z.cells) (sym is) (All-nil (λ (c : Cell). c.hidden ≡ false));
  in_order = o;
  candidates_are = ap reverse b ∙ sym (ap (map candidate_of) moves-nil);
}

-- where none is hidden all are visible
all_visible : (cs : List Cell) → All (λ (c : Cell). c.hidden ≡ false) cs → cells_shown cs ≡ cs
all_visible cs all = filter_full (λ (c : Cell). not c.hidden) cs (λ c m. ap not (All-contains (λ (c : Cell). c.hidden ≡ false) cs c all m))

-- all is lifted
pub lifting_all : (h : List Op) (list : Listing) (candidates : List Candidate) → Lawful h → IsLifting h list candidates → IsLiftOf h list candidates
lifting_all h list candidates w f =
    let all : cell_ids list.cells ≡ order catalogue (lift h) =
    f.in_order.in_order ∙ ap node_order f.nodes_are ∙ sym (order_by_nodes catalogue (lift h) (lift_lawful h w)).same_order in
    record { lifting = f; all = all; visible = ap cell_ids (all_visible list.cells f.shown) ∙ all }
