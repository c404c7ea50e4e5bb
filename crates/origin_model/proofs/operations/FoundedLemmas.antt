-- What operations rest on is in the history before them.
use Rattle.origin_model.proofs.Words.{All, All-head, is_some, Delete, Identifier, IsIn, Lawful, List, Op, Ready, SectionRole, Some, [], ap, cases_origin, catalogue, deletes}
use Rattle.origin_model.proofs.Words.{element_of, false, false_from_ne_true, holder, holds, id_eq-true, id_held, id_of, inl, inr, is_hidden, or_cases, refl, subst, sym, true}
use Rattle.origin_model.proofs.Words.{true≢false, verdict, within, ◌∙◌, ◌∷◌, ◌≡◌}
use Rattle.origin_model.specs.operations.History.{place}
use Rattle.origin_model.specs.sides.Node.{AreNodes, as_ops, find_node, node_order, nodes}
use Rattle.origin_model.specs.declared.operations.node.Node.{Node}
use Rattle.origin_model.specs.declared.operations.Role.TheVariants.{Any}
use Rattle.origin_model.proofs.operations.CauseLemmas.{becomes_ready, ready_absent}
use Rattle.origin_model.proofs.operations.LookupLemmas.{Fits, IsHeld, element_ready, found, holder_owns, holds-older, missing-held, own_id, ready_fits, stray-fits, when_ready}
use Rattle.origin_model.proofs.operations.ElementLemmas.{element_stands, element_there, fits_element, home_names}
use Rattle.origin_model.proofs.sides.NodeHistoryLemmas.{holder-nodes, nodes-lawful, op_of}
use Rattle.origin_model.proofs.sides.NodeOrderLemmas.{nodes-none}
use Rattle.origin_model.proofs.order.{IsIn-held, hidden-has, order-same}

-- nodes that no look-up can tell apart are histories within each other
pub same_nodes_same_order : (a b : List Node) → AreNodes a → AreNodes b → ((x : Identifier) → find_node a x ≡ find_node b x) → node_order a ≡ node_order b
same_nodes_same_order a b v w s =
    let alike : (i : Identifier) → holder (as_ops a) i ≡ holder (as_ops b) i = λ i. holder-nodes a i ∙ ap op_of (s i) ∙ sym (holder-nodes b i) in
    order-same catalogue (as_ops a) (as_ops b) (nodes-lawful a v) (nodes-lawful b w) (λ i op e. sym (alike i) ∙ e) (λ i op e. alike i ∙ e)

-- the own identifier of a Ready operation is new
pub ready_is_new : (h : List Op) (op : Op) (x : Identifier) → verdict h op ≡ Ready → id_of op ≡ Some x → holds h x ≡ false
ready_is_new h op x e k = sym (ap (id_held h) k) ∙ (when_ready h op e).fresh

-- the section of a Ready element is in the catalogue
pub section_first : (h : List Op) (op : Op) (s : Identifier) → verdict h op ≡ Ready → place op ≡ Some (within s) → IsIn catalogue h s
section_first h op s e k =
    let n = element_there op (within s) k in
    let home = element_ready h op n.0 (when_ready h op e) n.1 in
    let f = All-head (Fits h) (s, SectionRole) [] (subst (λ p. All (Fits h) (home_names p)) n.2 home.home) in
    record { op = f.0; held = f.1; place = fits_element catalogue f.0 f.2 ∙ own_id f.0 s (holder_owns h s f.0 f.1) }

-- what a longer history does not hold, an older one does not hold
not-older : (op : Op) (h : List Op) (x : Identifier) → holds (op ∷ h) x ≡ false → holds h x ≡ false
not-older op h x k = false_from_ne_true _ (λ e. true≢false (sym (holds-older op h x e) ∙ k))

-- what is not held has no text
pub no_text_before : (h : List Op) (s : Identifier) → Lawful h → holds h s ≡ false → nodes (within s) h ≡ []
no_text_before [] s w k = refl
no_text_before (op ∷ h) s w k =
    elim (cases_origin (element_of (within s) op)) [
      | inl e ↦ nodes-none (within s) op h e ∙ no_text_before h s w.1 (not-older op h s k)
      | inr e ↦ absurd (true≢false (sym (IsIn-held catalogue h s (section_first h op s w.0 (element_stands (within s) op e.0 e.1).0)) ∙ not-older op h s k))
    ]

-- the target of a Ready Delete is held
target_named : (h : List Op) (x : Identifier) → verdict h (Delete x) ≡ Ready → IsHeld h x
target_named h x e = ap is_some (All-head (Fits h) (x, Any) [] (ready_fits h (Delete x) (when_ready h (Delete x) e))).1

target_held : (h : List Op) (op : Op) (x : Identifier) → verdict h op ≡ Ready → deletes x op ≡ true → IsHeld h x
target_held h (Delete i) x e k = subst (IsHeld h) (id_eq-true i x k) (target_named h i e)
target_held h _ x e k = absurd (true≢false (sym k))

-- what is not held is not hidden
pub not_hidden_before : (h : List Op) (x : Identifier) → Lawful h → holds h x ≡ false → is_hidden h x ≡ false
not_hidden_before [] x w k = refl
not_hidden_before (op ∷ h) x w k =
    let out = not-older op h x k in
    false_from_ne_true _ (λ e. elim (or_cases (deletes x op) (is_hidden h x) e) [
      | inl d ↦ true≢false (sym (target_held h op x w.0 d) ∙ out)
      | inr d ↦ true≢false (sym d ∙ not_hidden_before h x w.1 out)
    ])

-- the Delete of a shown element is Ready
pub shown_can_go : (h : List Op) (x : Identifier) → holds h x ≡ true → is_hidden h x ≡ false → verdict h (Delete x) ≡ Ready
shown_can_go h x k n =
    let o = found (holder h x) k in
    becomes_ready h (Delete x) (sym (hidden-has h x) ∙ n) refl (stray-fits h (x, Any) [] o.0 o.1 refl) (missing-held h (x, Any) [] o.0 o.1)

-- the target of a Ready Delete is held and not hidden
pub target_is_shown : (h : List Op) (x : Identifier) → verdict h (Delete x) ≡ Ready → (holds h x ≡ true) × (is_hidden h x ≡ false)
target_is_shown h x e = (target_named h x e, hidden-has h x ∙ ready_absent h (Delete x) e)
