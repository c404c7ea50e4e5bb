-- What the causes of an operation are to a longer history: those that are held and fit stay so, and one that is held
-- and does not fit stays so, for good.
use Rattle.origin_model.proofs.Words.{All-weaker, Bool, Identifier, List, None, Op, Option, Ready, Role, Some, Stray, [], cases_Bool, false, first_line, first_missing, first_stray}
use Rattle.origin_model.proofs.Words.{fits, has_op, holder, id_held, id_of, inl, inr, names, not_some, refl, sym, true, verdict, ◌∙◌, ◌∷◌, ◌≡◌}
use Rattle.origin_model.proofs.operations.LookupLemmas.{when_ready, Fits, all_fit, cases_held, fit_each, stray-fits, stray-gone, stray-not}
use Rattle.origin_model.proofs.order.{Within}

-- names that are held and fit stay so
pub names_within : (s h : List Op) (ns : List (Identifier × Role)) → Within s h → first_stray s ns ≡ None → first_missing s ns ≡ None
    → (first_stray h ns ≡ None) × (first_missing h ns ≡ None)
names_within s h ns f a b = all_fit h ns (All-weaker (Fits s) (Fits h) (λ n k. (k.0, f n.0 k.0 k.1, k.2)) ns (fit_each s ns a b))

-- where no name is Stray, none of the later ones is
stray_tail : (h : List Op) (n : Identifier × Role) (ns : List (Identifier × Role)) → first_stray h (n ∷ ns) ≡ None → first_stray h ns ≡ None
stray_tail h n ns e =
    elim (cases_held (holder h n.0)) [
      | inl k ↦ sym (stray-gone h n ns k) ∙ e
      | inr k ↦ elim (cases_Bool (fits n.1 k.0)) [
        | inl t ↦ sym (stray-fits h n ns k.0 k.1 t) ∙ e
        | inr t ↦ absurd (not_some n.0 (sym (stray-not h n ns k.0 k.1 t) ∙ e))
      ]
    ]

-- where no name is Stray in a history, none was in what is within it
stray_back : (h g : List Op) (ns : List (Identifier × Role)) → Within h g → first_stray g ns ≡ None → first_stray h ns ≡ None
stray_back h g [] f e = refl
stray_back h g (n ∷ ns) f e =
    let rest : first_stray h ns ≡ None = stray_back h g ns f (stray_tail g n ns e) in
    elim (cases_held (holder h n.0)) [
      | inl k ↦ stray-gone h n ns k ∙ rest
      | inr k ↦ elim (cases_Bool (fits n.1 k.0)) [
        | inl t ↦ stray-fits h n ns k.0 k.1 t ∙ rest
        | inr t ↦ absurd (not_some n.0 (sym (stray-not g n ns k.0 (f n.0 k.0 k.1) t) ∙ e))
      ]
    ]

-- some name is held and does not fit
abbrev pub Dead : List Op → Op → Type 0
Dead h op = first_stray h (names op) ≡ None → ⊥

-- the line for Stray decides only where some name is Stray
stray_line : (b c : Bool) (s m : Option Identifier) (i : Identifier) → first_line b c s m ≡ Stray i → s ≡ None → ⊥
stray_line true c s m i h e = cc
stray_line false true s m i h e = cc
stray_line false false (Some j) m i h e = cc
stray_line false false None (Some j) i h e = cc
stray_line false false None None i h e = cc

-- what the verdict Stray says
pub stray_dead : (h : List Op) (op : Op) (i : Identifier) → verdict h op ≡ Stray i → Dead h op
unfolding verdict
stray_dead h op i e = stray_line (has_op h op) (id_held h (id_of op)) (first_stray h (names op)) (first_missing h (names op)) i e

-- a name that is held and does not fit stays so
pub dead_within : (h g : List Op) (op : Op) → Within h g → Dead h op → Dead g op
dead_within h g op f d e = d (stray_back h g (names op) f e)

-- a Ready operation is not in the history
pub ready_absent : (h : List Op) (op : Op) → verdict h op ≡ Ready → has_op h op ≡ false
ready_absent h op e = (when_ready h op e).absent

-- an operation is Ready where it and its identifier are new, and its names are held and fit
pub becomes_ready : (h : List Op) (op : Op) → has_op h op ≡ false → id_held h (id_of op) ≡ false → first_stray h (names op) ≡ None → first_missing h (names op) ≡ None
    → verdict h op ≡ Ready
unfolding verdict
becomes_ready h op a b c d = λ i. first_line (a i) (b i) (c i) (d i)
