-- Which notes are withdrawn, as operations come.
use Rattle.std.proofs.Common.{◌≡◌, ◌∙◌, ap, arith, cond, false, inl, inr, refl, subst, suc, sym, zero, ℕ, ◌+◌, ◌-◌, ◌≤◌, ◌||◌, ◌∷◌, List, []}
use Rattle.std.specs.Prelude.{None, Option, Some, is_some}
use Rattle.std.specs.FinMap.{FinMap, get, get-empty, get-insert, insert}
use Rattle.std.specs.FinMap as map
use Rattle.std.specs.Ordering.{is_eq}
use Rattle.std.proofs.lemmas.Bool.{cases_Bool}
use Rattle.std.proofs.lemmas.List.Elements.{All-head, All-tail}
use Rattle.fugue_ids.specs.Identifiers.{Identifier, id_cmp}
use Rattle.fugue_ids.specs.Runs.{id_after, in_a_row, next_id}
use Rattle.fugue_ids.specs.declared.op.Op.{Op}
use Rattle.fugue_ids.specs.declared.op.Op.TheVariants.{Delete, Text}
use Rattle.fugue_ids.proofs.IdentifierLemmas.{cases_id, eq-id_eq, id_at-other, id_at-same, ne-id_eq}
use Rattle.fugue_ids.proofs.ListLemmas.{all_before}
use Rattle.fugue_ids.proofs.OptionLemmas.{is_some-false}
use Rattle.fugue_ids.proofs.OrderLemmas.{id_cmp_total}
use Rattle.op_runs.specs.Deletions.{deletes_up}
use Rattle.origin_model.specs.edits.Edits.{ReadyInTurn, history_with}
use Rattle.origin_model.specs.operations.History.{holder, is_own}
use Rattle.origin_model.specs.operations.Verdict.{verdict}
use Rattle.origin_model.specs.order.Laws.{IsIn}
use Rattle.origin_model.specs.order.Printed.{deletes, is_hidden}
use Rattle.origin_model.specs.declared.operations.Place.{Place}
use Rattle.origin_model.specs.declared.operations.Place.TheVariants.{Section as within}
use Rattle.origin_model.specs.declared.operations.Verdict.TheVariants.{Ready}
use Rattle.origin_model.proofs.SharedLemmas.{holder-other, own_id, ready_is_new, target_is_shown}
use Rattle.section_catalogue.proofs.HolderLemmas.{in_place, none_held}
use Rattle.section_catalogue.specs.Place.{place_held}
use Rattle.stretch_map.specs.declared.follows.Same.{Same}
use Rattle.replica_core.specs.Deleting.{AreWithin, ids_from}
use Rattle.replica_core.specs.Withdrawn.{HasWithdrawn}
use Rattle.replica_core.proofs.DeletingLemmas.{fewer_ready, ids_parted, still_within}

-- no note is withdrawn in a history without operations
pub none_withdrawn : (w : FinMap id_cmp Same) (h : List Op) → w ≡ map.empty → h ≡ [] → HasWithdrawn w h
none_withdrawn w h is nothing x none = ap is_some (ap (λ m. get m x) is ∙ get-empty id_cmp x) ∙ ap (λ z. is_hidden z x) (sym nothing)

-- what stands in no place stood in none before
none_before : (op : Op) (h : List Op) (x : Identifier) → verdict h op ≡ Ready → place_held (holder (op ∷ h) x) ≡ None → place_held (holder h x) ≡ None
none_before op h x ready none =
    elim (cases_Bool (is_own x op)) [
      | inl own ↦ ap place_held (none_held (holder h x) (ready_is_new h op x ready (own_id op x own)))
      | inr other ↦ ap place_held (sym (holder-other op h x other)) ∙ none
    ]

-- an operation that deletes no note
pub stays_withdrawn : (w : FinMap id_cmp Same) (op : Op) (h : List Op) → verdict h op ≡ Ready → ((x : Identifier) → place_held (holder h x) ≡ None → deletes x op ≡ false)
    → HasWithdrawn w h → HasWithdrawn w (op ∷ h)
stays_withdrawn w op h ready others are x none =
    let before = none_before op h x ready none in
    are x before ∙ ap (λ b. b || is_hidden h x) (sym (others x before))

-- the Texts of a run
pub run_withdrawn : (text : List ℕ) (w : FinMap id_cmp Same) (id s : Identifier) (l r : Option Identifier) (h : List Op) → ReadyInTurn h (in_a_row id s l r text)
    → HasWithdrawn w h → HasWithdrawn w (history_with h (in_a_row id s l r text))
run_withdrawn [] w id s l r h ready are = are
run_withdrawn (c ∷ text) w id s l r h ready are =
    run_withdrawn text w (next_id id) s (Some id) r (Text id s l r c ∷ h) ready.1 (stays_withdrawn w (Text id s l r c) h ready.0 (λ x none. refl) are)

-- a Delete of an element
pub element_withdrawn : (w : FinMap id_cmp Same) (h : List Op) (x : Identifier) (p : Place) → place_held (holder h x) ≡ Some p → verdict h (Delete x) ≡ Ready
    → HasWithdrawn w h → HasWithdrawn w (Delete x ∷ h)
element_withdrawn w h x p at ready are = stays_withdrawn w (Delete x) h ready others are
  where
    others : (y : Identifier) → place_held (holder h y) ≡ None → deletes y (Delete x) ≡ false
    others y none = ne-id_eq x y (λ same. let both : Some p ≡ None = sym at ∙ ap (λ z. place_held (holder h z)) same ∙ none in cc)

-- and of a note
pub note_withdrawn : (w new : FinMap id_cmp Same) (h : List Op) (x : Identifier) (mark : Same) → new ≡ insert w x mark → HasWithdrawn w h → HasWithdrawn new (Delete x ∷ h)
note_withdrawn w new h x mark is are y none =
    let at : get new y ≡ cond (is_eq (id_cmp y x)) (Some mark) (get w y) = ap (λ m. get m y) is ∙ get-insert id_cmp_total w x mark y in
    elim (cases_id y x) [
      | inl e ↦
          ap is_some (at ∙ ap (λ b. cond b (Some mark) (get w y)) (ap (λ z. is_eq (id_cmp z x)) e ∙ id_at-same x))
          ∙ ap (λ b. b || is_hidden h y) (sym (eq-id_eq x y (sym e)))
      | inr e ↦
          ap is_some (at ∙ ap (λ b. cond b (Some mark) (get w y)) (id_at-other y x (λ d. e (sym d))))
          ∙ are y none ∙ ap (λ b. b || is_hidden h y) (sym (ne-id_eq x y (λ d. e (sym d))))
    ]

-- Deletes of neighbours, which are elements of a section
row_withdrawn : (n : ℕ) (w : FinMap id_cmp Same) (x s : Identifier) (h : List Op) → ReadyInTurn h (deletes_up x n) → AreWithin s h (ids_from x n) → HasWithdrawn w h
    → HasWithdrawn w (history_with h (deletes_up x n))
row_withdrawn zero w x s h ready inside are = are
row_withdrawn (suc n) w x s h ready inside are =
    let P : Identifier → Type 0 = λ y. IsIn (within s) h y in
    let others : List Identifier = ids_from (next_id x) n in
    row_withdrawn n w (next_id x) s (Delete x ∷ h) ready.1 (still_within (x ∷ []) s h others (All-tail P x others inside))
    (element_withdrawn w h x (within s) (in_place (within s) h x (All-head P x others inside)) ready.0 are)

-- the first of them
pub front_withdrawn : (w : FinMap id_cmp Same) (count k : ℕ) (x s : Identifier) (h : List Op) → k ≤ count → ReadyInTurn h (deletes_up x count)
    → AreWithin s h (ids_from x count) → HasWithdrawn w h → HasWithdrawn w (history_with h (deletes_up x k))
front_withdrawn w count k x s h l ready inside are =
    let e : count ≡ k + (count - k) = omega (arith, l) in
    row_withdrawn k w x s h (fewer_ready count k x h l ready)
    (all_before (λ y. IsIn (within s) h y) (ids_from x k) (ids_from (id_after x k) (count - k)) (subst (AreWithin s h) (ap (ids_from x) e ∙ ids_parted k (count - k) x) inside))
    are

-- a note whose Delete is Ready is not withdrawn yet
pub withdrawn_free : (w : FinMap id_cmp Same) (h : List Op) (x : Identifier) → HasWithdrawn w h → verdict h (Delete x) ≡ Ready → place_held (holder h x) ≡ None → get w x ≡ None
withdrawn_free w h x are ready none = is_some-false (get w x) (are x none ∙ (target_is_shown h x ready).1)
