-- The run of an identifier is the one under the greatest first identifier that is not above it.
use Rattle.std.proofs.Common.{◌≡◌, ℕ, suc, ◌+◌, ◌-◌, ◌<◌, ◌≤◌, false, List, [], ◌∷◌, ◌++◌, ap, arith, inl, inr, length, refl, subst, sym, ◌∙◌}
use Rattle.std.specs.Prelude.{Option, None, Some, is_some}
use Rattle.std.specs.List.{All, Contains}
use Rattle.std.specs.Ordering.{is_gt, is_lt}
use Rattle.std.proofs.lemmas.Bool.{true≢false}
use Rattle.std.proofs.lemmas.List.{map-append}
use Rattle.std.proofs.lemmas.List.Elements.{All-head, All-tail, Contains-append_cases}
use Rattle.fugue_ids.specs.Identifiers.{Identifier, id_cmp}
use Rattle.fugue_ids.proofs.IdentifierLemmas.{cases_id, ne-id_eq}
use Rattle.fugue_ids.proofs.ListLemmas.{contains_cases, contains_none}
use Rattle.fugue_ids.proofs.OrderLemmas.{at_most_from_le, at_most_from_not_lt, le_from_at_most}
use Rattle.fugue_ids.specs.Runs.{id_after}
use Rattle.node_rope.specs.Items.{value_under}
use Rattle.node_rope.specs.Places.{IsFloor}
use Rattle.run_store.specs.Cells.{cell_ids}
use Rattle.run_store.specs.Heads.{head_after, next_head, typed_cells}
use Rattle.run_store.specs.Runs.{AreRuns, IsRun, RunsView, all_cells, cells_of, first_of, letters_of}
use Rattle.run_store.specs.declared.cell.Cell.{Cell}
use Rattle.run_store.specs.declared.cell.Head.{Head}
use Rattle.run_store.specs.declared.run.Run.{Run}
use Rattle.run_store.proofs.HeadLemmas.{behind-id, behind-next}
use Rattle.run_store.proofs.RunsLemmas.{Item, keys-apart, length-letters}
use Rattle.run_store.proofs.RopeLemmas.{OtherKeys, keys-append, value-at, value-none}

-- the place of an identifier in a run
contains-typed : (h : Head) (ls : List ℕ) (x : Identifier) → Contains (cell_ids (typed_cells h ls)) x → (o : ℕ) × (o < length ls) × (x ≡ (head_after o h).id)
contains-typed h [] x c = absurd (contains_none x c)
contains-typed h (l ∷ ls) x c = elim (contains_cases h.id (cell_ids (typed_cells (next_head h) ls)) x c) [
  | inl e ↦ (0, omega arith, sym e)
  | inr r ↦
      let p = contains-typed (next_head h) ls x r in
      (suc p.0, omega (arith, p.1), p.2 ∙ ap (λ (k : Head). k.id) (behind-next p.0 h))
]

-- an identifier is that of a cell of a run
pub record IsCellOf (L : List (List ℕ)) (xs : List Item) (x : Identifier) : Type 0 where
  pub front : List Item
  pub back : List Item
  pub run : Run
  pub offset : ℕ
  pub is : xs ≡ front ++ (run.id, run) ∷ back
  pub inside : offset < run.len
  pub named : x ≡ (head_after offset (first_of run)).id

pub contains-run : (L : List (List ℕ)) (n : ℕ) (xs : List Item) (x : Identifier) → All (IsRun L n) xs → Contains (cell_ids (all_cells L xs)) x → IsCellOf L xs x
contains-run L n [] x a c = absurd (contains_none x c)
contains-run L n (i ∷ xs) x a c =
    let r = All-head (IsRun L n) i xs a in
    let d = subst (λ ys. Contains ys x) (map-append (λ (z : Cell). z.id) (cells_of L i.1) (all_cells L xs)) c in
    elim (Contains-append_cases (cell_ids (cells_of L i.1)) (cell_ids (all_cells L xs)) x d) [
      | inl here ↦
          let p = contains-typed (first_of i.1) (letters_of L i.1) x here in
          record { front = []; back = xs; run = i.1; offset = p.0; is = λ j. (r.named j, i.1) ∷ xs; inside = omega (arith, p.1, length-letters L n i r); named = p.2 }
      | inr there ↦
          let p = contains-run L n xs x (All-tail (IsRun L n) i xs a) there in
          record { front = i ∷ p.front; back = p.back; run = p.run; offset = p.offset; is = ap (λ ys. i ∷ ys) p.is; inside = p.inside; named = p.named }
    ]

-- an identifier between the first one of a run and another of its cells is that of a cell
between-cells : (h : Head) (o : ℕ) (f : Identifier) → is_gt (id_cmp f (id_after h.id o)) ≡ false → is_lt (id_cmp f h.id) ≡ false
    → (n : ℕ) × (n ≤ o) × (f ≡ (head_after n h).id)
between-cells h o f up low =
    let u = at_most_from_le f (id_after h.id o) up in
    let l = at_most_from_not_lt f h.id low in
    let r : f.replica ≡ h.id.replica = grind (arith, u, l) in
    let c : h.id.counter ≤ f.counter = grind (arith, u, l) in
    let d : f.counter ≤ h.id.counter + o = grind (arith, u, l) in
    let e : f.counter ≡ h.id.counter + (f.counter - h.id.counter) = omega (arith, c) in
    (f.counter - h.id.counter, omega (arith, d), (λ i. record { replica = r i; counter = e i }) ∙ sym (behind-id (f.counter - h.id.counter) h))

-- the key of the run of a cell is the floor of its identifier
pub floor-is : (r : RunsView) → AreRuns r → (x : Identifier) (f : Option Identifier) → IsFloor r.rope x f → (p : IsCellOf r.letters r.rope x)
    → (f ≡ Some p.run.id) × (value_under p.run.id r.rope ≡ Some p.run)
floor-is r s x f floor p = (by_floor f floor, there)
  where
    k : Identifier
    k = p.run.id

    some : 0 < p.run.len
    some = omega (arith, p.inside)

    there : value_under k r.rope ≡ Some p.run
    there = ap (value_under k) p.is ∙ value-at k p.run p.front p.back (keys-apart r s p.front p.run 0 p.back p.is some).0

    at : x ≡ id_after k p.offset
    at = p.named ∙ behind-id p.offset (first_of p.run)

    low : is_gt (id_cmp k x) ≡ false
    low = subst (λ y. is_gt (id_cmp k y) ≡ false) (sym at) (le_from_at_most k (id_after k p.offset) (inr (refl, omega arith)))

    by_floor : (g : Option Identifier) → IsFloor r.rope x g → g ≡ Some k
    by_floor None none = absurd (no_value (sym there ∙ none k low))
      where
        no_value : Some p.run ≡ None → ⊥
        no_value e = cc
    by_floor (Some g) is =
        let m = between-cells (first_of p.run) p.offset g (subst (λ y. is_gt (id_cmp g y) ≡ false) at is.1) (is.2 k low (ap is_some there)) in
        let apart = keys-apart r s p.front p.run m.0 p.back p.is (omega (arith, m.1, p.inside)) in
        elim (cases_id k g) [
          | inl e ↦ ap Some (sym e)
          | inr n ↦
              let gone : value_under g r.rope ≡ None =
              ap (value_under g) p.is
              ∙ value-none g (p.front ++ (k, p.run) ∷ p.back)
              (keys-append g p.front ((k, p.run) ∷ p.back) (subst (λ y. OtherKeys y p.front) (sym m.2) apart.0)
              (ne-id_eq k g n, subst (λ y. OtherKeys y p.back) (sym m.2) apart.1)) in
              absurd (true≢false (sym is.0 ∙ ap is_some gone))
        ]
