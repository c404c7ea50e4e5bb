-- Texts that were typed in a row, after others.
use Rattle.std.proofs.Common.{◌≡◌, ℕ, zero, suc, ◌+◌, ◌-◌, ◌<◌, ◌≤◌, List, [], ◌∷◌, ◌++◌, append-nil, length, take, drop, refl, ap, sym, ◌∙◌, arith, inl, inr}
use Rattle.std.proofs.lemmas.Bool.{cases_lt}
use Rattle.std.proofs.lemmas.List.{drop_all, length-take-le, take-append-drop, take_all}
use Rattle.std.specs.Prelude.{Option, Some}
use Rattle.fugue_ids.specs.Identifiers.{Identifier}
use Rattle.fugue_ids.specs.declared.op.Op.TheVariants.{Text}
use Rattle.fugue_ids.specs.Runs.{id_after, in_a_row, left_after, next_id, run_from, start_after}
use Rattle.fugue_ids.specs.declared.run.RunStart.{RunStart}

pub none_after : (id : Identifier) → id_after id 0 ≡ id
none_after id = let e : id.counter + 0 ≡ id.counter = omega arith in λ i. record { replica = id.replica; counter = e i }

pub one_after : (id : Identifier) (n : ℕ) → id_after (next_id id) n ≡ id_after id (suc n)
one_after id n = let e : id.counter + 1 + n ≡ id.counter + suc n = omega arith in λ i. record { replica = id.replica; counter = e i }

pub left_is : (left : Option Identifier) (id : Identifier) (n : ℕ) → 1 ≤ n → left_after left id n ≡ Some (id_after id (n - 1))
left_is left id zero some = absurd (omega (arith, some))
left_is left id (suc n) some = let e : n ≡ suc n - 1 = omega arith in ap (λ (k : ℕ). Some (id_after id k)) e

pub left_one : (id : Identifier) (n : ℕ) → left_after (Some id) (next_id id) n ≡ Some (id_after id n)
left_one id zero = ap Some (sym (none_after id))
left_one id (suc n) = ap Some (one_after id n)

pub length-typed : (id s : Identifier) (l r : Option Identifier) (text : List ℕ) → length (in_a_row id s l r text) ≡ length text
length-typed id s l r [] = refl
length-typed id s l r (c ∷ text) = ap suc (length-typed (next_id id) s (Some id) r text)

-- Texts after others
pub typed-append : (id s : Identifier) (l r : Option Identifier) (text more : List ℕ)
    → in_a_row id s l r (text ++ more) ≡ in_a_row id s l r text ++ in_a_row (id_after id (length text)) s (left_after l id (length text)) r more
typed-append id s l r [] more = λ i. in_a_row (sym (none_after id) i) s l r more
typed-append id s l r (c ∷ text) more =
    ap (λ z. Text id s l r c ∷ z) (typed-append (next_id id) s (Some id) r text more
    ∙ λ i. in_a_row (next_id id) s (Some id) r text ++ in_a_row (one_after id (length text) i) s (left_one id (length text) i) r more)

-- a run parted at any place; after all Texts stands nothing, whatever it says
pub run_parted : (start next : RunStart) (text : List ℕ) (count : ℕ) → count ≤ length text → (count < length text → next ≡ start_after start count)
    → run_from start text ≡ run_from start (take count text) ++ run_from next (drop count text)
run_parted start next text count within is = elim (cases_lt count (length text)) [
  | inl less ↦
      let len : length (take count text) ≡ count = length-take-le count text within in
      ap (run_from start) (sym (take-append-drop count text))
      ∙ typed-append start.id start.section start.left start.right (take count text) (drop count text)
      ∙ (λ i. run_from start (take count text) ++ run_from (start_after start (len i)) (drop count text))
      ∙ (λ i. run_from start (take count text) ++ run_from (sym (is less) i) (drop count text))
  | inr all ↦
      let none : drop count text ≡ [] = drop_all count text all in
      sym ((λ i. run_from start (take_all count text all i) ++ run_from next (none i)) ∙ append-nil (run_from start text))
]
