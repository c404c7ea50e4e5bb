-- The text of runs, part by part.
use Rattle.std.proofs.Common.{◌≡◌, ℕ, zero, suc, ◌<◌, ◌≤◌, true, false, not, List, [], ◌∷◌, ◌++◌, ap, arith, drop, length, refl, sym, take, ◌∙◌}
use Rattle.std.specs.Prelude.{None, Ok, Some, flat_map, if◌then◌else◌, map, option_map, slice_get}
use Rattle.std.specs.Str.{encode_utf8_all}
use Rattle.std.proofs.lemmas.List.{map-append}
use lib.Utf8.{encode}
use Rattle.fugue_ids.proofs.TextLemmas.{encode-append}
use Rattle.fugue_ids.specs.Gathers.{GathersText}
use Rattle.fugue_ids.specs.Outs.{OutView}
use Rattle.run_store.specs.Cells.{cell_text, cells_shown}
use Rattle.run_store.specs.Heads.{cell_with_letter, next_head, typed_cells}
use Rattle.run_store.specs.Runs.{AreRuns, RunsView, all_cells, cells_of}
use Rattle.run_store.specs.declared.cell.Cell.{Cell}
use Rattle.run_store.specs.declared.cell.Head.{Head}
use Rattle.run_store.specs.declared.run.Run.{Run}
use Rattle.run_store.proofs.PlaceLemmas.{drop-first, run-named}
use Rattle.run_store.proofs.RunsLemmas.{Item}
use Rattle.run_store.proofs.VisibleLemmas.{visible-append}

-- the letters, encoded one by one
pub encoded-parts : (xs : List ℕ) → flat_map encode xs ≡ encode_utf8_all xs
encoded-parts [] = refl
encoded-parts (x ∷ xs) = ap (λ ys. encode x ++ ys) (encoded-parts xs)

text-append : (xs ys : List Cell) → cell_text (xs ++ ys) ≡ cell_text xs ++ cell_text ys
text-append xs ys = ap (map (λ (c : Cell). c.ch)) (visible-append xs ys) ∙ map-append (λ (c : Cell). c.ch) (cells_shown xs) (cells_shown ys)

-- what a run adds to the text
abbrev pub run_text : List (List ℕ) → Item → List ℕ
run_text L x = encode_utf8_all (cell_text (cells_of L x.1))

pub text-runs : (L : List (List ℕ)) (xs : List Item) → flat_map (run_text L) xs ≡ encode_utf8_all (cell_text (all_cells L xs))
text-runs L [] = refl
text-runs L (x ∷ xs) =
    ap (λ ys. run_text L x ++ ys) (text-runs L xs)
    ∙ sym (encode-append (cell_text (cells_of L x.1)) (cell_text (all_cells L xs)))
    ∙ ap encode_utf8_all (sym (text-append (cells_of L x.1) (all_cells L xs)))

-- a run that is shown has its letters as its text, and one that is hidden none
pub text-shown : (h : Head) (ls : List ℕ) → h.hidden ≡ false → cell_text (typed_cells h ls) ≡ ls
text-shown h [] e = refl
text-shown h (l ∷ ls) e =
    ap (λ b. map (λ (c : Cell). c.ch) (if not b then cell_with_letter h l ∷ cells_shown (typed_cells (next_head h) ls) else cells_shown (typed_cells (next_head h) ls))) e
    ∙ ap (λ zs. l ∷ zs) (text-shown (next_head h) ls e)

pub text-hidden : (h : Head) (ls : List ℕ) → h.hidden ≡ true → cell_text (typed_cells h ls) ≡ []
text-hidden h [] e = refl
text-hidden h (l ∷ ls) e =
    ap (λ b. map (λ (c : Cell). c.ch) (if not b then cell_with_letter h l ∷ cells_shown (typed_cells (next_head h) ls) else cells_shown (typed_cells (next_head h) ls))) e
    ∙ text-hidden (next_head h) ls e

-- the first runs were gathered, and a walk has the others
pub record IsUnderWay (L : List (List ℕ)) (rope : List Item) (u v : OutView) (p q : List ℕ) (walk : List Item) : Type 0 where
  pub place : ℕ
  pub left : walk ≡ drop place rope
  pub gathered : GathersText {T = Unit {0}} u v p q (Ok tt) (flat_map (run_text L) (take place rope))

-- what comes first of a walk that has the runs from a place on
pub next-run : (r : RunsView) → AreRuns r → (walk : List Item) (i : ℕ) → walk ≡ drop i r.rope → (run : Run) → Some run ≡ option_map (λ (x : Item). x.1) (slice_get walk 0)
    → slice_get r.rope i ≡ Some (run.id, run)
next-run r s walk i left run first =
    run-named r s i run (sym (first ∙ ap (λ ys. option_map (λ (x : Item). x.1) (slice_get ys 0)) left ∙ ap (option_map (λ (x : Item). x.1)) (drop-first r.rope i)))

pub none-left : (xs walk : List Item) (i : ℕ) → walk ≡ drop i xs → None ≡ option_map (λ (x : Item). x.1) (slice_get walk 0) → length xs ≤ i
none-left xs walk i left none = past xs i (none ∙ ap (λ ys. option_map (λ (x : Item). x.1) (slice_get ys 0)) left) where
  past : (xs : List Item) (i : ℕ) → None ≡ option_map (λ (x : Item). x.1) (slice_get (drop i xs) 0) → length xs ≤ i
  past [] i e = omega arith
  past (x ∷ xs) zero e = absurd (cc)
  past (x ∷ xs) (suc i) e = let h = past xs i e in omega (arith, h)

pub fewer-left : (walk : List Item) (run : Run) → Some run ≡ option_map (λ (x : Item). x.1) (slice_get walk 0) → length (drop 1 walk) < length walk
fewer-left [] run e = absurd (cc)
fewer-left (x ∷ walk) run e = omega arith
