-- Texts that were typed in a row.
use Rattle.origin_model.proofs.Words.{Identifier, List, Op, Option, Some, Text, [], ap, arith, length, map, refl, sym, ℕ, ◌++◌, ◌<◌, ◌∙◌, ◌∷◌, ◌≡◌, ◌≤◌}
use Rattle.origin_model.specs.frames.Frames.{Run, run_ops}
use Rattle.origin_model.specs.frames.Framings.{next_text, run_more, scalar_in}
use Rattle.fugue_ids.specs.Runs.{id_after, in_a_row, left_after, next_id}
use Rattle.fugue_ids.proofs.RunLemmas.{left_one, length-typed, none_after, one_after, typed-append}

pub length-run : (run : Run) → length (run_ops run) ≡ length run.text
length-run run = length-typed run.id run.section run.left run.right run.text

pub typed_scalars : (id s : Identifier) (l r : Option Identifier) (text : List ℕ) → map scalar_in (in_a_row id s l r text) ≡ text
typed_scalars id s l r [] = refl
typed_scalars id s l r (c ∷ text) = ap (λ z. c ∷ z) (typed_scalars (next_id id) s (Some id) r text)

-- one Text more
pub typed_more : (run : Run) (ch : ℕ) → run_ops (run_more run ch) ≡ run_ops run ++ next_text run ch ∷ []
typed_more run ch = typed-append run.id run.section run.left run.right run.text (ch ∷ [])

-- the operation after Texts that a longer text has there
next_is : (id s : Identifier) (l r : Option Identifier) (t u : List ℕ) (op : Op) (rest behind : List Op) → in_a_row id s l r t ++ op ∷ rest ≡ in_a_row id s l r u ++ behind
    → length t < length u
    → (ch : ℕ) × (op ≡ Text (id_after id (length t)) s (left_after l id (length t)) r ch)
next_is id s l r [] [] op rest behind same less = absurd (omega (arith, less))
next_is id s l r (d ∷ t) [] op rest behind same less = absurd (omega (arith, less))
next_is id s l r [] (c ∷ u) op rest behind same less =
    let first : op ≡ Text id s l r c = cc same in
    (c, first ∙ λ i. Text (sym (none_after id) i) s l r c)
next_is id s l r (d ∷ t) (c ∷ u) op rest behind same less =
    let tails : in_a_row (next_id id) s (Some id) r t ++ op ∷ rest ≡ in_a_row (next_id id) s (Some id) r u ++ behind = cc same in
    let found = next_is (next_id id) s (Some id) r t u op rest behind tails (omega (arith, less)) in
    (found.0, found.1 ∙ λ i. Text (one_after id (length t) i) s (left_one id (length t) i) r found.0)

-- the same first Text
record SameStart (v w : Run) : Type 0 where
  id : v.id ≡ w.id
  section : v.section ≡ w.section
  left : v.left ≡ w.left
  right : v.right ≡ w.right

same_start : (v w : Run) (a b : List Op) → 1 ≤ length v.text → 1 ≤ length w.text → run_ops v ++ a ≡ run_ops w ++ b → SameStart v w
same_start v w a b p q same = go v.id v.section v.left v.right v.text w.id w.section w.left w.right w.text p q same
  where
    go : (i s : Identifier) (l r : Option Identifier) (t : List ℕ) (j z : Identifier) (m q : Option Identifier) (u : List ℕ) → 1 ≤ length t → 1 ≤ length u
        → in_a_row i s l r t ++ a ≡ in_a_row j z m q u ++ b
        → SameStart (record { id = i; section = s; left = l; right = r; text = t }) (record { id = j; section = z; left = m; right = q; text = u })
    go i s l r [] j z m q u p0 p1 same = absurd (omega (arith, p0))
    go i s l r (c ∷ t) j z m q [] p0 p1 same = absurd (omega (arith, p1))
    go i s l r (c ∷ t) j z m q (d ∷ u) p0 p1 same = record { id = cc same; section = cc same; left = cc same; right = cc same }

-- one run has these Texts
pub run_by_ops : (v w : Run) → 1 ≤ length v.text → 1 ≤ length w.text → run_ops v ≡ run_ops w → v ≡ w
run_by_ops v w p q same =
    let start = same_start v w [] [] p q (ap (λ (l : List Op). l ++ []) same) in
    let text : v.text ≡ w.text = sym (typed_scalars v.id v.section v.left v.right v.text) ∙ ap (map scalar_in) same ∙ typed_scalars w.id w.section w.left w.right w.text in
    λ i. record { id = start.id i; section = start.section i; left = start.left i; right = start.right i; text = text i }

-- what goes on with a run, where another run has its Texts and more
pub goes_on : (v w : Run) (op : Op) (rest behind : List Op) → 1 ≤ length v.text → length v.text < length w.text → run_ops v ++ op ∷ rest ≡ run_ops w ++ behind
    → op ≡ next_text v (scalar_in op)
goes_on v w op rest behind some less same =
    let start = same_start v w (op ∷ rest) behind some (omega (arith, less)) same in
    let here : run_ops v ++ op ∷ rest ≡ in_a_row v.id v.section v.left v.right w.text ++ behind
    = same ∙ λ i. in_a_row (sym start.id i) (sym start.section i) (sym start.left i) (sym start.right i) w.text ++ behind in
    let found = next_is v.id v.section v.left v.right v.text w.text op rest behind here less in
    let is : op ≡ next_text v found.0 = found.1 in
    is ∙ ap (next_text v) (sym (ap scalar_in is))
