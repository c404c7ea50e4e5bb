-- A cell among others that have other identifiers.
use Rattle.std.proofs.Common.{◌≡◌, ◌≢◌, suc, Bool, true, false, ◌&&◌, ◌||◌, List, [], ◌∷◌, ◌++◌, ap, inl, inr, length, refl, sym, subst, ◌∙◌}
use Rattle.std.specs.Prelude.{Option, None, Some, if◌then◌else◌, map, option_map, slice_get}
use Rattle.std.specs.List.{All, AllPairs, Contains}
use Rattle.std.proofs.lemmas.Bool.{cases_Bool, true≢false}
use Rattle.std.proofs.lemmas.List.Elements.{All-head, All-tail}
use Rattle.fugue_ids.specs.Identifiers.{Identifier, id_eq}
use Rattle.fugue_ids.specs.Keys.{first_id, front_of, rest_of}
use Rattle.fugue_ids.specs.Listed.{index_of}
use Rattle.fugue_ids.proofs.IdentifierLemmas.{cases_id, eq-id_eq, id_eq-true, index_of-here, index_of-there, ne-id_eq}
use Rattle.fugue_ids.proofs.ListLemmas.{all_pairs_head, all_pairs_tail, contains_here, contains_there}
use Rattle.origin_model.specs.edits.Landing.{following, first_after}
use Rattle.run_store.specs.Cells.{cell_of, cell_hiding, cell_ids, is_hidden_cell, keyed_cells}
use Rattle.run_store.specs.Growth.{inserted_at}
use Rattle.run_store.specs.Heads.{run_head_of as said_of}
use Rattle.run_store.specs.declared.cell.Cell.{Cell}
use Rattle.run_store.specs.declared.cell.Head.{Head}

-- none of the cells is that of x
abbrev pub Others : Identifier → List Cell → Type 0
Others x [] = Unit {0}
Others x (c ∷ cs) = (id_eq c.id x ≡ false) × Others x cs

pub others-append : (x : Identifier) (front back : List Cell) → Others x front → Others x back → Others x (front ++ back)
others-append x [] back p q = q
others-append x (a ∷ front) back p q = (p.0, others-append x front back p.1 q)

-- one that is not held
pub others-absent : (x : Identifier) (cs : List Cell) → (Contains (cell_ids cs) x → ⊥) → Others x cs
others-absent x [] n = tt
others-absent x (c ∷ cs) n = (
  ne-id_eq c.id x (λ e. n (subst (λ y. Contains (cell_ids (c ∷ cs)) y) e (contains_here c.id (cell_ids cs)))),
  others-absent x cs (λ h. n (contains_there c.id (cell_ids cs) x h)),
)

others-all : (x : Identifier) (cs : List Cell) → All (λ y. x ≢ y) (cell_ids cs) → Others x cs
others-all x [] a = tt
others-all x (c ∷ cs) a = (ne-id_eq c.id x (λ e. All-head (λ y. x ≢ y) c.id (cell_ids cs) a (sym e)), others-all x cs (All-tail (λ y. x ≢ y) c.id (cell_ids cs) a))

-- the cells around one of distinct ones
pub others-front : (front : List Cell) (c : Cell) (back : List Cell) → AllPairs (λ x y. x ≢ y) (cell_ids (front ++ c ∷ back)) → Others c.id front
others-front [] c back d = tt
others-front (a ∷ front) c back d = (
  ne-id_eq a.id c.id (apart front (all_pairs_head (λ x y. x ≢ y) a.id (cell_ids (front ++ c ∷ back)) d)),
  others-front front c back (all_pairs_tail (λ x y. x ≢ y) a.id (cell_ids (front ++ c ∷ back)) d),
)
  where
    apart : (xs : List Cell) → All (λ y. a.id ≢ y) (cell_ids (xs ++ c ∷ back)) → a.id ≢ c.id
    apart [] all = All-head (λ y. a.id ≢ y) c.id (cell_ids back) all
    apart (x ∷ xs) all = apart xs (All-tail (λ y. a.id ≢ y) x.id (cell_ids (xs ++ c ∷ back)) all)

pub others-back : (front : List Cell) (c : Cell) (back : List Cell) → AllPairs (λ x y. x ≢ y) (cell_ids (front ++ c ∷ back)) → Others c.id back
others-back [] c back d = others-all c.id back (all_pairs_head (λ x y. x ≢ y) c.id (cell_ids back) d)
others-back (a ∷ front) c back d = others-back front c back (all_pairs_tail (λ x y. x ≢ y) a.id (cell_ids (front ++ c ∷ back)) d)

-- the cell itself
pub cell-at : (x : Identifier) (front : List Cell) (c : Cell) (back : List Cell) → Others x front → c.id ≡ x → cell_of (front ++ c ∷ back) x ≡ Some c
cell-at x [] c back p e = ap (λ b. if b then Some c else cell_of back x) (eq-id_eq c.id x e)
cell-at x (a ∷ front) c back p e = ap (λ b. if b then Some a else cell_of (front ++ c ∷ back) x) p.0 ∙ cell-at x front c back p.1 e

pub cell-none : (x : Identifier) (cs : List Cell) → Others x cs → cell_of cs x ≡ None
cell-none x [] p = refl
cell-none x (c ∷ cs) p = ap (λ b. if b then Some c else cell_of cs x) p.0 ∙ cell-none x cs p.1

-- its place
pub index-at : (x : Identifier) (front : List Cell) (c : Cell) (back : List Cell) → Others x front → c.id ≡ x → index_of (cell_ids (front ++ c ∷ back)) x ≡ length front
index-at x [] c back p e = index_of-here c.id (cell_ids back) x (sym e)
index-at x (a ∷ front) c back p e =
    index_of-there a.id (cell_ids (front ++ c ∷ back)) x (λ s. true≢false (sym (eq-id_eq a.id x (sym s)) ∙ p.0)) ∙ ap suc (index-at x front c back p.1 e)

-- what stands after it, and before it
pub rest-at : (x : Identifier) (front : List Cell) (c : Cell) (back : List Cell) → Others x front → c.id ≡ x → rest_of (Some x) (keyed_cells (front ++ c ∷ back)) ≡ keyed_cells back
rest-at x [] c back p e = ap (λ b. if b then keyed_cells back else rest_of (Some x) (keyed_cells back)) (eq-id_eq c.id x e)
rest-at x (a ∷ front) c back p e =
    ap (λ b. if b then keyed_cells (front ++ c ∷ back) else rest_of (Some x) (keyed_cells (front ++ c ∷ back))) p.0 ∙ rest-at x front c back p.1 e

pub rest-none : (x : Identifier) (cs : List Cell) → Others x cs → rest_of (Some x) (keyed_cells cs) ≡ []
rest-none x [] p = refl
rest-none x (c ∷ cs) p = ap (λ b. if b then keyed_cells cs else rest_of (Some x) (keyed_cells cs)) p.0 ∙ rest-none x cs p.1

pub front-at : (x : Identifier) (front : List Cell) (c : Cell) (back : List Cell) → Others x front → c.id ≡ x
    → front_of (Some x) (keyed_cells (front ++ c ∷ back)) ≡ keyed_cells front
front-at x [] c back p e = ap (λ b. if b then [] else record { id = c.id; key = c.key } ∷ front_of (Some x) (keyed_cells back)) (eq-id_eq c.id x e)
front-at x (a ∷ front) c back p e =
    ap (λ b. if b then [] else record { id = a.id; key = a.key } ∷ front_of (Some x) (keyed_cells (front ++ c ∷ back))) p.0
    ∙ ap (λ es. record { id = a.id; key = a.key } ∷ es) (front-at x front c back p.1 e)

-- what follows an origin is the first after it
pub follows : (cs : List Cell) (o : Option Identifier) → first_id (rest_of o (keyed_cells cs)) ≡ following (cell_ids cs) o
follows [] None = refl
follows (c ∷ cs) None = refl
follows [] (Some x) = refl
follows (c ∷ cs) (Some x) = elim (cases_Bool (id_eq c.id x)) [
  | inl t ↦ ap (λ b. first_id (if b then keyed_cells cs else rest_of (Some x) (keyed_cells cs))) t ∙ first cs
      ∙ ap (λ b. if b then first_after (cell_ids cs) else following (cell_ids cs) (Some x)) (sym t)
  | inr f ↦ ap (λ b. first_id (if b then keyed_cells cs else rest_of (Some x) (keyed_cells cs))) f ∙ follows cs (Some x)
      ∙ ap (λ b. if b then first_after (cell_ids cs) else following (cell_ids cs) (Some x)) (sym f)
]
  where
    first : (xs : List Cell) → first_id (keyed_cells xs) ≡ first_after (cell_ids xs)
    first [] = refl
    first (x ∷ xs) = refl

-- whether it is hidden
pub hidden-none : (x : Identifier) (cs : List Cell) → Others x cs → is_hidden_cell cs x ≡ false
hidden-none x [] p = refl
hidden-none x (c ∷ cs) p = ap (λ b. (b && c.hidden) || is_hidden_cell cs x) p.0 ∙ hidden-none x cs p.1

pub hidden-at : (x : Identifier) (front : List Cell) (c : Cell) (back : List Cell) → Others x front → Others x back → c.id ≡ x → is_hidden_cell (front ++ c ∷ back) x ≡ c.hidden
hidden-at x [] c back p q e = ap (λ b. (b && c.hidden) || is_hidden_cell back x) (eq-id_eq c.id x e) ∙ ap (λ b. c.hidden || b) (hidden-none x back q) ∙ last c.hidden
  where
    last : (b : Bool) → b || false ≡ b
    last true = refl
    last false = refl
hidden-at x (a ∷ front) c back p q e = ap (λ b. (b && a.hidden) || is_hidden_cell (front ++ c ∷ back) x) p.0 ∙ hidden-at x front c back p.1 q e

-- the list once it is hidden
hiding-own : (x : Identifier) (c : Cell) → c.id ≡ x → cell_hiding x c ≡ record c { hidden = true }
hiding-own x c e = ap (λ b. if b then record c { hidden = true } else c) (eq-id_eq c.id x e)

pub hiding-none : (x : Identifier) (cs : List Cell) → Others x cs → map (cell_hiding x) cs ≡ cs
hiding-none x [] p = refl
hiding-none x (c ∷ cs) p = λ i. (if p.0 i then record c { hidden = true } else c) ∷ hiding-none x cs p.1 i

pub hiding-at : (x : Identifier) (front : List Cell) (c : Cell) (back : List Cell) → Others x front → Others x back → c.id ≡ x
    → map (cell_hiding x) (front ++ c ∷ back) ≡ front ++ record c { hidden = true } ∷ back
hiding-at x [] c back p q e = λ i. hiding-own x c e i ∷ hiding-none x back q i
hiding-at x (a ∷ front) c back p q e = λ i. (if p.0 i then record a { hidden = true } else a) ∷ hiding-at x front c back p.1 q e i

-- others directly after a part
pub inserted-at : (front new back : List Cell) → inserted_at (length front) new (front ++ back) ≡ front ++ (new ++ back)
inserted-at [] new back = refl
inserted-at (a ∷ front) new back = ap (λ cs. a ∷ cs) (inserted-at front new back)

-- the cell of x stands at its index
pub cell-get : (x : Identifier) (cs : List Cell) → cell_of cs x ≡ slice_get cs (index_of (cell_ids cs) x)
cell-get x [] = refl
cell-get x (c ∷ cs) = elim (cases_id x c.id) [
  | inl e ↦ ap (λ b. if b then Some c else cell_of cs x) (eq-id_eq c.id x (sym e)) ∙ ap (slice_get (c ∷ cs)) (sym (index_of-here c.id (cell_ids cs) x e))
  | inr n ↦
      ap (λ b. if b then Some c else cell_of cs x) (ne-id_eq c.id x (λ e. n (sym e))) ∙ cell-get x cs
      ∙ ap (slice_get (c ∷ cs)) (sym (index_of-there c.id (cell_ids cs) x n))
]

-- the mark of a cell, by the cell of its identifier
pub hidden-by : (x : Identifier) (cs : List Cell) (c : Cell) → AllPairs (λ x y. x ≢ y) (cell_ids cs) → cell_of cs x ≡ Some c → is_hidden_cell cs x ≡ c.hidden
hidden-by x [] c d e = cc
hidden-by x (a ∷ cs) c d e = elim (cases_Bool (id_eq a.id x)) [
  | inl t ↦
      let f : Some a ≡ Some c = ap (λ b. if b then Some a else cell_of cs x) (sym t) ∙ e in
      let same : a ≡ c = cc in
      let o : Others x cs = subst (λ y. Others y cs) (id_eq-true a.id x t) (others-all a.id cs (all_pairs_head (λ x y. x ≢ y) a.id (cell_ids cs) d)) in
      ap (λ b. (b && a.hidden) || is_hidden_cell cs x) t ∙ ap (λ b. a.hidden || b) (hidden-none x cs o) ∙ last a.hidden ∙ ap (λ (z : Cell). z.hidden) same
  | inr f ↦
      ap (λ b. (b && a.hidden) || is_hidden_cell cs x) f
      ∙ hidden-by x cs c (all_pairs_tail (λ x y. x ≢ y) a.id (cell_ids cs) d) (ap (λ b. if b then Some a else cell_of cs x) (sym f) ∙ e)
]
  where
    last : (b : Bool) → b || false ≡ b
    last true = refl
    last false = refl

pub hidden-missing : (x : Identifier) (cs : List Cell) → cell_of cs x ≡ None → is_hidden_cell cs x ≡ false
hidden-missing x [] e = refl
hidden-missing x (a ∷ cs) e = elim (cases_Bool (id_eq a.id x)) [
  | inl t ↦ absurd (some-none a (ap (λ b. if b then Some a else cell_of cs x) (sym t) ∙ e))
  | inr f ↦ ap (λ b. (b && a.hidden) || is_hidden_cell cs x) f ∙ hidden-missing x cs (ap (λ b. if b then Some a else cell_of cs x) (sym f) ∙ e)
]
  where
    some-none : (c : Cell) → Some c ≡ None → ⊥
    some-none c e = cc

-- a cell by what it says of itself
pub from-head : (o : Option Cell) (h : Head) → Some h ≡ option_map said_of o → (c : Cell) × (o ≡ Some c) × (said_of c ≡ h)
from-head None h e = cc
from-head (Some c) h e = let same : said_of c ≡ h = cc in (c, refl, same)

pub from-no-head : (o : Option Cell) → None ≡ option_map said_of o → o ≡ None
from-no-head None e = refl
from-no-head (Some c) e = cc
