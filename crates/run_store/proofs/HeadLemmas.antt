-- Cells of a run, by their places in it.
use Rattle.std.proofs.Common.{◌≡◌, ◌≢◌, ℕ, zero, suc, ◌+◌, ◌<◌, List, [], ◌∷◌, ◌++◌, ap, arith, get_or, length, refl, sym, take, drop, ◌∙◌}
use Rattle.std.specs.Prelude.{Bool, Some}
use Rattle.fugue_ids.specs.Identifiers.{Identifier}
use Rattle.fugue_ids.specs.Runs.{id_after}
use Rattle.run_store.specs.Heads.{head_after, cell_with_letter, next_head, typed_cells}
use Rattle.run_store.specs.declared.cell.Head.{Head}
use Rattle.fugue_ids.proofs.RunLemmas.{none_after}

-- one after the next one is two after
pub behind-next : (n : ℕ) (h : Head) → head_after n (next_head h) ≡ head_after (suc n) h
behind-next zero h =
    let d : suc h.key.depth ≡ h.key.depth + 1 = omega arith in
    λ i. record { id = id_after h.id 1; left = Some (sym (none_after h.id) i); right = h.right; hidden = h.hidden; key = record { depth = d i; forest = 0 } }
behind-next (suc n) h =
    let c : (h.id.counter + 1) + suc n ≡ h.id.counter + suc (suc n) = omega arith in
    let b : (h.id.counter + 1) + n ≡ h.id.counter + suc n = omega arith in
    let d : suc h.key.depth + suc n ≡ h.key.depth + suc (suc n) = omega arith in
    λ i. record {
      id = record { replica = h.id.replica; counter = c i };
      left = Some (record { replica = h.id.replica; counter = b i });
      right = h.right;
      hidden = h.hidden;
      key = record { depth = d i; forest = 0 };
    }

-- after one that stands after another
pub behind-behind : (m n : ℕ) (h : Head) → head_after n (head_after m h) ≡ head_after (m + n) h
behind-behind zero n h = let e : n ≡ 0 + n = omega arith in ap (λ k. head_after k h) e
behind-behind (suc m) n h =
    let e : suc (m + n) ≡ suc m + n = omega arith in
    ap (head_after n) (sym (behind-next m h)) ∙ behind-behind m n (next_head h) ∙ behind-next (m + n) h ∙ ap (λ k. head_after k h) e

pub behind-id : (n : ℕ) (h : Head) → (head_after n h).id ≡ id_after h.id n
behind-id zero h = sym (none_after h.id)
behind-id (suc n) h = refl

pub behind-hidden : (n : ℕ) (h : Head) → (head_after n h).hidden ≡ h.hidden
behind-hidden zero h = refl
behind-hidden (suc n) h = refl

pub behind-right : (n : ℕ) (h : Head) → (head_after n h).right ≡ h.right
behind-right zero h = refl
behind-right (suc n) h = refl

pub behind-depth : (n : ℕ) (h : Head) → (head_after n h).key.depth ≡ h.key.depth + n
behind-depth zero h = omega arith
behind-depth (suc n) h = refl

pub typed-append : (h : Head) (xs ys : List ℕ) → typed_cells h (xs ++ ys) ≡ typed_cells h xs ++ typed_cells (head_after (length xs) h) ys
typed-append h [] ys = refl
typed-append h (x ∷ xs) ys =
    ap (λ cs. cell_with_letter h x ∷ cs) (typed-append (next_head h) xs ys ∙ ap (λ k. typed_cells (next_head h) xs ++ typed_cells k ys) (behind-next (length xs) h))

pub length-typed : (h : Head) (xs : List ℕ) → length (typed_cells h xs) ≡ length xs
length-typed h [] = refl
length-typed h (x ∷ xs) = ap suc (length-typed (next_head h) xs)

-- the cell at a place of a run
pub typed-at : (h : Head) (o : ℕ) (xs : List ℕ) → o < length xs
    → typed_cells h xs ≡ typed_cells h (take o xs) ++ cell_with_letter (head_after o h) (get_or xs o 0) ∷ typed_cells (head_after (suc o) h) (drop (suc o) xs)
typed-at h o [] l = absurd (omega (arith, l))
typed-at h zero (x ∷ xs) l = ap (λ k. cell_with_letter h x ∷ typed_cells k xs) (behind-next 0 h)
typed-at h (suc o) (x ∷ xs) l =
    let r : o < length xs = omega (arith, l) in
    ap (λ cs. cell_with_letter h x ∷ cs)
    (typed-at (next_head h) o xs r
    ∙ (λ i. typed_cells (next_head h) (take o xs) ++ cell_with_letter (behind-next o h i) (get_or xs o 0) ∷ typed_cells (behind-next (suc o) h i) (drop (suc o) xs)))

pub behind-forest : (n : ℕ) (h : Head) → 0 < n → (head_after n h).key.forest ≡ 0
behind-forest zero h l = absurd (omega (arith, l))
behind-forest (suc n) h l = refl

-- no other cell of a run has the identifier of its first one
pub behind-other : (n : ℕ) (h : Head) → 0 < n → (head_after n h).id ≢ h.id
behind-other n h l e = omega (arith, l, ap (λ (x : Identifier). x.counter) (sym (behind-id n h) ∙ e))

-- the cells of a run have its mark
pub behind-marked : (n : ℕ) (h : Head) (m : Bool) → head_after n (record h { hidden = m }) ≡ record (head_after n h) { hidden = m }
behind-marked zero h m = refl
behind-marked (suc n) h m = refl
