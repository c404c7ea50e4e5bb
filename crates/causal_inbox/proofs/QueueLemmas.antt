-- What stands in a list after the places that are gone.
use Rattle.std.proofs.Common.{ap, arith, refl, sym, List, ℕ, suc, [], ◌∷◌, ◌++◌, ◌+◌, ◌-◌, ◌<◌, ◌≡◌, ◌∙◌, length, drop, take, add-one, set, zero}
use Rattle.std.specs.List.{remove}
use Rattle.std.proofs.lemmas.List.{drop-drop, drop_at, take-append-drop, length-take-le}
use Rattle.std.proofs.lemmas.List.Edits.{remove-append_right}

-- one that leaves there
pub removed_after : {X : Type 0} (xs : List X) (g p : ℕ) → g + p < length xs → drop g (remove xs (g + p)) ≡ remove (drop g xs) p
removed_after xs g p within =
    let front : length (take g xs) ≡ g = length-take-le g xs (omega (arith, within)) in
    ap (λ l. drop g (remove l (g + p))) (sym (take-append-drop g xs))
    ∙ ap (drop g) (remove-append_right (take g xs) (drop g xs) g (g + p) front (omega arith))
    ∙ drop_at (take g xs) (remove (drop g xs) (g + p - g)) g front
    ∙ ap (remove (drop g xs)) {x = g + p - g} {y = p} (omega arith)

-- the first ones move up
pub moved_after : {X : Type 0} (xs mid : List X) (g p : ℕ) (f : X) → g + p < length xs → mid ≡ f ∷ take p (drop g xs)
    → drop (g + 1) (take g xs ++ (mid ++ drop (p + 1) (drop g xs))) ≡ remove (drop g xs) p
moved_after xs mid g p f within is =
    let rest : List _ = drop (p + 1) (drop g xs) in
    let front : length (take g xs) ≡ g = length-take-le g xs (omega (arith, within)) in
    sym (drop-drop 1 g (take g xs ++ (mid ++ rest)))
    ∙ ap (drop 1) (drop_at (take g xs) (mid ++ rest) g front ∙ ap (λ l. l ++ rest) is)
    ∙ ap (λ n. take p (drop g xs) ++ drop n (drop g xs)) (add-one p)

-- the last item of a list, which stands after p others
last_alone : {X : Type 0} (xs : List X) (p : ℕ) → length xs ≡ p + 1 → (x : X) × (drop p xs ≡ x ∷ [])
last_alone [] p long = absurd (omega (arith, long))
last_alone (x ∷ []) zero long = (x, refl)
last_alone (x ∷ y ∷ xs) zero long = absurd (omega (arith, long))
last_alone (x ∷ xs) (suc p) long = last_alone xs p (omega (arith, long))

-- the last item comes to the front and is replaced
pub replaced_front : {X : Type 0} (xs turned : List X) (p : ℕ) (f : X) → length xs ≡ p + 1 → turned ≡ drop (length xs - 1) xs ++ take (length xs - 1) xs
    → set turned 0 f ≡ f ∷ take p xs
replaced_front xs turned p f long is =
    let last = last_alone xs p long in
    ap (λ l. set l 0 f) (is ∙ ap (λ n. drop n xs ++ take n xs) {x = length xs - 1} {y = p} (omega (arith, long)) ∙ ap (λ l. l ++ take p xs) last.1)
