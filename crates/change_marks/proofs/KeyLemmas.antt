-- Stretches of a list, by the keys of its elements.
use Rattle.std.proofs.Common.{List, [], ap, append_assoc, false, inl, inr, refl, sym, true, ℕ, ◌++◌, ◌∙◌, ◌∷◌, ◌≡◌}
use Rattle.std.specs.Prelude.{Bool, None, Option, Some, cond, filter, flat_map, if◌then◌else◌}
use Rattle.std.specs.List.{All}
use Rattle.std.proofs.lemmas.Bool.{cases_Bool}
use Rattle.std.proofs.lemmas.List.{append-nil}
use Rattle.std.proofs.lemmas.List.Elements.{All-cons, All-nil, All-tail}
use Rattle.fugue_ids.specs.Identifiers.{Identifier}
use Rattle.fugue_ids.specs.declared.op.Op.{Op}
use Rattle.change_marks.specs.Laws.{letters_where}
use Rattle.change_marks.specs.Marks.{letter_of, run_letters, mark_eq}
use Rattle.change_marks.specs.Stretches.{Stretch, joined_stretch, stretches}
use Rattle.change_marks.specs.declared.mark.Mark.{Mark}
use Rattle.change_marks.proofs.RunLemmas.{mark_eq-true}

-- the element has a key that passes the test
abbrev pub passes : (Mark → Bool) → Option Mark → Bool
passes test None = false
passes test (Some m) = test m

module _ (test : Mark → Bool) (h : List Op) where
  abbrev kept : Stretch Mark → Bool
  kept run = test run.key

  -- what a run adds, by whether it passes
  first_where : (run : Stretch Mark) (ss : List (Stretch Mark)) → letters_where test h (run ∷ ss) ≡ (if test run.key then run_letters h run else []) ++ letters_where test h ss
  first_where run ss =
      elim (test run.key) as (λ (b : Bool). flat_map (run_letters h) (cond b (run ∷ filter kept ss) (filter kept ss)) ≡ (if b then run_letters h run else [])
      ++ letters_where test h ss) [ true ↦ refl | false ↦ refl ]

  joined_where : (k : Mark) (x : Identifier) (ss : List (Stretch Mark))
      → letters_where test h (joined_stretch mark_eq k x ss) ≡ (if test k then letter_of h x else []) ++ letters_where test h ss
  joined_where k x [] =
      first_where (record { key = k; elements = x ∷ [] }) [] ∙ ap (λ l. (if test k then l else []) ++ []) (append-nil (letter_of h x))
  joined_where k x (s ∷ ss) =
      let after : Bool → List (Stretch Mark) = λ b. if b then record { key = k; elements = x ∷ s.elements } ∷ ss else record { key = k; elements = x ∷ [] } ∷ s ∷ ss in
      elim (cases_Bool (mark_eq k s.key)) [
        | inl e ↦
            ap (λ b. letters_where test h (after b)) e
            ∙ first_where (record { key = k; elements = x ∷ s.elements }) ss
            ∙ both (test k) (letter_of h x) (run_letters h s) (letters_where test h ss)
            ∙ ap (λ z. (if test k then letter_of h x else []) ++ ((if test z then run_letters h s else []) ++ letters_where test h ss)) (mark_eq-true k s.key e)
            ∙ ap (λ l. (if test k then letter_of h x else []) ++ l) (sym (first_where s ss))
        | inr e ↦
            ap (λ b. letters_where test h (after b)) e
            ∙ first_where (record { key = k; elements = x ∷ [] }) (s ∷ ss)
            ∙ ap (λ l. (if test k then l else []) ++ letters_where test h (s ∷ ss)) (append-nil (letter_of h x))
      ]
    where
      both : (b : Bool) (one more rest : List ℕ) → (if b then one ++ more else []) ++ rest ≡ (if b then one else []) ++ ((if b then more else []) ++ rest)
      both true one more rest = append_assoc one more rest
      both false one more rest = refl

  -- the letters of the runs that pass are those of the elements that do
  pub letters_by_elements : (key : Identifier → Option Mark) (xs : List Identifier)
      → letters_where test h (stretches mark_eq key xs) ≡ flat_map (letter_of h) (filter (λ x. passes test (key x)) xs)
  letters_by_elements key [] = refl
  letters_by_elements key (x ∷ xs) =
      let rest : List Identifier = filter (λ y. passes test (key y)) xs in
      elim (key x) as (λ (o : Option Mark). letters_where test h
      (elim o [ None ↦ stretches mark_eq key xs | Some k ↦ joined_stretch mark_eq k x (stretches mark_eq key xs) ]) ≡ flat_map (letter_of h)
      (cond (passes test o) (x ∷ rest) rest)) [
        | None ↦ letters_by_elements key xs
        | Some k ↦
            joined_where k x (stretches mark_eq key xs)
            ∙ ap (λ l. (if test k then letter_of h x else []) ++ l) (letters_by_elements key xs)
            ∙ elim (test k) as (λ (b : Bool). (if b then letter_of h x else []) ++ flat_map (letter_of h) rest ≡ flat_map (letter_of h) (cond b (x ∷ rest) rest))
            [ true ↦ refl | false ↦ refl ]
      ]

-- what holds of each key holds of each stretch
joined_all : (P : Mark → Type 0) (k : Mark) (x : Identifier) (ss : List (Stretch Mark)) → P k → All (λ (run : Stretch Mark). P run.key) ss
    → All (λ (run : Stretch Mark). P run.key) (joined_stretch mark_eq k x ss)
joined_all P k x [] p each = All-cons (λ (run : Stretch Mark). P run.key) (record { key = k; elements = x ∷ [] }) [] p (All-nil (λ (run : Stretch Mark). P run.key))
joined_all P k x (s ∷ ss) p each =
    let Q : Stretch Mark → Type 0 = λ run. P run.key in
    let after : Bool → List (Stretch Mark) = λ b. if b then record { key = k; elements = x ∷ s.elements } ∷ ss else record { key = k; elements = x ∷ [] } ∷ s ∷ ss in
    elim (mark_eq k s.key) as (λ (b : Bool). All Q (after b)) [
      | true ↦ All-cons Q (record { key = k; elements = x ∷ s.elements }) ss p (All-tail Q s ss each)
      | false ↦ All-cons Q (record { key = k; elements = x ∷ [] }) (s ∷ ss) p each
    ]

pub keys_all : (P : Mark → Type 0) (key : Identifier → Option Mark) → ((x : Identifier) (k : Mark) → key x ≡ Some k → P k) → (xs : List Identifier)
    → All (λ (run : Stretch Mark). P run.key) (stretches mark_eq key xs)
keys_all P key each [] = All-nil (λ (run : Stretch Mark). P run.key)
keys_all P key each (x ∷ xs) =
    elim (key x) as (λ (o : Option Mark). ((k : Mark) → o ≡ Some k → P k)
    → All (λ (run : Stretch Mark). P run.key) (elim o [ None ↦ stretches mark_eq key xs | Some k ↦ joined_stretch mark_eq k x (stretches mark_eq key xs) ])) [
      | None ↦ λ p. keys_all P key each xs
      | Some k ↦ λ p. joined_all P k x (stretches mark_eq key xs) (p k refl) (keys_all P key each xs)
    ] (each x)
